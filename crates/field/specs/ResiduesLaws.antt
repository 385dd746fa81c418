-- The integers modulo 257 keep the laws.
use Rattle.std.specs.Prelude.{◌≡◌, ℕ, suc, ◌+◌, ◌-◌, ◌*◌, ◌/◌, ◌%◌, ◌^◌, nat_eq}
use Rattle.std.proofs.Common.{sym, ap, subst, ◌∙◌, mod-lt, mod-eq_of_lt, div-add-mod', add-mul, mul_comm, mul_assoc, mul-add, add_comm, add_assoc, arith, eqb→eq, lit≤, lit<}
use Rattle.std.proofs.Math.Nat.{mod-add-mod, add-mod-mod, add-mul-mod_self_right}
use Rattle.field.specs.Codes.{OnCodes}
use Rattle.field.specs.OfResidues.{residues}
use Rattle.field.specs.Upto.{upto-at}

pub mod-mul_l : (a b n : ℕ) → (a % n * b) % n ≡ (a * b) % n
mod-mul_l a b n =
    let e : a * b ≡ a % n * b + a / n * b * n = ap (λ (x : ℕ). x * b) (sym (div-add-mod' a n)) ∙ add-mul (a / n * n) (a % n) b ∙ add_comm _ _ ∙ ap (λ (x : ℕ). a % n * b + x) (mul_assoc (a / n) n b ∙ ap (λ (x : ℕ). a / n * x) (mul_comm n b) ∙ sym (mul_assoc (a / n) b n)) in
    sym (ap (λ (x : ℕ). x % n) e ∙ add-mul-mod_self_right (a % n * b) (a / n * b) n)

pub mod-mul-r : (a b n : ℕ) → (a * (b % n)) % n ≡ (a * b) % n
mod-mul-r a b n = ap (λ (x : ℕ). x % n) (mul_comm a (b % n)) ∙ mod-mul_l b a n ∙ ap (λ (x : ℕ). x % n) (mul_comm b a)

pub residues_laws : OnCodes residues
residues_laws = record {
  two = lit≤ tt;
  most = lit≤ tt;
  add_below = λ a b ha hb. mod-lt _ (lit< tt);
  sub_below = λ a b ha hb. mod-lt _ (lit< tt);
  mul_below = λ a b ha hb. mod-lt _ (lit< tt);
  inv_below = λ a p h. mod-lt _ (lit< tt);
  add_comm = λ a b ha hb. ap (λ (x : ℕ). x % 257) (add_comm a b);
  add_assoc = λ a b c ha hb hc. mod-add-mod (a + b) 257 c ∙ ap (λ (x : ℕ). x % 257) (add_assoc a b c) ∙ sym (add-mod-mod a (b + c) 257);
  mul_comm = λ a b ha hb. ap (λ (x : ℕ). x % 257) (mul_comm a b);
  mul_assoc = λ a b c ha hb hc. mod-mul_l (a * b) c 257 ∙ ap (λ (x : ℕ). x % 257) (mul_assoc a b c) ∙ sym (mod-mul-r a (b * c) 257);
  mul_add = λ a b c ha hb hc. mod-mul-r a (b + c) 257 ∙ ap (λ (x : ℕ). x % 257) (mul-add a b c) ∙ sym (mod-add-mod (a * b) 257 (a * c % 257) ∙ add-mod-mod (a * b) (a * c) 257);
  add_zero = λ a h. ap (λ (x : ℕ). x % 257) (omega arith) ∙ mod-eq_of_lt h;
  mul_one = λ a h. ap (λ (x : ℕ). x % 257) (omega arith) ∙ mod-eq_of_lt h;
  sub_add = λ a b ha hb. omega arith;
  mul_inv = λ a p h. let e : suc (a - 1) ≡ a = omega arith in subst (λ (x : ℕ). (x * (x ^ 255 % 257)) % 257 ≡ 1) e (eqb→eq _ _ (upto-at 256 (λ k. nat_eq ((suc k * (suc k ^ 255 % 257)) % 257) 1) tt (a - 1) (omega arith)));
}
