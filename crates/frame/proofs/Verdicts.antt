-- What an answer says when it comes from the first refusal that holds.
use Rattle.std.proofs.Common.{◌≡◌, ℕ, ◌≤◌, List, ◌++◌, length, drop, IfOk, Some, None, Ok, Option, Result, sym, refl, ap, subst, arith}
use Rattle.std.proofs.lemmas.Bool.{cond-true, le-leb}
use Rattle.refusal.specs.declared.Refusal.{Refusal}
use Rattle.frame.specs.Head.{first, too_short, verdict, written}

pub first-none : (a b : Option Refusal) → first a b ≡ None → (a ≡ None) × (b ≡ None)
first-none None b e = (refl, e)
first-none (Some x) b e = absurd (let z : ◌≡◌ {A = ℕ} 0 1 = cc in omega arith)

pub first_later : (a b : Option Refusal) → a ≡ None → first a b ≡ b
first_later a b e = ap (λ (x : Option Refusal). first x b) e

pub none-from_ok : (o : Option Refusal) → verdict o (tt {0}) ≡ Ok tt → o ≡ None
none-from_ok None e = refl
none-from_ok (Some x) e = absurd (let z : ◌≡◌ {A = ℕ} 0 1 = cc in omega arith)

pub roomy : (len : ℕ) (buffer : List ℕ) → len ≤ length buffer → too_short len buffer ≡ None
roomy len buffer h = cond-true _ _ _ (le-leb _ _ h)

-- what holds of an answer that no refusal kept back
pub verdict_made : {A : Type 0} (P : A → Type 0) (o : Option Refusal) (a : A) (r : Result A Refusal) → r ≡ verdict o a → (o ≡ None → P a) → IfOk r P
verdict_made P None a r e h = subst (λ v. IfOk v P) (sym e) (h refl)
verdict_made P (Some x) a r e h = subst (λ v. IfOk v P) (sym e) tt

-- what holds of an answer and a buffer where a frame was written
pub written_made : (P : ℕ → List ℕ → Type 0) (o : Option Refusal) (len : ℕ) (frame buffer : List ℕ) (r : Result ℕ Refusal) (out : List ℕ) → (r, out) ≡ written o len frame buffer → (o ≡ None → P len (frame ++ drop len buffer)) → IfOk r (λ n. P n out)
written_made P None len frame buffer r out e h = subst (λ (v : Result ℕ Refusal × List ℕ). IfOk v.0 (λ n. P n v.1)) (sym e) (h refl)
written_made P (Some x) len frame buffer r out e h = subst (λ (v : Result ℕ Refusal × List ℕ). IfOk v.0 (λ n. P n v.1)) (sym e) tt
