-- A field over a type of its own, where every element counts and no law has a side condition, and what follows.
use Rattle.std.proofs.Common.{◌≡◌, ◌≢◌, sym, ap, ◌∙◌, ap₂}

pub record Scalars (F : Type 0) : Type 0 where
  pub 𝟘 : F
  pub 𝟙 : F
  pub ◌⊞◌ : F → F → F
  pub ◌⊡◌ : F → F → F
  pub neg : F → F
  pub inv : F → F
  pub add_assoc : (a b c : F) → ◌⊞◌ (◌⊞◌ a b) c ≡ ◌⊞◌ a (◌⊞◌ b c)
  pub add_comm : (a b : F) → ◌⊞◌ a b ≡ ◌⊞◌ b a
  pub add_zero : (a : F) → ◌⊞◌ a 𝟘 ≡ a
  pub add_neg : (a : F) → ◌⊞◌ a (neg a) ≡ 𝟘
  pub mul_assoc : (a b c : F) → ◌⊡◌ (◌⊡◌ a b) c ≡ ◌⊡◌ a (◌⊡◌ b c)
  pub mul_comm : (a b : F) → ◌⊡◌ a b ≡ ◌⊡◌ b a
  pub mul_one : (a : F) → ◌⊡◌ a 𝟙 ≡ a
  pub mul_add : (a b c : F) → ◌⊡◌ a (◌⊞◌ b c) ≡ ◌⊞◌ (◌⊡◌ a b) (◌⊡◌ a c)
  pub mul_inv : (a : F) → a ≢ 𝟘 → ◌⊡◌ a (inv a) ≡ 𝟙
  pub one_not_zero : 𝟙 ≢ 𝟘

module _ {F : Type 0} (K : Scalars F) where
  infixl 60 ◌⊞◌
  infixl 70 ◌⊡◌
  open K use {𝟘, 𝟙, ◌⊞◌, ◌⊡◌, neg, inv, add_assoc, add_comm, add_zero, add_neg, mul_assoc, mul_comm, mul_one, mul_add, mul_inv}

  pub zero_add : (a : F) → 𝟘 ⊞ a ≡ a
  zero_add a = add_comm 𝟘 a ∙ add_zero a

  pub one-mul : (a : F) → 𝟙 ⊡ a ≡ a
  one-mul a = mul_comm 𝟙 a ∙ mul_one a

  neg-add : (a : F) → neg a ⊞ a ≡ 𝟘
  neg-add a = add_comm (neg a) a ∙ add_neg a

  add_left_comm : (a b c : F) → a ⊞ (b ⊞ c) ≡ b ⊞ (a ⊞ c)
  add_left_comm a b c = sym (add_assoc a b c) ∙ ap (λ x. x ⊞ c) (add_comm a b) ∙ add_assoc b a c

  pub add_swap : (a b c d : F) → (a ⊞ b) ⊞ (c ⊞ d) ≡ (a ⊞ c) ⊞ (b ⊞ d)
  add_swap a b c d = simp (add_assoc, add_left_comm)

  pub add_neg-right : (a c : F) → (a ⊞ c) ⊞ neg c ≡ a
  add_neg-right a c = simp (add_assoc, add_neg, add_zero)

  pub add_neg-left : (a c : F) → (a ⊞ neg c) ⊞ c ≡ a
  add_neg-left a c = simp (add_assoc, neg-add, add_zero)

  pub add_cancel : (a b c : F) → a ⊞ c ≡ b ⊞ c → a ≡ b
  add_cancel a b c e = sym (add_neg-right a c) ∙ ap (λ x. x ⊞ neg c) e ∙ add_neg-right b c

  pub mul_zero : (a : F) → a ⊡ 𝟘 ≡ 𝟘
  mul_zero a = add_cancel (a ⊡ 𝟘) 𝟘 (a ⊡ 𝟘) (sym (mul_add a 𝟘 𝟘) ∙ ap (λ x. a ⊡ x) (add_zero 𝟘) ∙ sym (zero_add (a ⊡ 𝟘)))

  pub zero_mul : (a : F) → 𝟘 ⊡ a ≡ 𝟘
  zero_mul a = mul_comm 𝟘 a ∙ mul_zero a

  pub add-mul : (a b c : F) → (a ⊞ b) ⊡ c ≡ a ⊡ c ⊞ b ⊡ c
  add-mul a b c = mul_comm (a ⊞ b) c ∙ mul_add c a b ∙ ap₂ (λ x y. x ⊞ y) (mul_comm c a) (mul_comm c b)

  pub mul_left_comm : (a b c : F) → a ⊡ (b ⊡ c) ≡ b ⊡ (a ⊡ c)
  mul_left_comm a b c = sym (mul_assoc a b c) ∙ ap (λ x. x ⊡ c) (mul_comm a b) ∙ mul_assoc b a c

  mul-neg : (a b : F) → a ⊡ neg b ≡ neg (a ⊡ b)
  mul-neg a b = add_cancel (a ⊡ neg b) (neg (a ⊡ b)) (a ⊡ b) (sym (mul_add a (neg b) b) ∙ ap (λ x. a ⊡ x) (neg-add b) ∙ mul_zero a ∙ sym (neg-add (a ⊡ b)))

  pub neg-mul : (a b : F) → neg a ⊡ b ≡ neg (a ⊡ b)
  neg-mul a b = mul_comm (neg a) b ∙ mul-neg b a ∙ ap neg (mul_comm b a)

  -- what is taken from one summand joins the other
  pub carry_over : (c x y z : F) → x ⊞ z ≡ (x ⊞ neg c ⊡ y) ⊞ (c ⊡ y ⊞ z)
  carry_over c x y z =
      ap (λ u. u ⊞ z) (sym (add_neg-left x (c ⊡ y)) ∙ ap (λ u. (x ⊞ u) ⊞ c ⊡ y) (sym (neg-mul c y)))
      ∙ add_assoc (x ⊞ neg c ⊡ y) (c ⊡ y) z

  pub neg_zero : neg 𝟘 ≡ 𝟘
  neg_zero = sym (zero_add (neg 𝟘)) ∙ add_neg 𝟘

  neg-neg : (a : F) → neg (neg a) ≡ a
  neg-neg a = add_cancel (neg (neg a)) a (neg a) (neg-add (neg a) ∙ sym (add_neg a))

  -- what is left when a summand changes nothing
  pub minus-none : (x a : F) → x ⊞ neg a ≡ x → a ≡ 𝟘
  minus-none x a e = sym (neg-neg a) ∙ ap neg (add_cancel (neg a) 𝟘 x (add_comm (neg a) x ∙ e ∙ sym (zero_add x))) ∙ neg_zero

  pub inv-mul : (a : F) → a ≢ 𝟘 → inv a ⊡ a ≡ 𝟙
  inv-mul a h = mul_comm (inv a) a ∙ mul_inv a h

  -- a multiple that takes nothing away, and one that takes all
  pub take_none : (x c y : F) → y ≡ 𝟘 → x ⊞ neg c ⊡ y ≡ x
  take_none x c y e = ap (λ z. x ⊞ neg c ⊡ z) e ∙ ap (λ z. x ⊞ z) (mul_zero (neg c)) ∙ add_zero x

  pub take_zero : (x c y : F) → c ≡ 𝟘 → x ⊞ neg c ⊡ y ≡ x
  take_zero x c y e = ap (λ z. x ⊞ neg z ⊡ y) e ∙ ap (λ z. x ⊞ z ⊡ y) (neg_zero) ∙ ap (λ z. x ⊞ z) (zero_mul y) ∙ add_zero x

  pub take_all : (c y : F) → y ≡ 𝟙 → c ⊞ neg c ⊡ y ≡ 𝟘
  take_all c y e = ap (λ z. c ⊞ neg c ⊡ z) e ∙ ap (λ z. c ⊞ z) (mul_one (neg c)) ∙ add_neg c
