-- Equations: a row of coefficients, and a value at each place of a payload. Their combinations, and what solves them.
use Rattle.std.proofs.Common.{◌≡◌, ℕ, ◌<◌, ◌≤◌, ◌⊎◌, List, [], ◌∷◌, refl, ap, ◌∙◌, ap₂}
use Rattle.algebra.proofs.Scalars.{Scalars, mul_zero, zero_mul, neg-mul, add_neg-left, add-mul}
use Rattle.algebra.proofs.Sums.{total, total_same, total-none, total-add, total-mul}

-- F: the field's elements, P: the places of a payload
pub record Equation (F P : Type 0) : Type 0 where
  pub row : ℕ → F
  pub pay : P → F

-- the equation is one of the list
abbrev pub Among : {A : Type 0} → List A → A → Type 0
Among [] x = ⊥
Among (y ∷ ys) x = (x ≡ y) ⊎ Among ys x

module _ {F P : Type 0} (K : Scalars F) where
  infixl 60 ◌⊞◌
  infixl 70 ◌⊡◌
  open K use {𝟘, 𝟙, ◌⊞◌, ◌⊡◌, neg, add_zero, mul_assoc}

  -- the equation of zeros, the sum of two equations and an equation's multiple
  abbrev pub null : Equation F P
  null = record { row = λ _. 𝟘; pay = λ _. 𝟘 }

  abbrev pub added : Equation F P → Equation F P → Equation F P
  added f g = record { row = λ k. f.row k ⊞ g.row k; pay = λ i. f.pay i ⊞ g.pay i }

  abbrev pub multiplied : F → Equation F P → Equation F P
  multiplied c f = record { row = λ k. c ⊡ f.row k; pay = λ i. c ⊡ f.pay i }

  -- f, less c times g
  abbrev pub less : Equation F P → F → Equation F P → Equation F P
  less f c g = added f (multiplied (neg c) g)

  -- the combinations of the given equations
  pub data Span (Given : Equation F P → Type 0) : Equation F P → Type 0 where
    given : {f : Equation F P} → Given f → Span Given f
    nothing : Span Given null
    sums : {f g : Equation F P} → Span Given f → Span Given g → Span Given (added f g)
    multiple : (c : F) {f : Equation F P} → Span Given f → Span Given (multiplied c f)

  pub equation_path : (f g : Equation F P) → ((k : ℕ) → f.row k ≡ g.row k) → ((i : P) → f.pay i ≡ g.pay i) → f ≡ g
  equation_path f g h l = λ t. record { row = λ k. h k t; pay = λ i. l i t }

  -- combinations of combinations are combinations
  pub span-through : {G H : Equation F P → Type 0} → ((f : Equation F P) → G f → Span H f) → {f : Equation F P} → Span G f → Span H f
  span-through h (given x) = h _ x
  span-through h nothing = nothing
  span-through h (sums x y) = sums (span-through h x) (span-through h y)
  span-through h (multiple c x) = multiple c (span-through h x)

  pub span_less : {G : Equation F P → Type 0} {f g : Equation F P} (c : F) → Span G f → Span G g → Span G (less f c g)
  span_less c x y = sums x (multiple (neg c) y)

  -- what c times g was taken from is the rest and c times g
  pub less_back : (f g : Equation F P) (c : F) → added (less f c g) (multiplied c g) ≡ f
  less_back f g c =
      equation_path (added (less f c g) (multiplied c g)) f
      (λ k. ap (λ x. (f.row k ⊞ x) ⊞ c ⊡ g.row k) (neg-mul K c (g.row k)) ∙ add_neg-left K (f.row k) (c ⊡ g.row k))
      (λ i. ap (λ x. (f.pay i ⊞ x) ⊞ c ⊡ g.pay i) (neg-mul K c (g.pay i)) ∙ add_neg-left K (f.pay i) (c ⊡ g.pay i))

  -- some combination of the given equations is 0 at every number below k and 1 at k
  abbrev pub SeenAt : (Equation F P → Type 0) → ℕ → Type 0
  SeenAt Given k = (g : Equation F P) × Span Given g × ((j : ℕ) → j < k → g.row j ≡ 𝟘) × (g.row k ≡ 𝟙)

  -- some combination of the given equations has this row
  abbrev pub Known : (Equation F P → Type 0) → (ℕ → F) → Type 0
  Known Given row = (h : Equation F P) × Span Given h × ((k : ℕ) → h.row k ≡ row k)

  -- n: how many packets there are
  module _ (n : ℕ) where
    -- the row is 0 from n on
    abbrev pub Bounded : Equation F P → Type 0
    Bounded f = (k : ℕ) → n ≤ k → f.row k ≡ 𝟘

    -- at each place, the sum over all packets of coefficient times symbol is the value
    abbrev pub Solves : (ℕ → P → F) → Equation F P → Type 0
    Solves s f = (i : P) → total K n (λ k. f.row k ⊡ s k i) ≡ f.pay i

    abbrev pub SolvesAll : (ℕ → P → F) → (Equation F P → Type 0) → Type 0
    SolvesAll s Given = (f : Equation F P) → Given f → Solves s f

    -- all solutions agree on packet k
    abbrev pub AgreeAt : (Equation F P → Type 0) → ℕ → Type 0
    AgreeAt Given k = (s t : ℕ → P → F) → SolvesAll s Given → SolvesAll t Given → (i : P) → s k i ≡ t k i

    -- combinations of bounded equations are bounded
    pub span-bounded : {G : Equation F P → Type 0} → ((f : Equation F P) → G f → Bounded f) → {f : Equation F P} → Span G f → Bounded f
    span-bounded h (given x) k l = h _ x k l
    span-bounded h nothing k l = refl
    span-bounded h (sums x y) k l = ap₂ (λ u v. u ⊞ v) (span-bounded h x k l) (span-bounded h y k l) ∙ add_zero 𝟘
    span-bounded h (multiple c x) k l = ap (λ u. c ⊡ u) (span-bounded h x k l) ∙ mul_zero K c

    -- what solves equations solves their combinations
    pub span_solves : {G : Equation F P → Type 0} (s : ℕ → P → F) → ((f : Equation F P) → G f → Solves s f) → {f : Equation F P} → Span G f → Solves s f
    span_solves s h (given x) i = h _ x i
    span_solves s h nothing i = total-none K n (λ k. 𝟘 ⊡ s k i) (λ k _. zero_mul K (s k i))
    span_solves s h (sums {f = f} {g = g} x y) i =
        total_same K n (λ k. (f.row k ⊞ g.row k) ⊡ s k i) (λ k. f.row k ⊡ s k i ⊞ g.row k ⊡ s k i) (λ k _. add-mul K (f.row k) (g.row k) (s k i))
        ∙ total-add K n (λ k. f.row k ⊡ s k i) (λ k. g.row k ⊡ s k i)
        ∙ ap₂ (λ u v. u ⊞ v) (span_solves s h x i) (span_solves s h y i)
    span_solves s h (multiple c {f = f} x) i =
        total_same K n (λ k. (c ⊡ f.row k) ⊡ s k i) (λ k. c ⊡ (f.row k ⊡ s k i)) (λ k _. mul_assoc c (f.row k) (s k i))
        ∙ total-mul K n c (λ k. f.row k ⊡ s k i)
        ∙ ap (λ u. c ⊡ u) (span_solves s h x i)
