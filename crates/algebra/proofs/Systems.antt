-- A reduced system: at most one equation for each number, which begins there with 1, where all others are 0.
-- From it solutions are read off, one for each value at a number at which no equation begins.
use Rattle.std.proofs.Common.{◌≡◌, ℕ, ◌<◌, ◌≢◌, ◌⊎◌, Some, None, Option, sym, refl, ap, ◌∙◌, subst, ap₂, inl, inr, arith}
use mathlib.Core.Logic.{ite, if_pos, if_neg}
use native.Mathlib.Decide.{ℕ_discrete, dec_lt}
use Rattle.algebra.proofs.Scalars.{Scalars, one-mul, zero_mul, mul_zero, neg_zero, add_neg-left, minus-none}
use Rattle.algebra.proofs.Sums.{total, total-one, total-two, total_differ}
use Rattle.algebra.proofs.Equations.{Equation, Span, Bounded, Solves, AgreeAt, span_solves}

-- what is some is not none, and is one
pub some_or_none : {A : Type 0} {o : Option A} {a : A} → o ≡ Some a → o ≡ None → ⊥
some_or_none {o} {a} e z = let x : ◌≡◌ {A = ℕ} 0 1 = cc in omega arith

pub some_same : {A : Type 0} {o : Option A} {a b : A} → o ≡ Some a → o ≡ Some b → a ≡ b
some_same {o} {a} {b} e z = cc

-- some or none
pub look : {A : Type 0} (o : Option A) → (o ≡ None) ⊎ ((f : A) × (o ≡ Some f))
look None = inl refl
look (Some f) = inr (f, refl)

-- a system: the equation that begins at a number, if one does
abbrev pub System : Type 0 → Type 0 → Type 0
System F P = ℕ → Option (Equation F P)

abbrev pub In : {F P : Type 0} → System F P → Equation F P → Type 0
In {F} {P} b f = (p : ℕ) × (b p ≡ Some f)

module _ {F P : Type 0} (K : Scalars F) (n : ℕ) where
  infixl 60 ◌⊞◌
  infixl 70 ◌⊡◌
  open K use {𝟘, 𝟙, ◌⊞◌, ◌⊡◌, neg, add_zero, mul_one, one_not_zero}

  -- each equation begins with 1, at its own number, where all others are 0
  pub record Reduced (b : System F P) : Type 0 where
    pub bounded : (p : ℕ) (f : Equation F P) → b p ≡ Some f → Bounded K n f
    pub within : (p : ℕ) (f : Equation F P) → b p ≡ Some f → p < n
    pub leads : (p : ℕ) (f : Equation F P) → b p ≡ Some f → f.row p ≡ 𝟙
    pub begins : (p : ℕ) (f : Equation F P) → b p ≡ Some f → (k : ℕ) → k < p → f.row k ≡ 𝟘
    pub clear : (p o : ℕ) (f g : Equation F P) → b p ≡ Some f → b o ≡ Some g → p ≢ o → g.row p ≡ 𝟘

  -- the stream that is c at the number j, where no equation begins, and 0 at all other such numbers
  entry : Option (Equation F P) → ℕ → F → P → F → F
  entry None j c i d = d
  entry (Some f) j c i d = f.pay i ⊞ neg (f.row j ⊡ c)

  pub solution : System F P → ℕ → F → ℕ → P → F
  solution b j c k i = entry (b k) j c i (ite (ℕ_discrete k j) c 𝟘)

  module _ (b : System F P) (j : ℕ) (c : F) where
    solution_some : (k : ℕ) (f : Equation F P) (i : P) → b k ≡ Some f → solution b j c k i ≡ f.pay i ⊞ neg (f.row j ⊡ c)
    unfolding solution entry
    solution_some k f i e = ap (λ o. entry o j c i (ite (ℕ_discrete k j) c 𝟘)) e

    solution_here : (i : P) → b j ≡ None → solution b j c j i ≡ c
    unfolding solution entry
    solution_here i e = ap (λ o. entry o j c i (ite (ℕ_discrete j j) c 𝟘)) e ∙ if_pos (ℕ_discrete j j) refl c 𝟘

    solution_none : (k : ℕ) (i : P) → b k ≡ None → k ≢ j → solution b j c k i ≡ 𝟘
    unfolding solution entry
    solution_none k i e ne = ap (λ o. entry o j c i (ite (ℕ_discrete k j) c 𝟘)) e ∙ if_neg (ℕ_discrete k j) ne c 𝟘

  module _ (b : System F P) (red : Reduced b) where
    apart : (p j : ℕ) (f : Equation F P) → b p ≡ Some f → b j ≡ None → p ≢ j
    apart p j f bp bj e = some_or_none (subst (λ x. b x ≡ Some f) e bp) bj

    -- in an equation's sum only its own number and j count
    vanish : (j : ℕ) (c : F) (p : ℕ) (f : Equation F P) (i : P) → b p ≡ Some f
        → (k : ℕ) → k ≢ p → k ≢ j → f.row k ⊡ solution b j c k i ≡ 𝟘
    vanish j c p f i bp k np nj = go (look (b k))
      where
        go : (b k ≡ None) ⊎ ((g : Equation F P) × (b k ≡ Some g)) → f.row k ⊡ solution b j c k i ≡ 𝟘
        go (inl e) = ap (λ x. f.row k ⊡ x) (solution_none b j c k i e nj) ∙ mul_zero K (f.row k)
        go (inr g) = ap (λ x. x ⊡ solution b j c k i) (red.clear k p g.0 f g.1 bp np) ∙ zero_mul K (solution b j c k i)

    -- the stream fits every equation of the system
    solution_solves : (j : ℕ) (c : F) → j < n → b j ≡ None → (f : Equation F P) → In b f → Solves K n (solution b j c) f
    solution_solves j c l bj f (p, bp) i =
        total-two K n (λ k. f.row k ⊡ solution b j c k i) p j (red.within p f bp) l (apart p j f bp bj) (λ k _. vanish j c p f i bp k)
        ∙ ap₂ (λ x y. x ⊞ y)
        (ap₂ (λ x y. x ⊡ y) (red.leads p f bp) (solution_some b j c p f i bp) ∙ one-mul K (f.pay i ⊞ neg (f.row j ⊡ c)))
        (ap (λ x. f.row j ⊡ x) (solution_here b j c i bj))
        ∙ add_neg-left K (f.pay i) (f.row j ⊡ c)

    -- some stream fits, also where an equation begins at every number
    pub zero_solution_solves : (f : Equation F P) → In b f → Solves K n (solution b n 𝟘) f
    zero_solution_solves f (p, bp) i =
        total-one K n (λ k. f.row k ⊡ solution b n 𝟘 k i) p (red.within p f bp) (λ k l ne. vanish n 𝟘 p f i bp k ne (omega arith))
        ∙ ap₂ (λ x y. x ⊡ y) (red.leads p f bp) (solution_some b n 𝟘 p f i bp)
        ∙ one-mul K (f.pay i ⊞ neg (f.row n ⊡ 𝟘))
        ∙ ap (λ x. f.pay i ⊞ neg x) (mul_zero K (f.row n)) ∙ ap (λ x. f.pay i ⊞ x) (neg_zero K) ∙ add_zero (f.pay i)

    -- a combination that is 0 wherever an equation begins is 0
    pub zero_row : (g : Equation F P) → Span K (In b) g → ((p : ℕ) (f : Equation F P) → b p ≡ Some f → g.row p ≡ 𝟘)
        → P → (j : ℕ) → j < n → g.row j ≡ 𝟘
    zero_row g sp h i j l = go (look (b j))
      where
        at : (c : F) → b j ≡ None → g.row j ⊡ c ≡ g.pay i
        at c bj =
            sym (total-one K n (λ k. g.row k ⊡ solution b j c k i) j l others ∙ ap (λ x. g.row j ⊡ x) (solution_here b j c i bj))
            ∙ span_solves K n (solution b j c) (solution_solves j c l bj) sp i
          where
            others : (k : ℕ) → k < n → k ≢ j → g.row k ⊡ solution b j c k i ≡ 𝟘
            others k _ ne = pick (look (b k))
              where
                pick : (b k ≡ None) ⊎ ((f : Equation F P) × (b k ≡ Some f)) → g.row k ⊡ solution b j c k i ≡ 𝟘
                pick (inl e) = ap (λ x. g.row k ⊡ x) (solution_none b j c k i e ne) ∙ mul_zero K (g.row k)
                pick (inr f) = ap (λ x. x ⊡ solution b j c k i) (h k f.0 f.1) ∙ zero_mul K (solution b j c k i)

        go : (b j ≡ None) ⊎ ((f : Equation F P) × (b j ≡ Some f)) → g.row j ≡ 𝟘
        go (inl e) = sym (mul_one (g.row j)) ∙ at 𝟙 e ∙ sym (at 𝟘 e) ∙ mul_zero K (g.row j)
        go (inr f) = h j f.0 f.1

    -- a combination that begins at a number with 1 shows that an equation begins there
    pub begins_there : P → (g : Equation F P) → Span K (In b) g → (k : ℕ) → k < n → ((j : ℕ) → j < k → g.row j ≡ 𝟘) → g.row k ≡ 𝟙
        → (f : Equation F P) × (b k ≡ Some f)
    begins_there i g sp k l low one = go (look (b k))
      where
        same : (j : ℕ) → j < n → j ≢ k → g.row j ⊡ solution b k 𝟙 j i ≡ g.row j ⊡ solution b k 𝟘 j i
        same j _ ne = side (dec_lt j k) (look (b j))
          where
            high : (c : F) (f : Equation F P) → b j ≡ Some f → k < j → solution b k c j i ≡ f.pay i
            high c f e m =
                solution_some b k c j f i e
                ∙ ap (λ x. f.pay i ⊞ neg (x ⊡ c)) (red.begins j f e k m)
                ∙ ap (λ x. f.pay i ⊞ neg x) (zero_mul K c) ∙ ap (λ x. f.pay i ⊞ x) (neg_zero K) ∙ add_zero (f.pay i)

            side : Dec (j < k) → (b j ≡ None) ⊎ ((f : Equation F P) × (b j ≡ Some f)) → g.row j ⊡ solution b k 𝟙 j i ≡ g.row j ⊡ solution b k 𝟘 j i
            side (yes m) _ = ap (λ x. x ⊡ solution b k 𝟙 j i) (low j m) ∙ zero_mul K (solution b k 𝟙 j i) ∙ sym (ap (λ x. x ⊡ solution b k 𝟘 j i) (low j m) ∙ zero_mul K (solution b k 𝟘 j i))
            side (no _) (inl e) = ap (λ x. g.row j ⊡ x) (solution_none b k 𝟙 j i e ne ∙ sym (solution_none b k 𝟘 j i e ne))
            side (no m) (inr f) = ap (λ x. g.row j ⊡ x) (high 𝟙 f.0 f.1 (omega arith) ∙ sym (high 𝟘 f.0 f.1 (omega arith)))

        at : (c : F) → b k ≡ None → total K n (λ j. g.row j ⊡ solution b k c j i) ≡ g.pay i
        at c e = span_solves K n (solution b k c) (solution_solves k c l e) sp i

        clash : b k ≡ None → 𝟙 ≡ 𝟘
        clash e =
            sym (ap₂ (λ x y. x ⊡ y) one (solution_here b k 𝟙 i e) ∙ mul_one 𝟙)
            ∙ total_differ K n (λ j. g.row j ⊡ solution b k 𝟙 j i) (λ j. g.row j ⊡ solution b k 𝟘 j i) k l same (at 𝟙 e ∙ sym (at 𝟘 e))
            ∙ ap (λ x. g.row k ⊡ x) (solution_here b k 𝟘 i e) ∙ mul_zero K (g.row k)

        go : (b k ≡ None) ⊎ ((f : Equation F P) × (b k ≡ Some f)) → (f : Equation F P) × (b k ≡ Some f)
        go (inl e) = absurd (one_not_zero (clash e))
        go (inr f) = f

    -- the equation that begins at k is 0 elsewhere
    abbrev pub Alone : ℕ → Equation F P → Type 0
    Alone k f = (b k ≡ Some f) × ((j : ℕ) → j < n → j ≢ k → f.row j ≡ 𝟘)

    -- then packet k of each stream that fits is its payload
    pub alone_value : (k : ℕ) (f : Equation F P) → Alone k f → (s : ℕ → P → F) → Solves K n s f → (i : P) → s k i ≡ f.pay i
    alone_value k f a s h i =
        sym (total-one K n (λ j. f.row j ⊡ s j i) k (red.within k f a.0) (λ j l ne. ap (λ x. x ⊡ s j i) (a.1 j l ne) ∙ zero_mul K (s j i))
        ∙ ap (λ x. x ⊡ s k i) (red.leads k f a.0) ∙ one-mul K (s k i))
        ∙ h i

    -- where all streams that fit agree, such an equation begins
    pub agree_alone : P → (k : ℕ) → k < n → AgreeAt K n (In b) k → (f : Equation F P) × Alone k f
    agree_alone i k l ag = go (look (b k))
      where
        both : (j : ℕ) → j < n → b j ≡ None → solution b j 𝟙 k i ≡ solution b j 𝟘 k i
        both j m e = ag (solution b j 𝟙) (solution b j 𝟘) (solution_solves j 𝟙 m e) (solution_solves j 𝟘 m e) i

        go : (b k ≡ None) ⊎ ((f : Equation F P) × (b k ≡ Some f)) → (f : Equation F P) × Alone k f
        go (inl e) = absurd (one_not_zero (sym (solution_here b k 𝟙 i e) ∙ both k l e ∙ solution_here b k 𝟘 i e))
        go (inr f) = (f.0, (f.1, rest))
          where
            rest : (j : ℕ) → j < n → j ≢ k → f.0.row j ≡ 𝟘
            rest j m ne = pick (look (b j))
              where
                pick : (b j ≡ None) ⊎ ((g : Equation F P) × (b j ≡ Some g)) → f.0.row j ≡ 𝟘
                pick (inl e) =
                    sym (mul_one (f.0.row j))
                    ∙ minus-none K (f.0.pay i) (f.0.row j ⊡ 𝟙)
                    (sym (solution_some b j 𝟙 k f.0 i f.1) ∙ both j m e ∙ solution_some b j 𝟘 k f.0 i f.1
                    ∙ ap (λ x. f.0.pay i ⊞ neg x) (mul_zero K (f.0.row j)) ∙ ap (λ x. f.0.pay i ⊞ x) (neg_zero K) ∙ add_zero (f.0.pay i))
                pick (inr g) = red.clear j k g.0 f.0 g.1 f.1 ne
