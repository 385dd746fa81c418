-- The released packets are part of the system, each as an equation that is 1 at its own number and 0 elsewhere. So a
-- release leaves the system as it is; and what holds when nothing is left to release.
use Rattle.std.proofs.Common.{◌≡◌, ℕ, suc, ◌<◌, ◌≤◌, ◌≢◌, Some, Option, sym, refl, ap, ◌∙◌, arith}
use mathlib.Core.Logic.{ite, if_pos, if_neg}
use mathlib.Core.Path.{fun_ext}
use native.Mathlib.Decide.{ℕ_discrete, dec_lt}
use Rattle.algebra.proofs.Scalars.{Scalars}
use Rattle.algebra.proofs.Equations.{Equation, SolvesAll, AgreeAt, SeenAt, equation_path}
use Rattle.algebra.proofs.Systems.{System}
use Rattle.algebra.proofs.Holds.{Holds, known, known_only, seen, seen-only}

module _ {F : Type 0} (K : Scalars F) where
  open K use {𝟘, 𝟙}

  -- the row of packet k alone
  pub unit : ℕ → ℕ → F
  unit k j = ite (ℕ_discrete j k) 𝟙 𝟘

  pub unit_here : (k : ℕ) → unit k k ≡ 𝟙
  unfolding unit
  unit_here k = if_pos (ℕ_discrete k k) refl 𝟙 𝟘

  pub unit_other : (k j : ℕ) → j ≢ k → unit k j ≡ 𝟘
  unfolding unit
  unit_other k j ne = if_neg (ℕ_discrete j k) ne 𝟙 𝟘

module _ {F P : Type 0} (K : Scalars F) where
  open K use {𝟘, 𝟙}

  -- packet k, with payload x, as an equation
  abbrev pub alone : ℕ → (P → F) → Equation F P
  alone k x = record { row = unit K k; pay = x }

  -- the r packets released, and the table
  pub system : ℕ → (ℕ → P → F) → System F P → System F P
  system r rel table k = ite (dec_lt k r) (Some (alone k (rel k))) (table k)

  module _ (r : ℕ) (rel : ℕ → P → F) (table : System F P) where
    pub system_below : (k : ℕ) → k < r → system r rel table k ≡ Some (alone k (rel k))
    unfolding system
    system_below k l = if_pos (dec_lt k r) l (Some (alone k (rel k))) (table k)

    pub system_above : (k : ℕ) → r ≤ k → system r rel table k ≡ table k
    unfolding system
    system_above k l = if_neg (dec_lt k r) (omega arith) (Some (alone k (rel k))) (table k)

  -- the equation that begins at r, and is 0 elsewhere, leaves the table, and its payload is packet r
  pub release : (r : ℕ) (rel rel' : ℕ → P → F) (table table' : System F P) (f : Equation F P)
      → table r ≡ Some f → ((j : ℕ) → j ≢ r → f.row j ≡ 𝟘) → f.row r ≡ 𝟙
      → ((k : ℕ) → k < r → (i : P) → rel' k i ≡ rel k i) → ((i : P) → rel' r i ≡ f.pay i)
      → ((k : ℕ) → r < k → table' k ≡ table k) → system (suc r) rel' table' ≡ system r rel table
  release r rel rel' table table' f at zero one old new same = fun_ext (λ k. go k (dec_lt k r) (ℕ_discrete k r))
    where
      row : (j : ℕ) → unit K r j ≡ f.row j
      row j = pick (ℕ_discrete j r)
        where
          pick : Dec (j ≡ r) → unit K r j ≡ f.row j
          pick (yes e) = ap (unit K r) e ∙ unit_here K r ∙ sym one ∙ ap f.row (sym e)
          pick (no ne) = unit_other K r j ne ∙ sym (zero j ne)

      go : (k : ℕ) → Dec (k < r) → Dec (k ≡ r) → system (suc r) rel' table' k ≡ system r rel table k
      go k (yes l) _ =
          system_below (suc r) rel' table' k (omega arith)
          ∙ ap {B = Option (Equation F P)} Some (equation_path K (alone k (rel' k)) (alone k (rel k)) (λ _. refl) (old k l))
          ∙ sym (system_below r rel table k l)
      go k (no l) (yes e) =
          ap (system (suc r) rel' table') e
          ∙ system_below (suc r) rel' table' r (omega arith)
          ∙ ap {B = Option (Equation F P)} Some (equation_path K (alone r (rel' r)) f row new)
          ∙ sym at ∙ sym (system_above r rel table r (omega arith)) ∙ ap (system r rel table) (sym e)
      go k (no l) (no ne) = system_above (suc r) rel' table' k (omega arith) ∙ same k (omega arith) ∙ sym (system_above r rel table k (omega arith))

  module _ (n r : ℕ) (rel : ℕ → P → F) (table : System F P) (Acc : Equation F P → Type 0) (holds : Holds K n (system r rel table) Acc) where
    -- a released packet is that of every solution
    pub released_value : (k : ℕ) → k < r → (s : ℕ → P → F) → SolvesAll K n s Acc → (i : P) → s k i ≡ rel k i
    released_value k l = known K n (system r rel table) Acc holds k (alone k (rel k)) (system_below r rel table k l, λ j _. unit_other K k j)

    -- where the equation that begins at r is not 0 elsewhere, solutions differ at r
    pub differ_at : P → r < n → ((f : Equation F P) → table r ≡ Some f → ((j : ℕ) → j < n → j ≢ r → f.row j ≡ 𝟘) → ⊥) → AgreeAt K n Acc r → ⊥
    differ_at i l settled agree =
        let a = known_only K n (system r rel table) Acc holds i r l agree in
        settled a.0 (sym (system_above r rel table r (omega arith)) ∙ a.1.0) a.1.1

    -- packet k is seen exactly when it is released or an equation of the table begins at k
    pub seen_below : (k : ℕ) → k < r → SeenAt K Acc k
    seen_below k l = seen K n (system r rel table) Acc holds k (alone k (rel k)) (system_below r rel table k l)

    pub seen_above : (k : ℕ) (f : Equation F P) → r ≤ k → table k ≡ Some f → SeenAt K Acc k
    seen_above k f l e = seen K n (system r rel table) Acc holds k f (system_above r rel table k l ∙ e)

    pub seen_where : P → (k : ℕ) → k < n → r ≤ k → SeenAt K Acc k → (f : Equation F P) × (table k ≡ Some f)
    seen_where i k l h sn =
        let a = seen-only K n (system r rel table) Acc holds i k l sn in
        (a.0, sym (system_above r rel table k h) ∙ a.1)
