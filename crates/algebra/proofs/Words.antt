-- From numbers and lists to codes and equations: frames, streams, and what fits.
use Rattle.std.proofs.Common.{◌≡◌, ℕ, ◌<◌, ◌≤◌, ◌⊎◌, List, [], ◌∷◌, map, get_or, sym, refl, ap, ◌∙◌, subst, inl, inr, zero-add}
use mathlib.Core.List.Memᴰ
use mathlib.Core.List.{Memᴰ}
use mathlib.Core.Path.{fun_ext}
use native.Mathlib.Bridge.{le_prop}
use native.Mathlib.Decide.{dec_lt}
use Rattle.std.proofs.lemmas.List.FromFn.{length-map-range_with_len, get_or-map-range_with_len}
use Rattle.std.specs.List.{range_with_len}
use Rattle.field.specs.Field.{Means, Laws, times}
use Rattle.algebra.specs.Frames.{Codes, Frame, Proper}
use Rattle.algebra.specs.Streams.{sum, Fits, Fitting}
use Rattle.algebra.proofs.Sums.{total, total_same}
use Rattle.algebra.proofs.Equations.{Equation, Among, Bounded, Solves, SolvesAll}
use Rattle.algebra.proofs.Codes.{Code, code, code_zero, code_back, code_same, code-times, code_sum, sum-code, scalars}

-- the places of a payload
abbrev pub Place : ℕ → Type 0
Place size = (i : ℕ) × (i < size)

-- all the frames are proper
abbrev pub AllProper : ℕ → ℕ → ℕ → List Frame → Type 0
AllProper n size q frames = (f : Frame) → Memᴰ f frames → Proper n size q f

module _ (size : ℕ) (m : Means) (laws : Laws m) where
  -- the equation that a frame is
  unfoldable pub equation : Frame → Equation (Code m) (Place size)
  equation f = record { row = λ k. code m laws (f.row k); pay = λ i. code m laws (get_or f.payload i.0 0) }

  unfoldable pub equations : List Frame → List (Equation (Code m) (Place size))
  equations [] = []
  equations (f ∷ fs) = equation f ∷ equations fs

  among : (frames : List Frame) (f : Frame) → Memᴰ f frames → Among (equations frames) (equation f)
  unfolding equations
  among [] f i = elim i [ ]
  among (g ∷ gs) f i = go (Memᴰ.cases_cons i) (λ j. among gs f j)
    where
      go : (f ≡ g) ⊎ Memᴰ f gs → (Memᴰ f gs → Among (equations gs) (equation f)) → (equation f ≡ equation g) ⊎ Among (equations gs) (equation f)
      go (inl e) _ = inl (ap equation e)
      go (inr j) ih = inr (ih j)

  among-frame : (frames : List Frame) (e : Equation (Code m) (Place size)) → Among (equations frames) e → (f : Frame) × Memᴰ f frames × (e ≡ equation f)
  unfolding equations
  among-frame [] e i = absurd i
  among-frame (g ∷ gs) e (inl x) = (g, Memᴰ.head refl, x)
  among-frame (g ∷ gs) e (inr j) = let r = among-frame gs e j in (r.0, Memᴰ.tail r.1, r.2)

  -- where the rows are 0 from t on, so are the equations
  pub bounded-equations : (frames : List Frame) (t : ℕ) → ((f : Frame) → Memᴰ f frames → (k : ℕ) → t ≤ k → f.row k ≡ 0)
      → (e : Equation (Code m) (Place size)) → Among (equations frames) e → Bounded (scalars m laws) t e
  unfolding equation
  bounded-equations frames t short e i k l =
      let f = among-frame frames e i in
      ap (λ z. z.row k) f.2 ∙ ap (code m laws) (short f.0 f.1 k l) ∙ code_zero m laws

  -- a stream of numbers as one of codes, and back
  unfoldable pub coded : (ℕ → List ℕ) → ℕ → Place size → Code m
  coded s k i = code m laws (get_or (s k) i.0 0)

  value : (Place size → Code m) → (p : ℕ) → Dec (p < size) → ℕ
  value x p (yes l) = (x (p, l)).0
  value x p (no _) = 0

  value_is : (x : Place size → Code m) (p : ℕ) (l : p < size) (d : Dec (p < size)) → value x p d ≡ (x (p, l)).0
  unfolding value
  value_is x p l (yes h) = ap (λ e. (x (p, e)).0) (le_prop h l)
  value_is x p l (no h) = absurd (h l)

  pub numbers : (ℕ → Place size → Code m) → ℕ → List ℕ
  numbers z k = map (λ p. value (z k) p (dec_lt p size)) (range_with_len 0 size)

  numbers-at : (z : ℕ → Place size → Code m) (k p : ℕ) (l : p < size) → get_or (numbers z k) p 0 ≡ (z k (p, l)).0
  unfolding numbers
  numbers-at z k p l = get_or-map-range_with_len (λ p. value (z k) p (dec_lt p size)) 0 size p p 0 l (zero-add p) ∙ value_is (z k) p l (dec_lt p size)

  numbers-codes : (z : ℕ → Place size → Code m) (k : ℕ) → Codes m.q size (numbers z k)
  unfolding numbers
  numbers-codes z k = record {
    long = length-map-range_with_len (λ p. value (z k) p (dec_lt p size)) 0 size;
    codes = λ p l. subst (λ x. x < m.q) (sym (numbers-at z k p l)) (z k (p, l)).1;
  }

  pub coded-numbers : (z : ℕ → Place size → Code m) → coded (numbers z) ≡ z
  unfolding coded
  coded-numbers z = fun_ext (λ k. fun_ext (λ i. ap (code m laws) (numbers-at z k i.0 i.1) ∙ code_back m laws (z k i)))

  module _ (n : ℕ) where
    by_codes : (f : Frame) (s : ℕ → List ℕ) (i : Place size)
        → total (scalars m laws) n (λ k. (scalars m laws).◌⊡◌ ((equation f).row k) (coded s k i)) ≡ code m laws (sum m n (λ k. times m (f.row k) (get_or (s k) i.0 0)))
    unfolding equation coded
    by_codes f s i =
        total_same (scalars m laws) n (λ k. (scalars m laws).◌⊡◌ ((equation f).row k) (coded s k i)) (λ k. code m laws (times m (f.row k) (get_or (s k) i.0 0)))
        (λ k _. sym (code-times m laws (f.row k) (get_or (s k) i.0 0)))
        ∙ sym (code_sum m laws n (λ k. times m (f.row k) (get_or (s k) i.0 0)))

    pub fits_solves : (f : Frame) (s : ℕ → List ℕ) → Fits n size m s f → Solves (scalars m laws) n (coded s) (equation f)
    unfolding equation
    fits_solves f s h i = by_codes f s i ∙ ap (code m laws) (h i.0 i.1)

    solves_fits : (f : Frame) (s : ℕ → List ℕ) → Codes m.q size f.payload → Solves (scalars m laws) n (coded s) (equation f) → Fits n size m s f
    unfolding equation
    solves_fits f s c h p l =
        code_same m laws (sum-code m laws n (λ k. times m (f.row k) (get_or (s k) p 0))) (c.codes p l) (sym (by_codes f s (p, l)) ∙ h (p, l))

    pub fitting_solves : (frames : List Frame) (s : ℕ → List ℕ) → Fitting n size m frames s
        → SolvesAll (scalars m laws) n (coded s) (Among (equations frames))
    fitting_solves frames s h e i =
        let r = among-frame frames e i in
        subst (Solves (scalars m laws) n (coded s)) (sym r.2) (fits_solves r.0 s (h.fits r.0 r.1))

    pub solves_fitting : (frames : List Frame) (z : ℕ → Place size → Code m) → AllProper n size m.q frames
        → SolvesAll (scalars m laws) n z (Among (equations frames)) → Fitting n size m frames (numbers z)
    solves_fitting frames z proper h = record {
      stream = λ k _. numbers-codes z k;
      fits = λ f i. solves_fits f (numbers z) (proper f i).payload_codes
          (subst (λ y. Solves (scalars m laws) n y (equation f)) (sym (coded-numbers z)) (h (equation f) (among frames f i)));
    }
