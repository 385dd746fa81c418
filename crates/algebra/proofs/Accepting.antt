-- What comes of a frame, by what is left of it: a repeat, a contradiction, or a fresh frame, whose line joins the table.
use Rattle.std.proofs.Common.{◌≡◌, ℕ, ◌+◌, ◌-◌, ◌%◌, ◌<◌, ◌≤◌, ◌≢◌, ◌⊎◌, List, ◌∷◌, get_or, Some, None, Option, sym, refl, ap, ◌∙◌, subst, inl, inr, mod-lt, arith}
use mathlib.Core.List.Memᴰ
use mathlib.Core.List.{Memᴰ}
use native.Mathlib.Decide.{ℕ_discrete, dec_lt}
use Rattle.field.specs.Field.{inverse}
use Rattle.algebra.specs.Frames.{Codes, Frame, Proper}
use Rattle.algebra.specs.Streams.{Fitting}
use Rattle.algebra.specs.Combinations.{rows, Spanned}
use Rattle.algebra.specs.Promises.{Contradicts, RightAnswer}
use Rattle.algebra.proofs.Equations.{Among, Bounded, null, multiplied, equation_path}
use Rattle.algebra.proofs.Systems.{some_same, some_or_none, System, look}
use Rattle.algebra.proofs.Count.{count}
use Rattle.algebra.proofs.Insert.{insert, insert_count}
use Rattle.algebra.proofs.Holds.{Holds, Rest, some-stream, zero_known, known_zero, contradiction, rest-bounded, repeat_holds, fresh_holds}
use Rattle.algebra.proofs.Codes.{Code, code, q_pos, code_zero, code_one, code_same, code-times}
use Rattle.algebra.proofs.Words.{Place, AllProper, equation, equations, coded, numbers, fits_solves, fitting_solves, solves_fitting}
use Rattle.algebra.proofs.Rows.{spanned-known, known-spanned}
use Rattle.algebra.proofs.Ring.{Side, side}
use Rattle.algebra.proofs.Setting.{Setting, field, Eqn}
use Rattle.algebra.proofs.Lines.{lessened_codes, Scaled, scaled-codes, line, line_in, line-out, line-pay, scaled-line}
use Rattle.algebra.proofs.Tables.{whole, Joined, joins}
use Rattle.algebra.proofs.Represents.{Represents}
use Rattle.algebra.proofs.Reducing.{Left, left-all}

module _ {Row : Type 0} (S : Setting Row) where
  open S use {slots, payload, w, n, size, w_pos, size_pos, m, laws}

  -- some stream fits all accepted frames
  pub consistent : {accepted : List Frame} {fresh r : ℕ} {released : List (List ℕ)} {kept : ℕ → List ℕ} {table : ℕ → Option Row}
      → Represents S accepted fresh r released kept table → (s : ℕ → List ℕ) × Fitting n size m accepted s
  consistent {accepted} {r} {released} {table} rep =
      let s = some-stream (field S) n (whole S r released table) (Among (equations size m laws accepted)) rep.holds in
      (numbers size m laws s.0, solves_fitting size m laws n accepted s.0 rep.proper s.1)

  module _ {accepted : List Frame} {fresh r : ℕ} {released : List (List ℕ)} {kept : ℕ → List ℕ} {table : ℕ → Option Row}
      (rep : Represents S accepted fresh r released kept table) (f : Frame) (proper : Proper n size m.q f)
      {xs ps : List ℕ} (left : Left S rep f proper w xs ps) where
    infixl 70 ◌⊡◌
    open field S use {𝟘, 𝟙, ◌⊡◌, mul_comm}

    -- the line that is left, what it is left of, and the system
    abbrev g : Eqn S
    g = line S r xs ps

    abbrev e : Eqn S
    e = equation size m laws f

    abbrev b : System (Code m) (Place size)
    b = whole S r released table

    abbrev Acc : Eqn S → Type 0
    Acc = Among (equations size m laws accepted)

    rest : Rest (field S) n b e g
    rest = left-all S rep f proper left

    bounded : Bounded (field S) n e
    unfolding equation
    bounded k l = ap (code m laws) (proper.row_ends k l) ∙ code_zero m laws

    more-proper : AllProper n size m.q (f ∷ accepted)
    more-proper x i = go (Memᴰ.cases_cons i)
      where
        go : (x ≡ f) ⊎ Memᴰ x accepted → Proper n size m.q x
        go (inl s) = subst (Proper n size m.q) (sym s) proper
        go (inr j) = rep.proper x j

    -- the line is 0
    module _ (zeros : (j : ℕ) → j < w → get_or xs ((r + j) % w) 0 ≡ 0) where
      slot : (k : ℕ) → r ≤ k → k < r + w → get_or xs (k % w) 0 ≡ 0
      slot k l h = ap (λ x. get_or xs (x % w) 0) (let e : k ≡ r + (k - r) = omega arith in e) ∙ zeros (k - r) (omega arith)

      line_zero : (k : ℕ) → g.row k ≡ 𝟘
      line_zero k = go (side w r k)
        where
          go : Side w r k → g.row k ≡ 𝟘
          go (inl (l, h)) = line_in S r xs ps k l h ∙ ap (code m laws) (slot k l h) ∙ code_zero m laws
          go (inr o) = line-out S r xs ps k o

      -- the row is a combination of the rows accepted before
      pub zero_spanned : Spanned m (rows accepted) f.row
      zero_spanned = known-spanned m laws size accepted f proper.row_codes (zero_known (field S) n b Acc rep.holds e g rest line_zero)

      -- where the payload is not 0, no stream fits
      pub clash_contradicts : (i : ℕ) → i < size → get_or ps i 0 ≢ 0 → Contradicts n size m accepted f
      unfolding equations
      clash_contradicts i l ne s fit =
          contradiction (field S) n b Acc rep.holds e g rest (λ k _. line_zero k) (i, l) lead (coded size m laws s)
          (λ x h. fitting_solves size m laws n (f ∷ accepted) s fit x (inr h))
          (fits_solves size m laws n f s (fit.fits f (Memᴰ.head refl)))
        where
          lead : g.pay (i, l) ≢ 𝟘
          lead z = ne (code_same m laws (left.payload_codes.codes i l) (q_pos m laws) (sym (line-pay S r xs ps (i, l)) ∙ z ∙ sym (code_zero m laws)))

      -- where it is 0 too, the state stands for the frame as well
      pub repeat_represents : ((i : ℕ) → i < size → get_or ps i 0 ≡ 0) → Represents S (f ∷ accepted) fresh r released kept table
      unfolding equations
      repeat_represents z = record {
        proper = more-proper;
        most = rep.most;
        many = rep.many;
        packets = rep.packets;
        copies = rep.copies;
        codes = rep.codes;
        holds = repeat_holds (field S) n b Acc rep.holds e g rest
            (equation_path (field S) g (null (field S)) line_zero
            (λ i. line-pay S r xs ps i ∙ ap (code m laws) (z i.0 i.1) ∙ code_zero m laws));
        counted = rep.counted;
      }

      -- so these are the right answers
      pub answers_repeat : ((i : ℕ) → i < size → get_or ps i 0 ≡ 0) → {Fresh Refused : Type 0} → (Fresh → ⊥) → (Refused → ⊥) → RightAnswer n size m accepted f Fresh Refused
      answers_repeat z fresh refused =
          let s = consistent (repeat_represents z) in
          record { fresh = (λ x. absurd (fresh x), λ new. absurd (new zero_spanned)); refused = (λ x. absurd (refused x), λ never. absurd (never s.0 s.1)) }

      pub answers_contradiction : (i : ℕ) → i < size → get_or ps i 0 ≢ 0 → {Fresh Refused : Type 0} → (Fresh → ⊥) → Refused → RightAnswer n size m accepted f Fresh Refused
      answers_contradiction i l ne fresh refused =
          record { fresh = (λ x. absurd (fresh x), λ new. absurd (new zero_spanned)); refused = (λ _. clash_contradicts i l ne, λ _. refused) }

    -- the line begins at a distance d past r
    module _ (d : ℕ) (near : d < w) (first : (j : ℕ) → j < d → get_or xs ((r + j) % w) 0 ≡ 0) (lead : get_or xs ((r + d) % w) 0 ≢ 0) where
      abbrev p : ℕ
      p = r + d

      low : r ≤ p
      low = omega arith

      high : p < r + w
      high = omega arith

      lead_code : g.row p ≢ 𝟘
      lead_code z =
          lead (code_same m laws (left.slots_codes.codes (p % w) (mod-lt p w_pos)) (q_pos m laws)
          (sym (line_in S r xs ps p low high) ∙ z ∙ sym (code_zero m laws)))

      within : p < n
      within = go (dec_lt p n)
        where
          go : Dec (p < n) → p < n
          go (yes l) = l
          go (no l) = absurd (lead_code (rest-bounded (field S) n b Acc rep.holds e g rest bounded p (omega arith)))

      -- the row is no combination of the rows accepted before
      pub fresh-unspanned : Spanned m (rows accepted) f.row → ⊥
      fresh-unspanned s =
          lead_code (known_zero (field S) n b Acc rep.holds e g rest (0, size_pos) (spanned-known m laws size accepted f s) p within)

      -- scaled to 1 there it joins the table
      pub fresh_represents : (c : ℕ) → inverse m (get_or xs ((r + d) % w) 0) ≡ Some c → (h : Row) → Scaled m c xs (slots h) → Scaled m c ps (payload h)
          → (table' : ℕ → Option Row) → Joined S ((r + d) % w) h table table'
          → Represents S (f ∷ accepted) (fresh + 1) r released kept table'
      unfolding equations
      fresh_represents c inv h sx sp table' joined = record {
        proper = more-proper;
        most = rep.most;
        many = rep.many;
        packets = rep.packets;
        copies = rep.copies;
        codes = λ i x l s. codes i x l s (ℕ_discrete i (p % w));
        holds = subst (λ b. Holds (field S) n b (Among (equations size m laws (f ∷ accepted)))) (sym grown)
            (fresh_holds (field S) n b Acc rep.holds e g rest bounded p within before (code m laws c) one);
        counted = ap (λ b. count b n) grown
            ∙ insert_count (field S) b p (multiplied (field S) (code m laws c) g) n within unused ∙ omega (arith, rep.counted);
      }
        where
          a : ℕ
          a = get_or xs (p % w) 0

          one : code m laws c ⊡ g.row p ≡ 𝟙
          one =
              ap (λ x. code m laws c ⊡ x) (line_in S r xs ps p low high)
              ∙ mul_comm (code m laws c) (code m laws a) ∙ sym (code-times m laws a c) ∙ ap (code m laws) (laws.times_inverse a c inv) ∙ code_one m laws

          grown : whole S r released table' ≡ insert (field S) b p (multiplied (field S) (code m laws c) g)
          grown =
              joins S r released table table' p h low high rep.codes joined
              ∙ ap (insert (field S) b p) (scaled-line S c r xs ps left.slots_codes left.payload_codes (slots h) (payload h) sx sp)

          unused : b p ≡ None
          unused = go (look (b p))
            where
              go : (b p ≡ None) ⊎ ((t : Eqn S) × (b p ≡ Some t)) → b p ≡ None
              go (inl z) = z
              go (inr t) = absurd (lead_code (rest.gone p t.0 t.1))

          before : (k : ℕ) → k < p → g.row k ≡ 𝟘
          before k l = go (dec_lt k r)
            where
              go : Dec (k < r) → g.row k ≡ 𝟘
              go (yes u) = line-out S r xs ps k (inl u)
              go (no u) = line_in S r xs ps k (omega arith) (omega arith) ∙ ap (code m laws) (ap (λ x. get_or xs (x % w) 0) (let e : k ≡ r + (k - r) = omega arith in e) ∙ first (k - r) (omega arith)) ∙ code_zero m laws

          codes : (i : ℕ) (x : Row) → i < w → table' i ≡ Some x → Dec (i ≡ p % w) → Codes m.q w (slots x) × Codes m.q size (payload x)
          codes i x l s (yes q) =
              subst (λ x. Codes m.q w (slots x) × Codes m.q size (payload x)) (some_same (ap table' q ∙ joined.here) s)
              (scaled-codes m laws w c xs left.slots_codes (slots h) sx, scaled-codes m laws size c ps left.payload_codes (payload h) sp)
          codes i x l s (no ne) = go (look (table i))
            where
              go : (table i ≡ None) ⊎ ((y : Row) × (table i ≡ Some y)) → Codes m.q w (slots x) × Codes m.q size (payload x)
              go (inl z) = absurd (some_or_none s (joined.none_more i l ne z))
              go (inr (y, z)) =
                  let d = joined.cleared i y l ne z in
                  let k = rep.codes i y l z in
                  subst (λ x. Codes m.q w (slots x) × Codes m.q size (payload x)) (some_same d.1 s)
                  (lessened_codes m laws w (get_or (slots y) (p % w) 0) (slots y) k.0 (slots h) (slots d.0) d.2, lessened_codes m laws size (get_or (slots y) (p % w) 0) (payload y) k.1 (payload h) (payload d.0) d.3)

      -- so this is the right answer
      pub answers_fresh : (c : ℕ) → inverse m (get_or xs ((r + d) % w) 0) ≡ Some c → (h : Row) → Scaled m c xs (slots h) → Scaled m c ps (payload h)
          → (table' : ℕ → Option Row) → Joined S ((r + d) % w) h table table'
          → {Fresh Refused : Type 0} → Fresh → (Refused → ⊥) → RightAnswer n size m accepted f Fresh Refused
      answers_fresh c inv h sx sp table' joined fresh refused =
          let s = consistent (fresh_represents c inv h sx sp table' joined) in
          record { fresh = (λ _. fresh-unspanned, λ _. fresh); refused = (λ x. absurd (refused x), λ never. absurd (never s.0 s.1)) }
