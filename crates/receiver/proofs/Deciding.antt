-- What a readable frame in reach leads to, by what is left of it: the right answer, and a state that stands for what is
-- accepted and released then.
use Rattle.std.proofs.Common.{◌≡◌, ℕ, zero, suc, ◌+◌, ◌%◌, ◌<◌, Bool, true, false, cond, eqb, ◌≢◌, List, [], ◌∷◌, ◌++◌, length, get_or, Some, None, Ok, Err, Option, Result, sym, refl, ap, ◌∙◌, subst, ⊎_elim, add-zero, mod-lt, mod-eq_of_lt, arith}
use Rattle.std.proofs.lemmas.List.{append-nil}
use Rattle.std.proofs.lemmas.Bool.{both_ways, not-true, not-false, eqb-true, eqb-false, eq-eqb, and_parts, and_cases}
use Rattle.refusal.specs.declared.Refusal.{Refusal}
use Rattle.refusal.specs.declared.Refusal.TheVariants.{Contradiction}
use Rattle.field.specs.Field.{Means, Laws, inverse}
use Rattle.field.specs.Lists.{zeros}
use Rattle.frame.specs.Proper.{Proper}
use Rattle.frame.specs.declared.data.Data.{Data}
use Rattle.elimination.proofs.Joining.{joined_length}
use Rattle.elimination.proofs.Seeking.{Found, found, absent}
use Rattle.elimination.specs.Absorption.{settled, absorbed, with_pivot}
use Rattle.elimination.specs.Rows.{times_row, scaled, nonzero, first_from}
use Rattle.elimination.specs.Tables.{row_at, reduced}
use Rattle.elimination.specs.declared.row.Row.{Row}
use Rattle.elimination.specs.declared.table.Verdict.TheVariants.{Redundant, Contradictory}
use Rattle.algebra.specs.Frames.{Frame, Proper as Proper-frame}
use Rattle.algebra.specs.Promises.{RightAnswer}
use Rattle.algebra.proofs.Accepting.{repeat_represents, answers_repeat, answers_contradiction, fresh_represents, answers_fresh}
use Rattle.algebra.proofs.Codes.{has_inverse}
use Rattle.algebra.proofs.Lines.{Scaled}
use Rattle.algebra.proofs.Reducing.{Left}
use Rattle.algebra.proofs.Setting.{Setting}
use Rattle.algebra.proofs.Tables.{Joined}
use Rattle.receiver.specs.Alignment.{aligned}
use Rattle.receiver.specs.Arrival.{Outcome, with_table, reaching, fresh, decided, judged}
use Rattle.receiver.specs.Log.{said, with_frame, wrote, fresh_one, with_end}
use Rattle.receiver.specs.Release.{Release, releasing}
use Rattle.receiver.specs.declared.state.Answer.{Answer}
use Rattle.receiver.specs.declared.state.Answer.TheVariants.{Fresh, Repeat}
use Rattle.receiver.specs.declared.state.State.{State}
use Rattle.receiver.proofs.Aligning.{said-proper, left}
use Rattle.receiver.proofs.Arrivals.{Near}
use Rattle.receiver.proofs.Rows.{setting, Stands, Standing, times-is, joined_is}
use Rattle.receiver.proofs.Settling.{Turned, all-turned, standing, written_back}

-- lists of zeros
zeros-all : (xs : List ℕ) → zeros xs ≡ true → (i : ℕ) → i < length xs → get_or xs i 0 ≡ 0
zeros-all [] e i l = absurd (omega arith)
zeros-all (x ∷ xs) e zero l = eqb-true x 0 (and_parts (eqb x 0) (zeros xs) e).0
zeros-all (x ∷ xs) e (suc i) l = zeros-all xs (and_parts (eqb x 0) (zeros xs) e).1 i (omega arith)

zeros_not : (xs : List ℕ) → zeros xs ≡ false → (i : ℕ) × (i < length xs) × (get_or xs i 0 ≢ 0)
zeros_not [] e = absurd (let z : ◌≡◌ {A = ℕ} 0 1 = cc in omega arith)
zeros_not (x ∷ xs) e =
    ⊎_elim (λ s. (0, omega arith, eqb-false x 0 s)) (λ f. let h = zeros_not xs f in (suc h.0, omega (arith, h.1), h.2))
    (and_cases (eqb x 0) (zeros xs) e)

module _ (m : Means) (laws : Laws m) (w : ℕ) (pos : 0 < w) where
  abbrev S : Setting Row
  S = setting m laws w pos

  module _ (accepted : List Frame) (count : ℕ) (released : List (List ℕ)) (c : State) where
    -- what a call leads to that was handed the frame d
    pub record Led (d : Data) (o : Outcome) : Type 0 where
      pub answer : RightAnswer 65536 128 m accepted (said d) ((n : ℕ) × (o.answer ≡ Ok (Fresh n))) (o.answer ≡ Err Contradiction)
      pub only : (e : Refusal) → o.answer ≡ Err e → e ≡ Contradiction
      pub standing : Standing m laws w pos (with_frame o.answer (said d) accepted) (count + fresh_one o.answer) (released ++ wrote o.answer o.numbers) o.state
      pub top : o.state.top ≡ with_end o.answer d c.top

    -- where nothing is released and none is fresh
    pub unchanged : (frames : List Frame) (s : State) → Standing m laws w pos frames count released s → Standing m laws w pos frames (count + 0) (released ++ []) s
    unchanged frames s h =
        subst (λ n. Standing m laws w pos frames n (released ++ []) s) (sym (add-zero count))
        (subst (λ ps. Standing m laws w pos frames count ps s) (sym (append-nil released)) h)

    module _ (now : Standing m laws w pos accepted count released c) (d : Data) (p : Proper m.q w d) (near : Near w c.released d) (numbers : List ℕ) where
      abbrev rep : Stands m laws w pos accepted count released c
      rep = now.stands

      abbrev proper : Proper-frame 65536 128 m.q (said d)
      proper = said-proper m laws w d p

      abbrev x : Row
      x = reduced m w c.table (aligned m w c d)

      rest : Left S rep (said d) proper w x.slots x.payload
      rest = left m laws w pos c rep d p near

      -- the row is 0
      module _ (zero_row : (j : ℕ) → j < w → get_or x.slots ((c.released + j) % w) 0 ≡ 0) where
        led_zero : (b : Bool) → zeros x.payload ≡ b → Led d (decided w c d numbers c.table (cond b Redundant Contradictory))
        led_zero true e =
            let nil : (i : ℕ) → i < 128 → get_or x.payload i 0 ≡ 0 = λ i l. zeros-all x.payload e i (omega (arith, rest.payload_codes.long)) in
            record {
              answer = answers_repeat S rep (said d) proper rest zero_row nil (λ h. differ h.0 h.1) (other Contradiction);
              only = λ e h. absurd (other e h);
              standing = unchanged (said d ∷ accepted) (reaching d c) (record {
                stands = repeat_represents S rep (said d) proper rest zero_row nil;
                rows = now.rows;
                places = now.places;
                settled = now.settled;
              });
              top = refl;
            }
          where
            differ : (n : ℕ) → ◌≡◌ {A = Result Answer Refusal} (Ok Repeat) (Ok (Fresh n)) → ⊥
            differ n h = let z : ◌≡◌ {A = ℕ} 0 1 = cc in omega arith

            other : (e : Refusal) → ◌≡◌ {A = Result Answer Refusal} (Ok Repeat) (Err e) → ⊥
            other e h = let z : ◌≡◌ {A = ℕ} 0 1 = cc in omega arith
        led_zero false e =
            let h = zeros_not x.payload e in record {
              answer = answers_contradiction S rep (said d) proper rest zero_row h.0 (omega (arith, h.1, rest.payload_codes.long)) h.2 (λ h. differ h.0 h.1) refl;
              only = λ e h. cc;
              standing = unchanged accepted c now;
              top = refl;
            }
          where
            differ : (n : ℕ) → ◌≡◌ {A = Result Answer Refusal} (Err Contradiction) (Ok (Fresh n)) → ⊥
            differ n h = let z : ◌≡◌ {A = ℕ} 0 1 = cc in omega arith

      -- the row begins at a distance past the next packet
      module _ (far : ℕ) (f : Found (nonzero w c.released x) 0 w far) where
        abbrev s : ℕ
        s = (c.released + far) % w

        abbrev h : Row
        h = scaled m s x

        low : far < w
        low = omega (arith, f.within)

        before : (j : ℕ) → j < far → get_or x.slots ((c.released + j) % w) 0 ≡ 0
        before j l = eqb-true _ _ (not-false _ (f.first j (omega arith) l))

        lead : get_or x.slots s 0 ≢ 0
        lead z = both_ways _ (not-true _ f.passes) (eq-eqb _ _ z)

        inverted : (i : ℕ) × (inverse m (get_or x.slots s 0) ≡ Some i)
        inverted = has_inverse m (get_or x.slots s 0) (λ z. lead (sym (mod-eq_of_lt (rest.slots_codes.codes s (mod-lt (c.released + far) pos))) ∙ z))

        same : times_row m (Some inverted.0) x ≡ h
        same = ap (λ o. times_row m o x) (sym inverted.1)

        slots : Scaled m inverted.0 x.slots h.slots
        slots = subst (λ (y : Row). Scaled m inverted.0 x.slots y.slots) same (times-is m inverted.0 x.slots)

        payload : Scaled m inverted.0 x.payload h.payload
        payload = subst (λ (y : Row). Scaled m inverted.0 x.payload y.payload) same (times-is m inverted.0 x.payload)

        table : Joined S s h (row_at c.table) (row_at (with_pivot m w s x c.table))
        table = joined_is m laws w pos s h c.table now.rows (mod-lt (c.released + far) pos)

        -- the receiver with the row, before it releases, and what it then releases
        abbrev grown : State
        grown = reaching d (with_table (with_pivot m w s x c.table) c)

        abbrev out : Release
        out = releasing w grown w

        turned : Turned m laws w pos (said d ∷ accepted) (count + 1) released grown w out
        turned = all-turned m laws w pos (said d ∷ accepted) (count + 1) released grown
            (fresh_represents S rep (said d) proper rest far low before lead inverted.0 inverted.1 h slots payload _ table)
            (joined_length m w s h c.table now.rows) now.places

        led_fresh : Led d (fresh numbers out)
        led_fresh = record {
          answer = answers_fresh S rep (said d) proper rest far low before lead inverted.0 inverted.1 h slots payload _ table (length out.packets, refl) (differ Contradiction);
          only = λ e h. absurd (differ e h);
          standing = subst (λ ps. Standing m laws w pos (said d ∷ accepted) (count + 1) (released ++ ps) out.state)
              (sym (written_back m laws w pos (said d ∷ accepted) (count + 1) released grown out turned _))
              (standing m laws w pos (said d ∷ accepted) (count + 1) released grown out turned);
          top = turned.top;
        }
          where
            differ : (e : Refusal) → ◌≡◌ {A = Result Answer Refusal} (Ok (Fresh (length out.packets))) (Err e) → ⊥
            differ e h = let z : ◌≡◌ {A = ℕ} 0 1 = cc in omega arith

      led_by : (o : Option ℕ) → first_from w c.released x ≡ o → Led d (judged w c d numbers (settled m w c.released x c.table o))
      led_by None e = led_zero (λ j l. eqb-true _ _ (not-false _ (absent (nonzero w c.released x) 0 w e j (omega arith) (omega arith)))) (zeros x.payload) refl
      led_by (Some far) e = led_fresh far (found (nonzero w c.released x) 0 w far e)

      pub led : Led d (judged w c d numbers (absorbed m w c.released (aligned m w c d) c.table))
      led = led_by (first_from w c.released x) refl
