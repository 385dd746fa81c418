-- What is left of a frame is reduced by the table: multiples of its rows are subtracted, place by place, until the line is 0
-- at each place where the table has a row. The places below i are done.
use Rattle.std.proofs.Common.{◌≡◌, ℕ, suc, ◌+◌, ◌%◌, ◌<◌, ◌≤◌, ◌⊎◌, List, get_or, Some, None, Option, sym, ap, ◌∙◌, ap₂, inl, inr, mod-lt, arith}
use native.Mathlib.Decide.{ℕ_discrete}
use Rattle.algebra.specs.Frames.{Codes, Frame, Proper}
use Rattle.algebra.proofs.Scalars.{mul_zero, carry_over}
use Rattle.algebra.proofs.Equations.{Span, Span.given, Span.sums, Span.multiple, added, multiplied, less, equation_path}
use Rattle.algebra.proofs.Systems.{look, In, some_or_none}
use Rattle.algebra.proofs.Holds.{Rest}
use Rattle.algebra.proofs.Release.{system_above}
use Rattle.algebra.proofs.Codes.{Code, code, q_pos, code_zero, code_one, code_same, code-less}
use Rattle.algebra.proofs.Words.{equation}
use Rattle.algebra.proofs.Ring.{Side, side, at_place}
use Rattle.algebra.proofs.Setting.{Setting, field, Eqn}
use Rattle.algebra.proofs.Lines.{Lessened, lessened_codes, line, line_in, line-out, lessened_line}
use Rattle.algebra.proofs.Tables.{row_line, lines, lines_none, packet, whole}
use Rattle.algebra.proofs.Represents.{Represents, whole-some, one_there, zero_there}
use Rattle.algebra.proofs.Placing.{Placed, placed-all}

module _ {Row : Type 0} (S : Setting Row)
    {accepted : List Frame} {fresh r : ℕ} {released : List (List ℕ)} {kept : ℕ → List ℕ} {table : ℕ → Option Row}
    (rep : Represents S accepted fresh r released kept table) (f : Frame) (proper : Proper S.n S.size S.m.q f) where
  open S use {slots, payload, w, n, size, w_pos, m, laws}

  infixl 60 ◌⊞◌
  infixl 70 ◌⊡◌
  open field S use {𝟘, ◌⊞◌, ◌⊡◌, neg, add_zero, add_neg, mul_one}

  -- what the frame says is what xs and ps say, and a combination of the released packets and the table
  pub record Left (i : ℕ) (xs ps : List ℕ) : Type 0 where
    pub slots_codes : Codes m.q w xs
    pub payload_codes : Codes m.q size ps
    pub taken : Eqn S
    pub span : Span (field S) (In (whole S r released table)) taken
    pub all : equation size m laws f ≡ added (field S) (line S r xs ps) taken
    pub gone : (j : ℕ) (y : Row) → j < i → table j ≡ Some y → get_or xs j 0 ≡ 0

  -- at first: b is where the row ends, or past it
  pub left-none : {b : ℕ} {xs ps : List ℕ} → Placed S rep f proper b xs ps → ((k : ℕ) → b ≤ k → f.row k ≡ 0) → b ≤ r + w
      → Left 0 xs ps
  left-none p z end = record {
    slots_codes = p.slots_codes;
    payload_codes = p.payload_codes;
    taken = p.taken;
    span = p.span;
    all = placed-all S rep f proper p z end;
    gone = λ j y l. absurd (omega arith);
  }

  -- a place where the table has no row
  pub left_skip : {i : ℕ} {xs ps : List ℕ} → Left i xs ps → table i ≡ None → Left (suc i) xs ps
  left_skip {i} {xs} p e = record {
    slots_codes = p.slots_codes;
    payload_codes = p.payload_codes;
    taken = p.taken;
    span = p.span;
    all = p.all;
    gone = λ j y l h. gone j y l h (ℕ_discrete j i);
  }
    where
      gone : (j : ℕ) (y : Row) → j < suc i → table j ≡ Some y → Dec (j ≡ i) → get_or xs j 0 ≡ 0
      gone j y l h (yes s) = absurd (let z : table i ≡ Some y = ap table (sym s) ∙ h in let x : ◌≡◌ {A = ℕ} 0 1 = cc in omega arith)
      gone j y l h (no ne) = p.gone j y (omega arith) h

  -- a place where it has the row y, which is 1 there
  pub left_less : {i : ℕ} {xs ps zs os : List ℕ} → Left i xs ps → (y : Row) → i < w → table i ≡ Some y
      → Lessened m (get_or xs i 0) xs (slots y) zs → Lessened m (get_or xs i 0) ps (payload y) os → Left (suc i) zs os
  left_less {i} {xs} {ps} {zs} {os} p y low e lx lp = record {
    slots_codes = lessened_codes m laws w a xs p.slots_codes (slots y) zs lx;
    payload_codes = lessened_codes m laws size a ps p.payload_codes (payload y) os lp;
    taken = added (field S) (multiplied (field S) c yl) p.taken;
    span = sums (multiple c (given (number.0, whole-some S rep number.0 y number.1 number.2 (ap table number.3 ∙ e)))) p.span;
    all = p.all ∙ equation_path (field S) (added (field S) xl p.taken)
        (added (field S) (line S r zs os) (added (field S) (multiplied (field S) c yl) p.taken))
        (λ k. carry_over (field S) c (xl.row k) (yl.row k) (p.taken.row k) ∙ ap (λ z. z.row k ⊞ (c ⊡ yl.row k ⊞ p.taken.row k)) (sym lessened))
        (λ k. carry_over (field S) c (xl.pay k) (yl.pay k) (p.taken.pay k) ∙ ap (λ z. z.pay k ⊞ (c ⊡ yl.pay k ⊞ p.taken.pay k)) (sym lessened));
    gone = λ j z l h. gone j z l h (ℕ_discrete j i);
  }
    where
      a : ℕ
      a = get_or xs i 0

      c : Code m
      c = code m laws a

      xl : Eqn S
      xl = line S r xs ps

      yl : Eqn S
      yl = row_line S r y

      number : (k : ℕ) × (r ≤ k) × (k < r + w) × (k % w ≡ i)
      number = at_place w r i low

      lessened : line S r zs os ≡ less (field S) xl c yl
      lessened = lessened_line S a r xs ps p.slots_codes p.payload_codes (slots y) (payload y) zs os lx lp

      -- at j the line was x and y has z there
      at : (j : ℕ) → j < w → code m laws (get_or zs j 0) ≡ code m laws (get_or xs j 0) ⊞ neg c ⊡ code m laws (get_or (slots y) j 0)
      at j l = ap (code m laws) (lx.each j (omega (arith, p.slots_codes.long))) ∙ code-less m laws (get_or xs j 0) a (get_or (slots y) j 0)

      nil : (j : ℕ) → j < w → code m laws (get_or zs j 0) ≡ 𝟘 → get_or zs j 0 ≡ 0
      nil j l z = code_same m laws ((lessened_codes m laws w a xs p.slots_codes (slots y) zs lx).codes j l) (q_pos m laws) (z ∙ sym (code_zero m laws))

      gone : (j : ℕ) (z : Row) → j < suc i → table j ≡ Some z → Dec (j ≡ i) → get_or zs j 0 ≡ 0
      gone j z l h (yes s) =
          ap (λ x. get_or zs x 0) s
          ∙ nil i low (at i low
          ∙ ap (λ x. c ⊞ neg c ⊡ x)
          (ap (λ x. code m laws (get_or (slots y) x 0)) (sym number.3)
          ∙ ap (code m laws) (one_there S rep number.0 y number.1 number.2 (ap table number.3 ∙ e)) ∙ code_one m laws)
          ∙ ap (λ x. c ⊞ x) (mul_one (neg c)) ∙ add_neg c)
      gone j z l h (no ne) =
          let o = at_place w r j (omega arith) in
          nil j (omega arith) (at j (omega arith)
          ∙ ap₂ (λ x y. x ⊞ neg c ⊡ y) (ap (code m laws) (p.gone j z (omega arith) h) ∙ code_zero m laws)
          (ap (λ x. code m laws (get_or (slots y) x 0)) (sym o.3)
          ∙ ap (code m laws) (zero_there S rep number.0 o.0 y z number.1 number.2 o.1 o.2
          (λ s. ne (sym o.3 ∙ ap (λ x. x % w) (sym s) ∙ number.3)) (ap table number.3 ∙ e) (ap table o.3 ∙ h)) ∙ code_zero m laws)
          ∙ ap (λ x. 𝟘 ⊞ x) (mul_zero (field S) (neg c)) ∙ add_zero 𝟘)

  -- at the end the line is what is left of the frame once the system is taken from it
  pub left-all : {xs ps : List ℕ} → Left w xs ps
      → Rest (field S) n (whole S r released table) (equation size m laws f) (line S r xs ps)
  left-all {xs} {ps} p = record { taken = p.taken; span = p.span; whole = p.all; gone = λ k t e. gone k t e (side w r k) }
    where
      gone : (k : ℕ) (t : Eqn S) → whole S r released table k ≡ Some t → Side w r k
          → (line S r xs ps).row k ≡ 𝟘
      gone k t e (inr o) = line-out S r xs ps k o
      gone k t e (inl (l, h)) = line_in S r xs ps k l h ∙ go (look (table (k % w)))
        where
          go : (table (k % w) ≡ None) ⊎ ((y : Row) × (table (k % w) ≡ Some y)) → code m laws (get_or xs (k % w) 0) ≡ 𝟘
          go (inl z) =
              absurd (some_or_none e
              (system_above (field S) r (packet S released) (lines S r table) k l
              ∙ lines_none S r table k l h z))
          go (inr (y, z)) = ap (code m laws) (p.gone (k % w) y (mod-lt k w_pos) z) ∙ code_zero m laws
