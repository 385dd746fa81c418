-- A row by its base and slots.
use Rattle.std.proofs.Common.{◌≡◌, ℕ, ◌+◌, ◌-◌, ◌<◌, ◌≤◌, ltb, List, get_or, sym, ap, ◌∙◌, subst, zero-add, arith}
use native.Mathlib.Decide.{dec_lt}
use lib.ListN.{get_or-eq_default}
use Rattle.std.proofs.lemmas.Bool.{lt-ltb, le-ltb, cond-true, cond-false}
use Rattle.algebra.specs.Frames.{Codes, row_at, frame_at, Proper}

module _ (base : ℕ) (slots : List ℕ) where
  pub row_before : (k : ℕ) → k < base → row_at base slots k ≡ 0
  unfolding row_at
  row_before k l = cond-true (ltb k base) 0 (get_or slots (k - base) 0) (lt-ltb k base l)

  from-base : (k : ℕ) → base ≤ k → row_at base slots k ≡ get_or slots (k - base) 0
  unfolding row_at
  from-base k l = cond-false (ltb k base) 0 (get_or slots (k - base) 0) (le-ltb k base l)

  pub row-slot : (i : ℕ) → row_at base slots (base + i) ≡ get_or slots i 0
  row-slot i = from-base (base + i) (omega arith) ∙ ap (λ j. get_or slots j 0) (let e : base + i - base ≡ i = omega arith in e)

  -- slots that are 0 from the width on
  module _ (width : ℕ) (rest : (i : ℕ) → width ≤ i → get_or slots i 0 ≡ 0) where
    pub row-after : (k : ℕ) → base + width ≤ k → row_at base slots k ≡ 0
    row-after k l = from-base k (omega arith) ∙ rest (k - base) (omega arith)

    pub proper-frame : (n size q w : ℕ) (payload : List ℕ) → 0 < q → base + width ≤ n → Codes q w slots → Codes q size payload
        → Proper n size q (frame_at base slots payload)
    proper-frame n size q w payload q_pos end cs cp = record {
      row_codes = λ k. code k (dec_lt k base);
      row_ends = λ k l. row-after k (omega arith);
      payload_codes = cp;
    }
      where
        slot : (i : ℕ) → Dec (i < w) → get_or slots i 0 < q
        slot i (yes l) = cs.codes i l
        slot i (no l) = subst (λ x. x < q) (sym (get_or-eq_default slots 0 {n = i} (omega (arith, cs.long)))) q_pos

        code : (k : ℕ) → Dec (k < base) → row_at base slots k < q
        code k (yes l) = subst (λ x. x < q) (sym (row_before k l)) q_pos
        code k (no l) = subst (λ x. x < q) (sym (from-base k (omega arith))) (slot (k - base) (dec_lt (k - base) w))

pub row-slot_zero : (slots : List ℕ) (k : ℕ) → row_at 0 slots k ≡ get_or slots k 0
row-slot_zero slots k = ap (row_at 0 slots) (sym (zero-add k)) ∙ row-slot 0 slots k
