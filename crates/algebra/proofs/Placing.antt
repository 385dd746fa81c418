-- A frame is placed: for each number below r the released packet is subtracted, and the coefficients from r on go
-- into a ring. Numbers are taken in rising order; those below b are done.
use Rattle.std.proofs.Common.{◌≡◌, ℕ, suc, ◌+◌, ◌%◌, ◌<◌, ◌≤◌, ◌≢◌, ◌⊎◌, List, get_or, set, replicate, Option, sym, refl, ap, ◌∙◌, ap₂, inl, inr, mod-lt, arith, length-set, get_or-set_other, get_or-set_same}
use native.Mathlib.Decide.{ℕ_discrete, dec_lt}
use lib.ListN.{length-replicate, get_or-replicate}
use Rattle.algebra.specs.Frames.{Codes, Frame, Proper}
use Rattle.algebra.proofs.Scalars.{zero_add, mul_zero, carry_over}
use Rattle.algebra.proofs.Equations.{Span, Span.given, Span.nothing, Span.sums, Span.multiple, null, added, multiplied, equation_path}
use Rattle.algebra.proofs.Systems.{In}
use Rattle.algebra.proofs.Release.{unit, unit_here, unit_other, alone, system_below}
use Rattle.algebra.proofs.Codes.{Code, code, q_pos, code_zero, code-less}
use Rattle.algebra.proofs.Words.{Place, equation}
use Rattle.algebra.proofs.Ring.{Side, side, apart}
use Rattle.algebra.proofs.Setting.{Setting, field, Eqn}
use Rattle.algebra.proofs.Lines.{Lessened, lessened_codes, line, line_in, line-out, line-pay}
use Rattle.algebra.proofs.Tables.{lines, packet, packet-is, whole}
use Rattle.algebra.proofs.Represents.{Represents}

module _ {Row : Type 0} (S : Setting Row)
    {accepted : List Frame} {fresh r : ℕ} {released : List (List ℕ)} {kept : ℕ → List ℕ} {table : ℕ → Option Row}
    (rep : Represents S accepted fresh r released kept table) (f : Frame) (proper : Proper S.n S.size S.m.q f) where
  open S use {payload, w, size, w_pos, m, laws}

  infixl 60 ◌⊞◌
  infixl 70 ◌⊡◌
  open field S use {𝟘, 𝟙, ◌⊞◌, ◌⊡◌, neg, add_zero, mul_one}

  -- what the frame says is what xs and ps say from r on, and a combination of the released packets
  pub record Placed (b : ℕ) (xs ps : List ℕ) : Type 0 where
    pub slots_codes : Codes m.q w xs
    pub payload_codes : Codes m.q size ps
    -- from r on the coefficients below b stand at their places, and the others are still 0
    pub here : (k : ℕ) → r ≤ k → k < r + w → k < b → get_or xs (k % w) 0 ≡ f.row k
    pub ahead : (k : ℕ) → r ≤ k → k < r + w → b ≤ k → get_or xs (k % w) 0 ≡ 0
    -- what was subtracted has the coefficients below both b and r
    pub taken : Eqn S
    pub span : Span (field S) (In (whole S r released table)) taken
    pub behind : (k : ℕ) → k < b → k < r → taken.row k ≡ code m laws (f.row k)
    pub beyond : (k : ℕ) → (b ≤ k) ⊎ (r ≤ k) → taken.row k ≡ 𝟘
    pub pays : (i : Place size) → code m laws (get_or f.payload i.0 0) ≡ code m laws (get_or ps i.0 0) ⊞ taken.pay i

  -- at first: b is where the row begins, or before
  pub placed-none : (b : ℕ) → ((k : ℕ) → k < b → f.row k ≡ 0) → Placed b (replicate w 0) f.payload
  placed-none b z = record {
    slots_codes = record { long = length-replicate w 0; codes = λ i l. let e = empty i l in let p = q_pos m laws in omega arith };
    payload_codes = proper.payload_codes;
    here = λ k _ _ l. empty (k % w) (mod-lt k w_pos) ∙ sym (z k l);
    ahead = λ k _ _ _. empty (k % w) (mod-lt k w_pos);
    taken = null (field S);
    span = nothing;
    behind = λ k l _. sym (ap (code m laws) (z k l) ∙ code_zero m laws);
    beyond = λ k _. refl;
    pays = λ i. sym (add_zero (code m laws (get_or f.payload i.0 0)));
  }
    where
      empty : (i : ℕ) → i < w → get_or (replicate {A = ℕ} w 0) i 0 ≡ 0
      empty i l = get_or-replicate w i 0 0 l

  -- a coefficient below r: the released packet is subtracted
  pub placed-released : {b a : ℕ} {xs ps os : List ℕ} → Placed b xs ps → a ≡ f.row b → b < r → r ≤ b + w → Lessened m a ps (kept (b % w)) os → Placed (suc b) xs os
  placed-released {b} {a} {xs} {ps} {os} p is low near l = record {
    slots_codes = p.slots_codes;
    payload_codes = lessened_codes m laws size a ps p.payload_codes (kept (b % w)) os l;
    here = λ k h u l. absurd (omega arith);
    ahead = λ k h u _. p.ahead k h u (omega arith);
    taken = added (field S) (multiplied (field S) c one) p.taken;
    span = sums (multiple c (given (b, system_below (field S) r (packet S released) (lines S r table) b low))) p.span;
    behind = λ k u h. behind k u h (ℕ_discrete k b);
    beyond = beyond;
    pays = pays;
  }
    where
      c : Code m
      c = code m laws a

      one : Eqn S
      one = alone (field S) b (packet S released b)

      other : (k : ℕ) → k ≢ b → c ⊡ one.row k ⊞ p.taken.row k ≡ p.taken.row k
      other k ne =
          ap (λ x. c ⊡ x ⊞ p.taken.row k) (unit_other (field S) b k ne)
          ∙ ap (λ x. x ⊞ p.taken.row k) (mul_zero (field S) c) ∙ zero_add (field S) (p.taken.row k)

      behind : (k : ℕ) → k < suc b → k < r → Dec (k ≡ b) → c ⊡ one.row k ⊞ p.taken.row k ≡ code m laws (f.row k)
      behind k u h (no ne) = other k ne ∙ p.behind k (omega arith) h
      behind k u h (yes e) =
          ap₂ (λ x y. c ⊡ x ⊞ y) (ap (unit (field S) b) e ∙ unit_here (field S) b) (p.beyond k (inl (omega arith)))
          ∙ add_zero (c ⊡ 𝟙) ∙ mul_one c ∙ ap (code m laws) (is ∙ ap f.row (sym e))

      beyond : (k : ℕ) → (suc b ≤ k) ⊎ (r ≤ k) → c ⊡ one.row k ⊞ p.taken.row k ≡ 𝟘
      beyond k (inl u) = other k (omega arith) ∙ p.beyond k (inl (omega arith))
      beyond k (inr u) = other k (omega arith) ∙ p.beyond k (inr u)

      pays : (i : Place size) → code m laws (get_or f.payload i.0 0) ≡ code m laws (get_or os i.0 0) ⊞ (c ⊡ one.pay i ⊞ p.taken.pay i)
      pays i =
          p.pays i
          ∙ carry_over (field S) c (code m laws (get_or ps i.0 0)) (one.pay i) (p.taken.pay i)
          ∙ ap (λ x. x ⊞ (c ⊡ one.pay i ⊞ p.taken.pay i)) (sym less)
        where
          less : code m laws (get_or os i.0 0) ≡ code m laws (get_or ps i.0 0) ⊞ neg c ⊡ one.pay i
          less =
              ap (code m laws) (l.each i.0 (let a = i.1 in omega (arith, p.payload_codes.long)))
              ∙ code-less m laws (get_or ps i.0 0) a (get_or (kept (b % w)) i.0 0)
              ∙ ap (λ x. code m laws (get_or ps i.0 0) ⊞ neg c ⊡ x)
              (ap (λ x. code m laws (get_or x i.0 0)) (rep.copies b low near) ∙ sym (packet-is S released b i))

  -- a coefficient from r on: it goes to its place
  pub placed-slot : {b a : ℕ} {xs ps : List ℕ} → Placed b xs ps → a ≡ f.row b → r ≤ b → b < r + w → Placed (suc b) (set xs (b % w) a) ps
  placed-slot {b} {a} {xs} {ps} p is low high = record {
    slots_codes = record { long = length-set xs (b % w) a ∙ p.slots_codes.long; codes = λ i l. codes i l (ℕ_discrete i (b % w)) };
    payload_codes = p.payload_codes;
    here = λ k h u l. here k h u l (ℕ_discrete k b);
    ahead = λ k h u l. other k h u (omega arith) ∙ p.ahead k h u (omega arith);
    taken = p.taken;
    span = p.span;
    behind = λ k _ h. p.behind k (omega arith) h;
    beyond = beyond;
    pays = p.pays;
  }
    where
      at : get_or (set xs (b % w) a) (b % w) 0 ≡ a
      at = get_or-set_same xs (b % w) a 0 (let l = mod-lt b w_pos in omega (arith, p.slots_codes.long))

      other : (k : ℕ) → r ≤ k → k < r + w → k ≢ b → get_or (set xs (b % w) a) (k % w) 0 ≡ get_or xs (k % w) 0
      other k h u ne = get_or-set_other xs (b % w) (k % w) a 0 (apart w r k b h u low high ne)

      codes : (i : ℕ) → i < w → Dec (i ≡ b % w) → get_or (set xs (b % w) a) i 0 < m.q
      codes i l (yes e) = let a = ap (λ x. get_or (set xs (b % w) a) x 0) e ∙ at ∙ is in let z = proper.row_codes b in omega arith
      codes i l (no ne) = let a = get_or-set_other xs (b % w) i a 0 ne in let z = p.slots_codes.codes i l in omega arith

      here : (k : ℕ) → r ≤ k → k < r + w → k < suc b → Dec (k ≡ b) → get_or (set xs (b % w) a) (k % w) 0 ≡ f.row k
      here k h u l (yes e) = ap (λ x. get_or (set xs (b % w) a) (x % w) 0) e ∙ at ∙ is ∙ ap f.row (sym e)
      here k h u l (no ne) = other k h u ne ∙ p.here k h u (omega arith)

      beyond : (k : ℕ) → (suc b ≤ k) ⊎ (r ≤ k) → p.taken.row k ≡ 𝟘
      beyond k (inl u) = p.beyond k (inl (omega arith))
      beyond k (inr u) = p.beyond k (inr u)

  -- at the end the frame is the line and what was taken
  pub placed-all : {b : ℕ} {xs ps : List ℕ} (p : Placed b xs ps) → ((k : ℕ) → b ≤ k → f.row k ≡ 0) → b ≤ r + w
      → equation size m laws f ≡ added (field S) (line S r xs ps) p.taken
  unfolding equation
  placed-all {b} {xs} {ps} p z end =
      equation_path (field S) (equation size m laws f) (added (field S) (line S r xs ps) p.taken)
      (λ k. row k (side w r k) (dec_lt k b))
      (λ i. p.pays i ∙ ap (λ x. x ⊞ p.taken.pay i) (sym (line-pay S r xs ps i)))
    where
      nil : (k : ℕ) → b ≤ k → code m laws (f.row k) ≡ 𝟘
      nil k l = ap (code m laws) (z k l) ∙ code_zero m laws

      row : (k : ℕ) → Side w r k → Dec (k < b) → code m laws (f.row k) ≡ (line S r xs ps).row k ⊞ p.taken.row k
      row k (inl (l, h)) d =
          go d ∙ sym (ap₂ (λ x y. x ⊞ y) (line_in S r xs ps k l h) (p.beyond k (inr l)) ∙ add_zero (code m laws (get_or xs (k % w) 0)))
        where
          go : Dec (k < b) → code m laws (f.row k) ≡ code m laws (get_or xs (k % w) 0)
          go (yes u) = ap (code m laws) (sym (p.here k l h u))
          go (no u) = ap (code m laws) (z k (omega arith) ∙ sym (p.ahead k l h (omega arith)))
      row k (inr (inl h)) d =
          go d ∙ sym (ap (λ x. x ⊞ p.taken.row k) (line-out S r xs ps k (inl h)) ∙ zero_add (field S) (p.taken.row k))
        where
          go : Dec (k < b) → code m laws (f.row k) ≡ p.taken.row k
          go (yes u) = sym (p.behind k u h)
          go (no u) = nil k (omega arith) ∙ sym (p.beyond k (inl (omega arith)))
      row k (inr (inr h)) _ =
          nil k (omega arith)
          ∙ sym (ap₂ (λ x y. x ⊞ y) (line-out S r xs ps k (inr h)) (p.beyond k (inr (omega arith))) ∙ add_zero 𝟘)
