-- A table of lines, each at the place of its first number, and with the released packets the system that it stands for:
-- how a line joins it, and how the line that begins at r leaves it.
use Rattle.std.proofs.Common.{◌≡◌, ℕ, suc, ◌+◌, ◌%◌, ◌<◌, ◌≤◌, ◌≢◌, ◌⊎◌, List, [], get_or, Some, None, Option, sym, refl, ap, ◌∙◌, inl, inr, mod-lt, arith}
use mathlib.Core.Path.{fun_ext}
use native.Mathlib.Decide.{ℕ_discrete}
use native.Mathlib.Nat.{add-mod_right}
use Rattle.algebra.specs.Frames.{Codes}
use Rattle.algebra.proofs.Scalars.{take_zero}
use Rattle.algebra.proofs.Equations.{less, equation_path}
use Rattle.algebra.proofs.Systems.{look, System}
use Rattle.algebra.proofs.Insert.{insert, insert_here, insert_other, insert_none}
use Rattle.algebra.proofs.Release.{unit, unit_other, alone, system, system_below, system_above, release}
use Rattle.algebra.proofs.Codes.{Code, code, code_zero, code_one}
use Rattle.algebra.proofs.Words.{Place}
use Rattle.algebra.proofs.Ring.{Side, side, inside, inside_in, inside_out, apart}
use Rattle.algebra.proofs.Setting.{Setting, field, Eqn}
use Rattle.algebra.proofs.Lines.{Lessened, line, line_in, line-out, line-pay, lessened_line}

module _ {Row : Type 0} (S : Setting Row) where
  open S use {slots, payload, w, size, w_pos, m, laws}

  -- h stands at the place p of the new table, and the others there are those of the old one, p cleared
  pub record Joined (p : ℕ) (h : Row) (table table' : ℕ → Option Row) : Type 0 where
    pub here : table' p ≡ Some h
    pub none_more : (i : ℕ) → i < w → i ≢ p → table i ≡ None → table' i ≡ None
    pub cleared : (i : ℕ) (x : Row) → i < w → i ≢ p → table i ≡ Some x
        → (y : Row) × (table' i ≡ Some y) × Lessened m (get_or (slots x) p 0) (slots x) (slots h) (slots y)
        × Lessened m (get_or (slots x) p 0) (payload x) (payload h) (payload y)

  open field S use {𝟘}

  abbrev pub row_line : ℕ → Row → Eqn S
  row_line r x = line S r (slots x) (payload x)

  lined : ℕ → Option Row → Option (Eqn S)
  lined r None = None
  lined r (Some x) = Some (row_line r x)

  -- the system of the table alone
  pub lines : ℕ → (ℕ → Option Row) → System (Code m) (Place size)
  lines r table k = inside w r k (lined r (table (k % w))) None

  lines_in : (r : ℕ) (table : ℕ → Option Row) (k : ℕ) (o : Option Row) → r ≤ k → k < r + w → table (k % w) ≡ o → lines r table k ≡ lined r o
  unfolding lines
  lines_in r table k o l h e = inside_in w r k (lined r (table (k % w))) None l h ∙ ap (lined r) e

  pub lines_some : (r : ℕ) (table : ℕ → Option Row) (k : ℕ) (x : Row) → r ≤ k → k < r + w → table (k % w) ≡ Some x → lines r table k ≡ Some (row_line r x)
  unfolding lined
  lines_some r table k x = lines_in r table k (Some x)

  pub lines_none : (r : ℕ) (table : ℕ → Option Row) (k : ℕ) → r ≤ k → k < r + w → table (k % w) ≡ None → lines r table k ≡ None
  unfolding lined
  lines_none r table k = lines_in r table k None

  pub lines_out : (r : ℕ) (table : ℕ → Option Row) (k : ℕ) → (k < r) ⊎ (r + w ≤ k) → lines r table k ≡ None
  unfolding lines
  lines_out r table k o = inside_out w r k (lined r (table (k % w))) None o

  -- a packet, as codes
  pub packet : List (List ℕ) → ℕ → Place size → Code m
  packet released k i = code m laws (get_or (get_or released k []) i.0 0)

  pub packet-is : (released : List (List ℕ)) (k : ℕ) (i : Place size) → packet released k i ≡ code m laws (get_or (get_or released k []) i.0 0)
  unfolding packet
  packet-is released k i = refl

  -- the released packets and the table
  abbrev pub whole : ℕ → List (List ℕ) → (ℕ → Option Row) → System (Code m) (Place size)
  whole r released table = system (field S) r (packet released) (lines r table)

  less_zero : (f g : Eqn S) (c : Code m) → c ≡ 𝟘 → less (field S) f c g ≡ f
  less_zero f g c e = equation_path (field S) (less (field S) f c g) f (λ k. take_zero (field S) (f.row k) c (g.row k) e) (λ i. take_zero (field S) (f.pay i) c (g.pay i) e)

  module _ (r : ℕ) (released : List (List ℕ)) (table table' : ℕ → Option Row) where
    -- the row h, which begins at p, joins
    pub joins : (p : ℕ) (h : Row) → r ≤ p → p < r + w
        → ((i : ℕ) (x : Row) → i < w → table i ≡ Some x → Codes m.q w (slots x) × Codes m.q size (payload x))
        → Joined (p % w) h table table'
        → whole r released table' ≡ insert (field S) (whole r released table) p (row_line r h)
    joins p h lo hi codes j = fun_ext (λ k. go k (side w r k) (ℕ_discrete k p))
      where
        above : (table : ℕ → Option Row) (k : ℕ) → r ≤ k → whole r released table k ≡ lines r table k
        above table k = system_above (field S) r (packet released) (lines r table) k

        other : (k : ℕ) → r ≤ k → k < r + w → k ≢ p → (table (k % w) ≡ None) ⊎ ((x : Row) × (table (k % w) ≡ Some x))
            → whole r released table' k ≡ insert (field S) (whole r released table) p (row_line r h) k
        other k l u ne (inl e) =
            above table' k l ∙ lines_none r table' k l u (j.none_more (k % w) (mod-lt k w_pos) (apart w r k p l u lo hi ne) e)
            ∙ sym (insert_none (field S) (whole r released table) p (row_line r h) k ne (above table k l ∙ lines_none r table k l u e))
        other k l u ne (inr (x, e)) =
            let y = j.cleared (k % w) x (mod-lt k w_pos) (apart w r k p l u lo hi ne) e in
            let c = codes (k % w) x (mod-lt k w_pos) e in
            above table' k l ∙ lines_some r table' k y.0 l u y.1
            ∙ ap {B = Option (Eqn S)} Some
            (lessened_line S (get_or (slots x) (p % w) 0) r (slots x) (payload x) c.0 c.1 (slots h) (payload h) (slots y.0) (payload y.0) y.2 y.3
            ∙ ap (λ c. less (field S) (row_line r x) c (row_line r h)) (sym (line_in S r (slots x) (payload x) p lo hi)))
            ∙ sym (insert_other (field S) (whole r released table) p (row_line r h) k (row_line r x) ne (above table k l ∙ lines_some r table k x l u e))

        go : (k : ℕ) → Side w r k → Dec (k ≡ p) → whole r released table' k ≡ insert (field S) (whole r released table) p (row_line r h) k
        go k (inl (l, u)) (yes e) =
            ap (whole r released table') e
            ∙ above table' p lo ∙ lines_some r table' p h lo hi j.here
            ∙ sym (insert_here (field S) (whole r released table) p (row_line r h)) ∙ ap (insert (field S) (whole r released table) p (row_line r h)) (sym e)
        go k (inl (l, u)) (no ne) = other k l u ne (look (table (k % w)))
        go k (inr (inl l)) _ =
            system_below (field S) r (packet released) (lines r table') k l
            ∙ ap {B = Option (Eqn S)} Some
            (sym (less_zero (alone (field S) k (packet released k)) (row_line r h) (unit (field S) k p) (unit_other (field S) k p (omega arith))))
            ∙ sym (insert_other (field S) (whole r released table) p (row_line r h) k (alone (field S) k (packet released k)) (omega arith)
            (system_below (field S) r (packet released) (lines r table) k l))
        go k (inr (inr l)) _ =
            above table' k (omega arith) ∙ lines_out r table' k (inr l)
            ∙ sym (insert_none (field S) (whole r released table) p (row_line r h) k (omega arith) (above table k (omega arith) ∙ lines_out r table k (inr l)))

    -- the row y, which begins at r and is 0 elsewhere, leaves
    module _ (released' : List (List ℕ)) (y : Row) (at : table (r % w) ≡ Some y)
        (one : get_or (slots y) (r % w) 0 ≡ 1) (zero : (i : ℕ) → i < w → i ≢ r % w → get_or (slots y) i 0 ≡ 0)
        (clear : (i : ℕ) (x : Row) → i < w → i ≢ r % w → table i ≡ Some x → get_or (slots x) (r % w) 0 ≡ 0)
        (left : table' (r % w) ≡ None) (same : (i : ℕ) → i < w → i ≢ r % w → table' i ≡ table i)
        (before : (k : ℕ) → k < r → get_or released' k [] ≡ get_or released k []) (now : get_or released' r [] ≡ payload y) where
      -- a row that is 0 at r stands for the same equation as r grows
      moved : (x : Row) → get_or (slots x) (r % w) 0 ≡ 0 → row_line (suc r) x ≡ row_line r x
      moved x z =
          equation_path (field S) (row_line (suc r) x) (row_line r x) (λ k. go k (side w r k) (side w (suc r) k))
          (λ i. line-pay S (suc r) (slots x) (payload x) i ∙ sym (line-pay S r (slots x) (payload x) i))
        where
          gone : (k : ℕ) → k % w ≡ r % w → code m laws (get_or (slots x) (k % w) 0) ≡ 𝟘
          gone k e = ap (λ i. code m laws (get_or (slots x) i 0)) e ∙ ap (code m laws) z ∙ code_zero m laws

          inner : (r k : ℕ) → r ≤ k → k < r + w → (row_line r x).row k ≡ code m laws (get_or (slots x) (k % w) 0)
          inner r = line_in S r (slots x) (payload x)

          outer : (r k : ℕ) → (k < r) ⊎ (r + w ≤ k) → (row_line r x).row k ≡ 𝟘
          outer r = line-out S r (slots x) (payload x)

          go : (k : ℕ) → Side w r k → Side w (suc r) k → (row_line (suc r) x).row k ≡ (row_line r x).row k
          go k (inl (l, u)) (inl (l', u')) = inner (suc r) k l' u' ∙ sym (inner r k l u)
          go k (inl (l, u)) (inr o) = outer (suc r) k o ∙ sym (inner r k l u ∙ gone k (let e : k ≡ r = omega arith in ap (λ x. x % w) e))
          go k (inr o) (inl (l', u')) =
              inner (suc r) k l' u' ∙ gone k (let e : k ≡ r + w = omega arith in ap (λ x. x % w) e ∙ add-mod_right r w) ∙ sym (outer r k o)
          go k (inr o) (inr o') = outer (suc r) k o' ∙ sym (outer r k o)

      pub leaves : whole (suc r) released' table' ≡ whole r released table
      leaves = release (field S) r (packet released) (packet released') (lines r table) (lines (suc r) table') (row_line r y)
          (lines_some r table r y (omega arith) (omega (arith, w_pos)) at) zeros
          (line_in S r (slots y) (payload y) r (omega arith) (omega (arith, w_pos)) ∙ ap (code m laws) one ∙ code_one m laws)
          (λ k l i. packet-is released' k i ∙ ap (λ p. code m laws (get_or p i.0 0)) (before k l) ∙ sym (packet-is released k i))
          (λ i. packet-is released' r i ∙ ap (λ p. code m laws (get_or p i.0 0)) now ∙ sym (line-pay S r (slots y) (payload y) i)) tables
        where
          zeros : (j : ℕ) → j ≢ r → (row_line r y).row j ≡ 𝟘
          zeros j ne = go (side w r j)
            where
              go : Side w r j → (row_line r y).row j ≡ 𝟘
              go (inl (l, u)) =
                  line_in S r (slots y) (payload y) j l u
                  ∙ ap (code m laws) (zero (j % w) (mod-lt j w_pos) (apart w r j r l u (omega arith) (omega (arith, w_pos)) ne)) ∙ code_zero m laws
              go (inr o) = line-out S r (slots y) (payload y) j o

          tables : (k : ℕ) → r < k → lines (suc r) table' k ≡ lines r table k
          tables k l = go (side w r k) (side w (suc r) k)
            where
              pick : r < k → k < r + w → (table (k % w) ≡ None) ⊎ ((x : Row) × (table (k % w) ≡ Some x)) → lines (suc r) table' k ≡ lines r table k
              pick l u (inl e) =
                  lines_none (suc r) table' k (omega arith) (omega arith) (same (k % w) (mod-lt k w_pos) (apart w r k r (omega arith) u (omega arith) (omega (arith, w_pos)) (omega arith)) ∙ e)
                  ∙ sym (lines_none r table k (omega arith) u e)
              pick l u (inr (x, e)) =
                  let ne = apart w r k r (omega arith) u (omega arith) (omega (arith, w_pos)) (omega arith) in
                  lines_some (suc r) table' k x (omega arith) (omega arith) (same (k % w) (mod-lt k w_pos) ne ∙ e)
                  ∙ ap {B = Option (Eqn S)} Some (moved x (clear (k % w) x (mod-lt k w_pos) ne e))
                  ∙ sym (lines_some r table k x (omega arith) u e)

              go : Side w r k → Side w (suc r) k → lines (suc r) table' k ≡ lines r table k
              go (inl (a, u)) _ = pick l u (look (table (k % w)))
              go (inr o) (inl (a, u)) =
                  let e : k ≡ r + w = omega arith in
                  lines_none (suc r) table' k a u (ap (λ i. table' (i % w)) e ∙ ap table' (add-mod_right r w) ∙ left) ∙ sym (lines_out r table k o)
              go (inr o) (inr o') = lines_out (suc r) table' k o' ∙ sym (lines_out r table k o)
