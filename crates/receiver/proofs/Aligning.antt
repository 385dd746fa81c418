-- The aligned row of a frame, less the released packets, is what is left of it once the table is taken too.
use Rattle.std.proofs.Common.{◌≡◌, ℕ, zero, suc, ◌+◌, ◌%◌, ◌<◌, ◌≤◌, Bool, true, false, cond, ltb, List, [], get_or, replicate, Some, None, Option, sym, refl, subst, add-zero, add-suc, arith}
use Rattle.std.proofs.lemmas.Bool.{ltb-true, ltb-false}
use Rattle.field.specs.Field.{Means, Laws}
use Rattle.frame.specs.Proper.{Proper}
use Rattle.frame.specs.declared.data.Data.{Data}
use Rattle.elimination.specs.Loops.{turns}
use Rattle.elimination.specs.Rows.{less_packet}
use Rattle.elimination.specs.Tables.{row_at, reduced, reduced_by}
use Rattle.elimination.specs.declared.row.Row.{Row}
use Rattle.algebra.specs.Frames.{Frame, Proper as Proper-frame}
use Rattle.algebra.proofs.Codes.{q_pos}
use Rattle.algebra.proofs.Frames.{row_before, row-slot, row-after, proper-frame}
use Rattle.algebra.proofs.Placing.{Placed, placed-none, placed-released, placed-slot}
use Rattle.algebra.proofs.Reducing.{Left, left-none, left_skip, left_less}
use Rattle.algebra.proofs.Setting.{Setting}
use Rattle.receiver.specs.Alignment.{with_slot, with_packet, aligned}
use Rattle.receiver.specs.Log.{said}
use Rattle.receiver.specs.declared.state.State.{State}
use Rattle.receiver.proofs.Arrivals.{Near}
use Rattle.receiver.proofs.Rows.{setting, Stands, less-is}

-- a readable frame is one of a stream
pub said-proper : (m : Means) → Laws m → (w : ℕ) (d : Data) → Proper m.q w d → Proper-frame 65536 128 m.q (said d)
said-proper m laws w d p =
    proper-frame d.base d.slots d.width p.none_past 65536 128 m.q w d.symbols (q_pos m laws) p.in_stream
    (record { long = p.slot_count; codes = λ i l. p.slot_codes i (omega (arith, p.slot_count)) })
    (record { long = p.symbol_count; codes = λ i l. p.symbol_codes i (omega (arith, p.symbol_count)) })

module _ (m : Means) (laws : Laws m) (w : ℕ) (pos : 0 < w) {accepted : List Frame} {fresh : ℕ} {released : List (List ℕ)} (c : State)
    (rep : Stands m laws w pos accepted fresh released c) (d : Data) (p : Proper m.q w d) (near : Near w c.released d) where
  abbrev S : Setting Row
  S = setting m laws w pos

  abbrev proper : Proper-frame 65536 128 m.q (said d)
  proper = said-proper m laws w d p

  abbrev Place : ℕ → Row → Type 0
  Place b x = Placed S rep (said d) proper b x.slots x.payload

  -- the aligned row, slot by slot
  row : ℕ → Row
  row n = turns (λ i. with_packet m w c (d.base + i) (get_or d.slots i 0)) (record { slots = replicate w 0; payload = d.symbols }) n

  placed : (i : ℕ) → i ≤ d.width → Place (d.base + i) (row i)
  unfolding turns row
  placed zero l =
      subst (λ b. Placed S rep (said d) proper b (replicate w 0) d.symbols) (sym (add-zero d.base))
      (placed-none S rep (said d) proper d.base (row_before d.base d.slots))
  placed (suc i) l = subst (λ b. Place b (row (suc i))) (sym (add-suc d.base i)) (go (ltb k c.released) refl (placed i (omega arith)))
    where
      k : ℕ
      k = d.base + i

      a : ℕ
      a = get_or d.slots i 0

      go : (b : Bool) → ltb k c.released ≡ b → Place k (row i)
          → Place (suc k) (cond b (less_packet m a (get_or c.kept (k % w) []) (row i)) (with_slot w k a (row i)))
      go true e h =
          placed-released S rep (said d) proper h (sym (row-slot d.base d.slots i)) (ltb-true k c.released e) (omega (arith, near.0))
          (less-is m a (get_or c.kept (k % w) []) (row i).payload)
      go false e h =
          placed-slot S rep (said d) proper h (sym (row-slot d.base d.slots i)) (ltb-false k c.released e) (omega (arith, near.1))

  abbrev Rest : ℕ → Row → Type 0
  Rest i x = Left S rep (said d) proper i x.slots x.payload

  taken : (x : Row) → Rest 0 x → (i : ℕ) → i ≤ w → Rest i (turns (λ i. reduced_by m i (row_at c.table i)) x i)
  unfolding turns
  taken x h zero l = h
  taken x h (suc i) l = go (row_at c.table i) refl (taken x h i (omega arith))
    where
      y : Row
      y = turns (λ i. reduced_by m i (row_at c.table i)) x i

      go : (o : Option Row) → row_at c.table i ≡ o → Rest i y → Rest (suc i) (reduced_by m i o y)
      go None e h = left_skip S rep (said d) proper h e
      go (Some z) e h =
          left_less S rep (said d) proper h z (omega arith) e (less-is m (get_or y.slots i 0) z.slots y.slots) (less-is m (get_or y.slots i 0) z.payload y.payload)

  pub left : Left S rep (said d) (said-proper m laws w d p) w (reduced m w c.table (aligned m w c d)).slots (reduced m w c.table (aligned m w c d)).payload
  unfolding row
  left = taken (aligned m w c d) (left-none S rep (said d) proper (placed d.width (omega arith)) (row-after d.base d.slots d.width p.none_past) near.1) w (omega arith)
