-- Every arrival keeps the table reduced.
use Rattle.std.proofs.Common.{◌≡◌, ℕ, zero, suc, ◌+◌, ◌%◌, ◌<◌, ◌≤◌, ltb, List, [], get_or, set, replicate, Some, None, Ok, Option, sym, ap, ◌∙◌, subst, ⊎_elim, mod-lt, arith}
use Rattle.std.proofs.lemmas.List.{length-set, get_or-set_same, get_or-set_other, get_or-replicate, length-replicate}
use Rattle.std.proofs.lemmas.Bool.{cases_eq, cond_both}
use Rattle.field.specs.Field.{Means, Laws}
use Rattle.carried.specs.Carries.{Carries}
use Rattle.frame.specs.DataFrame.{reading}
use Rattle.frame.specs.Proper.{Proper}
use Rattle.frame.specs.declared.data.Data.{Data}
use Rattle.elimination.proofs.Absorbing.{absorbed-reduced, left-reduced}
use Rattle.elimination.specs.Absorption.{absorbed}
use Rattle.elimination.specs.Loops.{turns}
use Rattle.elimination.specs.Reduced.{Coded, Reduced}
use Rattle.elimination.specs.Rows.{less_packet}
use Rattle.elimination.specs.declared.row.Row.{Row}
use Rattle.elimination.specs.declared.table.Table.{Table}
use Rattle.elimination.specs.declared.table.Verdict.{Verdict}
use Rattle.elimination.specs.declared.table.Verdict.TheVariants.{Innovative, Redundant, Contradictory}
use Rattle.receiver.proofs.Arrivals.{by_frame}
use Rattle.receiver.specs.Alignment.{with_slot, with_packet, aligned}
use Rattle.receiver.specs.Arrival.{Outcome, with_table, reaching, decided, arrived}
use Rattle.receiver.specs.Release.{Release, ready, release_one, releasing}
use Rattle.receiver.specs.Start.{Sound}
use Rattle.receiver.specs.declared.state.State.{State}

with_slot-coded : (m : Means) (w : ℕ) (k a : ℕ) (x : Row) → 0 < w → Coded m w x → a < m.q → Coded m w (with_slot w k a x)
with_slot-coded m w k a x pos cx l =
    let low : k % w < w = mod-lt k pos in record {
      long = length-set x.slots (k % w) a ∙ cx.long;
      codes = λ j h. ⊎_elim
          (λ e. subst (λ n. n < m.q) (sym (ap (λ i. get_or (set x.slots (k % w) a) i 0) e ∙ get_or-set_same x.slots (k % w) a 0 (let q = cx.long in omega arith))) l)
          (λ ne. subst (λ n. n < m.q) (sym (get_or-set_other x.slots (k % w) j a 0 ne)) (cx.codes j h)) (cases_eq j (k % w));
    }

module _ (m : Means) (laws : Laws m) (w : ℕ) (pos : 0 < w) (c : State) where
  -- the row of a readable frame
  module _ (f : Data) (proper : Proper m.q w f) where
    aligning : (x : Row) → Coded m w x → (n : ℕ) → n ≤ w → Coded m w (turns (λ i. with_packet m w c (f.base + i) (get_or f.slots i 0)) x n)
    unfolding turns
    aligning x cx zero h = cx
    aligning x cx (suc n) h =
        let u : Row = turns (λ i. with_packet m w c (f.base + i) (get_or f.slots i 0)) x n in
        let cu : Coded m w u = aligning x cx n (omega arith) in
        let k : ℕ = f.base + n in
        let a : ℕ = get_or f.slots n 0 in
        cond_both (ltb k c.released) (less_packet m a (get_or c.kept (k % w) []) u) (with_slot w k a u) (Coded m w)
        (λ _. record { long = cu.long; codes = cu.codes })
        (λ _. with_slot-coded m w k a u pos cu (proper.slot_codes n (let l = proper.slot_count in omega arith)))

    aligned-coded : Coded m w (aligned m w c f)
    aligned-coded =
        aligning (record { slots = replicate w 0; payload = f.symbols }) (record {
          long = length-replicate w 0;
          codes = λ k h. subst (λ n. n < m.q) (sym (get_or-replicate w k 0 0 h)) (omega (arith, laws.least));
        }) f.width proper.most

  one-sound : (r : Release) (o : Option (List ℕ)) → Sound m w r.state → Sound m w (release_one w o r).state
  one-sound r None d = d
  one-sound r (Some p) d = left-reduced m w r.state.released r.state.table pos d

  releasing-sound : (s : State) → Sound m w s → (n : ℕ) → Sound m w (releasing w s n).state
  unfolding turns
  releasing-sound s d zero = d
  releasing-sound s d (suc n) = one-sound (releasing w s n) (ready w (releasing w s n).state) (releasing-sound s d n)

  decided-sound : (f : Data) (numbers : List ℕ) (t : Table) (v : Verdict) → Sound m w c → Reduced m w c.released t → Sound m w (decided w c f numbers t v).state
  decided-sound f numbers t (Innovative distance) d red = releasing-sound (reaching f (with_table t c)) red w
  decided-sound f numbers t Redundant d red = d
  decided-sound f numbers t Contradictory d red = d

  pub arrived-sound : (carries : Carries) (bytes numbers : List ℕ) (a : Outcome) → a ≡ arrived m carries w c bytes numbers → ((f : Data) → reading m carries w bytes ≡ Ok f → Proper m.q w f) → Sound m w c → Sound m w a.state
  arrived-sound carries bytes numbers a is proper d =
      subst (λ (r : Outcome). Sound m w r.state) (sym is)
      (by_frame m carries w c bytes numbers (λ r. Sound m w r.state) (λ _. d)
      (λ f _ r _. decided-sound f numbers _ (absorbed m w c.released (aligned m w c f) c.table).verdict d
      (absorbed-reduced m laws w c.released c.table d (aligned m w c f) (aligned-coded f (proper f r)))))
