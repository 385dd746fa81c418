-- Packet k in a frame of its own, at a receiver that waits for it and holds no row.
use Rattle.std.proofs.Common.{◌≡◌, ℕ, suc, ◌+◌, ◌-◌, ◌*◌, ◌%◌, ◌<◌, ◌≤◌, max, Bool, true, false, cond, ltb, List, [], ◌∷◌, ◌++◌, length, set, replicate, Some, None, Ok, Err, Option, Result, sym, refl, ap, ◌∙◌, add-zero, mod-lt, arith}
use lib.ListN.{length-replicate}
use Rattle.std.proofs.lemmas.List.{get_or-set_same, set-set}
use Rattle.std.proofs.lemmas.Bool.{cond-true, cond-false, le-ltb, lt-ltb}
use Rattle.std.specs.Int.Digits.{AllBelowBase}
use Rattle.refusal.specs.declared.Refusal.{Refusal}
use Rattle.field.specs.Field.{Means, Laws}
use Rattle.carried.specs.Carries.{Carries}
use Rattle.frame.specs.DataFrame.{reading}
use Rattle.frame.specs.declared.data.Data.{Data}
use Rattle.elimination.specs.Absorption.{absorbed}
use Rattle.elimination.specs.Loops.{turns}
use Rattle.elimination.specs.Tables.{no_rows, with_row, packet_in}
use Rattle.elimination.specs.declared.row.Row.{Row}
use Rattle.elimination.specs.declared.table.Table.{Table}
use Rattle.receiver.specs.Alignment.{with_slot, aligned}
use Rattle.receiver.specs.Arrival.{Outcome, arrival, checked, fresh, judged, accepted, arrived}
use Rattle.receiver.specs.Buffers.{over}
use Rattle.receiver.specs.Reach.{reach}
use Rattle.receiver.specs.Release.{ready, advanced, release_one, releasing}
use Rattle.receiver.specs.declared.state.Answer.{Answer}
use Rattle.receiver.specs.declared.state.Answer.TheVariants.{Fresh}
use Rattle.receiver.specs.declared.state.State.{State}
use Rattle.job.specs.Crossing.{alone, Waits}
use Rattle.job.proofs.Alone.{then_still, none-at, none-set, alone_row, absorbed-alone, solved-alone}

-- a receiver that has released k packets and holds no row
abbrev pub waiting : ℕ → ℕ → ℕ → List (List ℕ) → State
waiting w k top kept = record { released = k; top = top; table = no_rows w; kept = kept }

neither : {A : Type 0} (b : Bool) → ◌≡◌ {A = Option A} (cond b None None) None
neither true = refl
neither false = refl

module _ (w : ℕ) (some : 0 < w) (m : Means) (laws : Laws m) (k : ℕ) (few : k < 65536) (p : List ℕ) (codes : AllBelowBase m.q p) (top : ℕ) (kept : List (List ℕ)) where
  s : ℕ
  s = k % w

  inside : s < w
  unfolding s
  inside = mod-lt k some

  row : Row
  row = alone_row w m laws s inside p codes

  in_reach : reach w k (alone w k p) ≡ Ok tt
  in_reach =
      cond-false (ltb (k + w) k) (Err _) _ (le-ltb (k + w) k (omega arith))
      ∙ cond-false (ltb (k + w) (k + 1)) (Err _) _ (le-ltb (k + w) (k + 1) (omega (arith, some)))

  lies : aligned m w (waiting w k top kept) (alone w k p) ≡ row
  unfolding turns row alone_row s
  lies =
      let x : Row = record { slots = replicate w 0; payload = p } in
      cond-false (ltb (k + 0) k) _ _ (le-ltb (k + 0) k (omega arith))
      ∙ ap (λ (a : ℕ). with_slot w (k + 0) a x) (get_or-set_same (replicate w 0) 0 1 0 (rw length-replicate some))
      ∙ ap (λ (n : ℕ). with_slot w n 1 x) (add-zero k)

  -- the receiver with the row, and once the packet is released
  held : State
  held = record { released = k; top = max top (k + 1); table = with_row s (Some row) (no_rows w); kept = kept }

  after : State
  after = waiting w (k + 1) (max top (k + 1)) (set kept s p)

  knows : ready w held ≡ Some p
  unfolding held row s
  knows = cond-true (ltb k 65536) _ None (lt-ltb k 65536 few) ∙ solved-alone w m laws s inside p codes k refl

  leaves : advanced w (Some p) held ≡ after
  unfolding held after row s
  leaves =
      ap (λ (l : List (Option Row)). record { released = k + 1; top = max top (k + 1); table = record { rows = l }; kept = set kept s p })
      (set-set (replicate w None) s (Some row) None)
      ∙ ap (λ (t : Table). record { released = k + 1; top = max top (k + 1); table = t; kept = set kept s p }) (none-set w s)

  knows_no_more : ready w after ≡ None
  unfolding after
  knows_no_more =
      ap (λ (o : Option Row). cond (ltb (k + 1) 65536) (packet_in w ((k + 1) % w) o) None) (none-at w ((k + 1) % w))
      ∙ neither (ltb (k + 1) 65536)

  releases : (n : ℕ) → releasing w held (suc n) ≡ record { state = after; packets = p ∷ [] }
  releases n =
      then_still (λ i o. release_one w (ready w o.state) o) (record { state = held; packets = [] }) (record { state = after; packets = p ∷ [] })
      (ap (λ (o : Option (List ℕ)). release_one w o (record { state = held; packets = [] })) knows
      ∙ ap (λ (c : State). record { state = c; packets = p ∷ [] }) leaves)
      (λ i. ap (λ (o : Option (List ℕ)). release_one w o (record { state = after; packets = p ∷ [] })) knows_no_more)
      n

  releases-all : releasing w held w ≡ record { state = after; packets = p ∷ [] }
  releases-all = let e : suc (w - 1) ≡ w = omega (arith, some) in ap (releasing w held) (sym e) ∙ releases (w - 1)

  -- it is fresh and released at once
  pub alone_arrives : (carries : Carries) (bytes numbers : List ℕ) → w * 128 ≤ length numbers → reading m carries w bytes ≡ Ok (alone w k p)
      → arrived m carries w (waiting w k top kept) bytes numbers
      ≡ arrival (Ok (Fresh 1)) (waiting w (k + 1) (max top (k + 1)) (set kept (k % w) p)) (over numbers (p ++ []))
  unfolding held after row s
  alone_arrives carries bytes numbers room reads =
      let c : State = waiting w k top kept in
      let f : Data = alone w k p in
      cond-false (ltb (length numbers) (w * 128)) _ _ (le-ltb (length numbers) (w * 128) room)
      ∙ ap (λ (r : Result Data Refusal). checked r c numbers (λ d. accepted m w c d numbers)) reads
      ∙ ap (λ (r : Result (Unit {0}) Refusal). checked r c numbers (λ _. judged w c f numbers (absorbed m w k (aligned m w c f) (no_rows w)))) in_reach
      ∙ ap (λ (x : Row). judged w c f numbers (absorbed m w k x (no_rows w))) lies
      ∙ ap (judged w c f numbers) (absorbed-alone w m laws s inside p codes k refl)
      ∙ ap (fresh numbers) releases-all

state-waits : (w k : ℕ) (c : State) → Waits w k c → c ≡ waiting w k c.top c.kept
state-waits w k c h =
    ap (λ (n : ℕ). record { released = n; top = c.top; table = c.table; kept = c.kept }) h.count
    ∙ ap (λ (t : Table). record { released = k; top = c.top; table = t; kept = c.kept }) h.none

-- what a call of arrive with such a frame answers and leaves
pub record Crossed (w k : ℕ) (p numbers : List ℕ) (answer : Result Answer Refusal) (c : State) (after : List ℕ) : Type 0 where
  pub fresh : answer ≡ Ok (Fresh 1)
  pub waits : Waits w (k + 1) c
  pub released : after ≡ over numbers (p ++ [])

pub crossed : (w : ℕ) → 0 < w → (m : Means) → Laws m → (k : ℕ) → k < 65536 → (p : List ℕ) → AllBelowBase m.q p
    → (carries : Carries) (bytes numbers : List ℕ) → w * 128 ≤ length numbers → reading m carries w bytes ≡ Ok (alone w k p)
    → (b : State) → Waits w k b → (answer : Result Answer Refusal) (c : State) (after : List ℕ)
    → arrival answer c after ≡ arrived m carries w b bytes numbers → Crossed w k p numbers answer c after
crossed w some m laws k few p codes carries bytes numbers room reads b waits answer c now e =
    let is = e ∙ ap (λ (x : State). arrived m carries w x bytes numbers) (state-waits w k b waits)
    ∙ alone_arrives w some m laws k few p codes b.top b.kept carries bytes numbers room reads in
    record {
      fresh = ap (λ (o : Outcome). o.answer) is;
      waits = record { count = ap (λ (o : Outcome). o.state.released) is; none = ap (λ (o : Outcome). o.state.table) is };
      released = ap (λ (o : Outcome). o.numbers) is;
    }
