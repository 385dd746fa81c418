-- An arrival in the first numbers of a buffer: the rest is left.
use Rattle.std.proofs.Common.{◌≡◌, ℕ, ◌*◌, ◌≤◌, ltb, List, ◌++◌, length, take, drop, Ok, Err, Result, sym, refl, ap, ◌∙◌, arith}
use Rattle.std.proofs.lemmas.List.{append_assoc, length-append, length-drop, length-take-le, drop-append-le, take-append-drop}
use Rattle.std.proofs.lemmas.Bool.{le-ltb, cond-false}
use Rattle.refusal.specs.declared.Refusal.{Refusal}
use Rattle.field.specs.Field.{Means}
use Rattle.carried.specs.Carries.{Carries}
use Rattle.frame.specs.DataFrame.{reading}
use Rattle.frame.specs.declared.data.Data.{Data}
use Rattle.elimination.specs.Absorption.{Absorption, absorbed}
use Rattle.elimination.specs.declared.table.Table.{Table}
use Rattle.elimination.specs.declared.table.Verdict.{Verdict}
use Rattle.elimination.specs.declared.table.Verdict.TheVariants.{Innovative, Redundant, Contradictory}
use Rattle.receiver.specs.Alignment.{aligned}
use Rattle.receiver.specs.Arrival.{Outcome, arrival, checked, with_table, reaching, decided, judged, accepted, arrived}
use Rattle.receiver.specs.Buffers.{concat, over}
use Rattle.receiver.specs.Reach.{reach}
use Rattle.receiver.specs.Release.{Release, releasing}
use Rattle.receiver.specs.declared.state.Answer.TheVariants.{Fresh}
use Rattle.receiver.specs.declared.state.State.{State}

-- the same outcome, in a buffer that goes on with these numbers
abbrev with_rest : List ℕ → Outcome → Outcome
with_rest rest o = arrival o.answer o.state (o.numbers ++ rest)

module _ (ns rest : List ℕ) where
  over_more : (xs : List ℕ) → length (over ns xs) ≡ length ns → over (ns ++ rest) xs ≡ over ns xs ++ rest
  over_more xs long =
      let few : length xs ≤ length ns = omega (arith, long, length-append xs (drop (length xs) ns), length-drop (length xs) ns) in
      ap (λ z. xs ++ z) (drop-append-le (length xs) ns rest few) ∙ sym (append_assoc xs (drop (length xs) ns) rest)

  module _ (w : ℕ) (c : State) (f : Data) where
    decided_more : (t : Table) (v : Verdict) → length (decided w c f ns t v).numbers ≡ length ns → decided w c f (ns ++ rest) t v ≡ with_rest rest (decided w c f ns t v)
    decided_more t (Innovative distance) long =
        let o : Release = releasing w (reaching f (with_table t c)) w in
        ap (arrival (Ok (Fresh (length o.packets))) o.state) (over_more (concat o.packets) long)
    decided_more t Redundant long = refl
    decided_more t Contradictory long = refl

    checked_more : (a : Absorption) (r : Result (Unit {0}) Refusal) → length (checked r c ns (λ _. judged w c f ns a)).numbers ≡ length ns → checked r c (ns ++ rest) (λ _. judged w c f (ns ++ rest) a) ≡ with_rest rest (checked r c ns (λ _. judged w c f ns a))
    checked_more a (Ok x) long = decided_more a.table a.verdict long
    checked_more a (Err e) long = refl

module _ (m : Means) (carries : Carries) (w : ℕ) (c : State) (bytes numbers : List ℕ) (room : w * 128 ≤ length numbers) where
  -- bytes that cannot be read
  pub arrived_unread : (e : Refusal) → reading m carries w bytes ≡ Err e → arrival (Err e) c numbers ≡ arrived m carries w c bytes numbers
  arrived_unread e read =
      sym (cond-false (ltb (length numbers) (w * 128)) _ _ (le-ltb _ _ room) ∙ ap (λ r. checked r c numbers (λ f. accepted m w c f numbers)) read)

  -- bytes that are read as d, where a is the outcome in the first numbers
  pub arrived_in : (d : Data) (a : Outcome) → reading m carries w bytes ≡ Ok d → a ≡ accepted m w c d (take (w * 128) numbers) → length a.numbers ≡ w * 128
      → arrival a.answer a.state (a.numbers ++ drop (w * 128) numbers) ≡ arrived m carries w c bytes numbers
  arrived_in d a read is long =
      let front = take (w * 128) numbers in
      let rest = drop (w * 128) numbers in
      let whole : front ++ rest ≡ numbers = take-append-drop (w * 128) numbers in
      let kept : length (accepted m w c d front).numbers ≡ length front = ap (λ (o : Outcome). length o.numbers) (sym is) ∙ long ∙ sym (length-take-le (w * 128) numbers room) in
      ap (with_rest rest) is
      ∙ sym (checked_more front rest w c d (absorbed m w c.released (aligned m w c d) c.table) (reach w c.released d) kept)
      ∙ ap (accepted m w c d) whole
      ∙ sym (cond-false (ltb (length numbers) (w * 128)) _ _ (le-ltb _ _ room) ∙ ap (λ r. checked r c numbers (λ f. accepted m w c f numbers)) read)
