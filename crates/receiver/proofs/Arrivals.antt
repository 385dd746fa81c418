-- What holds of every arrival, by its frame: a refusal has changed nothing.
use Rattle.std.proofs.Common.{◌≡◌, ℕ, ◌+◌, ◌*◌, ◌≤◌, Bool, true, false, cond, ltb, List, length, IfErr, Ok, Err, Result, sym, refl, subst, arith}
use Rattle.std.proofs.lemmas.Bool.{ltb-false, cond_both}
use Rattle.refusal.specs.declared.Refusal.{Refusal}
use Rattle.refusal.specs.declared.Refusal.TheVariants.{ShortBuffer, Late, Ahead}
use Rattle.field.specs.Field.{Means}
use Rattle.carried.specs.Carries.{Carries}
use Rattle.frame.specs.DataFrame.{reading}
use Rattle.frame.specs.declared.data.Data.{Data}
use Rattle.elimination.specs.Absorption.{absorbed}
use Rattle.elimination.specs.declared.table.Table.{Table}
use Rattle.elimination.specs.declared.table.Verdict.{Verdict}
use Rattle.elimination.specs.declared.table.Verdict.TheVariants.{Innovative, Redundant, Contradictory}
use Rattle.receiver.specs.Alignment.{aligned}
use Rattle.receiver.specs.Arrival.{Outcome, arrival, checked, decided, judged, accepted, arrived}
use Rattle.receiver.specs.Reach.{reach}
use Rattle.receiver.specs.declared.state.State.{State}

-- after a check, by its answer
checked-both : {A : Type 0} (P : Outcome → Type 0) (r : Result A Refusal) (c : State) (numbers : List ℕ) (next : A → Outcome) → ((e : Refusal) → P (arrival (Err e) c numbers)) → ((x : A) → r ≡ Ok x → P (next x)) → P (checked r c numbers next)
checked-both P (Ok x) c numbers next refuse go = go x refl
checked-both P (Err e) c numbers next refuse go = refuse e

neither : (late ahead : Bool) (u : Unit {0}) → cond late (Err Late) (cond ahead (Err Ahead) (Ok tt)) ≡ Ok u → (late ≡ false) × (ahead ≡ false)
neither true ahead u e = absurd (let z : ◌≡◌ {A = ℕ} 0 1 = cc in omega arith)
neither false true u e = absurd (let z : ◌≡◌ {A = ℕ} 0 1 = cc in omega arith)
neither false false u e = (refl, refl)

-- the rows in reach of a receiver that has released r packets
abbrev pub Near : ℕ → ℕ → Data → Type 0
Near w r f = (r ≤ f.base + w) × (f.base + f.width ≤ r + w)

in_reach : (w r : ℕ) (f : Data) (u : Unit {0}) → reach w r f ≡ Ok u → Near w r f
in_reach w r f u e =
    let h = neither (ltb (f.base + w) r) (ltb (r + w) (f.base + f.width)) u e in (ltb-false _ _ h.0, ltb-false _ _ h.1)

module _ (m : Means) (carries : Carries) (w : ℕ) (c : State) (bytes numbers : List ℕ) where
  -- what holds of a refusal, and of the answer to each readable frame in reach, holds of an arrival
  pub by_frame : (P : Outcome → Type 0) → ((e : Refusal) → P (arrival (Err e) c numbers)) → ((f : Data) → w * 128 ≤ length numbers → reading m carries w bytes ≡ Ok f → Near w c.released f → P (judged w c f numbers (absorbed m w c.released (aligned m w c f) c.table))) → P (arrived m carries w c bytes numbers)
  by_frame P refuse go =
      cond_both (ltb (length numbers) (w * 128)) (arrival (Err ShortBuffer) c numbers) (checked (reading m carries w bytes) c numbers (λ f. accepted m w c f numbers)) P
      (λ _. refuse ShortBuffer)
      (λ room. checked-both P (reading m carries w bytes) c numbers (λ f. accepted m w c f numbers) refuse
      (λ f r. checked-both P (reach w c.released f) c numbers (λ _. judged w c f numbers (absorbed m w c.released (aligned m w c f) c.table)) refuse
      (λ u e. go f (ltb-false _ _ room) r (in_reach w c.released f u e))))

  abbrev Unchanged : Outcome → Type 0
  Unchanged a = IfErr a.answer (λ _. (a.state ≡ c) × (a.numbers ≡ numbers))

  decided_unchanged : (f : Data) (t : Table) (v : Verdict) → Unchanged (decided w c f numbers t v)
  decided_unchanged f t (Innovative distance) = tt
  decided_unchanged f t Redundant = tt
  decided_unchanged f t Contradictory = (refl, refl)

  module _ (a : Outcome) (is : a ≡ arrived m carries w c bytes numbers) where
    pub arrived_unchanged : Unchanged a
    arrived_unchanged = subst Unchanged (sym is) (by_frame Unchanged (λ _. (refl, refl)) (λ f _ _ _. decided_unchanged f _ _))
