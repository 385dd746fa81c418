-- A send, and what the program keeps of it.
use Rattle.std.proofs.Common.{◌≡◌, ℕ, ◌+◌, ◌≤◌, Bool, eqb, List, length, Ok, Err, Result, sym, refl, ap, ◌∙◌, subst, add-one, arith}
use Rattle.std.proofs.lemmas.Bool.{cond_both}
use Rattle.refusal.specs.declared.Refusal.{Refusal}
use Rattle.field.specs.Field.{Means}
use Rattle.carried.specs.Carries.{Carries}
use Rattle.source.specs.Source.{Draws}
use Rattle.link.specs.declared.plain.PlainLink.{PlainLink}
use Rattle.link.specs.declared.scripted.ScriptedLink.{ScriptedLink}
use Rattle.transfer.specs.Log.{Event, sendings}
use Rattle.transfer.specs.Parts.{Parts, State}
use Rattle.transfer.specs.Steps.{Called, called, coded, sends}
use Rattle.delivery.specs.declared.progress.Progress.{Progress}
use Rattle.job.specs.declared.tally.Tally.{Tally}
use Rattle.delivery.specs.Follows.{Follows}
use Rattle.delivery.specs.Outcome.{tally_of, linked}
use Rattle.delivery.specs.Rounds.{Course, send_one}
use Rattle.delivery.proofs.Courses.{sent_course, runs_on}
use Rattle.delivery.proofs.Queues.{put-few}

abbrev pub with_tally : {C : Type 0} → Tally → Progress C → Progress C
with_tally x v = record { heard = v.heard; released = v.released; tally = x; numbers = v.numbers; filling = v.filling }

abbrev pub one_sent : Tally → Tally
one_sent x = record { sent = x.sent + 1; fresh = x.fresh; repeat = x.repeat; refused = x.refused }

module _
    {S C : Type 0} (p : Parts S ScriptedLink PlainLink) (file before : List ℕ) (shut : Bool) (t : ℕ) (c : Course S ScriptedLink PlainLink)
    (σ τ : State S ScriptedLink PlainLink) (v : Progress C) (buffer : List ℕ) (h : Follows p file before shut t c σ v buffer)
  where
    pub sent_ok : (n : ℕ) → called (Ok n) τ ≡ sends 32 p σ → Follows p file before shut t (send_one 32 p c) τ (with_tally (one_sent v.tally) v) buffer
    sent_ok n e =
        subst (λ (d : Course S ScriptedLink PlainLink). Follows p file before shut t d τ (with_tally (one_sent v.tally) v) buffer) (sym (sent_course p c σ τ h.state (Ok n) e))
        (record {
          state = refl;
          numbers = h.numbers;
          runs = runs_on p file shut t c.log σ τ h.runs (Event.send (coded 32 p σ) (Ok n)) (refl, e) refl refl;
          heard = h.heard;
          tally = ap one_sent h.tally ∙ ap (λ (k : ℕ). record { sent = k; fresh = (tally_of c.log).fresh; repeat = (tally_of c.log).repeat; refused = (tally_of c.log).refused }) (add-one (length (sendings c.log)));
          releases = h.releases;
          filled = h.filled;
        })

    pub sent_none : (why : Refusal) → called (Err why) τ ≡ sends 32 p σ → Follows p file before shut t (send_one 32 p c) τ v buffer
    sent_none why e =
        subst (λ (d : Course S ScriptedLink PlainLink). Follows p file before shut t d τ v buffer) (sym (sent_course p c σ τ h.state (Err why) e))
        (record {
          state = refl;
          numbers = h.numbers;
          runs = runs_on p file shut t c.log σ τ h.runs (Event.send (coded 32 p σ) (Err why)) (refl, e) refl refl;
          heard = h.heard;
          tally = h.tally;
          releases = h.releases;
          filled = h.filled;
        })

-- a send lets at most three frames join the queue
pub sent_few : {S : Type 0} (m : Means) (carries : Carries) (draws : Draws S) (σ τ : State S ScriptedLink PlainLink) (r : Result ℕ Refusal)
    → called r τ ≡ sends 32 (linked m carries draws) σ → τ.forward.queue.count ≤ σ.forward.queue.count + 3
sent_few {S} m carries draws σ τ r e =
    subst (λ (z : Called ℕ S ScriptedLink PlainLink). z.state.forward.queue.count ≤ σ.forward.queue.count + 3) (sym e)
    (cond_both (eqb σ.window.unseen σ.window.admitted) _ _ (λ (z : Called ℕ S ScriptedLink PlainLink). z.state.forward.queue.count ≤ σ.forward.queue.count + 3)
    (λ _. omega arith) (λ _. put-few σ.forward (coded 32 (linked m carries draws) σ)))
