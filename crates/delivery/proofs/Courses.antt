-- One call more of a course: the event that it adds, and what goes on from log to log.
use Rattle.std.proofs.Common.{◌≡◌, ℕ, Bool, List, ◌∷◌, Option, Result, sym, ap, ◌∙◌, subst}
use Rattle.refusal.specs.declared.Refusal.{Refusal}
use Rattle.link.specs.declared.plain.PlainLink.{PlainLink}
use Rattle.link.specs.declared.scripted.ScriptedLink.{ScriptedLink}
use Rattle.receiver.specs.declared.state.Answer.{Answer}
use Rattle.transfer.specs.Log.{Event, admitted}
use Rattle.field.specs.Field.{Means, Laws}
use Rattle.carried.specs.Carries.{Carries, Lays}
use Rattle.source.specs.Source.{Draws, DrawsLaws}
use Rattle.link.specs.Waiting.{plain_laws, scripted_laws}
use Rattle.transfer.specs.Parts.{Parts, PartsLaws, State}
use Rattle.delivery.specs.Outcome.{linked}
use Rattle.transfer.specs.Run.{Leads}
use Rattle.transfer.specs.Steps.{Called, called, Fetched, fetched, admits, coded, sends, fetch_takes, fetches, hear_takes, hears}
use Rattle.delivery.specs.Follows.{FirstPackets, Runs}
use Rattle.delivery.specs.Rounds.{Course, course, sealed, admit_one, send_one, fetch_one, hear_one}

module _ {S : Type 0} (p : Parts S ScriptedLink PlainLink) (c : Course S ScriptedLink PlainLink) (σ τ : State S ScriptedLink PlainLink) (is : c.state ≡ σ) where
  -- the course after a call, by its answer and the state after it
  pub admitted-course : (packet : List ℕ) (r : Result ℕ Refusal) → called r τ ≡ admits 32 p σ packet
      → admit_one 32 p packet c ≡ course (Event.admit packet r ∷ c.log) τ c.numbers
  admitted-course packet r e =
      let with : Called ℕ S ScriptedLink PlainLink → Course S ScriptedLink PlainLink = λ o. course (Event.admit packet o.answer ∷ c.log) o.state c.numbers in
      ap (λ (x : State S ScriptedLink PlainLink). with (admits 32 p x packet)) is ∙ sym (ap with e)

  pub sent_course : (r : Result ℕ Refusal) → called r τ ≡ sends 32 p σ
      → send_one 32 p c ≡ course (Event.send (coded 32 p σ) r ∷ c.log) τ c.numbers
  sent_course r e =
      let with : State S ScriptedLink PlainLink → Called ℕ S ScriptedLink PlainLink → Course S ScriptedLink PlainLink =
      λ x o. course (Event.send (coded 32 p x) o.answer ∷ c.log) o.state c.numbers in
      ap (λ (x : State S ScriptedLink PlainLink). with x (sends 32 p x)) is ∙ sym (ap (with σ) e)

  pub fetched-course : (numbers : List ℕ) → c.numbers ≡ numbers → (r : Result (Option Answer) Refusal) (after : List ℕ) → fetched r τ after ≡ fetches 32 p σ numbers
      → fetch_one 32 p c ≡ course (Event.fetch (fetch_takes 32 p σ numbers) numbers r after ∷ c.log) τ after
  fetched-course numbers same r after e =
      let with : State S ScriptedLink PlainLink → List ℕ → Fetched S ScriptedLink PlainLink → Course S ScriptedLink PlainLink =
      λ x n o. course (Event.fetch (fetch_takes 32 p x n) n o.answer o.numbers ∷ c.log) o.state o.numbers in
      ap (λ (x : State S ScriptedLink PlainLink). with x c.numbers (fetches 32 p x c.numbers)) is
      ∙ ap (λ (n : List ℕ). with σ n (fetches 32 p σ n)) same ∙ sym (ap (with σ numbers) e)

  pub heard-course : (r : Result (Option (ℕ × ℕ)) Refusal) → called r τ ≡ hears 32 p σ
      → hear_one 32 p c ≡ course (Event.hear (hear_takes 32 p σ) r ∷ c.log) τ c.numbers
  heard-course r e =
      let with : State S ScriptedLink PlainLink → Called (Option (ℕ × ℕ)) S ScriptedLink PlainLink → Course S ScriptedLink PlainLink =
      λ x o. course (Event.hear (hear_takes 32 p x) o.answer ∷ c.log) o.state c.numbers in
      ap (λ (x : State S ScriptedLink PlainLink). with x (hears 32 p x)) is ∙ sym (ap (with σ) e)

-- a call that admits nothing and does not seal
pub runs_on : {S : Type 0} (p : Parts S ScriptedLink PlainLink) (file : List ℕ) (shut : Bool) (t : ℕ) (log : List Event) (σ τ : State S ScriptedLink PlainLink)
    → Runs p file shut t log σ → (e : Event) → Leads 32 p e σ τ → sealed (e ∷ log) ≡ sealed log → admitted (e ∷ log) ≡ admitted log
    → Runs p file shut t (e ∷ log) τ
runs_on p file shut t log σ τ h e leads same-seal same = record {
  source = h.source;
  forward = h.forward;
  reverse = h.reverse;
  none_forth = h.none_forth;
  none_back = h.none_back;
  run = (σ, h.run, leads);
  is_sealed = same-seal ∙ h.is_sealed;
  is_file = h.is_file;
  stream = subst (FirstPackets p.means.q file t) (sym same) h.stream;
}

-- the parts of a job's transfer keep their laws
pub linked_laws : {S : Type 0} (m : Means) (carries : Carries) (draws : Draws S) → Laws m → Lays 32 m.q carries → DrawsLaws 32 draws → PartsLaws 32 (linked m carries draws)
linked_laws m carries draws means lays random = record {
  means = means;
  carries = lays;
  draws = random;
  forward = scripted_laws 400;
  reverse = plain_laws 400;
}
