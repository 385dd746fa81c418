-- How a job begins, and what it comes to.
use Rattle.std.proofs.Common.{◌≡◌, ℕ, ◌≤◌, Bool, true, false, cond, ◌&&◌, eqb, List, ◌++◌, length, drop, replicate, Ok, sym, refl, ap, ◌∙◌, subst, not-suc-le-zero, arith}
use Rattle.std.proofs.lemmas.List.{take_all}
use Rattle.std.proofs.lemmas.Bool.{eqb-true}
use Rattle.link.specs.declared.plain.PlainLink.{PlainLink}
use Rattle.link.specs.declared.scripted.ScriptedLink.{ScriptedLink}
use Rattle.link.specs.OfScripted.{new_link}
use Rattle.link.specs.Ring.{empty}
use Rattle.field.specs.Field.{Means}
use Rattle.carried.specs.Carries.{Carries}
use Rattle.source.specs.Source.{Draws}
use Rattle.file.proofs.Counts.{packets-hold}
use Rattle.file.proofs.Beside.{begins_with}
use Rattle.file.specs.Filled.{File, FilledOver}
use Rattle.file.specs.Packets.{packets}
use Rattle.file.specs.Spelling.{spelling_of}
use Rattle.transfer.specs.Parts.{Parts, PartsLaws, State, started}
use Rattle.delivery.specs.declared.outcome.Ending.TheVariants.{Whole, Spent}
use Rattle.delivery.specs.declared.progress.Progress.{Progress}
use Rattle.delivery.specs.Follows.{Follows}
use Rattle.delivery.specs.Outcome.{linked, begun, course_of, outcome_of, held_bytes, written, RoundsUsedUp}
use Rattle.delivery.specs.Phases.{file_packet, count_of, CarriesOut, outcome_from}
use Rattle.delivery.specs.Rounds.{Course, done, rounds}
use Rattle.delivery.proofs.Rounding.{done-is, outcome-is, heard-released, used_up}

-- nothing is kept yet
pub starts : {S C : Type 0} (m : Means) (carries : Carries) (draws : Draws S) (file : List ℕ) → File file → (source : S) (script : List ℕ)
    → (forward : ScriptedLink) → forward ≡ new_link 16 400 64 script → (reverse : PlainLink) → reverse ≡ empty 16 400
    → (σ : State S ScriptedLink PlainLink) → σ ≡ started 32 source forward reverse → (v : Progress C) (buffer : List ℕ)
    → (v.heard ≡ 0) × (v.released ≡ 0) × (v.tally ≡ record { sent = 0; fresh = 0; repeat = 0; refused = 0 }) → v.numbers ≡ replicate 4096 0
    → FilledOver (spelling_of m.q) file 0 v.filling.taken v.filling.size buffer buffer
    → Follows (linked m carries draws) file buffer false 0 (begun (linked m carries draws) source script) σ v buffer
unfolding begun
starts m carries draws file is_file source script forward forth reverse back σ began v buffer counts numbers filled =
    let is = began ∙ ap (λ (x : ScriptedLink). started 32 source x reverse) forth ∙ ap (λ (x : PlainLink). started 32 source (new_link 16 400 64 script) x) back in
    record {
      state = sym is;
      numbers = sym numbers;
      runs = record {
        source = source;
        forward = new_link 16 400 64 script;
        reverse = empty 16 400;
        none_forth = refl;
        none_back = refl;
        run = is;
        is_sealed = refl;
        is_file = is_file;
        stream = record { count = refl; few = omega arith; each = λ k l. absurd (not-suc-le-zero l) };
      };
      heard = sym counts.0;
      tally = counts.2;
      releases = sym counts.1;
      filled = subst (λ (k : ℕ). FilledOver (spelling_of m.q) file k v.filling.taken v.filling.size buffer buffer) (sym counts.1) filled;
    }

module _
    {S C : Type 0} (p : Parts S ScriptedLink PlainLink) (source : S) (script file before : List ℕ) (σ : State S ScriptedLink PlainLink) (v : Progress C) (buffer : List ℕ)
  where
    -- the whole course
    abbrev all_rounds : Course S ScriptedLink PlainLink
    all_rounds = rounds 32 p (file_packet p file) (count_of p file) 64000 (begun p source script)

    module _ (shut : Bool) (t : ℕ) (d : Course S ScriptedLink PlainLink) (h : Follows p file before shut t d σ v buffer) (ends : d ≡ all_rounds) where
      -- the bytes of the file that the released packets hold are there, and all else is as before
      buffer-is : 16000 ≤ length buffer → (n : ℕ) → n ≡ held_bytes p.means.q file v.released → buffer ≡ written n file before
      buffer-is room n is =
          begins_with (spelling_of p.means.q) file v.released v.filling.taken v.filling.size before buffer h.filled n is
          (omega (arith, h.filled.beside.long, h.runs.is_file.short))

      -- not done: the rounds are used up
      pub spent_carries : 16000 ≤ length buffer → (shut && eqb v.heard t) ≡ false → CarriesOut p file source script before (Ok (record { tally = v.tally; ending = Spent v.released })) buffer
      unfolding course_of RoundsUsedUp
      spent_carries room not =
          let is = done-is p file before shut t d σ v buffer h ∙ not in (
            outcome-is p file before shut t d σ v buffer h false is ∙ ap (λ (x : Course S ScriptedLink PlainLink). outcome_of file x.log) ends,
            (buffer-is room _ refl, used_up p (file_packet p file) (count_of p file) 64000 (begun p source script) (sym (ap (λ (x : Course S ScriptedLink PlainLink). done x.log) ends) ∙ is)),
          )

      -- done: all packets are released, so the whole file is there
      pub whole_carries : PartsLaws 32 p → t ≡ count_of p file → 16000 ≤ length buffer → (shut && eqb v.heard t) ≡ true → v.heard ≡ t
          → CarriesOut p file source script before (Ok (record { tally = v.tally; ending = Whole (length file) })) buffer
      unfolding course_of
      whole_carries laws all room is-done same =
          let is = done-is p file before shut t d σ v buffer h ∙ is-done in
          let s = spelling_of p.means.q in
          let enough : count_of p file ≤ v.released = omega (arith, heard-released p file before shut t d σ v buffer h laws) in
          let hold : length file ≡ held_bytes p.means.q file v.released = omega (arith, packets-hold s (length file) v.released enough) in (
            outcome-is p file before shut t d σ v buffer h true is ∙ ap (λ (x : Course S ScriptedLink PlainLink). outcome_of file x.log) ends,
            buffer-is room (length file) hold ∙ ap (λ (l : List ℕ). l ++ drop (length file) before) (take_all (length file) file (omega arith)),
          )

    -- a sealed transfer's rounds have ended
    module _ (laws : PartsLaws 32 p) (t : ℕ) (d : Course S ScriptedLink PlainLink) (h : Follows p file before true t d σ v buffer) (ends : d ≡ all_rounds)
        (all : t ≡ count_of p file) (room : 16000 ≤ length buffer)
      where
        by_heard : (b : Bool) → eqb v.heard t ≡ b → CarriesOut p file source script before (Ok (record { tally = v.tally; ending = cond b (Whole (length file)) (Spent v.released) })) buffer
        by_heard true is = whole_carries true t d h ends laws all room is (eqb-true v.heard t is)
        by_heard false is = spent_carries true t d h ends room is

        pub closed_carries : CarriesOut p file source script before (Ok (outcome_from file t v)) buffer
        closed_carries = by_heard (eqb v.heard t) refl

        -- once the sender has heard of all packets, all are released
        pub all_released : v.heard ≡ t → packets (spelling_of p.means.q) (length file) ≤ v.released
        all_released same = omega (arith, heard-released p file before true t d σ v buffer h laws)
