-- What the program writes of a job that was read.
use Rattle.std.proofs.Common.{◌≡◌, ℕ, true, eqb, leb, List, [], ◌∷◌, ◌++◌, length, take, drop, codes, Some, None, Ok, Err, Option, Result, sym, refl, ap, ◌∙◌, subst}
use Rattle.std.proofs.lemmas.List.{take_at}
use Rattle.std.proofs.lemmas.Bool.{cond_both, cond-true, leb-true}
use Rattle.refusal.specs.declared.Refusal.{Refusal}
use Rattle.refusal.specs.declared.Refusal.TheVariants.{BadLine}
use Rattle.link.specs.Script.{proper}
use Rattle.receiver.specs.Log.{released}
use Rattle.transfer.specs.Log.{arrivals}
use Rattle.job.specs.declared.line.FieldKind.{FieldKind}
use Rattle.job.specs.declared.line.SourceKind.{SourceKind}
use Rattle.delivery.specs.declared.outcome.Ending.{Ending}
use Rattle.delivery.specs.declared.outcome.Ending.TheVariants.{Whole, Spent}
use Rattle.delivery.specs.declared.outcome.Outcome.{Outcome}
use Rattle.delivery.specs.Answer.{ending_text, outcome_text, asked_text, answered}
use Rattle.job.specs.Line.{split, field_kind, source_kind, Asked, checked, kinds, lined, parsed}
use Rattle.delivery.specs.Outcome.{outcome_of, log_of, ran, EndsRightly, setup_of, Ends}
use Rattle.delivery.specs.Rounds.{done}
use Rattle.job.specs.Counts.{counts_text}
use Rattle.job.specs.Output.{file_text}
use Rattle.delivery.specs.Output.{shown_ending, shown_text, Within}

-- what was read has a script and is not too long
abbrev Good : Result Asked Refusal → Type 0
Good (Ok job) = (proper 64 job.script ≡ true) × (leb (length job.file) 16000 ≡ true)
Good (Err refusal) = Unit {0}

checked_good : (f : FieldKind) (s : SourceKind) (script file : List ℕ) → Good (checked f s script file)
checked_good f s script file =
    cond_both (proper 64 script) _ _ Good (λ a. cond_both (leb (length file) 16000) _ _ Good (λ b. (a, b)) (λ _. tt)) (λ _. tt)

kinds_good : (f : Option FieldKind) (s : Option SourceKind) (script file : List ℕ) → Good (kinds f s script file)
kinds_good None s script file = tt
kinds_good (Some f) None script file = tt
kinds_good (Some f) (Some s) script file = checked_good f s script file

lined_good : (line file : List ℕ) → Good (lined line file)
lined_good [] file = tt
lined_good (f ∷ []) file = tt
lined_good (f ∷ (s ∷ [])) file = tt
lined_good (f ∷ (s ∷ (b ∷ script))) file = cond_both (eqb b 32) _ _ Good (λ _. kinds_good (field_kind f) (source_kind s) script file) (λ _. tt)

parsed_good : (input : List ℕ) → Good (parsed input)
parsed_good input = go (split input)
  where
    go : (o : Option (List ℕ × List ℕ)) → Good (elim o [ None ↦ Err BadLine | Some parts ↦ lined parts.0 parts.1 ])
    go None = tt
    go (Some parts) = lined_good parts.0 parts.1

module _ (input : List ℕ) (job : Asked) (is : parsed input ≡ Ok job) where
  -- its run is not refused
  ran-is : ran job.field job.source job.script job.file 16000 ≡ Ok (outcome_of job.file (log_of job.field job.source job.script job.file))
  ran-is = let good = subst Good is (parsed_good input) in cond-true (proper 64 job.script) _ _ good.0 ∙ cond-true (leb (length job.file) 16000) _ _ good.1

  pub never-refused : (why : Refusal) → Err why ≡ ran job.field job.source job.script job.file 16000 → ⊥
  never-refused why e = cc (e, ran-is)

  module _ (o : Outcome) (e : Ok o ≡ ran job.field job.source job.script job.file 16000) where
    outcome-known : o ≡ outcome_of job.file (log_of job.field job.source job.script job.file)
    outcome-known = cc (e, ran-is)

    -- the file fits the buffer
    pub fits : Within 16000 o.ending
    fits =
        let log = log_of job.field job.source job.script job.file in
        subst (λ (x : Outcome). Within 16000 x.ending) (sym outcome-known)
        (cond_both (done log) (Whole (length job.file)) (Spent (length (released (arrivals log)))) (Within 16000) (λ _. leb-true (length job.file) 16000 (subst Good is (parsed_good input)).1) (λ _. tt))

    -- what is shown is what the job's rounds come to
    pub shown-right : (before after : List ℕ) → EndsRightly job.field job.source job.script job.file before after (Ok o) → shown_text after o ≡ answered input
    shown-right before after right =
        ap (λ (x : List ℕ). counts_text (codes "sent") o.tally ++ x) (subst (λ (x : Outcome). Right x.ending) (sym outcome-known) go right)
        ∙ ap (outcome_text job.file) outcome-known
        ∙ sym (ap asked_text is)
      where
        Right : Ending → Type 0
        Right x =
            let s = setup_of job.field job.source in
            Ends s.parts s.source job.script job.file before after x → shown_ending after x ≡ ending_text job.file x

        go : Right (outcome_of job.file (log_of job.field job.source job.script job.file)).ending
        go =
            let log = log_of job.field job.source job.script job.file in
            cond_both (done log) (Whole (length job.file)) (Spent (length (released (arrivals log)))) Right
            (λ _ h. ap file_text (ap (take (length job.file)) h ∙ take_at job.file (drop (length job.file) before) (length job.file) refl)) (λ _ _. refl)
