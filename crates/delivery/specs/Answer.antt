-- What the program writes for what it reads.
use Rattle.std.specs.Prelude.{ℕ, List, ◌++◌, codes, Ok, Err, Result}
use Rattle.refusal.specs.declared.Refusal.{Refusal}
use Rattle.refusal.specs.Numbers.{numbered}
use Rattle.delivery.specs.declared.outcome.Ending.{Ending}
use Rattle.delivery.specs.declared.outcome.Ending.TheVariants.{Whole, Spent}
use Rattle.delivery.specs.declared.outcome.Outcome.{Outcome}
use Rattle.job.specs.Line.{Asked, parsed}
use Rattle.delivery.specs.Outcome.{outcome_of, log_of}
use Rattle.job.specs.Counts.{counts_text}
use Rattle.job.specs.Output.{refused_text, file_text}
use Rattle.delivery.specs.Output.{spent_text}

-- an ending: whole, the file that was handed in
abbrev pub ending_text : List ℕ → Ending → List ℕ
ending_text file (Whole n) = file_text file
ending_text file (Spent released) = spent_text released

-- an outcome: the counts, then the ending
abbrev pub outcome_text : List ℕ → Outcome → List ℕ
outcome_text file o = counts_text (codes "sent") o.tally ++ ending_text file o.ending

-- a job writes the outcome of its rounds, and a refused one its number
abbrev pub asked_text : Result Asked Refusal → List ℕ
asked_text (Ok job) = outcome_text job.file (outcome_of job.file (log_of job.field job.source job.script job.file))
asked_text (Err refusal) = refused_text (numbered refusal)

-- the answer to any bytes
abbrev pub answered : List ℕ → List ℕ
answered input = asked_text (parsed input)
