-- What the program writes.
use Rattle.std.specs.Prelude.{ℕ, ◌≤◌, List, ◌++◌, take, codes}
use Rattle.job.specs.Counts.{line, counts_text}
use Rattle.job.specs.Output.{file_text}
use Rattle.delivery.specs.declared.outcome.Ending.{Ending}
use Rattle.delivery.specs.declared.outcome.Ending.TheVariants.{Whole, Spent}
use Rattle.delivery.specs.declared.outcome.Outcome.{Outcome}

-- how many packets were released when the rounds were used up
abbrev pub spent_text : ℕ → List ℕ
spent_text released = line (codes "spent ") released

-- an ending, with the buffer that the file was put together in
abbrev pub shown_ending : List ℕ → Ending → List ℕ
shown_ending buffer (Whole n) = file_text (take n buffer)
shown_ending buffer (Spent released) = spent_text released

-- an outcome, with that buffer
abbrev pub shown_text : List ℕ → Outcome → List ℕ
shown_text buffer o = counts_text (codes "sent") o.tally ++ shown_ending buffer o.ending

-- the file fits a buffer of so many bytes
abbrev pub Within : ℕ → Ending → Type 0
Within room (Whole n) = n ≤ room
Within room (Spent released) = Unit {0}
