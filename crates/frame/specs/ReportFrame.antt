-- Reports: kind 4 and two numbers of four bytes.
use Rattle.std.specs.Prelude.{ℕ, List, ◌∷◌, ◌++◌, Result}
use Rattle.refusal.specs.declared.Refusal.{Refusal}
use Rattle.frame.specs.Head.{misfit, too_short, verdict, written, four_bytes, number_at}

-- the frame of a report
abbrev pub report_of : ℕ × ℕ → List ℕ
report_of p = 4 ∷ four_bytes p.0 ++ four_bytes p.1

-- what reading a report gives
abbrev pub reading_report : List ℕ → Result (ℕ × ℕ) Refusal
reading_report bytes = verdict (misfit 4 9 bytes) (number_at bytes 1, number_at bytes 5)

-- what writing a report answers, and what the buffer then holds
abbrev pub writing_report : ℕ × ℕ → List ℕ → Result ℕ Refusal × List ℕ
writing_report p buffer = written (too_short 9 buffer) 9 (report_of p) buffer
