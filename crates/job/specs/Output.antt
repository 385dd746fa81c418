-- What the program writes.
use Rattle.std.specs.Prelude.{ℕ, List, ◌++◌, length, codes}
use Rattle.job.specs.declared.tally.Tally.{Tally}
use Rattle.job.specs.Counts.{line, counts_text}

-- a job that was refused with this number
abbrev pub refused_text : ℕ → List ℕ
refused_text number = line (codes "job ") number

-- the length of a file that came through, and the file
abbrev pub file_text : List ℕ → List ℕ
file_text file = line (codes "whole ") (length file) ++ file

-- a file that came through in so many packets, with the tally of its frames
abbrev pub whole_text : ℕ → Tally → List ℕ → List ℕ
whole_text packets tally file =
    line (codes "packets ") packets
    ++ (counts_text (codes "frames") tally
    ++ file_text file)
