-- The counts of a job, and how they are written.
use Rattle.std.specs.Prelude.{ℕ, ◌+◌, min, List, [], ◌∷◌, ◌++◌, codes, decimal, Ok, Err, Result}
use Rattle.refusal.specs.declared.Refusal.{Refusal}
use Rattle.receiver.specs.declared.state.Answer.{Answer}
use Rattle.receiver.specs.declared.state.Answer.TheVariants.{Fresh, Repeat}
use Rattle.job.specs.declared.tally.Tally.{Tally}

-- the counts after one more answer, where `more` says what a count is after one more
abbrev pub counted_by : (ℕ → ℕ) → Result Answer Refusal → Tally → Tally
counted_by more (Ok (Fresh n)) t = record { sent = t.sent; fresh = more t.fresh; repeat = t.repeat; refused = t.refused }
counted_by more (Ok Repeat) t = record { sent = t.sent; fresh = t.fresh; repeat = more t.repeat; refused = t.refused }
counted_by more (Err refusal) t = record { sent = t.sent; fresh = t.fresh; repeat = t.repeat; refused = more t.refused }

-- a count is one more, but stays at the greatest number of 32 bits
abbrev pub one_more : ℕ → ℕ
one_more n = min (n + 1) 4294967295

-- the counts after one more answer, as long as they are small
abbrev pub answered_with : Result Answer Refusal → Tally → Tally
answered_with = counted_by (λ n. n + 1)

-- how many packets an answer released
abbrev pub released_by : Result Answer Refusal → ℕ
released_by (Ok (Fresh n)) = n
released_by (Ok Repeat) = 0
released_by (Err refusal) = 0

-- one line: a word, a space and a number
abbrev pub line : List ℕ → ℕ → List ℕ
line word n = word ++ (decimal n ++ (10 ∷ []))

-- the four counts, a line each, the first of them behind this word
abbrev pub counts_text : List ℕ → Tally → List ℕ
counts_text word tally =
    line (word ++ codes " ") tally.sent
    ++ (line (codes "fresh ") tally.fresh
    ++ (line (codes "repeat ") tally.repeat
    ++ line (codes "refused ") tally.refused))
