-- The script of a scripted link: its letters, how each is written as a byte, and what each does to a frame.
use Rattle.std.specs.Prelude.{◌≡◌, ℕ, zero, suc, ◌+◌, ◌-◌, ◌%◌, Bool, true, false, cond, ◌&&◌, ◌||◌, List, [], ◌∷◌, ◌++◌, map, length, drop, replicate, Some, None, Ok, Err, Option, Result, ◌==◌, nat_le, nat_lt, slice_index, slice_index_or}
use Rattle.refusal.specs.declared.Refusal.{Refusal}
use Rattle.refusal.specs.declared.Refusal.TheVariants.{BadScript}
use Rattle.link.specs.declared.letter.Letter.{Letter}
use Rattle.link.specs.declared.letter.Letter.TheVariants.{Keep, Lose, Double, Hold}
use Rattle.link.specs.declared.script.Script.{Script}

-- 'k' keeps the frame
abbrev pub keep : ℕ
keep = 107

-- 'l' loses it
abbrev pub lose : ℕ
lose = 108

-- 'd' queues it twice
abbrev pub double : ℕ
double = 100

-- 'h' holds it
abbrev pub hold : ℕ
hold = 104

-- the byte that a letter is written as
abbrev pub code_of : Letter → ℕ
code_of Keep = keep
code_of Lose = lose
code_of Double = double
code_of Hold = hold

-- the letter that a byte stands for; a byte that is none of the four would lose the frame
abbrev pub letter_at : ℕ → Letter
letter_at c = cond (c == keep) Keep (cond (c == double) Double (cond (c == hold) Hold Lose))

-- the byte has a meaning
abbrev pub known : ℕ → Bool
known c = c == keep || (c == lose || (c == double || c == hold))

-- a byte without one is refused
abbrev pub read_letter : ℕ → Result Letter Refusal
read_letter c = cond (known c) (Ok (letter_at c)) (Err BadScript)

-- every byte has a meaning
abbrev pub all_known : List ℕ → Bool
all_known [] = true
all_known (c ∷ cs) = known c && all_known cs

-- a script has at least one letter and at most as many as there is room for
abbrev pub proper : ℕ → List ℕ → Bool
proper room cs = nat_le 1 (length cs) && (nat_le (length cs) room && all_known cs)

-- the letters in their memory, which lose behind the last one
abbrev pub letters_in : ℕ → List ℕ → List Letter
letters_in room cs = map letter_at cs ++ drop (length cs) (replicate room Lose)

-- the script before its first letter is read
unfoldable pub opened : ℕ → List ℕ → Script
opened room cs = record { letters = letters_in room cs; last = length cs - 1; at = 0 }

-- the letter that is read next
abbrev pub letter_of : Script → Letter
letter_of s = slice_index_or s.letters (s.at % length s.letters) Lose

-- the script after it: the last letter is followed by the first
abbrev pub turned : Script → Script
turned s = record { letters = s.letters; last = s.last; at = cond (nat_lt s.at s.last) (s.at + 1) 0 }

-- the script after k letters
unfoldable pub after : ℕ → Script → Script
after zero s = s
after (suc k) s = turned (after k s)

-- the letters that are written cs are read round and round
abbrev pub Rounds : List ℕ → Script → Type 0
Rounds cs s = (k : ℕ) → code_of (letter_of (after k s)) ≡ slice_index cs (k % length cs)

-- the copies of a frame that join the queue at once
abbrev pub copies : {X : Type 0} → Letter → X → List X
copies Keep x = x ∷ []
copies Lose x = []
copies Double x = x ∷ x ∷ []
copies Hold x = []

-- the letter holds the frame
abbrev pub holds : Letter → Bool
holds Keep = false
holds Lose = false
holds Double = false
holds Hold = true

-- what a letter lets join the queue at once, of a frame x that is not too long
abbrev pub through : {X : Type 0} → Letter → Option X → List X
through l None = []
through l (Some x) = copies l x

-- what it holds
abbrev pub holding : {X : Type 0} → Letter → Option X → Option X
holding l None = None
holding l (Some x) = cond (holds l) (Some x) None
