-- Answers of calls.
use Rattle.std.proofs.Common.{◌≡◌, ℕ, ◌+◌, ◌*◌, ◌≤◌, false, Some, None, Ok, Err, Option, Result, refl, ap, arith}
use Rattle.std.specs.Result.{result_transpose}
use Rattle.refusal.specs.declared.Refusal.{Refusal}
use Rattle.job.specs.Counts.{answered_with, released_by}
use Rattle.job.specs.declared.tally.Tally.{Tally}
use Rattle.receiver.specs.declared.state.Answer.{Answer}
use Rattle.receiver.specs.declared.state.Answer.TheVariants.{Fresh, Repeat}
use Rattle.transfer.specs.Steps.{some}
use Rattle.delivery.specs.Rounds.{found_none}

-- a call that took a frame, and one that took none
pub transposed_some : {A : Type 0} (r : Result (Option A) Refusal) (a : Result A Refusal) → result_transpose r ≡ Some a → r ≡ some a
transposed_some (Ok (Some x)) a e = let is : Ok x ≡ a = cc in ap some is
transposed_some (Ok None) a e = cc
transposed_some (Err why) a e = let is : Err why ≡ a = cc in ap some is

pub transposed_none : {A : Type 0} (r : Result (Option A) Refusal) → result_transpose r ≡ None → r ≡ Ok None
transposed_none (Ok (Some x)) e = cc
transposed_none (Ok None) e = refl
transposed_none (Err why) e = cc

pub found_some : {A : Type 0} (a : Result A Refusal) → found_none (some a) ≡ false
found_some (Ok x) = refl
found_some (Err why) = refl

-- the counts once an answer is counted
pub counted_one : (a : Result Answer Refusal) (x : Tally)
    → (answered_with a x).sent + ((answered_with a x).fresh + ((answered_with a x).repeat + (answered_with a x).refused)) ≡ x.sent + (x.fresh + (x.repeat + x.refused)) + 1
counted_one (Ok (Fresh n)) x = omega arith
counted_one (Ok Repeat) x = omega arith
counted_one (Err why) x = omega arith

-- no more is released than a window to each fresh answer
pub released_few : (a : Result Answer Refusal) (x : Tally) (n : ℕ) → released_by a ≤ 32 → n ≤ 32 * x.fresh → n + released_by a ≤ 32 * (answered_with a x).fresh
released_few (Ok (Fresh n)) x k few h = omega arith
released_few (Ok Repeat) x k few h = omega arith
released_few (Err why) x k few h = omega arith
