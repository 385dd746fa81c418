use Rattle.std.proofs.Common.{◌≡◌, ◌+◌, ◌*◌, get_or, length, ap, arith, rules}
use Rattle.capture.specs.Frames.{captured}
use Rattle.capture.proofs.Steps.{ends, cuts, gives}
use Rattle.capture.proofs.FramesIterator.next.Goals as goal

pub returns-in_default-clause-steps : goal.returns-in_default-clause-steps
returns-in_default-clause-steps c = let none = ends c.args.self.now.rest.now c.in_default.len_below in (none, none)

pub returns-in_default-split_at_checked : goal.returns-in_default-split_at_checked
unfolding captured
returns-in_default-split_at_checked c =
    let bs = c.args.self.now.rest.now in
    let length_is : c.from_be_bytes-length.result ≡ get_or bs 0 0 * 256 + get_or bs 1 0 = omega (arith, c.from_be_bytes-length.ensures) in
    let step = cuts bs c.from_be_bytes-length.result c.in-len2-up.len_at_least length_is c.in_default-split_at_checked.ensures.cases in
    let shorter = ap length step in search rules

pub returns : goal.returns
unfolding captured
returns c =
    let split = c.in-Some.ensures.cases in
    let bs = c.args.self.now.rest.now in
    let length_is : c.from_be_bytes-length.result ≡ get_or bs 0 0 * 256 + get_or bs 1 0 = omega (arith, c.from_be_bytes-length.ensures) in
    let step = gives bs c.from_be_bytes-length.result c.in-len2-up.len_at_least length_is split.0 c.in-Some.frame.now c.in-Some.rest.now split.1 split.2 in
    let shorter = ap length step in search rules
