use Rattle.std.proofs.Common.{ltb, ◌++◌, length, drop, ap, ◌∙◌}
use Rattle.std.proofs.lemmas.List.{take-append-drop}
use Rattle.link.specs.OfPlain.{plain}
use Rattle.link.proofs.Taking.{takes_none, takes-some, written-start, state-after, queue-after}
use Rattle.link.proofs.plain.PlainLinkLink.take.Goals as goal

pub returns-in_default-pop : goal.returns-in_default-pop
returns-in_default-pop c =
    let q = c.args.self.now in
    let b = c.args.buffer.now in
    let start = c.in-Some.ensures.cases in
    let left = ap (λ x. x ++ drop 400 b) start.same ∙ take-append-drop 400 b in
    let exact = takes_none 400 q b start.enough c.pop.new.self c.pop.ensures.after _ c.in_default-pop.ensures.front left in
    record { exact = exact; queue = queue-after 400 (ltb (length b) 400) q c.pop.new.self (state-after 400 (plain 400) q b exact) }

pub returns : goal.returns
returns c =
    let q = c.args.self.now in
    let b = c.args.buffer.now in
    let start = c.in-Some.ensures.cases in
    let x = c.in-Some-pop.frame in
    let bytes = written-start 400 x b _ c.write.new.buffer start.enough start.same c.write.ensures.buffer in
    let exact = takes-some 400 q b start.enough c.pop.new.self c.pop.ensures.after x c.write.result _ c.in-Some-pop.ensures.front c.write.ensures.length bytes in
    record { exact = exact; queue = queue-after 400 (ltb (length b) 400) q c.pop.new.self (state-after 400 (plain 400) q b exact) }
