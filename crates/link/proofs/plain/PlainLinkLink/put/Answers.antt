use Rattle.std.proofs.Common.{ap, ◌∙◌}
use Rattle.std.specs.Option.{option_to_list}
use Rattle.link.specs.Queue.{joined_by, short}
use Rattle.link.specs.Ring.{queued, pushed_by}
use Rattle.link.specs.Lines.{plain-put}
use Rattle.link.proofs.plain.PlainLinkLink.put.Goals as goal

pub returns : goal.returns
returns c =
    let q = c.args.self.now in
    let f = c.args.frame.now in
    let exact = c.join.ensures.exact ∙ ap (λ o. pushed_by q (option_to_list o)) c.of.ensures in
    record {
      exact = exact;
      queue = ap (queued 400) exact ∙ plain-put 400 q f ∙ ap (λ n. joined_by n (queued 400 q) (option_to_list (short 400 f))) c.join.ensures.room;
    }
