use Rattle.std.proofs.Common.{ap, ◌∙◌}
use Rattle.link.specs.OfScripted.{put_by, line, passed}
use Rattle.link.specs.Script.{letter_of}
use Rattle.link.specs.Lines.{scripted-put}
use Rattle.link.proofs.scripted.ScriptedLinkLink.put.Goals as goal

pub returns : goal.returns
returns c =
    let x = c.args.self.now in
    let f = c.args.frame.now in
    let exact = c.pass.ensures.exact ∙ ap (λ o. passed o x) c.of.ensures in
    record {
      exact = exact;
      line = ap (line 400) exact ∙ scripted-put 400 x f ∙ ap (λ n. put_by n 400 (letter_of x.script) (line 400 x) f) c.pass.ensures.room;
    }
