use Rattle.std.proofs.Common.{sym, refl}
use Rattle.file.specs.Spelling.{spelling_of}
use Rattle.file.proofs.Fills.{all, not_all}
use Rattle.file.proofs.filling.Filling.finish.Goals as goal

pub returns-then-is_complete : goal.returns-then-is_complete
returns-then-is_complete g c =
    let q = g.F.Field.means.q in
    let e = sym c.if-is_complete.ensures in
    record {
      exact = (e, refl);
      completes = λ file buffer k filled. all (spelling_of q) file k c.args.self.taken c.args.self.size buffer filled e;
    }

pub returns-else-is_complete : goal.returns-else-is_complete
returns-else-is_complete g c =
    let q = g.F.Field.means.q in
    let e = sym c.if-is_complete.ensures in
    record {
      exact = (e, refl, refl, refl);
      completes = λ file buffer k filled. (not_all (spelling_of q) file k c.args.self.taken c.args.self.size buffer filled e, refl);
    }
