use Rattle.std.proofs.Common.{◌≡◌, ℕ, List, take, ap₂, ◌∙◌, arith}
use Rattle.std.proofs.lemmas.List.{take-take}
use Rattle.file.specs.Spelling.{spelling_of}
use Rattle.file.proofs.Fills.{begins}
use Rattle.file.proofs.whole.Whole.show.Goals as goal

pub returns : goal.returns
returns c =
    let size = c.args.self.now.size in
    let buffer = c.args.buffer.now in
    let cases = c.in-Some.ensures.cases in
    let e : take c.length.result c.in-Some.buffer.now ≡ take size buffer = ap₂ (λ (n : ℕ) (xs : List ℕ). take n xs) c.length.ensures cases.same ∙ take-take size 16000 buffer c.args.self.now.short in
    record {
      exact = (cases.enough, e);
      shows = λ q file k taken filled all. e ∙ begins (spelling_of q) file k taken size buffer filled all (omega (arith, cases.enough, c.args.self.now.short));
    }
