use Rattle.std.proofs.Common.{◌≡◌, ℕ, ◌<◌, get_or, sym, ◌∙◌, lit<, arith, rules}
use Rattle.file.specs.Filling.{length_in}
use Rattle.file.specs.Spelling.{byte_of, spelling_of}
use Rattle.file.proofs.Steps.{size-first, size_later}
use Rattle.file.proofs.filling.Filling.size_with.Goals as goal

pub returns-then-self-gt0 : goal.returns-then-self-gt0
returns-then-self-gt0 g c = sym (size_later (spelling_of g.F.Field.means.q) _ _ c.args.packet.now.symbols.now (λ e. omega arith))

pub returns : goal.returns
unfolding length_in
returns g c =
    let s = spelling_of g.F.Field.means.q in
    let e : c.from_be_bytes.result ≡ length_in s c.args.packet.now.symbols.now =
    let byte = λ (i : ℕ) (h : i < 4). let b : get_or c.from_fn.result i 0 ≡ byte_of s c.args.packet.now.symbols.now i = search rules in b in
    omega (arith, c.from_be_bytes.ensures, byte 0 (lit< tt), byte 1 (lit< tt), byte 2 (lit< tt), byte 3 (lit< tt)) in
    e ∙ sym (size-first s _ _ c.args.packet.now.symbols.now (omega arith))
