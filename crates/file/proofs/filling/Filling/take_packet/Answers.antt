use Rattle.std.proofs.Common.{◌≡◌, ℕ, ◌+◌, List, Ok, sym, ap, ◌∙◌, arith}
use Rattle.file.specs.Filling.{complete, size_with_packet}
use Rattle.file.specs.Spelling.{spelling_of}
use Rattle.file.proofs.Steps.{few, still_lacks, takes_none, takes-long, takes_one}
use Rattle.file.proofs.filling.Filling.take_packet.Goals as goal

pub returns-then-is_complete : goal.returns-then-is_complete
returns-then-is_complete g c = sym (takes_none (spelling_of g.F.Field.means.q) _ _ c.args.packet.now.symbols.now _ (sym c.if-is_complete.ensures))

pub returns-then-size-gt-FILE_MOST : goal.returns-then-size-gt-FILE_MOST
returns-then-size-gt-FILE_MOST g c =
    sym (takes-long (spelling_of g.F.Field.means.q) _ _ c.args.packet.now.symbols.now _ (sym c.if-is_complete.ensures) (omega (arith, c.size_with-size.ensures)))

pub write-requires : goal.write-requires
write-requires g c =
    let self = c.args.self.now in
    let s = spelling_of g.F.Field.means.q in
    let e : c.size_with-size.result ≡ size_with_packet s self.taken self.size c.args.packet.now.symbols.now = c.size_with-size.ensures in
    (omega arith, ap (complete s self.taken) e ∙ still_lacks s self.taken self.size c.args.packet.now.symbols.now (sym c.if-is_complete.ensures))

pub overflow_add-self : goal.overflow_add-self
overflow_add-self g c =
    let m = few (spelling_of g.F.Field.means.q) c.args.self.now.taken c.args.self.now.size (sym c.if-is_complete.ensures) in
    let n = c.args.self.now.short in
    omega arith

pub returns : goal.returns
returns g c =
    let self = c.args.self.now in
    let n = c.size_with-size.result in
    ap (λ (b : List ℕ). (Ok tt, self.taken + 1, n, b)) c.write.ensures
    ∙ sym (takes_one (spelling_of g.F.Field.means.q) self.taken self.size c.args.packet.now.symbols.now c.args.buffer.now (sym c.if-is_complete.ensures) n (sym c.size_with-size.ensures) (omega arith))
