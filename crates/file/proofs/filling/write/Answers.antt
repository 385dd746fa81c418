use Rattle.std.proofs.Common.{◌≡◌, ◌+◌, ◌-◌, ◌*◌, ◌<◌, ap, ◌∙◌, arith}
use Rattle.file.specs.Spelling.{room, spelling_of}
use Rattle.file.proofs.Counts.{room-least}
use Rattle.file.proofs.Steps.{lacks}
use Rattle.file.proofs.Writes.{wrote}
use Rattle.file.proofs.filling.write.Goals as goal

pub slice_bounds-byte-items-count : goal.slice_bounds-byte-items-count
slice_bounds-byte-items-count g c =
    let is : c.room-room.result ≡ room (spelling_of g.F.Field.means.q) = c.room-room.ensures ∙ ap room c.of.ensures in
    let l : c.room-room.result * c.args.taken < 4 + c.args.size = rw is (lacks (spelling_of g.F.Field.means.q) c.args.taken c.args.size c.requires.1) in
    let wide = room-least (spelling_of g.F.Field.means.q) in
    omega arith

pub slice_bounds-byte-items-start : goal.slice_bounds-byte-items-start
slice_bounds-byte-items-start g c =
    let is : c.room-room.result ≡ room (spelling_of g.F.Field.means.q) = c.room-room.ensures ∙ ap room c.of.ensures in
    let l : c.room-room.result * c.args.taken < 4 + c.args.size = rw is (lacks (spelling_of g.F.Field.means.q) c.args.taken c.args.size c.requires.1) in
    let wide = room-least (spelling_of g.F.Field.means.q) in
    omega arith

pub returns : goal.returns
returns g c =
    let s = spelling_of g.F.Field.means.q in
    let is : c.room-room.result ≡ room s = c.room-room.ensures ∙ ap room c.of.ensures in
    let l : c.room-room.result * c.args.taken < 4 + c.args.size = rw is (lacks s c.args.taken c.args.size c.requires.1) in
    wrote s c.args.taken c.args.size c.args.packet.now.symbols.now c.args.buffer.now c.loop-i.byte-items c.saturating_sub-start.result (c.min-end.result - c.saturating_sub-start.result) c.room-room.result
    is (omega arith) (omega arith) (omega arith) (omega arith) (omega arith) (λ k h. c.loop-i.invariant k (omega arith))
