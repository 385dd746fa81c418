use Rattle.std.proofs.Common.{◌≡◌, ℕ, ◌+◌, ◌*◌, ◌≤◌, length, take, sym, ap, ◌∙◌, arith}
use Rattle.std.proofs.lemmas.Nat.{mul-le}
use Rattle.file.specs.Packets.{packets, packet_of}
use Rattle.file.specs.Spelling.{room, spelling_of}
use Rattle.file.proofs.Counts.{room-least}
use Rattle.file.proofs.Fills.{begins}
use Rattle.job.specs.Crossing.{all_fresh}
use Rattle.job.proofs.Crossing.{packet-is, kept_ok, taken_alone}
use Rattle.job.proofs.carry.carry.Goals as goal

pub cross-requires-clause-packet : goal.cross-requires-clause-packet
cross-requires-clause-packet g c =
    let s = spelling_of g.C.Field.means.q in
    let wide : 4 + length c.args.file.bytes.now ≤ room s * 16004 =
    omega (arith, mul-le 1 16004 (room s) 16004 (omega (arith, room-least s)) (omega arith)) in
    (omega (arith, c.packet_count-number-end.ensures.least 16004 wide), c.in_ok-symbols.ensures.codes.1)

pub returns-in_err-add_all : goal.returns-in_err-add_all
returns-in_err-add_all g c =
    let q = g.C.Field.means.q in
    let file = c.args.file.bytes.now in
    let p = c.in_ok-symbols.symbols in
    let is : p ≡ packet_of (spelling_of q) file c.loop-number.number = packet-is (length file) p _ c.args.file.is_file.short c.in_ok-symbols.ensures.exact in
    let one : c.in_ok-released.released ≡ 1 = cc c.in_ok-released.ensures.answer in
    let took = taken_alone q file p _ c.cross.new.numbers c.loop-number.buffer c.loop-number.number _ _ _ _ c.in_ok-symbols.ensures.codes.0 is
    c.cross.ensures.released one (omega arith) c.add_all.ensures.fills c.in_ok-symbols.ensures.carries (omega arith) c.loop-number.invariant.filled in
    absurd (cc (took.0, c.in_err-add_all.was))

pub loop-number-preserved : goal.loop-number-preserved
loop-number-preserved g c =
    let q = g.C.Field.means.q in
    let file = c.args.file.bytes.now in
    let p = c.in_ok-symbols.symbols in
    let is : p ≡ packet_of (spelling_of q) file c.loop-number.number = packet-is (length file) p _ c.args.file.is_file.short c.in_ok-symbols.ensures.exact in
    let one : c.in_ok-released.released ≡ 1 = cc c.in_ok-released.ensures.answer in
    record {
      waits = c.cross.ensures.waits;
      tally = c.cross.ensures.tally;
      filled = (taken_alone q file p _ c.cross.new.numbers c.loop-number.buffer c.loop-number.number _ _ _ _ c.in_ok-symbols.ensures.codes.0 is
          c.cross.ensures.released one (omega arith) c.add_all.ensures.fills c.in_ok-symbols.ensures.carries (omega arith) c.loop-number.invariant.filled).1;
      long = omega arith;
    }

pub returns : goal.returns
returns g c =
    let q = g.C.Field.means.q in
    let file = c.args.file.bytes.now in
    let buffer = c.loop-number.buffer in
    let filling = c.loop-number.filling in
    let filled = c.loop-number.invariant.filled in
    let whole = c.in_ok-whole.whole in
    let is = kept_ok c.finish.result c.map_err.result _ whole c.map_err.ensures.cases c.map_err.ensures.variant c.in_ok-whole.was in
    let done = rw is at (c.finish.ensures.completes file buffer c.loop-number.number filled) in
    let size = (rw is at c.finish.ensures.exact).1 in
    let fits : filling.size ≤ length buffer = omega (arith, filling.short) in
    let count : c.loop-number.number ≡ packets (spelling_of q) (length file) = omega (arith, c.packet_count-number-end.ensures.exact) in (
      c.loop-number.invariant.tally ∙ ap all_fresh count,
      done.1,
      ap (λ (n : ℕ). take n buffer) (sym done.1 ∙ size)
          ∙ begins (spelling_of q) file c.loop-number.number filling.taken filling.size buffer filled done.0 fits,
    )
