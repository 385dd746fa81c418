use Rattle.std.proofs.Common.{◌≡◌}
use Rattle.std.specs.Slice.Iter.{chunks_exact_rest, chunks_exact_size}
use Rattle.file.specs.Filling.{adding_each, packets_in}
use Rattle.file.proofs.filling.Filling.add_all.Given as goal

-- what the numbers that are left still do is what all of them do
abbrev pub invariant-loop-packet : goal.invariant-loop-packet
invariant-loop-packet g l =
    let q = g.F.Field.means.q in
    record {
      size : chunks_exact_size l.packet-iterator ≡ 128;
      left :
          adding_each q l.self.taken l.self.size (packets_in (chunks_exact_rest l.packet-iterator)) l.buffer
          ≡ adding_each q l.initial.self.taken l.initial.self.size (packets_in l.numbers) l.initial.buffer;
    }
