use Rattle.file.proofs.Spelled.{Begun}
use Rattle.file.proofs.packets.packet.Given as goal

abbrev pub invariant-loop-i : goal.invariant-loop-i
invariant-loop-i g l = Begun l.spelling l.file l.number l.i l.symbols
