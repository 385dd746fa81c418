use Rattle.std.proofs.Common.{◌≡◌, ℕ, ◌+◌, ◌/◌, ◌%◌, min, ap, ◌∙◌, le_refl, arith}
use Rattle.file.specs.Packets.{packets}
use Rattle.file.specs.Spelling.{room, spelling_of}
use Rattle.file.proofs.Counts.{packets_ceil, packets-fit, packets-hold, packets-least, room-least}
use Rattle.file.proofs.packets.packet_count.Goals as goal

pub div_ceil-requires : goal.div_ceil-requires
div_ceil-requires g c = let m = room-least c.of.result in omega arith

pub overflow_cast-result : goal.overflow_cast-result
overflow_cast-result g c =
    let n = c.args.size in
    let e = c.div_ceil.ensures ∙ ap (λ (r : ℕ). (n + 4) / r + min 1 ((n + 4) % r)) c.room.ensures ∙ packets_ceil c.of.result n in
    let m = packets-fit c.of.result n (omega arith) in
    omega arith

pub returns : goal.returns
returns g c =
    let s = spelling_of g.F.Field.means.q in
    let n = c.args.size in
    let e : c.div_ceil.result ≡ packets s n =
    c.div_ceil.ensures ∙ ap (λ (r : ℕ). (n + 4) / r + min 1 ((n + 4) % r)) (c.room.ensures ∙ ap room c.of.ensures) ∙ packets_ceil s n in
    record {
      exact = e;
      enough = rw e (packets-hold s n _ (le_refl _));
      least = λ m h. rw e (packets-least s n m h);
    }
