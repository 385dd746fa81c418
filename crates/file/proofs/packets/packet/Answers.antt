use Rattle.std.proofs.Common.{◌≡◌, ℕ, ◌+◌, ◌*◌, ◌≤◌, length, get_or, Ok, refl, ap, ◌∙◌, arith}
use Rattle.std.proofs.lemmas.Bool.{cond_above}
use Rattle.file.specs.declared.spelling.Spelling.{Spelling}
use Rattle.file.specs.Packets.{loaded, packet_of}
use Rattle.file.specs.Spelling.{base, digits, spelled, spelling_of}
use Rattle.file.proofs.Carried.{packet-codes}
use Rattle.file.proofs.Spelled.{begun-none, begun_more, begun_all}
use Rattle.file.proofs.packets.packet.Goals as goal

pub loop-i-init : goal.loop-i-init
loop-i-init g c = begun-none _ _ _ _ refl

pub loop-i-preserved : goal.loop-i-preserved
loop-i-preserved g c =
    let s = c.of-spelling.result in
    let i = c.loop-i.i in
    begun_more s c.args.file.now c.args.number i c.digits-digits.result _ _ _ (omega arith) c.digits-digits.ensures (omega arith)
    (c.spell.ensures ∙ ap (spelled (base s) (digits s)) (c.held.ensures ∙ ap (λ (r : ℕ). get_or (loaded c.args.file.now) (r * c.args.number + i) 0) c.room.ensures)) c.loop-i.invariant

pub returns : goal.returns
returns g c =
    let q = g.F.Field.means.q in
    let file = c.args.file.now in
    let number = c.args.number in
    let short : length file ≤ 16000 = omega arith in
    let e : c.loop-i.symbols ≡ packet_of (spelling_of q) file number =
    begun_all c.of-spelling.result file number c.loop-i.i _ (omega arith) c.loop-i.invariant
    ∙ ap (λ (s : Spelling). packet_of s file number) c.of-spelling.ensures in
    record {
      exact = cond_above 16000 (length file) _ _ _ short (ap Ok e);
      codes = (c.loop-i.invariant.long, rw e (packet-codes q g.met.F.Field.laws.least file number));
      carries = record { short = short; bytes = λ i. omega (arith, c.type_inv.file i) };
    }
