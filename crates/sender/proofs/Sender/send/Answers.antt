use Rattle.std.proofs.Common.{◌≡◌, sym, refl, ap, ◌∙◌, arith}
use Rattle.std.proofs.lemmas.Bool.{eqb-false}
use Rattle.sender.specs.Steps.{width}
use Rattle.sender.proofs.Sending.{sent}
use Rattle.sender.proofs.Telling.{sending_tells}
use Rattle.sender.proofs.Sender.send.Goals as goal

pub returns : goal.returns
returns g c =
    let x = c.args.self.now.window in
    let source = c.args.self.now.source in
    let d = g.S.Source.means in
    let m = g.C.Field.means in
    let len = g.met.C.Carried.len in
    let some = eqb-false x.unseen x.admitted (sym c.is_empty.ensures ∙ c.if-is_empty.false) in
    let drawn-row : c.in_ok-slots.slots ≡ d.slots source m.q (width x) = cc (c.in_ok-slots.ensures.row, c.width-width.ensures) in
    let exact =
    sent 32 m g.met.C.Field.laws g.C.Carried.carries d g.met.S.Source.laws x c.args.self.now.ok source some
    c.args.frame.now c.write_data.new.frame c.in_ok-slots.slots c.payload.result c.width-width.result c.draw_row.new.source c.write_data.result
    (omega arith) c.width-width.ensures drawn-row (c.draw_row.ensures.next ∙ ap (d.next source m.q) c.width-width.ensures) c.payload.ensures c.write_data.ensures.exact in
    record {
      exact = exact;
      same = refl;
      tells = sending_tells 32 refl m g.met.C.Field.laws g.C.Carried.carries g.met.C.Carried.lays d g.met.S.Source.laws x c.args.self.now.ok source
          c.args.frame.now c.write_data.result c.draw_row.new.source c.write_data.new.frame exact;
    }
