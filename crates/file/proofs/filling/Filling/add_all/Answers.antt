use Rattle.std.proofs.Common.{◌≡◌, Err, sym, ap, ◌∙◌, arith}
use Rattle.std.proofs.lemmas.Result.{err_from_is_err_and}
use Rattle.std.specs.Slice.Iter.{chunks_exact_rest}
use Rattle.file.proofs.Each.{adds-none, adds-first, adds_no_more, fills-all, fills-all_over}
use Rattle.file.proofs.filling.Filling.add_all.Goals as goal

pub loop-packet-preserved : goal.loop-packet-preserved
loop-packet-preserved g c =
    let q = g.F.Field.means.q in
    let l = c.loop-packet in
    let steps = c.in-Some.ensures.steps in
    record {
      size = steps.0 ∙ l.invariant.size;
      left =
          adds-first q l.self.taken l.self.size (chunks_exact_rest l.packet-iterator) c.in-Some.packet.now (chunks_exact_rest c.next.new.self) l.buffer steps.1.0 (steps.1.1 ∙ l.invariant.size)
          c.add.result c.add.new.self.taken c.add.new.self.size c.add.new.buffer c.add.ensures.exact _ c.in_ok-add.was
          ∙ l.invariant.left;
    }

pub returns-in_err-add : goal.returns-in_err-add
returns-in_err-add g c =
    let q = g.F.Field.means.q in
    let l = c.loop-packet in
    let steps = c.in-Some.ensures.steps in
    let self = c.args.self.now in
    let p = err_from_is_err_and c.from_residual.result c.from_residual.ensures.1 in
    let is : c.from_residual.result ≡ c.add.result = p.1 ∙ ap Err p.2 ∙ sym c.in_err-add.was in
    let e =
    adds_no_more q l.self.taken l.self.size (chunks_exact_rest l.packet-iterator) c.in-Some.packet.now (chunks_exact_rest c.next.new.self) l.buffer steps.1.0 (steps.1.1 ∙ l.invariant.size)
    c.from_residual.result c.add.new.self.taken c.add.new.self.size c.add.new.buffer (rw is c.add.ensures.exact) _ (p.1 ∙ ap Err p.2)
    ∙ l.invariant.left in
    record {
      exact = e;
      fills = fills-all q g.met.F.Field.laws.least c.args.numbers.now self.taken self.size c.args.buffer.now _ e;
      fills_over = fills-all_over q g.met.F.Field.laws.least c.args.numbers.now self.taken self.size c.args.buffer.now _ e;
    }

pub returns : goal.returns
returns g c =
    let q = g.F.Field.means.q in
    let l = c.loop-packet in
    let steps = c.in-None.ensures.steps in
    let self = c.args.self.now in
    let e = sym (adds-none q l.self.taken l.self.size (chunks_exact_rest l.packet-iterator) l.buffer (omega (arith, steps.1.0, l.invariant.size))) ∙ l.invariant.left in
    record {
      exact = e;
      fills = fills-all q g.met.F.Field.laws.least c.args.numbers.now self.taken self.size c.args.buffer.now _ e;
      fills_over = fills-all_over q g.met.F.Field.laws.least c.args.numbers.now self.taken self.size c.args.buffer.now _ e;
    }
