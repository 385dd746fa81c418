use Rattle.std.proofs.Common.{◌≡◌, ℕ, ◌+◌, ◌<◌, List, get_or, sym, refl, ap, ◌∙◌, ap₂, arith}
use Rattle.std.proofs.lemmas.List.FromFn.{fill_by_all}
use Rattle.std.proofs.lemmas.List.{get_or-replicate, get_or-take, length-take}
use Rattle.field.specs.Field.{times}
use Rattle.algebra.specs.Streams.{sum}
use Rattle.sender.specs.Steps.{payload, packet_at, width}
use Rattle.sender.proofs.Payloads.{sum-none, sum_more}
use Rattle.sender.proofs.Sender.payload.Goals as goal

pub loop-i-init : goal.loop-i-init
loop-i-init g c = record { long = refl; sums = λ p h. get_or-replicate 128 p 0 0 h ∙ sym (sum-none g.C.Field.means _) }

pub loop-i-preserved : goal.loop-i-preserved
loop-i-preserved g c =
    let m = g.C.Field.means in
    let x = c.args.self.now.window in
    let slots = c.args.slots.now in
    let i = c.loop-i.i in
    let f : ℕ → ℕ → ℕ = λ p i. times m (get_or slots i 0) (get_or (packet_at 32 x (x.unseen + i)) p 0) in
    let at : (p : ℕ) → get_or c.packet.result.now p 0 ≡ get_or (packet_at 32 x (x.unseen + i)) p 0 = λ p. ap (λ (xs : List ℕ). get_or xs p 0) c.packet.ensures in
    let within : i < c.width.result = omega (arith, c.loop-i-test.true, length-take c.width.result slots) in
    record {
      long = c.type_inv.sum;
      sums = λ p h.
          sum_more m i (f p) _ _ _ (c.loop-i.invariant.sums p h)
          (ap₂ (times m) (get_or-take c.width.result slots i 0 within) (at p)) (c.add_multiple.ensures p h);
    }

pub returns : goal.returns
unfolding payload
returns g c =
    let m = g.C.Field.means in
    let x = c.args.self.now.window in
    let f : ℕ → ℕ → ℕ = λ p i. times m (get_or c.args.slots.now i 0) (get_or (packet_at 32 x (x.unseen + i)) p 0) in
    let all : c.loop-i.i ≡ width x = omega (arith, length-take c.width.result c.args.slots.now) in
    fill_by_all (λ p. sum m (width x) (f p)) c.loop-i.sum 128 0 c.loop-i.invariant.long (λ p h. c.loop-i.invariant.sums p h ∙ ap (λ (n : ℕ). sum m n (f p)) all)
