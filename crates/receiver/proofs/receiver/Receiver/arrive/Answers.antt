use Rattle.std.proofs.Common.{◌∷◌, refl, lit<}
use Rattle.receiver.proofs.Arrivals.{arrived_unchanged}
use Rattle.receiver.proofs.Faith.{read-only-proper, promised}
use Rattle.receiver.proofs.Sounding.{arrived-sound}
use Rattle.receiver.specs.Arrival.{arrival}
use Rattle.receiver.specs.Log.{call}
use Rattle.receiver.proofs.receiver.Receiver.arrive.Goals as goal

pub returns : goal.returns
returns g c =
    let m = g.C.Field.means in let laws = g.met.C.Field.laws in let carries = g.C.Carried.carries in let lays = g.met.C.Carried.lays in
    let s = c.args.self.now.state in let bytes = c.args.frame.now in let numbers = c.args.numbers.now in
    let after = arrival c.arrive.result c.arrive.new.self c.arrive.new.numbers in
    let this = call bytes numbers c.arrive.result c.arrive.new.numbers in
    record {
      exact = c.arrive.ensures.exact;
      unchanged = arrived_unchanged m carries 32 s bytes numbers after c.arrive.ensures.exact;
      reduced = arrived-sound m laws 32 (lit< tt) s carries bytes numbers after c.arrive.ensures.exact (read-only-proper m carries 32 lays refl bytes);
      goes_on = λ log run. (s, run, c.arrive.ensures.exact);
      stands = λ log run. promised m laws carries 32 (lit< tt) lays refl (this ∷ log) c.arrive.new.self (s, run, c.arrive.ensures.exact);
    }
