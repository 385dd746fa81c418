use Rattle.std.proofs.Common.{arith}
use Rattle.transfer.specs.Calls.{state_of}
use Rattle.delivery.specs.Outcome.{linked}
use Rattle.delivery.specs.Follows.{Leads}
use Rattle.delivery.proofs.Sending.{sent_ok, sent_none, sent_few}
use Rattle.delivery.proofs.exchange.Delivery.send_once.Goals as goal

pub returns-in-Ok : goal.returns-in-Ok
unfolding Leads
returns-in-Ok g c =
    let p = linked g.C.Field.means g.C.Carried.carries g.S.Source.means in
    let σ = state_of c.args.self.now.transfer in
    let τ = state_of c.send.new.self in
    let e = c.in-Ok.ensures.exact in
    let few = sent_few g.C.Field.means g.C.Carried.carries g.S.Source.means σ τ _ e in
    record {
      leads = λ buffer file before shut t d h. sent_ok p file before shut t d σ τ c.args.self.now.progress buffer h _ e;
      small = λ n h. record { few = omega (arith, h.few, few); released = h.released };
    }

pub returns-in-Err : goal.returns-in-Err
unfolding Leads
returns-in-Err g c =
    let p = linked g.C.Field.means g.C.Carried.carries g.S.Source.means in
    let σ = state_of c.args.self.now.transfer in
    let τ = state_of c.send.new.self in
    let e = c.in-Err.ensures.exact in
    let few = sent_few g.C.Field.means g.C.Carried.carries g.S.Source.means σ τ _ e in
    record {
      leads = λ buffer file before shut t d h. sent_none p file before shut t d σ τ c.args.self.now.progress buffer h _ e;
      small = λ n h. record { few = omega (arith, h.few, few); released = h.released };
    }
