use Rattle.std.proofs.Common.{Some, Ok, Err, sym, refl, ap, ◌∙◌, subst}
use Rattle.transfer.specs.Calls.{state_of}
use Rattle.delivery.specs.Follows.{Small, Leads}
use Rattle.delivery.specs.Outcome.{linked}
use Rattle.delivery.proofs.Hearing.{links_are, with_heard, heard-none, heard-some, heard-refused, told-none, told-some}
use Rattle.delivery.proofs.Loops.{hears_begin, hears_end, hears-go_on}
use Rattle.delivery.proofs.exchange.Delivery.hear_all.Goals as goal

pub loop-report-init : goal.loop-report-init
loop-report-init g c = record {
  small = λ n h. h;
  leads = λ buffer file before shut t d h. hears_begin g.C.Field.means g.C.Carried.carries g.S.Source.means file before shut t d
      (state_of c.args.self.now.transfer) c.args.self.now.progress buffer h;
}

pub loop-report-preserved-in-Ok : goal.loop-report-preserved-in-Ok
loop-report-preserved-in-Ok g c =
    let p = linked g.C.Field.means g.C.Carried.carries g.S.Source.means in
    let σ = state_of c.loop-report.self.transfer in
    let τ = state_of c.hear.new.self in
    let v = c.loop-report.self.progress in
    let e = told-some p σ τ c.hear.result c.hear.ensures.exact c.transpose.result c.transpose.ensures (Ok (c.in-Ok.released, c.in-Ok.field-0-1))
    (c.in-Some.is ∙ ap Some c.in-Ok.is) in
    record {
      small = λ n h. let small = subst (Small n v) (sym (links_are p σ τ _ e).0) (c.loop-report.invariant.small n h) in record { few = small.few; released = small.released };
      leads = λ buffer file before shut t d h.
          let on = c.loop-report.invariant.leads buffer file before shut t d h in
          hears-go_on g.C.Field.means g.C.Carried.carries g.S.Source.means file before shut t d σ v τ (with_heard c.in-Ok.released v) buffer on _ e refl
          (heard-some p file before shut t on.so_far σ τ v buffer on.follows (c.in-Ok.released, c.in-Ok.field-0-1) e);
    }

pub loop-report-preserved : goal.loop-report-preserved
loop-report-preserved g c =
    let p = linked g.C.Field.means g.C.Carried.carries g.S.Source.means in
    let σ = state_of c.loop-report.self.transfer in
    let τ = state_of c.hear.new.self in
    let v = c.loop-report.self.progress in
    let e = told-some p σ τ c.hear.result c.hear.ensures.exact c.transpose.result c.transpose.ensures (Err c.in_default-report.field-0)
    (c.in-Some.is ∙ ap Some c.in_default-report.is) in
    record {
      small = λ n h. subst (Small n v) (sym (links_are p σ τ _ e).0) (c.loop-report.invariant.small n h);
      leads = λ buffer file before shut t d h.
          let on = c.loop-report.invariant.leads buffer file before shut t d h in
          hears-go_on g.C.Field.means g.C.Carried.carries g.S.Source.means file before shut t d σ v τ v buffer on _ e refl
          (heard-refused p file before shut t on.so_far σ τ v buffer on.follows _ e);
    }

pub returns : goal.returns
unfolding Leads
returns g c =
    let p = linked g.C.Field.means g.C.Carried.carries g.S.Source.means in
    let σ = state_of c.loop-report.self.transfer in
    let τ = state_of c.hear.new.self in
    let v = c.loop-report.self.progress in
    let e = told-none p σ τ c.hear.result c.hear.ensures.exact c.transpose.result c.transpose.ensures c.in_default.is in
    record {
      leads = λ buffer file before shut t d h.
          let on = c.loop-report.invariant.leads buffer file before shut t d h in
          hears_end p file before shut t d σ τ v v buffer on e
          (heard-none p file before shut t on.so_far σ τ v buffer on.follows e);
      small = λ n h. subst (Small n v) (sym (links_are p σ τ _ e).0) (c.loop-report.invariant.small n h);
    }
