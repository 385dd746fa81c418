use Rattle.std.proofs.Common.{◌≡◌, ℕ, ◌+◌, ◌<◌, Ok, Result, sym, ap, ◌∙◌, subst, arith, lit<}
use Rattle.receiver.specs.declared.state.Answer.{Answer}
use Rattle.receiver.specs.declared.state.Answer.TheVariants.{Fresh}
use Rattle.refusal.specs.declared.Refusal.{Refusal}
use Rattle.job.specs.Counts.{answered_with, released_by}
use Rattle.job.specs.Crossing.{all_fresh}
use Rattle.job.specs.declared.tally.Tally.{Tally}
use Rattle.job.proofs.Arriving.{crossed}
use Rattle.job.proofs.carry.cross.Goals as goal

-- no count is full
few : (t : Tally) (n : ℕ) → n < 65536 → t ≡ all_fresh n → t.fresh + (t.repeat + t.refused) < 4294967295
few t n h e = subst (λ (u : Tally). u.fresh + (u.repeat + u.refused) < 4294967295) (sym e) (omega (arith, h))

pub returns : goal.returns
returns g c =
    let m = g.C.Field.means in
    let carries = g.C.Carried.carries in
    let came = crossed 32 (lit< tt) m g.met.C.Field.laws c.args.number c.requires.packet.0 c.args.symbols c.requires.packet.1
    carries _ c.args.numbers.now (omega arith) c.in_ok-length.ensures.1 c.args.receiver.now.state c.requires.waits.0 _ _ _ c.arrive-answer.ensures.exact in
    let sent : Tally → Tally = λ (t : Tally). record { sent = t.sent + 1; fresh = t.fresh; repeat = t.repeat; refused = t.refused } in
    record {
      answer = ap Ok (c.count.ensures.released ∙ ap released_by came.fresh);
      waits = came.waits;
      released = came.released;
      tally = c.count.ensures.counts (few _ _ c.requires.packet.0 c.requires.waits.1) ∙ ap (λ (r : Result Answer Refusal). answered_with r (sent c.args.tally.now)) came.fresh
          ∙ ap (λ (t : Tally). answered_with (Ok (Fresh 1)) (sent t)) c.requires.waits.1;
    }
