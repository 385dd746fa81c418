use Rattle.std.proofs.Common.{ℕ, ◌*◌, ◌≤◌, List, length, take, None, Ok, refl, ap, arith}
use Rattle.file.proofs.Each.{fills_first_over}
use Rattle.file.specs.Spelling.{spelling_of}
use Rattle.delivery.proofs.Courses.{linked_laws}
use Rattle.link.specs.declared.scripted.ScriptedLink.{ScriptedLink}
use Rattle.job.specs.Counts.{released_by}
use Rattle.transfer.specs.Calls.{state_of}
use Rattle.transfer.specs.Steps.{some}
use Rattle.delivery.specs.Follows.{LeadsOn}
use Rattle.delivery.specs.Outcome.{linked}
use Rattle.delivery.proofs.Answers.{found_some}
use Rattle.delivery.proofs.Fetches.{with_numbers, fetched-none, fetched-some, next_packets, small_kept}
use Rattle.delivery.proofs.Fetching.{answered-none, answered-some, few-fresh, few-released, forward-is}
use Rattle.delivery.proofs.Loops.{fetches_begin, fetches_end, fetches_fewer, fetches-go_on}
use Rattle.delivery.proofs.Queues.{popped-few}
use Rattle.delivery.proofs.exchange.Delivery.fetch_all.Goals as goal

pub loop-answer-init : goal.loop-answer-init
loop-answer-init g c = record {
  long = omega arith;
  room = omega arith;
  small = λ n h. h;
  leads = λ file before shut t d h. fetches_begin g.C.Field.means g.C.Carried.carries g.S.Source.means file before shut t d
      (state_of c.args.self.now.transfer) c.args.self.now.progress c.args.buffer.now h;
}

pub keep-requires-clause-few : goal.keep-requires-clause-few
keep-requires-clause-few g c =
    let p = linked g.C.Field.means g.C.Carried.carries g.S.Source.means in
    let σ = state_of c.loop-answer.self.transfer in
    let τ = state_of c.fetch.new.self in
    let v = c.loop-answer.self.progress in
    let after = c.fetch.new.numbers in
    let room : 4096 ≤ length v.numbers = omega (arith, c.loop-answer.invariant.long) in
    let a = c.in-Some.answer in
    let e = answered-some p σ τ v.numbers after c.fetch.result c.fetch.ensures.exact c.transpose.result c.transpose.ensures a c.in-Some.is in
    few-released a (few-fresh p σ τ v.numbers after room (some a) e)

pub keep-requires-clause-room : goal.keep-requires-clause-room
keep-requires-clause-room g c = omega (arith, (c.loop-answer.invariant.small 256004 c.requires).few)

pub keep-requires-clause-released : goal.keep-requires-clause-released
keep-requires-clause-released g c = (c.loop-answer.invariant.small 256004 c.requires).released

pub loop-answer-smaller : goal.loop-answer-smaller
loop-answer-smaller g c =
    let p = linked g.C.Field.means g.C.Carried.carries g.S.Source.means in
    let σ = state_of c.loop-answer.self.transfer in
    let τ = state_of c.fetch.new.self in
    let v = c.loop-answer.self.progress in
    let after = c.fetch.new.numbers in
    let room : 4096 ≤ length v.numbers = omega (arith, c.loop-answer.invariant.long) in
    let a = c.in-Some.answer in
    let e = answered-some p σ τ v.numbers after c.fetch.result c.fetch.ensures.exact c.transpose.result c.transpose.ensures a c.in-Some.is in
    omega (arith, fetches_fewer g.C.Field.means g.C.Carried.carries g.S.Source.means σ τ v.numbers after room (some a) e (found_some a))

pub loop-answer-preserved : goal.loop-answer-preserved
loop-answer-preserved g c =
    let p = linked g.C.Field.means g.C.Carried.carries g.S.Source.means in
    let σ = state_of c.loop-answer.self.transfer in
    let τ = state_of c.fetch.new.self in
    let v = c.loop-answer.self.progress in
    let after = c.fetch.new.numbers in
    let room : 4096 ≤ length v.numbers = omega (arith, c.loop-answer.invariant.long) in
    let a = c.in-Some.answer in
    let e = answered-some p σ τ v.numbers after c.fetch.result c.fetch.ensures.exact c.transpose.result c.transpose.ensures a c.in-Some.is in
    let fewer = fetches_fewer g.C.Field.means g.C.Carried.carries g.S.Source.means σ τ v.numbers after room (some a) e (found_some a) in
    let few = few-released a (few-fresh p σ τ v.numbers after room (some a) e) in
    let kept = c.keep.ensures.keeps in
    let u = c.keep.new.self in
    record {
      long = omega (arith, c.loop-answer.invariant.long, ap (λ (xs : List ℕ). length xs) kept.numbers);
      room = omega (arith, c.loop-answer.invariant.room);
      small = λ n h. small_kept n a v u (σ.forward) (τ.forward) kept few fewer (c.loop-answer.invariant.small n h);
      leads = λ file before shut t d h.
          let on = c.loop-answer.invariant.leads file before shut t d h in
          let begins = next_packets p file before shut t on.so_far σ τ v c.loop-answer.buffer on.follows room after (linked_laws g.C.Field.means g.C.Carried.carries g.S.Source.means g.met.C.Field.laws g.met.C.Carried.lays g.met.S.Source.laws) a e in
          let taken = fills_first_over after (take (128 * released_by a) after) (released_by a) (omega arith) refl (spelling_of g.C.Field.means.q) file v.released
          v.filling.taken v.filling.size c.loop-answer.buffer _ begins c.keep.ensures.fills before on.follows.runs.is_file (omega arith) on.follows.filled in
          fetches-go_on g.C.Field.means g.C.Carried.carries g.S.Source.means file before shut t d σ v τ u c.loop-answer.buffer on after room (some a) e (found_some a)
          c.keep.new.buffer (fetched-some p file before shut t on.so_far σ τ v c.loop-answer.buffer on.follows room after a e u c.keep.new.buffer kept taken.1);
    }

pub returns-in_err-keep : goal.returns-in_err-keep
unfolding LeadsOn
returns-in_err-keep g c =
    let p = linked g.C.Field.means g.C.Carried.carries g.S.Source.means in
    let σ = state_of c.loop-answer.self.transfer in
    let τ = state_of c.fetch.new.self in
    let v = c.loop-answer.self.progress in
    let after = c.fetch.new.numbers in
    let room : 4096 ≤ length v.numbers = omega (arith, c.loop-answer.invariant.long) in
    let a = c.in-Some.answer in
    let e = answered-some p σ τ v.numbers after c.fetch.result c.fetch.ensures.exact c.transpose.result c.transpose.ensures a c.in-Some.is in
    let fewer = fetches_fewer g.C.Field.means g.C.Carried.carries g.S.Source.means σ τ v.numbers after room (some a) e (found_some a) in
    let few = few-released a (few-fresh p σ τ v.numbers after room (some a) e) in
    let kept = c.keep.ensures.keeps in
    let u = c.keep.new.self in
    record {
      leads = λ file before shut t d h.
          let on = c.loop-answer.invariant.leads file before shut t d h in
          let begins = next_packets p file before shut t on.so_far σ τ v c.loop-answer.buffer on.follows room after (linked_laws g.C.Field.means g.C.Carried.carries g.S.Source.means g.met.C.Field.laws g.met.C.Carried.lays g.met.S.Source.laws) a e in
          let taken = fills_first_over after (take (128 * released_by a) after) (released_by a) (omega arith) refl (spelling_of g.C.Field.means.q) file v.released
          v.filling.taken v.filling.size c.loop-answer.buffer _ begins c.keep.ensures.fills before on.follows.runs.is_file (omega arith) on.follows.filled in
          absurd (cc (taken.0, c.in_err-keep.was));
      small = λ n h. small_kept n a v u (σ.forward) (τ.forward) kept few fewer (c.loop-answer.invariant.small n h);
    }

pub returns : goal.returns
unfolding LeadsOn
returns g c =
    let p = linked g.C.Field.means g.C.Carried.carries g.S.Source.means in
    let σ = state_of c.loop-answer.self.transfer in
    let τ = state_of c.fetch.new.self in
    let v = c.loop-answer.self.progress in
    let after = c.fetch.new.numbers in
    let room : 4096 ≤ length v.numbers = omega (arith, c.loop-answer.invariant.long) in
    let e = answered-none p σ τ v.numbers after c.fetch.result c.fetch.ensures.exact c.transpose.result c.transpose.ensures c.in_default.is in
    record {
      leads = λ file before shut t d h.
          let on = c.loop-answer.invariant.leads file before shut t d h in (
            refl,
            fetches_end p file before shut t d σ τ v (with_numbers after v) c.loop-answer.buffer on after e
                (fetched-none p file before shut t on.so_far σ τ v c.loop-answer.buffer on.follows room after e),
          );
      small = λ n h.
          let was = c.loop-answer.invariant.small n h in
          let fewer = ap (λ (x : ScriptedLink). x.queue.count) (forward-is p σ τ v.numbers after room (Ok None) e) in
          record { few = omega (arith, was.few, fewer, popped-few σ.forward.queue); released = was.released };
    }
