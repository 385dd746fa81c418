use Rattle.std.proofs.Common.{ℕ, ◌-◌, ◌*◌, ◌≤◌, true, false, length, Ok, Option, Result, sym, refl, ap, ◌∙◌, subst, arith}
use Rattle.refusal.specs.declared.Refusal.{Refusal}
use Rattle.delivery.proofs.Courses.{linked_laws}
use Rattle.link.specs.declared.plain.PlainLink.{PlainLink}
use Rattle.link.specs.declared.scripted.ScriptedLink.{ScriptedLink}
use Rattle.transfer.specs.Calls.{state_of}
use Rattle.transfer.specs.Parts.{State}
use Rattle.delivery.specs.declared.outcome.Outcome.{Outcome}
use Rattle.delivery.specs.Follows.{Follows, Small}
use Rattle.delivery.specs.Outcome.{linked, begun}
use Rattle.delivery.specs.Phases.{file_packet, count_of, Opened, CarriesOut, SmallAfter}
use Rattle.delivery.specs.Rounds.{seal_it, closing}
use Rattle.delivery.proofs.Results.{starts, spent_carries, closed_carries, all_released}
use Rattle.delivery.proofs.Rounding.{seals}
use Rattle.delivery.proofs.rounds.carry.Goals as goal

pub returns-in_err-opened : goal.returns-in_err-opened
returns-in_err-opened g c script e =
    let m = g.C.Field.means in
    let p = linked m g.C.Carried.carries g.S.Source.means in
    let file = c.args.file.bytes.now in
    let source = c.args.source in
    let before = c.args.buffer.now in
    let started-so = starts m g.C.Carried.carries g.S.Source.means file c.args.file.is_file source script c.args.forward e c.new.result c.new.ensures.exact
    (state_of c.new-transfer.result) c.new-transfer.ensures.exact c.new-progress.result before c.new-progress.ensures.counts c.new-progress.ensures.numbers
    (c.new-progress.ensures.filling file before) in
    absurd (c.in_err-opened.ensures.courses (begun p source script) started-so)

pub returns-in_default : goal.returns-in_default
returns-in_default g c script e =
    let m = g.C.Field.means in
    let p = linked m g.C.Carried.carries g.S.Source.means in
    let file = c.args.file.bytes.now in
    let source = c.args.source in
    let before = c.args.buffer.now in
    let started-so = starts m g.C.Carried.carries g.S.Source.means file c.args.file.is_file source script c.args.forward e c.new.result c.new.ensures.exact
    (state_of c.new-transfer.result) c.new-transfer.ensures.exact c.new-progress.result before c.new-progress.ensures.counts c.new-progress.ensures.numbers
    (c.new-progress.ensures.filling file before) in
    let σ = state_of c.open_rounds.new.self.transfer in
    let v = c.open_rounds.new.self.progress in
    let b = c.open_rounds.new.buffer in
    let room : 16000 ≤ length b = omega arith in
    let none = subst (Opened p file before (begun p source script) σ v b) c.in_default.is (c.in_ok-opened.ensures.courses (begun p source script) started-so) in
    subst (λ (o : Outcome). CarriesOut p file source script before (Ok o) b) (sym c.spent.ensures)
    (spent_carries p source script file before σ v b false none.0 none.1.so_far none.1.follows none.1.ends room refl)

pub sealed_rounds-requires : goal.sealed_rounds-requires
sealed_rounds-requires g c =
    let v = c.open_rounds.new.self.progress in
    let small = subst (λ (o : Option ℕ). SmallAfter o v c.open_rounds.new.self.transfer.forward) c.in-Some.is c.in_ok-opened.ensures.small in
    let same = ap (λ (x : State g.row.S.Denot ScriptedLink PlainLink). x.forward) c.seal-transfer.ensures.exact in
    (small.0, subst (Small (4 * c.in-Some.made) v) (sym same) small.1)

pub returns-in_err-sealed_rounds : goal.returns-in_err-sealed_rounds
returns-in_err-sealed_rounds g c script e =
    let m = g.C.Field.means in
    let p = linked m g.C.Carried.carries g.S.Source.means in
    let file = c.args.file.bytes.now in
    let source = c.args.source in
    let before = c.args.buffer.now in
    let started-so = starts m g.C.Carried.carries g.S.Source.means file c.args.file.is_file source script c.args.forward e c.new.result c.new.ensures.exact
    (state_of c.new-transfer.result) c.new-transfer.ensures.exact c.new-progress.result before c.new-progress.ensures.counts c.new-progress.ensures.numbers
    (c.new-progress.ensures.filling file before) in
    let σ = state_of c.open_rounds.new.self.transfer in
    let v = c.open_rounds.new.self.progress in
    let b = c.open_rounds.new.buffer in
    let made = c.in-Some.made in
    let all = c.packet_count-count.ensures.exact in
    let opened = subst (Opened p file before (begun p source script) σ v b) c.in-Some.is (c.in_ok-opened.ensures.courses (begun p source script) started-so) in
    let sealed-now = seal_it 32 p opened.so_far in
    let τ = state_of c.seal-transfer.result in
    let shut = subst (λ (t : ℕ). Follows p file before true t sealed-now τ v b) (sym all) (seals p file before (count_of p file) opened.so_far σ τ v b opened.follows c.seal-transfer.ensures.exact) in
    absurd (cc ((c.sealed_rounds.ensures file before sealed-now shut).0, c.in_err-sealed_rounds.was))

pub returns : goal.returns
returns g c script e =
    let m = g.C.Field.means in
    let p = linked m g.C.Carried.carries g.S.Source.means in
    let file = c.args.file.bytes.now in
    let source = c.args.source in
    let before = c.args.buffer.now in
    let started-so = starts m g.C.Carried.carries g.S.Source.means file c.args.file.is_file source script c.args.forward e c.new.result c.new.ensures.exact
    (state_of c.new-transfer.result) c.new-transfer.ensures.exact c.new-progress.result before c.new-progress.ensures.counts c.new-progress.ensures.numbers
    (c.new-progress.ensures.filling file before) in
    let σ = state_of c.open_rounds.new.self.transfer in
    let v = c.open_rounds.new.self.progress in
    let b = c.open_rounds.new.buffer in
    let made = c.in-Some.made in
    let all = c.packet_count-count.ensures.exact in
    let opened = subst (Opened p file before (begun p source script) σ v b) c.in-Some.is (c.in_ok-opened.ensures.courses (begun p source script) started-so) in
    let sealed-now = seal_it 32 p opened.so_far in
    let τ = state_of c.seal-transfer.result in
    let shut = subst (λ (t : ℕ). Follows p file before true t sealed-now τ v b) (sym all) (seals p file before (count_of p file) opened.so_far σ τ v b opened.follows c.seal-transfer.ensures.exact) in
    let count = c.packet_count-count.result in
    let came = (c.sealed_rounds.ensures file before sealed-now shut).1 in
    let u = c.sealed_rounds.new.self.progress in
    let after = c.sealed_rounds.new.buffer in
    let ω = state_of c.sealed_rounds.new.self.transfer in
    let ends = came.ends ∙ ap (λ (n : ℕ). closing 32 p (file_packet p file) n (64000 - made) sealed-now) all ∙ opened.ends in
    let room : 16000 ≤ length after = omega arith in
    let released = all_released p source script file before ω u after (linked_laws g.C.Field.means g.C.Carried.carries g.S.Source.means g.met.C.Field.laws g.met.C.Carried.lays g.met.S.Source.laws) count came.so_far came.follows ends all room in
    subst (λ (r : Result Outcome Refusal). CarriesOut p file source script before r after) (sym (c.finish.ensures file before after came.follows.filled released))
    (closed_carries p source script file before ω u after (linked_laws g.C.Field.means g.C.Carried.carries g.S.Source.means g.met.C.Field.laws g.met.C.Carried.lays g.met.S.Source.laws) count came.so_far came.follows ends all room)
