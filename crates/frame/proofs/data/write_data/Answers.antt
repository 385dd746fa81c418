use Rattle.std.proofs.Common.{◌≡◌, ◌-◌, ◌++◌, drop, Ok, sym, refl, ◌∙◌, arith}
use Rattle.frame.specs.DataFrame.{writing}
use Rattle.frame.proofs.Frames.{comes_back, write_done}
use Rattle.frame.proofs.Rules.{proper, refused}
use Rattle.frame.proofs.Verdicts.{none-from_ok}
use Rattle.frame.proofs.data.write_data.Goals as goal

pub returns-in_err-check-clause-accepts : goal.returns-in_err-check-clause-accepts
returns-in_err-check-clause-accepts g c =
    λ p h. absurd (refused g.C.Field.Q 32 _ _ (sym c.check.ensures ∙ c.in_err-check.was) p)

pub returns-clause-proper : goal.returns-clause-proper
returns-clause-proper g c =
    proper g.C.Field.Q 32 _ c.fill.ensures.slots c.fill.ensures.symbols (none-from_ok _ (sym c.check.ensures ∙ c.in_ok-check.was))

pub returns-clause-comes_back : goal.returns-clause-comes_back
returns-clause-comes_back g c =
    let k = g.C.Carried.carries in
    let m = g.C.Field.means in
    let len = g.met.C.Carried.len in
    let out = c.fill.new.frame ++ drop (c.LEN-2.result - 0) c.args.frame.now in
    let passed = none-from_ok _ (sym c.check.ensures ∙ c.in_ok-check.was) in
    let exact : (Ok c.LEN-3.result, out) ≡ writing m k 32 c.args.«data».now c.args.frame.now =
    write_done m k 32 _ _ _ (c.LEN-2.result - 0) _ (omega arith) (omega arith) (omega arith) (rw g.met.C.Field.order at passed) c.fill.ensures.exact in
    comes_back m g.met.C.Carried.lays refl _ _ _ out exact c.fill.ensures.slots c.fill.ensures.symbols
