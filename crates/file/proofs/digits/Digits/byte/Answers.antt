use Rattle.std.proofs.Common.{arith}
use Rattle.file.proofs.Numbers.{step_below, step-more, step_all}
use Rattle.file.proofs.digits.Digits.byte.Goals as goal

pub overflow_mul-byte : goal.overflow_mul-byte
overflow_mul-byte g c =
    let m =
    step_below _ _ c.of-spelling.ensures c.args.self.now.symbols.now (omega arith) c.args.self.now.digits c.args.i c.requires _ _ c.digits.ensures c.digits-2.ensures
    c.loop-digit.digit-index c.loop-digit.byte c.base.result (omega arith) c.base.ensures c.loop-digit.invariant in
    omega arith

pub overflow_add-byte : goal.overflow_add-byte
overflow_add-byte g c =
    let m =
    step_below _ _ c.of-spelling.ensures c.args.self.now.symbols.now (omega arith) c.args.self.now.digits c.args.i c.requires _ _ c.digits.ensures c.digits-2.ensures
    c.loop-digit.digit-index c.loop-digit.byte c.base.result (omega arith) c.base.ensures c.loop-digit.invariant in
    omega arith

pub loop-digit-preserved : goal.loop-digit-preserved
loop-digit-preserved g c =
    step-more _ _ c.of-spelling.ensures c.args.self.now.symbols.now (omega arith) c.args.self.now.digits c.args.i c.requires _ _ c.digits.ensures c.digits-2.ensures
    c.loop-digit.digit-index c.loop-digit.byte c.base.result (omega arith) c.base.ensures c.loop-digit.invariant

pub overflow_cast-result : goal.overflow_cast-result
overflow_cast-result g c =
    let m =
    step_all _ _ c.of-spelling.ensures c.args.self.now.symbols.now (omega arith) c.args.self.now.digits c.args.i c.requires _ _ c.digits.ensures c.digits-2.ensures
    c.loop-digit.digit-index c.loop-digit.byte (omega arith) c.loop-digit.invariant in
    omega arith

pub returns : goal.returns
returns g c =
    let m =
    step_all _ _ c.of-spelling.ensures c.args.self.now.symbols.now (omega arith) c.args.self.now.digits c.args.i c.requires _ _ c.digits.ensures c.digits-2.ensures
    c.loop-digit.digit-index c.loop-digit.byte (omega arith) c.loop-digit.invariant in
    m.1
