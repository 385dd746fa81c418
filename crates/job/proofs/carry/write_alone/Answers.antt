use Rattle.std.proofs.Common.{◌≡◌, ℕ, ◌≤◌, length, sym, subst, arith}
use Rattle.std.specs.Int.Digits.{AllBelowBase}
use Rattle.job.proofs.Crossing.{alone-proper, known_ok}
use Rattle.job.proofs.carry.write_alone.Goals as goal

pub returns : goal.returns
returns g c =
    let order = g.met.C.Field.order in
    let len = g.met.C.Carried.len in
    let short = g.met.C.Carried.lays.short in
    let long : length c.args.symbols ≡ 128 = omega arith in
    let codes = subst (λ (q : ℕ). AllBelowBase q c.args.symbols) (sym order) c.requires.1 in
    let proper = alone-proper g.C.Field.Q c.args.number c.args.symbols (omega (arith, order, g.met.C.Field.laws.least)) c.requires.0 long codes in
    let fits : g.C.Carried.LEN ≤ 400 = omega (arith, len, short) in
    known_ok _ c.write_data.result g.C.Carried.LEN 400 (c.write_data.ensures.accepts proper (omega (arith, fits))) fits c.write_data.ensures.comes_back
