use Rattle.std.proofs.Common.{◌≡◌, ℕ, ◌+◌, ◌-◌, ◌*◌, ◌<◌, true, sym, refl, ap, ◌∙◌, arith}
use Rattle.std.proofs.lemmas.Bool.{eq-eqb, ne_eqb}
use Rattle.transfer.specs.Calls.{state_of}
use Rattle.delivery.specs.Outcome.{linked}
use Rattle.delivery.specs.Phases.{file_packet}
use Rattle.delivery.specs.Rounds.{exchange, closing, rounds}
use Rattle.delivery.specs.Follows.{LeadsOn}
use Rattle.delivery.proofs.Rounding.{done-is, closing-none, closing-ends, closing_goes_on, rounds-closing}
use Rattle.delivery.proofs.rounds.Delivery+Sealed+C+S.sealed_rounds.Goals as goal

pub returns-in_err-exchange : goal.returns-in_err-exchange
unfolding LeadsOn
returns-in_err-exchange g c file before d h =
    let so_far = c.loop-round.invariant.1 file before d h in
    absurd (cc ((c.exchange.ensures.leads file before true c.args.count so_far.0 so_far.1).0, c.in_err-exchange.was))

pub returns-then-self-count : goal.returns-then-self-count
unfolding LeadsOn
returns-then-self-count g c file before d h =
    let p = linked g.C.Field.means g.C.Carried.carries g.S.Source.means in
    let t = c.args.count in
    let so_far = c.loop-round.invariant.1 file before d h in
    let came = (c.exchange.ensures.leads file before true t so_far.0 so_far.1).1 in
    let left : 0 < 64000 - c.loop-round.round = omega (arith, c.loop-round-test.true) in
    let is = done-is p file before true t (exchange 32 p so_far.0) (state_of c.exchange.new.self.transfer) c.exchange.new.self.progress c.exchange.new.buffer came
    ∙ eq-eqb _ t c.if-self-count.true in (
      refl,
      record {
        so_far = exchange 32 p so_far.0;
        follows = came;
        ends = sym (closing-ends p (file_packet p file) t so_far.0 is (64000 - c.loop-round.round) left) ∙ so_far.2;
      },
    )

pub loop-round-preserved : goal.loop-round-preserved
unfolding LeadsOn
loop-round-preserved g c =
    let p = linked g.C.Field.means g.C.Carried.carries g.S.Source.means in
    let t = c.args.count in
    let k = c.loop-round.round in
    let small = c.exchange.ensures.small (4 * k) c.loop-round.invariant.0 in
    let left : 0 < 64000 - k = omega (arith, c.loop-round-test.true) in
    let less : 64000 - (k + 1) ≡ 64000 - k - 1 = omega arith in (
      record { few = omega (arith, small.few); released = small.released },
      λ file before d h.
          let so_far = c.loop-round.invariant.1 file before d h in
          let came = (c.exchange.ensures.leads file before true t so_far.0 so_far.1).1 in
          let next = exchange 32 p so_far.0 in
          let is = done-is p file before true t next (state_of c.exchange.new.self.transfer) c.exchange.new.self.progress c.exchange.new.buffer came
          ∙ ne_eqb _ t c.if-self-count.false in (
            next,
            came,
            sym (rounds-closing p (file_packet p file) t next came.runs.is_sealed came.runs.stream.count (64000 - (k + 1)))
                ∙ ap (λ (n : ℕ). rounds 32 p (file_packet p file) t n next) less
                ∙ sym (closing_goes_on p (file_packet p file) t so_far.0 is (64000 - k) left) ∙ so_far.2,
          ),
    )

pub returns : goal.returns
returns g c file before d h =
    let p = linked g.C.Field.means g.C.Carried.carries g.S.Source.means in
    let so_far = c.loop-round.invariant.1 file before d h in
    let none : 0 ≡ 64000 - c.loop-round.round = omega arith in (
      refl,
      record {
        so_far = so_far.0;
        follows = so_far.1;
        ends = sym (closing-none p (file_packet p file) c.args.count so_far.0)
            ∙ ap (λ (n : ℕ). closing 32 p (file_packet p file) c.args.count n so_far.0) none ∙ so_far.2;
      },
    )
