use Rattle.std.proofs.Common.{◌≡◌, ℕ, ◌+◌, ◌-◌, ◌*◌, ◌<◌, false, length, sym, refl, ap, ◌∙◌, subst, arith}
use Rattle.std.proofs.lemmas.Result.{err_from_is_err_and}
use Rattle.link.specs.declared.scripted.ScriptedLink.{ScriptedLink}
use Rattle.transfer.specs.Calls.{state_of}
use Rattle.transfer.specs.Log.{admitted}
use Rattle.delivery.specs.Follows.{Follows, Small, LeadsOn}
use Rattle.delivery.specs.Outcome.{linked}
use Rattle.delivery.specs.Phases.{file_packet, count_of, AdmitsOn}
use Rattle.delivery.specs.Rounds.{admit_all_lem, exchange, rounds}
use Rattle.delivery.proofs.Rounding.{done-is, open_round, rounds_close, rounds-go_on, rounds-none}
use Rattle.delivery.proofs.rounds.Delivery+Open+C+S.open_rounds.Goals as goal

pub loop-made-init : goal.loop-made-init
loop-made-init g c = (omega arith, c.requires.small, λ d h. (d, h, refl))

pub returns-in_err-admitted : goal.returns-in_err-admitted
returns-in_err-admitted g c = absurd c.in_err-admitted.ensures

pub returns-then-admitted-count : goal.returns-then-admitted-count
unfolding AdmitsOn
returns-then-admitted-count g c =
    let p = linked g.C.Field.means g.C.Carried.carries g.S.Source.means in
    let file = c.args.file.bytes.now in
    let before = c.args.buffer.now in
    let made = c.loop-made.made in
    let came = c.in_ok-admitted.ensures in
    let all : c.in_ok-admitted.admitted ≡ count_of p file = c.if-admitted-count.true ∙ c.requires.count in
    let τ = state_of c.admit_all.new.transfer in
    let left : 0 < 64000 - made = omega (arith, c.loop-made-test.true) in
    record {
      courses = λ d h.
          let so_far = c.loop-made.invariant.2 d h in
          let next = admit_all_lem 32 p (file_packet p file) (count_of p file) so_far.0 in
          let follows = subst (λ (t : ℕ). Follows p file before false t next τ c.loop-made.self.progress c.loop-made.buffer) all
          (came.1 c.loop-made.self.progress before c.loop-made.buffer so_far.0 so_far.1) in
          record {
            so_far = next;
            follows = follows;
            ends = rounds_close p (file_packet p file) (count_of p file) so_far.0 follows.runs.is_sealed follows.runs.stream.count (64000 - made) left ∙ so_far.2;
          };
      small = (omega (arith, c.loop-made-test.true), subst (Small (4 * made) c.loop-made.self.progress) (sym came.2) c.loop-made.invariant.1);
    }

pub exchange-requires : goal.exchange-requires
exchange-requires g c =
    let small = c.loop-made.invariant.1 in
    let same = ap (λ (x : ScriptedLink). x.queue.count) c.in_ok-admitted.ensures.2 in
    record { few = omega (arith, small.few, same, c.loop-made-test.true); released = small.released }

pub returns-in_err-exchange : goal.returns-in_err-exchange
unfolding AdmitsOn LeadsOn
returns-in_err-exchange g c = record {
  courses = λ d h.
      let so_far = c.loop-made.invariant.2 d h in
      let follows = c.in_ok-admitted.ensures.1 c.loop-made.self.progress c.args.buffer.now c.loop-made.buffer so_far.0 so_far.1 in
      absurd (cc ((c.exchange.ensures.leads c.args.file.bytes.now c.args.buffer.now false _ _ follows).0, c.in_err-exchange.was));
  small = let p = err_from_is_err_and c.from_residual-in_err-exchange.result c.from_residual-in_err-exchange.ensures.1 in rw p.1 tt;
}

pub loop-made-preserved : goal.loop-made-preserved
unfolding AdmitsOn LeadsOn
loop-made-preserved g c =
    let p = linked g.C.Field.means g.C.Carried.carries g.S.Source.means in
    let file = c.args.file.bytes.now in
    let made = c.loop-made.made in
    let t = c.in_ok-admitted.admitted in
    let admits = c.in_ok-admitted.ensures in
    let same = ap (λ (x : ScriptedLink). x.queue.count) admits.2 in
    let before = c.args.buffer.now in
    let small = c.exchange.ensures.small (4 * made) (subst (Small (4 * made) c.loop-made.self.progress) (sym admits.2) c.loop-made.invariant.1) in
    let left : 0 < 64000 - made = omega (arith, c.loop-made-test.true) in
    let less : 64000 - (made + 1) ≡ 64000 - made - 1 = omega arith in (
      admits.0,
      record { few = omega (arith, small.few); released = small.released },
      λ d h.
          let so_far = c.loop-made.invariant.2 d h in
          let next = admit_all_lem 32 p (file_packet p file) (count_of p file) so_far.0 in
          let follows = admits.1 c.loop-made.self.progress before c.loop-made.buffer so_far.0 so_far.1 in
          let came = (c.exchange.ensures.leads file before false t next follows).1 in
          let below : length (admitted next.log) < count_of p file = omega (arith, follows.runs.stream.count, admits.0, c.if-admitted-count.false, c.requires.count) in
          let is = done-is p file before false t (exchange 32 p next) (state_of c.exchange.new.self.transfer) c.exchange.new.self.progress c.exchange.new.buffer came in (
            exchange 32 p next,
            came,
            ap (λ (n : ℕ). rounds 32 p (file_packet p file) (count_of p file) n (exchange 32 p next)) less
                ∙ sym (rounds-go_on p (file_packet p file) (count_of p file) so_far.0 (exchange 32 p next)
                (open_round p (file_packet p file) (count_of p file) so_far.0 follows.runs.is_sealed below) is (64000 - made) left) ∙ so_far.2,
          ),
    )

pub returns : goal.returns
returns g c =
    let p = linked g.C.Field.means g.C.Carried.carries g.S.Source.means in
    let file = c.args.file.bytes.now in
    let none : 0 ≡ 64000 - c.loop-made.made = omega arith in
    record {
      courses = λ d h.
          let so_far = c.loop-made.invariant.2 d h in (
            c.loop-made.admitted,
            record {
              so_far = so_far.0;
              follows = so_far.1;
              ends = sym (rounds-none p (file_packet p file) (count_of p file) so_far.0)
                  ∙ ap (λ (n : ℕ). rounds 32 p (file_packet p file) (count_of p file) n so_far.0) none ∙ so_far.2;
            },
          );
      small = tt;
    }
