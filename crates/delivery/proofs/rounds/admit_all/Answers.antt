use Rattle.std.proofs.Common.{◌≡◌, ℕ, ◌<◌, false, length, refl, ap, ◌∙◌, subst, arith}
use Rattle.transfer.specs.Calls.{state_of}
use Rattle.transfer.specs.Steps.{admits}
use Rattle.delivery.specs.Follows.{Follows}
use Rattle.delivery.specs.Outcome.{linked}
use Rattle.delivery.specs.Phases.{file_packet, count_of, AdmitsOn}
use Rattle.delivery.specs.Rounds.{admit_all_lem}
use Rattle.job.proofs.Crossing.{packet-is}
use Rattle.delivery.proofs.Admitting.{packet_there, admits-forward, admits_begin, admits_stop, admits-go_on, admits_end}
use Rattle.delivery.proofs.rounds.admit_all.Goals as goal

pub loop-number-init : goal.loop-number-init
loop-number-init g c =
    let p = linked g.C.Field.means g.C.Carried.carries g.S.Source.means in
    (refl, λ v before buffer d h. admits_begin p c.args.file.bytes.now before c.args.admitted d (state_of c.args.transfer.now) v buffer h)

pub returns-in_err-symbols : goal.returns-in_err-symbols
returns-in_err-symbols g c = absurd (packet_there (length c.args.file.bytes.now) _ _ c.args.file.is_file.short c.in_err-symbols.ensures.exact)

pub returns-in_default : goal.returns-in_default
unfolding AdmitsOn
returns-in_default g c =
    let p = linked g.C.Field.means g.C.Carried.carries g.S.Source.means in
    let file = c.args.file.bytes.now in
    let k = c.loop-number.number in
    let σ = state_of c.loop-number.transfer in
    let τ = state_of c.admit.new.self in
    let is = packet-is (length file) c.in_ok-symbols.symbols (file_packet p file k) c.args.file.is_file.short c.in_ok-symbols.ensures.exact in
    let e = c.in_default.ensures.exact ∙ ap (admits 32 p σ) is in
    let below : k < count_of p file = omega (arith, c.loop-number-test.true, c.requires.0) in (
      omega (arith, c.loop-number-test.true),
      λ v before buffer d h. admits_stop p file before k d σ v buffer (c.loop-number.invariant.1 v before buffer d h) τ _ e below,
      admits-forward p σ τ (file_packet p file k) _ e ∙ c.loop-number.invariant.0,
    )

pub loop-number-preserved : goal.loop-number-preserved
loop-number-preserved g c =
    let p = linked g.C.Field.means g.C.Carried.carries g.S.Source.means in
    let file = c.args.file.bytes.now in
    let k = c.loop-number.number in
    let σ = state_of c.loop-number.transfer in
    let τ = state_of c.admit.new.self in
    let is = packet-is (length file) c.in_ok-symbols.symbols (file_packet p file k) c.args.file.is_file.short c.in_ok-symbols.ensures.exact in
    let e = c.in-Ok.ensures.exact ∙ ap (admits 32 p σ) is in
    let below : k < count_of p file = omega (arith, c.loop-number-test.true, c.requires.0) in (
      admits-forward p σ τ (file_packet p file k) _ e ∙ c.loop-number.invariant.0,
      λ v before buffer d h. admits-go_on p file before k d σ v buffer (c.loop-number.invariant.1 v before buffer d h) τ _ e below,
    )

pub returns : goal.returns
unfolding AdmitsOn
returns g c =
    let p = linked g.C.Field.means g.C.Carried.carries g.S.Source.means in
    let file = c.args.file.bytes.now in
    let k = c.loop-number.number in
    let σ = state_of c.loop-number.transfer in
    let all : k ≡ c.args.count = omega arith in (
      omega arith,
      λ v before buffer d h. subst (λ (t : ℕ). Follows p file before false t (admit_all_lem 32 p (file_packet p file) (count_of p file) d) σ v buffer) all
          (admits_end p file before k d σ v buffer (c.loop-number.invariant.1 v before buffer d h) (all ∙ c.requires.0)),
      c.loop-number.invariant.0,
    )
