-- Rounds, one by one: what is left of them, and when they end.
use Rattle.std.proofs.Common.{◌≡◌, ℕ, zero, suc, ◌-◌, ◌<◌, ◌≤◌, Bool, true, false, cond, ◌&&◌, eqb, List, length, sym, refl, ap, ◌∙◌, subst, ap₂, le_of_suc-le-suc, not-suc-le-zero, arith, lit<}
use Rattle.std.proofs.lemmas.Bool.{cond-true, cond-false, eq-eqb, ne_eqb, both_ways}
use Rattle.link.specs.declared.plain.PlainLink.{PlainLink}
use Rattle.link.specs.declared.scripted.ScriptedLink.{ScriptedLink}
use Rattle.transfer.proofs.Standing.{stands}
use Rattle.transfer.specs.Log.{admitted}
use Rattle.transfer.specs.Parts.{Parts, PartsLaws, State}
use Rattle.delivery.specs.declared.outcome.Ending.TheVariants.{Whole, Spent}
use Rattle.delivery.specs.declared.progress.Progress.{Progress}
use Rattle.delivery.specs.Follows.{Follows}
use Rattle.delivery.specs.Outcome.{outcome_of}
use Rattle.delivery.specs.Rounds.{Course, sealed, done, seal_it, exchange, admitting, admit_all_lem, seal_last, round, rounds, after, UsedUp, closing}

-- a sealed transfer
pub seals : {S C : Type 0} (p : Parts S ScriptedLink PlainLink) (file before : List ℕ) (t : ℕ) (c : Course S ScriptedLink PlainLink) (σ τ : State S ScriptedLink PlainLink) (v : Progress C) (buffer : List ℕ)
    → Follows p file before false t c σ v buffer → τ ≡ σ → Follows p file before true t (seal_it 32 p c) τ v buffer
seals p file before t c σ τ v buffer h is =
    let r = h.runs in
    record {
      state = h.state ∙ sym is;
      numbers = h.numbers;
      runs = record {
        source = r.source;
        forward = r.forward;
        reverse = r.reverse;
        none_forth = r.none_forth;
        none_back = r.none_back;
        run = (σ, r.run, is);
        is_sealed = refl;
        is_file = r.is_file;
        stream = r.stream;
      };
      heard = h.heard;
      tally = h.tally;
      releases = h.releases;
      filled = h.filled;
    }

module _ {S C : Type 0} (p : Parts S ScriptedLink PlainLink) (file before : List ℕ) (shut : Bool) (t : ℕ) (c : Course S ScriptedLink PlainLink) (σ : State S ScriptedLink PlainLink) (v : Progress C) (buffer : List ℕ) (h : Follows p file before shut t c σ v buffer) where
  -- whether it is done, by what was kept
  pub done-is : done c.log ≡ (shut && eqb v.heard t)
  done-is = ap₂ ◌&&◌ h.runs.is_sealed (ap₂ eqb h.heard h.runs.stream.count)

  pub outcome-is : (b : Bool) → done c.log ≡ b → record { tally = v.tally; ending = cond b (Whole (length file)) (Spent v.released) } ≡ outcome_of file c.log
  outcome-is b is =
      sym (ap₂ (λ (d : Bool) (n : ℕ). record { tally = v.tally; ending = cond d (Whole (length file)) (Spent n) }) is h.releases)
      ∙ ap (λ x. record { tally = x; ending = (outcome_of file c.log).ending }) h.tally

  -- what the sender has heard is released
  pub heard-released : PartsLaws 32 p → v.heard ≤ v.released
  heard-released laws =
      let r = h.runs in
      let confirmed = ((stands 32 (lit< tt) refl p laws r.source r.forward r.reverse c.log σ r.run).delivery r.none_forth r.none_back).confirmed in
      omega (arith, confirmed, h.heard, h.releases)

module _ {S : Type 0} (p : Parts S ScriptedLink PlainLink) (packet : ℕ → List ℕ) (count : ℕ) (c : Course S ScriptedLink PlainLink) where
  -- the round of a transfer that is not sealed before
  module _ (not-sealed : sealed (admit_all_lem 32 p packet count c).log ≡ false) where
    pub open_round : length (admitted (admit_all_lem 32 p packet count c).log) < count → round 32 p packet count c ≡ exchange 32 p (admit_all_lem 32 p packet count c)
    unfolding round
    open_round below =
        ap (exchange 32 p) (cond-false _ _ _ not-sealed ∙ cond-false _ _ _ (ne_eqb _ count (λ e. omega arith)))

    last_round : length (admitted (admit_all_lem 32 p packet count c).log) ≡ count → round 32 p packet count c ≡ exchange 32 p (seal_it 32 p (admit_all_lem 32 p packet count c))
    unfolding round
    last_round all = ap (exchange 32 p) (cond-false _ _ _ not-sealed ∙ cond-true _ _ _ (eq-eqb _ count all))

    -- the round that admits the last packet
    pub rounds_close : length (admitted (admit_all_lem 32 p packet count c).log) ≡ count → (n : ℕ) → 0 < n
        → closing 32 p packet count n (seal_it 32 p (admit_all_lem 32 p packet count c)) ≡ rounds 32 p packet count n c
    unfolding closing rounds
    rounds_close all zero h = absurd (not-suc-le-zero h)
    rounds_close all (suc n) h =
        sym (ap (λ (d : Course S ScriptedLink PlainLink). cond (done d.log) d (rounds 32 p packet count n d)) (last_round all))

  -- a round that does not end them
  pub rounds-go_on : (d : Course S ScriptedLink PlainLink) → round 32 p packet count c ≡ d → done d.log ≡ false → (n : ℕ) → 0 < n
      → rounds 32 p packet count n c ≡ rounds 32 p packet count (n - 1) d
  unfolding rounds
  rounds-go_on d is more zero h = absurd (not-suc-le-zero h)
  rounds-go_on d is more (suc n) h =
      ap (λ (x : Course S ScriptedLink PlainLink). cond (done x.log) x (rounds 32 p packet count n x)) is ∙ cond-false (done d.log) _ _ more
      ∙ ap (λ (k : ℕ). rounds 32 p packet count k d) (let k : n ≡ suc n - 1 = omega arith in k)

  pub rounds-none : rounds 32 p packet count 0 c ≡ c
  unfolding rounds
  rounds-none = refl

  pub closing-none : closing 32 p packet count 0 c ≡ c
  unfolding closing
  closing-none = refl

  -- a round of a sealed transfer only exchanges
  sealed-round : sealed c.log ≡ true → length (admitted c.log) ≡ count → round 32 p packet count c ≡ exchange 32 p c
  unfolding round admitting
  sealed-round shut all =
      let none : count - length (admitted c.log) ≡ 0 = omega arith in
      let same : admit_all_lem 32 p packet count c ≡ c = ap (λ (k : ℕ). admitting 32 p packet count (length (admitted c.log)) k c) none ∙ no_packet in
      ap (λ (x : Course S ScriptedLink PlainLink). exchange 32 p (seal_last 32 p packet count x)) same ∙ ap (exchange 32 p) (cond-true _ _ _ shut)
    where
      no_packet : admitting 32 p packet count (length (admitted c.log)) 0 c ≡ c
      no_packet = refl

  pub rounds-closing : sealed c.log ≡ true → length (admitted c.log) ≡ count → (n : ℕ) → rounds 32 p packet count n c ≡ closing 32 p packet count n c
  unfolding closing rounds
  rounds-closing shut all zero = refl
  rounds-closing shut all (suc n) = ap (λ (x : Course S ScriptedLink PlainLink). cond (done x.log) x (rounds 32 p packet count n x)) (sealed-round shut all)

  pub closing-ends : done (exchange 32 p c).log ≡ true → (n : ℕ) → 0 < n → closing 32 p packet count n c ≡ exchange 32 p c
  unfolding closing
  closing-ends is zero h = absurd (not-suc-le-zero h)
  closing-ends is (suc n) h = cond-true _ _ _ is

  pub closing_goes_on : done (exchange 32 p c).log ≡ false → (n : ℕ) → 0 < n → closing 32 p packet count n c ≡ rounds 32 p packet count (n - 1) (exchange 32 p c)
  unfolding closing
  closing_goes_on is zero h = absurd (not-suc-le-zero h)
  closing_goes_on is (suc n) h = cond-false _ _ _ is ∙ ap (λ (k : ℕ). rounds 32 p packet count k (exchange 32 p c)) (let k : n ≡ suc n - 1 = omega arith in k)

-- where the rounds end and it is not done, all of them were made
module _ {S : Type 0} (p : Parts S ScriptedLink PlainLink) (packet : ℕ → List ℕ) (count : ℕ) where
  never : (n : ℕ) (c : Course S ScriptedLink PlainLink) → done (round 32 p packet count c).log ≡ false → UsedUp 32 p packet count n (round 32 p packet count c)
      → (k : ℕ) → 1 ≤ k → k ≤ suc n → done (after 32 p packet count k c).log ≡ false
  unfolding after
  never n c is rest zero one few = absurd (not-suc-le-zero one)
  never n c is rest (suc zero) one few = is
  never n c is rest (suc (suc k)) one few = rest.never (suc k) (omega arith) (le_of_suc-le-suc few)

  one_more : (n : ℕ) (c d : Course S ScriptedLink PlainLink) → round 32 p packet count c ≡ d → done (rounds 32 p packet count (suc n) c).log ≡ false
      → (done (rounds 32 p packet count n d).log ≡ false → UsedUp 32 p packet count n d) → (b : Bool) → done d.log ≡ b → UsedUp 32 p packet count (suc n) c
  unfolding rounds after
  one_more n c d made not rest true is =
      let ended = ap (λ (x : Course S ScriptedLink PlainLink). cond (done x.log) x (rounds 32 p packet count n x)) made ∙ cond-true (done d.log) d (rounds 32 p packet count n d) is in
      absurd (both_ways (done d.log) (sym (ap (λ (x : Course S ScriptedLink PlainLink). done x.log) ended) ∙ not) is)
  one_more n c d made not rest false is =
      let on = ap (λ (x : Course S ScriptedLink PlainLink). cond (done x.log) x (rounds 32 p packet count n x)) made ∙ cond-false (done d.log) d (rounds 32 p packet count n d) is in
      let used = rest (sym (ap (λ (x : Course S ScriptedLink PlainLink). done x.log) on) ∙ not) in
      record {
        all = on ∙ used.all ∙ ap (after 32 p packet count n) (sym made);
        never = never n c (ap (λ (x : Course S ScriptedLink PlainLink). done x.log) made ∙ is) (subst (UsedUp 32 p packet count n) (sym made) used);
      }

  pub used_up : (n : ℕ) (c : Course S ScriptedLink PlainLink) → done (rounds 32 p packet count n c).log ≡ false → UsedUp 32 p packet count n c
  unfolding rounds after
  used_up zero c not = record { all = refl; never = λ k one few. absurd (omega arith) }
  used_up (suc n) c not =
      one_more n c (round 32 p packet count c) refl not (used_up n (round 32 p packet count c)) (done (round 32 p packet count c).log) refl
