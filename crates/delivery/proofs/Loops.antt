-- Calls that go on until one finds none: what is left of them.
use Rattle.std.proofs.Common.{◌≡◌, ℕ, zero, suc, ◌+◌, ◌-◌, ◌<◌, ◌≤◌, Bool, true, false, List, length, None, Ok, Option, Result, sym, refl, ap, ◌∙◌, subst, not-suc-le-zero, arith}
use Rattle.std.proofs.lemmas.Bool.{cond-true, cond-false}
use Rattle.refusal.specs.declared.Refusal.{Refusal}
use Rattle.field.specs.Field.{Means}
use Rattle.carried.specs.Carries.{Carries}
use Rattle.source.specs.Source.{Draws}
use Rattle.link.specs.OfPlain.{plain}
use Rattle.link.specs.OfScripted.{scripted}
use Rattle.link.specs.declared.plain.PlainLink.{PlainLink}
use Rattle.link.specs.declared.scripted.ScriptedLink.{ScriptedLink}
use Rattle.receiver.specs.declared.state.Answer.{Answer}
use Rattle.transfer.specs.Parts.{Parts, State}
use Rattle.transfer.specs.Steps.{Called, called, Fetched, fetched, fetches, hears}
use Rattle.delivery.specs.declared.progress.Progress.{Progress}
use Rattle.delivery.specs.Follows.{Follows}
use Rattle.delivery.specs.Outcome.{linked}
use Rattle.delivery.specs.Rounds.{Course, found_none, fetch_one, fetching, fetch_all_lem, hear_one, hearing, hear_all_lem}
use Rattle.delivery.proofs.Fetching.{forward-is, took}
use Rattle.delivery.proofs.Hearing.{links_are, heard_took}
use Rattle.delivery.proofs.Queues.{popped-one, plain-waiting, scripted-waiting}

module _ {S C : Type 0} (p : Parts S ScriptedLink PlainLink) (file before : List ℕ) (shut : Bool) (t : ℕ) (c : Course S ScriptedLink PlainLink) (σ : State S ScriptedLink PlainLink) (v : Progress C) (buffer : List ℕ) where
  -- from here on, fetches until none end the fetches of c; there are more of them than frames in the queue
  pub record FetchesOn : Type 0 where
    pub so_far : Course S ScriptedLink PlainLink
    pub left : ℕ
    pub enough : σ.forward.queue.count < left
    pub follows : Follows p file before shut t so_far σ v buffer
    pub ends : fetching 32 p left so_far ≡ fetch_all_lem 32 p c

  -- the same of hears
  pub record HearsOn : Type 0 where
    pub so_far : Course S ScriptedLink PlainLink
    pub left : ℕ
    pub enough : σ.reverse.count < left
    pub follows : Follows p file before shut t so_far σ v buffer
    pub ends : hearing 32 p left so_far ≡ hear_all_lem 32 p c

module _ {S : Type 0} (p : Parts S ScriptedLink PlainLink) (c : Course S ScriptedLink PlainLink) (σ : State S ScriptedLink PlainLink) (is : c.state ≡ σ) where
  -- the last fetch, and one that goes on
  pub fetching-ends : (numbers after : List ℕ) → c.numbers ≡ numbers → (r : Result (Option Answer) Refusal) (τ : State S ScriptedLink PlainLink) → fetched r τ after ≡ fetches 32 p σ numbers
      → found_none r ≡ true → (n : ℕ) → 0 < n → fetching 32 p n c ≡ fetch_one 32 p c
  unfolding fetching
  fetching-ends numbers after same r τ e none zero h = absurd (not-suc-le-zero h)
  fetching-ends numbers after same r τ e none (suc n) h =
      cond-true (found_none (fetches 32 p c.state c.numbers).answer) _ _
      (ap (λ (x : State S ScriptedLink PlainLink). found_none (fetches 32 p x c.numbers).answer) is
      ∙ ap (λ (x : List ℕ). found_none (fetches 32 p σ x).answer) same
      ∙ sym (ap (λ (z : Fetched S ScriptedLink PlainLink). found_none z.answer) e) ∙ none)

  pub fetching_goes_on : (numbers after : List ℕ) → c.numbers ≡ numbers → (r : Result (Option Answer) Refusal) (τ : State S ScriptedLink PlainLink) → fetched r τ after ≡ fetches 32 p σ numbers
      → found_none r ≡ false → (n : ℕ) → 0 < n → fetching 32 p n c ≡ fetching 32 p (n - 1) (fetch_one 32 p c)
  unfolding fetching
  fetching_goes_on numbers after same r τ e some zero h = absurd (not-suc-le-zero h)
  fetching_goes_on numbers after same r τ e some (suc n) h =
      cond-false (found_none (fetches 32 p c.state c.numbers).answer) _ _
      (ap (λ (x : State S ScriptedLink PlainLink). found_none (fetches 32 p x c.numbers).answer) is
      ∙ ap (λ (x : List ℕ). found_none (fetches 32 p σ x).answer) same
      ∙ sym (ap (λ (z : Fetched S ScriptedLink PlainLink). found_none z.answer) e) ∙ some)
      ∙ ap (λ (k : ℕ). fetching 32 p k (fetch_one 32 p c)) (let k : n ≡ suc n - 1 = omega arith in k)

  -- the last hear, and one that goes on
  pub hearing-ends : (r : Result (Option (ℕ × ℕ)) Refusal) (τ : State S ScriptedLink PlainLink) → called r τ ≡ hears 32 p σ
      → found_none r ≡ true → (n : ℕ) → 0 < n → hearing 32 p n c ≡ hear_one 32 p c
  unfolding hearing
  hearing-ends r τ e none zero h = absurd (not-suc-le-zero h)
  hearing-ends r τ e none (suc n) h =
      cond-true (found_none (hears 32 p c.state).answer) _ _
      (ap (λ (x : State S ScriptedLink PlainLink). found_none (hears 32 p x).answer) is
      ∙ sym (ap (λ (z : Called (Option (ℕ × ℕ)) S ScriptedLink PlainLink). found_none z.answer) e) ∙ none)

  pub hearing_goes_on : (r : Result (Option (ℕ × ℕ)) Refusal) (τ : State S ScriptedLink PlainLink) → called r τ ≡ hears 32 p σ
      → found_none r ≡ false → (n : ℕ) → 0 < n → hearing 32 p n c ≡ hearing 32 p (n - 1) (hear_one 32 p c)
  unfolding hearing
  hearing_goes_on r τ e some zero h = absurd (not-suc-le-zero h)
  hearing_goes_on r τ e some (suc n) h =
      cond-false (found_none (hears 32 p c.state).answer) _ _
      (ap (λ (x : State S ScriptedLink PlainLink). found_none (hears 32 p x).answer) is
      ∙ sym (ap (λ (z : Called (Option (ℕ × ℕ)) S ScriptedLink PlainLink). found_none z.answer) e) ∙ some)
      ∙ ap (λ (k : ℕ). hearing 32 p k (hear_one 32 p c)) (let k : n ≡ suc n - 1 = omega arith in k)

module _ {S C : Type 0} (p : Parts S ScriptedLink PlainLink) (file before : List ℕ) (shut : Bool) (t : ℕ) (c : Course S ScriptedLink PlainLink)
    (σ τ : State S ScriptedLink PlainLink) (v u : Progress C)
  where
    -- with the last call, the course is all of them
    pub fetches_end : (buffer : List ℕ) (on : FetchesOn p file before shut t c σ v buffer) (after : List ℕ) → fetched (Ok None) τ after ≡ fetches 32 p σ v.numbers
        → Follows p file before shut t (fetch_one 32 p on.so_far) τ u buffer → Follows p file before shut t (fetch_all_lem 32 p c) τ u buffer
    fetches_end buffer on after e f =
        let some : 0 < on.left = omega (arith, on.enough) in
        subst (λ (d : Course S ScriptedLink PlainLink). Follows p file before shut t d τ u buffer)
        (sym (fetching-ends p on.so_far σ on.follows.state v.numbers after on.follows.numbers (Ok None) τ e refl on.left some) ∙ on.ends) f

    pub hears_end : (buffer : List ℕ) (on : HearsOn p file before shut t c σ v buffer) → called (Ok None) τ ≡ hears 32 p σ
        → Follows p file before shut t (hear_one 32 p on.so_far) τ u buffer → Follows p file before shut t (hear_all_lem 32 p c) τ u buffer
    hears_end buffer on e f =
        let some : 0 < on.left = omega (arith, on.enough) in
        subst (λ (d : Course S ScriptedLink PlainLink). Follows p file before shut t d τ u buffer)
        (sym (hearing-ends p on.so_far σ on.follows.state (Ok None) τ e refl on.left some) ∙ on.ends) f

module _ {S : Type 0} (m : Means) (carries : Carries) (draws : Draws S) (σ τ : State S ScriptedLink PlainLink) where
  -- a fetch that took a frame leaves one less in the queue
  pub fetches_fewer : (numbers after : List ℕ) → 4096 ≤ length numbers → (r : Result (Option Answer) Refusal) → fetched r τ after ≡ fetches 32 (linked m carries draws) σ numbers
      → found_none r ≡ false → τ.forward.queue.count + 1 ≡ σ.forward.queue.count
  fetches_fewer numbers after room r e some =
      let Took-one = took (linked m carries draws) σ τ numbers after room r e some in
      ap (λ (x : ScriptedLink). x.queue.count + 1) (forward-is (linked m carries draws) σ τ numbers after room r e) ∙ popped-one σ.forward.queue Took-one.0 Took-one.1

  pub hears_fewer : (r : Result (Option (ℕ × ℕ)) Refusal) → called r τ ≡ hears 32 (linked m carries draws) σ → found_none r ≡ false → τ.reverse.count + 1 ≡ σ.reverse.count
  hears_fewer r e some =
      let Took-one = heard_took (linked m carries draws) σ τ r e some in
      ap (λ (x : PlainLink). x.count + 1) (links_are (linked m carries draws) σ τ r e).1 ∙ popped-one σ.reverse Took-one.0 Took-one.1

module _ {S C : Type 0} (m : Means) (carries : Carries) (draws : Draws S) (file before : List ℕ) (shut : Bool) (t : ℕ) (c : Course S ScriptedLink PlainLink)
    (σ : State S ScriptedLink PlainLink) (v : Progress C)
  where
    pub fetches_begin : (buffer : List ℕ) → Follows (linked m carries draws) file before shut t c σ v buffer → FetchesOn (linked m carries draws) file before shut t c σ v buffer
    fetches_begin buffer h =
        let same = ap (λ (x : State S ScriptedLink PlainLink). length ((scripted 400).waiting x.forward)) h.state in
        record { so_far = c; left = suc (length ((scripted 400).waiting c.state.forward)); enough = omega (arith, scripted-waiting σ.forward, same); follows = h; ends = refl }

    pub hears_begin : (buffer : List ℕ) → Follows (linked m carries draws) file before shut t c σ v buffer → HearsOn (linked m carries draws) file before shut t c σ v buffer
    hears_begin buffer h =
        let same = ap (λ (x : State S ScriptedLink PlainLink). length ((plain 400).waiting x.reverse)) h.state in
        record { so_far = c; left = suc (length ((plain 400).waiting c.state.reverse)); enough = omega (arith, plain-waiting σ.reverse, same); follows = h; ends = refl }

    module _ (τ : State S ScriptedLink PlainLink) (u : Progress C) where
      pub fetches-go_on : (buffer : List ℕ) (on : FetchesOn (linked m carries draws) file before shut t c σ v buffer) (after : List ℕ) → 4096 ≤ length v.numbers
          → (r : Result (Option Answer) Refusal) → fetched r τ after ≡ fetches 32 (linked m carries draws) σ v.numbers → found_none r ≡ false
          → (b : List ℕ) → Follows (linked m carries draws) file before shut t (fetch_one 32 (linked m carries draws) on.so_far) τ u b → FetchesOn (linked m carries draws) file before shut t c τ u b
      fetches-go_on buffer on after room r e some b f =
          let more : 0 < on.left = omega (arith, on.enough) in
          record {
            so_far = fetch_one 32 (linked m carries draws) on.so_far;
            left = on.left - 1;
            enough = omega (arith, on.enough, fetches_fewer m carries draws σ τ v.numbers after room r e some);
            follows = f;
            ends = sym (fetching_goes_on (linked m carries draws) on.so_far σ on.follows.state v.numbers after on.follows.numbers r τ e some on.left more) ∙ on.ends;
          }

      pub hears-go_on : (buffer : List ℕ) (on : HearsOn (linked m carries draws) file before shut t c σ v buffer)
          → (r : Result (Option (ℕ × ℕ)) Refusal) → called r τ ≡ hears 32 (linked m carries draws) σ → found_none r ≡ false
          → Follows (linked m carries draws) file before shut t (hear_one 32 (linked m carries draws) on.so_far) τ u buffer → HearsOn (linked m carries draws) file before shut t c τ u buffer
      hears-go_on buffer on r e some f =
          let more : 0 < on.left = omega (arith, on.enough) in
          record {
            so_far = hear_one 32 (linked m carries draws) on.so_far;
            left = on.left - 1;
            enough = omega (arith, on.enough, hears_fewer m carries draws σ τ r e some);
            follows = f;
            ends = sym (hearing_goes_on (linked m carries draws) on.so_far σ on.follows.state r τ e some on.left more) ∙ on.ends;
          }
