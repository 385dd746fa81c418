-- A fetch, case by case: the call that it logs, the frame that it takes, and how much is released.
use Rattle.std.proofs.Common.{◌≡◌, ℕ, zero, suc, ◌+◌, ◌*◌, ◌<◌, ◌≤◌, false, ltb, List, [], ◌∷◌, length, get_or, take, drop, Some, None, Ok, Err, Option, Result, sym, refl, ap, ◌∙◌, subst, le_of_suc-le-suc, not-suc-le-zero, arith, length-append, drop-drop}
use Rattle.std.proofs.lemmas.Bool.{cond-false, le-ltb}
use Rattle.std.specs.Result.{result_transpose}
use Rattle.refusal.specs.declared.Refusal.{Refusal}
use Rattle.field.specs.Field.{Means}
use Rattle.carried.specs.Carries.{Carries}
use Rattle.elimination.specs.Loops.{turns}
use Rattle.elimination.specs.declared.table.Table.{Table}
use Rattle.elimination.specs.declared.table.Verdict.{Verdict}
use Rattle.elimination.specs.declared.table.Verdict.TheVariants.{Innovative, Redundant, Contradictory}
use Rattle.frame.specs.declared.data.Data.{Data}
use Rattle.link.specs.declared.plain.PlainLink.{PlainLink}
use Rattle.link.specs.declared.scripted.ScriptedLink.{ScriptedLink}
use Rattle.receiver.proofs.Arrivals.{by_frame}
use Rattle.receiver.specs.Arrival.{Outcome, arrived, decided}
use Rattle.receiver.specs.Log.{Arrival, call, packets}
use Rattle.receiver.specs.Release.{Release, ready, release_one, releasing}
use Rattle.receiver.specs.declared.state.Answer.{Answer}
use Rattle.receiver.specs.declared.state.Answer.TheVariants.{Fresh, Repeat}
use Rattle.receiver.specs.declared.state.State.{State as Receiver-state}
use Rattle.transfer.specs.Log.{arriving}
use Rattle.transfer.specs.Parts.{Parts, State}
use Rattle.transfer.specs.Steps.{Fetched, fetched, some, fetch_takes, fetches, receives}
use Rattle.job.specs.Counts.{released_by}
use Rattle.delivery.specs.Rounds.{found_none}
use Rattle.delivery.proofs.Answers.{transposed_some, transposed_none}

-- the packets of a buffer, one by one
pub packets-at : (n i : ℕ) (xs : List ℕ) → i < n → get_or (packets n xs) i [] ≡ take 128 (drop (128 * i) xs)
unfolding packets
packets-at zero i xs h = absurd (not-suc-le-zero h)
packets-at (suc n) zero xs h = refl
packets-at (suc n) (suc i) xs h =
    packets-at n i (drop 128 xs) (le_of_suc-le-suc h)
    ∙ ap (take 128) (drop-drop (128 * i) 128 xs ∙ ap (λ (k : ℕ). drop k xs) (let e : 128 + 128 * i ≡ 128 * suc i = omega arith in e))

pub packets-count : (n : ℕ) (xs : List ℕ) → length (packets n xs) ≡ n
unfolding packets
packets-count zero xs = refl
packets-count (suc n) xs = ap suc (packets-count n (drop 128 xs))

-- no more is released at once than there are turns
one_more : (w n : ℕ) (o : Option (List ℕ)) (r : Release) → length r.packets ≤ n → length (release_one w o r).packets ≤ suc n
one_more w n None r h = omega arith
one_more w n (Some p) r h = omega (arith, length-append r.packets (p ∷ []))

releasing-few : (w : ℕ) (c : Receiver-state) (n : ℕ) → length (releasing w c n).packets ≤ n
unfolding turns
releasing-few w c zero = omega arith
releasing-few w c (suc n) = one_more w n (ready w (releasing w c n).state) (releasing w c n) (releasing-few w c n)

-- a fresh answer carries at most w packets
abbrev Few : ℕ → Result Answer Refusal → Type 0
Few w (Ok (Fresh n)) = n ≤ w
Few w (Ok Repeat) = Unit {0}
Few w (Err e) = Unit {0}

decided-few : (w : ℕ) (c : Receiver-state) (f : Data) (numbers : List ℕ) (t : Table) (v : Verdict) → Few w (decided w c f numbers t v).answer
decided-few w c f numbers t (Innovative d) = releasing-few w _ w
decided-few w c f numbers t Redundant = tt
decided-few w c f numbers t Contradictory = tt

arrived-few : (m : Means) (carries : Carries) (w : ℕ) (c : Receiver-state) (bytes numbers : List ℕ) → Few w (arrived m carries w c bytes numbers).answer
arrived-few m carries w c bytes numbers = by_frame m carries w c bytes numbers (λ (o : Outcome). Few w o.answer) (λ _. tt) (λ f _ _ _. decided-few w c f numbers _ _)

-- which call a fetch that answered r adds to the receiver's log
abbrev pub Logged : Result (Option Answer) Refusal → List ℕ → List ℕ → List Arrival → List Arrival → Type 0
Logged (Ok None) before after new old = new ≡ old
Logged (Ok (Some a)) before after new old = (f : List ℕ) × (new ≡ call f before (Ok a) after ∷ old)
Logged (Err e) before after new old = (f : List ℕ) × (new ≡ call f before (Err e) after ∷ old)

-- what a fetch released
abbrev pub FewFresh : Result (Option Answer) Refusal → Type 0
FewFresh (Ok None) = Unit {0}
FewFresh (Ok (Some a)) = Few 32 (Ok a)
FewFresh (Err e) = Unit {0}

logged_some : (f before after : List ℕ) (r : Result Answer Refusal) (calls : List Arrival) → Logged (some r) before after (arriving (Some f) before (some r) after calls) calls
logged_some f before after (Ok a) calls = (f, refl)
logged_some f before after (Err e) calls = (f, refl)

-- the call that a fetch adds to the receiver's log where it took a frame
pub logged_call : (a : Result Answer Refusal) (before after : List ℕ) (new old : List Arrival) → Logged (some a) before after new old → (f : List ℕ) × (new ≡ call f before a after ∷ old)
logged_call (Ok x) before after new old l = l
logged_call (Err e) before after new old l = l

-- and what it released
pub few-released : (a : Result Answer Refusal) → FewFresh (some a) → released_by a ≤ 32
few-released (Ok (Fresh n)) h = h
few-released (Ok Repeat) h = omega arith
few-released (Err e) h = omega arith

few-some : (r : Result Answer Refusal) → Few 32 r → FewFresh (some r)
few-some (Ok a) h = h
few-some (Err e) h = tt

module _
    {S : Type 0} (p : Parts S ScriptedLink PlainLink) (σ τ : State S ScriptedLink PlainLink) (numbers after : List ℕ) (room : 4096 ≤ length numbers)
    (r : Result (Option Answer) Refusal) (e : fetched r τ after ≡ fetches 32 p σ numbers)
  where
    is-first : fetched r τ after ≡ receives 32 p σ numbers (p.forward.first σ.forward)
    is-first = e ∙ cond-false (ltb (length numbers) 4096) _ _ (le-ltb (length numbers) 4096 room)

    takes_first : fetch_takes 32 p σ numbers ≡ p.forward.first σ.forward
    takes_first = cond-false (ltb (length numbers) 4096) _ _ (le-ltb (length numbers) 4096 room)

    -- the link is as after a take
    pub forward-is : τ.forward ≡ p.forward.rest σ.forward
    forward-is = ap (λ (z : Fetched S ScriptedLink PlainLink). z.state.forward) is-first ∙ go (p.forward.first σ.forward)
      where
        go : (o : Option (List ℕ)) → (receives 32 p σ numbers o).state.forward ≡ p.forward.rest σ.forward
        go None = refl
        go (Some f) = refl

    pub few-fresh : FewFresh r
    few-fresh = subst FewFresh (sym (ap (λ (z : Fetched S ScriptedLink PlainLink). z.answer) is-first)) (go (p.forward.first σ.forward))
      where
        go : (o : Option (List ℕ)) → FewFresh (receives 32 p σ numbers o).answer
        go None = tt
        go (Some f) = few-some (arrived p.means p.carries 32 σ.receiver f numbers).answer (arrived-few p.means p.carries 32 σ.receiver f numbers)

    -- where it did not answer none, a frame was there
    pub took : found_none r ≡ false → (f : List ℕ) × (p.forward.first σ.forward ≡ Some f)
    took some-came = go (p.forward.first σ.forward) refl is-first
      where
        go : (o : Option (List ℕ)) → p.forward.first σ.forward ≡ o → fetched r τ after ≡ receives 32 p σ numbers o → (f : List ℕ) × (p.forward.first σ.forward ≡ Some f)
        go None is e = absurd (cc (some-came, ap (λ (z : Fetched S ScriptedLink PlainLink). found_none z.answer) e))
        go (Some f) is e = (f, is)

    pub logged : (calls : List Arrival) → Logged r numbers after (arriving (fetch_takes 32 p σ numbers) numbers r after calls) calls
    logged calls =
        subst (λ (o : Option (List ℕ)). Logged r numbers after (arriving o numbers r after calls) calls) (sym takes_first)
        (subst (λ (x : Result (Option Answer) Refusal). Logged x numbers after (arriving (p.forward.first σ.forward) numbers x after calls) calls)
        (sym (ap (λ (z : Fetched S ScriptedLink PlainLink). z.answer) is-first)) (go (p.forward.first σ.forward)))
      where
        go : (o : Option (List ℕ)) → (λ (x : Result (Option Answer) Refusal). Logged x numbers after (arriving o numbers x after calls) calls) (receives 32 p σ numbers o).answer
        go None = refl
        go (Some f) = logged_some f numbers after (arrived p.means p.carries 32 σ.receiver f numbers).answer calls

-- what a fetch answered, once it is known whether it took a frame
module _
    {S : Type 0} (p : Parts S ScriptedLink PlainLink) (σ τ : State S ScriptedLink PlainLink) (numbers after : List ℕ)
    (r : Result (Option Answer) Refusal) (e : fetched r τ after ≡ fetches 32 p σ numbers)
    (o : Option (Result Answer Refusal)) (is : o ≡ result_transpose r)
  where
    pub answered-some : (a : Result Answer Refusal) → o ≡ Some a → fetched (some a) τ after ≡ fetches 32 p σ numbers
    answered-some a came = ap (λ (x : Result (Option Answer) Refusal). fetched x τ after) (sym (transposed_some r a (sym is ∙ came))) ∙ e

    pub answered-none : o ≡ None → fetched (Ok None) τ after ≡ fetches 32 p σ numbers
    answered-none came = ap (λ (x : Result (Option Answer) Refusal). fetched x τ after) (sym (transposed_none r (sym is ∙ came))) ∙ e
