-- A fetch, and what the program keeps of it.
use Rattle.std.proofs.Common.{◌≡◌, ℕ, ◌+◌, ◌*◌, ◌<◌, ◌≤◌, Bool, List, [], ◌∷◌, ◌++◌, length, get_or, take, drop, Some, None, Ok, Err, Option, Result, sym, refl, ap, ◌∙◌, subst, add-zero, arith, lit<, length-append}
use Rattle.std.proofs.lemmas.List.{get_or_append_left, get_or-append-add}
use Rattle.refusal.specs.declared.Refusal.{Refusal}
use Rattle.file.specs.Filled.{FilledOver}
use Rattle.file.specs.Packets.{packet_of}
use Rattle.file.specs.Spelling.{spelling_of}
use Rattle.link.specs.declared.plain.PlainLink.{PlainLink}
use Rattle.link.specs.declared.scripted.ScriptedLink.{ScriptedLink}
use Rattle.receiver.specs.Log.{Arrival, call, packets, released, fresh_count, fresh_one}
use Rattle.receiver.specs.declared.state.Answer.{Answer}
use Rattle.receiver.specs.declared.state.Answer.TheVariants.{Fresh, Repeat}
use Rattle.transfer.proofs.Standing.{stands}
use Rattle.transfer.specs.Log.{Event, arriving, arrivals, admitted, sendings}
use Rattle.transfer.specs.Parts.{Parts, PartsLaws, State}
use Rattle.transfer.specs.Steps.{fetched, some, fetch_takes, fetches}
use Rattle.delivery.specs.declared.progress.Progress.{Progress}
use Rattle.job.specs.declared.tally.Tally.{Tally}
use Rattle.job.specs.Counts.{answered_with, released_by}
use Rattle.delivery.specs.Follows.{Follows, Keeps, Small}
use Rattle.delivery.proofs.Answers.{counted_one, released_few}
use Rattle.delivery.specs.Outcome.{repeat_count, repeat_one, refused_count, refused_one}
use Rattle.delivery.specs.Rounds.{Course, fetch_one}
use Rattle.delivery.proofs.Courses.{fetched-course, runs_on}
use Rattle.delivery.proofs.Fetching.{packets-at, packets-count, logged, logged_call}

-- what is kept, with another number buffer
abbrev pub with_numbers : {C : Type 0} → List ℕ → Progress C → Progress C
with_numbers numbers v = record { heard = v.heard; released = v.released; tally = v.tally; numbers = numbers; filling = v.filling }

-- the counts by a receiver's log
abbrev counted : List Event → List Arrival → Tally
counted log calls = record { sent = length (sendings log); fresh = fresh_count calls; repeat = repeat_count calls; refused = refused_count calls }

same_tally : (a b c d a' b' c' d' : ℕ) → a ≡ a' → b ≡ b' → c ≡ c' → d ≡ d'
    → ◌≡◌ {A = Tally} (record { sent = a; fresh = b; repeat = c; refused = d }) (record { sent = a'; fresh = b'; repeat = c'; refused = d' })
same_tally a b c d a' b' c' d' e f g h = cc

-- one more call, by its answer
counted-more : (log : List Event) (calls : List Arrival) (f before : List ℕ) (r : Result Answer Refusal) (after : List ℕ) (x : Tally) → x ≡ counted log calls
    → record { sent = x.sent; fresh = x.fresh + fresh_one r; repeat = x.repeat + repeat_one r; refused = x.refused + refused_one r } ≡ counted log (call f before r after ∷ calls)
counted-more log calls f before r after x e =
    ap (λ (y : Tally). record { sent = y.sent; fresh = y.fresh + fresh_one r; repeat = y.repeat + repeat_one r; refused = y.refused + refused_one r }) e

-- an answer of a receiver, as the log counts it
answered-counts : (a : Result Answer Refusal) (x : Tally)
    → answered_with a x ≡ record { sent = x.sent; fresh = x.fresh + fresh_one a; repeat = x.repeat + repeat_one a; refused = x.refused + refused_one a }
answered-counts (Ok (Fresh n)) x = same_tally _ _ _ _ _ _ _ _ refl refl (sym (add-zero x.repeat)) (sym (add-zero x.refused))
answered-counts (Ok Repeat) x = same_tally _ _ _ _ _ _ _ _ refl (sym (add-zero x.fresh)) refl (sym (add-zero x.refused))
answered-counts (Err why) x = same_tally _ _ _ _ _ _ _ _ refl (sym (add-zero x.fresh)) (sym (add-zero x.repeat)) refl

released-more : (a : Result Answer Refusal) (calls : List Arrival) (f before after : List ℕ)
    → length (released (call f before a after ∷ calls)) ≡ length (released calls) + released_by a
released-more (Ok (Fresh n)) calls f before after =
    length-append (released calls) (packets n after) ∙ ap (λ (k : ℕ). length (released calls) + k) (packets-count n after)
released-more (Ok Repeat) calls f before after = length-append (released calls) []
released-more (Err why) calls f before after = length-append (released calls) []

module _
    {S C : Type 0} (p : Parts S ScriptedLink PlainLink) (file before : List ℕ) (shut : Bool) (t : ℕ) (c : Course S ScriptedLink PlainLink)
    (σ τ : State S ScriptedLink PlainLink) (v : Progress C) (buffer : List ℕ) (h : Follows p file before shut t c σ v buffer)
    (room : 4096 ≤ length v.numbers) (after : List ℕ)
  where
    abbrev new_calls : Result (Option Answer) Refusal → List Arrival
    new_calls r = arriving (fetch_takes 32 p σ v.numbers) v.numbers r after (arrivals c.log)

    keeps : (r : Result (Option Answer) Refusal) → fetched r τ after ≡ fetches 32 p σ v.numbers → (u : Progress C) (b : List ℕ)
        → u.heard ≡ v.heard → u.numbers ≡ after → u.tally ≡ counted c.log (new_calls r) → length (released (new_calls r)) ≡ u.released
        → FilledOver (spelling_of p.means.q) file u.released u.filling.taken u.filling.size before b
        → Follows p file before shut t (fetch_one 32 p c) τ u b
    keeps r e u b same-heard same-numbers same-counts same-released filled =
        subst (λ (d : Course S ScriptedLink PlainLink). Follows p file before shut t d τ u b) (sym (fetched-course p c σ τ h.state v.numbers h.numbers r after e))
        (record {
          state = refl;
          numbers = sym same-numbers;
          runs = runs_on p file shut t c.log σ τ h.runs (Event.fetch (fetch_takes 32 p σ v.numbers) v.numbers r after) (refl, e) refl refl;
          heard = h.heard ∙ sym same-heard;
          tally = same-counts;
          releases = same-released;
          filled = filled;
        })

    pub fetched-none : fetched (Ok None) τ after ≡ fetches 32 p σ v.numbers → Follows p file before shut t (fetch_one 32 p c) τ (with_numbers after v) buffer
    fetched-none e =
        let is = logged p σ τ v.numbers after room (Ok None) e (arrivals c.log) in
        keeps (Ok None) e (with_numbers after v) buffer refl refl
        (h.tally ∙ sym (ap (counted c.log) is)) (ap (λ (l : List Arrival). length (released l)) is ∙ h.releases) h.filled

    pub fetched-some : (a : Result Answer Refusal) → fetched (some a) τ after ≡ fetches 32 p σ v.numbers → (u : Progress C) (b : List ℕ)
        → Keeps a (with_numbers after v) u → FilledOver (spelling_of p.means.q) file (v.released + released_by a) u.filling.taken u.filling.size before b
        → Follows p file before shut t (fetch_one 32 p c) τ u b
    fetched-some a e u b kept filled =
        let is = logged_call a v.numbers after (new_calls (some a)) (arrivals c.log) (logged p σ τ v.numbers after room (some a) e (arrivals c.log)) in
        keeps (some a) e u b kept.heard kept.numbers
        (kept.tally ∙ answered-counts a v.tally ∙ counted-more c.log (arrivals c.log) is.0 v.numbers a after v.tally h.tally ∙ sym (ap (counted c.log) is.1))
        (ap (λ (l : List Arrival). length (released l)) is.1 ∙ released-more a (arrivals c.log) is.0 v.numbers after
        ∙ ap (λ (k : ℕ). k + released_by a) h.releases ∙ sym kept.released)
        (subst (λ (k : ℕ). FilledOver (spelling_of p.means.q) file k u.filling.taken u.filling.size before b) (sym kept.released) filled)

    module _ (n : ℕ) (e : fetched (Ok (Some (Fresh n))) τ after ≡ fetches 32 p σ v.numbers) where
      -- the buffer begins with the next packets of the file
      fresh-begins : PartsLaws 32 p → (i : ℕ) → i < n → take 128 (drop (128 * i) after) ≡ packet_of (spelling_of p.means.q) file (v.released + i)
      fresh-begins laws i below =
          let is = logged p σ τ v.numbers after room (Ok (Some (Fresh n))) e (arrivals c.log) in
          let r = h.runs in
          let log = Event.fetch (fetch_takes 32 p σ v.numbers) v.numbers (Ok (Some (Fresh n))) after ∷ c.log in
          let ahead = ((stands 32 (lit< tt) refl p laws r.source r.forward r.reverse log τ (σ, r.run, (refl, e))).delivery r.none_forth r.none_back).in_order in
          let old = released (arrivals c.log) in
          let in_order : admitted c.log ≡ (old ++ packets n after) ++ ahead.0 = ahead.1 ∙ ap (λ (l : List Arrival). released l ++ ahead.0) is.1 in
          let many : length (admitted c.log) ≡ (length old + n) + length ahead.0 =
          ap length in_order ∙ length-append (old ++ packets n after) ahead.0 ∙ ap (λ (k : ℕ). k + length ahead.0) (length-append old (packets n after) ∙ ap (λ (k : ℕ). length old + k) (packets-count n after)) in
          let within : length old + i < length (old ++ packets n after) = omega (arith, length-append old (packets n after), packets-count n after) in
          let small : length old + i < t = omega (arith, many, r.stream.count) in
          sym (packets-at n i after below)
          ∙ sym (get_or-append-add old (packets n after) i [])
          ∙ sym (get_or_append_left (old ++ packets n after) ahead.0 [] (length old + i) within)
          ∙ sym (ap (λ (l : List (List ℕ)). get_or l (length old + i) []) in_order)
          ∙ r.stream.each (length old + i) small
          ∙ ap (λ (k : ℕ). packet_of (spelling_of p.means.q) file (k + i)) h.releases

    -- the buffer begins with the next packets of the file, as many as the answer released
    pub next_packets : PartsLaws 32 p → (a : Result Answer Refusal) → fetched (some a) τ after ≡ fetches 32 p σ v.numbers
        → (i : ℕ) → i < released_by a → take 128 (drop (128 * i) after) ≡ packet_of (spelling_of p.means.q) file (v.released + i)
    next_packets laws (Ok (Fresh n)) e i below = fresh-begins n e laws i below
    next_packets laws (Ok Repeat) e i below = absurd (omega arith)
    next_packets laws (Err why) e i below = absurd (omega arith)

-- the counts stay small: a frame less waits
pub small_kept : {C : Type 0} (n : ℕ) (a : Result Answer Refusal) (v u : Progress C) (x y : ScriptedLink) {after : List ℕ} → Keeps a (with_numbers after v) u → released_by a ≤ 32
    → y.queue.count + 1 ≡ x.queue.count → Small n v x → Small n u y
small_kept n a v u x y kept few fewer was = record {
  few = omega (arith, counted_one a v.tally, was.few, ap (λ (z : Tally). z.sent + (z.fresh + (z.repeat + z.refused))) kept.tally);
  released = omega (arith, kept.released, released_few a v.tally v.released few was.released, ap (λ (z : Tally). z.fresh) kept.tally);
}
