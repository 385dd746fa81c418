-- Wrong answers, each refused.
use Rattle.std.proofs.Common.{◌≡◌, ℕ, zero, suc, ◌≤◌, ◌⊎◌, List, [], ◌∷◌, length, get_or, replicate, Ok, Result, sym, refl, ap, ◌∙◌, inl, inr, arith, lit≤}
use mathlib.Core.List.Memᴰ
use mathlib.Core.List.{Memᴰ, head-eq_of_cons-eq}
use lib.ListN.{get_or-eq_default}
use Rattle.refusal.specs.declared.Refusal.{Refusal}
use Rattle.field.specs.Field.{Means, Laws, plus, times}
use Rattle.field.specs.OfBits.{bits}
use Rattle.field.specs.BitsLaws.{bits_laws}
use Rattle.field.specs.Remainders.{all_laws}
use Rattle.carried.specs.Carries.{Carries, packed, unpacked}
use Rattle.carried.specs.Layouts.{eight_a_byte}
use Rattle.carried.specs.BitsLayout.{eight_a_byte_lays}
use Rattle.algebra.specs.Combinations.{combination}
use Rattle.algebra.specs.Frames.{row_at}
use Rattle.algebra.proofs.Frames.{row-slot_zero}
use Rattle.source.specs.Source.{DrawsLaws, run}
use Rattle.elimination.specs.Loops.{turns, seek, every}
use Rattle.elimination.specs.Rows.{less_all, times_all}
use Rattle.receiver.specs.Buffers.{over}
use Rattle.receiver.specs.Log.{call, packets, wrote}
use Rattle.receiver.specs.Promise.{Decided, Promise}
use Rattle.receiver.specs.Run.{Run}
use Rattle.receiver.specs.declared.state.Answer.{Answer}
use Rattle.receiver.specs.declared.state.Answer.TheVariants.{Fresh}
use Rattle.receiver.specs.declared.state.State.{State}
use Rattle.receiver.proofs.Faith.{promised}
use Rattle.examples.specs.Words.{slots, packet, frame, bit_frame, buffer}
use Rattle.examples.specs.Refused.{zero_source, WordsRefuse, ReleasesRefuse, DeliveriesRefuse, WrongAnswersRefused}
use Rattle.examples.proofs.Only.{right-is-one}
use Rattle.examples.proofs.Streams.{single, withheld, falsified, contradictory, guessed}
use Rattle.examples.proofs.Windows.{only, taken-alone}

-- what the row (1 1) combines to is the same at 0 and at 1
alike : (m : Means) (weights : List ℕ)
    → combination m weights (row_at 0 (1 ∷ 1 ∷ []) ∷ []) 0 ≡ combination m weights (row_at 0 (1 ∷ 1 ∷ []) ∷ []) 1
unfolding combination row_at
alike m [] = refl
alike m (c ∷ []) = refl
alike m (c ∷ d ∷ ds) = refl

words_refuse : (m : Means) → Laws m → WordsRefuse m
unfolding row_at
words_refuse m laws = record {
  unfit = λ fits.
      let z : ◌≡◌ {A = ℕ} 0 1 = sym (single m laws 65536 (λ k. 0) (lit≤ tt) (omega (arith, laws.least))) ∙ fits 0 (lit≤ tt) in omega arith;
  unseen = λ s. let e : ◌≡◌ {A = ℕ} 0 1 = sym (s.below 0 (lit≤ tt)) ∙ alike m s.weights ∙ s.here in omega arith;
  unspanned = λ s. let e : ◌≡◌ {A = ℕ} 0 1 = sym (s.equal 0) ∙ alike m s.weights ∙ s.equal 1 in omega arith;
}

releases_refuse : (m : Means) → Laws m → ReleasesRefuse m
releases_refuse m laws = record {
  withheld = withheld m laws 65536 128 (lit≤ tt);
  falsified = falsified m laws 65536 128 (lit≤ tt);
  contradictory = contradictory m laws 65536 128 (lit≤ tt);
  miscounted = λ p x.
      let z : ◌≡◌ {A = ℕ} 0 1 = (x 1 (lit≤ tt) (λ f i k l. ap (λ g. g.row k) (only (Memᴰ.cases_cons i)) ∙ ends k l)).1 refl in omega arith;
  guessed = guessed m laws 65536 128 (lit≤ tt) (lit≤ tt);
}
  where
    ends : (k : ℕ) → 1 ≤ k → row_at 0 (1 ∷ []) k ≡ 0
    ends k l = row-slot_zero (1 ∷ []) k ∙ get_or-eq_default (1 ∷ []) 0 {n = k} l

zero_at : (n i : ℕ) → ◌≡◌ {A = ℕ} (get_or (replicate n 0) i 0) 0
zero_at zero i = refl
zero_at (suc n) zero = refl
zero_at (suc n) (suc i) = zero_at n i

-- a row of zeros has a weight other than 0 that makes it 0
nothing : (k : ℕ) → combination bits (1 ∷ []) ((λ i. get_or (replicate 32 0) i 0) ∷ []) k ≡ 0
unfolding combination
nothing k = ap (λ x. plus bits (times bits 1 x) 0) (zero_at 32 k)

zeros_drawn : (next : ℕ → ℕ → ℕ → ℕ) → DrawsLaws 32 (zero_source next) → ⊥
unfolding run
zeros_drawn next laws =
    let z : ◌≡◌ {A = ℕ} 1 0 = laws.independent bits (all_laws bits_laws) 0 1 (lit≤ tt) (lit≤ tt) (1 ∷ []) nothing 0 (lit≤ tt) in
    omega arith

replaced : Memᴰ {A = List ℕ} (0 ∷ []) [] ⊎ (◌≡◌ {A = List ℕ} (0 ∷ []) []) → ⊥
replaced (inl i) = Memᴰ.not-nil i
replaced (inr e) = let z : ◌≡◌ {A = ℕ} 1 0 = ap length e in omega arith

-- no rows combine to 0 only
none : (m : Means) (weights : List ℕ) → combination m weights [] 0 ≡ 1 → ⊥
unfolding combination
none m [] e = let z : ◌≡◌ {A = ℕ} 0 1 = e in omega arith
none m (c ∷ cs) e = let z : ◌≡◌ {A = ℕ} 0 1 = e in omega arith

deliveries_refuse : (m : Means) (carries : Carries) (w : ℕ) → DeliveriesRefuse m carries w
unfolding combination packets
deliveries_refuse m carries w = record {
  swapped = λ frame before x.
      let z : ◌≡◌ {A = ℕ} 0 1 = ap (λ p. get_or p 0 0) (head-eq_of_cons-eq x.in_order.1) in omega arith;
  forgotten = λ report x. let s = x.trimmed 0 (lit≤ tt) in none m s.weights s.here;
  boasted = λ report x. let z : 1 ≤ 0 = x.confirmed in omega arith;
  unfinished = λ frame before after x. let z : ◌≡◌ {A = ℕ} 0 1 = x.complete.1 refl in omega arith;
  stalled = λ frame before after size x.
      let z : 1 ≤ 0 = x.progress 0 1 (taken-alone _ frame refl (Memᴰ.head refl)) in omega arith;
}

-- the first frame: its row decides, and the receiver's own answer meets the promise
first_runs : (c : State) × Run bits eight_a_byte 32 (call (bit_frame 0 (1 ∷ []) 1) buffer (Ok (Fresh 1)) (over buffer (packet 1)) ∷ []) c
unfolding packed unpacked turns seek every less_all times_all frame buffer
first_runs = (_, (_, refl, refl))

first-decided : Decided bits eight_a_byte 32 0 (call (bit_frame 0 (1 ∷ []) 1) buffer (Ok (Fresh 1)) (over buffer (packet 1)))
    (record { base = 0; width = 1; slots = slots (1 ∷ []); symbols = packet 1 })
unfolding packed unpacked frame buffer
first-decided = record { room = lit≤ tt; readable = refl; not_late = lit≤ tt; not_ahead = lit≤ tt }

first-released : wrote (Ok (Fresh 1)) (over buffer (packet 1)) ≡ packet 1 ∷ []
unfolding packets buffer
first-released = refl

first_answer : (a : Result Answer Refusal) (after : List ℕ) → Promise bits eight_a_byte 32 (call (bit_frame 0 (1 ∷ []) 1) buffer a after ∷ [])
    → (a ≡ Ok (Fresh 1)) × (wrote a after ≡ packet 1 ∷ [])
first_answer a after h =
    let right = promised bits (all_laws bits_laws) eight_a_byte 32 (lit≤ tt) eight_a_byte_lays refl _ first_runs.0 first_runs.1 in
    let same =
    (right-is-one bits).answer eight_a_byte 32 [] (bit_frame 0 (1 ∷ []) 1) buffer _ (Ok (Fresh 1)) a (over buffer (packet 1)) after
    first-decided right h in
    (sym same.0, sym same.1 ∙ first-released)

pub promises_refuse_wrong_answers_lem : WrongAnswersRefused
promises_refuse_wrong_answers_lem = record {
  words = words_refuse;
  releases = releases_refuse;
  one = right-is-one;
  first_answer = first_answer;
  zeros_drawn = zeros_drawn;
  invented = λ f laws. Memᴰ.not-nil (laws.takes 0 f refl);
  replaced = λ laws. replaced (laws.puts 0 [] (0 ∷ []) (Memᴰ.head refl));
  deliveries = deliveries_refuse;
  wrong_byte = λ before rest x. let z : ◌≡◌ {A = ℕ} 8 9 = x.filled.stands 1 (lit≤ tt) (lit≤ tt) in omega arith;
  wrong_length = λ size before buffer ne x. ne (x.filled.known (lit≤ tt));
  wrong_rest = λ x. let z : ◌≡◌ {A = ℕ} 6 5 = x.beside.left 2 (λ h _. omega arith) in omega arith;
}
