-- What meets the promise is one.
use Rattle.std.proofs.Common.{◌≡◌, ℕ, zero, suc, ◌<◌, ◌≤◌, List, ◌∷◌, length, get_or, take, Ok, Err, Result, sym, refl, ap, ◌∙◌, arith, length-append, get_or-take}
use native.Mathlib.Decide.{dec_lt}
use Rattle.refusal.specs.declared.Refusal.{Refusal}
use Rattle.field.specs.Field.{Means}
use Rattle.carried.specs.Carries.{Carries}
use Rattle.frame.specs.declared.data.Data.{Data}
use Rattle.algebra.specs.Frames.{Frame}
use Rattle.algebra.specs.Promises.{ExactRelease, OldestUnseen}
use Rattle.algebra.proofs.Determined.{release_is_determined_lem}
use Rattle.receiver.specs.Log.{Arrival, call, released, packets}
use Rattle.receiver.specs.Promise.{Decided, Promise, RightReport, RightList}
use Rattle.receiver.specs.declared.state.Answer.{Answer}
use Rattle.receiver.specs.declared.state.Answer.TheVariants.{Fresh, Repeat}
use Rattle.examples.specs.Refused.{RightIsOne}
use Rattle.examples.proofs.Rising.{Rises, same_members}

packets-long : (n : ℕ) (xs : List ℕ) → length (packets n xs) ≡ n
unfolding packets
packets-long zero xs = refl
packets-long (suc n) xs = ap suc (packets-long n _)

taken_rises : (n : ℕ) (xs : List ℕ) → length (take n xs) ≡ n → ((i j : ℕ) → i < j → j < n → get_or xs i 0 < get_or xs j 0) → Rises (take n xs)
taken_rises n xs long r i j l h =
    let low : j < n = omega (arith, long) in
    let e = get_or-take n xs i 0 (omega arith) in
    let f = get_or-take n xs j 0 low in omega (arith, r i j l low)

module _ (m : Means) where
  one-release : (frames : List Frame) (released packets : List (List ℕ))
      → ExactRelease 65536 128 m frames released → ExactRelease 65536 128 m frames packets → released ≡ packets
  one-release frames released packets = release_is_determined_lem 65536 128 m frames frames released packets (λ s. (λ f. f, λ f. f))

  no_older : (xs : List (ℕ → ℕ)) (u v : ℕ) → OldestUnseen 65536 m xs u → OldestUnseen 65536 m xs v → v ≤ u
  no_older xs u v x y = go (dec_lt u v)
    where
      go : Dec (u < v) → v ≤ u
      go (no h) = omega arith
      go (yes h) = absurd (x.unseen (omega (arith, y.most)) (y.seen u h))

  one-oldest : (xs : List (ℕ → ℕ)) (u v : ℕ) → OldestUnseen 65536 m xs u → OldestUnseen 65536 m xs v → u ≡ v
  one-oldest xs u v x y = omega (arith, no_older xs u v x y, no_older xs v u y x)

  module _ (carries : Carries) (w : ℕ) (log : List Arrival) where
    one-report : (x y : ℕ × ℕ) → RightReport m carries w log x → RightReport m carries w log y → x ≡ y
    one-report x y a b = λ i. ((a.count ∙ sym b.count) i, one-oldest _ x.1 y.1 a.oldest b.oldest i)

    module _ (n k : ℕ) (xs ys : List ℕ) (a : RightList m carries w log n xs) (b : RightList m carries w log k ys) where
      one_list : take n xs ≡ take k ys
      one_list =
          same_members (take n xs) (take k ys) (taken_rises n xs a.long a.rising) (taken_rises k ys b.long b.rising)
          (λ v i. (b.unseen.exactly v).1 ((a.unseen.exactly v).0 i)) (λ v i. (a.unseen.exactly v).1 ((b.unseen.exactly v).0 i))

      one_missing : (n ≡ k) × (take n xs ≡ take k ys)
      one_missing = (sym a.long ∙ ap length one_list ∙ b.long, one_list)

    module _ (frame before : List ℕ) (d : Data) (x y : List ℕ) where
      abbrev One : Result Answer Refusal → Result Answer Refusal → Type 0
      One a b =
          Decided m carries w (length (released log)) (call frame before a x) d
          → Promise m carries w (call frame before a x ∷ log) → Promise m carries w (call frame before b y ∷ log)
          → (a ≡ b) × (released (call frame before a x ∷ log) ≡ released (call frame before b y ∷ log))

      -- the other call's row decides too
      turned : (a b : Result Answer Refusal) → Decided m carries w (length (released log)) (call frame before a x) d
          → Decided m carries w (length (released log)) (call frame before b y) d
      turned a b h = record { room = h.room; readable = h.readable; not_late = h.not_late; not_ahead = h.not_ahead }

      one_answer : (a b : Result Answer Refusal) → One a b
      one_answer (Ok (Fresh n)) (Ok (Fresh k)) h p q =
          let same = one-release _ _ _ p.release q.release in
          let long : n ≡ k =
          omega (
            arith,
            ap length same,
            length-append (released log) (packets n x),
            length-append (released log) (packets k y),
            packets-long n x,
            packets-long k y,
          ) in
          (ap (λ i. Ok (Fresh i)) long, same)
      one_answer (Ok (Fresh n)) (Ok Repeat) h p q =
          let e = ((q.newest.right d (turned _ _ h)).fresh.1 ((p.newest.right d h).fresh.0 (n, refl))).1 in
          absurd (let z : ◌≡◌ {A = ℕ} 0 1 = cc in omega arith)
      one_answer (Ok Repeat) (Ok (Fresh k)) h p q =
          let e = ((p.newest.right d h).fresh.1 ((q.newest.right d (turned _ _ h)).fresh.0 (k, refl))).1 in
          absurd (let z : ◌≡◌ {A = ℕ} 0 1 = cc in omega arith)
      one_answer (Ok Repeat) (Ok Repeat) h p q = (refl, refl)
      one_answer (Ok a) (Err f) h p q =
          let right = q.newest.right d (turned _ _ h) in
          let e = (p.newest.right d h).refused.1 (right.refused.0 (ap Err (q.newest.no_other d (turned _ _ h) f refl))) in
          absurd (let z : ◌≡◌ {A = ℕ} 0 1 = cc in omega arith)
      one_answer (Err e) (Ok b) h p q =
          let right = p.newest.right d h in
          let f = (q.newest.right d (turned _ _ h)).refused.1 (right.refused.0 (ap Err (p.newest.no_other d h e refl))) in
          absurd (let z : ◌≡◌ {A = ℕ} 0 1 = cc in omega arith)
      one_answer (Err e) (Err f) h p q =
          (ap Err (p.newest.no_other d h e refl ∙ sym (q.newest.no_other d (turned _ _ h) f refl)), refl)

pub right-is-one : (m : Means) → RightIsOne m
right-is-one m = record {
  release = one-release m;
  oldest = one-oldest m;
  report = one-report m;
  missing = one_missing m;
  answer = λ carries w log frame before d a b x y. one_answer m carries w log frame before d x y a b;
}
