-- Frames that code admitted packets: they fit every stream that begins with these, and such streams there are.
use Rattle.std.proofs.Common.{◌≡◌, ℕ, ◌<◌, ◌≤◌, ◌⊎◌, List, [], ◌∷◌, ◌++◌, length, get_or, replicate, Ok, Err, Result, sym, ap, ◌∙◌, subst, inl, inr, arith}
use mathlib.Core.List.{Memᴰ}
use Rattle.std.proofs.lemmas.List.{get_or_append_left, get_or_default, get_or_past, get_or-replicate, length-append, length-replicate}
use Rattle.std.proofs.lemmas.Bool.{cases_lt}
use Rattle.refusal.specs.declared.Refusal.{Refusal}
use Rattle.field.specs.Field.{Means, Laws, times}
use Rattle.algebra.specs.Frames.{Codes, Frame}
use Rattle.algebra.specs.Streams.{Stream, Fits, Fitting}
use Rattle.field.proofs.Zeros.{zero_times}
use Rattle.sender.proofs.Payloads.{sum_same}
use Rattle.sender.specs.Packets.{Begins, grown}

-- the frame fits every stream that begins with the packets, and tells of no packet after them
pub record Coding (m : Means) (packets : List (List ℕ)) (f : Frame) : Type 0 where
  pub fits : (s : ℕ → List ℕ) → Begins packets s → Fits 65536 128 m s f
  pub ends : (k : ℕ) → length packets ≤ k → f.row k ≡ 0

begins-less : (packets more : List (List ℕ)) (s : ℕ → List ℕ) → Begins (packets ++ more) s → Begins packets s
begins-less packets more s b k l =
    b k (omega (arith, length-append packets more)) ∙ get_or_append_left packets more [] k l

-- it still does when another packet is admitted
pub coding-more : (m : Means) (packets : List (List ℕ)) (f : Frame) → Coding m packets f
    → (packet : List ℕ) (r : Result ℕ Refusal) → Coding m (grown packets packet r) f
coding-more m packets f h packet (Ok t) = record {
  fits = λ s b. h.fits s (begins-less packets (packet ∷ []) s b);
  ends = λ k l. h.ends k (omega (arith, length-append packets (packet ∷ [])));
}
coding-more m packets f h packet (Err e) = h

-- the packets, followed by packets of 128 times the code c
pub filled : ℕ → List (List ℕ) → ℕ → List ℕ
filled c packets k = get_or packets k (replicate 128 c)

module _ (c : ℕ) (packets : List (List ℕ)) where
  pub filled-begins : Begins packets (filled c packets)
  unfolding filled
  filled-begins k l = get_or_default packets k _ [] l

  pub filled-past : (k : ℕ) → length packets ≤ k → filled c packets k ≡ replicate 128 c
  unfolding filled
  filled-past k l = get_or_past packets k _ l

module _ (m : Means) (packets : List (List ℕ)) (codes : (k : ℕ) → k < length packets → Codes m.q 128 (get_or packets k []))
    (frames : List Frame) (coding : (f : Frame) → Memᴰ f frames → Coding m packets f) (c : ℕ) (code : c < m.q) where
  filled-stream : Stream 65536 128 m (filled c packets)
  filled-stream k _ = go (cases_lt k (length packets))
    where
      go : (k < length packets) ⊎ (length packets ≤ k) → Codes m.q 128 (filled c packets k)
      go (inl l) = subst (Codes m.q 128) (sym (filled-begins c packets k l)) (codes k l)
      go (inr l) = subst (Codes m.q 128) (sym (filled-past c packets k l)) (record {
        long = length-replicate 128 c;
        codes = λ i h. subst (λ (z : ℕ). z < m.q) (sym (get_or-replicate 128 i c 0 h)) code;
      })

  -- it fits all frames that code the packets
  pub filled-fits : Fitting 65536 128 m frames (filled c packets)
  filled-fits = record { stream = filled-stream; fits = λ f i. (coding f i).fits (filled c packets) (filled-begins c packets) }

-- a frame that tells only of packets below n fits one stream where it fits another that agrees with it there
pub fits_alike : (m : Means) → Laws m → (f : Frame) (n : ℕ) → ((k : ℕ) → n ≤ k → f.row k ≡ 0)
    → (s t : ℕ → List ℕ) → ((k : ℕ) → k < n → s k ≡ t k) → Fits 65536 128 m t f → Fits 65536 128 m s f
fits_alike m laws f n none s t agree fits p l = sum_same m 65536 _ _ (λ k _. go k (cases_lt k n)) ∙ fits p l
  where
    zero_term : (k : ℕ) → n ≤ k → (x : ℕ) → times m (f.row k) x ≡ 0
    zero_term k h x = ap (λ (y : ℕ). times m y x) (none k h) ∙ zero_times m laws x

    go : (k : ℕ) → (k < n) ⊎ (n ≤ k) → times m (f.row k) (get_or (s k) p 0) ≡ times m (f.row k) (get_or (t k) p 0)
    go k (inl h) = ap (λ (x : List ℕ). times m (f.row k) (get_or x p 0)) (agree k h)
    go k (inr h) = zero_term k h _ ∙ sym (zero_term k h _)
