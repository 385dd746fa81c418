-- A ring holds a queue: what its steps do to the list of frames.
use Rattle.std.specs.Prelude.{◌≡◌, ℕ, suc, ◌+◌, ◌-◌, ◌%◌, ◌<◌, ◌≤◌, min, Bool, true, false, cond, ◌≢◌, ◌⊎◌, List, [], ◌∷◌, ◌++◌, map, length, drop, nat_lt, slice_index_or, slice_set, refl}
use Rattle.std.proofs.Common.{inl, inr, sym, ◌∙◌, ap, ap₂, mod-lt, mod-eq_of_lt, add_assoc, zero-add, arith, length-set, get_or-set_same, get_or-set_other}
use Rattle.std.proofs.Math.Nat.{mod-mod, mod-add-mod, add-mod_right}
use Rattle.std.specs.List.{range_with_len}
use Rattle.std.proofs.lemmas.List.FromFn.{length-map-range_with_len, get_or-map-range_with_len, map-range_with_len_more, fill_by_all}
use Rattle.std.proofs.lemmas.List.{take_at}
use Rattle.std.proofs.lemmas.Bool.{cases_lt, lt-ltb, le-ltb, cond-true, cond-false}
use Rattle.link.specs.declared.stored.Stored.{Stored}
use Rattle.link.specs.declared.plain.PlainLink.{PlainLink}
use Rattle.link.specs.Queue.{joined, joined_by}
use Rattle.link.specs.Ring.{frame, padded, entry, nothing, place_of, queued, pushed, pushed_by, popped}

-- an entry holds its frame
pub frame-entry : (limit : ℕ) (f : List ℕ) → length f ≤ limit → frame limit (entry limit f) ≡ f
unfolding padded
frame-entry limit f h = let e : length f ≡ min (length f) limit = omega arith in take_at f _ (min (length f) limit) e

-- two lists by functions that agree
map_same : {X : Type 0} (d : X) (f g : ℕ → X) (a n : ℕ) → ((i : ℕ) → i < n → f (a + i) ≡ g i) → map f (range_with_len a n) ≡ map g (range_with_len 0 n)
map_same d f g a n h =
    fill_by_all g (map f (range_with_len a n)) n d (length-map-range_with_len f a n)
    (λ k l. get_or-map-range_with_len f a n k (a + k) d l refl ∙ h k l)

-- below twice n, a remainder is the number or n less
wraps : (x n : ℕ) → x < n + n → (x % n ≡ x) ⊎ (x % n + n ≡ x)
wraps x n h = go (cases_lt x n)
  where
    go : (x < n) ⊎ (n ≤ x) → (x % n ≡ x) ⊎ (x % n + n ≡ x)
    go (inl l) = inl (mod-eq_of_lt l)
    go (inr l) =
        let e : x ≡ x - n + n = omega arith in
        let low : x - n < n = omega arith in
        let r : x % n ≡ x - n = ap (λ y. y % n) e ∙ add-mod_right (x - n) n ∙ mod-eq_of_lt low in
        inr (omega arith)

-- two places less than a round apart are not the same
apart : (a i j n : ℕ) → a < n → i < j → j < n → (a + i) % n ≢ (a + j) % n
apart a i j n ha hij hj = go (wraps (a + i) n (omega arith)) (wraps (a + j) n (omega arith))
  where
    go : ((a + i) % n ≡ a + i) ⊎ ((a + i) % n + n ≡ a + i) → ((a + j) % n ≡ a + j) ⊎ ((a + j) % n + n ≡ a + j) → (a + i) % n ≢ (a + j) % n
    go (inl u) (inl v) = omega arith
    go (inl u) (inr v) = omega arith
    go (inr u) (inl v) = omega arith
    go (inr u) (inr v) = omega arith

module _ (limit : ℕ) (q : PlainLink) where
  -- frame i of the queue
  abbrev frame_at : ℕ → List ℕ
  frame_at i = frame limit (slice_index_or q.frames (place_of q i) nothing)

  queued-length : length (queued limit q) ≡ q.count
  queued-length = length-map-range_with_len frame_at 0 q.count

  pub queued-none : q.count ≡ 0 → queued limit q ≡ []
  queued-none e = ap (λ n. map frame_at (range_with_len 0 n)) e

  pub queued-some : 0 < q.count → queued limit q ≡ frame_at 0 ∷ map frame_at (range_with_len 1 (q.count - 1))
  queued-some h = let e : q.count ≡ suc (q.count - 1) = omega arith in ap (λ n. map frame_at (range_with_len 0 n)) e

  -- the queue after its first entry has left
  abbrev rest : PlainLink
  rest = record { frames = q.frames; first = place_of q 1; count = q.count - 1 }

  place_rest : (i : ℕ) → place_of q (1 + i) ≡ place_of rest i
  place_rest i =
      let n = length q.frames in
      sym (ap (λ x. (x + i) % n) (mod-mod (q.first % n + 1) n) ∙ mod-add-mod (q.first % n + 1) n i ∙ ap (λ x. x % n) (add_assoc (q.first % n) 1 i))

  queued_rest : 0 < q.count → queued limit rest ≡ drop 1 (queued limit q)
  queued_rest h =
      sym (map_same [] frame_at (λ i. frame limit (slice_index_or q.frames (place_of rest i) nothing)) 1 (q.count - 1)
      (λ i l. ap (λ p. frame limit (slice_index_or q.frames p nothing)) (place_rest i)))
      ∙ sym (ap (drop 1) (queued-some h))

  pub queued-popped : queued limit (popped q) ≡ drop 1 (queued limit q)
  queued-popped = go (cases_lt 0 q.count)
    where
      go : (0 < q.count) ⊎ (q.count ≤ 0) → queued limit (popped q) ≡ drop 1 (queued limit q)
      go (inl h) = ap (queued limit) (cond-true (nat_lt 0 q.count) rest q (lt-ltb 0 q.count h)) ∙ queued_rest h
      go (inr h) =
          let e : q.count ≡ 0 = omega arith in
          ap (queued limit) (cond-false (nat_lt 0 q.count) rest q (le-ltb 0 q.count h)) ∙ queued-none e ∙ sym (ap (drop 1) (queued-none e))

  module _ (s : Stored) where
    -- the queue with one more entry
    abbrev more : PlainLink
    more = record { frames = slice_set q.frames (place_of q q.count) s; first = q.first; count = q.count + 1 }

    abbrev frame_more : ℕ → List ℕ
    frame_more i = frame limit (slice_index_or more.frames (place_of more i) nothing)

    place_more : (i : ℕ) → frame_more i ≡ frame limit (slice_index_or more.frames (place_of q i) nothing)
    place_more i =
        ap (λ n. frame limit (slice_index_or more.frames ((q.first % n + i) % n) nothing)) (length-set q.frames (place_of q q.count) s)

    module _ (h : q.count < length q.frames) where
      old-frame : (i : ℕ) → i < q.count → frame_more i ≡ frame_at i
      old-frame i l =
          let differ : place_of q i ≢ place_of q q.count = apart (q.first % length q.frames) i q.count (length q.frames) (mod-lt q.first (omega arith)) l h in
          place_more i ∙ ap (frame limit) (get_or-set_other q.frames (place_of q q.count) (place_of q i) s nothing differ)

      new_frame : frame_more q.count ≡ frame limit s
      new_frame =
          place_more q.count
          ∙ ap (frame limit) (get_or-set_same q.frames (place_of q q.count) s nothing (mod-lt (q.first % length q.frames + q.count) (omega arith)))

      queued-more : queued limit more ≡ queued limit q ++ frame limit s ∷ []
      queued-more =
          map-range_with_len_more frame_more 0 q.count q.count (zero-add q.count)
          ∙ ap₂ (λ xs x. xs ++ x ∷ []) (map_same [] frame_more frame_at 0 q.count (λ i l. ap frame_more (zero-add i) ∙ old-frame i l)) new_frame

    queued-pushed : queued limit (pushed q s) ≡ joined (length q.frames) (queued limit q) (frame limit s)
    queued-pushed = go (cases_lt q.count (length q.frames))
      where
        go : (q.count < length q.frames) ⊎ (length q.frames ≤ q.count) → queued limit (pushed q s) ≡ joined (length q.frames) (queued limit q) (frame limit s)
        go (inl h) =
            ap (queued limit) (cond-true (nat_lt q.count (length q.frames)) more q (lt-ltb q.count (length q.frames) h))
            ∙ queued-more h
            ∙ sym (cond-true (nat_lt (length (queued limit q)) (length q.frames)) (queued limit q ++ frame limit s ∷ []) (queued limit q) (lt-ltb (length (queued limit q)) (length q.frames) (omega (arith, queued-length))))
        go (inr h) =
            ap (queued limit) (cond-false (nat_lt q.count (length q.frames)) more q (le-ltb q.count (length q.frames) h))
            ∙ sym (cond-false (nat_lt (length (queued limit q)) (length q.frames)) (queued limit q ++ frame limit s ∷ []) (queued limit q) (le-ltb (length (queued limit q)) (length q.frames) (omega (arith, queued-length))))

length-pushed : (q : PlainLink) (s : Stored) → length (pushed q s).frames ≡ length q.frames
length-pushed q s = go (nat_lt q.count (length q.frames))
  where
    go : (b : Bool) → length (cond b (record { frames = slice_set q.frames (place_of q q.count) s; first = q.first; count = q.count + 1 }) q).frames ≡ length q.frames
    go true = length-set q.frames (place_of q q.count) s
    go false = refl

-- some entries join a queue as their frames do
pub queued-pushed_by : (limit : ℕ) (q : PlainLink) (ss : List Stored) → queued limit (pushed_by q ss) ≡ joined_by (length q.frames) (queued limit q) (map (frame limit) ss)
queued-pushed_by limit q [] = refl
queued-pushed_by limit q (s ∷ ss) =
    queued-pushed_by limit (pushed q s) ss
    ∙ ap₂ (λ n xs. joined_by n xs (map (frame limit) ss)) (length-pushed q s) (queued-pushed limit q s)

pub length-pushed_by : (q : PlainLink) (ss : List Stored) → length (pushed_by q ss).frames ≡ length q.frames
length-pushed_by q [] = refl
length-pushed_by q (s ∷ ss) = length-pushed_by (pushed q s) ss ∙ length-pushed q s
