-- A take from a queue leaves what it should.
use Rattle.std.proofs.Common.{◌≡◌, ℕ, ◌<◌, ◌≤◌, Bool, true, false, cond, ltb, ◌⊎◌, List, ◌++◌, length, get_or, min, take, drop, Some, None, Ok, Err, Option, Result, sym, refl, ap, ◌∙◌, inl, inr, arith, append_assoc, length-take}
use Rattle.refusal.specs.declared.Refusal.{Refusal}
use Rattle.refusal.specs.declared.Refusal.TheVariants.{ShortBuffer}
use Rattle.std.proofs.lemmas.List.{drop-append-le, take-append-drop}
use Rattle.std.proofs.lemmas.Bool.{cases_lt, lt-ltb, le-ltb, cond-true, cond-false}
use Rattle.std.specs.Option.{option_map}
use Rattle.link.specs.declared.plain.PlainLink.{PlainLink}
use Rattle.link.specs.declared.stored.Stored.{Stored}
use Rattle.link.specs.Link.{Carries, Taken, handed, taken}
use Rattle.link.specs.OfPlain.{plain}
use Rattle.link.specs.Queue.{first_of}
use Rattle.link.specs.Ring.{frame, nothing, place_of, queued, front, popped}
use Rattle.link.specs.Rings.{queued-none, queued-some, queued-popped}

-- a buffer that is long enough is not refused
accepts : {S : Type 0} (limit : ℕ) (c : Carries S) (x : S) (buffer : List ℕ) → limit ≤ length buffer
    → taken limit c x buffer ≡ handed (c.rest x) buffer (c.first x)
accepts limit c x buffer h =
    cond-false (ltb (length buffer) limit) (record { answer = Err ShortBuffer; state = x; buffer = buffer }) (handed (c.rest x) buffer (c.first x))
    (le-ltb (length buffer) limit h)

-- the first entry holds the first frame
first_frame : (limit : ℕ) (q : PlainLink) → option_map (frame limit) (front q) ≡ first_of (queued limit q)
first_frame limit q = go (cases_lt 0 q.count)
  where
    go : (0 < q.count) ⊎ (q.count ≤ 0) → option_map (frame limit) (front q) ≡ first_of (queued limit q)
    go (inl h) =
        ap (option_map (frame limit)) (cond-true (ltb 0 q.count) (Some (get_or q.frames (place_of q 0) nothing)) None (lt-ltb 0 q.count h))
        ∙ sym (ap first_of (queued-some limit q h))
    go (inr h) =
        ap (option_map (frame limit)) (cond-false (ltb 0 q.count) (Some (get_or q.frames (place_of q 0) nothing)) None (le-ltb 0 q.count h))
        ∙ sym (ap first_of (queued-none limit q (omega arith)))

same : (r r' : Result (Option ℕ) Refusal) (s s' : PlainLink) (b b' : List ℕ) → r ≡ r' → s ≡ s' → b ≡ b'
    → ◌≡◌ {A = Taken PlainLink} (record { answer = r; state = s; buffer = b }) (record { answer = r'; state = s'; buffer = b' })
same r r' s s' b b' p u v = cc

module _ (limit : ℕ) (q : PlainLink) (buffer : List ℕ) (long : limit ≤ length buffer) (s : PlainLink) (after : s ≡ popped q) where
  accepted : (o : Option Stored) → o ≡ front q → taken limit (plain limit) q buffer ≡ handed (popped q) buffer (option_map (frame limit) o)
  accepted o e = accepts limit (plain limit) q buffer long ∙ ap (handed (popped q) buffer) (sym (ap (option_map (frame limit)) e ∙ first_frame limit q))

  pub takes_none : (bytes : List ℕ) → None ≡ front q → bytes ≡ buffer → record { answer = Ok None; state = s; buffer = bytes } ≡ taken limit (plain limit) q buffer
  takes_none bytes e v = same (Ok None) (Ok None) s (popped q) bytes buffer refl after v ∙ sym (accepted None e)

  pub takes-some : (x : Stored) (n : ℕ) (bytes : List ℕ) → Some x ≡ front q → n ≡ length (frame limit x) → bytes ≡ frame limit x ++ drop (length (frame limit x)) buffer
      → record { answer = Ok (Some n); state = s; buffer = bytes } ≡ taken limit (plain limit) q buffer
  takes-some x n bytes e u v =
      same (Ok (Some n)) (Ok (Some (length (frame limit x)))) s (popped q) bytes (frame limit x ++ drop (length (frame limit x)) buffer) (ap (λ k. Ok (Some k)) u) after v
      ∙ sym (accepted (Some x) e)

-- a frame written into the start of a buffer leaves all behind it
pub written-start : (limit : ℕ) (x : Stored) (buffer start after : List ℕ) → limit ≤ length buffer → start ≡ take limit buffer
    → after ≡ frame limit x ++ drop (length (frame limit x)) start → after ++ drop limit buffer ≡ frame limit x ++ drop (length (frame limit x)) buffer
written-start limit x buffer start after long e u =
    let f = frame limit x in
    let fits : length f ≤ length (take limit buffer) = omega (arith, length-take limit buffer, length-take (min x.length limit) x.bytes) in
    ap (λ b. b ++ drop limit buffer) (u ∙ ap (λ b. f ++ drop (length f) b) e)
    ∙ append_assoc f (drop (length f) (take limit buffer)) (drop limit buffer)
    ∙ ap (λ b. f ++ b) (sym (drop-append-le (length f) (take limit buffer) (drop limit buffer) fits) ∙ ap (drop (length f)) (take-append-drop limit buffer))

-- the state after a take
pub state-after : {S : Type 0} (limit : ℕ) (c : Carries S) (x : S) (buffer : List ℕ) {r : Result (Option ℕ) Refusal} {s : S} {b : List ℕ}
    → record { answer = r; state = s; buffer = b } ≡ taken limit c x buffer → s ≡ cond (ltb (length buffer) limit) x (c.rest x)
state-after {S} limit c x buffer e = ap (λ (t : Taken S). t.state) e ∙ go (ltb (length buffer) limit) (c.first x)
  where
    go : (refused : Bool) (first : Option (List ℕ))
        → (cond refused (record { answer = Err ShortBuffer; state = x; buffer = buffer }) (handed (c.rest x) buffer first)).state ≡ cond refused x (c.rest x)
    go true first = refl
    go false None = refl
    go false (Some f) = refl

-- a take that is not refused takes the queue's first frame off
pub queue-after : (limit : ℕ) (b : Bool) (q s : PlainLink) → s ≡ cond b q (popped q) → queued limit s ≡ cond b (queued limit q) (drop 1 (queued limit q))
queue-after limit true q s e = ap (queued limit) e
queue-after limit false q s e = ap (queued limit) e ∙ queued-popped limit q
