-- A packet in a frame of its own.
use Rattle.std.proofs.Common.{◌≡◌, ℕ, zero, suc, ◌+◌, ◌*◌, ◌<◌, ◌≤◌, cond, ltb, List, [], ◌++◌, length, get_or, take, drop, set, replicate, IfOk, Ok, Err, Result, is_ok, sym, refl, ap, ◌∙◌, subst, inl, inr, append-nil, arith, lit≤, MatchResult}
use lib.Seq.{take-append_seam}
use Rattle.std.proofs.ByRecursion.{All-get_or}
use Rattle.std.proofs.lemmas.List.{get_or-replicate, get_or_past}
use Rattle.std.proofs.lemmas.Bool.{cases_lt, cond-false, le-ltb}
use Rattle.std.specs.Int.Digits.{AllBelowBase}
use Rattle.refusal.specs.declared.Refusal.{Refusal}
use Rattle.refusal.specs.declared.Refusal.TheVariants.{LongFile}
use Rattle.frame.specs.Proper.{Proper}
use Rattle.receiver.specs.Buffers.{over}
use Rattle.file.specs.Filled.{File, Filled, FillsAll, Took}
use Rattle.file.specs.Filling.{Outcome}
use Rattle.file.specs.Packets.{packet_of}
use Rattle.file.specs.Spelling.{spelling_of}
use Rattle.file.proofs.Each.{fills_first}

-- all slots but the first are 0
none_past : (k : ℕ) → 1 ≤ k → ◌≡◌ {A = ℕ} (get_or (set (replicate 32 0) 0 1) k 0) 0
none_past zero h = absurd (omega arith)
none_past (suc k) h =
    elim (cases_lt k 31) [
      | inl l ↦ get_or-replicate 31 k 0 0 l
      | inr m ↦ get_or_past (replicate 31 0) k 0 m
    ]

slot-code : (q k : ℕ) → 2 ≤ q → get_or (set (replicate 32 0) 0 1) k 0 < q
slot-code q zero h = h
slot-code q (suc k) h = omega (arith, none_past (suc k) (omega arith))

-- an answer that is known, with what holds of it
pub known_ok : {B : Type 0} (P : ℕ → Type 0) (r : Result ℕ B) (n most : ℕ) → r ≡ Ok n → n ≤ most → IfOk r P → MatchResult r (λ x. (x ≤ most) × P x) (λ _. ⊥)
known_ok P (Ok x) n most e h p = (let is : x ≡ n = cc in omega arith, p)
known_ok P (Err b) n most e h p = cc

-- the contents of the frame are in order
pub alone-proper : (q number : ℕ) (symbols : List ℕ) → 2 ≤ q → number < 65536 → length symbols ≡ 128 → AllBelowBase q symbols
    → Proper q 32 (record { base = number; width = 1; slots = set (replicate 32 0) 0 1; symbols = symbols })
alone-proper q number symbols two few long codes = record {
  least = lit≤ tt;
  most = lit≤ tt;
  in_stream = omega arith;
  slot_count = refl;
  symbol_count = long;
  slot_codes = λ k h. slot-code q k two;
  symbol_codes = λ k h. All-get_or (λ x. x < q) symbols k 0 h codes;
  none_past = none_past;
}

-- the only packet released stands at the start of the number buffer
first-packet : (p numbers : List ℕ) → length p ≡ 128 → (i released : ℕ) → released ≡ 1 → i < released
    → take 128 (drop (128 * i) (over numbers (p ++ []))) ≡ p
first-packet p numbers long i released one few =
    let none : 128 * i ≡ 0 = omega arith in
    ap (λ (n : ℕ). take 128 (drop n (over numbers (p ++ [])))) none
    ∙ ap (λ (x : List ℕ). take 128 (over numbers x)) (append-nil p)
    ∙ ap (λ (n : ℕ). take n (over numbers p)) (sym long)
    ∙ take-append_seam p (drop (length p) numbers)

-- a file's packet, by what the call for it answered
pub packet-is : (size : ℕ) (p q : List ℕ) → size ≤ 16000 → ◌≡◌ {A = Result (List ℕ) Refusal} (Ok p) (cond (ltb 16000 size) (Err LongFile) (Ok q)) → p ≡ q
packet-is size p q h e =
    let short : ◌≡◌ {A = Result (List ℕ) Refusal} (cond (ltb 16000 size) (Err LongFile) (Ok q)) (Ok q) = cond-false (ltb 16000 size) _ _ (le-ltb 16000 size h) in
    cc

-- what finishing answered, by what is left of it once its refusal alone is kept
pub kept_ok : {T E F : Type 0} (before : Result T E) (r : Result T F) (P : E → Type 0) (x : T) → MatchResult before (λ y. r ≡ Ok y) P → is_ok r ≡ is_ok before
    → r ≡ Ok x → before ≡ Ok x
kept_ok (Ok y) r P x m e was = cc
kept_ok (Err y) r P x m e was = cc (ap is_ok was)

-- the packet that crossed alone is taken
pub taken_alone : (q : ℕ) (file p numbers now buffer : List ℕ) (k taken size released : ℕ) (after : Outcome) → length p ≡ 128 → p ≡ packet_of (spelling_of q) file k
    → now ≡ over numbers (p ++ []) → released ≡ 1 → 128 * released ≤ length now → FillsAll (spelling_of q) (take (128 * released) now) taken size buffer after
    → File file → 16000 ≤ length buffer → Filled (spelling_of q) file k taken size buffer → Took (spelling_of q) file (k + 1) after
taken_alone q file p numbers now buffer k taken size released after long is came one fits all carries enough filled =
    subst (λ (n : ℕ). Took (spelling_of q) file (k + n) after) one
    (fills_first now (take (128 * released) now) released fits refl (spelling_of q) file k taken size buffer after
    (λ i few.
    ap (λ (xs : List ℕ). take 128 (drop (128 * i) xs)) came ∙ first-packet p numbers long i released one few
    ∙ is ∙ ap (packet_of (spelling_of q) file) (let first : k ≡ k + i = omega arith in first))
    all carries enough filled)
