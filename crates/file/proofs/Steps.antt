-- The cases of taking and adding a packet.
use Rattle.std.proofs.Common.{◌≡◌, ℕ, zero, suc, ◌+◌, ◌*◌, ◌<◌, ◌≤◌, Bool, true, false, cond, ◌&&◌, eqb, ltb, List, length, Ok, Err, Result, Decides, refl, ap, ◌∙◌, arith}
use Rattle.refusal.specs.declared.Refusal.{Refusal}
use Rattle.refusal.specs.declared.Refusal.TheVariants.{ShortBuffer, BadPacket, NotAByte, LongRecord}
use Rattle.std.proofs.lemmas.Bool.{and_from, cond-true, cond-false, eq-eqb, ne_eqb, leb-false, le-ltb, lt-leb, lt-ltb, not_from_true, not_from_false}
use Rattle.std.proofs.lemmas.Bool.Decides.{Decides-ltb}
use Rattle.std.proofs.ByRecursion.{Decides-by_and}
use Rattle.std.specs.Int.Digits.{AllBelowBase}
use Rattle.file.specs.declared.spelling.Spelling.{Spelling}
use Rattle.file.specs.declared.spelling.Spelling.TheVariants.{Bits, Bytes}
use Rattle.field.specs.Lists.{below}
use Rattle.file.specs.Filling.{Outcome, adding, buffer_with, checked, complete, length_in, size_with_packet, taking}
use Rattle.file.specs.Spelling.{base, room, spelling_of}

-- the test of each number, as a fact
decided : (limit : ℕ) (xs : List ℕ) → Decides (below limit xs) (AllBelowBase limit xs)
decided limit = Decides-by_and (λ x. ltb x limit) (λ x. x < limit) (below limit) (λ x. Decides-ltb x limit) refl (λ _ _. refl)

pub under : (limit : ℕ) (xs : List ℕ) → below limit xs ≡ true → AllBelowBase limit xs
under limit xs = (decided limit xs).0

pub under_below : (limit : ℕ) (xs : List ℕ) → AllBelowBase limit xs → below limit xs ≡ true
under_below limit xs = (decided limit xs).1

-- while bytes are lacking, the packets taken end before the file
pub lacks : (s : Spelling) (taken size : ℕ) → complete s taken size ≡ false → room s * taken < 4 + size
unfolding complete
lacks s taken size e = leb-false (4 + size) (room s * taken) e

-- and so they are few
pub few : (s : Spelling) → (taken size : ℕ) → complete s taken size ≡ false → 16 * taken < 4 + size
unfolding complete
few Bits taken size e = omega (arith, leb-false (4 + size) (16 * taken) e)
few Bytes taken size e = omega (arith, leb-false (4 + size) (128 * taken) e)

module _ (s : Spelling) (taken size : ℕ) (packet : List ℕ) where
  pub size-first : taken ≡ 0 → size_with_packet s taken size packet ≡ length_in s packet
  unfolding size_with_packet
  size-first e = cond-true _ _ _ (eq-eqb taken 0 e)

  pub size_later : (taken ≡ 0 → ⊥) → size_with_packet s taken size packet ≡ size
  unfolding size_with_packet
  size_later ne = cond-false _ _ _ (ne_eqb taken 0 ne)

-- the length that a packet tells leaves the file as far from complete
pub still_lacks : (s : Spelling) (taken size : ℕ) (packet : List ℕ) → complete s taken size ≡ false → complete s taken (size_with_packet s taken size packet) ≡ false
unfolding complete
still_lacks s zero size packet e =
    let none : room s * 0 ≡ 0 = omega arith in
    lt-leb (4 + size_with_packet s 0 size packet) (room s * 0) (omega arith)
still_lacks s (suc n) size packet e = ap (λ (m : ℕ). complete s (suc n) m) (size_later s (suc n) size packet (λ z. omega arith)) ∙ e

module _ (s : Spelling) (taken size : ℕ) (packet buffer : List ℕ) where
  pub takes_none : complete s taken size ≡ true → taking s taken size packet buffer ≡ (Ok tt, taken, size, buffer)
  unfolding taking
  takes_none e = cond-true _ _ _ e

  pub takes-long : complete s taken size ≡ false → 16000 < size_with_packet s taken size packet → taking s taken size packet buffer ≡ (Err LongRecord, taken, size, buffer)
  unfolding taking
  takes-long e h = cond-false _ _ _ e ∙ cond-true _ _ _ (lt-ltb _ _ h)

  pub takes_one : complete s taken size ≡ false → (n : ℕ) → size_with_packet s taken size packet ≡ n → n ≤ 16000 → taking s taken size packet buffer ≡ (Ok tt, taken + 1, n, buffer_with s taken n packet buffer)
  unfolding taking
  takes_one e n is h =
      cond-false _ _ _ e ∙ cond-false _ _ _ (le-ltb 16000 (size_with_packet s taken size packet) (omega arith))
      ∙ ap (λ (m : ℕ). (Ok tt, taken + 1, m, buffer_with s taken m packet buffer)) is

module _ (q taken size : ℕ) (packet buffer : List ℕ) where
  pub adds_short : length buffer < 16000 → adding q taken size packet buffer ≡ (Err ShortBuffer, taken, size, buffer)
  unfolding adding
  adds_short h = cond-true _ _ _ (lt-ltb _ _ h)

  -- a refusal of the check is the answer, and else what follows
  abbrev unless_refused : Outcome → Result (Unit {0}) Refusal → Outcome
  unless_refused after (Ok _) = after
  unless_refused after (Err why) = (Err why, taken, size, buffer)

  by_check : (a b : Bool) (after : Outcome)
      → cond a (Err BadPacket, taken, size, buffer) (cond b (Err NotAByte, taken, size, buffer) after) ≡ unless_refused after (cond a (Err BadPacket) (cond b (Err NotAByte) (Ok tt)))
  by_check true b after = refl
  by_check false true after = refl
  by_check false false after = refl

  checks : 16000 ≤ length buffer → adding q taken size packet buffer ≡ unless_refused (taking (spelling_of q) taken size packet buffer) (checked q packet)
  unfolding adding checked
  checks h = cond-false _ _ _ (le-ltb _ _ h) ∙ by_check _ _ (taking (spelling_of q) taken size packet buffer)

  pub adds_refused : 16000 ≤ length buffer → (why : Refusal) → checked q packet ≡ Err why → adding q taken size packet buffer ≡ (Err why, taken, size, buffer)
  adds_refused h why e = checks h ∙ ap (unless_refused (taking (spelling_of q) taken size packet buffer)) e

  pub adds_bytes : 16000 ≤ length buffer → checked q packet ≡ Ok tt → adding q taken size packet buffer ≡ taking (spelling_of q) taken size packet buffer
  adds_bytes h e = checks h ∙ ap (unless_refused (taking (spelling_of q) taken size packet buffer)) e

module _ (q : ℕ) (packet : List ℕ) where
  pub checked_bad : (eqb (length packet) 128 && below q packet) ≡ false → checked q packet ≡ Err BadPacket
  unfolding checked
  checked_bad e = cond-true _ _ _ (not_from_false _ e)

  pub checked_no_byte : length packet ≡ 128 → below q packet ≡ true → below (base (spelling_of q)) packet ≡ false → checked q packet ≡ Err NotAByte
  unfolding checked
  checked_no_byte l e b = cond-false _ _ _ (not_from_true _ (and_from _ _ (eq-eqb _ _ l) e)) ∙ cond-true _ _ _ (not_from_false _ b)

  pub checked_bytes : length packet ≡ 128 → below q packet ≡ true → below (base (spelling_of q)) packet ≡ true → checked q packet ≡ Ok tt
  unfolding checked
  checked_bytes l e b = cond-false _ _ _ (not_from_true _ (and_from _ _ (eq-eqb _ _ l) e)) ∙ cond-false _ _ _ (not_from_true _ b)
