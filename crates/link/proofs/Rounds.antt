-- A script is read round and round.
use Rattle.std.proofs.Common.{◌≡◌, ℕ, zero, suc, ◌+◌, ◌-◌, ◌%◌, ◌<◌, ◌≤◌, true, cond, ltb, ◌⊎◌, List, length, map, get_or, drop, replicate, sym, ap, ◌∙◌, inl, inr, mod-lt, mod-eq_of_lt, add-one, arith, length-append, length-drop}
use native.Mathlib.Nat.{mod_self, mod-add-mod}
use Rattle.std.proofs.lemmas.List.{get_or_append_left, get_or-map, length-map, length-replicate}
use Rattle.std.proofs.lemmas.Bool.{cases_lt, lt-ltb, le-ltb, cond-true, cond-false}
use Rattle.link.specs.declared.letter.Letter.{Letter}
use Rattle.link.specs.declared.letter.Letter.TheVariants.{Lose}
use Rattle.link.specs.declared.script.Script.{Script}
use Rattle.link.specs.Script.{code_of, letter_at, all_known, letters_in, opened, letter_of, turned, after, Rounds}
use Rattle.link.proofs.Reading.{code-letter, known-at}

-- after the last place comes the first
next_place : (k n : ℕ) → 1 ≤ n → cond (ltb (k % n) (n - 1)) (k % n + 1) 0 ≡ suc k % n
next_place k n h = go (cases_lt (k % n) (n - 1)) ∙ mod-add-mod k n 1 ∙ ap (λ x. x % n) (add-one k)
  where
    go : (k % n < n - 1) ⊎ (n - 1 ≤ k % n) → cond (ltb (k % n) (n - 1)) (k % n + 1) 0 ≡ (k % n + 1) % n
    go (inl l) =
        let low : k % n + 1 < n = omega arith in
        cond-true (ltb (k % n) (n - 1)) (k % n + 1) 0 (lt-ltb (k % n) (n - 1) l) ∙ sym (mod-eq_of_lt low)
    go (inr l) =
        let last : k % n + 1 ≡ n = omega (arith, mod-lt k h) in
        cond-false (ltb (k % n) (n - 1)) (k % n + 1) 0 (le-ltb (k % n) (n - 1) l) ∙ sym (ap (λ x. x % n) last ∙ mod_self n)

module _ (room : ℕ) (cs : List ℕ) (some : 1 ≤ length cs) (few : length cs ≤ room) (all : all_known cs ≡ true) where
  letters : List Letter
  letters = letters_in room cs

  at : ℕ → Script
  at i = record { letters = letters; last = length cs - 1; at = i }

  after-at : (k : ℕ) → after k (opened room cs) ≡ at (k % length cs)
  unfolding after opened letters at
  after-at zero = ap at (sym (mod-eq_of_lt some))
  after-at (suc k) = ap turned (after-at k) ∙ ap at (next_place k (length cs) some)

  letters-long : length letters ≡ room
  unfolding letters
  letters-long = simp (length-append, length-map, length-drop, length-replicate) (omega arith)

  letter_is : (i : ℕ) → i < length cs → letter_of (at i) ≡ letter_at (get_or cs i 0)
  unfolding letters at
  letter_is i h =
      let low : i < length letters = omega (arith, letters-long) in
      let mapped : i < length (map letter_at cs) = omega (arith, length-map cs letter_at) in
      ap (λ p. get_or letters p Lose) (mod-eq_of_lt low)
      ∙ get_or_append_left (map letter_at cs) (drop (length cs) (replicate room Lose)) Lose i mapped
      ∙ get_or-map letter_at cs i 0 Lose h

  pub rounds : Rounds cs (opened room cs)
  rounds k =
      let low = mod-lt k some in
      ap (λ s. code_of (letter_of s)) (after-at k)
      ∙ ap code_of (letter_is (k % length cs) low)
      ∙ code-letter (get_or cs (k % length cs) 0) (known-at cs (k % length cs) all low)
