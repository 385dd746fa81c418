-- A script is read byte by byte into letters.
use Rattle.std.proofs.Common.{◌≡◌, ℕ, zero, suc, ◌+◌, ◌-◌, ◌<◌, ◌≤◌, true, false, Bool, cond, ◌&&◌, ◌||◌, eqb, List, [], ◌∷◌, ◌++◌, length, map, get_or, set, take, drop, replicate, Ok, Err, sym, refl, ap, ap₂, ◌∙◌, inl, inr, le_of_suc-le-suc, not-suc-le-zero, arith, length-drop, take_all}
use Rattle.std.proofs.lemmas.List.{at_drop_more, at_drop_all, map_more, take_more_set, drop-set-lt, take-append-drop, length-replicate}
use Rattle.std.proofs.lemmas.Grind.{drop_more_same}
use Rattle.std.proofs.lemmas.Bool.{and_parts, or_cases, both_ways, cond_both, eqb-true, eqb-false, le-leb}
use Rattle.refusal.specs.declared.Refusal.TheVariants.{BadScript}
use Rattle.link.specs.declared.letter.Letter.{Letter}
use Rattle.link.specs.declared.letter.Letter.TheVariants.{Keep, Lose, Double, Hold}
use Rattle.link.specs.Script.{keep, lose, double, hold, code_of, letter_at, known, read_letter, all_known, proper, letters_in}

-- which side holds, where the other does not
either : (x y : Bool) → (x || y) ≡ true → x ≡ false → y ≡ true
either x y e un = sym (ap (λ b. b || y) un) ∙ e

-- one of the four letters is written as the byte that it was read from
pub code-letter : (c : ℕ) → known c ≡ true → code_of (letter_at c) ≡ c
code-letter c e =
    cond_both (eqb c keep) Keep _ Right (λ k. sym (eqb-true c keep k))
    (λ k. cond_both (eqb c double) Double _ Right (λ d. sym (eqb-true c double d))
    (λ d. cond_both (eqb c hold) Hold Lose Right (λ h. sym (eqb-true c hold h)) (λ h. sym (eqb-true c lose (last k d h)))))
  where
    Right : Letter → Type 0
    Right l = code_of l ≡ c

    last : eqb c keep ≡ false → eqb c double ≡ false → eqb c hold ≡ false → eqb c lose ≡ true
    last k d h = only (either _ _ e k)
      where
        only : (eqb c lose || (eqb c double || eqb c hold)) ≡ true → eqb c lose ≡ true
        only t = elim (or_cases _ _ t) [ inl l ↦ l | inr r ↦ absurd (both_ways _ h (either _ _ r d)) ]

pub known-at : (cs : List ℕ) (i : ℕ) → all_known cs ≡ true → i < length cs → known (get_or cs i 0) ≡ true
known-at [] i e h = absurd (not-suc-le-zero h)
known-at (c ∷ cs) zero e h = (and_parts (known c) (all_known cs) e).0
known-at (c ∷ cs) (suc i) e h = known-at cs i (and_parts (known c) (all_known cs) e).1 (le_of_suc-le-suc h)

module _ (cs : List ℕ) (i : ℕ) (left : all_known (drop i cs) ≡ all_known cs) where
  -- a byte that is read is one of the four
  read : (l : Letter) → Ok l ≡ read_letter (get_or cs i 0) → (known (get_or cs i 0) ≡ true) × (l ≡ letter_at (get_or cs i 0))
  read l = go (known (get_or cs i 0)) refl
    where
      c : ℕ
      c = get_or cs i 0

      go : (b : Bool) → known c ≡ b → Ok l ≡ cond b (Ok (letter_at c)) (Err BadScript) → (known c ≡ true) × (l ≡ letter_at c)
      go true k e = (k, cc)
      go false k e = absurd (let z : ◌≡◌ {A = ℕ} 0 1 = cc in omega arith)

  module _ (room : ℕ) (letters : List Letter) (so_far : take i letters ≡ map letter_at (take i cs)) (behind : drop i letters ≡ drop i (replicate room Lose)) where
    -- one more letter
    pub reads_on : (l : Letter) → Ok l ≡ read_letter (get_or cs i 0) → i < length cs → length cs ≤ room
        → (take (i + 1) (set letters i l) ≡ map letter_at (take (i + 1) cs))
        × (drop (i + 1) (set letters i l) ≡ drop (i + 1) (replicate room Lose))
        × (all_known (drop (i + 1) cs) ≡ all_known cs)
    reads_on l e h few =
        let known_letter = read l e in
        let rest : length letters - i ≡ length (replicate room Lose) - i = sym (length-drop i letters) ∙ ap length behind ∙ length-drop i (replicate room Lose) in
        let fits : i < length letters = omega (arith, rest, length-replicate room Lose) in (
          take_more_set letters i l fits
              ∙ ap₂ (λ xs x. xs ++ x ∷ []) so_far known_letter.1
              ∙ sym (map_more letter_at cs i 0 h),
          drop-set-lt (i + 1) letters i l (omega arith) ∙ drop_more_same letters (replicate room Lose) i behind,
          sym (ap (λ b. b && all_known (drop (i + 1) cs)) known_letter.0) ∙ sym (at_drop_more all_known cs i 0 h) ∙ left,
        )

    -- all of them
    pub all_read : i ≡ length cs → letters ≡ letters_in room cs
    all_read e =
        sym (take-append-drop i letters)
        ∙ ap₂ ◌++◌ (so_far ∙ ap (map letter_at) (take_all i cs (omega arith))) (behind ∙ ap (λ n. drop n (replicate room Lose)) e)

  pub all_known-read : length cs ≤ i → all_known cs ≡ true
  all_known-read h = sym left ∙ at_drop_all all_known cs i h

pub not-empty : (cs : List ℕ) → eqb (length cs) 0 ≡ false → 1 ≤ length cs
not-empty cs e = omega (arith, eqb-false (length cs) 0 e)

pub proper-script : (room : ℕ) (cs : List ℕ) → 1 ≤ length cs → length cs ≤ room → all_known cs ≡ true → proper room cs ≡ true
proper-script room cs some few all = ap₂ ◌&&◌ (le-leb 1 (length cs) some) (ap₂ ◌&&◌ (le-leb (length cs) room few) all)
