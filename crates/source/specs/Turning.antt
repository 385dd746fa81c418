-- A source whose slots end with 1 at its place, which takes each turn, keeps the laws of a source.
use Rattle.std.specs.Prelude.{◌≡◌, ℕ, zero, suc, ◌+◌, ◌%◌, ◌<◌, ◌≤◌, cond, ◌⊎◌, List, [], map, length, ◌==◌, nat_lt, slice_index, slice_index_or, refl}
use Rattle.std.proofs.Math.Logic.{inl}
use Rattle.std.proofs.Common.{inr, sym, ◌∙◌, mod-lt, mod-eq_of_lt, zero-add, arith}
use Rattle.std.proofs.Math.Path.{ap, subst}
use Rattle.std.proofs.Math.Nat.{mod-mod, mod_self}
use Rattle.std.proofs.Math.ListN.{get_or-eq_default}
use Rattle.std.proofs.lemmas.List.FromFn.{length-map-range_with_len, get_or-map-range_with_len}
use Rattle.std.proofs.lemmas.Bool.{cases_lt, eq-eqb, ne_eqb, le-ltb, cond-true, cond-false, cond_both}
use Rattle.algebra.proofs.Frames.{row-slot_zero}
use Rattle.algebra.proofs.Independence.{ends_apart_independent}
use Rattle.algebra.specs.Combinations.{Independent}
use Rattle.algebra.specs.Frames.{row_at}
use Rattle.source.specs.Source.{Draws, DrawsLaws, run, row}
use Rattle.source.specs.Turn.{place_at, moved, slot, ending}
use Rattle.source.specs.declared.turn.Turn.{Turn}

place_low : (t : Turn) (n : ℕ) → 1 ≤ n → place_at t n < n
place_low t n h = cond_both (t.width == n) (t.place % n) 0 (λ p. p < n) (λ _. mod-lt t.place h) (λ _. h)

place_moved : (t : Turn) (n : ℕ) → place_at (moved t n) n ≡ (place_at t n + 1) % n
place_moved t n = cond-true (n == n) ((place_at t n + 1) % n % n) 0 (eq-eqb n n refl) ∙ mod-mod (place_at t n + 1) n

-- the place goes up by 1, or from the last one to 0
place_next : (t : Turn) (n : ℕ) → 1 ≤ n → (place_at (moved t n) n ≡ place_at t n + 1) ⊎ ((place_at (moved t n) n ≡ 0) × (place_at t n + 1 ≡ n))
place_next t n h = go (cases_lt (place_at t n + 1) n)
  where
    go : (place_at t n + 1 < n) ⊎ (n ≤ place_at t n + 1) → (place_at (moved t n) n ≡ place_at t n + 1) ⊎ ((place_at (moved t n) n ≡ 0) × (place_at t n + 1 ≡ n))
    go (inl l) = inl (place_moved t n ∙ mod-eq_of_lt l)
    go (inr l) =
        let low = place_low t n h in
        let e : place_at t n + 1 ≡ n = omega arith in
        inr (place_moved t n ∙ ap (λ x. x % n) e ∙ mod_self n, e)

module _ (w p : ℕ) (f : ℕ → ℕ) where
  slot_at : (i : ℕ) → i < w → slice_index (ending w p f) i ≡ slot p f i
  unfolding ending
  slot_at i h = get_or-map-range_with_len (slot p f) 0 w i i 0 h (zero-add i)

  one_at : p < w → slice_index (ending w p f) p ≡ 1
  one_at h = slot_at p h ∙ cond-false (nat_lt p p) (f p) (cond (p == p) 1 0) (le-ltb p p (omega arith)) ∙ cond-true (p == p) 1 0 (eq-eqb p p refl)

  none_above : (i : ℕ) → p < i → slice_index (ending w p f) i ≡ 0
  unfolding ending
  none_above i h = go (cases_lt i w)
    where
      go : (i < w) ⊎ (w ≤ i) → slice_index (ending w p f) i ≡ 0
      go (inl l) = slot_at i l ∙ cond-false (nat_lt i p) (f i) (cond (i == p) 1 0) (le-ltb i p (omega arith)) ∙ cond-false (i == p) 1 0 (ne_eqb i p (omega arith))
      go (inr l) = get_or-eq_default (ending w p f) 0 {n = i} (omega (arith, length-map-range_with_len (slot p f) 0 w))

  codes_at : (q : ℕ) → 2 ≤ q → ((i : ℕ) → f i < q) → (i : ℕ) → slice_index (ending w p f) i < q
  unfolding ending
  codes_at q h below i = go (cases_lt i w)
    where
      go : (i < w) ⊎ (w ≤ i) → slice_index (ending w p f) i < q
      go (inl l) = subst (λ x. x < q) (sym (slot_at i l))
          (cond_both (nat_lt i p) (f i) (cond (i == p) 1 0) (λ x. x < q) (λ _. below i) (λ _. cond_both (i == p) 1 0 (λ x. x < q) (λ _. h) (λ _. omega arith)))
      go (inr l) = subst (λ x. x < q) (sym (get_or-eq_default (ending w p f) 0 {n = i} (omega (arith, length-map-range_with_len (slot p f) 0 w)))) (omega arith)

-- the state after i draws in a row
after : {S : Type 0} → Draws S → S → ℕ → ℕ → ℕ → S
after d x q n zero = x
after d x q n (suc i) = after d (d.next x q n) q n i

pub run_long : {S : Type 0} (d : Draws S) (x : S) (q n k : ℕ) → length (run d x q n k) ≡ k
unfolding run
run_long d x q n zero = refl
run_long d x q n (suc k) = ap suc (run_long d (d.next x q n) q n k)

run_at : {S : Type 0} (d : Draws S) (x : S) (q n k i : ℕ) → i < k → slice_index_or (run d x q n k) i [] ≡ d.slots (after d x q n i) q n
unfolding run after
run_at d x q n zero i h = absurd (omega arith)
run_at d x q n (suc k) zero h = refl
run_at d x q n (suc k) (suc i) h = run_at d (d.next x q n) q n k i (omega arith)

-- the row of some slots is their row from number 0 on
pub row_from_0 : row_at 0 ≡ row
row_from_0 = λ t slots k. row-slot_zero slots k t

module _ {S : Type 0} (w : ℕ) (turn : S → Turn) (f : S → ℕ → ℕ → ℕ) (next : S → ℕ → ℕ → S)
    (codes : (x : S) (q i : ℕ) → 2 ≤ q → f x q i < q) (moves : (x : S) (q n : ℕ) → turn (next x q n) ≡ moved (turn x) n) where
  abbrev draws : Draws S
  draws = record { slots = λ x q n. ending w (place_at (turn x) n) (f x q); next = next }

  module _ (q n : ℕ) (some : 1 ≤ n) where
    -- the place of the draw after i others
    abbrev at : S → ℕ → ℕ
    at x i = place_at (turn (after draws x q n i)) n

    at_low : (x : S) (i : ℕ) → at x i < n
    at_low x i = place_low (turn (after draws x q n i)) n some

    turned : (x : S) (i : ℕ) → i ≤ n → (at x i ≡ at x 0 + i) ⊎ (at x i + n ≡ at x 0 + i)
    unfolding after
    turned x zero l = inl (omega arith)
    turned x (suc i) l = go (turned (next x q n) i (omega arith)) (place_next (turn x) n some)
      where
        first : place_at (turn (next x q n)) n ≡ place_at (moved (turn x) n) n
        first = ap (λ t. place_at t n) (moves x q n)

        go : (at (next x q n) i ≡ at (next x q n) 0 + i) ⊎ (at (next x q n) i + n ≡ at (next x q n) 0 + i)
            → (place_at (moved (turn x) n) n ≡ place_at (turn x) n + 1) ⊎ ((place_at (moved (turn x) n) n ≡ 0) × (place_at (turn x) n + 1 ≡ n))
            → (at x (suc i) ≡ at x 0 + suc i) ⊎ (at x (suc i) + n ≡ at x 0 + suc i)
        go (inl e) (inl u) = inl (omega (arith, first))
        go (inr e) (inl u) = inr (omega (arith, first))
        go (inl e) (inr (u, v)) = inr (omega (arith, first))
        go (inr e) (inr (u, v)) = absurd (omega (arith, first))

    own : (x : S) (i j : ℕ) → i < n → j < n → at x i ≡ at x j → i ≡ j
    own x i j a b e = go (turned x i (omega arith)) (turned x j (omega arith))
      where
        go : (at x i ≡ at x 0 + i) ⊎ (at x i + n ≡ at x 0 + i) → (at x j ≡ at x 0 + j) ⊎ (at x j + n ≡ at x 0 + j) → i ≡ j
        go (inl u) (inl v) = omega arith
        go (inl u) (inr v) = omega arith
        go (inr u) (inl v) = omega arith
        go (inr u) (inr v) = omega arith

  pub turning_laws : DrawsLaws w draws
  unfolding ending
  turning_laws = record {
    long = λ x q n _ _ _. length-map-range_with_len (slot (place_at (turn x) n) (f x q)) 0 w;
    codes = λ x q n two _ _. codes_at w (place_at (turn x) n) (f x q) q two (λ i. codes x q i two);
    within = λ x q n _ some _ i l. none_above w (place_at (turn x) n) (f x q) i (let low = place_low (turn x) n some in omega arith);
    independent = λ m laws x n some most.
        let long = run_long draws x m.q n n in
        let low : (i : ℕ) → i < length (run draws x m.q n n) → i < n = λ i l. omega (arith, long) in
        subst (λ (f : List ℕ → ℕ → ℕ). Independent m (map f (run draws x m.q n n))) row_from_0
        (ends_apart_independent m laws (run draws x m.q n n) (at m.q n some x) n
        (λ i _. at_low m.q n some x i)
        (λ i j a b. own m.q n some x i j (low i a) (low j b))
        (λ i l. let s = after draws x m.q n i in
        ap (λ (xs : List ℕ). slice_index xs (at m.q n some x i)) (run_at draws x m.q n n i (low i l))
        ∙ one_at w (place_at (turn s) n) (f s m.q) (let below = at_low m.q n some x i in omega arith))
        (λ i k l h. let s = after draws x m.q n i in
        ap (λ (xs : List ℕ). slice_index xs k) (run_at draws x m.q n n i (low i l)) ∙ none_above w (place_at (turn s) n) (f s m.q) k h));
  }
