-- A ring of w places, where the number k has the place k % w: of any w numbers in a row, each has a place of its own.
use Rattle.std.proofs.Common.{◌≡◌, ℕ, suc, ◌+◌, ◌*◌, ◌/◌, ◌%◌, ◌<◌, ◌≤◌, ◌≢◌, ◌⊎◌, sym, ◌∙◌, inl, inr, mod-lt, mod-eq_of_lt, mul-le-mul_left, mul-suc, arith}
use mathlib.Core.Logic.{ite, if_pos, if_neg}
use native.Mathlib.Decide.{dec_le, dec_lt}
use native.Mathlib.Nat.{add-mul-mod_self_left, div-add-mod}

-- whether k is one of the w numbers from r on
abbrev pub Side : ℕ → ℕ → ℕ → Type 0
Side w r k = ((r ≤ k) × (k < r + w)) ⊎ ((k < r) ⊎ (r + w ≤ k))

pub side : (w r k : ℕ) → Side w r k
side w r k = go (dec_le r k) (dec_lt k (r + w))
  where
    go : Dec (r ≤ k) → Dec (k < r + w) → Side w r k
    go (yes l) (yes h) = inl (l, h)
    go (no l) _ = inr (inl (omega arith))
    go (yes l) (no h) = inr (inr (omega arith))

-- a where k is one of the w numbers from r on, and d elsewhere
pub inside : {A : Type 0} → ℕ → ℕ → ℕ → A → A → A
inside w r k a d = ite (dec_le r k) (ite (dec_lt k (r + w)) a d) d

module _ {A : Type 0} (w r k : ℕ) (a d : A) where
  pub inside_in : r ≤ k → k < r + w → inside w r k a d ≡ a
  unfolding inside
  inside_in l h = if_pos (dec_le r k) l (ite (dec_lt k (r + w)) a d) d ∙ if_pos (dec_lt k (r + w)) h a d

  pub inside_out : (k < r) ⊎ (r + w ≤ k) → inside w r k a d ≡ d
  unfolding inside
  inside_out (inl l) = if_neg (dec_le r k) (omega arith) (ite (dec_lt k (r + w)) a d) d
  inside_out (inr l) = if_pos (dec_le r k) (omega arith) (ite (dec_lt k (r + w)) a d) d ∙ if_neg (dec_lt k (r + w)) (omega arith) a d

-- a number that is larger by less than w has another place
shifted : (w k p : ℕ) → k < p → p < k + w → k % w ≢ p % w
shifted w k p l h e = go (dec_le (p / w) (k / w))
  where
    go : Dec (p / w ≤ k / w) → ⊥
    go (yes b) = omega (arith, mul-le-mul_left w b, div-add-mod k w, div-add-mod p w)
    go (no b) =
        let c : suc (k / w) ≤ p / w = omega arith in
        omega (arith, mul-le-mul_left w c, mul-suc w (k / w), div-add-mod k w, div-add-mod p w)

pub apart : (w r k p : ℕ) → r ≤ k → k < r + w → r ≤ p → p < r + w → k ≢ p → k % w ≢ p % w
apart w r k p a b c d ne = go (dec_lt k p)
  where
    go : Dec (k < p) → k % w ≢ p % w
    go (yes l) e = shifted w k p l (omega arith) e
    go (no l) e = shifted w p k (omega arith) (omega arith) (sym e)

-- each place is that of one of the w numbers from r on
pub at_place : (w r i : ℕ) → i < w → (k : ℕ) × (r ≤ k) × (k < r + w) × (k % w ≡ i)
at_place w r i l = go (dec_le (r % w) i)
  where
    place : (a : ℕ) → (i + w * a) % w ≡ i
    place a = add-mul-mod_self_left i w a ∙ mod-eq_of_lt l

    go : Dec (r % w ≤ i) → (k : ℕ) × (r ≤ k) × (k < r + w) × (k % w ≡ i)
    go (yes h) = (i + w * (r / w), omega (arith, div-add-mod r w), omega (arith, div-add-mod r w), place (r / w))
    go (no h) =
        let low : r % w < w = mod-lt r (omega arith) in (
          i + w * suc (r / w),
          omega (arith, div-add-mod r w, mul-suc w (r / w), low),
          omega (arith, div-add-mod r w, mul-suc w (r / w)),
          place (suc (r / w)),
        )
