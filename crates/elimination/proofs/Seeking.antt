-- What a search finds.
use Rattle.std.proofs.Common.{◌≡◌, ℕ, zero, suc, ◌+◌, ◌<◌, ◌≤◌, Bool, true, false, cond, ◌⊎◌, MatchOption, Some, None, Option, sym, refl, ap, subst, inl, inr, ⊎_elim, arith}
use Rattle.std.proofs.lemmas.Bool.{cases_eq}
use Rattle.elimination.specs.Loops.{seek}

-- k is the first of n numbers from a on that passes
pub record Found (p : ℕ → Bool) (a n k : ℕ) : Type 0 where
  pub passes : p k ≡ true
  pub within : k < a + n
  pub first : (d : ℕ) → a ≤ d → d < k → p d ≡ false

cond_some : (b : Bool) (a k : ℕ) (o : Option ℕ) → cond b (Some a) o ≡ Some k → ((b ≡ true) × (a ≡ k)) ⊎ ((b ≡ false) × (o ≡ Some k))
cond_some true a k o e = inl (refl, cc)
cond_some false a k o e = inr (refl, e)

pub found : (p : ℕ → Bool) (a n k : ℕ) → seek p a n ≡ Some k → Found p a n k
unfolding seek
found p a zero k e = let z : ◌≡◌ {A = ℕ} 0 1 = cc in absurd (omega arith)
found p a (suc n) k e =
    ⊎_elim
    (λ h. record { passes = subst (λ j. p j ≡ true) h.1 h.0; within = omega (arith, h.1); first = λ d l g. absurd (omega (arith, h.1)) })
    (λ h. let r : Found p (a + 1) n k = found p (a + 1) n k h.1 in record {
      passes = r.passes;
      within = omega (arith, r.within);
      first = λ d l g. ⊎_elim (λ q. subst (λ j. p j ≡ false) (sym q) h.0) (λ ne. r.first d (omega arith) g) (cases_eq d a);
    })
    (cond_some (p a) a k (seek p (a + 1) n) e)

cond_none : (b : Bool) (a : ℕ) (o : Option ℕ) → cond b (Some a) o ≡ None → (b ≡ false) × (o ≡ None)
cond_none true a o e = let z : ◌≡◌ {A = ℕ} 0 1 = cc in absurd (omega arith)
cond_none false a o e = (refl, e)

-- where it finds none, none of them passes
pub absent : (p : ℕ → Bool) (a n : ℕ) → seek p a n ≡ None → (d : ℕ) → a ≤ d → d < a + n → p d ≡ false
unfolding seek
absent p a zero e d l h = absurd (omega arith)
absent p a (suc n) e d l h =
    let r = cond_none (p a) a (seek p (a + 1) n) e in
    ⊎_elim (λ q. subst (λ j. p j ≡ false) (sym q) r.0) (λ ne. absent p (a + 1) n r.1 d (omega arith) (omega arith)) (cases_eq d a)

-- an answer that says so is the search's: none passes, or the first that does
pub seek_from : (p : ℕ → Bool) (a n e : ℕ) → a + n ≡ e → (o : Option ℕ) → MatchOption o ((k : ℕ) → a ≤ k → k < e → p k ≡ false) (λ i. (a ≤ i) × (i < e) × (p i ≡ true) × ((k : ℕ) → a ≤ k → k < i → p k ≡ false)) → o ≡ seek p a n
unfolding seek
seek_from p a zero e end None h = refl
seek_from p a zero e end (Some i) h = absurd (let l = h.0 in let m = h.1 in omega arith)
seek_from p a (suc n) e end None h =
    let miss : p a ≡ false = h a (omega arith) (omega arith) in
    rw miss (seek_from p (a + 1) n e (omega arith) None (λ k l m. h k (omega arith) m))
seek_from p a (suc n) e end (Some i) h =
    ⊎_elim
    (λ q. let hit : p a ≡ true = subst (λ j. p j ≡ true) q h.2 in rw hit (ap Some q))
    (λ ne.
    let l = h.0 in
    let miss : p a ≡ false = h.3 a (omega arith) (omega arith) in
    rw miss (seek_from p (a + 1) n e (omega arith) (Some i) (omega arith, h.1, h.2, λ k f g. h.3 k (omega arith) g)))
    (cases_eq i a)
