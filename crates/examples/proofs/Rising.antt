-- Lists of numbers in rising order: those with the same members are equal.
use Rattle.std.proofs.Common.{◌≡◌, ℕ, suc, ◌<◌, ◌⊎◌, List, [], ◌∷◌, length, get_or, sym, refl, inl, inr, arith}
use mathlib.Core.List.Memᴰ
use mathlib.Core.List.{Memᴰ}

abbrev pub Rises : List ℕ → Type 0
Rises xs = (i j : ℕ) → i < j → j < length xs → get_or xs i 0 < get_or xs j 0

rises_rest : (x : ℕ) (xs : List ℕ) → Rises (x ∷ xs) → Rises xs
rises_rest x xs r i j l h = r (suc i) (suc j) (omega arith) (omega arith)

-- every later number is above the first
above : (x : ℕ) (xs : List ℕ) → Rises (x ∷ xs) → (v : ℕ) → Memᴰ v xs → x < v
above x [] r v i = absurd (Memᴰ.not-nil i)
above x (y ∷ ys) r v i = go (Memᴰ.cases_cons i) (r 0 1 (omega arith) (omega arith)) (above y ys (rises_rest x (y ∷ ys) r) v)
  where
    go : (v ≡ y) ⊎ Memᴰ v ys → x < y → (Memᴰ v ys → y < v) → x < v
    go (inl e) l next = omega arith
    go (inr j) l next = let u = next j in omega arith

pub same_members : (xs ys : List ℕ) → Rises xs → Rises ys
    → ((v : ℕ) → Memᴰ v xs → Memᴰ v ys) → ((v : ℕ) → Memᴰ v ys → Memᴰ v xs) → xs ≡ ys
same_members [] [] r s to back = refl
same_members [] (y ∷ ys) r s to back = absurd (Memᴰ.not-nil (back y (Memᴰ.head refl)))
same_members (x ∷ xs) [] r s to back = absurd (Memᴰ.not-nil (to x (Memᴰ.head refl)))
same_members (x ∷ xs) (y ∷ ys) r s to back =
    λ i. first i ∷ same_members xs ys (rises_rest x xs r) (rises_rest y ys s)
    (λ v j. rest y ys v (above x xs r v j) first (Memᴰ.cases_cons (to v (Memᴰ.tail j))))
    (λ v j. rest x xs v (above y ys s v j) (sym first) (Memᴰ.cases_cons (back v (Memᴰ.tail j)))) i
  where
    heads : (x ≡ y) ⊎ Memᴰ x ys → (y ≡ x) ⊎ Memᴰ y xs → x ≡ y
    heads (inl e) b = e
    heads (inr i) (inl e) = sym e
    heads (inr i) (inr j) = absurd (let u = above y ys s x i in let v = above x xs r y j in omega arith)

    first : x ≡ y
    first = heads (Memᴰ.cases_cons (to x (Memᴰ.head refl))) (Memᴰ.cases_cons (back y (Memᴰ.head refl)))

    rest : {a : ℕ} (b : ℕ) (bs : List ℕ) (v : ℕ) → a < v → a ≡ b → (v ≡ b) ⊎ Memᴰ v bs → Memᴰ v bs
    rest b bs v l e (inl h) = absurd (omega arith)
    rest b bs v l e (inr j) = j
