-- The powers of 2 in the field of bytes: the two tables of the code hold them and their logarithms, and by these the
-- products and the inverses are the field's.
use Rattle.std.proofs.Common.{◌≡◌, ℕ, zero, suc, ◌+◌, ◌-◌, ◌*◌, ◌/◌, ◌%◌, ◌<◌, Bool, true, false, ◌||◌, T, eqb, ltb, List, [], ◌∷◌, length, get_or, set, replicate, sym, refl, ap, ◌∙◌, subst, le_of_suc-le-suc, not-suc-le-zero, add-zero, add-suc, suc-add, div-add-mod', zero-add, arith, lit<, eqb→eq, ltb→lt}
use Rattle.std.proofs.lemmas.Bool.{ne_eqb}
use Rattle.field.specs.OfBytes.{product, powers, squares}
use Rattle.field.specs.Linear.{linear_zero}
use Rattle.field.specs.Upto.{both, both_left, both_right}
use Rattle.field.specs.BytesLaws.{bytes_laws, product_left, product_right, product_comm, product-one, product_assoc, product-below}

pub one_product : (a : ℕ) → a < 256 → product 1 a ≡ a
one_product a h = product_comm 1 a (lit< tt) h ∙ product-one a h

pub powers-below : (k : ℕ) → powers k < 256
unfolding powers
powers-below zero = lit< tt
powers-below (suc k) = product-below 2 (powers k) (lit< tt) (powers-below k)

pub powers-add : (i j : ℕ) → product (powers i) (powers j) ≡ powers (i + j)
unfolding powers
powers-add zero j = one_product (powers j) (powers-below j) ∙ sym (ap powers (zero-add j))
powers-add (suc i) j =
    product_assoc 2 (powers i) (powers j) (lit< tt) (powers-below i) (powers-below j)
    ∙ ap (product 2) (powers-add i j)
    ∙ sym (ap powers (suc-add i j))

pub powers-round : powers 255 ≡ 1
unfolding product powers
powers-round = refl

rounds : (n k : ℕ) → powers (n * 255 + k) ≡ powers k
rounds zero k = ap powers (omega arith)
rounds (suc n) k =
    let e : suc n * 255 + k ≡ 255 + (n * 255 + k) = omega arith in
    ap powers e ∙ sym (powers-add 255 (n * 255 + k)) ∙ ap (λ (x : ℕ). product x (powers (n * 255 + k))) powers-round
    ∙ one_product _ (powers-below _) ∙ rounds n k

pub powers-mod : (k : ℕ) → powers (k % 255) ≡ powers k
powers-mod k = sym (ap powers (sym (div-add-mod' k 255)) ∙ rounds (k / 255) (k % 255))

-- n powers in a row, from p
abbrev pub chain : ℕ → ℕ → List ℕ
chain zero p = []
chain (suc n) p = p ∷ chain n (product 2 p)

chain-from : (n j k : ℕ) → k < n → get_or (chain n (powers j)) k 0 ≡ powers (j + k)
unfolding powers
chain-from zero j k h = absurd (not-suc-le-zero h)
chain-from (suc n) j zero h = sym (ap powers (add-zero j))
chain-from (suc n) j (suc k) h = chain-from n (suc j) k (le_of_suc-le-suc h) ∙ ap powers (suc-add j k ∙ sym (add-suc j k))

pub chain-at : (n k : ℕ) → k < n → get_or (chain n 1) k 0 ≡ powers k
unfolding powers
chain-at n k h = chain-from n 0 k h ∙ ap powers (zero-add k)

-- n logarithms more, from k on, each set at its power, the first of which is p
abbrev pub placed : ℕ → ℕ → ℕ → List ℕ → List ℕ
placed zero k p table = table
placed (suc n) k p table = placed n (suc k) (product 2 p) (set table p k)

-- the table of logarithms
abbrev pub logarithms : List ℕ
logarithms = placed 255 0 1 (replicate 256 0)

or_false_left : (a b : Bool) → a ≡ false → T (a || b) → T b
or_false_left a b e t = subst (λ (x : Bool). T (x || b)) e t

-- Each entry x of a list, at the place a, counted from i: a is 0, or x is below 255 and the power x is a; ps is the list of the powers.
abbrev pub logs : List ℕ → ℕ → List ℕ → Bool
logs ps i [] = true
logs ps i (x ∷ xs) = both (eqb i 0 || both (ltb x 255) (eqb (get_or ps x 0) i)) (logs ps (suc i) xs)

logs-from : (i : ℕ) (xs : List ℕ) → T (logs (chain 255 1) i xs) → (k : ℕ) → 0 < i + k → k < length xs → (get_or xs k 0 < 255) × (powers (get_or xs k 0) ≡ i + k)
logs-from i [] t k p h = absurd (not-suc-le-zero h)
logs-from i (x ∷ xs) t zero p h =
    let here = both_left _ (logs (chain 255 1) (suc i) xs) t in
    let is = or_false_left _ _ (ne_eqb i 0 (λ z. omega arith)) here in
    let low : x < 255 = ltb→lt x 255 (both_left _ (eqb (get_or (chain 255 1) x 0) i) is) in
    (low, sym (chain-at 255 x low) ∙ eqb→eq _ _ (both_right (ltb x 255) _ is) ∙ sym (add-zero i))
logs-from i (x ∷ xs) t (suc k) p h =
    let rest = logs-from (suc i) xs (both_right (eqb i 0 || both (ltb x 255) (eqb (get_or (chain 255 1) x 0) i)) _ t) k (omega arith) (le_of_suc-le-suc h) in
    (rest.0, rest.1 ∙ suc-add i k ∙ sym (add-suc i k))

pub logs_at : (xs : List ℕ) → T (logs (chain 255 1) 0 xs) → (a : ℕ) → 0 < a → a < length xs → (get_or xs a 0 < 255) × (powers (get_or xs a 0) ≡ a)
logs_at xs t a p h =
    let it = logs-from 0 xs t a (omega arith) h in
    (it.0, it.1 ∙ zero-add a)

pub product_zero_left : (b : ℕ) → product 0 b ≡ 0
product_zero_left b = linear_zero (λ a. product a b) (product_left b)

pub product_zero_right : (a : ℕ) → product a 0 ≡ 0
product_zero_right a = linear_zero (product a) (product_right a)

-- the product by the tables
pub by_logs : (a b i j r : ℕ) → powers i ≡ a → powers j ≡ b → r ≡ powers ((i + j) % 255) → r ≡ product a b
by_logs a b i j r ei ej e =
    e ∙ powers-mod (i + j) ∙ sym (powers-add i j) ∙ ap (λ (x : ℕ). product x (powers j)) ei ∙ ap (product a) ej

-- what is the inverse of a by the law is the only one
pub only-inverse : (a x y : ℕ) → a < 256 → x < 256 → y < 256 → product a x ≡ 1 → product a y ≡ 1 → x ≡ y
only-inverse a x y ha hx hy ex ey =
    sym (product-one x hx) ∙ ap (product x) (sym ey) ∙ sym (product_assoc x a y hx ha hy)
    ∙ ap (λ (z : ℕ). product z y) (product_comm x a hx ha ∙ ex) ∙ one_product y hy

pub inverse_by_logs : (a i r : ℕ) → 0 < a → a < 256 → i < 255 → powers i ≡ a → r ≡ powers ((255 - i) % 255) → r ≡ squares 7 a
inverse_by_logs a i r pos h hi ei e =
    let rl : r ≡ powers (255 - i) = e ∙ powers-mod (255 - i) in
    let sum : i + (255 - i) ≡ 255 = omega arith in
    only-inverse a r (squares 7 a) h (subst (λ (x : ℕ). x < 256) (sym rl) (powers-below (255 - i))) (bytes_laws.inv_below a pos h)
    (ap (λ (x : ℕ). product x r) (sym ei) ∙ ap (product (powers i)) rl ∙ powers-add i (255 - i) ∙ ap powers sum ∙ powers-round)
    (bytes_laws.mul_inv a pos h)
