-- What is left of a capture, frame by frame.
use Rattle.std.proofs.Common.{◌≡◌, ℕ, zero, suc, ◌+◌, ◌-◌, ◌*◌, ◌/◌, ◌%◌, ◌<◌, ◌≤◌, cond, leb, List, [], ◌∷◌, ◌++◌, map, length, get_or, take, drop, Ok, Err, sym, refl, ap, ap₂, ◌∙◌, not-suc-le-zero, arith, length-append, length-drop}
use Rattle.std.proofs.lemmas.Bool.{cond-true, cond-false, le-leb, lt-leb}
use Rattle.std.proofs.lemmas.List.{take_at, take_rest, drop_at}
use Rattle.std.proofs.lemmas.Nat.{div-add-mod'}
use Rattle.capture.specs.Frames.{frames, captured, laid}

-- more turns than bytes give no more frames
enough : (m n : ℕ) (bs : List ℕ) → length bs ≤ m → length bs ≤ n → frames m bs ≡ frames n bs
enough zero zero bs p q = refl
enough zero (suc n) [] p q = refl
enough zero (suc n) (b ∷ bs) p q = absurd (not-suc-le-zero p)
enough (suc m) zero [] p q = refl
enough (suc m) zero (b ∷ bs) p q = absurd (not-suc-le-zero q)
enough (suc m) (suc n) [] p q = refl
enough (suc m) (suc n) (b ∷ []) p q = refl
enough (suc m) (suc n) (high ∷ (low ∷ bs)) p q =
    let k = 256 * high + low in
    let more : frames m (drop k bs) ≡ frames n (drop k bs) = enough m n (drop k bs) (omega (arith, length-drop k bs)) (omega (arith, length-drop k bs)) in
    ap (λ fs. cond (leb k (length bs)) (Ok (take k bs) ∷ fs) (Err (record {}) ∷ [])) more

pub ends : (bs : List ℕ) → length bs < 2 → captured bs ≡ []
unfolding captured
ends [] h = refl
ends (b ∷ []) h = refl
ends (b ∷ (b' ∷ bs)) h = absurd (omega arith)

-- what lies behind a length
abbrev tail : List ℕ → List ℕ
tail bs = take (length bs - 2) (drop 2 bs)

pub cuts : (bs : List ℕ) (k : ℕ) → 2 ≤ length bs → k ≡ get_or bs 0 0 * 256 + get_or bs 1 0 → length (tail bs) < k → captured bs ≡ Err (record {}) ∷ []
unfolding captured
cuts [] k some is h = absurd (omega arith)
cuts (b ∷ []) k some is h = absurd (omega arith)
cuts (high ∷ (low ∷ bs)) k some is h =
    let long : length (tail (high ∷ (low ∷ bs))) ≡ length bs = ap length (take_rest (high ∷ (low ∷ bs)) 2) in
    cond-false (leb (256 * high + low) (length bs)) _ _ (lt-leb (256 * high + low) (length bs) (omega (arith, long, is)))

pub gives : (bs : List ℕ) (k : ℕ) → 2 ≤ length bs → k ≡ get_or bs 0 0 * 256 + get_or bs 1 0 → k ≤ length (tail bs)
    → (f rest : List ℕ) → f ≡ take k (tail bs) → rest ≡ drop k (tail bs) → captured bs ≡ Ok f ∷ captured rest
unfolding captured
gives [] k some is h f rest front back = absurd (omega arith)
gives (b ∷ []) k some is h f rest front back = absurd (omega arith)
gives (high ∷ (low ∷ bs)) k some is h f rest front back =
    let behind : tail (high ∷ (low ∷ bs)) ≡ bs = take_rest (high ∷ (low ∷ bs)) 2 in
    let long : length (tail (high ∷ (low ∷ bs))) ≡ length bs = ap length behind in
    let n : 256 * high + low ≡ k = omega (arith, is) in
    let frame : take (256 * high + low) bs ≡ f = ap₂ take n (sym behind) ∙ sym front in
    let others : drop (256 * high + low) bs ≡ rest = ap₂ drop n (sym behind) ∙ sym back in
    cond-true (leb (256 * high + low) (length bs)) _ _ (le-leb (256 * high + low) (length bs) (omega (arith, long, is)))
    ∙ ap₂ (λ x xs. Ok x ∷ frames (suc (length bs)) xs) frame others
    ∙ ap (λ fs. Ok f ∷ fs) (enough (suc (length bs)) (length rest) rest (omega (arith, ap length others, length-drop (256 * high + low) bs)) (omega arith))

pub come_back : (fs : List (List ℕ)) → captured (laid fs) ≡ map Ok fs
come_back [] = ends [] (omega arith)
come_back (f ∷ fs) =
    let n = length f in
    let rest = f ++ laid fs in
    let behind : tail (n / 256 ∷ (n % 256 ∷ rest)) ≡ rest = take_rest (n / 256 ∷ (n % 256 ∷ rest)) 2 in
    let long : length (tail (n / 256 ∷ (n % 256 ∷ rest))) ≡ n + length (laid fs) = ap length behind ∙ length-append f (laid fs) in
    gives (n / 256 ∷ (n % 256 ∷ rest)) n (omega arith) (sym (div-add-mod' n 256)) (omega (arith, long)) f (laid fs)
    (sym (ap (take n) behind ∙ take_at f (laid fs) n refl)) (sym (ap (drop n) behind ∙ drop_at f (laid fs) n refl))
    ∙ ap (λ xs. Ok f ∷ xs) (come_back fs)
