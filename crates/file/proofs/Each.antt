-- Packets that stand one after another in a list of numbers, and are added in that order.
use Rattle.std.proofs.Common.{◌≡◌, ℕ, ◌+◌, ◌-◌, ◌*◌, ◌/◌, ◌<◌, ◌≤◌, List, [], ◌∷◌, ◌++◌, map, length, get_or, take, drop, Ok, Err, Result, refl, sym, ap, ap₂, ◌∙◌, subst, suc, arith, length-append, length-drop, add-zero}
use Rattle.refusal.specs.declared.Refusal.{Refusal}
use Rattle.std.specs.List.{range_with_len}
use Rattle.std.proofs.lemmas.List.{drop-drop, drop-take, drop_at, length-take-le, take-take, take_at}
use Rattle.std.proofs.lemmas.List.FromFn.{fill_by_all, get_or-map-range_with_len, length-map-range_with_len}
use Rattle.file.specs.declared.spelling.Spelling.{Spelling}
use Rattle.file.specs.Filled.{File, Filled, FilledOver, FillsAll, FillsAllOver, GoesOn, Took, TookOver}
use Rattle.file.specs.Filling.{Outcome, adding, adding_each, go_on, packet_in, packets_in}
use Rattle.file.specs.Packets.{packet_of}
use Rattle.file.specs.Spelling.{spelling_of}
use Rattle.file.proofs.Beside.{fills_over}

pub packets_in-none : (xs : List ℕ) → length xs < 128 → packets_in xs ≡ []
unfolding packets_in
packets_in-none xs h =
    let n : length xs / 128 ≡ 0 = omega arith in
    ap (λ (n : ℕ). map (packet_in xs) (range_with_len 0 n)) n

packet_in-drop : (xs : List ℕ) (i : ℕ) → packet_in xs (1 + i) ≡ packet_in (drop 128 xs) i
packet_in-drop xs i =
    let e : 128 * (1 + i) ≡ 128 + 128 * i = omega arith in
    ap (λ (n : ℕ). take 128 (drop n xs)) e ∙ sym (ap (take 128) (drop-drop (128 * i) 128 xs))

-- the first packet, and those that stand in the rest
pub packets_in-more : (xs : List ℕ) → 128 ≤ length xs → packets_in xs ≡ take 128 xs ∷ packets_in (drop 128 xs)
unfolding packets_in
packets_in-more xs h =
    let ys = drop 128 xs in
    let m = length ys / 128 in
    let n : length xs / 128 ≡ suc m = omega (arith, length-drop 128 xs) in
    ap (λ (n : ℕ). map (packet_in xs) (range_with_len 0 n)) n
    ∙ ap (λ (rest : List (List ℕ)). take 128 xs ∷ rest)
    (fill_by_all (packet_in ys) (map (packet_in xs) (range_with_len 1 m)) m [] (length-map-range_with_len (packet_in xs) 1 m)
    (λ i l. get_or-map-range_with_len (packet_in xs) 1 m i (1 + i) [] l refl ∙ packet_in-drop xs i))

-- the first packet is added, and then those that stand after it
adds-one : (q taken size : ℕ) (xs packet rest buffer : List ℕ) → xs ≡ packet ++ rest → length packet ≡ 128
    → adding_each q taken size (packets_in xs) buffer ≡ go_on (adding q taken size packet buffer) (λ t n b. adding_each q t n (packets_in rest) b)
adds-one q taken size xs packet rest buffer e h =
    let front : take 128 xs ≡ packet = ap (take 128) e ∙ take_at packet rest 128 h in
    let back : drop 128 xs ≡ rest = ap (drop 128) e ∙ drop_at packet rest 128 h in
    ap (λ (ps : List (List ℕ)). adding_each q taken size ps buffer)
    (packets_in-more xs (omega (arith, ap length e, length-append packet rest)) ∙ ap₂ (λ (p : List ℕ) (r : List ℕ). p ∷ packets_in r) front back)

pub adds-none : (q taken size : ℕ) (xs buffer : List ℕ) → length xs < 128 → adding_each q taken size (packets_in xs) buffer ≡ (Ok tt, taken, size, buffer)
adds-none q taken size xs buffer h = ap (λ (ps : List (List ℕ)). adding_each q taken size ps buffer) (packets_in-none xs h)

module _ (o : Outcome) (next : ℕ → ℕ → List ℕ → Outcome) (r : Result (Unit {0}) Refusal) (t n : ℕ) (b : List ℕ) (e : (r, t, n, b) ≡ o) where
  after_ok : (u : Unit {0}) → r ≡ Ok u → go_on o next ≡ next t n b
  after_ok u is = ap (λ (o : Outcome). go_on o next) (sym e) ∙ ap (λ (r : Result (Unit {0}) Refusal). go_on (r, t, n, b) next) is

  after_err : (why : Refusal) → r ≡ Err why → go_on o next ≡ (r, t, n, b)
  after_err why is =
      ap (λ (o : Outcome). go_on o next) (sym e) ∙ ap (λ (r : Result (Unit {0}) Refusal). go_on (r, t, n, b) next) is ∙ sym (ap (λ (r : Result (Unit {0}) Refusal). (r, t, n, b)) is)

module _ (q taken size : ℕ) (xs packet rest buffer : List ℕ) (e : xs ≡ packet ++ rest) (h : length packet ≡ 128)
    (r : Result (Unit {0}) Refusal) (t n : ℕ) (b : List ℕ) (a : (r, t, n, b) ≡ adding q taken size packet buffer) where
  pub adds-first : (u : Unit {0}) → r ≡ Ok u → adding_each q t n (packets_in rest) b ≡ adding_each q taken size (packets_in xs) buffer
  adds-first u is = sym (adds-one q taken size xs packet rest buffer e h ∙ after_ok _ (λ t n b. adding_each q t n (packets_in rest) b) r t n b a u is)

  pub adds_no_more : (why : Refusal) → r ≡ Err why → (r, t, n, b) ≡ adding_each q taken size (packets_in xs) buffer
  adds_no_more why is = sym (adds-one q taken size xs packet rest buffer e h ∙ after_err _ (λ t n b. adding_each q t n (packets_in rest) b) r t n b a why is)

-- packets k and so on of a file are taken, one after another, with nothing written beside their bytes
fills_each : (q : ℕ) → 2 ≤ q → (file before : List ℕ) → File file → (ps : List (List ℕ)) (k taken size : ℕ) (buffer : List ℕ) → 16000 ≤ length before
    → FilledOver (spelling_of q) file k taken size before buffer → ((i : ℕ) → i < length ps → get_or ps i [] ≡ packet_of (spelling_of q) file (k + i))
    → TookOver (spelling_of q) file (k + length ps) before (adding_each q taken size ps buffer)
fills_each q two file before f [] k taken size buffer enough h each = (refl, subst (λ (n : ℕ). FilledOver (spelling_of q) file n taken size before buffer) (sym (add-zero k)) h)
fills_each q two file before f (p ∷ ps) k taken size buffer enough h each =
    let s = spelling_of q in
    let o = adding q taken size p buffer in
    let none : k + 0 ≡ k = omega arith in
    let one = fills_over q two p taken size buffer o refl file before k f (omega (arith, h.beside.long)) h (each 0 (omega arith) ∙ ap (packet_of s file) none) in
    let next = fills_each q two file before f ps (k + 1) o.1 o.2 o.3 enough one.1
    (λ i l. let more : k + suc i ≡ k + 1 + i = omega arith in each (suc i) (omega arith) ∙ ap (packet_of s file) more) in
    let count : k + 1 + length ps ≡ k + suc (length ps) = omega arith in
    subst (TookOver s file (k + suc (length ps)) before) (sym (after_ok o (λ t n b. adding_each q t n ps b) o.0 o.1 o.2 o.3 refl tt one.0))
    (subst (λ (m : ℕ). TookOver s file m before (adding_each q o.1 o.2 ps o.3)) count next)

length-packets_in : (xs : List ℕ) → length (packets_in xs) ≡ length xs / 128
unfolding packets_in
length-packets_in xs = length-map-range_with_len (packet_in xs) 0 (length xs / 128)

get_or-packets_in : (xs : List ℕ) (i : ℕ) → i < length xs / 128 → get_or (packets_in xs) i [] ≡ packet_in xs i
unfolding packets_in
get_or-packets_in xs i h = get_or-map-range_with_len (packet_in xs) 0 (length xs / 128) i i [] h (omega arith)

pub fills-all_over : (q : ℕ) → 2 ≤ q → (xs : List ℕ) (taken size : ℕ) (buffer : List ℕ) (after : Outcome) → after ≡ adding_each q taken size (packets_in xs) buffer
    → FillsAllOver (spelling_of q) xs taken size buffer after
fills-all_over q two xs taken size buffer after e file before k f enough h each =
    subst (TookOver (spelling_of q) file (k + length xs / 128) before) (sym e)
    (subst (λ (n : ℕ). TookOver (spelling_of q) file (k + n) before (adding_each q taken size (packets_in xs) buffer)) (length-packets_in xs)
    (fills_each q two file before f (packets_in xs) k taken size buffer (omega (arith, h.beside.long)) h
    (λ i l. let m : i < length xs / 128 = omega (arith, length-packets_in xs) in get_or-packets_in xs i m ∙ each i m)))

pub fills-all : (q : ℕ) → 2 ≤ q → (xs : List ℕ) (taken size : ℕ) (buffer : List ℕ) (after : Outcome) → after ≡ adding_each q taken size (packets_in xs) buffer
    → FillsAll (spelling_of q) xs taken size buffer after
fills-all q two xs taken size buffer after e file k f enough h each =
    let over = fills-all_over q two xs taken size buffer after e file buffer k f enough (record { filled = h; beside = record { left = λ _ _. refl; long = refl } }) each in
    (over.0, over.1.filled)

-- the first packets that stand in the numbers, where the numbers that hold them are passed alone
module _ (numbers xs : List ℕ) (count : ℕ) (fits : 128 * count ≤ length numbers) (is : xs ≡ take (128 * count) numbers) where
  pub count_first : length xs / 128 ≡ count
  count_first = let n = ap length is ∙ length-take-le (128 * count) numbers fits in omega arith

  pub packet_in-first : (i : ℕ) → i < count → packet_in xs i ≡ packet_in numbers i
  packet_in-first i h =
      let a = 128 * i in
      let rest : a + (128 * count - a) ≡ 128 * count = omega arith in
      ap (λ (ys : List ℕ). packet_in ys i) (is ∙ ap (λ (n : ℕ). take n numbers) (sym rest))
      ∙ ap (take 128) (drop-take a (128 * count - a) numbers) ∙ take-take 128 (128 * count - a) (drop a numbers) (omega arith)

  module _ (s : Spelling) (file : List ℕ) (k taken size : ℕ) (buffer : List ℕ) (after : Outcome) (each : (i : ℕ) → i < count → packet_in numbers i ≡ packet_of s file (k + i)) where
    goes_on : GoesOn s file k xs
    goes_on i h = let l : i < count = omega (arith, count_first) in packet_in-first i l ∙ each i l

    pub fills_first : FillsAll s xs taken size buffer after → File file → 16000 ≤ length buffer → Filled s file k taken size buffer → Took s file (k + count) after
    fills_first all f enough h = subst (λ (n : ℕ). Took s file (k + n) after) count_first (all file k f enough h goes_on)

    pub fills_first_over : FillsAllOver s xs taken size buffer after → (before : List ℕ) → File file → 16000 ≤ length buffer → FilledOver s file k taken size before buffer
        → TookOver s file (k + count) before after
    fills_first_over all before f enough h = subst (λ (n : ℕ). TookOver s file (k + n) before after) count_first (all file before k f enough h goes_on)
