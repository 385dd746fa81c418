-- Where a window's rows are independent and what lies below it is seen, all streams that fit agree.
use Rattle.std.proofs.Common.{◌≡◌, ℕ, ◌+◌, ◌-◌, ◌<◌, ◌≤◌, ◌⊎◌, List, [], length, get_or, sym, ap, ◌∙◌, inl, inr, arith, ext_get_or}
use mathlib.Core.List.{Memᴰ}
use native.Mathlib.Decide.{dec_lt}
use Rattle.field.specs.Field.{Means, Laws}
use Rattle.algebra.specs.Frames.{Frame, row_at}
use Rattle.algebra.specs.Streams.{Fitting}
use Rattle.algebra.specs.Combinations.{rows, rows_at, Spanned, Seen, Independent}
use Rattle.algebra.specs.Theorems.{WindowDecodes}
use Rattle.algebra.proofs.Scalars.{Scalars, mul_zero}
use Rattle.algebra.proofs.Sums.{total, total_same, total-none}
use Rattle.algebra.proofs.Equations.{Equation, Among, Span, Bounded, Known, SeenAt, span-bounded, span_solves}
use Rattle.algebra.proofs.Agree.{triangle, spread}
use Rattle.algebra.proofs.Codes.{Code, code, code_zero, code_same, scalars, zero?}
use Rattle.algebra.proofs.Words.{Place, equation, equations, bounded-equations, coded, fitting_solves}
use Rattle.algebra.proofs.Frames.{row_before, row-slot, row-slot_zero}
use Rattle.algebra.proofs.Filters.{member}
use Rattle.algebra.proofs.Rows.{spanned-known, seen-shown}
use Rattle.algebra.proofs.Independence.{row, independent-codes}

module _ (n size : ℕ) (m : Means) (laws : Laws m) (accepted : List Frame) (u v : ℕ) (fit : u + v ≤ n)
    (seen : (k : ℕ) → k < u → Seen m (rows accepted) k) (short : (f : Frame) → Memᴰ f accepted → (k : ℕ) → u + v ≤ k → f.row k ≡ 0)
    (draws : List (List ℕ)) (many : length draws ≡ v) (free : Independent m (rows_at 0 draws))
    (spanned : (slots : List ℕ) → Memᴰ slots draws → Spanned m (rows accepted) (row_at u slots))
    (s t : ℕ → List ℕ) (hs : Fitting n size m accepted s) (ht : Fitting n size m accepted t) (i : Place size) where
  abbrev K : Scalars (Code m)
  K = scalars m laws

  abbrev Acc : Equation (Code m) (Place size) → Type 0
  Acc = Among (equations size m laws accepted)

  infixl 70 ◌⊡◌
  open K use {𝟘, ◌⊡◌}

  -- a combination has one sum for both streams
  same : {g : Equation (Code m) (Place size)} → Span K Acc g
      → total K n (λ k. g.row k ⊡ coded size m laws s k i) ≡ total K n (λ k. g.row k ⊡ coded size m laws t k i)
  same span =
      span_solves K n (coded size m laws s) (fitting_solves size m laws n accepted s hs) span i
      ∙ sym (span_solves K n (coded size m laws t) (fitting_solves size m laws n accepted t ht) span i)

  -- and is 0 from the window's end on
  ends : {g : Equation (Code m) (Place size)} → Span K Acc g → Bounded K (u + v) g
  ends = span-bounded K (u + v) (bounded-equations size m laws accepted (u + v) short)

  shown : (k : ℕ) → k < u → SeenAt K Acc k
  shown k l = seen-shown m laws size accepted k (seen k l)

  -- a row of the window, as an equation
  abbrev as_frame : ℕ → Frame
  as_frame j = record { row = row_at u (get_or draws j []); payload = [] }

  known : (j : ℕ) → j < v → Known K Acc (row m laws u draws j)
  unfolding equation
  known j l = spanned-known m laws size accepted (as_frame j) (spanned (get_or draws j []) (member draws [] j (omega (arith, many))))

  outside : (j : ℕ) → j < v → (k : ℕ) → (k < u) ⊎ (u + v ≤ k) → row m laws u draws j k ≡ 𝟘
  outside j l k (inl h) = ap (code m laws) (row_before u (get_or draws j []) k h) ∙ code_zero m laws
  outside j l k (inr h) = let e = known j l in sym (e.2 k) ∙ ends e.1 k h

  -- at the window the rows are the draws
  moved : (j k : ℕ) → row m laws 0 draws j k ≡ row m laws u draws j (u + k)
  moved j k = ap (code m laws) (row-slot_zero (get_or draws j []) k ∙ sym (row-slot u (get_or draws j []) k))

  independent : (c : ℕ → Code m) → ((j : ℕ) → j < v → total K v (λ i. c i ⊡ row m laws u draws i (u + j)) ≡ 𝟘) → (i : ℕ) → i < v → c i ≡ 𝟘
  independent c all i l = independent-codes m laws draws free c (λ k. whole k ∙ at k (dec_lt k v)) i (omega (arith, many))
    where
      whole : (k : ℕ) → total K (length draws) (λ i. c i ⊡ row m laws 0 draws i k) ≡ total K v (λ i. c i ⊡ row m laws u draws i (u + k))
      whole k =
          ap (λ a. total K a (λ i. c i ⊡ row m laws 0 draws i k)) many
          ∙ total_same K v (λ i. c i ⊡ row m laws 0 draws i k) (λ i. c i ⊡ row m laws u draws i (u + k)) (λ i _. ap (λ x. c i ⊡ x) (moved i k))

      at : (k : ℕ) → Dec (k < v) → total K v (λ i. c i ⊡ row m laws u draws i (u + k)) ≡ 𝟘
      at k (yes h) = all k h
      at k (no h) = total-none K v (λ i. c i ⊡ row m laws u draws i (u + k)) (λ i l. ap (λ x. c i ⊡ x) (outside i l (u + k) (inr (omega arith))) ∙ mul_zero K (c i))

  one-sum : (j : ℕ) → j < v → total K n (λ k. row m laws u draws j k ⊡ coded size m laws s k i) ≡ total K n (λ k. row m laws u draws j k ⊡ coded size m laws t k i)
  one-sum j l = by s ∙ same (known j l).1 ∙ sym (by t)
    where
      by : (z : ℕ → List ℕ) → total K n (λ k. row m laws u draws j k ⊡ coded size m laws z k i) ≡ total K n (λ k. (known j l).0.row k ⊡ coded size m laws z k i)
      by z =
          total_same K n (λ k. row m laws u draws j k ⊡ coded size m laws z k i) (λ k. (known j l).0.row k ⊡ coded size m laws z k i)
          (λ k _. ap (λ x. x ⊡ coded size m laws z k i) (sym ((known j l).2 k)))

  symbol : (k : ℕ) → k < u + v → coded size m laws s k i ≡ coded size m laws t k i
  symbol =
      triangle K n u (u + v) (omega arith) fit (λ k. coded size m laws s k i) (λ k. coded size m laws t k i)
      (λ k l. (shown k l).0.row) (λ k l. (shown k l).2) (λ k l. (shown k l).3) (λ k l. ends (shown k l).1) (λ k l. same (shown k l).1) later
    where
      later : (k : ℕ) → u ≤ k → k < u + v → coded size m laws s k i ≡ coded size m laws t k i
      later k l h =
          let e : k ≡ u + (k - u) = omega arith in
          ap (λ a. coded size m laws s a i) e
          ∙ spread K (zero? m laws) n u v fit (row m laws u draws) outside independent (λ k. coded size m laws s k i) (λ k. coded size m laws t k i) one-sum (k - u) (omega arith)
          ∙ ap (λ a. coded size m laws t a i) (sym e)

pub window_decodes_lem : WindowDecodes
unfolding coded
window_decodes_lem n size m laws accepted u v fit seen short draws many free spanned k l s t hs ht =
    ext_get_or 0 (s k) (t k) ((hs.stream k (omega arith)).long ∙ sym (ht.stream k (omega arith)).long)
    (λ i b.
    let e : i < size = omega (arith, (hs.stream k (omega arith)).long) in
    code_same m laws ((hs.stream k (omega arith)).codes i e) ((ht.stream k (omega arith)).codes i e)
    (symbol n size m laws accepted u v fit seen short draws many free spanned s t hs ht (i, e) k l))
