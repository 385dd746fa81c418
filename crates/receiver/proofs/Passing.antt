-- A loop that writes the unseen numbers one after another over the start of a buffer.
use Rattle.std.proofs.Common.{◌≡◌, ℕ, ◌+◌, ◌-◌, ◌<◌, ◌≤◌, List, [], ◌∷◌, ◌++◌, length, get_or, take, drop, set, Ok, Result, sym, ap, ◌∙◌, arith}
use Rattle.std.proofs.lemmas.List.{append_assoc, drop_more, set_at, take_more, take_all, length-take-le}
use Rattle.std.proofs.lemmas.List.FromFn.{length-range_with_len}
use Rattle.std.proofs.lemmas.List.Sums.{length-filter, count_by-le-length}
use Rattle.std.specs.List.{range_with_len}
use Rattle.refusal.specs.declared.Refusal.{Refusal}
use Rattle.receiver.specs.Buffers.{over}
use Rattle.receiver.specs.Reports.{lacks, unseen}
use Rattle.receiver.specs.Start.{Bounded}
use Rattle.receiver.specs.declared.state.State.{State}

-- no more are unseen than the window has
pub unseen_few : (w : ℕ) (c : State) → Bounded w c → length (unseen w c) ≤ w
unfolding unseen
unseen_few w c h =
    let all = range_with_len c.released (c.top - c.released) in
    omega (arith, h.1, length-filter (lacks w c) all, count_by-le-length (lacks w c) all, length-range_with_len c.released (c.top - c.released))

-- the first n numbers of u stand over the start of d, and the next one is written
pub write_next : (u d out : List ℕ) (n x : ℕ) → n < length u → n < length d → out ≡ take n u ++ drop n d → x ≡ get_or u n x → set out n x ≡ take (n + 1) u ++ drop (n + 1) d
write_next u d out n x l h e is =
    let next : take (n + 1) u ≡ take n u ++ x ∷ [] = take_more u n x l ∙ ap (λ y. take n u ++ y ∷ []) (sym is) in
    ap (λ o. set o n x) (e ∙ ap (λ z. take n u ++ z) (drop_more d n 0 h)) ∙ set_at (take n u) _ (drop (n + 1) d) x n (length-take-le n u (omega arith))
    ∙ sym (append_assoc (take n u) (x ∷ []) (drop (n + 1) d)) ∙ ap (λ z. z ++ drop (n + 1) d) (sym next)

-- its end: all of u stands over the start of d
pub written_all : (u d out : List ℕ) (n : ℕ) → n ≡ length u → out ≡ take n u ++ drop n d → ◌≡◌ {A = Result ℕ Refusal × List ℕ} (Ok n, out) (Ok (length u), over d u)
written_all u d out n l e = let t : take n u ≡ u = take_all n u (omega arith) in cc
