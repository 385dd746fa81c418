-- The turns of a release.
use Rattle.std.proofs.Common.{◌≡◌, ℕ, zero, suc, ◌+◌, ◌-◌, ◌*◌, ◌≤◌, List, [], ◌∷◌, ◌++◌, length, drop, Some, None, Ok, sym, refl, ap, ◌∙◌, add-zero, add-suc, add-one, arith}
use borrow.Rule.Slice.PartMut.{put_mid}
use Rattle.std.proofs.lemmas.List.{append_assoc, append-nil, take_at, drop_at, length-append, length_push, drop-drop}
use Rattle.elimination.specs.Loops.{turns}
use Rattle.receiver.specs.Arrival.{arrival, fresh}
use Rattle.receiver.specs.Buffers.{concat, over}
use Rattle.receiver.specs.Release.{Release, ready, advanced, release_one, releasing}
use Rattle.receiver.specs.declared.state.Answer.TheVariants.{Fresh}
use Rattle.receiver.specs.declared.state.State.{State}

releasing-more : (w : ℕ) (c : State) (n : ℕ) (p : List ℕ) → ready w (releasing w c n).state ≡ Some p → releasing w c (n + 1) ≡ release_one w (Some p) (releasing w c n)
unfolding turns
releasing-more w c n p e = rw (add-one n) (ap (λ o. release_one w o (releasing w c n)) e)

releasing_still : (w : ℕ) (c : State) (n : ℕ) → ready w (releasing w c n).state ≡ None → (k : ℕ) → releasing w c (n + k) ≡ releasing w c n
unfolding turns
releasing_still w c n e zero = rw add-zero
releasing_still w c n e (suc k) = rw (add-suc, releasing_still w c n e k) (ap (λ o. release_one w o (releasing w c n)) e)

-- where no packet is known after n turns, w turns give the same
releasing_stop : (w : ℕ) (c : State) (n : ℕ) → n ≤ w → ready w (releasing w c n).state ≡ None → releasing w c w ≡ releasing w c n
releasing_stop w c n h e = let z : w ≡ n + (w - n) = omega arith in ap (releasing w c) z ∙ releasing_still w c n e (w - n)

concat_push : (ps : List (List ℕ)) (p : List ℕ) → concat (ps ++ p ∷ []) ≡ concat ps ++ p
concat_push [] p = append-nil p
concat_push (q ∷ ps) p = ap (λ xs. q ++ xs) (concat_push ps p) ∙ sym (append_assoc q (concat ps) p)

-- p written over a buffer right after xs
over_push : (d xs p : List ℕ) (a k : ℕ) → length xs ≡ a → length p ≡ k → put_mid a k (over d xs) p ≡ over d (xs ++ p)
over_push d xs p a k l m =
    let rest = drop (length xs) d in
    let front = take_at xs rest a l in
    let back = ap (drop k) (drop_at xs rest a l) ∙ drop-drop k (length xs) d in
    let long = length-append xs p in
    let joins = append_assoc xs p (drop (length (xs ++ p)) d) in
    cc

-- after n turns of a release from c and the buffer d: s and the numbers are those of the packets so far
pub record SoFar (w : ℕ) (c : State) (d : List ℕ) (n : ℕ) (s : State) (numbers : List ℕ) : Type 0 where
  pub state : s ≡ (releasing w c n).state
  pub count : length (releasing w c n).packets ≡ n
  pub long : length (concat (releasing w c n).packets) ≡ 128 * n
  pub front : numbers ≡ over d (concat (releasing w c n).packets)

pub so_far-none : (w : ℕ) (c : State) (d : List ℕ) → SoFar w c d 0 c d
unfolding turns
so_far-none w c d = record { state = refl; count = refl; long = refl; front = refl }

module _ (w : ℕ) (c : State) (d : List ℕ) (n : ℕ) (s : State) (numbers : List ℕ) (before : SoFar w c d n s numbers) where
  -- a turn that releases p
  pub so_far_more : (p : List ℕ) (s2 : State) (numbers2 : List ℕ) → Some p ≡ ready w s → length p ≡ 128 → s2 ≡ advanced w (Some p) s → numbers2 ≡ put_mid (128 * n) 128 numbers p → SoFar w c d (n + 1) s2 numbers2
  so_far_more p s2 numbers2 e l es en =
      let o : Release = releasing w c n in
      let turn : releasing w c (n + 1) ≡ release_one w (Some p) o = releasing-more w c n p (sym (e ∙ ap (ready w) before.state)) in
      let written : concat (releasing w c (n + 1)).packets ≡ concat o.packets ++ p = ap (λ (r : Release). concat r.packets) turn ∙ concat_push o.packets p in
      record {
        state = es ∙ ap (advanced w (Some p)) before.state ∙ sym (ap (λ (r : Release). r.state) turn);
        count = ap (λ (r : Release). length r.packets) turn ∙ length_push o.packets p ∙ ap (λ k. k + 1) before.count;
        long = ap length written ∙ length-append (concat o.packets) p ∙ omega (arith, before.long);
        front = en ∙ ap (λ xs. put_mid (128 * n) 128 xs p) before.front ∙ over_push d (concat o.packets) p (128 * n) 128 before.long l ∙ sym (ap (over d) written);
      }

  so_far-is : arrival (Ok (Fresh n)) s numbers ≡ fresh d (releasing w c n)
  so_far-is =
      let o : Release = releasing w c n in
      ap (λ k. arrival (Ok (Fresh k)) s numbers) (sym before.count)
      ∙ ap (λ z. arrival (Ok (Fresh (length o.packets))) z numbers) before.state
      ∙ ap (arrival (Ok (Fresh (length o.packets))) o.state) before.front

  pub so_far_stop : n ≤ w → None ≡ ready w s → arrival (Ok (Fresh n)) s numbers ≡ fresh d (releasing w c w)
  so_far_stop h e = so_far-is ∙ ap (fresh d) (sym (releasing_stop w c n h (sym (e ∙ ap (ready w) before.state))))
