-- The row that begins at r and is 0 elsewhere leaves the table, and its payload is released as packet r. Where no such row
-- is left, what is released is exact.
use Rattle.std.proofs.Common.{◌≡◌, ℕ, suc, ◌+◌, ◌-◌, ◌%◌, ◌<◌, ◌≤◌, ◌≢◌, ◌⊎◌, ◌↔◌, List, [], ◌∷◌, ◌++◌, length, get_or, Some, None, Option, sym, ap, ◌∙◌, subst, inl, inr, mod-lt, add-one, arith, length-append, get_or-append-add, ext_get_or}
use native.Mathlib.Decide.{ℕ_discrete, dec_lt}
use native.Mathlib.Nat.{add-mod_right}
use lib.ListN.{get_or-append}
use Rattle.algebra.specs.Frames.{Codes, Frame}
use Rattle.algebra.specs.Streams.{Fitting, Agreed}
use Rattle.algebra.specs.Promises.{ExactRelease, CountedRelease}
use Rattle.algebra.proofs.Equations.{Among, AgreeAt}
use Rattle.algebra.proofs.Systems.{look, some_or_none, some_same}
use Rattle.algebra.proofs.Count.{count}
use Rattle.algebra.proofs.Holds.{Holds}
use Rattle.algebra.proofs.Release.{released_value, differ_at}
use Rattle.algebra.proofs.Complete.{all_released}
use Rattle.algebra.proofs.Codes.{code, q_pos, code_zero, code_same}
use Rattle.algebra.proofs.Words.{equations, bounded-equations, coded, numbers, coded-numbers, fitting_solves, solves_fitting}
use Rattle.algebra.proofs.Ring.{apart, at_place}
use Rattle.algebra.proofs.Setting.{Setting, field, Eqn}
use Rattle.algebra.proofs.Lines.{line_in}
use Rattle.algebra.proofs.Tables.{row_line, lines, lines_some, lines_none, packet, packet-is, whole, leaves}
use Rattle.algebra.proofs.Represents.{Represents, whole-some, one_there, zero_there}
use Rattle.algebra.proofs.Accepting.{consistent}

-- no row of the table begins at r and is 0 elsewhere
abbrev pub Settled : {Row : Type 0} → Setting Row → ℕ → (ℕ → Option Row) → Type 0
Settled {Row} S r table = (y : Row) → table (r % S.w) ≡ Some y → ((i : ℕ) → i < S.w → i ≢ r % S.w → get_or (S.slots y) i 0 ≡ 0) → ⊥

-- the table has no row at the places of the last j numbers below r
abbrev pub Emptied : {Row : Type 0} → ℕ → ℕ → ℕ → (ℕ → Option Row) → Type 0
Emptied {Row} w r j table = (k : ℕ) → k < r → r ≤ k + j → table (k % w) ≡ None

module _ {Row : Type 0} (w r : ℕ) (table : ℕ → Option Row) where
  -- one more has left
  pub emptied_more : (j : ℕ) (table' : ℕ → Option Row) → 0 < w → table' (r % w) ≡ None → ((i : ℕ) → i < w → i ≢ r % w → table' i ≡ table i)
      → Emptied w r j table → Emptied w (r + 1) (suc j) table'
  emptied_more j table' w_pos left same h k l near = go (ℕ_discrete (k % w) (r % w)) (ℕ_discrete k r)
    where
      go : Dec (k % w ≡ r % w) → Dec (k ≡ r) → table' (k % w) ≡ None
      go (yes e) _ = ap table' e ∙ left
      go (no ne) (yes e) = absurd (ne (ap (λ x. x % w) e))
      go (no ne) (no d) = same (k % w) (mod-lt k w_pos) ne ∙ h k (omega arith) (omega arith)

  -- where w have left, none begins at r
  pub emptied_all : w ≤ r → 0 < w → Emptied w r w table → table (r % w) ≡ None
  emptied_all low w_pos h =
      ap table (let e : r ≡ (r - w) + w = omega arith in ap (λ x. x % w) e ∙ add-mod_right (r - w) w) ∙ h (r - w) (omega arith) (omega arith)

module _ {Row : Type 0} (S : Setting Row)
    {accepted : List Frame} {fresh r : ℕ} {released : List (List ℕ)} {kept : ℕ → List ℕ} {table : ℕ → Option Row}
    (rep : Represents S accepted fresh r released kept table) where
  open S use {slots, payload, w, n, size, w_pos, size_pos, m, laws}

  pub release_represents : (y : Row) (kept' : ℕ → List ℕ) (table' : ℕ → Option Row)
      → table (r % w) ≡ Some y → ((i : ℕ) → i < w → i ≢ r % w → get_or (slots y) i 0 ≡ 0)
      → kept' (r % w) ≡ payload y → ((i : ℕ) → i < w → i ≢ r % w → kept' i ≡ kept i)
      → table' (r % w) ≡ None → ((i : ℕ) → i < w → i ≢ r % w → table' i ≡ table i)
      → Represents S accepted fresh (r + 1) (released ++ payload y ∷ []) kept' table'
  release_represents y kept' table' at zero copy copies left same = rw add-one record {
    proper = rep.proper;
    most = rep.holds.reduced.within r _ (whole-some S rep r y (omega arith) (omega (arith, w_pos)) at);
    many = omega (arith, length-append released (payload y ∷ []), rep.many);
    packets = λ k l. packets k l (ℕ_discrete k r);
    copies = λ k l near. kept_at k l near (ℕ_discrete k r);
    codes = λ i x l e. codes i x l e (ℕ_discrete i (r % w));
    holds = subst (λ b. Holds (field S) n b (Among (equations size m laws accepted))) (sym stays) rep.holds;
    counted = ap (λ b. count b n) stays ∙ rep.counted;
  }
    where
      old : (k : ℕ) → k < r → get_or (released ++ payload y ∷ []) k [] ≡ get_or released k []
      old k l = get_or-append released (payload y ∷ []) [] k (omega (arith, rep.many))

      new : get_or (released ++ payload y ∷ []) r [] ≡ payload y
      new =
          ap (λ x. get_or (released ++ payload y ∷ []) x []) (let e : r ≡ length released + 0 = omega (arith, rep.many) in e)
          ∙ get_or-append-add released (payload y ∷ []) 0 []

      packets : (k : ℕ) → k < suc r → Dec (k ≡ r) → Codes m.q size (get_or (released ++ payload y ∷ []) k [])
      packets k l (yes e) = subst (Codes m.q size) (sym (ap (λ x. get_or (released ++ payload y ∷ []) x []) e ∙ new)) (rep.codes (r % w) y (mod-lt r w_pos) at).1
      packets k l (no ne) = subst (Codes m.q size) (sym (old k (omega arith))) (rep.packets k (omega arith))

      kept_at : (k : ℕ) → k < suc r → suc r ≤ k + w → Dec (k ≡ r) → kept' (k % w) ≡ get_or (released ++ payload y ∷ []) k []
      kept_at k l near (yes e) = ap (λ x. kept' (x % w)) e ∙ copy ∙ sym (ap (λ x. get_or (released ++ payload y ∷ []) x []) e ∙ new)
      kept_at k l near (no ne) =
          copies (k % w) (mod-lt k w_pos) (apart w k k r (omega arith) (omega arith) (omega arith) (omega arith) ne)
          ∙ rep.copies k (omega arith) (omega arith) ∙ sym (old k (omega arith))

      codes : (i : ℕ) (x : Row) → i < w → table' i ≡ Some x → Dec (i ≡ r % w) → Codes m.q w (slots x) × Codes m.q size (payload x)
      codes i x l e (yes s) = absurd (some_or_none (ap table' (sym s) ∙ e) left)
      codes i x l e (no ne) = rep.codes i x l (sym (same i l ne) ∙ e)

      clear : (i : ℕ) (x : Row) → i < w → i ≢ r % w → table i ≡ Some x → get_or (slots x) (r % w) 0 ≡ 0
      clear i x l ne e =
          let k = at_place w r i l in
          zero_there S rep k.0 r x y k.1 k.2 (omega arith) (omega (arith, w_pos))
          (λ s. ne (sym k.3 ∙ ap (λ z. z % w) s)) (ap table k.3 ∙ e) at

      stays : whole S (suc r) (released ++ payload y ∷ []) table' ≡ whole S r released table
      stays = leaves S r released table table' (released ++ payload y ∷ []) y at
          (one_there S rep r y (omega arith) (omega (arith, w_pos)) at) zero clear left same old new

  -- a released packet is that of every stream that fits
  released-right : (s : ℕ → List ℕ) → Fitting n size m accepted s → (k : ℕ) → k < length released → get_or released k [] ≡ s k
  unfolding coded
  released-right s fit k l =
      ext_get_or 0 (get_or released k []) (s k) (p.long ∙ sym q.long)
      (λ i b.
      let e : i < size = omega (arith, p.long) in
      code_same m laws (p.codes i e) (q.codes i e)
      (sym (packet-is S released k (i, e))
      ∙ sym (released_value (field S) n r (packet S released) (lines S r table)
      (Among (equations size m laws accepted)) rep.holds k (omega (arith, rep.many)) (coded size m laws s) (fitting_solves size m laws n accepted s fit) (i, e))))
    where
      p : Codes m.q size (get_or released k [])
      p = rep.packets k (omega (arith, rep.many))

      q : Codes m.q size (s k)
      q = fit.stream k (omega (arith, rep.many, rep.most))

  -- then no equation begins at r and is 0 elsewhere
  unsettled : Settled S r table → (e : Eqn S) → lines S r table r ≡ Some e
      → ((j : ℕ) → j < n → j ≢ r → e.row j ≡ (field S).𝟘) → ⊥
  unsettled settled e at zero = go (look (table (r % w)))
    where
      go : (table (r % w) ≡ None) ⊎ ((y : Row) × (table (r % w) ≡ Some y)) → ⊥
      go (inl z) = some_or_none at (lines_none S r table r (omega arith) (omega (arith, w_pos)) z)
      go (inr (y, z)) = settled y z (λ i b ne. slot i b ne)
        where
          same : e ≡ row_line S r y
          same = some_same at (lines_some S r table r y (omega arith) (omega (arith, w_pos)) z)

          slot : (i : ℕ) → i < w → i ≢ r % w → get_or (slots y) i 0 ≡ 0
          slot i b ne =
              let j = at_place w r i b in
              ap (λ x. get_or (slots y) x 0) (sym j.3)
              ∙ code_same m laws ((rep.codes (r % w) y (mod-lt r w_pos) z).0.codes (j.0 % w) (mod-lt j.0 w_pos)) (q_pos m laws)
              (sym (line_in S r (slots y) (payload y) j.0 j.1 j.2) ∙ nil j.0 (λ s. ne (sym j.3 ∙ ap (λ x. x % w) s)) (dec_lt j.0 n) ∙ sym (code_zero m laws))
            where
              nil : (k : ℕ) → k ≢ r → Dec (k < n) → (row_line S r y).row k ≡ (field S).𝟘
              nil k d (yes u) = ap (λ x. x.row k) (sym same) ∙ zero k u d
              nil k d (no u) =
                  rep.holds.reduced.bounded r _ (whole-some S rep r y (omega arith) (omega (arith, w_pos)) z) k (omega arith)

  -- where nothing is left to release, the release is exact
  pub exact_release : (r < n → Settled S r table) → ExactRelease n size m accepted released
  unfolding coded
  exact_release settled = record {
    consistent = consistent S rep;
    right = released-right;
    most = omega (arith, rep.many, rep.most);
    exactly = λ k l. (
      λ h j b s t fs ft. sym (released-right s fs j (omega arith)) ∙ released-right t ft j (omega arith),
      λ agree. below k l agree (dec_lt k (length released)),
    );
  }
    where
      differ : (k : ℕ) → k < n → length released ≤ k → Agreed n size m accepted r → ⊥
      differ k l h agree =
          differ_at (field S) n r (packet S released) (lines S r table)
          (Among (equations size m laws accepted)) rep.holds (0, size_pos) low (unsettled (settled low)) agreed
        where
          low : r < n
          low = omega (arith, rep.many)

          agreed : AgreeAt (field S) n (Among (equations size m laws accepted)) r
          agreed s t hs ht i =
              sym (ap (λ z. z r i) (coded-numbers size m laws s))
              ∙ ap (λ y. code m laws (get_or y i.0 0))
              (agree (numbers size m laws s) (numbers size m laws t) (solves_fitting size m laws n accepted s rep.proper hs) (solves_fitting size m laws n accepted t rep.proper ht))
              ∙ ap (λ z. z r i) (coded-numbers size m laws t)

      below : (k : ℕ) → k < n → ((j : ℕ) → j ≤ k → Agreed n size m accepted j) → Dec (k < length released) → k < length released
      below k l agree (yes h) = h
      below k l agree (no h) = absurd (differ k l (omega arith) (agree r (omega (arith, rep.many))))

  -- and it is counted by the fresh answers
  pub counted-release : (r < n → Settled S r table) → CountedRelease n accepted fresh released
  counted-release settled t low short = (λ e. sym rep.counted ∙ whole-count.0 (sym rep.many ∙ e), λ e. rep.many ∙ whole-count.1 (rep.counted ∙ e))
    where
      whole-count : (r ≡ t) ↔ (count (whole S r released table) n ≡ t)
      whole-count = all_released (field S) n t low r (packet S released) (lines S r table) (Among (equations size m laws accepted)) rep.holds (bounded-equations size m laws accepted t short) (λ l. unsettled (settled l))
