-- What a receiver's state has to do with the frames that it accepted: r packets released, copies of the last w of them
-- and a table of rows, in rings of w places. At first, and what it says of the table and of the packets seen.
use Rattle.std.proofs.Common.{◌≡◌, ℕ, ◌+◌, ◌-◌, ◌%◌, ◌<◌, ◌≤◌, Bool, true, ◌≢◌, ◌⊎◌, ◌↔◌, List, [], length, get_or, Some, None, filter, Option, sym, refl, ap, ◌∙◌, subst, inl, inr, mod-lt, arith}
use mathlib.Core.Path.{fun_ext}
use native.Mathlib.Decide.{dec_lt}
use Rattle.std.specs.List.{range_with_len}
use Rattle.algebra.specs.Frames.{Codes, Frame}
use Rattle.algebra.specs.Combinations.{rows, Seen}
use Rattle.algebra.specs.Promises.{OldestUnseen, UnseenBetween}
use Rattle.algebra.proofs.Equations.{Among, span-bounded}
use Rattle.algebra.proofs.Systems.{look, some_or_none}
use Rattle.algebra.proofs.Count.{count, count_none}
use Rattle.algebra.proofs.Holds.{Holds, empty_holds}
use Rattle.algebra.proofs.Release.{system_above, seen_below, seen_above, seen_where}
use Rattle.algebra.proofs.Codes.{q_pos, code_zero, code_one, code_same}
use Rattle.algebra.proofs.Words.{AllProper, equations, bounded-equations}
use Rattle.algebra.proofs.Filters.{kept_by_from, kept_by_have, kept_by_once}
use Rattle.algebra.proofs.Rows.{seen-shown, shown-seen}
use Rattle.algebra.proofs.Ring.{Side, side}
use Rattle.algebra.proofs.Setting.{Setting, field, Eqn}
use Rattle.algebra.proofs.Lines.{line_in}
use Rattle.algebra.proofs.Tables.{row_line, lines, lines_some, lines_none, lines_out, whole}

module _ {Row : Type 0} (S : Setting Row) where
  open S use {slots, payload, w, n, size, w_pos, size_pos, m, laws}

  pub record Represents (accepted : List Frame) (fresh r : ℕ) (released : List (List ℕ)) (kept : ℕ → List ℕ) (table : ℕ → Option Row) : Type 0 where
    pub proper : AllProper n size m.q accepted
    pub most : r ≤ n
    pub many : length released ≡ r
    pub packets : (k : ℕ) → k < r → Codes m.q size (get_or released k [])
    -- the last w released packets are kept
    pub copies : (k : ℕ) → k < r → r ≤ k + w → kept (k % w) ≡ get_or released k []
    pub codes : (i : ℕ) (x : Row) → i < w → table i ≡ Some x → Codes m.q w (slots x) × Codes m.q size (payload x)
    -- the table is reduced, and with the released packets it says what the accepted frames say
    pub holds : Holds (field S) n (whole S r released table) (Among (equations size m laws accepted))
    -- the fresh frames are as many as its rows and the released packets
    pub counted : count (whole S r released table) n ≡ fresh

  -- at first
  pub new_represents : (kept : ℕ → List ℕ) (table : ℕ → Option Row) → ((i : ℕ) → i < w → table i ≡ None) → Represents [] 0 0 [] kept table
  unfolding equations
  new_represents kept table z = record {
    proper = λ f i. elim i [ ];
    most = omega arith;
    many = refl;
    packets = λ k l. absurd (omega arith);
    copies = λ k l. absurd (omega arith);
    codes = λ i x l e. absurd (some_or_none e (z i l));
    holds = subst (λ b. Holds (field S) n b (Among [])) (sym empty) (empty_holds (field S) n);
    counted = ap (λ b. count b n) empty ∙ count_none (λ _. None) n (λ _ _. refl);
  }
    where
      empty : whole S 0 [] table ≡ (λ _. None)
      empty = fun_ext (λ k. system_above (field S) 0 _ (lines S 0 table) k (omega arith) ∙ go k (side w 0 k))
        where
          go : (k : ℕ) → ((0 ≤ k) × (k < 0 + w)) ⊎ ((k < 0) ⊎ (0 + w ≤ k)) → lines S 0 table k ≡ None
          go k (inl (l, h)) = lines_none S 0 table k l h (z (k % w) (mod-lt k w_pos))
          go k (inr o) = lines_out S 0 table k o

  module _ {accepted : List Frame} {fresh r : ℕ} {released : List (List ℕ)} {kept : ℕ → List ℕ} {table : ℕ → Option Row}
      (rep : Represents accepted fresh r released kept table) where
    pub whole-some : (k : ℕ) (x : Row) → r ≤ k → k < r + w → table (k % w) ≡ Some x
        → whole S r released table k ≡ Some (row_line S r x)
    whole-some k x l h e =
        system_above (field S) r _ (lines S r table) k l
        ∙ lines_some S r table k x l h e

    slot-code : (k j : ℕ) (x : Row) → r ≤ k → k < r + w → table (j % w) ≡ Some x → get_or (slots x) (k % w) 0 < m.q
    slot-code k j x l h e = (rep.codes (j % w) x (mod-lt j w_pos) e).0.codes (k % w) (mod-lt k w_pos)

    -- the row that begins at k is 1 there
    pub one_there : (k : ℕ) (x : Row) → r ≤ k → k < r + w → table (k % w) ≡ Some x → get_or (slots x) (k % w) 0 ≡ 1
    one_there k x l h e =
        code_same m laws (slot-code k k x l h e) laws.least
        (sym (line_in S r (slots x) (payload x) k l h) ∙ rep.holds.reduced.leads k _ (whole-some k x l h e) ∙ sym (code_one m laws))

    -- it is 0 where another begins
    pub zero_there : (k j : ℕ) (x y : Row) → r ≤ k → k < r + w → r ≤ j → j < r + w → k ≢ j → table (k % w) ≡ Some x → table (j % w) ≡ Some y
        → get_or (slots x) (j % w) 0 ≡ 0
    zero_there k j x y a b c d ne e f =
        code_same m laws (slot-code j k x c d e) (q_pos m laws)
        (sym (line_in S r (slots x) (payload x) j c d)
        ∙ rep.holds.reduced.clear j k _ _ (whole-some j y c d f) (whole-some k x a b e) (λ i. ne (sym i)) ∙ sym (code_zero m laws))

    open field S use {one_not_zero}

    -- packet k is released, or a row of the table begins there
    abbrev pub Holding : ℕ → Type 0
    Holding k = (k < r) ⊎ ((k < r + w) × ((x : Row) × (table (k % w) ≡ Some x)))

    -- just then it is seen
    pub seen-exactly : (k : ℕ) → Seen m (rows accepted) k ↔ Holding k
    seen-exactly k = (λ s. to s (dec_lt k n) (side w r k), from)
      where
        past : n ≤ k → Seen m (rows accepted) k → ⊥
        past l s = let g = seen-shown m laws size accepted k s in one_not_zero (sym g.3 ∙ span-bounded (field S) n (bounded-equations size m laws accepted n (λ f i. (rep.proper f i).row_ends)) g.1 k l)

        has : k < n → r ≤ k → Seen m (rows accepted) k → (e : Eqn S) × (lines S r table k ≡ Some e)
        has l h s = seen_where (field S) n r _ (lines S r table) (Among (equations size m laws accepted)) rep.holds (0, size_pos) k l h (seen-shown m laws size accepted k s)

        to : Seen m (rows accepted) k → Dec (k < n) → Side w r k → Holding k
        to s (no l) _ = absurd (past (omega arith) s)
        to s (yes l) (inr (inl h)) = inl h
        to s (yes l) (inr (inr h)) = absurd (some_or_none (has l (omega arith) s).1 (lines_out S r table k (inr h)))
        to s (yes l) (inl (h, b)) = inr (b, row (look (table (k % w))))
          where
            row : (table (k % w) ≡ None) ⊎ ((x : Row) × (table (k % w) ≡ Some x)) → (x : Row) × (table (k % w) ≡ Some x)
            row (inl e) = absurd (some_or_none (has l h s).1 (lines_none S r table k h b e))
            row (inr x) = x

        released-seen : k < r → Seen m (rows accepted) k
        released-seen h = shown-seen m laws size accepted k (seen_below (field S) n r _ (lines S r table) (Among (equations size m laws accepted)) rep.holds k h)

        from : Holding k → Seen m (rows accepted) k
        from (inl h) = released-seen h
        from (inr (b, x)) = go (dec_lt k r)
          where
            go : Dec (k < r) → Seen m (rows accepted) k
            go (yes h) = released-seen h
            go (no h) =
                shown-seen m laws size accepted k
                (seen_above (field S) n r _ (lines S r table) (Among (equations size m laws accepted)) rep.holds k _ (omega arith) (lines_some S r table k x.0 (omega arith) b x.1))

    -- so the oldest unseen number is the first that is not held
    pub oldest-unseen : (u : ℕ) → u ≤ n → ((k : ℕ) → k < u → Holding k) → (u < n → Holding u → ⊥) → OldestUnseen n m (rows accepted) u
    oldest-unseen u most full free = record {
      most = most;
      seen = λ k l. (seen-exactly k).1 (full k l);
      unseen = λ l s. free l ((seen-exactly u).0 s);
    }

    -- and the numbers that a test tells not held are the unseen ones
    pub unseen_between : (lacks : ℕ → Bool) → ((k : ℕ) → (lacks k ≡ true) ↔ (Holding k → ⊥)) → (a b : ℕ) → a ≤ b
        → UnseenBetween m (rows accepted) a b (filter lacks (range_with_len a (b - a)))
    unseen_between lacks is a b l = record {
      exactly = λ k. (
        λ i. let h = kept_by_from lacks a (b - a) k i in (h.0, (let u = h.1 in omega arith), λ s. (is k).0 h.2 ((seen-exactly k).0 s)),
        λ h. kept_by_have lacks a (b - a) k h.0 (let u = h.1 in omega arith) ((is k).1 (λ x. h.2 ((seen-exactly k).1 x))),
      );
      once = kept_by_once lacks a (b - a);
    }
