-- Proper frames that some stream fits have an exact release, counted by the fresh rows: a receiver whose window is as long
-- as the stream finds it, since every frame is in its reach.
use Rattle.std.proofs.Common.{◌≡◌, ℕ, zero, suc, ◌+◌, ◌%◌, ◌<◌, ◌≤◌, ◌≢◌, ◌⊎◌, List, [], ◌∷◌, ◌++◌, map, length, get_or, set, replicate, Some, None, Option, sym, refl, ap, ◌∙◌, subst₂, inl, inr, mod-lt, zero-add, arith}
use mathlib.Core.List.Memᴰ
use mathlib.Core.Logic.{ite, if_pos, if_neg}
use native.Mathlib.Decide.{ℕ_discrete, dec_lt}
use Rattle.std.proofs.lemmas.List.FromFn.{length-map-range_with_len, get_or-map-range_with_len}
use Rattle.std.specs.List.{range_with_len}
use Rattle.field.specs.Field.{Means, Laws, minus, times}
use Rattle.algebra.specs.Frames.{Frame, Proper}
use Rattle.algebra.specs.Streams.{Fitting}
use Rattle.algebra.specs.Combinations.{rows, Spanned, Rank}
use Rattle.algebra.specs.Promises.{ExactRelease, CountedRelease}
use Rattle.algebra.specs.Theorems.{ReleaseExists, ReleaseIsCounted}
use Rattle.algebra.proofs.Systems.{look}
use Rattle.algebra.proofs.Codes.{code_value, has_inverse}
use Rattle.algebra.proofs.Words.{AllProper}
use Rattle.algebra.proofs.Setting.{Setting}
use Rattle.algebra.proofs.Lines.{Lessened, Scaled}
use Rattle.algebra.proofs.Tables.{Joined}
use Rattle.algebra.proofs.Represents.{Represents, new_represents}
use Rattle.algebra.proofs.Placing.{Placed, placed-none, placed-released, placed-slot}
use Rattle.algebra.proofs.Reducing.{Left, left-none, left_skip, left_less}
use Rattle.algebra.proofs.Accepting.{zero_spanned, clash_contradicts, repeat_represents, fresh-unspanned, fresh_represents}
use Rattle.algebra.proofs.Releasing.{Settled, release_represents, exact_release, counted-release}
use Rattle.algebra.proofs.Determined.{release_is_determined_lem}

-- the first number that is not 0, of n
first : (g : ℕ → ℕ) (n : ℕ) → ((j : ℕ) → j < n → g j ≡ 0) ⊎ ((d : ℕ) × (d < n) × ((j : ℕ) → j < d → g j ≡ 0) × (g d ≢ 0))
first g zero = inl (λ j l. absurd (omega arith))
first g (suc n) = go (first g n) (ℕ_discrete (g n) 0)
  where
    go : ((j : ℕ) → j < n → g j ≡ 0) ⊎ ((d : ℕ) × (d < n) × ((j : ℕ) → j < d → g j ≡ 0) × (g d ≢ 0)) → Dec (g n ≡ 0)
        → ((j : ℕ) → j < suc n → g j ≡ 0) ⊎ ((d : ℕ) × (d < suc n) × ((j : ℕ) → j < d → g j ≡ 0) × (g d ≢ 0))
    go (inr d) _ = inr (d.0, (let h = d.1 in omega arith), d.2, d.3)
    go (inl z) (no ne) = inr (n, omega arith, z, ne)
    go (inl z) (yes e) = inl (λ j l. pick j l (ℕ_discrete j n))
      where
        pick : (j : ℕ) → j < suc n → Dec (j ≡ n) → g j ≡ 0
        pick j l (yes i) = ap g i ∙ e
        pick j l (no ne) = z j (omega arith)

-- there is one such count
rank_one : (m : Means) (xs : List (ℕ → ℕ)) (b c : ℕ) → Rank m xs b → Rank m xs c → b ≡ c
rank_one m [] b c p q = p ∙ sym q
rank_one m (x ∷ xs) b c p q = go (rank_one m xs p.0 q.0 p.1 q.1) p.2 q.2
  where
    go : p.0 ≡ q.0 → (Spanned m xs x × (b ≡ p.0)) ⊎ ((Spanned m xs x → ⊥) × (b ≡ p.0 + 1))
        → (Spanned m xs x × (c ≡ q.0)) ⊎ ((Spanned m xs x → ⊥) × (c ≡ q.0 + 1)) → b ≡ c
    go e (inl u) (inl v) = omega (arith, u.1, v.1)
    go e (inl u) (inr v) = absurd (v.0 u.0)
    go e (inr u) (inl v) = absurd (u.0 v.0)
    go e (inr u) (inr v) = omega (arith, u.1, v.1)

module _ (n size : ℕ) (n_pos : 0 < n) (size_pos : 0 < size) (m : Means) (laws : Laws m) where
  -- a row is its slots and its payload
  abbrev Row : Type 0
  Row = List ℕ × List ℕ

  abbrev S : Setting Row
  S = record { slots = λ x. x.0; payload = λ x. x.1; w = n; n = n; size = size; w_pos = n_pos; size_pos = size_pos; m = m; laws = laws }

  abbrev less : ℕ → List ℕ → List ℕ → List ℕ
  less c ys xs = map (λ i. minus m (get_or xs i 0) (times m c (get_or ys i 0))) (range_with_len 0 (length xs))

  lessened : (c : ℕ) (ys xs : List ℕ) → Lessened m c xs ys (less c ys xs)
  lessened c ys xs = record {
    long = length-map-range_with_len (λ i. minus m (get_or xs i 0) (times m c (get_or ys i 0))) 0 (length xs);
    each = λ i l. get_or-map-range_with_len (λ i. minus m (get_or xs i 0) (times m c (get_or ys i 0))) 0 (length xs) i i 0 l (zero-add i);
  }

  abbrev scale : ℕ → List ℕ → List ℕ
  scale c xs = map (λ i. times m c (get_or xs i 0)) (range_with_len 0 (length xs))

  scaled : (c : ℕ) (xs : List ℕ) → Scaled m c xs (scale c xs)
  scaled c xs = record {
    long = length-map-range_with_len (λ i. times m c (get_or xs i 0)) 0 (length xs);
    each = λ i l. get_or-map-range_with_len (λ i. times m c (get_or xs i 0)) 0 (length xs) i i 0 l (zero-add i);
  }

  -- a state that stands for the frames
  record State (accepted : List Frame) (fresh : ℕ) : Type 0 where
    r : ℕ
    released : List (List ℕ)
    kept : ℕ → List ℕ
    table : ℕ → Option Row
    rep : Represents S accepted fresh r released kept table

  module _ {accepted : List Frame} {fresh : ℕ} (st : State accepted fresh) (f : Frame) (proper : Proper n size m.q f) where
    placed : (b : ℕ) → b ≤ n → (xs : List ℕ) × (ps : List ℕ) × Placed S st.rep f proper b xs ps
    placed zero _ = (replicate n 0, f.payload, placed-none S st.rep f proper 0 (λ k l. absurd (omega arith)))
    placed (suc b) l = go (dec_lt b st.r) (placed b (omega arith))
      where
        go : Dec (b < st.r) → (xs : List ℕ) × (ps : List ℕ) × Placed S st.rep f proper b xs ps → (xs : List ℕ) × (ps : List ℕ) × Placed S st.rep f proper (suc b) xs ps
        go (yes h) (xs, ps, p) = (xs, less (f.row b) (st.kept (b % n)) ps, placed-released S st.rep f proper p refl h (omega (arith, st.rep.most)) (lessened (f.row b) (st.kept (b % n)) ps))
        go (no h) (xs, ps, p) = (set xs (b % n) (f.row b), ps, placed-slot S st.rep f proper p refl (omega arith) (omega arith))

    left : (i : ℕ) → i ≤ n → (xs : List ℕ) × (ps : List ℕ) × Left S st.rep f proper i xs ps
    left zero _ = let p = placed n (omega arith) in (p.0, p.1, left-none S st.rep f proper p.2 proper.row_ends (omega arith))
    left (suc i) l = go (look (st.table i)) (left i (omega arith))
      where
        go : (st.table i ≡ None) ⊎ ((y : Row) × (st.table i ≡ Some y)) → (xs : List ℕ) × (ps : List ℕ) × Left S st.rep f proper i xs ps
            → (xs : List ℕ) × (ps : List ℕ) × Left S st.rep f proper (suc i) xs ps
        go (inl e) (xs, ps, p) = (xs, ps, left_skip S st.rep f proper p e)
        go (inr (y, e)) (xs, ps, p) =
            (less (get_or xs i 0) y.0 xs, less (get_or xs i 0) y.1 ps, left_less S st.rep f proper p y (omega arith) e (lessened (get_or xs i 0) y.0 xs) (lessened (get_or xs i 0) y.1 ps))

    -- the table with the row h at the place p, which is cleared elsewhere
    cleared : ℕ → Row → Option Row → Option Row
    cleared p h None = None
    cleared p h (Some x) = Some (less (get_or x.0 p 0) h.0 x.0, less (get_or x.0 p 0) h.1 x.1)

    join : ℕ → Row → ℕ → Option Row
    join p h i = ite (ℕ_discrete i p) (Some h) (cleared p h (st.table i))

    joined : (p : ℕ) (h : Row) → Joined S p h st.table (join p h)
    unfolding join cleared
    joined p h = record {
      here = if_pos (ℕ_discrete p p) refl (Some h) (cleared p h (st.table p));
      none_more = λ i _ ne e. if_neg (ℕ_discrete i p) ne (Some h) (cleared p h (st.table i)) ∙ ap (cleared p h) e;
      cleared = λ i x _ ne e. (
        (less (get_or x.0 p 0) h.0 x.0, less (get_or x.0 p 0) h.1 x.1),
        if_neg (ℕ_discrete i p) ne (Some h) (cleared p h (st.table i)) ∙ ap (cleared p h) e,
        lessened (get_or x.0 p 0) h.0 x.0,
        lessened (get_or x.0 p 0) h.1 x.1,
      );
    }

    -- the state after the frame, and whether its row was fresh
    abbrev Accepted : Type 0
    Accepted = (c : ℕ) × State (f ∷ accepted) c × ((Spanned m (rows accepted) f.row × (c ≡ fresh)) ⊎ ((Spanned m (rows accepted) f.row → ⊥) × (c ≡ fresh + 1)))

    accept : (s : ℕ → List ℕ) → Fitting n size m (f ∷ accepted) s → Accepted
    accept s fit = let p = left n (omega arith) in go p.0 p.1 p.2 (first (λ j. get_or p.0 ((st.r + j) % n) 0) n) (first (λ i. get_or p.1 i 0) size)
      where
        go : (xs ps : List ℕ) → Left S st.rep f proper n xs ps
            → ((j : ℕ) → j < n → get_or xs ((st.r + j) % n) 0 ≡ 0)
            ⊎ ((d : ℕ) × (d < n) × ((j : ℕ) → j < d → get_or xs ((st.r + j) % n) 0 ≡ 0) × (get_or xs ((st.r + d) % n) 0 ≢ 0))
            → ((i : ℕ) → i < size → get_or ps i 0 ≡ 0) ⊎ ((i : ℕ) × (i < size) × ((j : ℕ) → j < i → get_or ps j 0 ≡ 0) × (get_or ps i 0 ≢ 0))
            → Accepted
        go xs ps p (inl z) (inl y) = (
          fresh,
          record { r = st.r; released = st.released; kept = st.kept; table = st.table; rep = repeat_represents S st.rep f proper p z y },
          inl (zero_spanned S st.rep f proper p z, refl),
        )
        go xs ps p (inl z) (inr (i, l, _, ne)) = absurd (clash_contradicts S st.rep f proper p z i l ne s fit)
        go xs ps p (inr (d, near, low, lead)) _ =
            let q = (st.r + d) % n in
            let c = has_inverse m (get_or xs q 0) (λ e. lead (sym (code_value m laws (get_or xs q 0) (p.slots_codes.codes q (mod-lt (st.r + d) n_pos))) ∙ e)) in (
              fresh + 1,
              record {
                r = st.r;
                released = st.released;
                kept = st.kept;
                table = join q (scale c.0 xs, scale c.0 ps);
                rep = fresh_represents S st.rep f proper p d near low lead c.0 c.1 (scale c.0 xs, scale c.0 ps) (scaled c.0 xs) (scaled c.0 ps)
                    (join q (scale c.0 xs, scale c.0 ps)) (joined q (scale c.0 xs, scale c.0 ps));
              },
              inr (fresh-unspanned S st.rep f proper p d near low lead, refl),
            )

  -- a state with nothing left to release
  abbrev Still : List Frame → ℕ → Type 0
  Still accepted fresh = (st : State accepted fresh) × (st.r < n → Settled S st.r st.table)

  -- packets are released while the next one is known
  release : {accepted : List Frame} {fresh : ℕ} (d : ℕ) (st : State accepted fresh) → n ≤ st.r + d → Still accepted fresh
  release zero st l = (st, λ h. absurd (omega arith))
  release {accepted} {fresh} (suc d) st l = go (look (st.table p)) (release d)
    where
      p : ℕ
      p = st.r % n

      -- the number at a place beside p, and 0 at p
      beside : Row → ℕ → ℕ
      beside y i = ite (ℕ_discrete i p) 0 (get_or y.0 i 0)

      go : (st.table p ≡ None) ⊎ ((y : Row) × (st.table p ≡ Some y))
          → ((st : State accepted fresh) → n ≤ st.r + d → Still accepted fresh)
          → Still accepted fresh
      go (inl e) _ = (st, λ _ y h _. absurd (let x : ◌≡◌ {A = ℕ} 0 1 = cc in omega arith))
      go (inr (y, e)) next = pick (first (beside y) n)
        where
          pick : ((i : ℕ) → i < n → beside y i ≡ 0) ⊎ ((i : ℕ) × (i < n) × ((j : ℕ) → j < i → beside y j ≡ 0) × (beside y i ≢ 0))
              → Still accepted fresh
          pick (inr (i, l, _, ne)) = (st, λ _ z h none. ne (at z h none (ℕ_discrete i p)))
            where
              at : (z : Row) → st.table p ≡ Some z → ((i : ℕ) → i < n → i ≢ p → get_or z.0 i 0 ≡ 0) → (t : Dec (i ≡ p)) → ite t 0 (get_or y.0 i 0) ≡ 0
              at z h none (yes _) = refl
              at z h none (no d) = let same : y ≡ z = cc in ap (λ x. get_or x.0 i 0) same ∙ none i l d
          pick (inl z) =
              next (record {
                r = st.r + 1;
                released = st.released ++ y.1 ∷ [];
                kept = kept;
                table = table;
                rep = release_represents S st.rep y kept table e (λ i l ne. sym (if_neg (ℕ_discrete i p) ne 0 (get_or y.0 i 0)) ∙ z i l)
                    (if_pos (ℕ_discrete p p) refl y.1 (st.kept p)) (λ i _ ne. if_neg (ℕ_discrete i p) ne y.1 (st.kept i))
                    (if_pos (ℕ_discrete p p) refl None (st.table p)) (λ i _ ne. if_neg (ℕ_discrete i p) ne None (st.table i));
              }) (omega arith)
            where
              kept : ℕ → List ℕ
              kept i = ite (ℕ_discrete i p) y.1 (st.kept i)

              table : ℕ → Option Row
              table i = ite (ℕ_discrete i p) None (st.table i)

  state : (accepted : List Frame) → AllProper n size m.q accepted → (s : ℕ → List ℕ) → Fitting n size m accepted s
      → (fresh : ℕ) × State accepted fresh × Rank m (rows accepted) fresh
  state [] _ s fit =
      (0, record { r = 0; released = []; kept = λ _. []; table = λ _. None; rep = new_represents S (λ _. []) (λ _. None) (λ _ _. refl) }, refl)
  state (f ∷ fs) proper s fit =
      let old = state fs (λ g i. proper g (Memᴰ.tail i)) s (record { stream = fit.stream; fits = λ g i. fit.fits g (Memᴰ.tail i) }) in
      let new = accept old.1 f (proper f (Memᴰ.head refl)) s fit in
      (new.0, new.1, (old.0, old.2, new.2))

  -- all frames accepted, and all packets released that are known
  still : (accepted : List Frame) → AllProper n size m.q accepted → (s : ℕ → List ℕ) → Fitting n size m accepted s
      → (fresh : ℕ) × Still accepted fresh × Rank m (rows accepted) fresh
  still accepted proper s fit = let st = state accepted proper s fit in (st.0, release n st.1 (omega arith), st.2)

  exists : (accepted : List Frame) → AllProper n size m.q accepted → (s : ℕ → List ℕ) → Fitting n size m accepted s
      → (released : List (List ℕ)) × ExactRelease n size m accepted released
  exists accepted proper s fit =
      let st = (still accepted proper s fit).1 in
      (st.0.released, exact_release S st.0.rep st.1)

  counted : (accepted : List Frame) → AllProper n size m.q accepted → (released : List (List ℕ)) → ExactRelease n size m accepted released
      → (fresh : ℕ) → Rank m (rows accepted) fresh → CountedRelease n accepted fresh released
  counted accepted proper released exact fresh rank =
      let z = still accepted proper exact.consistent.0 exact.consistent.1 in
      let st = z.1 in
      subst₂ (CountedRelease n accepted) (rank_one m (rows accepted) z.0 fresh z.2 rank)
      (release_is_determined_lem n size m accepted accepted st.0.released released (λ s. (λ h. h, λ h. h)) (exact_release S st.0.rep st.1) exact)
      (counted-release S st.0.rep st.1)

pub release_exists_lem : ReleaseExists
release_exists_lem = exists

pub release_is_counted : ReleaseIsCounted
release_is_counted = counted
