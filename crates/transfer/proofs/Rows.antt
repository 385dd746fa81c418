-- Sends in a row of one window draw in a row from the source, and the frame of each reads back with what it drew.
use Rattle.std.proofs.Common.{◌≡◌, ℕ, suc, ◌+◌, ◌%◌, ◌≤◌, ◌⊎◌, List, [], ◌∷◌, ◌++◌, map, length, Ok, sym, refl, ap, ◌∙◌, subst, inl, inr, arith}
use mathlib.Core.List.Memᴰ
use mathlib.Core.List.{Memᴰ}
use Rattle.field.specs.Field.{Means}
use Rattle.frame.specs.DataFrame.{reading}
use Rattle.frame.specs.declared.data.Data.{Data}
use Rattle.frame.proofs.Frames.{read-written}
use Rattle.frame.proofs.Rules.{flawless}
use Rattle.frame.specs.Proper.{Proper}
use Rattle.algebra.specs.Combinations.{Independent, rows_at}
use Rattle.algebra.specs.Frames.{Frame}
use Rattle.source.specs.Source.{Draws, run as draws-in-a-row, row as row_of}
use Rattle.source.specs.Turning.{row_from_0}
use Rattle.sender.specs.Steps.{combined, width}
use Rattle.sender.proofs.Sending.{combined-proper}
use Rattle.receiver.specs.Log.{accepted}
use Rattle.transfer.specs.Log.{Event, Sending, arrivals, admitted, dropped, sendings}
use Rattle.transfer.specs.Parts.{Parts, PartsLaws, State}
use Rattle.transfer.specs.Run.{Run}
use Rattle.transfer.proofs.Ends.{sound, holds, window-heard}
use Rattle.transfer.proofs.Sends.{Sent, newest}

-- a draw is the first, or one of those after it
first_draw : {S : Type 0} (d : Draws S) (x y : S) (q n k : ℕ) → y ≡ d.next x q n → (slots : List ℕ) → Memᴰ slots (draws-in-a-row d x q n (suc k))
    → (slots ≡ d.slots x q n) ⊎ Memᴰ slots (draws-in-a-row d y q n k)
unfolding draws-in-a-row
first_draw d x y q n k e slots i = later (Memᴰ.cases_cons i)
  where
    later : (slots ≡ d.slots x q n) ⊎ Memᴰ slots (draws-in-a-row d (d.next x q n) q n k)
        → (slots ≡ d.slots x q n) ⊎ Memᴰ slots (draws-in-a-row d y q n k)
    later (inl same) = inl same
    later (inr j) = inr (subst (λ z. Memᴰ slots (draws-in-a-row d z q n k)) (sym e) j)

no_draw : {S : Type 0} (d : Draws S) (x : S) (q n : ℕ) (slots : List ℕ) → Memᴰ slots (draws-in-a-row d x q n 0) → ⊥
unfolding draws-in-a-row
no_draw d x q n slots i = Memᴰ.not-nil i

-- the rows of draws are those with their slots from 0 on
pub independent-at : (m : Means) (draws : List (List ℕ)) → Independent m (map row_of draws) → Independent m (rows_at 0 draws)
independent-at m draws = subst (λ f. Independent m (map f draws)) (sym row_from_0)

-- the send coded the window of n packets from u on
abbrev WindowOf : ℕ → ℕ → Sending → Type 0
WindowOf u n s = (s.from ≡ u) × (s.to ≡ u + n)

module _ {S D R : Type 0} (w : ℕ) (p : Parts S D R) (u n : ℕ) where
  -- one of the frames reads back with these slots, at the window of n packets from u on
  pub record Told (frames : List (List ℕ)) (slots : List ℕ) : Type 0 where
    pub frame : List ℕ
    pub among : Memᴰ frame frames
    pub says : Data
    pub read : reading p.means p.carries w frame ≡ Ok says
    pub base : says.base ≡ u
    pub wide : says.width ≡ n
    pub row : says.slots ≡ slots

  -- the frames tell of the next k draws from here on
  abbrev ToldFrom : List (List ℕ) → S → ℕ → Type 0
  ToldFrom frames source k = (slots : List ℕ) → Memᴰ slots (draws-in-a-row p.draws source p.means.q n k) → Told frames slots

  -- the log just before n sends in a row of that window; the frames tell of all their draws
  pub record Row (x : S) (a : D) (b : R) (frames : List (List ℕ)) (log : List Event) : Type 0 where
    pub past : List Event
    pub state : State S D R
    pub run : Run w p x a b past state
    pub from : dropped past ≡ u
    pub to : length (admitted past) ≡ u + n
    pub told : ToldFrom frames state.source n
    pub kept : (f : Frame) → Memᴰ f (accepted p.carries w (arrivals past)) → Memᴰ f (accepted p.carries w (arrivals log))

  -- the same row, seen from a later log
  row_later : {x : S} {a : D} {b : R} {frames : List (List ℕ)} {past log : List Event}
      → ((f : Frame) → Memᴰ f (accepted p.carries w (arrivals past)) → Memᴰ f (accepted p.carries w (arrivals log)))
      → Row x a b frames past → Row x a b frames log
  row_later more r = record {
    past = r.past;
    state = r.state;
    run = r.run;
    from = r.from;
    to = r.to;
    told = r.told;
    kept = λ f i. more f (r.kept f i);
  }

module _ {S D R : Type 0} (w : ℕ) (whole : w % 8 ≡ 0) (p : Parts S D R) (laws : PartsLaws w p) (x : S) (a : D) (b : R)
    (u n : ℕ) (frames : List (List ℕ)) where
  module _ {log : List Event} {τ : State S D R} {s : Sending} {older : List Sending} (h : Sent w p x a b log τ s older)
      (window : WindowOf u n s) (taken : Memᴰ s.frame frames) where
    from_u : dropped h.past ≡ u
    from_u = sym h.from ∙ window.0

    to_end : length (admitted h.past) ≡ u + n
    to_end = sym h.to ∙ window.1

    base_u : h.state.window.unseen ≡ u
    base_u = (window-heard w p x a b h.past h.state h.run).1 ∙ from_u

    wide-n : width h.state.window ≡ n
    wide-n = omega (arith, base_u, to_end, (holds w p x a b h.past h.state h.run).many)

    -- what its frame says
    abbrev says : Data
    says = combined w p.means h.state.window (p.draws.slots h.state.source p.means.q (width h.state.window))

    own : Proper p.means.q w says
    own =
        combined-proper w p.means laws.means p.carries p.draws laws.draws h.state.window
        (sound w p x a b h.past h.state h.run) h.state.source h.some

    -- it tells of its own draw
    own_told : Told w p u n frames (p.draws.slots h.state.source p.means.q n)
    own_told = record {
      frame = s.frame;
      among = taken;
      says = says;
      read =
          ap (reading p.means p.carries w) h.frame
          ∙ read-written p.means laws.carries whole says own (flawless p.means.q w says own);
      base = base_u;
      wide = wide-n;
      row = ap (p.draws.slots h.state.source p.means.q) wide-n;
    }

    -- so with the draws after it one more is told of
    one_more : (k : ℕ) → ToldFrom w p u n frames τ.source k → ToldFrom w p u n frames h.state.source (suc k)
    one_more k rest slots i =
        pick (first_draw p.draws h.state.source τ.source p.means.q n k (h.drawn ∙ ap (p.draws.next h.state.source p.means.q) wide-n) slots i)
      where
        pick : (slots ≡ p.draws.slots h.state.source p.means.q n) ⊎ Memᴰ slots (draws-in-a-row p.draws τ.source p.means.q n k)
            → Told w p u n frames slots
        pick (inl e) = subst (Told w p u n frames) (sym e) own_told
        pick (inr j) = rest slots j

  -- back over the sends of a row, from the newest to the oldest, with the k draws made since
  row_back : (log : List Event) (τ : State S D R) → Run w p x a b log τ → (s : Sending) (row older : List Sending) → sendings log ≡ s ∷ row ++ older
      → ((z : Sending) → Memᴰ z (s ∷ row) → WindowOf u n z) → ((z : Sending) → Memᴰ z (s ∷ row) → Memᴰ z.frame frames)
      → (k : ℕ) → suc k + length row ≡ n → ToldFrom w p u n frames τ.source k → Row w p u n x a b frames log
  row_back log τ run s [] older e window taken k many rest =
      let h = newest w p x a b log τ run s older e in
      let all : suc k ≡ n = omega arith in
      let own = Memᴰ.head refl in
      record {
        past = h.past;
        state = h.state;
        run = h.run;
        from = from_u h (window s own) (taken s own);
        to = to_end h (window s own) (taken s own);
        told = subst (ToldFrom w p u n frames h.state.source) all (one_more h (window s own) (taken s own) k rest);
        kept = h.kept;
      }
  row_back log τ run s (z ∷ row) older e window taken k many rest =
      let h = newest w p x a b log τ run s (z ∷ row ++ older) e in
      let own = Memᴰ.head refl in
      row_later w p u n h.kept
      (row_back h.past h.state h.run z row older h.before (λ y i. window y (Memᴰ.tail i)) (λ y i. taken y (Memᴰ.tail i))
      (suc k) (omega arith) (one_more h (window s own) (taken s own) k rest))

  -- a row of n sends, one or more, and what was sent since
  pub row_sent : (newer row older : List Sending) (log : List Event) (τ : State S D R) → Run w p x a b log τ → sendings log ≡ newer ++ (row ++ older)
      → ((z : Sending) → Memᴰ z row → WindowOf u n z) → ((z : Sending) → Memᴰ z row → Memᴰ z.frame frames)
      → 1 ≤ n → length row ≡ n → Row w p u n x a b frames log
  row_sent (s ∷ newer) row older log τ run e window taken some many =
      let h = newest w p x a b log τ run s (newer ++ (row ++ older)) e in
      row_later w p u n h.kept (row_sent newer row older h.past h.state h.run h.before window taken some many)
  row_sent [] [] older log τ run e window taken some many = absurd (omega arith)
  row_sent [] (s ∷ row) older log τ run e window taken some many = row_back log τ run s row older e window taken 0 (omega arith) none
    where
      none : ToldFrom w p u n frames τ.source 0
      none slots i = absurd (no_draw p.draws τ.source p.means.q n slots i)
