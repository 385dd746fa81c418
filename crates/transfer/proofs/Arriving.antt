-- What one more call of the receiver keeps, and what it adds.
use Rattle.std.proofs.Common.{◌≡◌, ℕ, ◌+◌, ◌*◌, ◌%◌, ◌<◌, ◌≤◌, ◌⊎◌, List, [], ◌∷◌, length, get_or, Ok, Err, Result, sym, refl, ap, ◌∙◌, subst, ap₂, inr, ⊎_elim, arith}
use mathlib.Core.List.Memᴰ
use mathlib.Core.List.{Memᴰ}
use Rattle.std.proofs.lemmas.List.{length-append}
use Rattle.std.proofs.lemmas.Bool.{cases_lt}
use Rattle.refusal.specs.declared.Refusal.{Refusal}
use Rattle.field.specs.Field.{Means, Laws}
use Rattle.carried.specs.Carries.{Carries, Lays}
use Rattle.frame.proofs.Heads.{number_back}
use Rattle.frame.specs.DataFrame.{contents}
use Rattle.frame.specs.ReportFrame.{report_of, reading_report}
use Rattle.frame.specs.declared.data.Data.{Data}
use Rattle.algebra.proofs.Frames.{row-after}
use Rattle.algebra.proofs.Growing.{spans_grow_lem}
use Rattle.algebra.proofs.Words.{AllProper}
use Rattle.algebra.specs.Combinations.{rows, Seen}
use Rattle.algebra.specs.Frames.{Codes, Frame}
use Rattle.algebra.specs.Streams.{Fits, Fitting}
use Rattle.receiver.proofs.Faith.{faithful, promised, read_is, read-only-proper}
use Rattle.receiver.proofs.Reporting.{reported-right}
use Rattle.receiver.specs.Arrival.{arrival, arrived}
use Rattle.receiver.specs.Log.{Arrival, call, said, with_frame, accepted, wrote, released}
use Rattle.receiver.specs.Promise.{Decided}
use Rattle.receiver.specs.Reports.{reported}
use Rattle.receiver.specs.Run.{Run as Receiver-run}
use Rattle.receiver.specs.declared.state.Answer.{Answer}
use Rattle.receiver.specs.declared.state.State.{State as Receiver-state}
use Rattle.transfer.proofs.Coding.{Coding, filled, filled-begins, filled-fits, fits_alike}
use Rattle.transfer.proofs.Waiting.{Coded, Reports, Implied, Borne, Keeps, coded_later}

-- one more accepted frame
accepted_cases : (r : Result Answer Refusal) (f : Frame) (frames : List Frame) (g : Frame) → Memᴰ g (with_frame r f frames)
    → (g ≡ f) ⊎ Memᴰ g frames
accepted_cases (Ok x) f frames g i = Memᴰ.cases_cons i
accepted_cases (Err e) f frames g i = inr i

accepted-more : (r : Result Answer Refusal) (f : Frame) (frames : List Frame) (g : Frame) → Memᴰ g frames
    → Memᴰ g (with_frame r f frames)
accepted-more (Ok x) f frames g i = Memᴰ.tail i
accepted-more (Err e) f frames g i = i

-- what is seen stays seen
seen_more : (m : Means) → Laws m → (r : Result Answer Refusal) (f : Frame) (frames : List Frame) → AllProper 65536 128 m.q (with_frame r f frames)
    → (k : ℕ) → Seen m (rows frames) k → Seen m (rows (with_frame r f frames)) k
seen_more m laws (Ok x) f frames proper k s = (spans_grow_lem m laws f.row (proper f (Memᴰ.head refl)).row_codes (rows frames)).seen k s
seen_more m laws (Err e) f frames proper k s = s

-- a report reads back
report_reads : (n : ℕ × ℕ) → n.0 ≤ 65536 → n.1 ≤ 65536 → reading_report (report_of n) ≡ Ok n
report_reads n a b = ap₂ (λ (x y : ℕ). Ok (x, y)) (number_back n.0 (omega arith)) (number_back n.1 (omega arith))

module _ (m : Means) (laws : Laws m) (carries : Carries) (w : ℕ) (pos : 0 < w) (lays : Lays w m.q carries) (whole : w % 8 ≡ 0) where
  -- one more call of the receiver
  module _ (calls : List Arrival) (c : Receiver-state) (run : Receiver-run m carries w calls c) (g before : List ℕ)
      (r : Result Answer Refusal) (d : Receiver-state) (after : List ℕ) (is : arrival r d after ≡ arrived m carries w c g before) where
    abbrev one : Arrival
    one = call g before r after

    abbrev then : Receiver-run m carries w (one ∷ calls) d
    then = (c, run, is)

    more-seen : (k : ℕ) → Seen m (rows (accepted carries w calls)) k → Seen m (rows (accepted carries w (one ∷ calls))) k
    more-seen = seen_more m laws r _ _ (faithful m laws carries w pos lays whole (one ∷ calls) d then).standing.stands.proper

    more-released : length (released calls) ≤ length (released (one ∷ calls))
    more-released = omega (arith, length-append (released calls) (wrote r after))

    less-fitting : (s : ℕ → List ℕ) → Fitting 65536 128 m (accepted carries w (one ∷ calls)) s → Fitting 65536 128 m (accepted carries w calls) s
    less-fitting s h = record { stream = h.stream; fits = λ f i. h.fits f (accepted-more r _ _ f i) }

    more-borne : (numbers : ℕ × ℕ) → Borne m carries w calls numbers → Borne m carries w (one ∷ calls) numbers
    more-borne numbers b = record { confirmed = omega (arith, b.confirmed, more-released); trimmed = λ k l. more-seen k (b.trimmed k l) }

    more-reports : (f : List ℕ) → Reports m carries w calls f → Reports m carries w (one ∷ calls) f
    more-reports f h = record {
      count = h.count;
      oldest = h.oldest;
      read = h.read;
      most = omega (arith, h.most, more-released);
      seen = λ k l. more-seen k (h.seen k l);
    }

    more-implied : (f : List ℕ) → Implied m carries w calls f → Implied m carries w (one ∷ calls) f
    more-implied f h x e s fit = h x e s (less-fitting s fit)

    -- the report after it
    new_report : Reports m carries w (one ∷ calls) (report_of (reported w d))
    new_report =
        let right = reported-right m laws carries w pos lays whole (one ∷ calls) d then in
        let most = (promised m laws carries w pos lays whole (one ∷ calls) d then).release.most in
        record {
          count = (reported w d).0;
          oldest = (reported w d).1;
          read = report_reads (reported w d) (omega (arith, right.count, most)) right.oldest.most;
          most = omega (arith, right.count);
          seen = right.oldest.seen;
        }

    -- of a frame that waited on the data link, where the buffer has room
    module _ (packets : List (List ℕ)) (codes : (k : ℕ) → k < length packets → Codes m.q 128 (get_or packets k []))
        (numbers : ℕ × ℕ) (forth back took : List (List ℕ)) (h : Keeps m carries w packets calls numbers forth back took)
        (waited : Memᴰ g forth) (room : w * 128 ≤ length before) where
      -- what it says
      t : Coded m carries w packets (length (released calls) + w) g
      t = coded_later m carries w packets (numbers.0 + w) (length (released calls) + w) (omega (arith, h.borne.confirmed)) g (h.coded g waited)

      more-coding : (f : Frame) → Memᴰ f (accepted carries w (one ∷ calls)) → Coding m packets f
      more-coding f i =
          ⊎_elim (λ e. subst (Coding m packets) (sym (e ∙ ap said (sym (read_is m carries w g t.says t.read)))) t.coding) (h.coding f)
          (accepted_cases r _ _ f i)

      -- the admitted packets, followed by zeros, fit it and all accepted before
      known : Fitting 65536 128 m (said t.says ∷ accepted carries w calls) (filled 0 packets)
      known = filled-fits m packets codes (said t.says ∷ accepted carries w calls)
          (λ f i. ⊎_elim (λ e. subst (Coding m packets) (sym e) t.coding) (h.coding f) (Memᴰ.cases_cons i)) 0 (omega (arith, laws.least))

      -- it is accepted, unless it comes late
      module _ (not_late : length (released calls) ≤ t.says.base + w) where
        decided : Decided m carries w (length (released calls)) one t.says
        decided = record { room = room; readable = t.read; not_late = not_late; not_ahead = t.near }

        in_time : (x : Result Answer Refusal) → r ≡ x
            → Memᴰ (said t.says) (with_frame x (said (contents carries w g)) (accepted carries w calls))
        in_time (Ok x) e = Memᴰ.head (ap said (read_is m carries w g t.says t.read))
        in_time (Err x) e =
            let newest = (promised m laws carries w pos lays whole (one ∷ calls) d then).newest in
            let why = newest.no_other t.says decided x e in
            absurd ((newest.right t.says decided).refused.0 (e ∙ ap (λ z. Err z) why) (filled 0 packets) known)

      -- if it does, all its packets are released, so that all streams that fit agree on them
      late : t.says.base + w < length (released calls) → (s : ℕ → List ℕ)
          → Fitting 65536 128 m (accepted carries w calls) s → Fits 65536 128 m s (said t.says)
      late l s fit =
          let release = (promised m laws carries w pos lays whole calls c run).release in
          let proper = read-only-proper m carries w lays whole g t.says t.read in
          let known-before : Fitting 65536 128 m (accepted carries w calls) (filled 0 packets) =
          record { stream = known.stream; fits = λ f i. known.fits f (Memᴰ.tail i) } in
          fits_alike m laws (said t.says) (t.says.base + t.says.width)
          (row-after t.says.base t.says.slots t.says.width proper.none_past)
          s (filled 0 packets)
          (λ k b.
          let in-range : k < length (released calls) = omega (arith, proper.most) in
          sym (release.right s fit k in-range) ∙ release.right (filled 0 packets) known-before k in-range)
          (t.coding.fits (filled 0 packets) (filled-begins 0 packets))

      fits-taken : (s : ℕ → List ℕ) → Fitting 65536 128 m (accepted carries w (one ∷ calls)) s → Fits 65536 128 m s (said t.says)
      fits-taken s fit =
          ⊎_elim (λ l. late l s (less-fitting s fit)) (λ in_reach. fit.fits (said t.says) (in_time in_reach r refl))
          (cases_lt (t.says.base + w) (length (released calls)))

      new_implied : Implied m carries w (one ∷ calls) g
      new_implied x e s fit =
          subst (λ (y : Data). Fits 65536 128 m s (said y)) (read_is m carries w g t.says t.read ∙ sym (read_is m carries w g x e))
          (fits-taken s fit)

      -- the call takes the frame from its link, and puts its report on the other
      pub arrival_keeps : (forth' back' : List (List ℕ)) → ((f : List ℕ) → Memᴰ f forth' → Memᴰ f forth)
          → ((f : List ℕ) → Memᴰ f back' → Memᴰ f back ⊎ (f ≡ report_of (reported w d)))
          → Keeps m carries w packets (one ∷ calls) numbers forth' back' (g ∷ took)
      arrival_keeps forth' back' from-forth from_back = record {
        coding = more-coding;
        borne = more-borne numbers h.borne;
        coded = λ f i. h.coded f (from-forth f i);
        reports = λ f i.
            ⊎_elim (λ j. more-reports f (h.reports f j)) (λ e. subst (Reports m carries w (one ∷ calls)) (sym e) new_report) (from_back f i);
        implied = λ f i.
            ⊎_elim (λ e. subst (Implied m carries w (one ∷ calls)) (sym e) new_implied) (λ j. more-implied f (h.implied f j)) (Memᴰ.cases_cons i);
      }
