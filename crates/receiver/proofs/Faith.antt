-- The state that a log leads to stands for the frames that the log accepted and the packets that it released.
use Rattle.std.proofs.Common.{◌≡◌, ℕ, ◌+◌, ◌*◌, ◌%◌, ◌<◌, ◌≤◌, ltb, List, [], ◌∷◌, length, IfOk, Some, None, Ok, Err, Option, sym, refl, ap, ◌∙◌, subst, mod-lt, arith}
use Rattle.std.proofs.lemmas.List.{get_or-replicate, length-replicate}
use Rattle.std.proofs.lemmas.Bool.{le-ltb, cond-false}
use Rattle.refusal.specs.declared.Refusal.{Refusal}
use Rattle.refusal.specs.declared.Refusal.TheVariants.{Late, Ahead}
use Rattle.field.specs.Field.{Means, Laws}
use Rattle.carried.specs.Carries.{Carries, Lays}
use Rattle.frame.proofs.Frames.{read-proper}
use Rattle.frame.specs.DataFrame.{contents, reading, flaw}
use Rattle.frame.specs.Head.{misfit, first, verdict}
use Rattle.frame.specs.Proper.{Proper}
use Rattle.frame.specs.declared.data.Data.{Data}
use Rattle.elimination.specs.Absorption.{absorbed}
use Rattle.elimination.specs.Tables.{no_rows, row_at}
use Rattle.algebra.proofs.Releasing.{exact_release, counted-release}
use Rattle.algebra.proofs.Represents.{new_represents}
use Rattle.algebra.proofs.Systems.{some_or_none}
use Rattle.receiver.specs.Alignment.{aligned}
use Rattle.receiver.specs.Arrival.{Outcome, arrival, checked, judged, accepted as accepting, arrived}
use Rattle.receiver.specs.Log.{Arrival, call, accepted, released, fresh_count, with_end, top}
use Rattle.receiver.specs.Promise.{Decided, RightCall, RightNewest, Promise}
use Rattle.receiver.specs.Reach.{reach}
use Rattle.receiver.specs.Run.{Run}
use Rattle.receiver.specs.Start.{at_first}
use Rattle.receiver.specs.declared.state.Answer.{Answer}
use Rattle.receiver.specs.declared.state.State.{State}
use Rattle.receiver.proofs.Arrivals.{Near, by_frame}
use Rattle.receiver.proofs.Deciding.{Led, unchanged, led}
use Rattle.receiver.proofs.Rows.{setting, Standing}

verdict-is : (o : Option Refusal) (x d : Data) → verdict o x ≡ Ok d → d ≡ x
verdict-is None x d e = cc
verdict-is (Some r) x d e = absurd (let z : ◌≡◌ {A = ℕ} 0 1 = cc in omega arith)

-- what can be read is what the bytes say
pub read_is : (m : Means) (carries : Carries) (w : ℕ) (bytes : List ℕ) (d : Data) → reading m carries w bytes ≡ Ok d → d ≡ contents carries w bytes
read_is m carries w bytes d =
    verdict-is (first (misfit carries.kind carries.len bytes) (flaw m.q w (contents carries w bytes))) (contents carries w bytes) d

-- and it is proper
pub read-only-proper : (m : Means) (carries : Carries) (w : ℕ) → Lays w m.q carries → w % 8 ≡ 0 → (bytes : List ℕ) (d : Data) → reading m carries w bytes ≡ Ok d → Proper m.q w d
read-only-proper m carries w lays whole bytes d e = subst (λ r. IfOk r (Proper m.q w)) e (read-proper m lays whole bytes _ refl)

module _ (m : Means) (laws : Laws m) (carries : Carries) (w : ℕ) (pos : 0 < w) (lays : Lays w m.q carries) (whole : w % 8 ≡ 0) where
  pub record Faithful (log : List Arrival) (c : State) : Type 0 where
    pub standing : Standing m laws w pos (accepted carries w log) (fresh_count log) (released log) c
    pub reaches : c.top ≡ top carries w log

  new_faithful : Faithful [] (at_first w)
  new_faithful = record {
    standing = record {
      stands = new_represents (setting m laws w pos) _ (row_at (no_rows w)) empty;
      rows = length-replicate w None;
      places = length-replicate w _;
      settled = λ _ y at _. some_or_none at (empty _ (mod-lt 0 pos));
    };
    reaches = refl;
  }
    where
      empty : (i : ℕ) → i < w → row_at (no_rows w) i ≡ None
      empty i l = get_or-replicate w i None None l

  module _ (log : List Arrival) (c : State) (h : Faithful log c) (bytes numbers : List ℕ) where
    -- the log with an arrival that has this outcome
    abbrev After : Outcome → Type 0
    After o = Faithful (call bytes numbers o.answer o.numbers ∷ log) o.state

    refused-after : (e : Refusal) → After (arrival (Err e) c numbers)
    refused-after e = record {
      standing = unchanged m laws w pos (accepted carries w log) (fresh_count log) (released log) c (accepted carries w log) c h.standing;
      reaches = h.reaches;
    }

    abbrev outcome : Data → Outcome
    outcome d = judged w c d numbers (absorbed m w c.released (aligned m w c d) c.table)

    abbrev Leads : Data → Outcome → Type 0
    Leads = Led m laws w pos (accepted carries w log) (fresh_count log) (released log) c

    leads : (d : Data) → reading m carries w bytes ≡ Ok d → Near w c.released d → Leads d (outcome d)
    leads d r near = led m laws w pos (accepted carries w log) (fresh_count log) (released log) c h.standing d (read-only-proper m carries w lays whole bytes d r) near numbers

    led_after : (o : Outcome) → Leads (contents carries w bytes) o → After o
    led_after o l = record { standing = l.standing; reaches = l.top ∙ ap (with_end o.answer (contents carries w bytes)) h.reaches }

    stepped : After (arrived m carries w c bytes numbers)
    stepped =
        by_frame m carries w c bytes numbers After refused-after
        (λ d _ r near. led_after (outcome d) (subst (λ z. Leads z (outcome d)) (read_is m carries w bytes d r) (leads d r near)))

    -- a call that its row decides leads to what the row leads to
    decided : (d : Data) → w * 128 ≤ length numbers → reading m carries w bytes ≡ Ok d → Near w c.released d → arrived m carries w c bytes numbers ≡ outcome d
    decided d room r near =
        cond-false (ltb (length numbers) (w * 128)) _ _ (le-ltb _ _ room)
        ∙ ap (λ x. checked x c numbers (λ f. accepting m w c f numbers)) r
        ∙ ap (λ x. checked x c numbers (λ _. outcome d)) within
      where
        within : reach w c.released d ≡ Ok tt
        within =
            cond-false (ltb (d.base + w) c.released) (Err Late) _ (le-ltb _ _ near.0)
            ∙ cond-false (ltb (c.released + w) (d.base + d.width)) (Err Ahead) (Ok tt) (le-ltb _ _ near.1)

  pub faithful : (log : List Arrival) (c : State) → Run m carries w log c → Faithful log c
  faithful [] c e = subst (Faithful []) (sym e) new_faithful
  faithful (a ∷ log) c (b, run, is) =
      subst (λ (o : Outcome). Faithful (call a.frame a.before o.answer o.numbers ∷ log) o.state) (sym is)
      (stepped log b (faithful log b run) a.frame a.before)

  -- the newest call
  module _ (a : Arrival) (log : List Arrival) (c b : State) (run : Run m carries w log b)
      (is : arrival a.answer c a.after ≡ arrived m carries w b a.frame a.before) where
    before : Faithful log b
    before = faithful log b run

    -- its row decides
    module _ (d : Data) (h : Decided m carries w (length (released log)) a d) where
      near : Near w b.released d
      near = (omega (arith, h.not_late, before.standing.stands.many), omega (arith, h.not_ahead, before.standing.stands.many))

      answered : Led m laws w pos (accepted carries w log) (fresh_count log) (released log) b d (arrival a.answer c a.after)
      answered =
          subst (Led m laws w pos (accepted carries w log) (fresh_count log) (released log) b d)
          (sym (is ∙ decided log b before a.frame a.before d h.room h.readable near)) (leads log b before a.frame a.before d h.readable near)

    abbrev OnlyDecided : Outcome → Type 0
    OnlyDecided o = (x : Answer) → o.answer ≡ Ok x → (d : Data) × Decided m carries w (length (released log)) a d

    only-decided : OnlyDecided (arrived m carries w b a.frame a.before)
    only-decided =
        by_frame m carries w b a.frame a.before OnlyDecided (λ e x i. absurd (let z : ◌≡◌ {A = ℕ} 0 1 = cc in omega arith))
        (λ d room r near _ _. (
          d,
          record {
            room = room;
            readable = r;
            not_late = omega (arith, near.0, before.standing.stands.many);
            not_ahead = omega (arith, near.1, before.standing.stands.many);
          },
        ))

    right-call : RightCall m carries w a log
    right-call = record {
      right = λ d h. (answered d h).answer;
      no_other = λ d h. (answered d h).only;
      only_then = subst OnlyDecided (sym is) only-decided;
    }

  right-newest : (log : List Arrival) (c : State) → Run m carries w log c → RightNewest m carries w log
  right-newest [] c e = tt
  right-newest (a ∷ log) c (b, run, is) = right-call a log c b run is

  pub promised : (log : List Arrival) (c : State) → Run m carries w log c → Promise m carries w log
  promised log c run =
      let f = (faithful log c run).standing in record {
        newest = right-newest log c run;
        release = exact_release (setting m laws w pos) f.stands f.settled;
        counted = counted-release (setting m laws w pos) f.stands f.settled;
      }
