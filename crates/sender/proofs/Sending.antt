-- A send that is not refused: what is drawn is proper, so that the frame is written.
use Rattle.std.proofs.Common.{◌≡◌, ℕ, ◌+◌, ◌<◌, ◌≤◌, eqb, ltb, List, ◌++◌, length, get_or, drop, Ok, Result, sym, refl, ap, ◌∙◌, subst, ap₂, arith}
use Rattle.std.proofs.lemmas.List.FromFn.{length-map-range_with_len, get_or-map-range_with_len}
use Rattle.std.proofs.lemmas.Bool.{cond-false, le-ltb, ne_eqb}
use Rattle.refusal.specs.declared.Refusal.{Refusal}
use Rattle.field.specs.Field.{Means, Laws, times}
use Rattle.carried.specs.Carries.{Carries}
use Rattle.frame.specs.declared.data.Data.{Data}
use Rattle.frame.specs.DataFrame.{frame_of, writing}
use Rattle.frame.specs.Proper.{Proper}
use Rattle.frame.proofs.Frames.{write_done}
use Rattle.frame.proofs.Rules.{flawless}
use Rattle.algebra.specs.Streams.{sum}
use Rattle.algebra.proofs.Codes.{sum-code}
use Rattle.source.specs.Source.{Draws, DrawsLaws}
use Rattle.sender.specs.declared.window.Window.{Window}
use Rattle.sender.specs.Steps.{Sound, Sent, combined, payload, sending, packet_at, width}

-- one record of what a send leaves, from its parts
same_sent : {S : Type 0} {a b : Result ℕ Refusal} {x y : S} {f g : List ℕ} → a ≡ b → x ≡ y → f ≡ g
    → ◌≡◌ {A = Sent S} (record { answer = a; source = x; frame = f }) (record { answer = b; source = y; frame = g })
same_sent p q r = λ t. record { answer = p t; source = q t; frame = r t }

module _ {S : Type 0} (w : ℕ) (m : Means) (laws : Laws m) (c : Carries) (d : Draws S) (draws : DrawsLaws w d)
    (x : Window) (sound : Sound w x) (source : S) (some : x.unseen ≡ x.admitted → ⊥) where
  payload-long : (slots : List ℕ) → length (payload w m x slots) ≡ 128
  unfolding payload
  payload-long slots = length-map-range_with_len (λ p. sum m (width x) (λ i. times m (get_or slots i 0) (get_or (packet_at w x (x.unseen + i)) p 0))) 0 128

  pub payload-at : (slots : List ℕ) (p : ℕ) → p < 128 → get_or (payload w m x slots) p 0 ≡ sum m (width x) (λ i. times m (get_or slots i 0) (get_or (packet_at w x (x.unseen + i)) p 0))
  unfolding payload
  payload-at slots p h = get_or-map-range_with_len (λ p. sum m (width x) (λ i. times m (get_or slots i 0) (get_or (packet_at w x (x.unseen + i)) p 0))) 0 128 p p 0 h (omega arith)

  -- the slots that a send draws
  abbrev pub row : List ℕ
  row = d.slots source m.q (width x)

  pub combined-proper : Proper m.q w (combined w m x row)
  combined-proper =
      let least : 1 ≤ width x = omega arith in
      let most : width x ≤ w = omega arith in
      record {
        least = least;
        most = most;
        in_stream = omega arith;
        slot_count = draws.long source m.q (width x) laws.least least most;
        symbol_count = payload-long row;
        slot_codes = λ k _. draws.codes source m.q (width x) laws.least least most k;
        symbol_codes = λ k h. subst (λ z. z < m.q) (sym (payload-at row k (omega (arith, payload-long row)))) (sum-code m laws (width x) _);
        none_past = draws.within source m.q (width x) laws.least least most;
      }

  -- so writing takes it
  pub wrote : (buffer : List ℕ) → c.len ≤ length buffer
      → (Ok c.len, frame_of c w (combined w m x row) ++ drop c.len buffer) ≡ writing m c w (combined w m x row) buffer
  wrote buffer room =
      let d = combined w m x row in
      write_done m c w d buffer c.len c.len (frame_of c w d) refl refl room (flawless m.q w d combined-proper) refl

  pub sent : (buffer out slots symbols : List ℕ) (n : ℕ) (after : S) (r : Result ℕ Refusal) → c.len ≤ length buffer
      → n ≡ width x → slots ≡ row → after ≡ d.next source m.q (width x) → symbols ≡ payload w m x slots
      → (r, out) ≡ writing m c w (record { base = x.unseen; width = n; slots = slots; symbols = symbols }) buffer
      → record { answer = r; source = after; frame = out } ≡ sending w m c d x source buffer
  sent buffer out slots symbols n after r room wide drawn-row next sums written =
      same_sent (ap (λ z. z.0) all) next (ap (λ z. z.1) all)
      ∙ sym (cond-false (ltb (length buffer) c.len) _ _ (le-ltb _ _ room) ∙ cond-false (eqb x.unseen x.admitted) _ _ (ne_eqb _ _ some))
    where
      says : record { base = x.unseen; width = n; slots = slots; symbols = symbols } ≡ combined w m x row
      says = ap₂ (λ (k : ℕ) (z : List ℕ). record { base = x.unseen; width = k; slots = slots; symbols = z }) wide sums ∙ ap (combined w m x) drawn-row

      all : ◌≡◌ {A = Result ℕ Refusal × List ℕ} (r, out) (Ok c.len, frame_of c w (combined w m x row) ++ drop c.len buffer)
      all = written ∙ ap (λ (z : Data). writing m c w z buffer) says ∙ sym (wrote buffer room)
