-- The frame that a send writes fits every stream that begins with the admitted packets.
use Rattle.std.proofs.Common.{◌≡◌, ℕ, ◌+◌, ◌%◌, ◌<◌, ◌≤◌, eqb, ltb, ◌⊎◌, List, ◌++◌, length, get_or, take, drop, IfOk, Result, sym, refl, ap, ◌∙◌, subst, ap₂, inl, inr, arith}
use Rattle.std.proofs.lemmas.Bool.{cond_both, eqb-false, ltb-false}
use Rattle.refusal.specs.declared.Refusal.{Refusal}
use Rattle.field.specs.Field.{Means, Laws, times}
use Rattle.carried.specs.Carries.{Carries, Lays}
use Rattle.frame.specs.DataFrame.{frame_of}
use Rattle.frame.proofs.Frames.{comes_back}
use Rattle.algebra.specs.Frames.{row_at, frame_at}
use Rattle.algebra.specs.Streams.{Fits}
use Rattle.algebra.proofs.Frames.{row_before, row-slot, row-after}
use Rattle.source.specs.Source.{Draws, DrawsLaws}
use Rattle.sender.specs.declared.window.Window.{Window}
use Rattle.sender.specs.Packets.{Begins, Holds, Tells, TellsPackets}
use Rattle.sender.specs.Steps.{Sound, Sent, combined, payload, sending, packet_at, width}
use Rattle.field.proofs.Zeros.{zero_times}
use Rattle.sender.proofs.Payloads.{sum_same, sum-window}
use Rattle.sender.proofs.Sending.{combined-proper, payload-at, wrote}

module _ {S : Type 0} (w : ℕ) (whole : w % 8 ≡ 0) (m : Means) (laws : Laws m) (c : Carries) (lays : Lays w m.q c) (d : Draws S)
    (draws : DrawsLaws w d) (x : Window) (sound : Sound w x) (source : S) where
  module _ (packets : List (List ℕ)) (holds : Holds w m.q packets x) where
    module _ (some : x.unseen ≡ x.admitted → ⊥) where
      abbrev slots : List ℕ
      slots = d.slots source m.q (width x)

      -- the rest of the stream does not count, and in the window the stream has the packets that the window holds
      pub fits : (s : ℕ → List ℕ) → Begins packets s → Fits 65536 128 m s (frame_at x.unseen slots (payload w m x slots))
      fits s begins p h =
          sum-window m laws 65536 x.unseen (width x) (λ k. times m (row_at x.unseen slots k) (get_or (s k) p 0)) (omega arith) outside
          ∙ sum_same m (width x) _ _ inside
          ∙ sym (payload-at w m laws c d draws x sound source some slots p h)
        where
          outside : (k : ℕ) → (k < x.unseen) ⊎ (x.unseen + width x ≤ k) → times m (row_at x.unseen slots k) (get_or (s k) p 0) ≡ 0
          outside k (inl l) = ap (λ (a : ℕ). times m a (get_or (s k) p 0)) (row_before x.unseen slots k l) ∙ zero_times m laws (get_or (s k) p 0)
          outside k (inr l) = ap (λ (a : ℕ). times m a (get_or (s k) p 0)) (row-after x.unseen slots (width x) (combined-proper w m laws c d draws x sound source some).none_past k l) ∙ zero_times m laws (get_or (s k) p 0)

          inside : (i : ℕ) → i < width x → times m (row_at x.unseen slots (x.unseen + i)) (get_or (s (x.unseen + i)) p 0) ≡ times m (get_or slots i 0) (get_or (packet_at w x (x.unseen + i)) p 0)
          inside i l =
              ap₂ (times m) (row-slot x.unseen slots i)
              (ap (λ (xs : List ℕ). get_or xs p 0) (begins (x.unseen + i) (omega (arith, holds.many)) ∙ sym (holds.kept (x.unseen + i) (omega arith) (omega arith))))

      told : (buffer : List ℕ) → c.len ≤ length buffer → Tells w m c x slots packets (take c.len (frame_of c w (combined w m x slots) ++ drop c.len buffer))
      told buffer room =
          let proper = combined-proper w m laws c d draws x sound source some in
          record {
            says = combined w m x slots;
            read = comes_back m lays whole (combined w m x slots) buffer _ _ (wrote w m laws c d draws x sound source some buffer room) proper.slot_count proper.symbol_count;
            base = refl;
            wide = refl;
            row = refl;
            fits = fits;
          }

  pub sending_tells : (buffer : List ℕ) (r : Result ℕ Refusal) (after : S) (out : List ℕ)
      → ◌≡◌ {A = Sent S} (record { answer = r; source = after; frame = out }) (sending w m c d x source buffer) → TellsPackets w m c d x source r out
  sending_tells buffer r after out e packets holds =
      let P : Sent S → Type 0 = λ z. IfOk z.answer (λ n. Tells w m c x (d.slots source m.q (width x)) packets (take n z.frame)) in
      subst P (sym e)
      (cond_both (ltb (length buffer) c.len) _ _ P (λ _. tt)
      (λ room. cond_both (eqb x.unseen x.admitted) _ _ P (λ _. tt)
      (λ some. told packets holds (eqb-false _ _ some) buffer (ltb-false _ _ room))))
