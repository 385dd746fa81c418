-- What meets the promises, computed.
use Rattle.std.proofs.Common.{◌≡◌, ℕ, zero, suc, ◌+◌, ◌*◌, ◌<◌, [], ◌∷◌, get_or, replicate, sym, refl, ◌∙◌, ap₂, inl, arith, lit≤}
use mathlib.Core.List.Memᴰ
use lib.ListN.{get_or-replicate}
use Rattle.field.specs.OfBits.{bits}
use Rattle.field.specs.BitsLaws.{bits_laws}
use Rattle.field.specs.Remainders.{all_laws}
use Rattle.field.specs.Field.{plus, times}
use Rattle.carried.specs.Carries.{packed, unpacked}
use Rattle.carried.specs.Layouts.{eight_a_byte}
use Rattle.carried.specs.BitsLayout.{eight_a_byte_lays}
use Rattle.algebra.specs.Combinations.{combination}
use Rattle.algebra.specs.Frames.{row_at}
use Rattle.algebra.specs.Streams.{sum}
use Rattle.algebra.proofs.Frames.{row-slot_zero}
use Rattle.elimination.specs.Loops.{turns, seek, every}
use Rattle.elimination.specs.Rows.{less_all, times_all}
use Rattle.receiver.specs.Log.{packets}
use Rattle.receiver.specs.Run.{Run}
use Rattle.receiver.specs.declared.state.State.{State}
use Rattle.receiver.proofs.Faith.{promised}
use Rattle.sender.specs.Steps.{payload}
use Rattle.source.specs.OfPlain.{plain as plain-source}
use Rattle.source.specs.Turn.{start, ending}
use Rattle.source.specs.declared.plain.Plain.{Plain}
use Rattle.source.specs.Turning.{turning_laws}
use Rattle.link.specs.Ring.{empty, padded}
use Rattle.link.specs.declared.plain.PlainLink.{PlainLink}
use Rattle.link.specs.Waiting.{plain_laws}
use Rattle.transfer.specs.Parts.{PartsLaws, State as Transfer-state}
use Rattle.transfer.specs.Run.{Run as Transfer-run}
use Rattle.transfer.proofs.Standing.{stands}
use Rattle.file.specs.Filling.{complete, length_in, size_with_packet, holds, buffer_with, taking}
use Rattle.file.specs.Packets.{loaded, packets as file-packets, packet_of}
use Rattle.file.specs.Spelling.{spelled, byte_of}
use Rattle.examples.specs.Words.{packet, frame, bit_frame, buffer}
use Rattle.examples.specs.Met.{every_kind, plain_parts, one_packet, two_bytes_taken, PromisesMet}
use Rattle.examples.proofs.Streams.{single}
use Rattle.examples.proofs.Windows.{taken-alone}

receiver_runs : (c : State) × Run bits eight_a_byte 32 every_kind c
unfolding packed unpacked turns seek every less_all times_all frame buffer
receiver_runs = (_, (_, (_, (_, (_, (_, (_, (_, refl, refl), refl), refl), refl), refl), refl), refl))

transfer_runs : (τ : Transfer-state Plain PlainLink PlainLink)
    × Transfer-run 32 plain_parts (record { turn = start }) (empty 16 400) (empty 16 400) one_packet τ
unfolding packed unpacked turns seek every less_all times_all frame buffer ending payload sum padded
transfer_runs = (_, (_, (_, (_, (_, (_, refl, refl), refl), (refl, refl)), (refl, refl)), (refl, refl)))

-- the sum of packets 0 and 1, and packet 1, add up to packet 0
slot-sums : (k : ℕ) → plus bits (times bits 1 (get_or (1 ∷ 1 ∷ []) k 0)) (plus bits (times bits 1 (get_or (0 ∷ 1 ∷ []) k 0)) 0) ≡ get_or (1 ∷ []) k 0
slot-sums zero = refl
slot-sums (suc zero) = refl
slot-sums (suc (suc k)) = refl

row-sums : (k : ℕ) → combination bits (1 ∷ 1 ∷ []) (row_at 0 (1 ∷ 1 ∷ []) ∷ row_at 0 (0 ∷ 1 ∷ []) ∷ []) k ≡ row_at 0 (1 ∷ []) k
unfolding combination
row-sums k =
    ap₂ (λ x y. plus bits (times bits 1 x) (plus bits (times bits 1 y) 0)) (row-slot_zero (1 ∷ 1 ∷ []) k) (row-slot_zero (0 ∷ 1 ∷ []) k)
    ∙ slot-sums k ∙ sym (row-slot_zero (1 ∷ []) k)

-- both bytes stand
both_stand : (place : ℕ) → place < 2 → get_or two_bytes_taken.3 place 0 ≡ get_or (7 ∷ 9 ∷ []) place 0
both_stand zero h = refl
both_stand (suc zero) h = refl
both_stand (suc (suc k)) h = absurd (omega arith)

-- and the rest is left
rest-left : (place : ℕ) → (place < 2 → place + 4 < 128 * 1 → ⊥) → get_or two_bytes_taken.3 place 0 ≡ get_or (replicate 8 5) place 0
rest-left zero apart = absurd (apart (lit≤ tt) (lit≤ tt))
rest-left (suc zero) apart = absurd (apart (lit≤ tt) (lit≤ tt))
rest-left (suc (suc k)) apart = refl

parts_keep : PartsLaws 32 plain_parts
parts_keep = record {
  means = all_laws bits_laws;
  carries = eight_a_byte_lays;
  draws = turning_laws 32 (λ x. x.turn) (λ x q i. 0) (plain-source 32).next (λ x q i h. omega arith) (λ x q n. refl);
  forward = plain_laws 400;
  reverse = plain_laws 400;
}

pub promises_are_met_lem : PromisesMet
unfolding combination row_at sum packets frame buffer packed unpacked file-packets packet_of loaded spelled complete taking size_with_packet length_in holds buffer_with byte_of
promises_are_met_lem = record {
  fit = λ p h. single bits (all_laws bits_laws) 65536 (λ k. get_or (packet 1) p 0) (lit≤ tt) (omega (arith, get_or-replicate {A = ℕ} 128 p 1 0 h));
  seen = record { weights = 1 ∷ []; below = λ j l. absurd (omega arith); here = refl };
  spanned = record { weights = 1 ∷ 1 ∷ []; equal = row-sums };
  receiver_runs = receiver_runs;
  receiver_releases = refl;
  receiver_promises =
      promised bits (all_laws bits_laws) eight_a_byte 32 (lit≤ tt) eight_a_byte_lays refl every_kind receiver_runs.0 receiver_runs.1;
  all_lost = record {
    puts = λ x f g i. inl i;
    takes = λ x g e. absurd (let z : ◌≡◌ {A = ℕ} 0 1 = cc in omega arith);
    leaves = λ x g i. i;
    short = λ x g i. absurd (Memᴰ.not-nil i);
  };
  parts_keep = parts_keep;
  opens_empty = refl;
  transfer_runs = transfer_runs;
  window_taken = taken-alone one_packet (bit_frame 0 (1 ∷ []) 1) refl (Memᴰ.head refl);
  all_released = refl;
  packet_dropped = refl;
  delivers =
      (stands 32 (lit≤ tt) refl plain_parts parts_keep (record { turn = start }) (empty 16 400) (empty 16 400)
      one_packet transfer_runs.0 transfer_runs.1).delivery refl refl;
  file_taken = refl;
  file_filled = (
    refl,
    record {
      filled = record { counted = refl; known = λ _. refl; stands = λ place h _. both_stand place h };
      beside = record { left = rest-left; long = refl };
    },
  );
  file_whole = refl;
}
