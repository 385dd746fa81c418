-- Nine examples, worked out.
use Rattle.std.specs.Prelude.{◌≡◌, [], ◌∷◌, map, replicate, Some, Ok, Err}
use Rattle.std.specs.List.{range_with_len}
use Rattle.refusal.specs.declared.Refusal.TheVariants.{Late, Ahead, Contradiction}
use Rattle.refusal.specs.Numbers.{numbered}
use Rattle.field.specs.Field.{times, inverse}
use Rattle.field.specs.OfBits.{bits}
use Rattle.field.specs.OfBytes.{bytes}
use Rattle.field.specs.OfResidues.{residues}
use Rattle.carried.specs.Layouts.{eight_a_byte, one_byte, two_bytes}
use Rattle.receiver.specs.declared.state.Answer.TheVariants.{Fresh, Repeat}
use Rattle.source.specs.OfWoven.{woven}
use Rattle.source.specs.Source.{run}
use Rattle.source.specs.Turn.{start}
use Rattle.examples.specs.Words.{call, ComesOut, slots, packet, bit_frame, byte_frame, residue_frame}

pub record WorkedExamples : Type 0 where
  -- bytes: 2 times 128 is 29
  pub byte_product : times bytes 2 128 ≡ 29
  -- bytes: the inverse of 2 is 142
  pub byte_inverse : inverse bytes 2 ≡ Some 142
  -- residues: the inverse of 2 is 129
  pub residue_inverse : inverse residues 2 ≡ Some 129
  -- the woven source, seed 0, for bytes and a window of three packets: its first three draws
  pub woven_draws :
      run (woven 32) (record { turn = start; v = 0 }) 256 3 3
      ≡ slots (1 ∷ 0 ∷ 0 ∷ []) ∷ slots (110 ∷ 1 ∷ 0 ∷ []) ∷ slots (80 ∷ 204 ∷ 1 ∷ []) ∷ []
  -- residues: packets 0 and 1 have the sum 5, so packet 0 is seen and nothing is released; with packet 0 and twice packet 1
  -- being 8, they are 2 and 3; the first frame again is a repeat, and with 6 for its 5 a contradiction
  pub residues_solved :
      ComesOut residues two_bytes []
      (call (residue_frame 0 (1 ∷ 1 ∷ []) 5) (Ok (Fresh 0)) [] (0, 1) (1 ∷ [])
      ∷ call (residue_frame 0 (1 ∷ 2 ∷ []) 8) (Ok (Fresh 2)) (packet 2 ∷ packet 3 ∷ []) (2, 2) []
      ∷ call (residue_frame 0 (1 ∷ 1 ∷ []) 5) (Ok Repeat) [] (2, 2) []
      ∷ call (residue_frame 0 (1 ∷ 1 ∷ []) 6) (Err Contradiction) [] (2, 2) []
      ∷ [])
  -- bytes: the same two rows and payloads give the packets 245 and 240
  pub bytes_solved :
      ComesOut bytes one_byte []
      (call (byte_frame 0 (1 ∷ 1 ∷ []) 5) (Ok (Fresh 0)) [] (0, 1) (1 ∷ [])
      ∷ call (byte_frame 0 (1 ∷ 2 ∷ []) 8) (Ok (Fresh 2)) (packet 245 ∷ packet 240 ∷ []) (2, 2) []
      ∷ [])
  -- bits: the sum of packets 0 and 1, then packet 2 alone: only packet 1 is missing
  pub one_missing :
      ComesOut bits eight_a_byte []
      (call (bit_frame 0 (1 ∷ 1 ∷ 0 ∷ []) 1) (Ok (Fresh 0)) [] (0, 1) (1 ∷ 2 ∷ [])
      ∷ call (bit_frame 0 (0 ∷ 0 ∷ 1 ∷ []) 1) (Ok (Fresh 0)) [] (0, 1) (1 ∷ [])
      ∷ [])
  -- a new receiver: a row of the packets 0 to 31 is in reach, and one of the packets 1 to 32 is ahead, refusal 17
  pub ahead :
      ComesOut bits eight_a_byte [] (call (bit_frame 0 (replicate 32 1) 0) (Ok (Fresh 0)) [] (0, 1) (range_with_len 1 31) ∷ [])
      × ComesOut bits eight_a_byte [] (call (bit_frame 1 (replicate 32 1) 0) (Err Ahead) [] (0, 0) [] ∷ [])
      × (numbered Ahead ≡ 17)
  -- a receiver that has released packets 0 to 32, one by one: packet 1 is in reach, and packet 0 is late, refusal 16
  pub late :
      ComesOut bits eight_a_byte (map (λ k. bit_frame k (1 ∷ []) 0) (range_with_len 0 33))
      (call (bit_frame 1 (1 ∷ []) 0) (Ok Repeat) [] (33, 33) []
      ∷ call (bit_frame 0 (1 ∷ []) 0) (Err Late) [] (33, 33) []
      ∷ [])
      × (numbered Late ≡ 16)
