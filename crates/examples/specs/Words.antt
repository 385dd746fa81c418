-- Frames by a short row and one number, and the calls of a receiver with all that they show.
use Rattle.std.specs.Prelude.{◌≡◌, ℕ, ◌-◌, List, [], ◌∷◌, ◌++◌, length, replicate, Ok, Result}
use Rattle.refusal.specs.declared.Refusal.{Refusal}
use Rattle.field.specs.Field.{Means}
use Rattle.carried.specs.Carries.{Carries}
use Rattle.carried.specs.Layouts.{eight_a_byte, one_byte, two_bytes}
use Rattle.frame.specs.DataFrame.{frame_of}
use Rattle.receiver.specs.Arrival.{Outcome, arrived}
use Rattle.receiver.specs.Buffers.{concat, over}
use Rattle.receiver.specs.Reports.{reported, listed}
use Rattle.receiver.specs.Start.{at_first}
use Rattle.receiver.specs.declared.state.Answer.{Answer}
use Rattle.receiver.specs.declared.state.State.{State}

-- some numbers, and then zeros, 32 in all
abbrev pub slots : List ℕ → List ℕ
slots xs = xs ++ replicate (32 - length xs) 0

-- the packet whose 128 symbols are all x
abbrev pub packet : ℕ → List ℕ
packet x = replicate 128 x

-- the bytes of a frame: its row gives the packets from base on these coefficients, and its payload is 128 times x
unfoldable pub frame : Carries → ℕ → List ℕ → ℕ → List ℕ
frame carries base row x = frame_of carries 32 (record { base = base; width = length row; slots = slots row; symbols = packet x })

-- the same in each of the three fields
abbrev pub bit_frame : ℕ → List ℕ → ℕ → List ℕ
bit_frame = frame eight_a_byte

abbrev pub byte_frame : ℕ → List ℕ → ℕ → List ℕ
byte_frame = frame one_byte

abbrev pub residue_frame : ℕ → List ℕ → ℕ → List ℕ
residue_frame = frame two_bytes

-- the buffer that every frame comes with, of room for 32 packets, and the one that missing numbers are asked for with
unfoldable pub buffer : List ℕ
buffer = replicate 4096 0

unfoldable pub room : List ℕ
room = replicate 32 0

-- a frame that arrives: its bytes, the answer, the buffer after it, and then the report and what asking for the missing gives
pub record Call : Type 0 where
  pub bytes : List ℕ
  pub answer : Result Answer Refusal
  pub numbers : List ℕ
  pub report : ℕ × ℕ
  pub missing : Result ℕ Refusal × List ℕ

-- a frame that arrives, by its bytes, the answer, the packets that it releases, the report and the missing numbers
abbrev pub call : List ℕ → Result Answer Refusal → List (List ℕ) → ℕ × ℕ → List ℕ → Call
call bytes answer packets report missing = record {
  bytes = bytes;
  answer = answer;
  numbers = over buffer (concat packets);
  report = report;
  missing = (Ok (length missing), over room missing);
}

-- what a call shows that has this outcome
abbrev pub shown : List ℕ → Outcome → Call
shown bytes o = record {
  bytes = bytes;
  answer = o.answer;
  numbers = o.numbers;
  report = reported 32 o.state;
  missing = listed 32 o.state room;
}

-- what the frames of some calls show where they arrive one after another, the first at the receiver c
unfoldable pub replayed : Means → Carries → State → List Call → List Call
replayed m carries c [] = []
replayed m carries c (x ∷ xs) =
    let o = arrived m carries 32 c x.bytes buffer in
    shown x.bytes o ∷ replayed m carries o.state xs

-- the receiver c after some frames, the first of them first
unfoldable pub after : Means → Carries → State → List (List ℕ) → State
after m carries c [] = c
after m carries c (bytes ∷ rest) = after m carries (arrived m carries 32 c bytes buffer).state rest

-- a new receiver takes in the frames before; then the frames of the calls, one after another, show just what the calls say
abbrev pub ComesOut : Means → Carries → List (List ℕ) → List Call → Type 0
ComesOut m carries before calls = replayed m carries (after m carries (at_first 32) before) calls ≡ calls
