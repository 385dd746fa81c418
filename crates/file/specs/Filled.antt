-- A file, and the record that its packets fill.
use Rattle.std.specs.Prelude.{◌≡◌, ℕ, ◌+◌, ◌*◌, ◌/◌, ◌<◌, ◌≤◌, min, List, length, Ok, slice_index}
use Rattle.file.specs.declared.spelling.Spelling.{Spelling}
use Rattle.file.specs.Filling.{Outcome, packet_in}
use Rattle.file.specs.Packets.{packets, packet_of}
use Rattle.file.specs.Spelling.{room}

-- a list of numbers is a file of at most 16,000 bytes
pub record File (file : List ℕ) : Type 0 where
  pub short : length file ≤ 16000
  pub bytes : (i : ℕ) → slice_index file i < 256

-- the first k packets of the file were taken in order: those past its end are not counted, its length is known from
-- the first one on, and every byte of it that they hold stands at its place in the buffer
pub record Filled (s : Spelling) (file : List ℕ) (k taken size : ℕ) (buffer : List ℕ) : Type 0 where
  pub counted : taken ≡ min k (packets s (length file))
  pub known : 0 < k → size ≡ length file
  pub stands : (place : ℕ) → place < length file → place + 4 < room s * k → slice_index buffer place ≡ slice_index file place

-- the answer is Ok, and the first k packets of the file were taken
abbrev pub Took : Spelling → List ℕ → ℕ → Outcome → Type 0
Took s file k after = (after.0 ≡ Ok tt) × Filled s file k after.1 after.2 after.3

-- after the first k packets of any file, its packet k is taken
abbrev pub Fills : Spelling → List ℕ → ℕ → ℕ → List ℕ → Outcome → Type 0
Fills s packet taken size buffer after =
    (file : List ℕ) (k : ℕ) → File file → 16000 ≤ length buffer → Filled s file k taken size buffer → packet ≡ packet_of s file k → Took s file (k + 1) after

-- but for the bytes of the file that its first k packets hold, the buffer is as before
pub record Beside (s : Spelling) (file : List ℕ) (k : ℕ) (before buffer : List ℕ) : Type 0 where
  pub left : (place : ℕ) → (place < length file → place + 4 < room s * k → ⊥) → slice_index buffer place ≡ slice_index before place
  pub long : length buffer ≡ length before

-- the first k packets of the file were taken into a buffer, and nothing else was written there
pub record FilledOver (s : Spelling) (file : List ℕ) (k taken size : ℕ) (before buffer : List ℕ) : Type 0 where
  pub filled : Filled s file k taken size buffer
  pub beside : Beside s file k before buffer

-- the answer is Ok, and the first k packets of the file were taken, with nothing else written
abbrev pub TookOver : Spelling → List ℕ → ℕ → List ℕ → Outcome → Type 0
TookOver s file k before after = (after.0 ≡ Ok tt) × FilledOver s file k after.1 after.2 before after.3

-- after the first k packets of any file, its packet k is taken, and nothing but its bytes is written
abbrev pub FillsOver : Spelling → List ℕ → ℕ → ℕ → List ℕ → Outcome → Type 0
FillsOver s packet taken size buffer after =
    (file before : List ℕ) (k : ℕ) → File file → 16000 ≤ length buffer → FilledOver s file k taken size before buffer → packet ≡ packet_of s file k
    → TookOver s file (k + 1) before after

-- the packets that stand in the numbers are packets k, k + 1 and so on of the file
abbrev pub GoesOn : Spelling → List ℕ → ℕ → List ℕ → Type 0
GoesOn s file k numbers = (i : ℕ) → i < length numbers / 128 → packet_in numbers i ≡ packet_of s file (k + i)

-- after the first k packets of any file, those that stand in the numbers are taken, if they go on with it
abbrev pub FillsAll : Spelling → List ℕ → ℕ → ℕ → List ℕ → Outcome → Type 0
FillsAll s numbers taken size buffer after =
    (file : List ℕ) (k : ℕ) → File file → 16000 ≤ length buffer → Filled s file k taken size buffer → GoesOn s file k numbers
    → Took s file (k + length numbers / 128) after

-- the same, and nothing but the bytes of these packets is written
abbrev pub FillsAllOver : Spelling → List ℕ → ℕ → ℕ → List ℕ → Outcome → Type 0
FillsAllOver s numbers taken size buffer after =
    (file before : List ℕ) (k : ℕ) → File file → 16000 ≤ length buffer → FilledOver s file k taken size before buffer → GoesOn s file k numbers
    → TookOver s file (k + length numbers / 128) before after
