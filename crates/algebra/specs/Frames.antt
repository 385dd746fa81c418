-- Packets, rows and frames, over numbers and lists.
use Rattle.std.specs.Prelude.{◌≡◌, ℕ, ◌-◌, ◌<◌, ◌≤◌, cond, List, length, nat_lt, slice_index}

-- a list of size codes of a field of order q: with as many as a packet has symbols, a packet
pub record Codes (q size : ℕ) (xs : List ℕ) : Type 0 where
  pub long : length xs ≡ size
  pub codes : (i : ℕ) → i < size → slice_index xs i < q

-- a frame has a row, which gives each packet number a coefficient, and a payload
pub record Frame : Type 0 where
  pub row : ℕ → ℕ
  pub payload : List ℕ

-- slot i holds the coefficient of packet base + i, and every other coefficient is 0
unfoldable pub row_at : ℕ → List ℕ → ℕ → ℕ
row_at base slots k = cond (nat_lt k base) 0 (slice_index slots (k - base))

-- the frame with that row
abbrev pub frame_at : ℕ → List ℕ → List ℕ → Frame
frame_at base slots payload = record { row = row_at base slots; payload = payload }

-- a frame for streams of n packets of size symbols: its coefficients are codes, 0 from n on, and its payload is a packet
pub record Proper (n size q : ℕ) (f : Frame) : Type 0 where
  pub row_codes : (k : ℕ) → f.row k < q
  pub row_ends : (k : ℕ) → n ≤ k → f.row k ≡ 0
  pub payload_codes : Codes q size f.payload
