-- How the codes of a field lie in bytes, place by place, and what every such layout shows.
use Rattle.std.specs.Prelude.{◌≡◌, ℕ, ◌+◌, ◌*◌, ◌/◌, ◌<◌, ◌≤◌, List, map, length, slice_index}
use Rattle.std.specs.List.{range_with_len}

-- kind is the first byte of a data frame and len its length; eight is how many bytes eight codes take; byte_of says
-- which byte stands at a place of a list of codes, and code_of which code stands at a place of a list of bytes
pub record Carries : Type 0 where
  pub kind : ℕ
  pub len : ℕ
  pub eight : ℕ
  pub byte_of : List ℕ → ℕ → ℕ
  pub code_of : List ℕ → ℕ → ℕ

-- every number of a list is below n
abbrev pub Under : ℕ → List ℕ → Type 0
Under n xs = (k : ℕ) → k < length xs → slice_index xs k < n

-- the first n bytes of a list of codes
unfoldable pub packed : Carries → ℕ → List ℕ → List ℕ
packed c n codes = map (c.byte_of codes) (range_with_len 0 n)

-- the first n codes of a list of bytes
unfoldable pub unpacked : Carries → ℕ → List ℕ → List ℕ
unpacked c n bytes = map (c.code_of bytes) (range_with_len 0 n)

-- what every layout of codes below q shows, where a row has w slots and a payload 128 symbols
pub record Lays (w q : ℕ) (c : Carries) : Type 0 where
  -- the kind is a byte, neither a report's nor one that opens or closes a transfer
  pub kind_byte : c.kind < 256
  pub kind_report : c.kind ≡ 4 → ⊥
  pub kind_other : 8 ≤ c.kind → c.kind ≤ 10 → ⊥
  -- a frame is one byte of kind, four of base, one of width, then the slots and the symbols
  pub whole : c.len ≡ 6 + (w + 128) / 8 * c.eight
  pub short : c.len ≤ 400
  -- codes that fill whole bytes come back from them, and bytes that whole codes fill come back from those
  pub codes_back : (codes : List ℕ) (n : ℕ) → Under q codes → length codes * c.eight ≡ 8 * n → unpacked c (length codes) (packed c n codes) ≡ codes
  pub bytes_back : (bytes : List ℕ) (n : ℕ) → Under 256 bytes → n * c.eight ≡ 8 * length bytes → packed c (length bytes) (unpacked c n bytes) ≡ bytes
