-- The contents that a data frame can have.
use Rattle.std.specs.Prelude.{◌≡◌, ℕ, ◌+◌, ◌≤◌, length, slice_index}
use Rattle.frame.specs.declared.data.Data.{Data}
use Rattle.carried.specs.Carries.{Under}

-- a row of w slots and a payload of 128 symbols, all codes below q; the row covers the packets from base to
-- base + width, which lie in the stream, and is 0 elsewhere
pub record Proper (q w : ℕ) (d : Data) : Type 0 where
  pub least : 1 ≤ d.width
  pub most : d.width ≤ w
  pub in_stream : d.base + d.width ≤ 65536
  pub slot_count : length d.slots ≡ w
  pub symbol_count : length d.symbols ≡ 128
  pub slot_codes : Under q d.slots
  pub symbol_codes : Under q d.symbols
  pub none_past : (i : ℕ) → d.width ≤ i → slice_index d.slots i ≡ 0
