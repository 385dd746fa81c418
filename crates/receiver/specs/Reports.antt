-- What a receiver has seen and lacks.
use Rattle.std.specs.Prelude.{ℕ, ◌+◌, ◌-◌, Bool, cond, not, ◌&&◌, ◌||◌, List, length, Ok, Err, filter, Result, nat_lt}
use Rattle.std.specs.List.{range_with_len}
use Rattle.std.specs.Option.{unwrap_or}
use Rattle.refusal.specs.declared.Refusal.{Refusal}
use Rattle.refusal.specs.declared.Refusal.TheVariants.{ShortBuffer}
use Rattle.elimination.specs.Loops.{seek}
use Rattle.elimination.specs.Tables.{holding}
use Rattle.receiver.specs.Buffers.{over}
use Rattle.receiver.specs.declared.state.State.{State}

-- packet k is released, or a row of the table begins there
abbrev pub sees : ℕ → State → ℕ → Bool
sees w c k = nat_lt k c.released || (nat_lt k (c.released + w) && holding w c.table k)

-- packet k is unseen
abbrev pub lacks : ℕ → State → ℕ → Bool
lacks w c k = not (sees w c k)

-- the released count and the oldest unseen number, or 65,536 when all are seen
abbrev pub reported : ℕ → State → ℕ × ℕ
reported w c = (c.released, unwrap_or (seek (lacks w c) c.released (65536 - c.released)) 65536)

-- the unseen numbers from r up to the greatest end of an accepted frame, in rising order
unfoldable pub unseen : ℕ → State → List ℕ
unseen w c = filter (lacks w c) (range_with_len c.released (c.top - c.released))

-- the answer is how many they are, in a buffer of at least w numbers that then begins with them
abbrev pub listed : ℕ → State → List ℕ → Result ℕ Refusal × List ℕ
listed w c numbers = cond (nat_lt (length numbers) w) (Err ShortBuffer, numbers) (Ok (length (unseen w c)), over numbers (unseen w c))
