-- The number of packets that a file takes.
use Rattle.std.proofs.Common.{◌≡◌, ℕ, ◌+◌, ◌*◌, ◌/◌, ◌%◌, ◌^◌, ◌<◌, ◌≤◌, min, arith}
use Rattle.file.specs.declared.spelling.Spelling.{Spelling}
use Rattle.file.specs.declared.spelling.Spelling.TheVariants.{Bits, Bytes}
use Rattle.file.specs.Spelling.{room}
use Rattle.file.specs.Packets.{packets}

pub room-least : (s : Spelling) → 16 ≤ room s
room-least Bits = omega arith
room-least Bytes = omega arith

pub packets_ceil : (s : Spelling) → (n : ℕ) → (n + 4) / room s + min 1 ((n + 4) % room s) ≡ packets s n
unfolding packets
packets_ceil Bits n = omega arith
packets_ceil Bytes n = omega arith

pub packets-hold : (s : Spelling) → (n m : ℕ) → packets s n ≤ m → 4 + n ≤ room s * m
unfolding packets
packets-hold Bits n m h = omega arith
packets-hold Bytes n m h = omega arith

pub packets_pos : (s : Spelling) → (n : ℕ) → 0 < packets s n
unfolding packets
packets_pos Bits n = omega arith
packets_pos Bytes n = omega arith

pub packets-least : (s : Spelling) → (n m : ℕ) → 4 + n ≤ room s * m → packets s n ≤ m
unfolding packets
packets-least Bits n m h = omega arith
packets-least Bytes n m h = omega arith

pub packets-fit : (s : Spelling) → (n : ℕ) → n < 2 ^ 32 → packets s n < 2 ^ 32
unfolding packets
packets-fit Bits n h = omega arith
packets-fit Bytes n h = omega arith
