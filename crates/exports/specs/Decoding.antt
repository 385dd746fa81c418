-- Rows taken into a table, and the packets that come out of it.
use Rattle.std.specs.Prelude.{ℕ, ◌%◌, List, [], length, Some, None, Option, slice_index_or, slice_set}
use Rattle.field.specs.Field.{Means}
use Rattle.elimination.specs.Loops.{turns}
use Rattle.elimination.specs.Tables.{no_rows, solved, without}
use Rattle.elimination.specs.Absorption.{absorbed}
use Rattle.elimination.specs.declared.row.Row.{Row}
use Rattle.elimination.specs.declared.table.Table.{Table}
use Rattle.exports.specs.declared.Packets.{Packets}

-- no row: what stands past the end of a list of rows
abbrev pub no_row : Row
no_row = record { slots = []; payload = [] }

-- the table t after row i of w packets from packet 0 on
abbrev pub gather_one : Means → ℕ → List Row → ℕ → Table → Table
gather_one m w xs i t = (absorbed m w 0 (slice_index_or xs i no_row) t).table

-- a new table after the rows, one after another
abbrev pub gathered : Means → ℕ → List Row → Table
gathered m w xs = turns (gather_one m w xs) (no_rows w) (length xs)

-- a table, and the packets written so far
pub record Unloading : Type 0 where
  pub table : Table
  pub packets : List (List ℕ)

abbrev pub unloading : Table → List (List ℕ) → Unloading
unloading t ps = record { table = t; packets = ps }

-- the packets with packet k, where there is one
abbrev pub with_packet : ℕ → Option (List ℕ) → List (List ℕ) → List (List ℕ)
with_packet k None ps = ps
with_packet k (Some p) ps = slice_set ps k p

-- packet k leaves the table, where that has solved it, and is written at its place
abbrev pub unload_one : ℕ → ℕ → Unloading → Unloading
unload_one w k u = unloading (without (k % w) (solved w u.table k) u.table) (with_packet k (solved w u.table k) u.packets)

-- the packets below w that the table has solved at their places, the others as they were
abbrev pub unloaded : ℕ → Table → Packets → Packets
unloaded w t p = record { packets = (turns (unload_one w) (unloading t p.packets) w).packets }

-- the packets that the rows determine at their places, the others as they were
abbrev pub decoded : Means → ℕ → List Row → Packets → Packets
decoded m w xs p = unloaded w (gathered m w xs) p
