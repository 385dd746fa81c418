-- A turn of unloading a table.
use Rattle.std.proofs.Common.{◌≡◌, ℕ, ◌%◌, List, Option}
use Rattle.elimination.specs.Tables.{solved, without}
use Rattle.elimination.specs.declared.table.Table.{Table}
use Rattle.exports.specs.Decoding.{unload_one, unloading, with_packet}

-- the table t answers o for packet k, and is u after that
pub unload_turn : (w k : ℕ) (t u : Table) (ps qs : List (List ℕ)) (o : Option (List ℕ)) → o ≡ solved w t k → u ≡ without (k % w) o t
    → qs ≡ with_packet k o ps → unloading u qs ≡ unload_one w k (unloading t ps)
unload_turn w k t u ps qs o e h i = rw (h, i, e)
