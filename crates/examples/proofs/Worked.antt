-- Each example is computed.
use Rattle.std.proofs.Common.{refl}
use Rattle.field.specs.OfBytes.{product, squares}
use Rattle.carried.specs.Carries.{packed, unpacked}
use Rattle.elimination.specs.Loops.{turns, seek, every}
use Rattle.elimination.specs.Rows.{less_all, times_all}
use Rattle.receiver.specs.Reports.{unseen}
use Rattle.source.specs.OfWoven.{generated}
use Rattle.source.specs.Source.{run}
use Rattle.source.specs.Turn.{ending}
use Rattle.examples.specs.Words.{frame, buffer, room, replayed, after}
use Rattle.examples.specs.Examples.{WorkedExamples}

pub worked_examples_lem : WorkedExamples
unfolding product squares packed unpacked turns seek every less_all times_all unseen generated run ending frame buffer room replayed after
worked_examples_lem = record {
  byte_product = refl;
  byte_inverse = refl;
  residue_inverse = refl;
  woven_draws = refl;
  residues_solved = refl;
  bytes_solved = refl;
  one_missing = refl;
  ahead = (refl, refl, refl);
  late = (refl, refl);
}
