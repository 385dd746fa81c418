use Rattle.std.proofs.Common.{◌≡◌, map, take, drop, replicate}
use Rattle.link.specs.declared.letter.Letter.TheVariants.{Lose}
use Rattle.link.specs.Script.{letter_at, all_known}
use Rattle.link.proofs.script.Script.new.Given as goal

-- the letters so far are those of the bytes, and lose behind them
abbrev pub invariant-loop-i : goal.invariant-loop-i
invariant-loop-i l =
    (take l.i l.letters ≡ map letter_at (take l.i l.script))
    × (drop l.i l.letters ≡ drop l.i (replicate 64 Lose))
    × (all_known (drop l.i l.script) ≡ all_known l.script)
