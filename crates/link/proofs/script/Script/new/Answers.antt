use Rattle.std.proofs.Common.{◌-◌, ◌≤◌, List, length, IfOk, Ok, Err, Result, sym, ap, ◌∙◌, subst, arith}
use Rattle.refusal.specs.declared.Refusal.{Refusal}
use Rattle.refusal.specs.declared.Refusal.TheVariants.{BadScript}
use Rattle.std.proofs.lemmas.Bool.{cond-true}
use Rattle.link.specs.declared.letter.Letter.{Letter}
use Rattle.link.specs.declared.script.Script.{Script}
use Rattle.link.specs.Script.{proper, opened, Rounds}
use Rattle.link.proofs.Reading.{not-empty, reads_on, all_read, all_known-read, proper-script}
use Rattle.link.proofs.Rounds.{rounds}
use Rattle.link.proofs.script.Script.new.Goals as goal

pub loop-i-preserved : goal.loop-i-preserved
loop-i-preserved c =
    let so_far = c.loop-i.invariant in
    reads_on c.args.script.now c.loop-i.i so_far.2 64 c.loop-i.letters so_far.0 so_far.1 c.in_ok-letters.field-0 c.in_ok-letters.ensures (omega arith) (omega arith)

pub returns : goal.returns
unfolding opened
returns c =
    let cs = c.args.script.now in
    let so_far = c.loop-i.invariant in
    let all = all_known-read cs c.loop-i.i so_far.2 (omega arith) in
    let letters = all_read cs c.loop-i.i so_far.2 64 c.loop-i.letters so_far.0 so_far.1 (omega arith) in
    let some = not-empty cs (sym c.if-is_empty.ensures) in
    let few : length cs ≤ 64 = omega arith in
    let opens = cond-true (proper 64 cs) (Ok (opened 64 cs)) (Err BadScript) (proper-script 64 cs some few all) in
    let read = ap (λ (ls : List Letter). Ok (record { letters = ls; last = length cs - 1; at = 0 })) letters in
    record {
      exact = read ∙ sym opens;
      rounds = subst (λ (r : Result Script Refusal). IfOk r (Rounds cs)) (sym read) (rounds 64 cs some few all);
    }
