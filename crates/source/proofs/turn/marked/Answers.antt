use Rattle.std.proofs.Common.{◌≡◌, ℕ, ◌<◌, get_or, set, replicate, ◌∙◌, arith}
use Rattle.std.proofs.lemmas.Grind.{common_steps}
use Rattle.std.proofs.lemmas.List.{length-set, length-replicate}
use Rattle.std.proofs.lemmas.List.FromFn.{fill_by_all}
use Rattle.source.specs.Turn.{slot, ending}
use Rattle.source.proofs.turn.marked.Goals as goal

slot_at : (w p k : ℕ) → p < w → k < w → get_or (set (replicate w 0) p 1) k 0 ≡ slot p (λ i. 0) k
slot_at w p k h l = grind (arith, common_steps)

one_set : (w p : ℕ) → p < w → set (replicate w 0) p 1 ≡ ending w p (λ i. 0)
unfolding ending
one_set w p h = fill_by_all (slot p (λ i. 0)) _ w 0 (length-set _ _ _ ∙ length-replicate w _) (λ k l. slot_at w p k h l)

pub returns : goal.returns
returns c = one_set 32 c.args.place c.requires
