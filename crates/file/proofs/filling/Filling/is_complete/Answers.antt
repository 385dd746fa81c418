use Rattle.std.proofs.Common.{ℕ, ◌+◌, ◌*◌, nat_le, ap, ◌∙◌}
use Rattle.file.specs.Filling.{complete}
use Rattle.file.specs.Spelling.{room}
use Rattle.file.proofs.filling.Filling.is_complete.Goals as goal

pub returns : goal.returns
unfolding complete
returns g c = ap (λ (n : ℕ). nat_le (4 + c.args.self.now.size) (n * c.args.self.now.taken)) (c.room.ensures ∙ ap room c.of.ensures)
