-- What a transfer promises stands after every log of it.
use Rattle.std.proofs.Common.{◌≡◌, ℕ, ◌%◌, ◌<◌, List}
use Rattle.transfer.specs.Log.{Event}
use Rattle.transfer.specs.Parts.{Parts, PartsLaws, State}
use Rattle.transfer.specs.Promise.{Promise}
use Rattle.transfer.specs.Run.{Run}
use Rattle.transfer.proofs.Kept.{promise, trimmed, confirmed, in_order, complete}
use Rattle.transfer.proofs.Progress.{progress}

module _ {S D R : Type 0} (w : ℕ) (pos : 0 < w) (whole : w % 8 ≡ 0) (p : Parts S D R) (laws : PartsLaws w p) (x : S) (a : D) (b : R) where
  pub stands : (log : List Event) (σ : State S D R) → Run w p x a b log σ
      → Promise p.means p.carries w (p.forward.waiting a) (p.reverse.waiting b) log
  stands log σ run = record {
    receiver = promise w pos whole p laws x a b log σ run;
    delivery = λ forth back. record {
      trimmed = trimmed w pos whole p laws x a b forth back log σ run;
      confirmed = confirmed w pos whole p laws x a b forth back log σ run;
      in_order = in_order w pos whole p laws x a b forth back log σ run;
      complete = complete w pos whole p laws x a b forth back log σ run;
      progress = progress w pos whole p laws x a b forth back log σ run;
    };
  }
