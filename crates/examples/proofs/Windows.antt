-- A log with one send, whose frame was taken.
use Rattle.std.proofs.Common.{◌≡◌, ℕ, ◌⊎◌, List, [], ◌∷◌, sym, refl, ap, subst, inl, inr, lit≤}
use mathlib.Core.List.Memᴰ
use mathlib.Core.List.{Memᴰ}
use Rattle.transfer.specs.Log.{Event, sendings, taken}
use Rattle.transfer.specs.Promise.{WindowTaken}

-- the one member of a list
pub only : {A : Type 0} {x y : A} → (x ≡ y) ⊎ Memᴰ x [] → x ≡ y
only (inl e) = e
only (inr i) = absurd (Memᴰ.not-nil i)

pub taken-alone : (log : List Event) (frame : List ℕ) → sendings log ≡ record { frame = frame; from = 0; to = 1 } ∷ []
    → Memᴰ frame (taken log) → WindowTaken log 0 1
taken-alone log frame alone i = record {
  some = lit≤ tt;
  newer = [];
  row = record { frame = frame; from = 0; to = 1 } ∷ [];
  older = [];
  in_a_row = alone;
  many = refl;
  one_window = λ s j. let e = only (Memᴰ.cases_cons j) in (ap (λ t. t.from) e, ap (λ t. t.to) e);
  each_taken = λ s j. subst (λ f. Memᴰ f (taken log)) (sym (ap (λ t. t.frame) (only (Memᴰ.cases_cons j)))) i;
}
