-- What holds of both ways to spell bytes.
use Rattle.std.proofs.Common.{◌≡◌, ℕ, ◌<◌, ◌≤◌, ltb, refl}
use Rattle.std.proofs.lemmas.Bool.{cond_both, cond_below, cond_above, ltb-false}
use Rattle.file.specs.declared.spelling.Spelling.TheVariants.{Bits, Bytes}
use Rattle.file.specs.Spelling.{base, spelling_of}

pub below : (q : ℕ) → q < 256 → Bits ≡ spelling_of q
unfolding spelling_of
below q h = cond_below q 256 Bits Bytes h

pub above : (q : ℕ) → 256 ≤ q → Bytes ≡ spelling_of q
unfolding spelling_of
above q h = cond_above q 256 Bits Bytes Bytes h refl

pub base-code : (q : ℕ) → 2 ≤ q → base (spelling_of q) ≤ q
unfolding spelling_of
base-code q h = cond_both (ltb q 256) Bits Bytes (λ s. base s ≤ q) (λ _. h) (λ e. ltb-false q 256 e)
