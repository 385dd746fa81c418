-- Two exact releases over the same fitting streams are one.
use Rattle.std.proofs.Common.{◌≡◌, ℕ, ◌<◌, ◌≤◌, List, [], length, sym, ◌∙◌, arith, ext_get_or}
use native.Mathlib.Decide.{dec_lt}
use Rattle.field.specs.Field.{Means}
use Rattle.algebra.specs.Frames.{Frame}
use Rattle.algebra.specs.Streams.{Fitting}
use Rattle.algebra.specs.Promises.{ExactRelease}
use Rattle.algebra.specs.Theorems.{ReleaseIsDetermined}

module _ (n size : ℕ) (m : Means) where
  no_longer : (accepted others : List Frame) (released packets : List (List ℕ)) → ((s : ℕ → List ℕ) → Fitting n size m accepted s → Fitting n size m others s)
      → ExactRelease n size m accepted released → ExactRelease n size m others packets → length packets ≤ length released
  no_longer accepted others released packets to x y = go (dec_lt (length released) (length packets))
    where
      go : Dec (length released < length packets) → length packets ≤ length released
      go (no h) = omega arith
      go (yes h) =
          let agreed = (y.exactly (length released) (omega (arith, y.most))).0 h in
          absurd (let l = (x.exactly (length released) (omega (arith, y.most))).1 (λ j b s t fs ft. agreed j b s t (to s fs) (to t ft)) in omega arith)

pub release_is_determined_lem : ReleaseIsDetermined
release_is_determined_lem n size m accepted others released packets same x y =
    ext_get_or [] released packets long
    (λ k l.
    let s = x.consistent in
    x.right s.0 s.1 k l ∙ sym (y.right s.0 ((same s.0).0 s.1) k (omega (arith, long))))
  where
    long : length released ≡ length packets
    long = omega (arith, no_longer n size m accepted others released packets (λ s. (same s).0) x y, no_longer n size m others accepted packets released (λ s. (same s).1) y x)
