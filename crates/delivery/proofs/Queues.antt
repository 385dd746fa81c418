-- How many frames wait in a queue, as they are put and taken.
use Rattle.std.proofs.Common.{◌≡◌, ℕ, ◌+◌, ◌-◌, ◌≤◌, ltb, List, [], ◌∷◌, length, get_or, Some, None, Option, ap, inl, inr, arith, length-append}
use Rattle.std.proofs.lemmas.List.FromFn.{length-map-range_with_len}
use Rattle.std.proofs.lemmas.Bool.{cases_lt, cond_both, cond-true, lt-ltb}
use Rattle.std.specs.Option.{option_to_list}
use Rattle.link.specs.declared.letter.Letter.{Letter}
use Rattle.link.specs.declared.letter.Letter.TheVariants.{Keep, Lose, Double, Hold}
use Rattle.link.specs.declared.plain.PlainLink.{PlainLink}
use Rattle.link.specs.declared.scripted.ScriptedLink.{ScriptedLink}
use Rattle.link.specs.declared.stored.Stored.{Stored}
use Rattle.link.specs.OfScripted.{line, acted_on, scripted}
use Rattle.link.specs.Queue.{first_of}
use Rattle.link.specs.Ring.{frame, nothing, entry_of, place_of, queued, pushed, pushed_by, popped}
use Rattle.link.specs.Script.{letter_of, turned, through}
use Rattle.link.specs.Rings.{queued-none}

-- a frame that is taken was counted
pub popped-one : (q : PlainLink) (f : List ℕ) → first_of (queued 400 q) ≡ Some f → (popped q).count + 1 ≡ q.count
popped-one q f e =
    elim (cases_lt 0 q.count) [
      | inl l ↦ let is = ap (λ (x : PlainLink). x.count) (cond-true (ltb 0 q.count) (record { frames = q.frames; first = place_of q 1; count = q.count - 1 }) q (lt-ltb 0 q.count l)) in omega (arith, is)
      | inr m ↦ let none : q.count ≡ 0 = omega arith in
          absurd (cc (e, ap first_of (queued-none 400 q none)))
    ]

pub popped-few : (q : PlainLink) → (popped q).count ≤ q.count
popped-few q = cond_both (ltb 0 q.count) _ q (λ (x : PlainLink). x.count ≤ q.count) (λ _. omega arith) (λ _. omega arith)

pushed-few : (q : PlainLink) (s : Stored) → (pushed q s).count ≤ q.count + 1
pushed-few q s = cond_both (ltb q.count (length q.frames)) _ q (λ (x : PlainLink). x.count ≤ q.count + 1) (λ _. omega arith) (λ _. omega arith)

pushed_by-few : (q : PlainLink) (ss : List Stored) → (pushed_by q ss).count ≤ q.count + length ss
pushed_by-few q [] = omega arith
pushed_by-few q (s ∷ ss) = omega (arith, pushed_by-few (pushed q s) ss, pushed-few q s)

through-few : (c : Letter) (s : Stored) → length (through c (Some s)) ≤ 2
through-few Keep s = omega arith
through-few Lose s = omega arith
through-few Double s = omega arith
through-few Hold s = omega arith

acted-few : (c : Letter) (o : Option Stored) (x : ScriptedLink) → (acted_on c o x).queue.count ≤ x.queue.count + 2
acted-few c None x = omega arith
acted-few c (Some s) x = omega (arith, pushed_by-few x.queue (through c (Some s)), through-few c s)

one-most : (o : Option Stored) → length (option_to_list o) ≤ 1
one-most None = omega arith
one-most (Some s) = omega arith

-- a put lets two copies join the queue, and a frame that was held
pub put-few : (x : ScriptedLink) (f : List ℕ) → ((scripted 400).put x f).queue.count ≤ x.queue.count + 3
put-few x f =
    let y : ScriptedLink = record { queue = x.queue; script = turned x.script; held = None } in
    let z = acted_on (letter_of x.script) (entry_of 400 f) y in
    omega (arith, pushed_by-few z.queue (option_to_list x.held), acted-few (letter_of x.script) (entry_of 400 f) y, one-most x.held)

-- those in the queue wait
pub plain-waiting : (q : PlainLink) → q.count ≤ length (queued 400 q)
plain-waiting q =
    let e : length (queued 400 q) ≡ q.count = length-map-range_with_len (λ i. frame 400 (get_or q.frames (place_of q i) nothing)) 0 q.count in omega arith

pub scripted-waiting : (x : ScriptedLink) → x.queue.count ≤ length ((scripted 400).waiting x)
scripted-waiting x = omega (arith, plain-waiting x.queue, length-append (line 400 x).queue (option_to_list (line 400 x).held))
