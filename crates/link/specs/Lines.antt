-- What the steps of both links do to the frames on them.
use Rattle.std.specs.Prelude.{◌≡◌, ℕ, Bool, true, false, cond, List, length, Some, None, Option, nat_le, refl}
use Rattle.std.proofs.Common.{◌∙◌, ap, ap₂}
use Rattle.std.specs.Option.{option_map, option_to_list}
use Rattle.std.proofs.lemmas.Bool.{leb-true}
use Rattle.link.specs.declared.letter.Letter.{Letter}
use Rattle.link.specs.declared.plain.PlainLink.{PlainLink}
use Rattle.link.specs.declared.scripted.ScriptedLink.{ScriptedLink}
use Rattle.link.specs.declared.stored.Stored.{Stored}
use Rattle.link.specs.OfPlain.{plain}
use Rattle.link.specs.OfScripted.{Line, put_by, line, acted_on, let_go, scripted}
use Rattle.link.specs.Queue.{joined_by, short}
use Rattle.link.specs.Ring.{frame, entry, entry_of, queued}
use Rattle.link.specs.Script.{holds, letter_of, turned, through, holding}
use Rattle.link.specs.Letters.{map-list_of, map-through, mapped_holding}
use Rattle.link.specs.Rings.{frame-entry, queued-pushed_by, length-pushed_by}

-- an entry is made of each frame that is not too long
short-entry : (limit : ℕ) (f : List ℕ) → option_map (frame limit) (entry_of limit f) ≡ short limit f
short-entry limit f = go (nat_le (length f) limit) refl
  where
    go : (b : Bool) → nat_le (length f) limit ≡ b → option_map (frame limit) (cond b (Some (entry limit f)) None) ≡ cond b (Some f) None
    go true e = ap Some (frame-entry limit f (leb-true (length f) limit e))
    go false e = refl

pub plain-put : (limit : ℕ) (q : PlainLink) (f : List ℕ) → queued limit ((plain limit).put q f) ≡ joined_by (length q.frames) (queued limit q) (option_to_list (short limit f))
plain-put limit q f =
    queued-pushed_by limit q (option_to_list (entry_of limit f))
    ∙ ap (joined_by (length q.frames) (queued limit q)) (map-list_of (frame limit) (entry_of limit f) ∙ ap option_to_list (short-entry limit f))

line_same : (xs ys : List (List ℕ)) (o p : Option (List ℕ)) → xs ≡ ys → o ≡ p → ◌≡◌ {A = Line} (record { queue = xs; held = o }) (record { queue = ys; held = p })
line_same xs ys o p u v = cc

-- the queue and the frame held, after a letter has acted
acted-line : (limit : ℕ) (c : Letter) (x : ScriptedLink) (o : Option Stored) → x.held ≡ None
    → line limit (acted_on c o x) ≡ record { queue = joined_by (length x.queue.frames) (queued limit x.queue) (through c (option_map (frame limit) o)); held = holding c (option_map (frame limit) o) }
acted-line limit c x None e = line_same _ _ _ _ refl (ap (option_map (frame limit)) e)
acted-line limit c x (Some s) e =
    line_same _ _ _ _
    (queued-pushed_by limit x.queue (through c (Some s)) ∙ ap (joined_by (length x.queue.frames) (queued limit x.queue)) (map-through (frame limit) c (Some s)))
    (ap (λ h. option_map (frame limit) (cond (holds c) (Some s) h)) e ∙ mapped_holding (frame limit) c (Some s))

acted-room : (c : Letter) (x : ScriptedLink) (o : Option Stored) → length (acted_on c o x).queue.frames ≡ length x.queue.frames
acted-room c x None = refl
acted-room c x (Some s) = length-pushed_by x.queue (through c (Some s))

-- the frames on the link, after the entry that was held has joined the queue
let_go-line : (limit : ℕ) (h : Option Stored) (z : ScriptedLink)
    → line limit (let_go h z) ≡ record { queue = joined_by (length z.queue.frames) (line limit z).queue (option_to_list (option_map (frame limit) h)); held = (line limit z).held }
let_go-line limit h z =
    line_same _ _ _ _ (queued-pushed_by limit z.queue (option_to_list h) ∙ ap (joined_by (length z.queue.frames) (queued limit z.queue)) (map-list_of (frame limit) h)) refl

pub scripted-put : (limit : ℕ) (x : ScriptedLink) (f : List ℕ) → line limit ((scripted limit).put x f) ≡ put_by (length x.queue.frames) limit (letter_of x.script) (line limit x) f
scripted-put limit x f =
    let c = letter_of x.script in
    let y : ScriptedLink = record { queue = x.queue; script = turned x.script; held = None } in
    let z = acted_on c (entry_of limit f) y in
    let after : ℕ → Line → Line = λ n l. record { queue = joined_by n l.queue (option_to_list (option_map (frame limit) x.held)); held = l.held } in
    let n = length x.queue.frames in
    let by : Option (List ℕ) → Line = λ o. record { queue = joined_by n (queued limit x.queue) (through c o); held = holding c o } in
    let_go-line limit x.held z ∙ ap₂ after (acted-room c y (entry_of limit f)) (acted-line limit c y (entry_of limit f) refl ∙ ap by (short-entry limit f))
