-- The scripted link: a queue, the script that says what a put does, and the frame that it holds.
use Rattle.std.specs.Prelude.{ℕ, cond, List, ◌++◌, drop, Some, None, Ok, Err, Option, Result}
use Rattle.refusal.specs.declared.Refusal.{Refusal}
use Rattle.refusal.specs.declared.Refusal.TheVariants.{BadScript}
use Rattle.std.specs.Option.{option_map, option_to_list}
use Rattle.link.specs.declared.letter.Letter.{Letter}
use Rattle.link.specs.declared.scripted.ScriptedLink.{ScriptedLink}
use Rattle.link.specs.declared.stored.Stored.{Stored}
use Rattle.link.specs.Link.{Carries}
use Rattle.link.specs.Queue.{first_of, joined_by, short}
use Rattle.link.specs.Ring.{frame, entry_of, empty, queued, pushed_by, popped}
use Rattle.link.specs.Script.{holds, proper, opened, letter_of, turned, through, holding}

-- the frames on a link: those in the queue, and the one held
pub record Line : Type 0 where
  pub queue : List (List ℕ)
  pub held : Option (List ℕ)

-- a put by the letter c: first what the letter lets through joins the queue, then the frame that was held before
abbrev pub put_by : ℕ → ℕ → Letter → Line → List ℕ → Line
put_by size limit c l f = record {
  queue = joined_by size (joined_by size l.queue (through c (short limit f))) (option_to_list l.held);
  held = holding c (short limit f);
}

-- a take: the first frame leaves the queue, and the one held stays
abbrev pub served : Line → Line
served l = record { queue = drop 1 l.queue; held = l.held }

-- the frames on a scripted link
abbrev pub line : ℕ → ScriptedLink → Line
line limit x = record { queue = queued limit x.queue; held = option_map (frame limit) x.held }

-- a link on which no frame waits, with a script that is proper
abbrev pub new_link : ℕ → ℕ → ℕ → List ℕ → ScriptedLink
new_link size limit room cs = record { queue = empty size limit; script = opened room cs; held = None }

-- a link with a script, on which no frame waits
abbrev pub opened_with : ℕ → ℕ → ℕ → List ℕ → Result ScriptedLink Refusal
opened_with size limit room cs =
    cond (proper room cs) (Ok (new_link size limit room cs)) (Err BadScript)

-- the link after a letter has acted on an entry
abbrev pub acted : Letter → Stored → ScriptedLink → ScriptedLink
acted c s x = record { queue = pushed_by x.queue (through c (Some s)); script = x.script; held = cond (holds c) (Some s) x.held }

-- the same of an entry that is absent where the frame was too long
abbrev pub acted_on : Letter → Option Stored → ScriptedLink → ScriptedLink
acted_on c None x = x
acted_on c (Some s) x = acted c s x

-- the link after an entry that was held has joined the queue
abbrev pub let_go : Option Stored → ScriptedLink → ScriptedLink
let_go o x = record { queue = pushed_by x.queue (option_to_list o); script = x.script; held = x.held }

-- a put of an entry: the next letter of the script acts, then the entry that was held before joins the queue
abbrev pub passed : Option Stored → ScriptedLink → ScriptedLink
passed o x = let_go x.held (acted_on (letter_of x.script) o (record { queue = x.queue; script = turned x.script; held = None }))

-- the frame held waits too, but only those in the queue can be taken
abbrev pub scripted : ℕ → Carries ScriptedLink
scripted limit = record {
  waiting = λ x. (line limit x).queue ++ option_to_list (line limit x).held;
  put = λ x f. passed (entry_of limit f) x;
  first = λ x. first_of (queued limit x.queue);
  rest = λ x. record { queue = popped x.queue; script = x.script; held = x.held };
}
