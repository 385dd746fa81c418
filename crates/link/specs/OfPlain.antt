-- The plain link: a queue.
use Rattle.std.specs.Prelude.{ℕ}
use Rattle.std.specs.Option.{option_to_list}
use Rattle.link.specs.declared.plain.PlainLink.{PlainLink}
use Rattle.link.specs.Link.{Carries}
use Rattle.link.specs.Queue.{first_of}
use Rattle.link.specs.Ring.{entry_of, queued, pushed_by, popped}

-- a frame that is longer than the limit, or that finds the queue full, is lost
abbrev pub plain : ℕ → Carries PlainLink
plain limit = record {
  waiting = queued limit;
  put = λ q f. pushed_by q (option_to_list (entry_of limit f));
  first = λ q. first_of (queued limit q);
  rest = popped;
}
