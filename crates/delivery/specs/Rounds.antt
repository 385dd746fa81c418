-- The rounds of a job: which calls are made on its transfer, one after another, and when they end.
use Rattle.std.specs.Prelude.{◌≡◌, ℕ, zero, suc, ◌+◌, ◌-◌, ◌*◌, ◌≤◌, Bool, true, false, cond, ◌&&◌, List, [], ◌∷◌, length, replicate, Some, None, Ok, Err, Option, Result, ◌==◌}
use Rattle.refusal.specs.declared.Refusal.{Refusal}
use Rattle.transfer.specs.Log.{Event, admitted, heard}
use Rattle.transfer.specs.Parts.{Parts, State, started}
use Rattle.transfer.specs.Steps.{admits, coded, sends, fetch_takes, fetches, hear_takes, hears}

-- how far a job has come: the calls made on its transfer, the newest first, the transfer after them, and the number buffer
-- that the released packets are written to
pub record Course (S D R : Type 0) : Type 0 where
  pub log : List Event
  pub state : State S D R
  pub numbers : List ℕ

abbrev pub course : {S D R : Type 0} → List Event → State S D R → List ℕ → Course S D R
course log σ numbers = record { log = log; state = σ; numbers = numbers }

-- the transfer was sealed
abbrev pub sealed : List Event → Bool
sealed [] = false
sealed (Event.admit packet answer ∷ log) = sealed log
sealed (Event.seal ∷ log) = true
sealed (Event.send frame answer ∷ log) = sealed log
sealed (Event.fetch frame before answer after ∷ log) = sealed log
sealed (Event.hear frame answer ∷ log) = sealed log

-- every packet was admitted, and the sender has heard that all of them are released: H is t
abbrev pub done : List Event → Bool
done log = sealed log && (heard log).0 == length (admitted log)

-- a call was not refused
abbrev pub granted : {A : Type 0} → Result A Refusal → Bool
granted (Ok x) = true
granted (Err refusal) = false

-- a call took no frame
abbrev pub found_none : {A : Type 0} → Result (Option A) Refusal → Bool
found_none (Ok None) = true
found_none (Ok (Some x)) = false
found_none (Err refusal) = false

module _ {S D R : Type 0} (w : ℕ) (p : Parts S D R) where
  -- a new transfer with this source and these links
  abbrev pub opening : S → D → R → Course S D R
  opening source forward reverse = course [] (started w source forward reverse) (replicate (w * 128) 0)

  -- one call of each kind
  abbrev pub admit_one : List ℕ → Course S D R → Course S D R
  admit_one packet c = let o = admits w p c.state packet in course (Event.admit packet o.answer ∷ c.log) o.state c.numbers

  abbrev pub seal_it : Course S D R → Course S D R
  seal_it c = course (Event.seal ∷ c.log) c.state c.numbers

  abbrev pub send_one : Course S D R → Course S D R
  send_one c = let o = sends w p c.state in course (Event.send (coded w p c.state) o.answer ∷ c.log) o.state c.numbers

  abbrev pub fetch_one : Course S D R → Course S D R
  fetch_one c =
      let o = fetches w p c.state c.numbers in
      course (Event.fetch (fetch_takes w p c.state c.numbers) c.numbers o.answer o.numbers ∷ c.log) o.state o.numbers

  abbrev pub hear_one : Course S D R → Course S D R
  hear_one c = let o = hears w p c.state in course (Event.hear (hear_takes w p c.state) o.answer ∷ c.log) o.state c.numbers

  -- fetches until one finds none, n at most
  unfoldable pub fetching : ℕ → Course S D R → Course S D R
  fetching zero c = c
  fetching (suc n) c = cond (found_none (fetches w p c.state c.numbers).answer) (fetch_one c) (fetching n (fetch_one c))

  -- fetches until none: each takes a frame that waits, so one more than there are is enough
  abbrev pub fetch_all_lem : Course S D R → Course S D R
  fetch_all_lem c = fetching (suc (length (p.forward.waiting c.state.forward))) c

  -- hears until one finds none, n at most
  unfoldable pub hearing : ℕ → Course S D R → Course S D R
  hearing zero c = c
  hearing (suc n) c = cond (found_none (hears w p c.state).answer) (hear_one c) (hearing n (hear_one c))

  -- hears until none
  abbrev pub hear_all_lem : Course S D R → Course S D R
  hear_all_lem c = hearing (suc (length (p.reverse.waiting c.state.reverse))) c

  -- one send, fetches until none, hears until none
  abbrev pub exchange : Course S D R → Course S D R
  exchange c = hear_all_lem (fetch_all_lem (send_one c))

  -- the stream of a job: packet k, and how many there are
  module _ (packet : ℕ → List ℕ) (count : ℕ) where
    -- admits n packets from packet k on, until one is refused
    unfoldable pub admitting : ℕ → ℕ → Course S D R → Course S D R
    admitting k zero c = c
    admitting k (suc n) c =
        cond (granted (admits w p c.state (packet k)).answer) (admitting (k + 1) n (admit_one (packet k) c)) (admit_one (packet k) c)

    -- admits from the next packet on, until one is refused or none is left
    abbrev pub admit_all_lem : Course S D R → Course S D R
    admit_all_lem c = admitting (length (admitted c.log)) (count - length (admitted c.log)) c

    -- seals, if that is still to be done, once all packets are admitted
    abbrev pub seal_last : Course S D R → Course S D R
    seal_last c = cond (sealed c.log) c (cond (length (admitted c.log) == count) (seal_it c) c)

    -- one round
    unfoldable pub round : Course S D R → Course S D R
    round c = exchange (seal_last (admit_all_lem c))

    -- rounds until it is done, which is tested at the end of each, n at most
    unfoldable pub rounds : ℕ → Course S D R → Course S D R
    rounds zero c = c
    rounds (suc n) c = cond (done (round c).log) (round c) (rounds n (round c))

    -- so many rounds, done or not
    unfoldable pub after : ℕ → Course S D R → Course S D R
    after zero c = c
    after (suc n) c = after n (round c)

    -- the rounds are used up: n were made, and it was done after none of them
    pub record UsedUp (n : ℕ) (c : Course S D R) : Type 0 where
      pub all : rounds n c ≡ after n c
      pub never : (k : ℕ) → 1 ≤ k → k ≤ n → done (after k c).log ≡ false

    -- what is left of n rounds, the first of which has admitted and sealed
    unfoldable pub closing : ℕ → Course S D R → Course S D R
    closing zero c = c
    closing (suc n) c = cond (done (exchange c).log) (exchange c) (rounds n (exchange c))
