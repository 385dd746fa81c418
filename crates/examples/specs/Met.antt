-- What meets the promises: runs in which every kind of answer occurs, and parts that keep their laws.
use Rattle.std.specs.Prelude.{◌≡◌, ℕ, true, List, [], ◌∷◌, ◌++◌, replicate, Some, None, Ok, Err}
use Rattle.refusal.specs.declared.Refusal.TheVariants.{Ahead, Contradiction, ShortBuffer, WrongKind}
use Rattle.field.specs.OfBits.{bits}
use Rattle.carried.specs.Layouts.{eight_a_byte}
use Rattle.frame.specs.ReportFrame.{report_of}
use Rattle.algebra.specs.Combinations.{Spanned, Seen}
use Rattle.algebra.specs.Frames.{row_at, frame_at}
use Rattle.algebra.specs.Streams.{Fits}
use Rattle.receiver.specs.Buffers.{over}
use Rattle.receiver.specs.Log.{Arrival, call, released}
use Rattle.receiver.specs.Promise.{Promise}
use Rattle.receiver.specs.Run.{Run}
use Rattle.receiver.specs.declared.state.Answer.TheVariants.{Fresh, Repeat}
use Rattle.receiver.specs.declared.state.State.{State}
use Rattle.source.specs.OfPlain.{plain as plain-source}
use Rattle.source.specs.Turn.{start}
use Rattle.source.specs.declared.plain.Plain.{Plain}
use Rattle.link.specs.Link.{Carries as Link-means, CarriesLaws as Link-laws}
use Rattle.link.specs.OfPlain.{plain as plain-link}
use Rattle.link.specs.Ring.{empty}
use Rattle.link.specs.declared.plain.PlainLink.{PlainLink}
use Rattle.transfer.specs.Log.{Event, admit, seal, send, fetch, hear, arrivals, admitted, dropped}
use Rattle.transfer.specs.Parts.{Parts, PartsLaws, parts, State as Transfer-state}
use Rattle.transfer.specs.Promise.{WindowTaken, Delivery}
use Rattle.transfer.specs.Run.{Run as Transfer-run}
use Rattle.file.specs.Filled.{TookOver}
use Rattle.file.specs.Filling.{Outcome, complete, taking}
use Rattle.file.specs.Packets.{packet_of}
use Rattle.file.specs.Spelling.{in_bytes}
use Rattle.examples.specs.Words.{packet, bit_frame, buffer}

-- seven calls of a receiver in bits, the newest first: the sum of packets 0 and 1 is fresh and releases none, packet 1 is fresh
-- and releases both, the sum again is a repeat, and with other symbols a contradiction; a row of the packets 3 to 34 is
-- ahead, one byte 0 is no frame, and a buffer without room is refused
abbrev pub every_kind : List Arrival
every_kind =
    call (bit_frame 2 (1 ∷ []) 1) [] (Err ShortBuffer) []
    ∷ call (0 ∷ []) buffer (Err WrongKind) buffer
    ∷ call (bit_frame 3 (replicate 32 1) 0) buffer (Err Ahead) buffer
    ∷ call (bit_frame 0 (1 ∷ 1 ∷ []) 0) buffer (Err Contradiction) buffer
    ∷ call (bit_frame 0 (1 ∷ 1 ∷ []) 1) buffer (Ok Repeat) buffer
    ∷ call (bit_frame 0 (0 ∷ 1 ∷ []) 1) buffer (Ok (Fresh 2)) (over buffer (packet 0 ++ packet 1))
    ∷ call (bit_frame 0 (1 ∷ 1 ∷ []) 1) buffer (Ok (Fresh 0)) buffer
    ∷ []

-- a link that loses every frame
abbrev pub losing : Link-means ℕ
losing = record { waiting = λ x. []; put = λ x f. x; first = λ x. None; rest = λ x. x }

-- bits, the plain source and plain links
abbrev pub plain_parts : Parts Plain PlainLink PlainLink
plain_parts = parts bits eight_a_byte (plain-source 32) (plain-link 400) (plain-link 400)

-- the calls of a transfer of one packet, the newest first: admitted, sealed, sent, fetched and released, and heard to be
abbrev pub one_packet : List Event
one_packet =
    hear (Some (report_of (1, 1))) (Ok (Some (1, 1)))
    ∷ fetch (Some (bit_frame 0 (1 ∷ []) 1)) buffer (Ok (Some (Fresh 1))) (over buffer (packet 1))
    ∷ send (bit_frame 0 (1 ∷ []) 1) (Ok 26)
    ∷ seal
    ∷ admit (packet 1) (Ok 1)
    ∷ []

-- the packet of a file of two bytes, in a field whose symbols are bytes, taken by a new record with a buffer of eight
-- numbers 5: what comes of it
abbrev pub two_bytes_taken : Outcome
two_bytes_taken = (Ok tt, 1, 2, 7 ∷ 9 ∷ replicate 6 5)

pub record PromisesMet : Type 0 where
  -- in bits: the stream of ones fits a frame that says that packet 0 is ones
  pub fit : Fits 65536 128 bits (λ k. packet 1) (frame_at 0 (1 ∷ []) (packet 1))
  -- the sum of packets 0 and 1 shows packet 0 seen
  pub seen : Seen bits (row_at 0 (1 ∷ 1 ∷ []) ∷ []) 0
  -- packet 0 alone is a combination of that sum and of packet 1
  pub spanned : Spanned bits (row_at 0 (1 ∷ 1 ∷ []) ∷ row_at 0 (0 ∷ 1 ∷ []) ∷ []) (row_at 0 (1 ∷ []))
  -- a receiver gives every kind of answer, both packets are released, and the promise holds
  pub receiver_runs : (c : State) × Run bits eight_a_byte 32 every_kind c
  pub receiver_releases : released every_kind ≡ packet 0 ∷ packet 1 ∷ []
  pub receiver_promises : Promise bits eight_a_byte 32 every_kind
  -- a link may lose all
  pub all_lost : Link-laws 400 losing
  -- a transfer whose parts keep their laws, and whose links open empty, carries its one packet
  pub parts_keep : PartsLaws 32 plain_parts
  pub opens_empty : plain_parts.forward.waiting (empty 16 400) ≡ []
  pub transfer_runs : (τ : Transfer-state Plain PlainLink PlainLink)
      × Transfer-run 32 plain_parts (record { turn = start }) (empty 16 400) (empty 16 400) one_packet τ
  -- the frame of its window was taken, the packet is released, the sender has dropped it, and the promise holds
  pub window_taken : WindowTaken one_packet 0 1
  pub all_released : released (arrivals one_packet) ≡ admitted one_packet
  pub packet_dropped : dropped one_packet ≡ 1
  pub delivers : Delivery bits eight_a_byte 32 one_packet
  -- the packet of a file of two bytes is taken, with which the record has the file, leaves the rest of its buffer, and is whole
  pub file_taken : taking in_bytes 0 0 (packet_of in_bytes (7 ∷ 9 ∷ []) 0) (replicate 8 5) ≡ two_bytes_taken
  pub file_filled : TookOver in_bytes (7 ∷ 9 ∷ []) 1 (replicate 8 5) two_bytes_taken
  pub file_whole : complete in_bytes 1 2 ≡ true
