-- A file's packets fill a record, which then shows the file.
use Rattle.std.proofs.Common.{◌≡◌, ℕ, ◌+◌, ◌-◌, ◌*◌, ◌<◌, ◌≤◌, true, false, List, length, get_or, take, sym, refl, ap, ◌∙◌, subst, inl, inr, mul-one, mul-add, arith}
use Rattle.std.proofs.lemmas.List.FromFn.{get_or-map-range_with_len}
use Rattle.std.proofs.lemmas.List.{ext_get_or, get_or-take, length-take-le}
use Rattle.std.proofs.lemmas.Bool.{cases_eq, cases_lt, both_ways, le-leb, lt-leb}
use Rattle.field.specs.Lists.{below}
use Rattle.file.specs.declared.spelling.Spelling.{Spelling}
use Rattle.file.specs.Filled.{File, Filled, Fills, Took}
use Rattle.file.specs.Filling.{Outcome, adding, buffer_with, byte_with, complete, length_in, size_with_packet, taking}
use Rattle.file.specs.Packets.{loaded, packets, packet_of}
use Rattle.file.specs.Spelling.{base, room, spelling_of}
use Rattle.file.proofs.Carried.{packet_byte, packet-codes, packet-digits, packet-first, packet-length}
use Rattle.file.proofs.Counts.{packets-hold, packets-least, packets_pos}
use Rattle.file.proofs.Loads.{loaded-file}
use Rattle.file.proofs.Steps.{adds_bytes, checked_bytes, size-first, size_later, takes_none, takes_one, under_below}
use Rattle.file.proofs.Writes.{written, left}

module _ (s : Spelling) (file : List ℕ) (k taken size : ℕ) (buffer : List ℕ) (filled : Filled s file k taken size buffer) where
  -- once all packets were taken, all bytes are there
  pub done : packets s (length file) ≤ k → (complete s taken size ≡ true) × (size ≡ length file)
  unfolding complete
  done h =
      let p = packets_pos s (length file) in
      let n = filled.known (omega arith) in
      let t : packets s (length file) ≤ taken = omega (arith, filled.counted) in
      (le-leb (4 + size) (room s * taken) (omega (arith, packets-hold s (length file) taken t)), n)

  -- before that, some are lacking
  pub lacking : k < packets s (length file) → complete s taken size ≡ false
  unfolding complete
  lacking h =
      let t : taken ≡ k = omega (arith, filled.counted) in
      lt-leb (4 + size) (room s * taken)
      (elim (cases_lt (room s * taken) (4 + size)) [
        | inl l ↦ l
        | inr m ↦
            let least = packets-least s size taken m in
            let pos = packets_pos s size in
            let n = ap (packets s) (filled.known (omega arith)) in
            absurd (omega arith)
      ])

  -- so the bytes tell whether all packets were taken
  pub all : complete s taken size ≡ true → (packets s (length file) ≤ k) × (size ≡ length file)
  all e =
      elim (cases_lt k (packets s (length file))) [
        | inl l ↦ absurd (both_ways _ (lacking l) e)
        | inr a ↦ (a, (done a).1)
      ]

  pub not_all : complete s taken size ≡ false → k < packets s (length file)
  not_all e =
      elim (cases_lt k (packets s (length file))) [
        | inl l ↦ l
        | inr a ↦ absurd (both_ways _ e (done a).0)
      ]

  -- the buffer then begins with the file
  pub begins : packets s (length file) ≤ k → size ≤ length buffer → take size buffer ≡ file
  begins h le =
      let n = (done h).1 in
      let m = length-take-le size buffer le in
      ext_get_or 0 (take size buffer) file (m ∙ n)
      (λ i l.
      let b : i < size = omega arith in
      get_or-take size buffer i 0 b
      ∙ filled.stands i (omega arith) (omega (arith, packets-hold s (length file) k h)))

module _ (s : Spelling) (file : List ℕ) (f : File file) (k : ℕ) (buffer : List ℕ) where
  pub room-more : room s * (k + 1) ≡ room s * k + room s
  room-more = mul-add (room s) k 1 ∙ ap (λ (r : ℕ). room s * k + r) (mul-one (room s))

  -- packet k brings the bytes that it holds to their places, and leaves those before
  brings : length file ≤ length buffer
      → ((place : ℕ) → place < length file → place + 4 < room s * k → get_or buffer place 0 ≡ get_or file place 0)
      → (place : ℕ) → place < length file → place + 4 < room s * (k + 1) → get_or (buffer_with s k (length file) (packet_of s file k) buffer) place 0 ≡ get_or file place 0
  unfolding buffer_with
  brings le stands place h l =
      let n = length file in
      let packet = packet_of s file k in
      get_or-map-range_with_len (byte_with s k n packet buffer) 0 (length buffer) place place 0 (omega arith) (omega arith)
      ∙ elim (cases_lt (place + 4) (room s * k)) [
        | inl b ↦ left s k n packet buffer place (λ x y z. omega arith) ∙ stands place h b
        | inr a ↦
            let j = place + 4 - room s * k in
            let at : room s * k + j ≡ place + 4 = omega arith in
            let back : place + 4 - 4 ≡ place = omega arith in
            written s k n packet buffer place a (omega (arith, room-more)) h
            ∙ packet_byte s file f k j (omega (arith, room-more))
            ∙ ap (λ (i : ℕ). get_or (loaded file) i 0) at
            ∙ loaded-file file (place + 4) (omega arith)
            ∙ ap (λ (i : ℕ). get_or file i 0) back
      ]

-- the length that a record knows once packet k was taken is the file's
pub knows : (s : Spelling) → (packet : List ℕ) (taken size : ℕ) (buffer file : List ℕ) (k : ℕ) → File file → Filled s file k taken size buffer
    → packet ≡ packet_of s file k → k < packets s (length file) → size_with_packet s taken size packet ≡ length file
knows s packet taken size buffer file k f filled is l =
    let t : taken ≡ k = omega (arith, filled.counted) in
    elim (cases_eq taken 0) [
      | inl z ↦
          let zero : k ≡ 0 = omega arith in
          size-first s taken size packet z ∙ ap (length_in s) (is ∙ ap (packet_of s file) zero) ∙ packet-first s file f
      | inr ne ↦ size_later s taken size packet ne ∙ filled.known (omega arith)
    ]

-- packet k of a file is taken by a record that the packets before it filled
takes : (s : Spelling) → (packet : List ℕ) (taken size : ℕ) (buffer : List ℕ) → Fills s packet taken size buffer (taking s taken size packet buffer)
takes s packet taken size buffer file k f enough filled is =
    elim (cases_lt k (packets s (length file))) [
      | inl l ↦
          let t : taken ≡ k = omega (arith, filled.counted) in
          let n = knows s packet taken size buffer file k f filled is l in
          subst (Took s file (k + 1)) (sym (takes_one s taken size packet buffer (lacking s file k taken size buffer filled l) (length file) n f.short)) (
            refl,
            record {
              counted = omega arith;
              known = λ _. refl;
              stands = λ place h b.
                  ap (λ (m : ℕ). get_or (buffer_with s m (length file) packet buffer) place 0) t
                  ∙ ap (λ (p : List ℕ). get_or (buffer_with s k (length file) p buffer) place 0) is
                  ∙ brings s file f k buffer (omega (arith, f.short)) filled.stands place h b;
            },
          )
      | inr a ↦
          let p = packets_pos s (length file) in
          subst (Took s file (k + 1)) (sym (takes_none s taken size packet buffer (done s file k taken size buffer filled a).0)) (
            refl,
            record {
              counted = omega (arith, filled.counted);
              known = λ _. filled.known (omega arith);
              stands = λ place h b. filled.stands place h (omega (arith, packets-hold s (length file) k a));
            },
          )
    ]

-- what a record does with a packet of a file
pub adds_packet : (q : ℕ) → 2 ≤ q → (packet : List ℕ) (taken size : ℕ) (buffer file : List ℕ) (k : ℕ) → 16000 ≤ length buffer → packet ≡ packet_of (spelling_of q) file k
    → adding q taken size packet buffer ≡ taking (spelling_of q) taken size packet buffer
adds_packet q two packet taken size buffer file k enough is =
    let s = spelling_of q in
    adds_bytes q taken size packet buffer enough
    (checked_bytes q packet
    (ap length is ∙ packet-length s file k)
    (ap (below q) is ∙ under_below q _ (packet-codes q two file k))
    (ap (below (base s)) is ∙ under_below (base s) _ (packet-digits s file k)))

pub fills : (q : ℕ) → 2 ≤ q → (packet : List ℕ) (taken size : ℕ) (buffer : List ℕ) (after : Outcome) → after ≡ adding q taken size packet buffer → Fills (spelling_of q) packet taken size buffer after
fills q two packet taken size buffer after e file k f enough filled is =
    let s = spelling_of q in
    subst (Took s file (k + 1)) (sym (e ∙ adds_packet q two packet taken size buffer file k enough is))
    (takes s packet taken size buffer file k f enough filled is)
