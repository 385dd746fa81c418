-- A file's packets write nothing but its bytes into a record's buffer.
use Rattle.std.proofs.Common.{◌≡◌, ℕ, ◌+◌, ◌-◌, ◌*◌, ◌<◌, ◌≤◌, min, List, ◌++◌, map, length, get_or, take, drop, sym, ap, ◌∙◌, subst, inl, inr, arith, length-append, length-drop}
use Rattle.std.specs.List.{range_with_len}
use Rattle.std.proofs.lemmas.List.FromFn.{get_or-map-range_with_len, length-map-range_with_len}
use Rattle.std.proofs.lemmas.List.{ext_get_or, get_or_append_left, get_or-append_right, get_or-drop, get_or_past, get_or-take, length-take-le}
use Rattle.std.proofs.lemmas.Bool.{cases_lt}
use Rattle.file.specs.declared.spelling.Spelling.{Spelling}
use Rattle.file.specs.Filled.{Beside, File, FilledOver, FillsOver}
use Rattle.file.specs.Filling.{Outcome, adding, buffer_with, byte_with, taking}
use Rattle.file.specs.Packets.{packets, packet_of}
use Rattle.file.specs.Spelling.{room, spelling_of}
use Rattle.file.proofs.Fills.{adds_packet, done, fills, knows, lacking, room-more}
use Rattle.file.proofs.Steps.{takes_none, takes_one}
use Rattle.file.proofs.Writes.{left}

module _ (s : Spelling) (file : List ℕ) (k taken size : ℕ) (before buffer : List ℕ) (h : FilledOver s file k taken size before buffer) where
  -- the buffer is as before but for the bytes of the file that the packets hold, with which it begins
  pub begins_with : (n : ℕ) → n ≡ min (length file) (room s * k - 4) → n ≤ length before → buffer ≡ take n file ++ drop n before
  begins_with n is fits =
      let front = length-take-le n file (omega arith) in
      let back = length-drop n before in
      ext_get_or 0 buffer (take n file ++ drop n before) (h.beside.long ∙ omega (arith, length-append (take n file) (drop n before)))
      (λ i _. elim (cases_lt i n) [
        | inl l ↦
            h.filled.stands i (omega arith) (omega arith)
            ∙ sym (get_or_append_left (take n file) (drop n before) 0 i (omega arith) ∙ get_or-take n file i 0 l)
        | inr m ↦
            let at : n + (i - n) ≡ i = omega arith in
            h.beside.left i (λ x y. omega arith)
            ∙ sym (get_or-append_right (take n file) (drop n before) n i 0 front m ∙ get_or-drop n before (i - n) 0 ∙ ap (λ (j : ℕ). get_or before j 0) at)
      ])

module _ (s : Spelling) (file : List ℕ) (f : File file) (k : ℕ) (buffer : List ℕ) where
  -- packet k leaves all places that no byte of the file up to it has
  leaves : (packet : List ℕ) (place : ℕ) → (place < length file → place + 4 < room s * (k + 1) → ⊥)
      → get_or (buffer_with s k (length file) packet buffer) place 0 ≡ get_or buffer place 0
  unfolding buffer_with
  leaves packet place apart =
      elim (cases_lt place (length buffer)) [
        | inl l ↦
            get_or-map-range_with_len (byte_with s k (length file) packet buffer) 0 (length buffer) place place 0 l (omega arith)
            ∙ left s k (length file) packet buffer place (λ x y z. apart z (omega (arith, room-more s file f k buffer)))
        | inr m ↦
            get_or_past (map (byte_with s k (length file) packet buffer) (range_with_len 0 (length buffer))) place 0 (omega (arith, length-map-range_with_len (byte_with s k (length file) packet buffer) 0 (length buffer)))
            ∙ sym (get_or_past buffer place 0 m)
      ]

length-buffer_with : (s : Spelling) (taken size : ℕ) (packet buffer : List ℕ) → length (buffer_with s taken size packet buffer) ≡ length buffer
unfolding buffer_with
length-buffer_with s taken size packet buffer = length-map-range_with_len (byte_with s taken size packet buffer) 0 (length buffer)

-- packet k of a file is taken with nothing written beside its bytes
takes_beside : (s : Spelling) → (packet : List ℕ) (taken size : ℕ) (buffer file before : List ℕ) (k : ℕ) → File file
    → FilledOver s file k taken size before buffer → packet ≡ packet_of s file k → Beside s file (k + 1) before (taking s taken size packet buffer).3
takes_beside s packet taken size buffer file before k f h is =
    let filled = h.filled in
    elim (cases_lt k (packets s (length file))) [
      | inl l ↦
          let t : taken ≡ k = omega (arith, filled.counted) in
          let n = knows s packet taken size buffer file k f filled is l in
          subst (λ (o : Outcome). Beside s file (k + 1) before o.3) (sym (takes_one s taken size packet buffer (lacking s file k taken size buffer filled l) (length file) n f.short))
          (record {
            left = λ place apart.
                ap (λ (m : ℕ). get_or (buffer_with s m (length file) packet buffer) place 0) t
                ∙ leaves s file f k buffer packet place apart ∙ h.beside.left place (λ a b. apart a (omega (arith, room-more s file f k buffer)));
            long = length-buffer_with s taken (length file) packet buffer ∙ h.beside.long;
          })
      | inr a ↦
          subst (λ (o : Outcome). Beside s file (k + 1) before o.3) (sym (takes_none s taken size packet buffer (done s file k taken size buffer filled a).0))
          (record {
            left = λ place apart. h.beside.left place (λ b c. apart b (omega (arith, room-more s file f k buffer)));
            long = h.beside.long;
          })
    ]

pub fills_over : (q : ℕ) → 2 ≤ q → (packet : List ℕ) (taken size : ℕ) (buffer : List ℕ) (after : Outcome) → after ≡ adding q taken size packet buffer
    → FillsOver (spelling_of q) packet taken size buffer after
fills_over q two packet taken size buffer after e file before k f enough h is =
    let s = spelling_of q in
    let took = fills q two packet taken size buffer after e file k f enough h.filled is in (
      took.0,
      record {
        filled = took.1;
        beside = subst (λ (o : Outcome). Beside s file (k + 1) before o.3) (sym (e ∙ adds_packet q two packet taken size buffer file k enough is))
            (takes_beside s packet taken size buffer file before k f h is);
      },
    )
