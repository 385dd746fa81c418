-- Of a buffer only the first 16,000 places are written, and nothing past them is looked at.
use Rattle.std.proofs.Common.{◌≡◌, ℕ, ◌+◌, ◌-◌, ◌*◌, ◌≤◌, List, ◌++◌, cond, map, length, get_or, take, drop, Ok, Err, refl, sym, ap, ◌∙◌, inl, inr, arith, length-append, length-drop, take-append-drop}
use Rattle.refusal.specs.declared.Refusal.TheVariants.{LongRecord}
use Rattle.std.specs.List.{range_with_len}
use Rattle.std.proofs.lemmas.Bool.{cases_Bool, cases_lt}
use Rattle.std.proofs.lemmas.List.FromFn.{fill_by_all, get_or-map-range_with_len, length-map-range_with_len}
use Rattle.std.proofs.lemmas.List.{get_or_append_left, get_or-append_right, get_or-drop, get_or-take, length-take-le}
use Rattle.file.specs.declared.spelling.Spelling.{Spelling}
use Rattle.file.specs.Filling.{Outcome, buffer_with, byte_with, complete, holds, size_with_packet, taking}
use Rattle.file.specs.Spelling.{byte_of, room}
use Rattle.file.proofs.Steps.{takes_none, takes-long, takes_one}
use Rattle.file.proofs.Writes.{left}

module _ (s : Spelling) (taken size : ℕ) (packet buffer : List ℕ) (m : ℕ) (fits : m ≤ length buffer) where
  -- what a packet writes into a front that the file fits into, it writes into the whole
  front_with : size ≤ m → buffer_with s taken size packet (take m buffer) ++ drop m buffer ≡ buffer_with s taken size packet buffer
  unfolding buffer_with
  front_with short =
      let front = take m buffer in
      let f = byte_with s taken size packet front in
      let n = length-take-le m buffer fits in
      let written = map f (range_with_len 0 (length front)) in
      let long = length-map-range_with_len f 0 (length front) in
      fill_by_all (byte_with s taken size packet buffer) (written ++ drop m buffer) (length buffer) 0
      (omega (arith, length-append written (drop m buffer), length-drop m buffer))
      (λ k h.
      elim (cases_lt k m) [
        | inl l ↦
            get_or_append_left written (drop m buffer) 0 k (omega arith) ∙ get_or-map-range_with_len f 0 (length front) k k 0 (omega arith) (omega arith)
            ∙ ap (cond (holds s taken size k) (byte_of s packet (k + 4 - room s * taken))) (get_or-take m buffer k 0 l)
        | inr g ↦
            let at : m + (k - m) ≡ k = omega arith in
            get_or-append_right written (drop m buffer) m k 0 (omega arith) g ∙ get_or-drop m buffer (k - m) 0
            ∙ ap (λ (i : ℕ). get_or buffer i 0) at ∙ sym (left s taken size packet buffer k (λ a b c. omega arith))
      ])

abbrev pub before : List ℕ → Outcome → Outcome
before rest o = (o.0, o.1, o.2, o.3 ++ rest)

-- taking a packet into the front of a buffer is taking it into the buffer
pub front_taken : (s : Spelling) (taken size : ℕ) (packet buffer : List ℕ) → 16000 ≤ length buffer
    → before (drop 16000 buffer) (taking s taken size packet (take 16000 buffer)) ≡ taking s taken size packet buffer
front_taken s taken size packet buffer fits =
    let front = take 16000 buffer in
    let rest = drop 16000 buffer in
    let n = size_with_packet s taken size packet in
    elim (cases_Bool (complete s taken size)) [
      | inl e ↦
          ap (before rest) (takes_none s taken size packet front e) ∙ ap (λ (b : List ℕ). (Ok tt, taken, size, b)) (take-append-drop 16000 buffer) ∙ sym (takes_none s taken size packet buffer e)
      | inr e ↦
          elim (cases_lt 16000 n) [
            | inl l ↦
                ap (before rest) (takes-long s taken size packet front e l) ∙ ap (λ (b : List ℕ). (Err LongRecord, taken, size, b)) (take-append-drop 16000 buffer)
                ∙ sym (takes-long s taken size packet buffer e l)
            | inr g ↦
                ap (before rest) (takes_one s taken size packet front e n refl g) ∙ ap (λ (b : List ℕ). (Ok tt, taken + 1, n, b)) (front_with s taken n packet buffer 16000 fits g)
                ∙ sym (takes_one s taken size packet buffer e n refl g)
          ]
    ]
