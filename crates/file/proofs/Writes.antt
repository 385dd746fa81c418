-- Which places of the buffer a packet is written at.
use Rattle.std.proofs.Common.{◌≡◌, ℕ, ◌+◌, ◌-◌, ◌*◌, ◌<◌, ◌≤◌, min, List, ◌++◌, length, get_or, take, drop, sym, ap, ◌∙◌, inl, inr, arith, length-append, length-drop}
use Rattle.std.proofs.lemmas.Bool.{cases_lt}
use Rattle.std.proofs.lemmas.List.FromFn.{fill_by_all}
use Rattle.std.proofs.lemmas.List.{get_or_append_left, get_or-append_right, get_or-drop, get_or-take, length-take-le}
use Rattle.std.proofs.lemmas.Bool.{and_from, and_parts, cases_Bool, cond-true, cond-false, le-leb, leb-true, lt-ltb, ltb-true}
use Rattle.file.specs.declared.spelling.Spelling.{Spelling}
use Rattle.file.proofs.Counts.{room-least}
use Rattle.file.specs.Filling.{buffer_with, byte_with, holds}
use Rattle.file.specs.Spelling.{byte_of, room}

module _ (s : Spelling) (taken size : ℕ) (packet buffer : List ℕ) (place : ℕ) where
  -- a place whose byte the packet holds
  pub written : room s * taken ≤ place + 4 → place + 4 < room s * taken + room s → place < size → byte_with s taken size packet buffer place ≡ byte_of s packet (place + 4 - room s * taken)
  unfolding holds
  written a b h = cond-true _ _ _ (and_from _ _ (le-leb _ _ a) (and_from _ _ (lt-ltb _ _ b) (lt-ltb _ _ h)))

  -- any other
  pub left : (room s * taken ≤ place + 4 → place + 4 < room s * taken + room s → place < size → ⊥) → byte_with s taken size packet buffer place ≡ get_or buffer place 0
  unfolding holds
  left h =
      elim (cases_Bool (holds s taken size place)) [
        | inl e ↦
            let p = and_parts _ _ e in
            let l = and_parts _ _ p.1 in
            absurd (h (leb-true _ _ p.0) (ltb-true _ _ l.0) (ltb-true _ _ l.1))
        | inr e ↦ cond-false (holds s taken size place) _ _ e
      ]

-- the buffer once the part from `start` on holds the n bytes of the file that the packet brings
module _ (s : Spelling) (taken size : ℕ) (packet buffer bytes : List ℕ) (start n r : ℕ) where
  pub wrote : r ≡ room s → start ≡ r * taken - 4 → n ≡ min size (r * taken + r - 4) - start → start ≤ size → size ≤ length buffer → length bytes ≡ n
      → ((k : ℕ) → k < n → get_or bytes k 0 ≡ byte_of s packet (start + 4 - r * taken + k))
      → take start buffer ++ (bytes ++ drop n (drop start buffer)) ≡ buffer_with s taken size packet buffer
  unfolding buffer_with
  wrote is es en within fits long each =
      let all : r * taken ≡ room s * taken = ap (λ (n : ℕ). n * taken) is in
      let wide = room-least s in
      let rest = drop n (drop start buffer) in
      let front = length-take-le start buffer (omega arith) in
      fill_by_all (byte_with s taken size packet buffer) (take start buffer ++ (bytes ++ rest)) (length buffer) 0
      (omega (arith, length-append (take start buffer) (bytes ++ rest), length-append bytes rest, length-drop n (drop start buffer), length-drop start buffer))
      (λ k h.
      elim (cases_lt k start) [
        | inl l ↦
            get_or_append_left (take start buffer) (bytes ++ rest) 0 k (omega arith) ∙ get_or-take start buffer k 0 l
            ∙ sym (left s taken size packet buffer k (λ a b c. omega arith))
        | inr m ↦
            let j = k - start in
            get_or-append_right (take start buffer) (bytes ++ rest) start k 0 front m
            ∙ elim (cases_lt j n) [
              | inl l ↦
                  let at : start + 4 - r * taken + j ≡ k + 4 - room s * taken = omega arith in
                  get_or_append_left bytes rest 0 j (omega arith) ∙ each j l ∙ ap (byte_of s packet) at
                  ∙ sym (written s taken size packet buffer k (omega arith) (omega arith) (omega arith))
              | inr g ↦
                  let at : start + (n + (j - n)) ≡ k = omega arith in
                  get_or-append_right bytes rest n j 0 long g ∙ get_or-drop n (drop start buffer) (j - n) 0 ∙ get_or-drop start buffer (n + (j - n)) 0
                  ∙ ap (λ (i : ℕ). get_or buffer i 0) at
                  ∙ sym (left s taken size packet buffer k (λ a b c. omega arith))
            ]
      ])
