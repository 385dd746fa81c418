-- A packet that is written byte by byte.
use Rattle.std.proofs.Common.{◌≡◌, ℕ, ◌+◌, ◌*◌, ◌<◌, ◌≤◌, List, ◌++◌, length, get_or, take, drop, sym, ap, ap₂, ◌∙◌, arith}
use borrow.Rule.Slice.PartMut.{put_mid}
use Rattle.std.specs.List.{between}
use Rattle.std.proofs.lemmas.List.FromFn.{length-map-range_with_len}
use Rattle.std.proofs.lemmas.List.{length-append, length-drop, length-take-le, take-append-drop, take-take, take_all}
use Rattle.std.proofs.lemmas.Slice.{between_is, take-put_mid}
use Rattle.file.specs.declared.spelling.Spelling.{Spelling}
use Rattle.file.specs.declared.spelling.Spelling.TheVariants.{Bits, Bytes}
use Rattle.file.specs.Packets.{loaded, packet_of}
use Rattle.file.specs.Spelling.{base, digit, digits, room, spelled}
use Rattle.file.proofs.Carried.{packet-length, packet_part}

-- the symbols of byte i lie within the packet, and end where those of the next begin
pub part-ends : (s : Spelling) → (i : ℕ) → i < room s → (digits s * i + digits s ≡ digits s * (i + 1)) × (digits s * (i + 1) ≤ 128)
part-ends Bits i h = (omega arith, omega arith)
part-ends Bytes i h = (omega arith, omega arith)

-- all bytes are all symbols
parts_all : (s : Spelling) → digits s * room s ≡ 128
parts_all Bits = omega arith
parts_all Bytes = omega arith

length-spelled : (b n x : ℕ) → length (spelled b n x) ≡ n
unfolding spelled
length-spelled b n x = length-map-range_with_len (digit b n x) 0 n

-- what stands before e stands before a, or from a on
take-to : (xs : List ℕ) (a e : ℕ) → a ≤ e → take e xs ≡ take a xs ++ between a e xs
take-to xs a e h = sym (take-append-drop a (take e xs)) ∙ ap₂ ◌++◌ (take-take a e xs h) (sym (between_is xs a e))

-- the symbols xs have those of the first i bytes of packet k
pub record Begun (s : Spelling) (file : List ℕ) (k i : ℕ) (xs : List ℕ) : Type 0 where
  pub long : length xs ≡ 128
  pub front : take (digits s * i) xs ≡ take (digits s * i) (packet_of s file k)

pub begun-none : (s : Spelling) (file : List ℕ) (k : ℕ) (xs : List ℕ) → length xs ≡ 128 → Begun s file k 0 xs
begun-none s file k xs l =
    let none : digits s * 0 ≡ 0 = omega arith in
    record { long = l; front = ap (λ (n : ℕ). take n xs) none ∙ sym (ap (λ (n : ℕ). take n (packet_of s file k)) none) }

-- the symbols ys of byte i are written, at n places
pub begun_more : (s : Spelling) → (file : List ℕ) (k i d n : ℕ) (xs ys : List ℕ) → i < room s → d ≡ digits s → n ≡ d
    → ys ≡ spelled (base s) (digits s) (get_or (loaded file) (room s * k + i) 0)
    → Begun s file k i xs → Begun s file k (i + 1) (put_mid (d * i) n xs ys)
begun_more s file k i d n xs ys h ed en ey b =
    let a = digits s * i in
    let e = digits s * (i + 1) in
    let packet = packet_of s file k in
    let ends = part-ends s i h in
    let fills : length ys ≡ digits s = ap length ey ∙ length-spelled (base s) (digits s) _ in
    let before = length-take-le a xs (omega (arith, ends, b.long)) in
    let rest = drop n (drop a xs) in
    let at : d * i ≡ a = ap (λ (m : ℕ). m * i) ed in
    rw at
    (record {
      long =
          omega (arith, ends, b.long, fills, before, length-append (take a xs) (ys ++ rest), length-append ys rest, length-drop n (drop a xs), length-drop a xs);
      front =
          take-put_mid a n xs ys e (omega (arith, ends, fills)) (omega (arith, ends, b.long))
          ∙ ap (λ (l : List ℕ). l ++ ys) b.front
          ∙ ap (λ (l : List ℕ). take a packet ++ l) (ey ∙ sym (packet_part s file k i h))
          ∙ sym (take-to packet a e (omega (arith, ends)));
    })

pub begun_all : (s : Spelling) → (file : List ℕ) (k i : ℕ) (xs : List ℕ) → i ≡ room s → Begun s file k i xs → xs ≡ packet_of s file k
begun_all s file k i xs e b =
    let all : digits s * i ≡ 128 = ap (λ (n : ℕ). digits s * n) e ∙ parts_all s in
    sym (take_all (digits s * i) xs (omega (arith, b.long))) ∙ b.front ∙ take_all (digits s * i) (packet_of s file k) (omega (arith, packet-length s file k))
