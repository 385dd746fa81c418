-- Data frames: writing and reading undo each other, and what can be read is proper.
use Rattle.std.proofs.Common.{◌≡◌, ℕ, ◌+◌, ◌*◌, ◌/◌, ◌%◌, ◌<◌, ◌≤◌, List, [], ◌∷◌, ◌++◌, length, get_or, take, drop, IfOk, None, Ok, Option, Result, sym, refl, ap, ◌∙◌, subst, mul_assoc, add-mul, arith, lit<}
use Rattle.std.proofs.lemmas.Slice.Eq.{text_from_reads}
use Rattle.std.proofs.lemmas.List.{take-append-drop, take_at, drop_at, get_or-drop, length-drop, length-append, length-take, length-take-le, get_or-take}
use Rattle.refusal.specs.declared.Refusal.{Refusal}
use Rattle.field.specs.Field.{Means}
use Rattle.carried.specs.Carries.{Carries, Lays, Under, packed, unpacked}
use Rattle.carried.specs.Places.{below, length-packed, length-unpacked}
use Rattle.frame.specs.declared.data.Data.{Data}
use Rattle.frame.specs.DataFrame.{flaw, bytes_for, frame_of, contents, reading, writing}
use Rattle.frame.specs.Head.{misfit, too_short, first, verdict, written, four_bytes, number_at}
use Rattle.frame.specs.Proper.{Proper}
use Rattle.frame.proofs.Heads.{fitting, fitted, number_back, bytes_back}
use Rattle.frame.proofs.Rules.{proper}
use Rattle.frame.proofs.Verdicts.{first_later, first-none, roomy, verdict_made, written_made}

under_take : (m k : ℕ) (xs : List ℕ) → Under m xs → Under m (take k xs)
under_take m k xs u i h =
    let long = length-take k xs in
    subst (λ (x : ℕ). x < m) (sym (get_or-take k xs i 0 (omega arith))) (u i (omega arith))

under_drop : (m k : ℕ) (xs : List ℕ) → Under m xs → Under m (drop k xs)
under_drop m k xs u i h =
    let long = length-drop k xs in
    subst (λ (x : ℕ). x < m) (sym (get_or-drop k xs i 0)) (u (k + i) (omega arith))

same_data : (b b' n n' : ℕ) (s s' y y' : List ℕ) → b ≡ b' → n ≡ n' → s ≡ s' → y ≡ y' → ◌≡◌ {A = Data} record { base = b; width = n; slots = s; symbols = y } record { base = b'; width = n'; slots = s'; symbols = y' }
same_data b b' n n' s s' y y' e f g h = cc

-- the outcome of writing into a buffer with room, by the flaw of what is written
pub write_done : (m : Means) (c : Carries) (w : ℕ) (d : Data) (buffer : List ℕ) (len n : ℕ) (frame : List ℕ) → len ≡ c.len → n ≡ len → len ≤ length buffer → flaw m.q w d ≡ None → frame ≡ frame_of c w d → (Ok len, frame ++ drop n buffer) ≡ writing m c w d buffer
write_done m c w d buffer len n frame is same room none e =
    let why : first (too_short c.len buffer) (flaw m.q w d) ≡ None = first_later _ _ (roomy c.len buffer (omega arith)) ∙ none in
    ap (λ (xs : List ℕ). (Ok len, xs ++ drop n buffer)) e
    ∙ ap (λ (k : ℕ). (Ok len, frame_of c w d ++ drop k buffer)) same
    ∙ ap (λ (k : ℕ). (Ok k, frame_of c w d ++ drop k buffer)) is
    ∙ ap (λ (o : Option Refusal). written o c.len (frame_of c w d) buffer) (sym why)

module _ (m : Means) {w : ℕ} {c : Carries} (lays : Lays w m.q c) (whole : w % 8 ≡ 0) where
  -- the slots and the symbols take their bytes, and the head six
  pub len_is : c.len ≡ 6 + (bytes_for c w + bytes_for c 128)
  len_is =
      let eighths : (w + 128) / 8 ≡ w / 8 + 16 = omega arith in
      lays.whole ∙ ap (λ (n : ℕ). 6 + n * c.eight) eighths ∙ ap (λ (n : ℕ). 6 + n) (add-mul (w / 8) 16 c.eight)

  fill_bytes : (n : ℕ) → n % 8 ≡ 0 → n * c.eight ≡ 8 * bytes_for c n
  fill_bytes n e =
      let eighths : n ≡ 8 * (n / 8) = omega arith in
      ap (λ (k : ℕ). k * c.eight) eighths ∙ mul_assoc 8 (n / 8) c.eight

  unpacked_back : (codes : List ℕ) (n : ℕ) → Under m.q codes → n % 8 ≡ 0 → length codes ≡ n → unpacked c n (packed c (bytes_for c n) codes) ≡ codes
  unpacked_back codes n u e l =
      ap (λ (k : ℕ). unpacked c k (packed c (bytes_for c n) codes)) (sym l)
      ∙ lays.codes_back codes (bytes_for c n) u (ap (λ (k : ℕ). k * c.eight) l ∙ fill_bytes n e)

  packed_back : (bs : List ℕ) (n : ℕ) → Under 256 bs → n % 8 ≡ 0 → length bs ≡ bytes_for c n → packed c (bytes_for c n) (unpacked c n bs) ≡ bs
  packed_back bs n u e l =
      ap (λ (k : ℕ). packed c k (unpacked c n bs)) (sym l)
      ∙ lays.bytes_back bs n u (fill_bytes n e ∙ ap (λ (k : ℕ). 8 * k) (sym l))

  -- the contents of a frame that was written are those that it was written from
  contents_back : (d : Data) → Proper m.q w d → contents c w (frame_of c w d) ≡ d
  contents_back d p =
      let n = bytes_for c w in
      let S = packed c n d.slots in
      let Y = packed c (bytes_for c 128) d.symbols in
      let long = length-packed c n d.slots in
      let base = number_back d.base (let b = p.in_stream in omega arith) in
      let slots = ap (unpacked c w) (take_at S Y n long) ∙ unpacked_back d.slots w p.slot_codes whole p.slot_count in
      let symbols = ap (unpacked c 128) (drop_at S Y n long) ∙ unpacked_back d.symbols 128 p.symbol_codes refl p.symbol_count in
      same_data _ d.base d.width d.width _ d.slots _ d.symbols base refl slots symbols

  pub frame-length : (d : Data) → length (frame_of c w d) ≡ c.len
  frame-length d =
      let s = length-packed c (bytes_for c w) d.slots in
      let y = length-packed c (bytes_for c 128) d.symbols in
      let both = length-append (packed c (bytes_for c w) d.slots) (packed c (bytes_for c 128) d.symbols) in
      omega (arith, s, y, both, len_is)

  pub read-written : (d : Data) → Proper m.q w d → flaw m.q w d ≡ None → reading m c w (frame_of c w d) ≡ Ok d
  read-written d p e =
      let fits = fitting c.kind c.len (frame_of c w d) (omega arith) refl (frame-length d) in
      ap (λ (x : Data). verdict (first (misfit c.kind c.len (frame_of c w d)) (flaw m.q w x)) x) (contents_back d p)
      ∙ ap (λ (o : Option Refusal). verdict o d) (first_later _ _ fits ∙ e)

  -- a frame that can be read is the one of its contents
  head_is : (bs : List ℕ) → Under 256 bs → get_or bs 0 0 ≡ c.kind → 6 ≤ length bs → take 6 bs ≡ c.kind ∷ four_bytes (number_at bs 1) ++ get_or bs 5 0 ∷ []
  head_is bs u k h =
      let b = below 256 bs (lit< tt) u in
      let at : (i : ℕ) → i < 6 → get_or (take 6 bs) i 0 ≡ get_or bs i 0 = λ i l. get_or-take 6 bs i 0 l in
      let four = bytes_back (get_or bs 1 0) (get_or bs 2 0) (get_or bs 3 0) (get_or bs 4 0) (b 1) (b 2) (b 3) (b 4) in
      text_from_reads (take 6 bs) (c.kind ∷ get_or bs 1 0 ∷ get_or bs 2 0 ∷ get_or bs 3 0 ∷ get_or bs 4 0 ∷ get_or bs 5 0 ∷ []) (length-take-le 6 bs h)
      (at 0 (lit< tt) ∙ k, (at 1 (lit< tt), (at 2 (lit< tt), (at 3 (lit< tt), (at 4 (lit< tt), (at 5 (lit< tt), tt))))))
      ∙ ap (λ (xs : List ℕ). c.kind ∷ xs ++ get_or bs 5 0 ∷ []) (sym four)

  frame_back : (bs : List ℕ) → Under 256 bs → get_or bs 0 0 ≡ c.kind → length bs ≡ c.len → bs ≡ frame_of c w (contents c w bs)
  frame_back bs u k l =
      let n = bytes_for c w in
      let rest = drop 6 bs in
      let long : length bs ≡ 6 + (n + bytes_for c 128) = l ∙ len_is in
      let left : length rest ≡ n + bytes_for c 128 = length-drop 6 bs ∙ omega arith in
      let slots = packed_back (take n rest) w (under_take 256 n rest (under_drop 256 6 bs u)) whole (length-take-le n rest (omega arith)) in
      let symbols = packed_back (drop n rest) 128 (under_drop 256 n rest (under_drop 256 6 bs u)) refl (length-drop n rest ∙ omega arith) in
      let framed : List ℕ → List ℕ = λ xs. c.kind ∷ four_bytes (number_at bs 1) ++ get_or bs 5 0 ∷ xs in
      sym (take-append-drop 6 bs)
      ∙ ap (λ (xs : List ℕ). xs ++ rest) (head_is bs u k (omega arith))
      ∙ ap framed (sym (take-append-drop n rest))
      ∙ ap (λ (xs : List ℕ). framed (xs ++ drop n rest)) (sym slots)
      ∙ ap (λ (xs : List ℕ). framed (packed c n (unpacked c w (take n rest)) ++ xs)) (sym symbols)

  -- what reading promises
  module _ (bs : List ℕ) (r : Result Data Refusal) (e : r ≡ reading m c w bs) where
    pub read_canonical : Under 256 bs → IfOk r (λ d. bs ≡ frame_of c w d)
    read_canonical u =
        let why = misfit c.kind c.len bs in
        let flawed = flaw m.q w (contents c w bs) in
        verdict_made (λ d. bs ≡ frame_of c w d) (first why flawed) (contents c w bs) r e (λ none.
        let fits = fitted c.kind c.len bs (first-none why flawed none).0 in
        frame_back bs u fits.0 fits.1)

    pub read-proper : IfOk r (Proper m.q w)
    read-proper =
        let why = misfit c.kind c.len bs in
        let flawed = flaw m.q w (contents c w bs) in
        verdict_made (Proper m.q w) (first why flawed) (contents c w bs) r e (λ none.
        proper m.q w (contents c w bs) (length-unpacked c w _) (length-unpacked c 128 _) (first-none why flawed none).1)

  -- what writing promises
  module _ (d : Data) (buffer : List ℕ) (r : Result ℕ Refusal) (out : List ℕ) (e : (r, out) ≡ writing m c w d buffer) where
    none_flawed : first (too_short c.len buffer) (flaw m.q w d) ≡ None → flaw m.q w d ≡ None
    none_flawed none = (first-none (too_short c.len buffer) (flaw m.q w d) none).1

    module _ (slots : length d.slots ≡ w) (symbols : length d.symbols ≡ 128) where
      pub comes_back : IfOk r (λ n. reading m c w (take n out) ≡ Ok d)
      comes_back =
          written_made (λ n out. reading m c w (take n out) ≡ Ok d) _ c.len (frame_of c w d) buffer r out e (λ none.
          ap (reading m c w) (take_at (frame_of c w d) (drop c.len buffer) c.len (frame-length d))
          ∙ read-written d (proper m.q w d slots symbols (none_flawed none)) (none_flawed none))
