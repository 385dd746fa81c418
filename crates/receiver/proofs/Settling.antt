-- A release goes on until the next packet is not known.
use Rattle.std.proofs.Common.{◌≡◌, ℕ, zero, suc, ◌+◌, ◌%◌, ◌<◌, Bool, true, false, cond, eqb, ltb, ◌≢◌, ◌⊎◌, List, [], ◌∷◌, ◌++◌, length, get_or, take, drop, Some, None, Option, sym, refl, ap, ◌∙◌, subst, ap₂, inl, inr, ⊎_elim, add-zero, mod-lt, arith}
use Rattle.std.proofs.lemmas.List.{append-nil, append_assoc, take_at, drop_at, length-append, length-set, get_or-set_same, get_or-set_other, get_or-append-add}
use Rattle.std.proofs.lemmas.Bool.{both_ways, cases_Bool, or_cases, or_left, or_right, and_from, cases_eq, eqb-true, eq-eqb, lt-ltb, cond-true}
use Rattle.field.specs.Field.{Means, Laws}
use Rattle.elimination.proofs.Turns.{every_not}
use Rattle.elimination.specs.Loops.{turns, every}
use Rattle.elimination.specs.Rows.{zero_beside, unit_at}
use Rattle.elimination.specs.Tables.{row_at, packet_in, solved}
use Rattle.elimination.specs.declared.row.Row.{Row}
use Rattle.algebra.specs.Frames.{Frame}
use Rattle.algebra.proofs.Releasing.{Settled, Emptied, emptied_more, emptied_all, release_represents}
use Rattle.algebra.proofs.Setting.{Setting}
use Rattle.algebra.proofs.Systems.{some_or_none}
use Rattle.receiver.specs.Buffers.{concat}
use Rattle.receiver.specs.Log.{packets}
use Rattle.receiver.specs.Release.{Release, ready, release_one, releasing}
use Rattle.receiver.specs.declared.state.State.{State}
use Rattle.receiver.proofs.Rows.{setting, Stands, Standing}

-- packets of 128 numbers that stand one after another are read again
pub packets_back : (ps : List (List ℕ)) (rest : List ℕ) → ((i : ℕ) → i < length ps → length (get_or ps i []) ≡ 128) → packets (length ps) (concat ps ++ rest) ≡ ps
unfolding packets
packets_back [] rest h = refl
packets_back (p ∷ ps) rest h =
    let e = append_assoc p (concat ps) rest in
    let l : length p ≡ 128 = h 0 (omega arith) in
    ap₂ (λ x xs. x ∷ xs) (ap (take 128) e ∙ take_at p (concat ps ++ rest) 128 l)
    (ap (λ xs. packets (length ps) (drop 128 xs)) e ∙ ap (packets (length ps)) (drop_at p (concat ps ++ rest) 128 l) ∙ packets_back ps rest (λ i b. h (suc i) (omega arith)))

-- the row x is 0 beside the place i
abbrev Alone : ℕ → ℕ → Row → Type 0
Alone w i x = (k : ℕ) → k < w → k ≢ i → get_or x.slots k 0 ≡ 0

unit_alone : (w i : ℕ) (x : Row) → unit_at w i x ≡ true → Alone w i x
unit_alone w i x u k l ne =
    ⊎_elim (⊎_elim (λ e. absurd (ne (eqb-true k i e))) (λ e. eqb-true _ 0 e)) (λ e. absurd (both_ways _ (every_not (zero_beside i x) k w l e) u))
    (⊎_elim (λ e. inl (or_cases (eqb k i) (eqb (get_or x.slots k 0) 0) e)) (λ e. inr e) (cases_Bool (zero_beside i x k)))

every-each : (p : ℕ → Bool) (n : ℕ) → ((k : ℕ) → k < n → p k ≡ true) → every p n ≡ true
unfolding every
every-each p zero h = refl
every-each p (suc n) h = and_from _ _ (every-each p n (λ k l. h k (omega arith))) (h n (omega arith))

alone_unit : (w i : ℕ) (x : Row) → Alone w i x → unit_at w i x ≡ true
alone_unit w i x h =
    every-each (zero_beside i x) w
    (λ k l. ⊎_elim (λ e. or_left (eqb k i) _ (eq-eqb k i e)) (λ ne. or_right (eqb k i) _ (eq-eqb _ 0 (h k l ne))) (cases_eq k i))

cond_some : (b : Bool) (o : Option (List ℕ)) (p : List ℕ) → cond b o None ≡ Some p → (b ≡ true) × (o ≡ Some p)
cond_some true o p e = (refl, e)
cond_some false o p e = absurd (let z : ◌≡◌ {A = ℕ} 0 1 = cc in omega arith)

packet-row : (w i : ℕ) (o : Option Row) (p : List ℕ) → packet_in w i o ≡ Some p → (y : Row) × (o ≡ Some y) × Alone w i y × (y.payload ≡ p)
packet-row w i None p e = absurd (let z : ◌≡◌ {A = ℕ} 0 1 = cc in omega arith)
packet-row w i (Some y) p e =
    let h = cond_some (unit_at w i y) (Some y.payload) p e in (y, refl, unit_alone w i y h.0, let f = h.1 in cc)

-- the packet that is ready is a row's that is 0 elsewhere
ready-row : (w : ℕ) (c : State) (p : List ℕ) → ready w c ≡ Some p → (y : Row) × (row_at c.table (c.released % w) ≡ Some y) × Alone w (c.released % w) y × (y.payload ≡ p)
ready-row w c p e =
    packet-row w (c.released % w) (row_at c.table (c.released % w)) p
    (cond_some (ltb c.released 65536) (solved w c.table c.released) p e).1

-- and where there is such a row one is ready
row-ready : (w : ℕ) (c : State) (y : Row) → c.released < 65536 → row_at c.table (c.released % w) ≡ Some y → Alone w (c.released % w) y → ready w c ≡ Some y.payload
row-ready w c y l e h =
    cond-true (ltb c.released 65536) (solved w c.table c.released) None (lt-ltb _ _ l)
    ∙ ap (packet_in w (c.released % w)) e
    ∙ cond-true (unit_at w (c.released % w) y) (Some y.payload) None (alone_unit w (c.released % w) y h)

module _ (m : Means) (laws : Laws m) (w : ℕ) (pos : 0 < w) (accepted : List Frame) (fresh : ℕ) (released : List (List ℕ)) (c : State) where
  abbrev S : Setting Row
  S = setting m laws w pos

  -- after n turns of a release from c
  pub record Turned (n : ℕ) (o : Release) : Type 0 where
    pub stands : Stands m laws w pos accepted fresh (released ++ o.packets) o.state
    pub top : o.state.top ≡ c.top
    pub rows : length o.state.table.rows ≡ w
    pub places : length o.state.kept ≡ w
    -- nothing more is ready, or each turn has released a packet
    pub going : (ready w o.state ≡ None) ⊎ ((o.state.released ≡ c.released + n) × Emptied w o.state.released n (row_at o.state.table))

  turn : (n : ℕ) (o : Release) → Turned n o → (q : Option (List ℕ)) → ready w o.state ≡ q → Turned (suc n) (release_one w q o)
  turn n o h None e = record { stands = h.stands; top = h.top; rows = h.rows; places = h.places; going = inl e }
  turn n o h (Some p) e = record {
    stands = subst (λ ps. Stands m laws w pos accepted fresh ps after) joins
        (release_represents S h.stands y (λ i. get_or after.kept i []) (row_at after.table) found.1 found.2 copy
        (λ i l ne. get_or-set_other o.state.kept s i p [] ne) left same);
    top = h.top;
    rows = length-set o.state.table.rows s None ∙ h.rows;
    places = length-set o.state.kept s p ∙ h.places;
    going = go h.going;
  }
    where
      after : State
      after = (release_one w (Some p) o).state

      r : ℕ
      r = o.state.released

      s : ℕ
      s = r % w

      found : (y : Row) × (row_at o.state.table s ≡ Some y) × Alone w s y × (y.payload ≡ p)
      found = ready-row w o.state p e

      y : Row
      y = found.0

      low : s < w
      low = mod-lt r pos

      copy : get_or after.kept s [] ≡ y.payload
      copy = get_or-set_same o.state.kept s p [] (omega (arith, low, h.places)) ∙ sym found.3

      left : row_at after.table s ≡ None
      left = get_or-set_same o.state.table.rows s None None (omega (arith, low, h.rows))

      same : (i : ℕ) → i < w → i ≢ s → row_at after.table i ≡ row_at o.state.table i
      same i l ne = get_or-set_other o.state.table.rows s i None None ne

      joins : (released ++ o.packets) ++ y.payload ∷ [] ≡ released ++ (o.packets ++ p ∷ [])
      joins = append_assoc released o.packets (y.payload ∷ []) ∙ ap (λ x. released ++ (o.packets ++ x ∷ [])) found.3

      go : (ready w o.state ≡ None) ⊎ ((r ≡ c.released + n) × Emptied w r n (row_at o.state.table))
          → (ready w after ≡ None) ⊎ ((r + 1 ≡ c.released + suc n) × Emptied w (r + 1) (suc n) (row_at after.table))
      go (inl z) = absurd (let x : ◌≡◌ {A = ℕ} 0 1 = cc in omega arith)
      go (inr (z, f)) = inr (omega arith, emptied_more w r (row_at o.state.table) n (row_at after.table) pos left same f)

  module _ (stands : Stands m laws w pos accepted fresh released c) (rows : length c.table.rows ≡ w) (places : length c.kept ≡ w) where
    turned : (n : ℕ) → Turned n (releasing w c n)
    unfolding turns
    turned zero = record {
      stands = subst (λ ps. Stands m laws w pos accepted fresh ps c) (sym (append-nil released)) stands;
      top = refl;
      rows = rows;
      places = places;
      going = inr (sym (add-zero c.released), λ k l near. absurd (omega arith));
    }
    turned (suc n) = turn n (releasing w c n) (turned n) (ready w (releasing w c n).state) refl

    -- after w turns no more is ready
    pub all-turned : Turned w (releasing w c w)
    all-turned = turned w

  module _ (o : Release) (h : Turned w o) where
    settled : o.state.released < 65536 → Settled S o.state.released (row_at o.state.table)
    settled l y at alone = go h.going
      where
        go : (ready w o.state ≡ None) ⊎ ((o.state.released ≡ c.released + w) × Emptied w o.state.released w (row_at o.state.table)) → ⊥
        go (inl z) = let u = row-ready w o.state y l at alone in let x : ◌≡◌ {A = ℕ} 0 1 = cc in omega arith
        go (inr (z, f)) = some_or_none at (emptied_all w o.state.released (row_at o.state.table) (omega arith) pos f)

    pub standing : Standing m laws w pos accepted fresh (released ++ o.packets) o.state
    standing = record { stands = h.stands; rows = h.rows; places = h.places; settled = settled }

    -- the packets that it released can be read from the buffer
    pub written_back : (rest : List ℕ) → packets (length o.packets) (concat o.packets ++ rest) ≡ o.packets
    written_back rest = packets_back o.packets rest (λ i l. ap length (sym (get_or-append-add released o.packets i [])) ∙ (h.stands.packets (length released + i) (long i l)).long)
      where
        long : (i : ℕ) → i < length o.packets → length released + i < o.state.released
        long i l = omega (arith, length-append released o.packets, h.stands.many)
