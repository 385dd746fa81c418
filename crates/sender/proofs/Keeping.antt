-- The window holds what was admitted: admitting appends, and hearing keeps.
use Rattle.std.proofs.Common.{◌≡◌, ℕ, ◌+◌, ◌-◌, ◌%◌, ◌<◌, ◌≤◌, true, eqb, ltb, ◌⊎◌, List, [], ◌∷◌, ◌++◌, length, get_or, set, Ok, Err, Result, sym, refl, ap, ◌∙◌, subst, inl, inr, mod-lt, arith, get_or-set_other, get_or-set_same}
use Rattle.std.proofs.lemmas.List.{get_or_append_left, get_or-append_right, length-append, length-replicate, length-set}
use Rattle.std.proofs.lemmas.Bool.{and_parts, cases_eq, cond_both, eqb-true, eqb-false, ltb-true}
use Rattle.refusal.specs.declared.Refusal.{Refusal}
use Rattle.field.specs.Field.{Means}
use Rattle.frame.specs.ReportFrame.{reading_report}
use Rattle.std.specs.List.{list_all}
use Rattle.std.proofs.lemmas.List.Sums.{AllPass-from_list_all}
use Rattle.algebra.specs.Frames.{Codes}
use Rattle.algebra.proofs.Ring.{apart}
use Rattle.sender.specs.declared.window.Window.{Window}
use Rattle.sender.specs.Packets.{Appends, Holds, Keeps, grown}
use Rattle.sender.specs.Steps.{Sound, admitting, empty, hearing, heeding, is_packet_lem, raised, with_packet}

pub holds-none : (w q : ℕ) → Holds w q [] (empty w)
holds-none w q = record {
  many = refl;
  codes = λ k h. absurd (omega arith);
  places = length-replicate w _;
  kept = λ k _ h. absurd (omega arith);
}

packet-codes : (q : ℕ) (packet : List ℕ) → is_packet_lem q packet ≡ true → Codes q 128 packet
packet-codes q packet e =
    let both = and_parts (list_all (λ x. ltb x q) packet) (eqb (length packet) 128) e in
    let long : length packet ≡ 128 = eqb-true _ _ both.1 in
    record { long = long; codes = λ i h. ltb-true _ _ (AllPass-from_list_all (λ x. ltb x q) packet both.0 i 0 (omega arith)) }

module _ (w q : ℕ) (x : Window) (sound : Sound w x) (packets : List (List ℕ)) (holds : Holds w q packets x) where
  holds-packet : (packet : List ℕ) → Codes q 128 packet → (x.admitted ≡ x.heard + w → ⊥) → Holds w q (packets ++ packet ∷ []) (with_packet w x packet)
  holds-packet packet codes room = record {
    many = length-append packets (packet ∷ []) ∙ ap (λ (n : ℕ). n + 1) holds.many;
    codes = λ k h. code k h (cases_eq k x.admitted);
    places = length-set x.packets (x.admitted % w) packet ∙ holds.places;
    kept = λ k l h. at k l h (cases_eq k x.admitted);
  }
    where
      newest : get_or (packets ++ packet ∷ []) x.admitted [] ≡ packet
      newest =
          let none : x.admitted - x.admitted ≡ 0 = omega arith in
          get_or-append_right packets (packet ∷ []) x.admitted x.admitted [] holds.many (omega arith) ∙ ap (λ (j : ℕ). get_or (packet ∷ []) j []) none

      older : (k : ℕ) → k < x.admitted → get_or (packets ++ packet ∷ []) k [] ≡ get_or packets k []
      older k h = get_or_append_left packets (packet ∷ []) [] k (omega (arith, holds.many))

      code : (k : ℕ) → k < x.admitted + 1 → (k ≡ x.admitted) ⊎ (k ≡ x.admitted → ⊥) → Codes q 128 (get_or (packets ++ packet ∷ []) k [])
      code k h (inl e) = subst (Codes q 128) (sym (ap (λ (j : ℕ). get_or (packets ++ packet ∷ []) j []) e ∙ newest)) codes
      code k h (inr ne) = subst (Codes q 128) (sym (older k (omega arith))) (holds.codes k (omega arith))

      at : (k : ℕ) → x.unseen ≤ k → k < x.admitted + 1 → (k ≡ x.admitted) ⊎ (k ≡ x.admitted → ⊥)
          → get_or (set x.packets (x.admitted % w) packet) (k % w) [] ≡ get_or (packets ++ packet ∷ []) k []
      at k l h (inl e) =
          ap (λ (j : ℕ). get_or (set x.packets (x.admitted % w) packet) (j % w) []) e
          ∙ get_or-set_same x.packets (x.admitted % w) packet [] (subst (λ (n : ℕ). x.admitted % w < n) (sym holds.places) (mod-lt x.admitted (omega arith)))
          ∙ sym (ap (λ (j : ℕ). get_or (packets ++ packet ∷ []) j []) e ∙ newest)
      at k l h (inr ne) =
          get_or-set_other x.packets (x.admitted % w) (k % w) packet [] (apart w x.unseen k x.admitted l (omega arith) (omega arith) (omega arith) ne)
          ∙ holds.kept k l (omega arith) ∙ sym (older k (omega arith))

  holds-raised : (released unseen : ℕ) → Holds w q packets (raised x released unseen)
  holds-raised released unseen = record {
    many = holds.many;
    codes = holds.codes;
    places = holds.places;
    kept = λ k l h. holds.kept k (omega arith) h;
  }

  heeding-holds : (read : Result (ℕ × ℕ) Refusal) → Holds w q packets (heeding x read).1
  heeding-holds (Err refusal) = holds
  heeding-holds (Ok p) = cond_both _ _ _ (λ (z : Result (ℕ × ℕ) Refusal × Window). Holds w q packets z.1) (λ _. holds-raised p.0 p.1) (λ _. holds)

module _ (w : ℕ) (m : Means) (x : Window) (sound : Sound w x) where
  pub admitting_appends : (packet : List ℕ) (r : Result ℕ Refusal) (y : Window) → (r, y) ≡ admitting w m x packet → Appends w m.q packet r x y
  admitting_appends packet r y e packets holds =
      let P : Result ℕ Refusal × Window → Type 0 = λ z. Holds w m.q (grown packets packet z.0) z.1 in
      subst P (sym e)
      (cond_both (is_packet_lem m.q packet) _ _ P
      (λ good. cond_both (eqb x.admitted 65536) _ _ P (λ _. holds)
      (λ _. cond_both (eqb x.admitted (x.heard + w)) _ _ P (λ _. holds)
      (λ room. holds-packet w m.q x sound packets holds packet (packet-codes m.q packet good) (eqb-false _ _ room))))
      (λ _. holds))

  pub hearing_keeps : (q : ℕ) (report : List ℕ) (r : Result (ℕ × ℕ) Refusal) (y : Window) → (r, y) ≡ hearing x report → Keeps w q x y
  hearing_keeps q report r y e packets holds =
      let P : Result (ℕ × ℕ) Refusal × Window → Type 0 = λ z. Holds w q packets z.1 in
      subst P (sym e) (heeding-holds w q x sound packets holds (reading_report report))
