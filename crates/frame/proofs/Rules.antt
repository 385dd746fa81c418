-- Contents without a flaw are proper ones.
use Rattle.std.proofs.Common.{◌≡◌, ℕ, ◌+◌, ◌-◌, ◌<◌, Bool, true, false, cond, ◌&&◌, eqb, ltb, leb, List, length, get_or, drop, Some, None, Option, Ok, Err, sym, refl, ap, ◌∙◌, inl, inr, arith}
use Rattle.std.proofs.lemmas.List.{get_or_past, get_or-drop, length-drop}
use Rattle.std.proofs.lemmas.Bool.{and_parts, and_from, cond-true, leb-true, le-leb, ltb-true, lt-ltb, eqb-true, eq-eqb, cases_lt}
use Rattle.refusal.specs.declared.Refusal.TheVariants.{BadWidth, BadCode, StraySlot}
use Rattle.carried.specs.Carries.{Under}
use Rattle.frame.specs.declared.data.Data.{Data}
use Rattle.field.specs.Lists.{below}
use Rattle.frame.specs.DataFrame.{fits_stream_lem, codes_only_lem, none_stray_lem, flaw}
use Rattle.frame.specs.Head.{verdict}
use Rattle.frame.specs.Proper.{Proper}
use Rattle.refusal.specs.declared.Refusal.{Refusal}
use Rattle.std.specs.List.{list_all}
use Rattle.std.proofs.lemmas.List.Elements.{All-from_get_or}
use Rattle.std.proofs.lemmas.List.Sums.{AllPass-from_list_all, list_all-from_AllPass}

-- the three tests that contents without a flaw pass
passed : (x y z : Bool) → cond x (cond y (cond z None (Some StraySlot)) (Some BadCode)) (Some BadWidth) ≡ None → (x ≡ true) × (y ≡ true) × (z ≡ true)
passed true true true e = (refl, refl, refl)
passed true true false e = absurd (let z : ◌≡◌ {A = ℕ} 0 1 = cc in omega arith)
passed true false z e = absurd (let z : ◌≡◌ {A = ℕ} 0 1 = cc in omega arith)
passed false y z e = absurd (let z : ◌≡◌ {A = ℕ} 0 1 = cc in omega arith)

passed-all : (f : ℕ → Bool) (xs : List ℕ) → ((k : ℕ) → k < length xs → f (get_or xs k 0) ≡ true) → list_all f xs ≡ true
passed-all f xs h = list_all-from_AllPass f xs (All-from_get_or (λ x. f x ≡ true) xs 0 h)

pub proper : (q w : ℕ) (d : Data) → length d.slots ≡ w → length d.symbols ≡ 128 → flaw q w d ≡ None → Proper q w d
proper q w d s y e =
    let all = passed (fits_stream_lem w d) (codes_only_lem q d) (none_stray_lem d) e in
    let fits = and_parts (leb 1 d.width && leb d.width w) (leb (d.base + d.width) 65536) all.0 in
    let wide = and_parts (leb 1 d.width) (leb d.width w) fits.0 in
    let codes = and_parts (below q d.slots) (below q d.symbols) all.1 in
    record {
      least = leb-true _ _ wide.0;
      most = leb-true _ _ wide.1;
      in_stream = leb-true _ _ fits.1;
      slot_count = s;
      symbol_count = y;
      slot_codes = λ k h. ltb-true _ _ (AllPass-from_list_all (λ x. ltb x q) d.slots codes.0 k 0 h);
      symbol_codes = λ k h. ltb-true _ _ (AllPass-from_list_all (λ x. ltb x q) d.symbols codes.1 k 0 h);
      none_past = λ i h. elim (cases_lt i (length d.slots)) [
        | inl b ↦
            let in' : i - d.width < length (drop d.width d.slots) = simp length-drop (omega arith) in
            let at = get_or-drop d.width d.slots (i - d.width) 0 in
            let zero = eqb-true _ _ (AllPass-from_list_all (λ x. eqb x 0) (drop d.width d.slots) all.2 (i - d.width) 0 in') in
            ap (λ (j : ℕ). get_or d.slots j 0) (omega arith) ∙ sym at ∙ zero
        | inr b ↦ get_or_past d.slots i 0 b
      ];
    }

pub flawless : (q w : ℕ) (d : Data) → Proper q w d → flaw q w d ≡ None
flawless q w d p =
    let fits = and_from _ _ (and_from _ _ (le-leb 1 d.width p.least) (le-leb d.width w p.most)) (le-leb (d.base + d.width) 65536 p.in_stream) in
    let below-q : (xs : List ℕ) → Under q xs → below q xs ≡ true = λ xs u. passed-all (λ x. ltb x q) xs (λ k h. lt-ltb _ _ (u k h)) in
    let codes = and_from _ _ (below-q d.slots p.slot_codes) (below-q d.symbols p.symbol_codes) in
    let none = passed-all (λ x. eqb x 0) (drop d.width d.slots) (λ k h. eq-eqb _ _ (get_or-drop d.width d.slots k 0 ∙ p.none_past (d.width + k) (omega arith))) in
    cond-true _ _ _ fits ∙ cond-true _ _ _ codes ∙ cond-true _ _ _ none

-- contents that are refused are not proper
pub refused : (q w : ℕ) (d : Data) (x : Refusal) → verdict (flaw q w d) (tt {0}) ≡ Err x → Proper q w d → ⊥
refused q w d x e p =
    let none : verdict (flaw q w d) (tt {0}) ≡ Ok tt = ap (λ (o : Option Refusal). verdict o (tt {0})) (flawless q w d p) in
    let z : ◌≡◌ {A = ℕ} 0 1 = cc in omega arith
