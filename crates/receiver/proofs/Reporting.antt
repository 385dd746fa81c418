-- What is reported and listed after every log.
use Rattle.std.proofs.Common.{◌≡◌, ℕ, ◌+◌, ◌-◌, ◌%◌, ◌<◌, Bool, true, false, cond, ltb, ◌↔◌, List, length, get_or, take, drop, is_some, IfOk, Some, None, Ok, Err, filter, Option, Result, unwrap_or, sym, refl, ap, subst, inl, inr, ⊎_elim, arith}
use Rattle.std.proofs.lemmas.List.{take_at, get_or_append_left}
use Rattle.std.proofs.lemmas.Bool.{both_ways, not-true, not-false, not_from_false, cases_Bool, cases_lt, or_cases, or_left, or_right, and_parts, and_from, ltb-true, lt-ltb}
use Rattle.std.specs.List.{range_with_len}
use Rattle.refusal.specs.declared.Refusal.{Refusal}
use Rattle.refusal.specs.declared.Refusal.TheVariants.{ShortBuffer}
use Rattle.field.specs.Field.{Means, Laws}
use Rattle.carried.specs.Carries.{Carries, Lays}
use Rattle.elimination.proofs.Seeking.{found, absent}
use Rattle.elimination.specs.Loops.{seek}
use Rattle.elimination.specs.Tables.{row_at, holding}
use Rattle.elimination.specs.declared.row.Row.{Row}
use Rattle.algebra.specs.Combinations.{rows}
use Rattle.algebra.specs.Frames.{Frame}
use Rattle.algebra.specs.Promises.{OldestUnseen, UnseenBetween}
use Rattle.algebra.proofs.Filters.{rising}
use Rattle.algebra.proofs.Represents.{Holding, oldest-unseen, unseen_between}
use Rattle.algebra.proofs.Setting.{Setting}
use Rattle.receiver.specs.Buffers.{over}
use Rattle.receiver.specs.Log.{Arrival, accepted, released, top}
use Rattle.receiver.specs.Promise.{RightReport, RightList}
use Rattle.receiver.specs.Reports.{sees, lacks, reported, unseen, listed}
use Rattle.receiver.specs.Run.{Run}
use Rattle.receiver.specs.declared.state.State.{State}
use Rattle.receiver.proofs.Faith.{Faithful, faithful}
use Rattle.receiver.proofs.Rows.{setting, Stands}

some_there : {A : Type 0} (o : Option A) → is_some o ≡ true → (x : A) × (o ≡ Some x)
some_there None e = absurd (let z : ◌≡◌ {A = ℕ} 0 1 = cc in omega arith)
some_there (Some x) e = (x, refl)

module _ (m : Means) (laws : Laws m) (w : ℕ) (pos : 0 < w) {accepted : List Frame} {fresh : ℕ} {released : List (List ℕ)} (c : State)
    (rep : Stands m laws w pos accepted fresh released c) where
  abbrev S : Setting Row
  S = setting m laws w pos

  abbrev Held : ℕ → Type 0
  Held = Holding S rep

  sees-held : (k : ℕ) → sees w c k ≡ true → Held k
  sees-held k e =
      ⊎_elim (λ l. inl (ltb-true _ _ l))
      (λ h. let p = and_parts (ltb k (c.released + w)) (holding w c.table k) h in inr (ltb-true _ _ p.0, some_there (row_at c.table (k % w)) p.1))
      (or_cases (ltb k c.released) _ e)

  held_sees : (k : ℕ) → Held k → sees w c k ≡ true
  held_sees k (inl l) = or_left (ltb k c.released) _ (lt-ltb _ _ l)
  held_sees k (inr (l, x)) = or_right (ltb k c.released) _ (and_from _ _ (lt-ltb _ _ l) (ap is_some x.1))

  -- what it lacks is what is not held
  pub lacks-exactly : (k : ℕ) → (lacks w c k ≡ true) ↔ (Held k → ⊥)
  lacks-exactly k = (
    λ e h. both_ways _ (not-true _ e) (held_sees k h),
    λ none. not_from_false _ (⊎_elim (λ e. absurd (none (sees-held k e))) (λ e. e) (cases_Bool (sees w c k))),
  )

  oldest_by : (o : Option ℕ) → seek (lacks w c) c.released (65536 - c.released) ≡ o → OldestUnseen 65536 m (rows accepted) (unwrap_or o 65536)
  oldest_by None e =
      oldest-unseen S rep 65536 (omega arith)
      (λ k l. ⊎_elim inl (λ h. sees-held k (not-false _ (absent (lacks w c) c.released (65536 - c.released) e k h (omega arith)))) (cases_lt k c.released))
      (λ l. absurd (omega arith))
  oldest_by (Some u) e =
      let f = found (lacks w c) c.released (65536 - c.released) u e in
      oldest-unseen S rep u (omega (arith, f.within, rep.most))
      (λ k l. ⊎_elim inl (λ h. sees-held k (not-false _ (f.first k h l))) (cases_lt k c.released))
      (λ _. (lacks-exactly u).0 f.passes)

  pub oldest : OldestUnseen 65536 m (rows accepted) (reported w c).1
  oldest = oldest_by (seek (lacks w c) c.released (65536 - c.released)) refl

  pub between : UnseenBetween m (rows accepted) c.released c.top (unseen w c)
  unfolding unseen
  between =
      ⊎_elim (λ past. none (c.top - c.released) (omega arith) past)
      (λ l. unseen_between S rep (lacks w c) lacks-exactly c.released c.top l) (cases_lt c.top c.released)
    where
      none : (d : ℕ) → d ≡ 0 → c.top < c.released → UnseenBetween m (rows accepted) c.released c.top (filter (lacks w c) (range_with_len c.released d))
      none d z l =
          subst (λ n. UnseenBetween m (rows accepted) c.released c.top (filter (lacks w c) (range_with_len c.released n))) (sym z)
          (record { exactly = λ k. (λ i. elim i [ ], λ h. absurd (let a = h.0 in let b = h.1 in omega arith)); once = λ i j hi. absurd (omega arith) })

  pub in_order : (i j : ℕ) → i < j → j < length (unseen w c) → get_or (unseen w c) i 0 < get_or (unseen w c) j 0
  unfolding unseen
  in_order = rising (lacks w c) c.released (c.top - c.released)

module _ (m : Means) (laws : Laws m) (carries : Carries) (w : ℕ) (pos : 0 < w) (lays : Lays w m.q carries) (whole : w % 8 ≡ 0)
    (log : List Arrival) (c : State) (run : Run m carries w log c) where
  faith : Faithful m laws carries w pos lays whole log c
  faith = faithful m laws carries w pos lays whole log c run

  pub reported-right : RightReport m carries w log (reported w c)
  reported-right = record { count = sym faith.standing.stands.many; oldest = oldest m laws w pos c faith.standing.stands }

  -- the unseen numbers, written over a buffer
  listed-over : (numbers : List ℕ) → RightList m carries w log (length (unseen w c)) (over numbers (unseen w c))
  listed-over numbers = record {
    long = ap length front;
    unseen = subst (λ xs. UnseenBetween m (rows (accepted carries w log)) (length (released log)) (top carries w log) xs) (sym front)
        (subst (λ a. UnseenBetween m (rows (accepted carries w log)) a (top carries w log) us) (sym faith.standing.stands.many)
        (subst (λ b. UnseenBetween m (rows (accepted carries w log)) c.released b us) faith.reaches (between m laws w pos c faith.standing.stands)));
    rising = λ i j l h.
        let a = at i (omega arith) in let b = at j h in let u = in_order m laws w pos c faith.standing.stands i j l h in omega arith;
  }
    where
      us : List ℕ
      us = unseen w c

      front : take (length us) (over numbers us) ≡ us
      front = take_at us (drop (length us) numbers) (length us) refl

      at : (i : ℕ) → i < length us → get_or (over numbers us) i 0 ≡ get_or us i 0
      at i l = get_or_append_left us (drop (length us) numbers) 0 i l

  pub listed-right : (numbers out : List ℕ) (r : Result ℕ Refusal) → (r, out) ≡ listed w c numbers → IfOk r (λ n. RightList m carries w log n out)
  listed-right numbers out r e = go (ltb (length numbers) w) e
    where
      go : (b : Bool) → ◌≡◌ {A = Result ℕ Refusal × List ℕ} (r, out) (cond b (Err ShortBuffer, numbers) (Ok (length (unseen w c)), over numbers (unseen w c))) → IfOk r (λ n. RightList m carries w log n out)
      go true e = subst (λ (x : Result ℕ Refusal × List ℕ). IfOk x.0 (λ n. RightList m carries w log n x.1)) (sym e) tt
      go false e = subst (λ (x : Result ℕ Refusal × List ℕ). IfOk x.0 (λ n. RightList m carries w log n x.1)) (sym e) (listed-over numbers)
