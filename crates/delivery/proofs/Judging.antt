-- What a run answers, and what it leaves of a buffer whose first 16,000 bytes are carried into.
use Rattle.std.proofs.Common.{◌≡◌, ℕ, ◌<◌, ◌≤◌, Bool, true, false, cond, leb, ltb, List, ◌++◌, length, take, drop, Ok, Err, Result, sym, refl, ap, ◌∙◌, subst, append_assoc, arith, length-take}
use Rattle.std.proofs.lemmas.Bool.{cond_both, cond-true, cond-false, le-leb, le-ltb, lt-leb}
use Rattle.std.proofs.lemmas.List.{drop-append-le, take-append-drop}
use Rattle.std.specs.Array.{IsFirstChunk}
use Rattle.refusal.specs.declared.Refusal.{Refusal}
use Rattle.refusal.specs.declared.Refusal.TheVariants.{BadScript, LongFile}
use Rattle.link.specs.declared.scripted.ScriptedLink.{ScriptedLink}
use Rattle.link.specs.OfScripted.{new_link, opened_with}
use Rattle.link.specs.Script.{proper}
use Rattle.job.specs.declared.line.FieldKind.{FieldKind}
use Rattle.job.specs.declared.line.SourceKind.{SourceKind}
use Rattle.receiver.specs.Log.{released}
use Rattle.transfer.specs.Log.{arrivals}
use Rattle.delivery.specs.declared.outcome.Ending.{Ending}
use Rattle.delivery.specs.declared.outcome.Ending.TheVariants.{Whole, Spent}
use Rattle.delivery.specs.declared.outcome.Outcome.{Outcome}
use Rattle.delivery.specs.Outcome.{outcome_of, log_of, held_bytes, setup_of, ran, Ends, EndsRightly}
use Rattle.delivery.specs.Phases.{CarriesOut}
use Rattle.delivery.specs.Rounds.{done}

-- a link opens with a proper script, and else refuses it
refused_new : (cs : List ℕ) (why : Refusal) → Err why ≡ opened_with 16 400 64 cs → (proper 64 cs ≡ false) × (why ≡ BadScript)
refused_new cs why e = go (proper 64 cs) refl e
  where
    go : (b : Bool) → proper 64 cs ≡ b → Err why ≡ cond b (Ok (new_link 16 400 64 cs)) (Err BadScript) → (b ≡ false) × (why ≡ BadScript)
    go true is e = cc
    go false is e = (refl, cc)

pub opened_new : (cs : List ℕ) (x : ScriptedLink) → Ok x ≡ opened_with 16 400 64 cs → (proper 64 cs ≡ true) × (x ≡ new_link 16 400 64 cs)
opened_new cs x e = go (proper 64 cs) refl e
  where
    go : (b : Bool) → proper 64 cs ≡ b → Ok x ≡ cond b (Ok (new_link 16 400 64 cs)) (Err BadScript) → (b ≡ true) × (x ≡ new_link 16 400 64 cs)
    go true is e = (refl, cc)
    go false is e = cc

module _ (field : FieldKind) (source : SourceKind) (script file before chunk : List ℕ) (first : IsFirstChunk before chunk 16000) where
  -- what a run promises of its answer and of the buffer after it
  abbrev pub Judged : Result Outcome Refusal → List ℕ → Type 0
  Judged r after = (r ≡ ran field source script file (length before)) × EndsRightly field source script file before after r

  enough : ltb (length before) 16000 ≡ false
  enough = le-ltb (length before) 16000 first.enough

  restored : chunk ++ drop 16000 before ≡ before
  restored = ap (λ (xs : List ℕ). xs ++ drop 16000 before) first.same ∙ take-append-drop 16000 before

  long : length chunk ≡ 16000
  long = ap length first.same ∙ omega (arith, length-take 16000 before, first.enough)

  -- what was written over the chunk was written over the buffer
  wider : (n : ℕ) (front after : List ℕ) → n ≤ 16000 → after ≡ front ++ drop n chunk → after ++ drop 16000 before ≡ front ++ drop n before
  wider n front after few is =
      ap (λ (xs : List ℕ). xs ++ drop 16000 before) is ∙ append_assoc front (drop n chunk) (drop 16000 before)
      ∙ ap (λ (xs : List ℕ). front ++ xs) (sym (drop-append-le n chunk (drop 16000 before) (omega (arith, long))) ∙ ap (drop n) restored)

  refused : (why : Refusal) → ran field source script file (length before) ≡ Err why → (r : Result Outcome Refusal) → r ≡ Err why → Judged r (chunk ++ drop 16000 before)
  refused why e r is = subst (λ (x : Result Outcome Refusal). Judged x (chunk ++ drop 16000 before)) (sym is) (sym e, restored)

  pub bad_script : (why : Refusal) → Err why ≡ opened_with 16 400 64 script → (r : Result Outcome Refusal) → r ≡ Err why → Judged r (chunk ++ drop 16000 before)
  bad_script why e =
      let no = refused_new script why e in
      refused why (cond-false (ltb (length before) 16000) _ _ enough ∙ cond-false (proper 64 script) _ _ no.0 ∙ ap Err (sym no.1))

  module _ (link : ScriptedLink) (opened : Ok link ≡ opened_with 16 400 64 script) where
    pub long-file : (why : Refusal) → (16000 < length file) × (why ≡ LongFile) → (r : Result Outcome Refusal) → r ≡ Err why → Judged r (chunk ++ drop 16000 before)
    long-file why h =
        refused why (cond-false (ltb (length before) 16000) _ _ enough ∙ cond-true (proper 64 script) _ _ (opened_new script link opened).0
        ∙ cond-false (leb (length file) 16000) _ _ (lt-leb (length file) 16000 h.0) ∙ ap Err (sym h.1))

    pub carried : (short : length file ≤ 16000) (r : Result Outcome Refusal) (after : List ℕ)
        → CarriesOut (setup_of field source).parts file (setup_of field source).source script chunk r after → Judged r (after ++ drop 16000 before)
    carried short (Err why) after none = absurd none
    carried short (Ok o) after came = (
      ap Ok came.0 ∙ sym (cond-false (ltb (length before) 16000) _ _ enough ∙ cond-true (proper 64 script) _ _ (opened_new script link opened).0
          ∙ cond-true (leb (length file) 16000) _ _ (le-leb (length file) 16000 short)),
      subst (λ (x : Outcome). Over x.ending) (sym came.0) go came.1,
    )
      where
        Over : Ending → Type 0
        Over x =
            let s = setup_of field source in
            Ends s.parts s.source script file chunk after x → Ends s.parts s.source script file before (after ++ drop 16000 before) x

        go : Over (outcome_of file (log_of field source script file)).ending
        go =
            let log = log_of field source script file in
            let s = setup_of field source in
            cond_both (done log) (Whole (length file)) (Spent (length (released (arrivals log)))) Over
            (λ _ h. wider (length file) file after short h)
            (λ _ h.
            let n = held_bytes s.parts.means.q file (length (released (arrivals log))) in
            (wider n (take n file) after (omega arith) h.0, h.1))
