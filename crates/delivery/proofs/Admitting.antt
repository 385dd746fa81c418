-- An admit, and what the program keeps of it.
use Rattle.std.proofs.Common.{◌≡◌, ℕ, zero, suc, ◌+◌, ◌-◌, ◌<◌, ◌≤◌, false, cond, ltb, List, [], ◌∷◌, ◌++◌, length, get_or, Ok, Err, Result, sym, refl, ap, ◌∙◌, subst, inl, inr, not-suc-le-zero, arith, length-append}
use Rattle.std.proofs.lemmas.List.{get_or_append_left, get_or-append-add}
use Rattle.std.proofs.lemmas.Bool.{cases_lt, cond-true, cond-false, le-ltb}
use Rattle.refusal.specs.declared.Refusal.{Refusal}
use Rattle.refusal.specs.declared.Refusal.TheVariants.{LongFile}
use Rattle.file.specs.Packets.{packets, packet_of}
use Rattle.file.specs.Spelling.{spelling_of}
use Rattle.link.specs.declared.plain.PlainLink.{PlainLink}
use Rattle.link.specs.declared.scripted.ScriptedLink.{ScriptedLink}
use Rattle.transfer.specs.Log.{Event, admitted}
use Rattle.transfer.specs.Parts.{Parts, State}
use Rattle.transfer.specs.Steps.{Called, called, admits}
use Rattle.delivery.specs.declared.progress.Progress.{Progress}
use Rattle.delivery.specs.Follows.{FirstPackets, Follows}
use Rattle.delivery.specs.Phases.{file_packet, count_of}
use Rattle.delivery.specs.Rounds.{Course, granted, admit_one, admitting, admit_all_lem}
use Rattle.delivery.proofs.Courses.{admitted-course, runs_on}

-- a short file has its packet
pub packet_there : (size : ℕ) (why : Refusal) (y : List ℕ) → size ≤ 16000 → ◌≡◌ {A = Result (List ℕ) Refusal} (Err why) (cond (ltb 16000 size) (Err LongFile) (Ok y)) → ⊥
packet_there size why y h e =
    let short : ◌≡◌ {A = Result (List ℕ) Refusal} (cond (ltb 16000 size) (Err LongFile) (Ok y)) (Ok y) = cond-false (ltb 16000 size) _ _ (le-ltb 16000 size h) in
    cc

-- one packet more
more-packets : (q : ℕ) (file : List ℕ) (t : ℕ) (list : List (List ℕ)) → FirstPackets q file t list → t < packets (spelling_of q) (length file)
    → FirstPackets q file (t + 1) (list ++ packet_of (spelling_of q) file t ∷ [])
more-packets q file t list h below = record {
  count = length-append list (packet_of (spelling_of q) file t ∷ []) ∙ ap (λ (k : ℕ). k + 1) h.count;
  few = omega arith;
  each = λ k l. elim (cases_lt k t) [
    | inl old ↦ get_or_append_left list (packet_of (spelling_of q) file t ∷ []) [] k (omega (arith, h.count)) ∙ h.each k old
    | inr new ↦ let is : k ≡ length list + 0 = omega (arith, h.count) in let same : t ≡ k = omega arith in
        ap (λ (i : ℕ). get_or (list ++ packet_of (spelling_of q) file t ∷ []) i []) is ∙ get_or-append-add list (packet_of (spelling_of q) file t ∷ []) 0 [] ∙ ap (packet_of (spelling_of q) file) same
  ];
}

module _
    {S C : Type 0} (p : Parts S ScriptedLink PlainLink) (file before : List ℕ) (t : ℕ) (c : Course S ScriptedLink PlainLink)
    (σ τ : State S ScriptedLink PlainLink) (v : Progress C) (buffer : List ℕ) (h : Follows p file before false t c σ v buffer)
  where
    pub admitted_ok : t < count_of p file → (n : ℕ) → called (Ok n) τ ≡ admits 32 p σ (file_packet p file t)
        → Follows p file before false (t + 1) (admit_one 32 p (file_packet p file t) c) τ v buffer
    admitted_ok below n e =
        let r = h.runs in
        subst (λ (d : Course S ScriptedLink PlainLink). Follows p file before false (t + 1) d τ v buffer) (sym (admitted-course p c σ τ h.state (file_packet p file t) (Ok n) e))
        (record {
          state = refl;
          numbers = h.numbers;
          runs = record {
            source = r.source;
            forward = r.forward;
            reverse = r.reverse;
            none_forth = r.none_forth;
            none_back = r.none_back;
            run = (σ, r.run, e);
            is_sealed = r.is_sealed;
            is_file = r.is_file;
            stream = more-packets p.means.q file t (admitted c.log) r.stream below;
          };
          heard = h.heard;
          tally = h.tally;
          releases = h.releases;
          filled = h.filled;
        })

    pub admit-refused : (why : Refusal) → called (Err why) τ ≡ admits 32 p σ (file_packet p file t) → Follows p file before false t (admit_one 32 p (file_packet p file t) c) τ v buffer
    admit-refused why e =
        subst (λ (d : Course S ScriptedLink PlainLink). Follows p file before false t d τ v buffer) (sym (admitted-course p c σ τ h.state (file_packet p file t) (Err why) e))
        (record {
          state = refl;
          numbers = h.numbers;
          runs = runs_on p file false t c.log σ τ h.runs (Event.admit (file_packet p file t) (Err why)) e refl refl;
          heard = h.heard;
          tally = h.tally;
          releases = h.releases;
          filled = h.filled;
        })

-- the link is left
pub admits-forward : {S : Type 0} (p : Parts S ScriptedLink PlainLink) (σ τ : State S ScriptedLink PlainLink) (packet : List ℕ) (r : Result ℕ Refusal)
    → called r τ ≡ admits 32 p σ packet → τ.forward ≡ σ.forward
admits-forward {S} p σ τ packet r e = ap (λ (z : Called ℕ S ScriptedLink PlainLink). z.state.forward) e

-- from packet t on, what is left of the admits of c
pub record AdmitsLeft {S C : Type 0} (p : Parts S ScriptedLink PlainLink) (file before : List ℕ) (t : ℕ) (c : Course S ScriptedLink PlainLink) (σ : State S ScriptedLink PlainLink) (v : Progress C) (buffer : List ℕ) : Type 0 where
  pub so_far : Course S ScriptedLink PlainLink
  pub follows : Follows p file before false t so_far σ v buffer
  pub ends : admitting 32 p (file_packet p file) (count_of p file) t (count_of p file - t) so_far ≡ admit_all_lem 32 p (file_packet p file) (count_of p file) c

module _
    {S C : Type 0} (p : Parts S ScriptedLink PlainLink) (file before : List ℕ) (t : ℕ) (c : Course S ScriptedLink PlainLink)
    (σ : State S ScriptedLink PlainLink) (v : Progress C) (buffer : List ℕ)
  where
    pub admits_begin : Follows p file before false t c σ v buffer → AdmitsLeft p file before t c σ v buffer
    admits_begin h = record {
      so_far = c;
      follows = h;
      ends = ap (λ (k : ℕ). admitting 32 p (file_packet p file) (count_of p file) k (count_of p file - k) c) (sym h.runs.stream.count);
    }

    module _ (left : AdmitsLeft p file before t c σ v buffer) (τ : State S ScriptedLink PlainLink) where
      is-granted : (r : Result ℕ Refusal) → called r τ ≡ admits 32 p σ (file_packet p file t) → granted (admits 32 p left.so_far.state (file_packet p file t)).answer ≡ granted r
      is-granted r e =
          ap (λ (x : State S ScriptedLink PlainLink). granted (admits 32 p x (file_packet p file t)).answer) left.follows.state
          ∙ sym (ap (λ (z : Called ℕ S ScriptedLink PlainLink). granted z.answer) e)

      -- one is refused, and ends them
      pub admits_stop : (why : Refusal) → called (Err why) τ ≡ admits 32 p σ (file_packet p file t) → t < count_of p file
          → Follows p file before false t (admit_all_lem 32 p (file_packet p file) (count_of p file) c) τ v buffer
      unfolding admitting
      admits_stop why e below =
          subst (λ (d : Course S ScriptedLink PlainLink). Follows p file before false t d τ v buffer) (sym (go (count_of p file - t) (omega arith)) ∙ left.ends)
          (admit-refused p file before t left.so_far σ τ v buffer left.follows why e)
        where
          go : (n : ℕ) → 0 < n → admitting 32 p (file_packet p file) (count_of p file) t n left.so_far ≡ admit_one 32 p (file_packet p file t) left.so_far
          go zero h = absurd (not-suc-le-zero h)
          go (suc n) h = cond-false _ _ _ (is-granted (Err why) e)

      -- one is admitted
      pub admits-go_on : (n : ℕ) → called (Ok n) τ ≡ admits 32 p σ (file_packet p file t) → t < count_of p file → AdmitsLeft p file before (t + 1) c τ v buffer
      unfolding admitting
      admits-go_on n e below = record {
        so_far = admit_one 32 p (file_packet p file t) left.so_far;
        follows = admitted_ok p file before t left.so_far σ τ v buffer left.follows below n e;
        ends = sym (goes_on (count_of p file - t) (omega arith)) ∙ left.ends;
      }
        where
          goes_on : (k : ℕ) → k ≡ suc (count_of p file - (t + 1))
              → admitting 32 p (file_packet p file) (count_of p file) t k left.so_far
              ≡ admitting 32 p (file_packet p file) (count_of p file) (t + 1) (count_of p file - (t + 1)) (admit_one 32 p (file_packet p file t) left.so_far)
          goes_on k is = ap (λ (i : ℕ). admitting 32 p (file_packet p file) (count_of p file) t i left.so_far) is ∙ cond-true _ _ _ (is-granted (Ok n) e)

    -- none is left
    pub admits_end : AdmitsLeft p file before t c σ v buffer → t ≡ count_of p file → Follows p file before false t (admit_all_lem 32 p (file_packet p file) (count_of p file) c) σ v buffer
    unfolding admitting
    admits_end left all =
        subst (λ (d : Course S ScriptedLink PlainLink). Follows p file before false t d σ v buffer)
        (ap (λ (i : ℕ). admitting 32 p (file_packet p file) (count_of p file) t i left.so_far) (let none : 0 ≡ count_of p file - t = omega arith in none) ∙ left.ends) left.follows
