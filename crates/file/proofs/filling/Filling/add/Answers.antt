use Rattle.std.proofs.Common.{◌≡◌, ℕ, List, ◌++◌, drop, Result, sym, ap, ap₂, ◌∙◌, take-append-drop}
use Rattle.refusal.specs.declared.Refusal.{Refusal}
use Rattle.std.proofs.lemmas.Result.{err_from_is_err_and}
use Rattle.file.specs.Filling.{adding, taking}
use Rattle.file.specs.Spelling.{spelling_of}
use Rattle.file.proofs.Beside.{fills_over}
use Rattle.file.proofs.Fills.{fills}
use Rattle.file.proofs.Fronts.{before, front_taken}
use Rattle.file.proofs.Steps.{adds_short, adds_refused, adds_bytes}
use Rattle.file.proofs.filling.Filling.add.Goals as goal

pub returns-in_default-clause-exact : goal.returns-in_default-clause-exact
returns-in_default-clause-exact g c = sym (adds_short g.F.Field.means.q _ _ c.args.packet.now c.args.buffer.now c.in_default.ensures.cases)

pub returns-in_err-packet : goal.returns-in_err-packet
returns-in_err-packet g c =
    let q = g.F.Field.means.q in
    let self = c.args.self.now in
    let packet = c.args.packet.now in
    let buffer = c.args.buffer.now in
    let p = err_from_is_err_and c.from_residual.result c.from_residual.ensures.1 in
    let whole : c.in-Some.buffer.now ++ drop 16000 buffer ≡ buffer = ap (λ (b : List ℕ). b ++ drop 16000 buffer) c.in-Some.ensures.cases.same ∙ take-append-drop 16000 buffer in
    let e : (c.from_residual.result, self.taken, self.size, c.in-Some.buffer.now ++ drop 16000 buffer) ≡ adding q self.taken self.size packet buffer =
    ap₂ (λ (r : Result (Unit {0}) Refusal) (b : List ℕ). (r, self.taken, self.size, b)) p.1 whole
    ∙ sym (adds_refused q self.taken self.size packet buffer c.in-Some.ensures.cases.enough p.0 (rw p.2 c.in_err-packet.ensures)) in
    record { exact = e; fills = fills q g.met.F.Field.laws.least packet self.taken self.size buffer _ e; fills_over = fills_over q g.met.F.Field.laws.least packet self.taken self.size buffer _ e }

pub returns : goal.returns
returns g c =
    let q = g.F.Field.means.q in
    let s = spelling_of q in
    let self = c.args.self.now in
    let packet = c.args.packet.now in
    let buffer = c.args.buffer.now in
    let cases = c.in-Some.ensures.cases in
    let e =
    ap (before (drop 16000 buffer)) c.take_packet.ensures
    ∙ ap₂ (λ (xs front : List ℕ). before (drop 16000 buffer) (taking s self.taken self.size xs front)) c.in_ok-packet.ensures.1 cases.same
    ∙ front_taken s self.taken self.size packet buffer cases.enough
    ∙ sym (adds_bytes q self.taken self.size packet buffer cases.enough c.in_ok-packet.ensures.0) in
    record { exact = e; fills = fills q g.met.F.Field.laws.least packet self.taken self.size buffer _ e; fills_over = fills_over q g.met.F.Field.laws.least packet self.taken self.size buffer _ e }
