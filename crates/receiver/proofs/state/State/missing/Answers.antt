use Rattle.std.proofs.Common.{◌≡◌, ◌-◌, ◌<◌, ◌≤◌, length, get_or, refl, sym, ap, ◌∙◌, subst, arith, rules, tests}
use Rattle.std.proofs.lemmas.Iterator.{YieldsList-from_range}
use Rattle.std.proofs.lemmas.Iterator.Consumers.{YieldsList-at, YieldsList-from_filter, YieldsList-turn, YieldsList-end}
use Rattle.std.proofs.lemmas.Bool.{cond-false, le-ltb}
use Rattle.std.proofs.lemmas.List.{length_push}
use Rattle.receiver.proofs.Passing.{unseen_few, write_next, written_all}
use Rattle.receiver.specs.Held.{Held}
use Rattle.receiver.specs.Reports.{lacks, unseen}
use Rattle.receiver.specs.Start.{Bounded}
use Rattle.receiver.proofs.state.State.missing.Goals as goal

-- the number of this turn is the next unseen one
turn : (c : goal.In-Some) → (length c.loop-k.yielded < length (unseen 32 c.args.self.now)) × (c.in-Some.k ≡ get_or (unseen 32 c.args.self.now) (length c.loop-k.yielded) c.in-Some.k)
unfolding unseen
turn c =
    let s = c.args.self.now in
    let from = ap (λ (h : Held). h.released) c.self.view_is in
    let to = ap (λ (h : Held). h.top) c.self.view_is in
    YieldsList-turn
    (YieldsList-at (c.into_iter-k-iterator.ensures.into_iter_gives)
    (YieldsList-from_filter _ (lacks 32 s) (YieldsList-from_range s.released s.top (s.top - s.released) (cc) refl) c.filter-k-items.ensures.closure (λ x b q k. search (rules, tests))))
    c.loop-k.yielded _ c.loop-k.yielded_by _ _ c.in-Some.k c.in-Some.is c.next.ensures.steps

few : (c : goal.In-Some) → length (unseen 32 c.args.self.now) ≤ 32
few c = unseen_few 32 c.args.self.now (subst (λ (h : Held). Bounded 32 h) c.self.view_is c.self.invariant)

pub bounds-numbers-count : goal.bounds-numbers-count
bounds-numbers-count c = omega (arith, (turn c).0, few c, c.loop-k.invariant.2)

pub offset_bounds-numbers-count : goal.offset_bounds-numbers-count
offset_bounds-numbers-count c = omega (arith, (turn c).0, few c, c.loop-k.invariant.2)

pub overflow_add-count : goal.overflow_add-count
overflow_add-count c = omega (arith, (turn c).0, few c, c.loop-k.invariant.2)

pub loop-k-preserved : goal.loop-k-preserved
loop-k-preserved c =
    let t = turn c in let f = few c in let n = c.loop-k.invariant.2 in
    let here : c.in-Some.k ≡ get_or (unseen 32 c.args.self.now) c.loop-k.count c.in-Some.k = t.1 ∙ ap (λ i. get_or (unseen 32 c.args.self.now) i c.in-Some.k) (sym n) in
    (search rules, tt, omega (arith, length_push c.loop-k.yielded c.in-Some.k), write_next (unseen 32 c.args.self.now) c.args.numbers.now c.loop-k.numbers c.loop-k.count c.in-Some.k (omega arith) (omega arith) c.loop-k.invariant.3 here)

pub returns : goal.returns
unfolding unseen
returns c =
    let s = c.args.self.now in
    let from = ap (λ (h : Held). h.released) c.self.view_is in
    let to = ap (λ (h : Held). h.top) c.self.view_is in
    let end = YieldsList-end
    (YieldsList-at (c.into_iter-k-iterator.ensures.into_iter_gives)
    (YieldsList-from_filter _ (lacks 32 s) (YieldsList-from_range s.released s.top (s.top - s.released) (cc) refl) c.filter-k-items.ensures.closure (λ x b q k. search (rules, tests))))
    c.loop-k.yielded _ c.loop-k.yielded_by _ _ c.in-None.is c.next.ensures.steps in
    written_all (unseen 32 s) c.args.numbers.now c.loop-k.numbers c.loop-k.count (c.loop-k.invariant.2 ∙ end.1) c.loop-k.invariant.3
    ∙ sym (cond-false _ _ _ (le-ltb _ _ c.if-numbers-lt-WINDOW.false))
