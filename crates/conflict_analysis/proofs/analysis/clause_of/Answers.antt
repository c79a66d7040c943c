use Rattle.std.proofs.Common.{◌≡◌, ℕ, ◌<◌, ◌∷◌, [], ◌++◌, List, Contains, length, ap, sym, ◌∙◌, subst, arith}
use Rattle.std.proofs.lemmas.List.Elements.{Contains-push}
use Rattle.lit_core.specs.declared.literals.Lit.{Lit}
use Rattle.lit_core.specs.Literals.{negated}
use Rattle.clause_store.specs.StoreState.{StoreState}
use Rattle.conflict_analysis.specs.Learning.{IsClauseAbove}
use Rattle.conflict_analysis.proofs.Learnt.{clause-first, clause-more, clause-done}
use Rattle.conflict_analysis.proofs.analysis.clause_of.Goals as goal

pub loop-next-init : goal.loop-next-init
loop-next-init c =
    let items : c.push.new.self.items ≡ negated c.step.result.lit ∷ [] = c.in_ok-push.ensures.items
    ∙ (ap (λ (xs : List Lit). xs ++ c.negated.result ∷ []) c.new-clause.ensures.items
    ∙ ap (λ (l : Lit). l ∷ []) c.negated.ensures) in
    subst (λ (xs : List Lit). IsClauseAbove c.args.store.now.trail.steps c.args.place c.args.lower
    c.args.lower xs) (sym items)
    (clause-first c.args.store.now.trail.steps c.args.place c.step.result c.step.ensures.step c.args.lower
    c.requires.lower)

pub step-requires-in-Some : goal.step-requires-in-Some
step-requires-in-Some c =
    let n : ℕ = c.in-Some.next in
    let has : Contains c.loop-next.places n = subst (λ (ks : List ℕ). Contains ks n)
    (sym c.in-Some.ensures.some.split) (Contains-push c.pop_last.new.self n) in
    let lt : n < c.args.place = c.requires.lower n (c.loop-next.invariant.among n has) in
    let within : c.args.place < length c.args.store.now.trail.steps = c.requires.place in
    omega (arith, lt, within)

pub loop-next-preserved : goal.loop-next-preserved
loop-next-preserved c =
    let s : StoreState = c.args.store.now in
    let old : List Lit = c.loop-next.clause.items in
    let items : c.push-in-Some.new.self.items ≡ old ++ negated c.step-in-Some.result.lit ∷ [] =
    c.in_ok-push-2.ensures.items ∙ ap (λ (l : Lit). old ++ l ∷ []) c.negated-in-Some.ensures in
    subst (λ (xs : List Lit). IsClauseAbove s.trail.steps c.args.place c.args.lower c.pop_last.new.self xs)
    (sym items)
    (clause-more s.trail.values s.trail.steps c.step-in-Some.ensures.laws.trail.coherent c.args.place c.args.lower
    c.loop-next.places c.pop_last.new.self c.in-Some.next c.step-in-Some.result old
    c.loop-next.invariant c.in-Some.ensures.some.split c.in-Some.ensures.some.below c.step-in-Some.ensures.step)

pub returns : goal.returns
returns c = clause-done c.args.store.now.trail.steps c.args.place c.args.lower c.loop-next.places
    c.loop-next.clause.items c.loop-next.invariant c.in_default.ensures.none.0
