use Rattle.std.proofs.Common.{◌≡◌, ◌<◌, ◌+◌, ◌++◌, ◌∷◌, [], false, List, length, take, get_or, sym, subst, arith, rules}
use Rattle.std.proofs.lemmas.List.{take_more, take_all}
use Rattle.lit_core.specs.declared.literals.Lit.{Lit}
use Rattle.search_engine.specs.LitSets.{IsSetOf}
use Rattle.search_engine.proofs.LitSetFacts.{empty-set, set-more}
use Rattle.search_engine.proofs.lit_sets.LitSet.of.Goals as goal

pub loop-lit-init : goal.loop-lit-init
loop-lit-init c = empty-set c.new-set.result c.new-set.ensures

pub loop-lit-preserved : goal.loop-lit-preserved
loop-lit-preserved c =
    let lt : c.loop-lit.lit-index < length c.args.lits.now = search rules in
    let d : Lit = record { var = record { 0 = 0 }; positive = false } in
    let a : Lit = get_or c.args.lits.now c.loop-lit.lit-index d in
    let next : take (c.loop-lit.lit-index + 1) c.args.lits.now ≡ take c.loop-lit.lit-index c.args.lits.now ++ a ∷ [] =
    take_more c.args.lits.now c.loop-lit.lit-index d lt in
    subst (λ (xs : List Lit). IsSetOf xs c.insert.new.self) (sym next)
    (set-more (take c.loop-lit.lit-index c.args.lits.now) a c.loop-lit.set c.insert.new.self c.loop-lit.invariant
    c.in_ok-insert.ensures.kept c.in_ok-insert.ensures.new c.in_ok-insert.ensures.from)

pub returns : goal.returns
returns c = subst (λ (xs : List Lit). IsSetOf xs c.loop-lit.set) (take_all c.loop-lit.lit-index c.args.lits.now
    (omega (arith, c.loop-lit-test.false))) c.loop-lit.invariant
