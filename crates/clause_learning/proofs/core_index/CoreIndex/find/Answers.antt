use Rattle.std.proofs.Common.{◌≡◌, ℕ, Some, List, slice_get, sym, subst, arith, All}
use Rattle.lit_core.specs.declared.literals.Lit.{Lit}
use Rattle.search_engine.specs.LitSets.{HasLit}
use Rattle.search_engine.proofs.LitSetFacts.{next-all}
use Rattle.clause_learning.specs.CoreIndexes.{EndsWith}
use Rattle.clause_learning.proofs.core_index.CoreIndex.find.Goals as goal

pub loop-lit-preserved : goal.loop-lit-preserved
loop-lit-preserved c =
    next-all (λ (l : Lit). (j : ℕ) (d : List Lit) → slice_get c.args.self.now.cores.items j ≡ Some d
    → EndsWith c.args.self.now j l → All (HasLit c.args.set.now) d → ⊥)
    c.args.lits.now c.loop-lit.lit-index _ c.loop-lit-test.true c.loop-lit.invariant c.in-None.ensures.none

pub returns-clause-none : goal.returns-clause-none
returns-clause-none c = λ l j d has at ends all. c.loop-lit.invariant has.0 l
    (omega (arith, has.1, c.loop-lit-test.false)) j d at (subst (EndsWith c.args.self.now j) (sym has.2) ends) all
