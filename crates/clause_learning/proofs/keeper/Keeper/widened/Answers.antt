use Rattle.std.proofs.Common.{◌≡◌, ◌++◌, List, All, sym, ap, ◌∙◌, subst}
use Rattle.std.proofs.lemmas.List.Elements.{All-append}
use Rattle.lit_core.specs.declared.literals.Lit.{Lit}
use Rattle.ground_core.specs.declared.parts.TermBound.{TermBound}
use Rattle.ground_core.specs.Problems.{AreLitsOf, IsLitOf}
use Rattle.clause_learning.specs.LiveBounds.{IsOutputOfWider}
use Rattle.clause_learning.proofs.LiveGrowth.{outputs-within}
use Rattle.clause_learning.proofs.keeper.Keeper.widened.Goals as goal

pub returns-clause-widened : goal.returns-clause-widened
returns-clause-widened c =
    let assume = c.args.assume.now in (
      c.in_ok-more.more.items,
      c.in_ok-extend_from_slice.ensures.items ∙ ap (λ (xs : List Lit). xs ++ c.as_slice-2.result.now)
          c.in_ok-list.ensures.items ∙ ap (λ (xs : List Lit). assume ++ xs) c.as_slice-2.ensures.value,
      subst (λ (bs : List TermBound). All (IsOutputOfWider bs assume) c.in_ok-more.more.items) c.as_slice.ensures.value
          c.in_ok-more.ensures,
    )

pub returns-clause-literals : goal.returns-clause-literals
returns-clause-literals c =
    let p = c.args.self.now.engine.problem in
    let assume = c.args.assume.now in
    let same : c.extend_from_slice.new.self.items ≡ assume ++ c.in_ok-more.more.items =
    c.in_ok-extend_from_slice.ensures.items ∙ ap (λ (xs : List Lit). xs ++ c.as_slice-2.result.now)
    c.in_ok-list.ensures.items ∙ ap (λ (xs : List Lit). assume ++ xs) c.as_slice-2.ensures.value in
    subst (AreLitsOf p.vars) (sym same) (All-append (IsLitOf p.vars) assume c.in_ok-more.more.items c.requires.literals
    (outputs-within p c.args.self.now.live.items assume c.in_ok-more.more.items
    c.requires.keeper.resting.engine.problem c.requires.keeper.live
    (subst (λ (bs : List TermBound). All (IsOutputOfWider bs assume) c.in_ok-more.more.items) c.as_slice.ensures.value
    c.in_ok-more.ensures)))
