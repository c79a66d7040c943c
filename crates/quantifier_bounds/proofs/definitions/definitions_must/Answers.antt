use Rattle.std.proofs.Common.{◌≡◌, ◌≤◌, ◌^◌, ◌+◌, ◌∷◌, ◌∙◌, get_or, sym, ap, subst, drop, map, length, Err}
use Rattle.std.specs.List.{AllByRecursion}
use Rattle.std.proofs.lemmas.List.{at_drop_more}
use Rattle.std.proofs.lemmas.Result.{err_from_is_err_and}
use Rattle.kb_logic.specs.Trees.{DefinitionTree}
use Rattle.kb_logic.specs.Views.{definition_view}
use Rattle.kb_logic.specs.KnownAtoms.{KnownAtoms}
use Rattle.bound_laws.specs.Closures.{ObeysDefinition}
use Rattle.quantifier_bounds.specs.Fits.{RuleFits}
use Rattle.quantifier_bounds.specs.Rules.{definition_of}
use Rattle.quantifier_bounds.specs.Steps.{IsStep, Narrows}
use Rattle.quantifier_bounds.proofs.Steps.{SoFar}
use Rattle.quantifier_bounds.proofs.Values.{Every, every_turn, every_fault}
use Rattle.quantifier_bounds.proofs.definitions.definitions_must.Goals as goal

pub returns-in_err-more : goal.returns-in_err-more
returns-in_err-more c =
    let first = c.args.known.now in
    let now = c.loop-at.known in
    let then' = c.define_all.new.known in
    let gs = c.args.definitions.now in
    let xs = map definition_view gs in
    let at = c.loop-at.at in
    let x = get_or gs at c.index-definitions-at.result in
    let left = map definition_view (drop at gs) in
    let next = map definition_view (drop (at + 1) gs) in
    let split : left ≡ definition_view x ∷ next =
    at_drop_more (map definition_view) gs at c.index-definitions-at.result c.loop-at-test.true in
    let D = λ (g : DefinitionTree) (q : KnownAtoms). ObeysDefinition q g in
    let p = err_from_is_err_and c.from_residual.result c.from_residual.ensures.1 in
    subst (λ r. Narrows first then' r (Every D xs)) (sym (p.1 ∙ ap Err p.2))
    (every_fault D first now c.loop-at.changed xs left next (definition_view x) split c.loop-at.invariant.so_far
    then' then' c.in_err-more.field-0.0
    (subst (λ us. Narrows now then' (Err c.in_err-more.field-0.0) (λ q. ObeysDefinition q (definition_of us)))
    c.as_slice.ensures c.in_err-more.ensures))

pub loop-at-preserved : goal.loop-at-preserved
loop-at-preserved c =
    let first = c.args.known.now in
    let now = c.loop-at.known in
    let then' = c.define_all.new.known in
    let gs = c.args.definitions.now in
    let xs = map definition_view gs in
    let at = c.loop-at.at in
    let x = get_or gs at c.index-definitions-at.result in
    let left = map definition_view (drop at gs) in
    let next = map definition_view (drop (at + 1) gs) in
    let split : left ≡ definition_view x ∷ next =
    at_drop_more (map definition_view) gs at c.index-definitions-at.result c.loop-at-test.true in
    let D = λ (g : DefinitionTree) (q : KnownAtoms). ObeysDefinition q g in
    let step : IsStep now then' c.in_ok-more.more (D (definition_view x)) =
    subst (λ us. IsStep now then' c.in_ok-more.more (λ q. ObeysDefinition q (definition_of us))) c.as_slice.ensures
    c.in_ok-more.ensures in
    record {
      symbols = c.loop-at.invariant.symbols ∙ sym step.more.symbols;
      domains = c.loop-at.invariant.domains ∙ sym step.more.domains;
      few = subst (λ ss. length ss ≤ 2 ^ 32) (sym step.more.symbols) c.loop-at.invariant.few;
      fits = subst (λ ds. AllByRecursion (λ (g : DefinitionTree). AllByRecursion (RuleFits then'.symbols ds) g.rules)
          next)
          (sym step.more.domains)
          (subst (λ ss. AllByRecursion (λ (g : DefinitionTree). AllByRecursion (RuleFits ss now.domains) g.rules) next)
          (sym step.more.symbols)
          (subst (AllByRecursion (λ (g : DefinitionTree). AllByRecursion (RuleFits now.symbols now.domains) g.rules))
          split c.loop-at.invariant.fits).1);
      so_far = subst (λ b. SoFar first then' b (Every D xs) (Every D next)) (sym c.either-changed.ensures)
          (every_turn D first now c.loop-at.changed xs left next (definition_view x) split
          c.loop-at.invariant.so_far then' c.in_ok-more.more step);
    }
