use Rattle.std.proofs.Common.{◌≡◌, [], ◌++◌, map, sym, subst, ap, ◌∙◌, true}
use Rattle.std.specs.List.{AllByRecursion}
use Rattle.kb_logic.specs.KnownAtoms.{KnownAtoms}
use Rattle.kb_logic.specs.Trees.{FormulaTree, universal}
use Rattle.kb_logic.specs.Structures.{choices}
use Rattle.kb_logic.specs.Views.{formula_view}
use Rattle.kb_logic.proofs.Shapes.{formula_view-All}
use Rattle.plain_evaluation.proofs.Envs.{env_view-Given}
use Rattle.bound_laws.specs.Closures.{Obeys}
use Rattle.refinement.specs.Following.{IsPart, ObeysSentences, NarrowsWithin}
use Rattle.refinement.proofs.Follows.{within_by}
use Rattle.refinement.proofs.Parts.{instance_parts}
use Rattle.refinement.proofs.walk.sentence_must.Goals as goal

pub all_instances-requires-clause-parts : goal.all_instances-requires-clause-parts
all_instances-requires-clause-parts c =
    let these = c.deref-in-All.result.now in
    let inner = c.deref.result.now in
    let is : formula_view c.args.sentence.now ≡ universal these (formula_view inner) =
    ap formula_view c.in-All.is ∙ formula_view-All c.in-All.bounds c.in-All.inner
    ∙ ap (λ b. universal b (formula_view c.in-All.inner.value)) (sym c.deref-in-All.ensures.value)
    ∙ ap (λ g. universal these (formula_view g)) (sym c.deref.ensures) in
    let s = c.args.course.setting.symbols.now in
    let d = c.args.course.setting.domains.now in
    let fs = map formula_view c.args.course.sentences.now in
    instance_parts s d fs these (formula_view inner) [] (subst (λ g. IsPart s d fs g []) is c.requires.part)

pub instance-requires-clause-part : goal.instance-requires-clause-part
instance-requires-clause-part c = rw env_view-Given c.requires.part

pub returns-in-All : goal.returns-in-All
returns-in-All c =
    let these = c.deref-in-All.result.now in
    let inner = c.deref.result.now in
    let is : formula_view c.args.sentence.now ≡ universal these (formula_view inner) =
    ap formula_view c.in-All.is ∙ formula_view-All c.in-All.bounds c.in-All.inner
    ∙ ap (λ b. universal b (formula_view c.in-All.inner.value)) (sym c.deref-in-All.ensures.value)
    ∙ ap (λ g. universal these (formula_view g)) (sym c.deref.ensures) in
    let d = c.args.course.setting.domains.now in
    let k = c.args.known.now in
    let new = c.all_instances.new.known in
    let W = ObeysSentences (map formula_view c.args.course.sentences.now) in
    let P = λ (q : KnownAtoms). AllByRecursion (λ a. Obeys q true (formula_view inner) ([] ++ a)) (choices d these) in
    let h : NarrowsWithin k new c.all_instances.result W P = c.all_instances.ensures in
    subst (λ (f : FormulaTree). NarrowsWithin k new c.all_instances.result W (λ q. Obeys q true f [])) (sym is)
    (within_by W P k new c.all_instances.result
    (λ (q : KnownAtoms). Obeys q true (universal these (formula_view inner)) [])
    (λ same p. subst (λ ds. AllByRecursion (λ a. Obeys new true (formula_view inner) ([] ++ a)) (choices ds these))
    (c.requires.domains ∙ ap (λ q. q.domains) (sym same)) p) h)
