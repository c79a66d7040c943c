use Rattle.std.proofs.Common.{sym, subst}
use Rattle.kb_logic.specs.Bases.{Base}
use Rattle.kb_logic.specs.Trees.{TheoryTree}
use Rattle.stage_definitions.specs.FileBases.{base_of_file}
use Rattle.type_derivation.specs.TypedViews.{typed_view}
use Rattle.bound_laws.specs.Closures.{IsNarrowed}
use Rattle.quantifier_bounds.specs.Fits.{TheoryFits}
use Rattle.narrowed_bases.proofs.Light.{theory_fits, weighing_fits}
use Rattle.narrow_cases.proofs.closures.push_narrowed.Goals as goal

pub refine-requires-clause-fits : goal.refine-requires-clause-fits
refine-requires-clause-fits c =
    let base : Base = base_of_file (typed_view c.args.kb.now) c.args.theory c.args.known.now in
    subst (λ (t : TheoryTree). TheoryFits c.args.known.now.symbols c.args.known.now.domains t) (sym c.theory_of.ensures)
    (theory_fits base c.requires.typed c.requires.bounded)

pub push_closure-requires-clause-fits : goal.push_closure-requires-clause-fits
push_closure-requires-clause-fits c =
    let base : Base = base_of_file (typed_view c.args.kb.now) c.args.theory c.args.known.now in
    weighing_fits base c.requires.typed c.small_bases_fit.ensures c.requires.bounded c.requires.asked c.in-Ok.narrowed
    (subst (λ (t : TheoryTree). IsNarrowed t c.args.known.now c.in-Ok.narrowed) c.theory_of.ensures c.in-Ok.ensures.ok)
