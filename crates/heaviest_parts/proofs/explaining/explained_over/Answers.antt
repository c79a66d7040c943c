use Rattle.std.proofs.Common.{map, []}
use Rattle.kb_logic.specs.Bounds.{TermIsBounded}
use Rattle.grammar.specs.BlockView.{structure_view}
use Rattle.stage_definitions.specs.FileBases.{base_of_file, theory_at}
use Rattle.stage_definitions.specs.TypedFiles.{TypedTermTree}
use Rattle.type_derivation.specs.TypedViews.{named_term_view, typed_view}
use Rattle.size_stage.specs.Measures.{measure_view}
use Rattle.def_ground.specs.Groundings.{IsGroundTheory}
use Rattle.base_reader.specs.Groundable.{IsBoundedBase}
use Rattle.heaviest_parts.proofs.Fits.{asked_of}
use Rattle.heaviest_parts.proofs.explaining.explained_over.Goals as goal

pub left_open-requires : goal.left_open-requires
left_open-requires c =
    let is = c.requires in
    let kb = c.args.file.now.kb in
    let f = typed_view kb in
    let theory = c.args.file.now.picked.theory in
    let known = c.in-Ok.known in
    let ground : IsGroundTheory (base_of_file f theory known) =
    c.accepted_can_be_grounded.ensures is.0 is.1 f is.2 is.3 theory (structure_view c.in-Some.structure.now) known
    c.in-Ok.ensures.ok.given in
    let bounded : IsBoundedBase (base_of_file f theory known) =
    c.accepted_is_bounded.ensures is.1 f is.3 theory known (measure_view c.in-Ok.sizes) c.in-Ok.ensures.ok.sized in
    c.small_bases_fit.ensures kb.vocab known ground.known.symbols ground.known.consistent (theory_at f theory)
    (map (λ (t : TypedTermTree). t.term) (map named_term_view kb.terms)) bounded.theory
    (asked_of (λ u. TermIsBounded kb.vocab known.domains u []) (map named_term_view kb.terms) bounded.terms)
