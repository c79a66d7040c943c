use Rattle.std.proofs.Common.{[], ◌∷◌, ◌++◌, map, get_or, ap, sym, ◌∙◌, List}
use Rattle.std.specs.List.{flat_map}
use Rattle.kb_logic.specs.declared.elements.Elem.{Elem}
use Rattle.kb_logic.specs.Structures.{domain_at}
use Rattle.kb_logic.proofs.TupleLists.{tuples_more}
use Rattle.kb_logic.proofs.tuples.all_tuples.Goals as goal

pub loop-ty-preserved : goal.loop-ty-preserved
loop-ty-preserved c =
    c.in_ok-tuples.ensures
    ∙ (ap (λ (d : List Elem). flat_map (λ t. map (λ x. t ++ x ∷ []) d) c.loop-ty.tuples.items) c.domain_in.ensures
    ∙ (ap (λ (l : List (List Elem)). flat_map (λ t. map (λ x. t ++ x ∷ [])
    (domain_at c.args.domains.now (get_or c.args.types.now c.loop-ty.ty-index 0))) l) c.loop-ty.invariant
    ∙ sym (tuples_more c.args.domains.now c.args.types.now c.loop-ty.ty-index c.loop-ty-test.true)))
