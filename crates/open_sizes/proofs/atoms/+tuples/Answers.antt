use Rattle.std.proofs.Common.{◌≡◌, ◌+◌, ℕ, List, [], ◌∷◌, ◌++◌, refl, sym, ap, ◌∙◌}
use Rattle.std.specs.List.{sum_by}
use Rattle.kb_logic.specs.declared.elements.Elem.{Elem}
use Rattle.kb_logic.specs.Denotations.{denotation_of}
use Rattle.kb_logic.specs.Values.{value_view}
use Rattle.partial_structures.specs.Known.{known_in, place_view, spot_of, stepped}
use Rattle.size_stage.proofs.Capping.{stays}
use Rattle.open_sizes.specs.Atoms.{open_in_tuples}
use Rattle.open_sizes.proofs.Unknown.{sum_first, sum_next, spot_next, tuples_next}
use Rattle.open_sizes.proofs.atoms.+tuples.Goals as goal

pub loop-elem-init : goal.loop-elem-init
loop-elem-init t c =
    let s = c.args.s in
    let k = known_in s in
    let ty = c.in-Some.ty.now in
    let others = c.in-Some.others.now in (
      λ vs at.
          let h = λ (x : Elem). open_in_tuples k c.args.symbol c.args.value others (vs ++ denotation_of x ∷ []) in
          let whole : sum_by h c.domain_in-elem-items.result.now
          ≡ open_in_tuples k c.args.symbol c.args.value c.args.types.now vs =
          ap (sum_by h) c.domain_in-elem-items.ensures
          ∙ sym (tuples_next k c.args.symbol c.args.value ty others vs)
          ∙ ap (λ (types : List ℕ). open_in_tuples k c.args.symbol c.args.value types vs)
          (sym c.in-Some.ensures.cases.0) in
          sum_first (sum_by h c.domain_in-elem-items.result.now)
          (open_in_tuples k c.args.symbol c.args.value c.args.types.now vs) whole,
      refl,
    )

pub loop-elem-preserved : goal.loop-elem-preserved
loop-elem-preserved t c =
    let s = c.args.s in
    let k = known_in s in
    let symbol = c.args.symbol in
    let others = c.in-Some.others.now in
    let x = c.elem-item.result in (
      λ vs at.
          let h = λ (y : Elem). open_in_tuples k symbol c.args.value others (vs ++ denotation_of y ∷ []) in
          let placed : place_view c.next-further.result ≡ spot_of s symbol (vs ++ denotation_of x ∷ []) =
          c.next-further.ensures ∙ ap (λ p. stepped s p (value_view c.elem_value.result)) at
          ∙ ap (λ d. stepped s (spot_of s symbol vs) d) c.elem_value.ensures
          ∙ spot_next s symbol vs (denotation_of x) in
          sum_next h c.domain_in-elem-items.result.now c.loop-elem.elem-index x x c.loop-elem.count
          c.plus-count.result c.tuples.result (open_in_tuples k symbol c.args.value c.args.types.now vs)
          c.loop-elem-test.true c.elem-item.is c.plus-count.ensures
          (c.tuples.ensures (vs ++ denotation_of x ∷ []) placed) (c.loop-elem.invariant.0 vs at),
      stays c.plus-count.result (c.loop-elem.count + c.tuples.result) c.plus-count.ensures,
    )
