use Rattle.std.proofs.Common.{◌++◌, ◌∷◌, [], ap, ◌∙◌}
use Rattle.kb_logic.specs.declared.elements.Elem.{Elem}
use Rattle.atom_numbers.proofs.PlaceFacts.{domain-there, rest-count, next-there, digit-below, left-fits, digit-added}
use Rattle.atom_numbers.proofs.places.tuple_at.Goals as goal

pub nonzero_div-each : goal.nonzero_div-each
nonzero_div-each c =
    domain-there c.args.domains.now c.args.types.now c.loop-ty.ty-index c.loop-ty.each c.loop-ty.left
    c.loop-ty-test.true c.loop-ty.invariant.0 c.loop-ty.invariant.1 c.domain_in-domain.result.now
    c.domain_in-domain.ensures

pub nonzero_div-left : goal.nonzero_div-left
nonzero_div-left c =
    next-there c.args.domains.now c.args.types.now c.loop-ty.ty-index c.loop-ty.each c.loop-ty.left
    c.loop-ty-test.true c.loop-ty.invariant.0 c.loop-ty.invariant.1 c.domain_in-domain.result.now
    c.domain_in-domain.ensures

pub bounds-domain-left : goal.bounds-domain-left
bounds-domain-left c =
    digit-below c.args.domains.now c.args.types.now c.loop-ty.ty-index c.loop-ty.each c.loop-ty.left
    c.loop-ty-test.true c.loop-ty.invariant.0 c.loop-ty.invariant.1 c.domain_in-domain.result.now
    c.domain_in-domain.ensures

pub nonzero_rem-left : goal.nonzero_rem-left
nonzero_rem-left c =
    next-there c.args.domains.now c.args.types.now c.loop-ty.ty-index c.loop-ty.each c.loop-ty.left
    c.loop-ty-test.true c.loop-ty.invariant.0 c.loop-ty.invariant.1 c.domain_in-domain.result.now
    c.domain_in-domain.ensures

pub loop-ty-preserved : goal.loop-ty-preserved
loop-ty-preserved c = (
  rest-count c.args.domains.now c.args.types.now c.loop-ty.ty-index c.loop-ty.each c.loop-ty.left
      c.loop-ty-test.true c.loop-ty.invariant.0 c.loop-ty.invariant.1 c.domain_in-domain.result.now
      c.domain_in-domain.ensures,
  left-fits c.args.domains.now c.args.types.now c.loop-ty.ty-index c.loop-ty.each c.loop-ty.left
      c.loop-ty-test.true c.loop-ty.invariant.0 c.loop-ty.invariant.1 c.domain_in-domain.result.now
      c.domain_in-domain.ensures,
  digit-added c.args.domains.now c.args.types.now c.loop-ty.ty-index c.loop-ty.each c.loop-ty.left
      c.loop-ty-test.true c.loop-ty.invariant.0 c.loop-ty.invariant.1 c.domain_in-domain.result.now
      c.domain_in-domain.ensures c.loop-ty.tuple c.push.new.self _ c.index-domain-left.result
      c.index-domain-left.is c.loop-ty.invariant.2
      (c.in_ok-push.ensures.ok ∙ ap (λ (x : Elem). c.loop-ty.tuple ++ x ∷ []) c.in_ok-copy.ensures),
)
