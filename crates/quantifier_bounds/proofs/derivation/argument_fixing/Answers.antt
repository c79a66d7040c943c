use Rattle.std.proofs.Common.{◌≡◌, ◌∙◌, Some, slice_get, map, sym, ap}
use Rattle.kb_logic.specs.Views.{rule_view, term_view}
use Rattle.partial_structures.specs.KnownAtoms.{atom_of}
use Rattle.quantifier_bounds.proofs.Fixed.{argument_fixes, slice_map}
use Rattle.quantifier_bounds.proofs.Values.{get_here}
use Rattle.quantifier_bounds.proofs.derivation.argument_fixing.Goals as goal

pub returns-then-is_variable : goal.returns-then-is_variable
returns-then-is_variable c =
    let r = rule_view c.args.asked.rule.now in
    let a = atom_of c.args.asked.atom.now in
    let terms = c.as_slice-terms.result.now in
    let elems = c.as_slice-elems.result.now in
    let at = c.loop-at.at in
    let t = c.index-terms-at.result in
    let x = c.index-elems-at.result in
    let term : slice_get terms at ≡ Some t = get_here terms at t c.loop-at-test.true
    ∙ ap Some (sym c.index-terms-at.is) in
    let elem : slice_get elems at ≡ Some x = get_here elems at x c.if-at-elems.false
    ∙ ap Some (sym c.index-elems-at.is) in
    argument_fixes r a c.args.n x at
    (ap (λ ts. slice_get (map term_view ts) at) (sym c.as_slice-terms.ensures) ∙ slice_map term_view terms at t term
    ∙ ap Some (c.is_variable.ensures c.if-is_variable.true))
    (ap (λ xs. slice_get xs at) (sym c.as_slice-elems.ensures) ∙ elem)
