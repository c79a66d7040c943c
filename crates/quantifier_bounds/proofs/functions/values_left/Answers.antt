use Rattle.std.proofs.Common.{◌≡◌, ◌∙◌, sym, ap, drop, true}
use Rattle.kb_logic.specs.declared.elements.Elem.{Elem}
use Rattle.partial_structures.specs.KnownAtoms.{value_at}
use Rattle.bound_laws.specs.Closures.{opposes, value_atom}
use Rattle.quantifier_bounds.specs.declared.left.Left.TheVariants.{Many}
use Rattle.quantifier_bounds.proofs.Lones.{counts, many_stays}
use Rattle.quantifier_bounds.proofs.functions.values_left.Goals as goal

pub returns-then-are_many : goal.returns-then-are_many
returns-then-are_many c =
    let k = c.args.known.now in
    let xs = c.args.values.now in
    let at = c.loop-at.at in
    let many : c.loop-at.left ≡ Many = c.are_many.ensures c.if-are_many.true in
    let lost = λ (x : Elem). opposes true (value_at k (value_atom c.args.symbol c.args.args.now x)) in
    many ∙ sym (many_stays lost (drop at xs)) ∙ ap (λ l. counts lost l (drop at xs)) (sym many)
    ∙ c.loop-at.invariant.left
