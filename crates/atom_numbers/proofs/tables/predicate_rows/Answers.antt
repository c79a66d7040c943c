use Rattle.std.proofs.Common.{◌<◌, sym, ◌∙◌, subst}
use Rattle.lit_core.specs.Literals.{valuation}
use Rattle.kb_logic.specs.Structures.{tuples_of}
use Rattle.atom_numbers.proofs.TableFacts.{row-added, row-passed}
use Rattle.atom_numbers.proofs.tables.predicate_rows.Goals as goal

pub loop-place-preserved-then-not-is_true : goal.loop-place-preserved-then-not-is_true
loop-place-preserved-then-not-is_true c =
    let tuples = tuples_of c.args.domains.now c.args.types.now in
    c.loop-place.invariant
    ∙ sym (row-passed (valuation c.args.values.now) c.args.first c.loop-place.place tuples
    (subst (λ n. c.loop-place.place < n) c.requires.count c.loop-place-test.true)
    (sym c.is_true.ensures ∙ c.if-not-is_true.true))

pub loop-place-preserved : goal.loop-place-preserved
loop-place-preserved c =
    let tuples = tuples_of c.args.domains.now c.args.types.now in
    row-added (valuation c.args.values.now) c.args.first c.loop-place.place tuples c.in_ok-tuple_at.field-0
    c.loop-place.rows.items c.push.new.self.items
    (subst (λ n. c.loop-place.place < n) c.requires.count c.loop-place-test.true)
    c.in_ok-tuple_at.ensures (sym c.is_true.ensures ∙ c.if-not-is_true.false) c.loop-place.invariant
    c.in_ok-push.ensures.items
