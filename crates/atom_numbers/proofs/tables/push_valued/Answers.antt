use Rattle.std.proofs.Common.{◌++◌, ◌∷◌, [], List, map, sym, ap, ◌∙◌}
use Rattle.lit_core.specs.Literals.{valuation}
use Rattle.kb_logic.specs.declared.elements.Elem.{Elem}
use Rattle.atom_numbers.proofs.TableFacts.{push-true, push-false}
use Rattle.atom_numbers.proofs.tables.push_valued.Goals as goal

pub loop-k-preserved-then-not-is_true : goal.loop-k-preserved-then-not-is_true
loop-k-preserved-then-not-is_true c =
    c.loop-k.invariant ∙ ap (λ (xs : List Elem). c.args.rows.now.items ++ map (λ x. c.args.front.now ++ x ∷ []) xs)
    (sym (push-false (valuation c.args.values.now) c.args.first c.loop-k.k c.args.domain.now c.loop-k-test.true
    (sym c.is_true.ensures ∙ c.if-not-is_true.true)))

pub loop-k-preserved : goal.loop-k-preserved
loop-k-preserved c =
    push-true (valuation c.args.values.now) c.args.first c.loop-k.k c.args.front.now c.args.domain.now
    c.index-domain-k.result c.args.rows.now.items c.loop-k.rows.items c.push-in-loop-k.new.self.items
    c.loop-k-test.true c.index-domain-k.is
    (sym c.is_true.ensures ∙ c.if-not-is_true.false) c.loop-k.invariant
    (c.in_ok-push-2.ensures.items ∙ ap (λ (r : List Elem). c.loop-k.rows.items ++ r ∷ []) (c.in_ok-push.ensures.ok
    ∙ ap (λ (r : List Elem). r ++ c.in_ok-copy.field-0 ∷ []) c.in_ok-row.ensures
    ∙ ap (λ (x : Elem). c.args.front.now ++ x ∷ []) c.in_ok-copy.ensures))
