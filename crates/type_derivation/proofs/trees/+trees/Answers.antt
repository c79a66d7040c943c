use Rattle.std.proofs.Common.{◌≡◌, ◌∙◌, ◌++◌, ◌∷◌, [], ◌+◌, arith, rules, ap, append_assoc, map, drop, Bool}
use Rattle.std.proofs.lemmas.Grind.{common_steps}
use Rattle.kb_logic.specs.Views as view
use Rattle.stage_definitions.specs.NamedTrees as named_tree
use Rattle.stage_definitions.specs.NamedViews.{formula_view, signed_view, term_view}
use Rattle.stage_definitions.specs.declared.named.NamedFormula.{the_lemmas}
use Rattle.kb_logic.specs.declared.syntax.Formula.{the_lemmas as tree_lemmas}
use Rattle.type_derivation.proofs.TreeSteps.{next_item, no_item, formulas_next, formulas_left, formulas_begun}
use Rattle.type_derivation.proofs.TreeSteps.{formulas_built, terms_next, terms_left, terms_begun, terms_built}
use Rattle.type_derivation.proofs.TreeSteps.{summands_next, summands_left, summands_begun, summands_built}
use Rattle.type_derivation.proofs.trees.+trees.Goals as goal

pub formulas-loop-operand-preserved : goal.formulas-loop-operand-preserved
formulas-loop-operand-preserved t c =
    let next = next_item formula_view c.args.named.now c.loop-operand.operand-index c.operand-item.result
    c.loop-operand-test.true c.operand-item.is in
    let pushed : map view.formula_view c.push.new.self.items ≡ map view.formula_view c.loop-operand.operands.items
    ++ view.formula_view c.in_ok-formula.field-0 ∷ [] = grind (arith, common_steps) in
    record {
      trees = formulas_next c.loop-operand.types c.formula.new.types
          (map formula_view (drop c.loop-operand.operand-index c.args.named.now)) (formula_view c.operand-item.result)
          (map formula_view (drop (c.loop-operand.operand-index + 1) c.args.named.now))
          (map view.formula_view c.loop-operand.operands.items) (map view.formula_view c.push.new.self.items)
          (view.formula_view c.in_ok-formula.field-0) _ next c.loop-operand.invariant.trees c.in_ok-formula.ensures.tree
          c.in_ok-formula.ensures.types pushed;
      types = formulas_left c.loop-operand.types c.formula.new.types
          (map formula_view (drop c.loop-operand.operand-index c.args.named.now)) (formula_view c.operand-item.result)
          (map formula_view (drop (c.loop-operand.operand-index + 1) c.args.named.now)) _ next
          c.loop-operand.invariant.types c.in_ok-formula.ensures.types;
      places = formulas_begun c.loop-operand.places.items c.formula.new.places.items
          (map formula_view (drop c.loop-operand.operand-index c.args.named.now)) (formula_view c.operand-item.result)
          (map formula_view (drop (c.loop-operand.operand-index + 1) c.args.named.now)) _ next
          c.loop-operand.invariant.places c.in_ok-formula.ensures.places;
    }

pub formulas-returns : goal.formulas-returns
formulas-returns t c =
    formulas_built c.loop-operand.types c.loop-operand.places.items
    (map formula_view (drop c.loop-operand.operand-index c.args.named.now))
    (map view.formula_view c.loop-operand.operands.items) _ _ _
    (ap (map formula_view) (no_item c.args.named.now c.loop-operand.operand-index c.loop-operand-test.false))
    c.loop-operand.invariant.trees c.loop-operand.invariant.types c.loop-operand.invariant.places

pub terms-loop-operand-preserved : goal.terms-loop-operand-preserved
terms-loop-operand-preserved t c =
    let next = next_item term_view c.args.named.now c.loop-operand.operand-index c.operand-item.result
    c.loop-operand-test.true c.operand-item.is in
    let pushed : map view.term_view c.push.new.self.items ≡ map view.term_view c.loop-operand.operands.items
    ++ view.term_view c.in_ok-term.field-0 ∷ [] = grind (arith, common_steps) in
    record {
      trees = terms_next c.loop-operand.types c.term.new.types (map term_view
          (drop c.loop-operand.operand-index c.args.named.now)) (term_view c.operand-item.result)
          (map term_view (drop (c.loop-operand.operand-index + 1) c.args.named.now))
          (map view.term_view c.loop-operand.operands.items) (map view.term_view c.push.new.self.items)
          (view.term_view c.in_ok-term.field-0) _ next c.loop-operand.invariant.trees c.in_ok-term.ensures.tree
          c.in_ok-term.ensures.types pushed;
      types = terms_left c.loop-operand.types c.term.new.types (map term_view
          (drop c.loop-operand.operand-index c.args.named.now)) (term_view c.operand-item.result)
          (map term_view (drop (c.loop-operand.operand-index + 1) c.args.named.now)) _ next
          c.loop-operand.invariant.types c.in_ok-term.ensures.types;
      places = terms_begun c.loop-operand.places.items c.term.new.places.items
          (map term_view (drop c.loop-operand.operand-index c.args.named.now)) (term_view c.operand-item.result)
          (map term_view (drop (c.loop-operand.operand-index + 1) c.args.named.now)) _ next
          c.loop-operand.invariant.places c.in_ok-term.ensures.places;
    }

pub terms-returns : goal.terms-returns
terms-returns t c =
    terms_built c.loop-operand.types c.loop-operand.places.items
    (map term_view (drop c.loop-operand.operand-index c.args.named.now))
    (map view.term_view c.loop-operand.operands.items) _ _ _
    (ap (map term_view) (no_item c.args.named.now c.loop-operand.operand-index c.loop-operand-test.false))
    c.loop-operand.invariant.trees c.loop-operand.invariant.types c.loop-operand.invariant.places

pub summands-loop-operand-preserved : goal.summands-loop-operand-preserved
summands-loop-operand-preserved t c =
    let seen : signed_view c.operand-item.result ≡ (c.operand-item.result.minus, term_view c.operand-item.result.term) =
    search (rules, the_lemmas) in
    let next : map signed_view (drop c.loop-operand.operand-index c.args.named.now) ≡ (
      c.operand-item.result.minus,
      term_view c.operand-item.result.term,
    ) ∷ map signed_view (drop (c.loop-operand.operand-index + 1)
    c.args.named.now) =
    next_item signed_view c.args.named.now c.loop-operand.operand-index c.operand-item.result c.loop-operand-test.true
    c.operand-item.is
    ∙ ap (λ (s : Bool × named_tree.NamedTerm). s ∷ map signed_view
    (drop (c.loop-operand.operand-index + 1) c.args.named.now)) seen in
    let pushed : map view.signed_view c.push.new.self.items ≡ map view.signed_view c.loop-operand.operands.items ++
    (c.operand-item.result.minus, view.term_view c.in_ok-term.term) ∷ [] = grind (arith, common_steps) in
    record {
      trees = summands_next c.loop-operand.types c.term.new.types
          (map signed_view (drop c.loop-operand.operand-index c.args.named.now)) (
            c.operand-item.result.minus,
            term_view c.operand-item.result.term,
          ) (map signed_view (drop (c.loop-operand.operand-index + 1)
          c.args.named.now)) (map view.signed_view c.loop-operand.operands.items)
          (map view.signed_view c.push.new.self.items) (view.term_view c.in_ok-term.term) _ next
          c.loop-operand.invariant.trees c.in_ok-term.ensures.tree c.in_ok-term.ensures.types pushed;
      types = summands_left c.loop-operand.types c.term.new.types
          (map signed_view (drop c.loop-operand.operand-index c.args.named.now)) (
            c.operand-item.result.minus,
            term_view c.operand-item.result.term,
          ) (map signed_view (drop (c.loop-operand.operand-index + 1)
          c.args.named.now)) _ next c.loop-operand.invariant.types c.in_ok-term.ensures.types;
      places = summands_begun c.loop-operand.places.items c.term.new.places.items
          (map signed_view (drop c.loop-operand.operand-index c.args.named.now)) (
            c.operand-item.result.minus,
            term_view c.operand-item.result.term,
          ) (map signed_view (drop (c.loop-operand.operand-index + 1)
          c.args.named.now)) _ next c.loop-operand.invariant.places c.in_ok-term.ensures.places;
    }

pub summands-returns : goal.summands-returns
summands-returns t c =
    summands_built c.loop-operand.types c.loop-operand.places.items
    (map signed_view (drop c.loop-operand.operand-index c.args.named.now))
    (map view.signed_view c.loop-operand.operands.items) _ _ _
    (ap (map signed_view) (no_item c.args.named.now c.loop-operand.operand-index c.loop-operand-test.false))
    c.loop-operand.invariant.trees c.loop-operand.invariant.types c.loop-operand.invariant.places

pub formula-returns-in-Truth : goal.formula-returns-in-Truth
formula-returns-in-Truth t c = search (rules, the_lemmas, tree_lemmas)

pub formula-returns-in_ok-bounds-in-All : goal.formula-returns-in_ok-bounds-in-All
formula-returns-in_ok-bounds-in-All t c = search (rules, the_lemmas, tree_lemmas)

pub formula-returns-in_ok-bounds-in-Any : goal.formula-returns-in_ok-bounds-in-Any
formula-returns-in_ok-bounds-in-Any t c = search (rules, the_lemmas, tree_lemmas)

pub formula-returns-in_ok-bounds-in-Number : goal.formula-returns-in_ok-bounds-in-Number
formula-returns-in_ok-bounds-in-Number t c = search (rules, the_lemmas, tree_lemmas)

pub formula-returns-in_ok-boxed-in-Iff : goal.formula-returns-in_ok-boxed-in-Iff
formula-returns-in_ok-boxed-in-Iff t c = search (rules, the_lemmas, tree_lemmas, append_assoc)

pub formula-returns-in_ok-boxed-in-Implies : goal.formula-returns-in_ok-boxed-in-Implies
formula-returns-in_ok-boxed-in-Implies t c = search (rules, the_lemmas, tree_lemmas, append_assoc)

pub formula-returns-in_ok-boxed-in-Not : goal.formula-returns-in_ok-boxed-in-Not
formula-returns-in_ok-boxed-in-Not t c = search (rules, the_lemmas, tree_lemmas)

pub formula-returns-in_ok-formulas-in-And : goal.formula-returns-in_ok-formulas-in-And
formula-returns-in_ok-formulas-in-And t c = search (rules, the_lemmas, tree_lemmas)

pub formula-returns-in_ok-formulas-in-Or : goal.formula-returns-in_ok-formulas-in-Or
formula-returns-in_ok-formulas-in-Or t c = search (rules, the_lemmas, tree_lemmas)

pub formula-returns-in_ok-right-in-Compare : goal.formula-returns-in_ok-right-in-Compare
formula-returns-in_ok-right-in-Compare t c = search (rules, the_lemmas, tree_lemmas, append_assoc)

pub formula-returns-in_ok-terms-in-Atom : goal.formula-returns-in_ok-terms-in-Atom
formula-returns-in_ok-terms-in-Atom t c = search (rules, the_lemmas, tree_lemmas)
