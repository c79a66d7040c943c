use Rattle.std.proofs.Common.{◌≡◌, ◌<◌, ◌∷◌, ◌++◌, [], List, length, map, arith, rules, ap, refl, false, ◌∙◌}
use Rattle.std.proofs.lemmas.Grind.{common_steps, fold-append}
use Rattle.std.proofs.lemmas.Result.{IfOk-weaker}
use Rattle.std.proofs.Math.Seq.{take-append_seam}
use Rattle.grammar.specs.Trees as raw
use Rattle.grammar.specs.View as view
use Rattle.grammar.specs.declared.raw.RawApp.{the_lemmas}
use Rattle.grammar.specs.declared.raw.RawLink.{out-RawLink}
use Rattle.grammar.specs.declared.raw.RawOrTail.{out-RawOrTail}
use Rattle.grammar.specs.declared.raw.RawAndTail.{out-RawAndTail}
use Rattle.grammar.specs.declared.raw.RawSumTail.{out-RawSumTail}
use Rattle.grammar.specs.declared.raw.RawProductTail.{out-RawProductTail}
use Rattle.grammar.specs.declared.raw.RawTermsTail.{out-RawTermsTail}
use Rattle.grammar.specs.declared.raw.RawOr.{out-RawOr}
use Rattle.grammar.specs.declared.raw.RawAnd.{out-RawAnd}
use Rattle.grammar.specs.declared.raw.RawTermTree.{out-RawTermTree}
use Rattle.grammar.specs.declared.raw.RawProduct.{out-RawProduct}
use Rattle.grammar.specs.declared.raw.RawTerms.{out-RawTerms}
use Rattle.stage_definitions.specs.NamedTrees as tree
use Rattle.stage_definitions.specs.NamedViews.{formula_view, term_view, signed_view}
use Rattle.stage_definitions.specs.NamesStage.{name_noted}
use Rattle.stage_definitions.specs.Numbering.{grouped, named_links, named_formula, named_or, named_and, named_unary}
use Rattle.stage_definitions.specs.Numbering.{named_product, named_factor, named_term, is_minus}
use Rattle.stage_definitions.specs.Uses.{an_aggregate, inside, uses_in, uses_of_vars, vars_in}
use Rattle.stage_definitions.specs.declared.named.NamedFormula.{the_lemmas as named_lemmas}
use Rattle.formula_names.specs.Steps.{context_of, names_known}
use Rattle.formula_names.proofs.Chains.{uses_in_or-is, uses_in_and-is, uses_in_term-is, uses_in_product-is}
use Rattle.formula_names.proofs.Chains.{uses_in_terms-is, named_terms-is, named_links-is, uses_in_links-is}
use Rattle.formula_names.proofs.ChainEnds.{pushed, pushed_more, opened_noted, or_built, and_built, sum_built}
use Rattle.formula_names.proofs.ChainEnds.{product_built}
use Rattle.formula_names.proofs.Operands.{link_named, link_uses, disjunct_named, disjunct_uses, conjunct_named}
use Rattle.formula_names.proofs.Operands.{conjunct_uses, summand_named, summand_uses, factor_named, factor_uses}
use Rattle.formula_names.proofs.Operands.{argument_named, argument_uses}
use Rattle.formula_names.proofs.StepLaws.{both, chain, turn}
use Rattle.formula_names.proofs.resolver.Resolver.+resolve.Goals as goal

-- a list that counts none
nothing : {A : Type 0} (xs : List A) → length xs ≡ 0 → xs ≡ []
nothing [] e = refl
nothing (x ∷ xs) e = absurd (omega arith)

pub disjunction-returns : goal.disjunction-returns
disjunction-returns t c =
    let seen : view.or_view c.args.raw.now ≡ view.or_of (view.and_view (out-RawOr c.args.raw.now).first)
    (map view.or_tail_view (out-RawOr c.args.raw.now).more) = search (rules, the_lemmas) in
    let some : 0 < length (out-RawOr c.args.raw.now).more = grind (arith, common_steps) in
    let one : map formula_view c.push.new.self.items ≡ named_and (names_known c.args.self.now) c.args.self.now.scope
    (view.and_view (out-RawOr c.args.raw.now).first) ∷ [] = grind (arith, common_steps) in
    rw seen
    (chain c.args.self.now c.conjunction.new.self c.loop-tail.self disjunct_named disjunct_uses
    view.or_tail_view _ _ _ _ c.in_ok-first.ensures c.loop-tail.invariant c.loop-tail-test.false c.as_slice-more.ensures
    (λ built. rw c.any_of.ensures (or_built (names_known c.args.self.now) c.args.self.now.scope (view.and_view
    (out-RawOr c.args.raw.now).first) view.or_tail_view _ _ _ _ _ built one c.loop-tail-test.false
    c.as_slice-more.ensures some))
    (uses_in_or-is (context_of c.args.self.now) (view.and_view (out-RawOr c.args.raw.now).first) (map
    view.or_tail_view (out-RawOr c.args.raw.now).more)))

pub disjunction-returns-then-is_empty : goal.disjunction-returns-then-is_empty
disjunction-returns-then-is_empty t c =
    let seen : view.or_view c.args.raw.now ≡ view.or_of (view.and_view (out-RawOr c.args.raw.now).first)
    (map view.or_tail_view (out-RawOr c.args.raw.now).more) = search (rules, the_lemmas) in
    let count : length (out-RawOr c.args.raw.now).more ≡ 0 = grind (arith, common_steps) in
    let none : (out-RawOr c.args.raw.now).more ≡ [] = nothing _ count in
    rw (seen, none) c.in_ok-first.ensures

pub disjunction-loop-tail-preserved : goal.disjunction-loop-tail-preserved
disjunction-loop-tail-preserved t c =
    let seen : (view.or_tail_view c.tail-item.result).1 ≡ view.and_view (out-RawOrTail c.tail-item.result).operand =
    search (rules, the_lemmas) in
    let pushed : map formula_view c.push-in-loop-tail.new.self.items ≡ map formula_view c.loop-tail.operands.items ++
    formula_view c.in_ok-conjunction.field-0 ∷ [] =
    grind (arith, common_steps) in
    turn c.conjunction.new.self c.loop-tail.self c.conjunction-in-loop-tail.new.self disjunct_named disjunct_uses
    view.or_tail_view _ _ c.tail-item.result _ c.loop-tail.invariant c.in_ok-conjunction.ensures pushed
    c.loop-tail-test.true c.tail-item.is (rw seen c.in_ok-conjunction.ensures.tree) (rw seen refl)

pub conjunction-returns : goal.conjunction-returns
conjunction-returns t c =
    let seen : view.and_view c.args.raw.now ≡ view.and_of (view.unary_view (out-RawAnd c.args.raw.now).first)
    (map view.and_tail_view (out-RawAnd c.args.raw.now).more) = search (rules, the_lemmas) in
    let some : 0 < length (out-RawAnd c.args.raw.now).more = grind (arith, common_steps) in
    let one : map formula_view c.push.new.self.items ≡ named_unary (names_known c.args.self.now) c.args.self.now.scope
    (view.unary_view (out-RawAnd c.args.raw.now).first) ∷ [] = grind (arith, common_steps) in
    rw seen
    (chain c.args.self.now c.unary.new.self c.loop-tail.self conjunct_named conjunct_uses
    view.and_tail_view _ _ _ _ c.in_ok-first.ensures c.loop-tail.invariant c.loop-tail-test.false
    c.as_slice-more.ensures
    (λ built. rw c.all_of.ensures (and_built (names_known c.args.self.now) c.args.self.now.scope (view.unary_view
    (out-RawAnd c.args.raw.now).first) view.and_tail_view _ _ _ _ _ built one c.loop-tail-test.false
    c.as_slice-more.ensures some))
    (uses_in_and-is (context_of c.args.self.now) (view.unary_view (out-RawAnd c.args.raw.now).first) (map
    view.and_tail_view (out-RawAnd c.args.raw.now).more)))

pub conjunction-returns-then-is_empty : goal.conjunction-returns-then-is_empty
conjunction-returns-then-is_empty t c =
    let seen : view.and_view c.args.raw.now ≡ view.and_of (view.unary_view (out-RawAnd c.args.raw.now).first)
    (map view.and_tail_view (out-RawAnd c.args.raw.now).more) = search (rules, the_lemmas) in
    let count : length (out-RawAnd c.args.raw.now).more ≡ 0 = grind (arith, common_steps) in
    let none : (out-RawAnd c.args.raw.now).more ≡ [] = nothing _ count in
    rw (seen, none) c.in_ok-first.ensures

pub conjunction-loop-tail-preserved : goal.conjunction-loop-tail-preserved
conjunction-loop-tail-preserved t c =
    let seen : (view.and_tail_view c.tail-item.result).1 ≡ view.unary_view (out-RawAndTail c.tail-item.result).operand =
    search (rules, the_lemmas) in
    let pushed : map formula_view c.push-in-loop-tail.new.self.items ≡ map formula_view c.loop-tail.operands.items ++
    formula_view c.in_ok-unary.field-0 ∷ [] =
    grind (arith, common_steps) in
    turn c.unary.new.self c.loop-tail.self c.unary-in-loop-tail.new.self conjunct_named conjunct_uses
    view.and_tail_view _ _ c.tail-item.result _ c.loop-tail.invariant c.in_ok-unary.ensures pushed
    c.loop-tail-test.true c.tail-item.is (rw seen c.in_ok-unary.ensures.tree) (rw seen refl)

pub term-returns : goal.term-returns
term-returns t c =
    let seen : view.term_view c.args.raw.now ≡ view.term_of (view.product_view (out-RawTermTree c.args.raw.now).first)
    (map view.sum_tail_view (out-RawTermTree c.args.raw.now).more) = search (rules, the_lemmas) in
    let some : 0 < length (out-RawTermTree c.args.raw.now).more = grind (arith, common_steps) in
    let one : map signed_view c.push.new.self.items ≡ (
      false,
      named_product (names_known c.args.self.now)
          c.args.self.now.scope (view.product_view (out-RawTermTree c.args.raw.now).first),
    ) ∷ [] = grind (arith, common_steps)
    in
    let at : c.place_of-place.result ≡ tree.place_of (named_product (names_known c.args.self.now) c.args.self.now.scope
    (view.product_view (out-RawTermTree c.args.raw.now).first)) = grind (arith, common_steps) in
    rw seen
    (chain c.args.self.now c.product.new.self c.loop-tail.self summand_named
    (summand_uses c.operands_stand-inner.result) view.sum_tail_view _ _ _ _ c.in_ok-first.ensures c.loop-tail.invariant c.loop-tail-test.false
    c.as_slice-more.ensures
    (λ built. rw c.summed.ensures (sum_built (names_known c.args.self.now) c.args.self.now.scope (view.product_view
    (out-RawTermTree c.args.raw.now).first) view.sum_tail_view c.place_of-place.result _ _ _ _ _ built one
    c.loop-tail-test.false
    c.as_slice-more.ensures some at))
    (uses_in_term-is c.args.standing c.operands_stand-inner.result (context_of c.args.self.now)
    (view.product_view (out-RawTermTree c.args.raw.now).first) (map view.sum_tail_view (out-RawTermTree
    c.args.raw.now).more) (rw seen at c.operands_stand-inner.ensures)))

pub term-returns-then-is_empty : goal.term-returns-then-is_empty
term-returns-then-is_empty t c =
    let seen : view.term_view c.args.raw.now ≡ view.term_of (view.product_view (out-RawTermTree c.args.raw.now).first)
    (map view.sum_tail_view (out-RawTermTree c.args.raw.now).more) = search (rules, the_lemmas) in
    let count : length (out-RawTermTree c.args.raw.now).more ≡ 0 = grind (arith, common_steps) in
    let none : (out-RawTermTree c.args.raw.now).more ≡ [] = nothing _ count in
    let same : c.operands_stand-inner.result ≡ c.args.standing = rw (seen, none) at c.operands_stand-inner.ensures in
    rw (seen, none) (rw same at c.in_ok-first.ensures)

pub term-loop-tail-preserved : goal.term-loop-tail-preserved
term-loop-tail-preserved t c =
    let seen : (view.sum_tail_view c.tail-item.result).2 ≡ view.product_view (out-RawSumTail c.tail-item.result).operand
    = search (rules, the_lemmas) in
    let shown : (view.sum_tail_view c.tail-item.result).0 ≡ (out-RawSumTail c.tail-item.result).sign = search (
      rules,
      the_lemmas,
    ) in
    let sign : c.is_minus.result ≡ is_minus (view.sum_tail_view c.tail-item.result).0 = rw shown c.is_minus.ensures in
    let pushed : map signed_view c.push-in-loop-tail.new.self.items ≡ map signed_view c.loop-tail.operands.items ++
    (c.is_minus.result, term_view c.in_ok-term.term) ∷ [] =
    grind (arith, common_steps) in
    turn c.product.new.self c.loop-tail.self c.product-in-loop-tail.new.self summand_named
    (summand_uses c.operands_stand-inner.result) view.sum_tail_view _ _ c.tail-item.result _ c.loop-tail.invariant c.in_ok-term.ensures pushed
    c.loop-tail-test.true c.tail-item.is (rw (seen, sign) (ap (λ (t : tree.NamedTerm). (
      is_minus (view.sum_tail_view
          c.tail-item.result).0,
      t,
    )) c.in_ok-term.ensures.tree)) (rw seen refl)

pub product-returns : goal.product-returns
product-returns t c =
    let seen : view.product_view c.args.raw.now ≡ view.product_of (view.factor_view (out-RawProduct
    c.args.raw.now).first)
    (map view.product_tail_view (out-RawProduct c.args.raw.now).more) = search (rules, the_lemmas) in
    let some : 0 < length (out-RawProduct c.args.raw.now).more = grind (arith, common_steps) in
    let one : map term_view c.push.new.self.items ≡ named_factor (names_known c.args.self.now) c.args.self.now.scope
    (view.factor_view (out-RawProduct c.args.raw.now).first) ∷ [] = grind (arith, common_steps) in
    let at : c.place_of-place.result ≡ tree.place_of (named_factor (names_known c.args.self.now) c.args.self.now.scope
    (view.factor_view (out-RawProduct c.args.raw.now).first)) = grind (arith, common_steps) in
    rw seen
    (chain c.args.self.now c.factor.new.self c.loop-tail.self factor_named
    (factor_uses c.factors_stand-inner.result) view.product_tail_view _ _ _ _ c.in_ok-first.ensures c.loop-tail.invariant c.loop-tail-test.false
    c.as_slice-more.ensures
    (λ built. rw c.multiplied.ensures (product_built (names_known c.args.self.now) c.args.self.now.scope
    (view.factor_view (out-RawProduct c.args.raw.now).first) view.product_tail_view c.place_of-place.result _ _ _ _ _
    built one c.loop-tail-test.false
    c.as_slice-more.ensures some at))
    (uses_in_product-is c.args.standing c.factors_stand-inner.result (context_of c.args.self.now)
    (view.factor_view (out-RawProduct c.args.raw.now).first) (map view.product_tail_view (out-RawProduct
    c.args.raw.now).more) (rw seen at c.factors_stand-inner.ensures)))

pub product-returns-then-is_empty : goal.product-returns-then-is_empty
product-returns-then-is_empty t c =
    let seen : view.product_view c.args.raw.now ≡ view.product_of (view.factor_view (out-RawProduct
    c.args.raw.now).first)
    (map view.product_tail_view (out-RawProduct c.args.raw.now).more) = search (rules, the_lemmas) in
    let count : length (out-RawProduct c.args.raw.now).more ≡ 0 = grind (arith, common_steps) in
    let none : (out-RawProduct c.args.raw.now).more ≡ [] = nothing _ count in
    let same : c.factors_stand-inner.result ≡ c.args.standing = rw (seen, none) at c.factors_stand-inner.ensures in
    rw (seen, none) (rw same at c.in_ok-first.ensures)

pub product-loop-tail-preserved : goal.product-loop-tail-preserved
product-loop-tail-preserved t c =
    let seen : (view.product_tail_view c.tail-item.result).1 ≡ view.factor_view (out-RawProductTail
    c.tail-item.result).operand = search (rules, the_lemmas) in
    let pushed : map term_view c.push-in-loop-tail.new.self.items ≡ map term_view c.loop-tail.operands.items ++
    term_view c.in_ok-factor.field-0 ∷ [] =
    grind (arith, common_steps) in
    turn c.factor.new.self c.loop-tail.self c.factor-in-loop-tail.new.self factor_named
    (factor_uses c.factors_stand-inner.result) view.product_tail_view _ _ c.tail-item.result _ c.loop-tail.invariant c.in_ok-factor.ensures pushed
    c.loop-tail-test.true c.tail-item.is (rw seen c.in_ok-factor.ensures.tree) (rw seen refl)

pub arguments-returns : goal.arguments-returns
arguments-returns t c =
    let seen : view.app_view c.args.raw.now ≡ raw.apply (view.name_view c.in-Apply.field-0) c.in-Apply.field-1
    (view.terms_view c.in-Apply.terms) c.in-Apply.field-3 = rw c.in-Apply.is (search (rules, the_lemmas)) in
    let terms : view.terms_view c.in-Apply.terms ≡ view.terms_of (view.term_view (out-RawTerms
    c.get-terms.result.now).first)
    (map view.terms_tail_view (out-RawTerms c.get-terms.result.now).more) = rw (← c.get-terms.ensures) (search (
      rules,
      the_lemmas,
    )) in
    let one : map term_view c.push.new.self.items ≡ named_term (names_known c.args.self.now) c.args.self.now.scope
    (view.term_view (out-RawTerms c.get-terms.result.now).first) ∷ [] =
    grind (arith, common_steps) in
    rw (seen, terms)
    (chain c.args.self.now c.term.new.self c.loop-tail.self argument_named argument_uses
    view.terms_tail_view _ _ _ _
    c.in_ok-term.ensures c.loop-tail.invariant c.loop-tail-test.false c.as_slice-more.ensures
    (λ built. rw named_terms-is (ap tree.terms_of (pushed (argument_named (names_known c.args.self.now)
    c.args.self.now.scope)
    view.terms_tail_view _ _ _ _ _ _ built one c.loop-tail-test.false c.as_slice-more.ensures)))
    (uses_in_terms-is (context_of c.args.self.now) (view.term_view (out-RawTerms c.get-terms.result.now).first) (map
    view.terms_tail_view (out-RawTerms c.get-terms.result.now).more)))

pub arguments-loop-tail-preserved : goal.arguments-loop-tail-preserved
arguments-loop-tail-preserved t c =
    let seen : (view.terms_tail_view c.tail-item.result).1 ≡ view.term_view (out-RawTermsTail
    c.tail-item.result).operand = search (rules, the_lemmas) in
    let pushed : map term_view c.push-in-loop-tail.new.self.items ≡ map term_view c.loop-tail.args.items ++ term_view
    c.in_ok-term-2.field-0 ∷ [] =
    grind (arith, common_steps) in
    turn c.term.new.self c.loop-tail.self c.term-in-loop-tail.new.self argument_named argument_uses
    view.terms_tail_view _ _ c.tail-item.result _ c.loop-tail.invariant c.in_ok-term-2.ensures pushed
    c.loop-tail-test.true c.tail-item.is (rw seen c.in_ok-term-2.ensures.tree) (rw seen refl)

pub add_links-returns : goal.add_links-returns
add_links-returns t c =
    let seen : view.formula_view c.args.raw.now ≡ view.formula_of c.in-Linked.field-0 (view.or_view c.in-Linked.field-1)
    (view.link_view c.in-Linked.next ∷ map view.link_view c.in-Linked.links) =
    rw c.in-Linked.is (search (rules, the_lemmas)) in
    let next : (view.link_view c.in-Linked.next).1 ≡ view.or_view (out-RawLink c.in-Linked.next).operand =
    search (rules, the_lemmas) in
    let one : map formula_view c.push.new.self.items ≡ map formula_view c.args.more.now.items ++ named_or (names_known
    c.args.self.now) c.args.self.now.scope
    (view.or_view (out-RawLink c.in-Linked.next).operand) ∷ [] = grind (arith, common_steps) in
    rw (seen, named_links-is, uses_in_links-is, next)
    (chain c.args.self.now c.disjunction.new.self c.loop-link.self link_named link_uses
    view.link_view _ _ _ _
    c.in_ok-disjunction.ensures c.loop-link.invariant c.loop-link-test.false c.as_slice-links.ensures
    (λ built. pushed_more (link_named (names_known c.args.self.now) c.args.self.now.scope) view.link_view _ _ _ _ _ _ _
    built one
    c.loop-link-test.false c.as_slice-links.ensures) refl)

pub add_links-loop-link-preserved : goal.add_links-loop-link-preserved
add_links-loop-link-preserved t c =
    let seen : (view.link_view c.link-item.result).1 ≡ view.or_view (out-RawLink c.link-item.result).operand = search
    (rules, the_lemmas) in
    let pushed : map formula_view c.push-in-loop-link.new.self.items ≡ map formula_view c.loop-link.more.items ++
    formula_view c.in_ok-disjunction-2.field-0 ∷ [] =
    grind (arith, common_steps) in
    turn c.disjunction.new.self c.loop-link.self c.disjunction-in-loop-link.new.self link_named link_uses
    view.link_view _ _ c.link-item.result _ c.loop-link.invariant c.in_ok-disjunction-2.ensures pushed
    c.loop-link-test.true c.link-item.is (rw seen c.in_ok-disjunction-2.ensures.tree) (rw seen refl)

pub formula-returns-in_ok-add_links-in-Linked : goal.formula-returns-in_ok-add_links-in-Linked
formula-returns-in_ok-add_links-in-Linked t c =
    let first = c.in_ok-first-in-Linked.ensures in
    let links = c.in_ok-add_links-in-Linked.ensures in
    let seen : view.formula_view c.args.raw.now ≡ view.formula_of c.in-Linked.arrow (view.or_view c.in-Linked.first)
    (view.link_view c.in-Linked.field-2 ∷ map view.link_view c.in-Linked.field-3) =
    rw c.in-Linked.is (search (rules, the_lemmas)) in
    let none : map formula_view c.new-more.result.items ≡ [] = grind (arith, common_steps) in
    let all : map formula_view c.add_links.new.more.items ≡ named_links (names_known c.args.self.now)
    c.args.self.now.scope
    (view.links_of (view.link_view c.in-Linked.field-2).1 (map view.link_view c.in-Linked.field-3)) = rw (
      seen,
      none,
      first.scope,
      first.known,
    ) at links.tree in
    let whole : grouped c.in-Linked.arrow (formula_view c.in_ok-first-in-Linked.first)
    (map formula_view c.add_links.new.more.items) ≡ named_formula (names_known c.args.self.now) c.args.self.now.scope
    (view.formula_of c.in-Linked.arrow
    (view.or_view c.in-Linked.first) (view.link_view c.in-Linked.field-2 ∷ map view.link_view c.in-Linked.field-3)) =
    rw (all, first.tree) refl in
    IfOk-weaker c.grouped.result _ _ (λ f is. rw seen
    (both c.args.self.now c.disjunction-in-Linked.new.self c.add_links.new.self first links
    (is ∙ whole) first.scope (rw (seen, first.scope, first.known) refl))) c.grouped.ensures

pub opened-returns-clause-condition : goal.opened-returns-clause-condition
opened-returns-clause-condition t c =
    let vars = c.in_ok-vars.ensures in
    let condition = c.in_ok-condition.ensures in
    record {
      tree = rw (vars.known, vars.scope, c.get.ensures) at condition.tree;
      known = condition.known ∙ vars.known;
      scope = rw (vars.scope, c.get.ensures) at condition.scope;
      noted = opened_noted (name_noted (names_known c.args.self.now)) c.args.self.now.earliest.first
          c.note_aggregate.new.earliest.first
          c.binders.new.self.earliest.first c.formula.new.self.earliest.first (an_aggregate c.args.standing c.args.kind
          c.args.opening.now.place)
          (uses_of_vars [] (vars_in (view.vars_view c.args.opening.now.vars)))
          (uses_in (inside (context_of c.args.self.now) (view.vars_view c.args.opening.now.vars))
          (view.formula_view c.args.condition.now)) (c.note_aggregate.ensures (names_known c.args.self.now))
          (rw c.get.ensures at vars.noted) (rw (vars.known, vars.scope, c.get.ensures) at condition.noted);
    }

pub formula-returns-in-Alone : goal.formula-returns-in-Alone
formula-returns-in-Alone t c = search (rules, the_lemmas, named_lemmas, fold-append)

pub unary-returns-in-Prim : goal.unary-returns-in-Prim
unary-returns-in-Prim t c = search (rules, the_lemmas, named_lemmas, fold-append)

pub unary-returns-in_ok-inner-in-Not : goal.unary-returns-in_ok-inner-in-Not
unary-returns-in_ok-inner-in-Not t c = search (rules, the_lemmas, named_lemmas, fold-append)

pub unary-returns-in_ok-inner-in-Every : goal.unary-returns-in_ok-inner-in-Every
unary-returns-in_ok-inner-in-Every t c = search (rules, the_lemmas, named_lemmas, fold-append, take-append_seam)

pub unary-returns-in_ok-inner-in-Some : goal.unary-returns-in_ok-inner-in-Some
unary-returns-in_ok-inner-in-Some t c = search (rules, the_lemmas, named_lemmas, fold-append, take-append_seam)

pub prim-returns-in-Group : goal.prim-returns-in-Group
prim-returns-in-Group t c = search (rules, the_lemmas, named_lemmas, fold-append)

pub prim-returns-in-Truth : goal.prim-returns-in-Truth
prim-returns-in-Truth t c = search (rules, the_lemmas, named_lemmas, fold-append)

pub prim-returns-in_ok-args-in-Atom : goal.prim-returns-in_ok-args-in-Atom
prim-returns-in_ok-args-in-Atom t c = search (rules, the_lemmas, named_lemmas, fold-append)

pub prim-returns-in_ok-right-in-Compare : goal.prim-returns-in_ok-right-in-Compare
prim-returns-in_ok-right-in-Compare t c = search (rules, the_lemmas, named_lemmas, fold-append)

pub factor-returns-in-Integer : goal.factor-returns-in-Integer
factor-returns-in-Integer t c = search (rules, the_lemmas, named_lemmas, fold-append)

pub factor-returns-in_ok-args-in-Value : goal.factor-returns-in_ok-args-in-Value
factor-returns-in_ok-args-in-Value t c = search (rules, the_lemmas, named_lemmas, fold-append)

pub factor-returns-in_ok-inner-in-Brackets : goal.factor-returns-in_ok-inner-in-Brackets
factor-returns-in_ok-inner-in-Brackets t c = search (rules, the_lemmas, named_lemmas, fold-append)

pub factor-returns-in_ok-inner-in-Negative : goal.factor-returns-in_ok-inner-in-Negative
factor-returns-in_ok-inner-in-Negative t c = search (rules, the_lemmas, named_lemmas, fold-append)

pub factor-returns-in_ok-vars-in-Count : goal.factor-returns-in_ok-vars-in-Count
factor-returns-in_ok-vars-in-Count t c = search (rules, the_lemmas, named_lemmas, fold-append, take-append_seam)

pub factor-returns-in_ok-weight-in-Aggregate : goal.factor-returns-in_ok-weight-in-Aggregate
factor-returns-in_ok-weight-in-Aggregate t c = search (rules, the_lemmas, named_lemmas, fold-append, take-append_seam)
