use Rattle.std.proofs.Common.{◌≡◌, ◌∙◌, ◌∷◌, ◌++◌, [], arith, map, refl, rules, sym}
use Rattle.std.proofs.lemmas.Grind.{common_steps}
use Rattle.grammar.specs.Trees as raw
use Rattle.grammar.specs.View as view
use Rattle.grammar.specs.declared.raw.RawApp.{the_lemmas}
use Rattle.grammar.specs.declared.raw.RawTerms.{out-RawTerms}
use Rattle.grammar.specs.declared.raw.RawTermsTail.{out-RawTermsTail}
use Rattle.stage_definitions.specs.NamedViews.{term_view}
use Rattle.stage_definitions.specs.Numbering.{named_term}
use Rattle.formula_names.specs.Steps.{context_of, names_known}
use Rattle.formula_names.proofs.ChainEnds.{pushed}
use Rattle.formula_names.proofs.Operands.{argument_named}
use Rattle.formula_names.proofs.StepLaws.{chain, turn}
use Rattle.rule_names.proofs.HeadLaws.{arguments_named, arguments_used, tail_uses}
use Rattle.rule_names.proofs.heads.arguments.Goals as goal

pub returns : goal.returns
returns c =
    let seen : view.app_view c.args.raw.now ≡ raw.apply (view.name_view c.in-Apply.field-0) c.in-Apply.field-1
    (view.terms_view c.in-Apply.terms) c.in-Apply.field-3 = rw c.in-Apply.is (search (rules, the_lemmas)) in
    let terms : view.terms_view c.in-Apply.terms ≡ view.terms_of (view.term_view (out-RawTerms
    c.get-terms.result.now).first)
    (map view.terms_tail_view (out-RawTerms c.get-terms.result.now).more) =
    rw (← c.get-terms.ensures) (search (rules, the_lemmas)) in
    let one : map term_view c.push.new.self.items ≡ named_term (names_known c.args.walk.now) c.args.walk.now.scope
    (view.term_view (out-RawTerms c.get-terms.result.now).first) ∷ [] =
    grind (arith, common_steps) in
    rw (seen, terms)
    (chain c.args.walk.now c.argument.new.walk c.loop-tail.walk argument_named tail_uses view.terms_tail_view _ _ _ _
    c.in_ok-argument.ensures c.loop-tail.invariant c.loop-tail-test.false c.as_slice-more.ensures
    (λ built. pushed (argument_named (names_known c.args.walk.now) c.args.walk.now.scope)
    view.terms_tail_view _ _ _ _ _ _ built one c.loop-tail-test.false c.as_slice-more.ensures
    ∙ sym (arguments_named (names_known c.args.walk.now) c.args.walk.now.scope (view.name_view c.in-Apply.field-0)
    c.in-Apply.field-1 (view.term_view (out-RawTerms c.get-terms.result.now).first)
    (map view.terms_tail_view (out-RawTerms c.get-terms.result.now).more) c.in-Apply.field-3))
    (arguments_used (context_of c.args.walk.now) (view.name_view c.in-Apply.field-0) c.in-Apply.field-1
    (view.term_view (out-RawTerms c.get-terms.result.now).first)
    (map view.terms_tail_view (out-RawTerms c.get-terms.result.now).more) c.in-Apply.field-3))

pub loop-tail-preserved : goal.loop-tail-preserved
loop-tail-preserved c =
    let seen : (view.terms_tail_view c.tail-item.result).1 ≡ view.term_view (out-RawTermsTail
    c.tail-item.result).operand = search (rules, the_lemmas) in
    let pushed : map term_view c.push-in-loop-tail.new.self.items ≡ map term_view c.loop-tail.args.items ++ term_view
    c.in_ok-argument-2.field-0 ∷ [] =
    grind (arith, common_steps) in
    turn c.argument.new.walk c.loop-tail.walk c.argument-in-loop-tail.new.walk argument_named tail_uses
    view.terms_tail_view _ _ c.tail-item.result _ c.loop-tail.invariant c.in_ok-argument-2.ensures pushed
    c.loop-tail-test.true c.tail-item.is (rw seen c.in_ok-argument-2.ensures.tree) (rw seen refl)
