use Rattle.std.proofs.Common.{◌++◌, ◌<◌, List, ℕ, length, map, codes, arith, rules, append_assoc, flat_map, ap, ◌∙◌}
use Rattle.std.proofs.lemmas.Result.{on_ok_weaker}
use Rattle.kb_text.specs.Tokens.{unsupported_call_words}
use Rattle.kb_logic.specs.declared.syntax.Signed.{Signed}
use Rattle.kb_logic.specs.Trees.{terms_of}
use Rattle.kb_logic.specs.Views.{formula_view, term_view, signed_view}
use Rattle.printed_texts.specs.Formulas.{add_text}
use Rattle.printed_texts.specs.FormulaTexts.{opened_text, spaced_text, minus_text}
use Rattle.printed_texts.specs.FormulaPrints.{formula_text, term_text, terms_text, arguments_text}
use Rattle.fo_printer.proofs.Later.{formulas_later, terms_later, summands_later, some_arguments, listed, three}
use Rattle.fo_printer.proofs.formulas.+printing.Goals as goal

pub push_formulas-returns-clause-text : goal.push_formulas-returns-clause-text
push_formulas-returns-clause-text t c =
    let v = c.args.vocab.now in
    let scope = c.args.scope.now.items in
    let sep = c.args.sep.now in
    rw (c.in-Some.ensures.cases.0, formulas_later v scope sep c.in-Some.others.now)
    (listed (λ f. sep ++ formula_text v scope (formula_view f)) c.in-Some.others.now c.loop-formula.formula-index
    c.args.out.now.items c.push_formula.new.out.items c.loop-formula.out.items
    (formula_text v scope (formula_view c.in-Some.first.now)) (omega arith) c.in_ok-push_formula.ensures.text
    c.loop-formula.invariant.text)

pub push_terms-returns-clause-text : goal.push_terms-returns-clause-text
push_terms-returns-clause-text t c =
    let v = c.args.vocab.now in
    let scope = c.args.scope.now.items in
    let sep = c.args.sep.now in
    rw (c.in-Some.ensures.cases.0, terms_later v scope sep c.in-Some.others.now)
    (listed (λ f. sep ++ term_text v scope (term_view f)) c.in-Some.others.now c.loop-term.term-index
    c.args.out.now.items c.push_term.new.out.items c.loop-term.out.items
    (term_text v scope (term_view c.in-Some.first.now)) (omega arith) c.in_ok-push_term.ensures.text
    c.loop-term.invariant.text)

pub push_arguments-returns-clause-text : goal.push_arguments-returns-clause-text
push_arguments-returns-clause-text t c =
    let v = c.args.vocab.now in
    let scope = c.args.scope.now.items in
    let word = c.args.word.now in
    let some : 0 < length c.args.terms.now = search (rules) in
    on_ok_weaker c.push_bytes.result
    (λ e. three c.args.out.now.items c.push_round.new.out.items c.push_terms.new.out.items c.push_bytes.new.out.items
    (opened_text unsupported_call_words (codes "(") word) (terms_text v scope (codes ",")
    (terms_of (map term_view c.args.terms.now))) (codes ")")
    (arguments_text v scope word (terms_of (map term_view c.args.terms.now)))
    (some_arguments v scope word c.args.terms.now some) c.in_ok-push_round.ensures c.in_ok-push_terms.ensures.text e)
    c.push_bytes.ensures

pub push_summands-returns-clause-text : goal.push_summands-returns-clause-text
push_summands-returns-clause-text t c =
    let v = c.args.vocab.now in
    let scope = c.args.scope.now.items in
    let minus = minus_text (signed_view c.in-Some.first.now).0 in
    let term = term_text v scope (signed_view c.in-Some.first.now).1 in
    let text = λ (s : Signed). spaced_text (add_text (signed_view s).0) ++ term_text v scope (signed_view s).1 in
    rw (c.in-Some.ensures.cases.0, summands_later v scope c.in-Some.others.now)
    (listed text c.in-Some.others.now c.loop-part.part-index c.args.out.now.items c.push_first.new.out.items
    c.loop-part.out.items (minus ++ term) (omega arith) c.in_ok-push_first.ensures.text c.loop-part.invariant.text
    ∙ ap (λ (x : List ℕ). c.args.out.now.items ++ x) (append_assoc minus term (flat_map text c.in-Some.others.now)))
