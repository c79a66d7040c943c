use Rattle.std.proofs.Common.{rules, ◌≡◌, List, [], Some, None, slice_get, drop}
use Rattle.std.proofs.Common.{sym, ap, ◌∙◌, FitsSigned, w64, to_z, of_z}
use Rattle.std.specs.Option.{option_map}
use Rattle.std.proofs.lemmas.Int.{to_z-of_z}
use Rattle.std.proofs.lemmas.List.{drop_all}
use Rattle.lit_core.specs.Literals.{valuation}
use Rattle.ground_core.specs.Meaning.{term_value, parts_value, shifted}
use Rattle.solving_judge.specs.declared.problems.Said.{Said}
use Rattle.solving_judge.specs.Sayings.{term_of, terms_of}
use Rattle.solving_judge.proofs.TermFacts.{found, passed, terms-said}
use Rattle.solving_judge.proofs.holding.total_at.Goals as goal

pub returns-then-left-eq0 : goal.returns-then-left-eq0
returns-then-left-eq0 c = λ atoms.
    let v = valuation c.args.values.now in
    let said = c.args.said.now in
    let base = c.in-Term.base in
    let fits : FitsSigned w64 base = search rules in
    let back : to_z w64 (of_z w64 base) ≡ base = to_z-of_z w64 base fits in
    let here : Some (term_of c.in-Term.kind base c.in-Term.parts.items) ≡ slice_get (terms_of said) c.args.term =
    found said c.loop-it.it-index c.loop-it.left c.it-item.result c.in-Term.kind base c.in-Term.parts
    c.loop-it-test.true c.it-item.is c.in-Term.is c.if-left-eq0.true ∙ c.loop-it.invariant in
    ap Some (c.term_total.ensures ∙ ap (λ z. shifted z (parts_value v c.in-Term.kind c.deref.result.now)) back
    ∙ ap (λ ps. shifted base (parts_value v c.in-Term.kind ps)) c.deref.ensures.value)
    ∙ ap (option_map (term_value v)) (here ∙ ap (λ ts. slice_get ts c.args.term) (sym (terms-said atoms said)))

pub loop-it-preserved : goal.loop-it-preserved
loop-it-preserved c = sym (passed c.args.said.now c.loop-it.it-index c.loop-it.left c.it-item.result c.in-Term.kind
    c.in-Term.base c.in-Term.parts c.loop-it-test.true c.it-item.is c.in-Term.is c.if-left-eq0.false)
    ∙ c.loop-it.invariant

pub returns : goal.returns
returns c = λ atoms.
    let v = valuation c.args.values.now in
    let said = c.args.said.now in
    let over : drop c.loop-it.it-index said ≡ [] = drop_all c.loop-it.it-index said c.loop-it-test.false in
    let none : None ≡ slice_get (terms_of said) c.args.term =
    ap (λ (xs : List Said). slice_get (terms_of xs) c.loop-it.left) (sym over) ∙ c.loop-it.invariant in
    ap (option_map (term_value v)) (none ∙ ap (λ ts. slice_get ts c.args.term) (sym (terms-said atoms said)))
