use Rattle.std.proofs.Common.{rules, ◌≡◌, FitsSigned, to_z, of_z, sym, ap, ◌∙◌}
use Rattle.std.specs.Int.{w128}
use Rattle.std.proofs.lemmas.Int.{to_z-of_z}
use Rattle.kb_logic.specs.declared.elements.ExtInt.TheVariants.{PosInf}
use Rattle.kb_logic.specs.declared.syntax.AggKind.TheVariants as kind
use Rattle.kb_logic.specs.Denotations.{number}
use Rattle.lit_core.specs.Literals.{valuation}
use Rattle.ground_core.specs.Meaning.{parts_value}
use Rattle.term_bounds.specs.Totals.{total}
use Rattle.term_bounds.proofs.TotalFacts.{count-value, sum-value}
use Rattle.term_bounds.proofs.term_values.parts_value_of.Goals as goal

pub returns-in-Count : goal.returns-in-Count
returns-in-Count c =
    let v = valuation c.args.values.now in
    let fits : FitsSigned w128 c.total_of.result = search rules in
    let back : to_z w128 (of_z w128 c.total_of.result) ≡ c.total_of.result = to_z-of_z w128 c.total_of.result fits in
    let is : c.total_of.result ≡ total v kind.Count PosInf c.args.term.now.parts =
    cc (c.total_of.ensures, c.in-Count.is, c.as_slice-parts.ensures) in
    let value : number c.total_of.result ≡ parts_value v c.args.term.now.kind c.args.term.now.parts = ap number is
    ∙ (count-value v c.args.term.now.parts ∙ ap (λ k. parts_value v k c.args.term.now.parts) (sym c.in-Count.is)) in
    ap number back ∙ value

pub returns-in-Sum : goal.returns-in-Sum
returns-in-Sum c =
    let v = valuation c.args.values.now in
    let fits : FitsSigned w128 c.total_of-in-Sum.result = search rules in
    let back : to_z w128 (of_z w128 c.total_of-in-Sum.result) ≡ c.total_of-in-Sum.result =
    to_z-of_z w128 c.total_of-in-Sum.result fits in
    let is : c.total_of-in-Sum.result ≡ total v kind.Sum PosInf c.args.term.now.parts =
    cc (c.total_of-in-Sum.ensures, c.in-Sum.is, c.as_slice-parts.ensures) in
    let value : number c.total_of-in-Sum.result ≡ parts_value v c.args.term.now.kind c.args.term.now.parts =
    ap number is ∙ (sum-value v c.args.term.now.parts ∙ ap (λ k. parts_value v k c.args.term.now.parts)
    (sym c.in-Sum.is)) in
    ap number back ∙ value
