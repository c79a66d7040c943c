use Rattle.std.proofs.Common.{◌≡◌, ◌∙◌, sym, ap, subst}
use Rattle.std.specs.List.{AllByRecursion, Contains}
use Rattle.kb_logic.specs.Structures.{tuples_of}
use Rattle.quantifier_bounds.specs.Rules.{definition_of}
use Rattle.quantifier_bounds.proofs.Defined.{tuples_in, symbol_defined}
use Rattle.quantifier_bounds.proofs.definitions.define_symbol.Goals as goal

pub define_tuples-requires-clause-tuples : goal.define_tuples-requires-clause-tuples
define_tuples-requires-clause-tuples c =
    let k = c.args.known.now in
    let declared = c.args.declared.now in
    let ts : c.deref.result.now ≡ tuples_of k.domains declared.args =
    c.deref.ensures.value ∙ c.in_ok-tuples.ensures ∙ ap (tuples_of c.args.setting.domains.now) c.as_slice.ensures
    ∙ ap (λ ds. tuples_of ds declared.args) c.requires.domains in
    subst (AllByRecursion (Contains (tuples_of k.domains declared.args))) (sym ts)
    (tuples_in (tuples_of k.domains declared.args))

pub returns : goal.returns
returns c =
    symbol_defined c.args.known.now (definition_of c.args.rules.now) c.args.symbol c.args.declared.now
    c.is_defined.result c.args.setting.domains.now c.deref.result.now c.define_tuples.new.known c.define_tuples.result
    c.is_defined.ensures c.if-not-is_defined.false c.requires.domains
    (c.deref.ensures.value ∙ c.in_ok-tuples.ensures ∙ ap (tuples_of c.args.setting.domains.now) c.as_slice.ensures)
    c.define_tuples.ensures
