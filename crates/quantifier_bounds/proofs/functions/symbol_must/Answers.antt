use Rattle.std.proofs.Common.{◌≡◌, ◌∙◌, sym, ap, subst}
use Rattle.std.specs.List.{AllByRecursion}
use Rattle.kb_logic.specs.Structures.{domain_at, tuples_of}
use Rattle.kb_logic.specs.Models.{IsAtomOver}
use Rattle.bound_laws.specs.Closures.{value_atom}
use Rattle.quantifier_bounds.proofs.Values.{atoms_over_types, symbol_every}
use Rattle.quantifier_bounds.proofs.functions.symbol_must.Goals as goal

pub tuples_must-requires : goal.tuples_must-requires
tuples_must-requires c =
    let k = c.args.known.now in
    let s = c.args.symbol in
    let d = c.args.declared.now in
    let ty = c.in-Some.ty in
    let D = c.args.setting.domains.now in
    let dom : D ≡ k.domains = c.requires.domains in
    let ts : c.deref.result.now ≡ tuples_of D d.args =
    c.deref.ensures.value ∙ c.in_ok-tuples.ensures ∙ ap (tuples_of D) c.as_slice.ensures in
    let vs : c.domain_in-values.result.now ≡ domain_at D ty = c.domain_in-values.ensures in
    subst (λ us. AllByRecursion (λ r. AllByRecursion (λ x. IsAtomOver k.symbols k.domains (value_atom s r x))
    c.domain_in-values.result.now) us) (sym (ts ∙ ap (λ ds. tuples_of ds d.args) dom))
    (subst (λ ys. AllByRecursion (λ r. AllByRecursion (λ x. IsAtomOver k.symbols k.domains (value_atom s r x)) ys)
    (tuples_of k.domains d.args)) (sym (vs ∙ ap (λ ds. domain_at ds ty) dom))
    (atoms_over_types k s ty d c.requires.there c.in-Some.is))

pub returns : goal.returns
returns c =
    let d = c.args.declared.now in
    let D = c.args.setting.domains.now in
    symbol_every c.args.known.now c.args.symbol d c.in-Some.ty D c.deref.result.now c.domain_in-values.result.now
    c.tuples_must.new.known c.tuples_must.result c.in-Some.is c.requires.domains
    (c.deref.ensures.value ∙ c.in_ok-tuples.ensures ∙ ap (tuples_of D) c.as_slice.ensures) c.domain_in-values.ensures
    c.tuples_must.ensures
