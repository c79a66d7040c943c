use Rattle.std.proofs.Common.{◌≡◌, ◌∙◌, List, sym, ap, subst, None}
use Rattle.std.specs.List.{AllByRecursion}
use Rattle.kb_logic.specs.declared.elements.Elem.{Elem}
use Rattle.kb_logic.specs.Structures.{domain_at}
use Rattle.kb_logic.specs.Models.{GroundAtom, IsAtomOver}
use Rattle.partial_structures.specs.KnownAtoms.{atom_of}
use Rattle.bound_laws.specs.Closures.{value_atom}
use Rattle.quantifier_bounds.specs.Rules.{definition_of, Derives}
use Rattle.quantifier_bounds.specs.Steps.{Narrows}
use Rattle.quantifier_bounds.proofs.Defined.{values_over, tuple_none, tuple_some}
use Rattle.quantifier_bounds.proofs.definitions.define_tuple.Goals as goal

pub define_values-requires-clause-over : goal.define_values-requires-clause-over
define_values-requires-clause-over c =
    let k = c.args.known.now in
    let s = c.args.symbol in
    let r = c.args.args.now in
    subst (λ xs. AllByRecursion (λ x. IsAtomOver k.symbols k.domains (value_atom s r x)) xs)
    (sym (c.domain_in-values.ensures ∙ ap (λ ds. domain_at ds c.in-Some.ty) c.requires.domains))
    (values_over k s c.in-Some.ty c.args.declared.now r c.requires.there c.in-Some.is c.requires.tuple)

pub returns-in_ok-args-in-None : goal.returns-in_ok-args-in-None
returns-in_ok-args-in-None c =
    let k = c.args.known.now in
    let s = c.args.symbol in
    let d = definition_of c.args.defining.rules.now in
    let mk : List Elem → GroundAtom = λ us. record { symbol = s; args = us; value = None } in
    let is : atom_of c.atom-atom.result ≡ mk c.args.args.now =
    ap atom_of c.atom-atom.ensures ∙ ap mk c.in_ok-args-in-None.ensures in
    tuple_none k d s c.args.args.now c.args.declared.now.value c.define.new.known c.define.result c.in-None.is
    (subst (λ a. Narrows k c.define.new.known c.define.result (λ q. Derives q d a)) is c.define.ensures)

pub returns-in-Some : goal.returns-in-Some
returns-in-Some c =
    tuple_some c.args.known.now (definition_of c.args.defining.rules.now) c.args.symbol c.args.args.now
    c.args.declared.now.value c.in-Some.ty c.args.setting.domains.now c.domain_in-values.result.now
    c.define_values.new.known c.define_values.result c.in-Some.is c.requires.domains c.domain_in-values.ensures
    c.define_values.ensures
