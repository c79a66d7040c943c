use Rattle.std.proofs.Common.{◌≡◌, ℕ, ◌+◌, ◌*◌, ◌<◌, ◌^◌, Option, Some, List, length, slice_get, sym, subst}
use Rattle.std.proofs.Common.{arith, w64, Fits}
use Rattle.std.proofs.lemmas.Option.{slice_get_within}
use Rattle.kb_logic.specs.declared.elements.Elem.{Elem}
use Rattle.kb_logic.specs.Structures.{domain_at, tuples_of}
use Rattle.kb_logic.specs.Weights.{value_count}
use Rattle.atom_numbers.proofs.PlaceFacts.{valued-fits}
use Rattle.atom_numbers.proofs.places.atom_place.Goals as goal

pub overflow_add-result : goal.overflow_add-result
overflow_add-result c =
    let d : List (List Elem) = c.args.domains.now in
    let ts : List (List Elem) = tuples_of d c.args.symbol.now.args in
    let i = slice_get_within c.domain_in-domain.result.now c.position.result c.in-Some-value.value c.position.ensures in
    let tuples : slice_get ts c.tuple_place-tuple.result ≡ Some c.args.literal.now.args =
    subst (λ (xs : List Elem). slice_get ts c.tuple_place-tuple.result ≡ Some xs) c.as_slice-2.ensures
    (subst (λ (tys : List ℕ). slice_get (tuples_of d tys) c.tuple_place-tuple.result ≡ Some c.as_slice-2.result.now)
    c.as_slice.ensures c.tuple_place-tuple.ensures) in
    let few : length ts * length (domain_at d c.in-Some.ty) < 2 ^ 64 =
    subst (λ (o : Option ℕ). length ts * value_count d o < 2 ^ 64) c.in-Some.is c.requires.few in
    subst (λ (xs : List Elem). Fits w64 (c.tuple_place-tuple.result * length xs + c.position.result))
    (sym c.domain_in-domain.ensures)
    (let x = valued-fits (length ts) (length (domain_at d c.in-Some.ty)) c.tuple_place-tuple.result c.position.result
    (slice_get_within ts c.tuple_place-tuple.result c.args.literal.now.args tuples)
    (subst (λ (xs : List Elem). c.position.result < length xs) c.domain_in-domain.ensures i) few in omega (arith, x))
