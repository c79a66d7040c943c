use Rattle.std.proofs.Common.{◌≡◌, ◌+◌, ◌*◌, List, Some, length, slice_get, Contains, sym}
use Rattle.std.proofs.Common.{subst, arith, w64, Fits}
use Rattle.kb_logic.specs.declared.elements.Elem.{Elem}
use Rattle.atom_numbers.proofs.PlaceFacts.{LeadsOn, leads-begins, tuple-length, element-there, leads-next, place-fits}
use Rattle.atom_numbers.proofs.PlaceFacts.{leads-ends, product-fits}
use Rattle.atom_numbers.proofs.places.tuple_place.Goals as goal

pub overflow_mul-place : goal.overflow_mul-place
overflow_mul-place c =
    subst (λ (xs : List Elem). Fits w64 (c.loop-k.place * length xs)) (sym c.domain_in-domain.ensures)
    (let x = product-fits c.args.domains.now c.args.types.now c.args.args.now c.loop-k.k c.loop-k.place
    c.loop-k.invariant.0 c.loop-k-test.true in omega (arith, x, c.requires.few))

pub loop-k-init : goal.loop-k-init
loop-k-init c = (
  leads-begins c.args.domains.now c.args.types.now c.args.args.now c.requires.among,
  tuple-length c.args.domains.now c.args.types.now c.args.args.now c.requires.among,
)

pub position-requires : goal.position-requires
position-requires c =
    subst (λ (xs : List Elem). Contains xs c.index-args-k.result) (sym c.domain_in-domain.ensures)
    (element-there c.args.domains.now c.args.types.now c.args.args.now c.loop-k.k c.loop-k.place c.loop-k.invariant.0
    c.loop-k-test.true c.index-args-k.result c.index-args-k.is)

module _ (c : goal.After-position) where
  abbrev next : LeadsOn c.args.domains.now c.args.types.now c.args.args.now (c.loop-k.k + 1)
      (c.loop-k.place * length c.domain_in-domain.result.now + c.position.result)
  next =
      subst (λ (xs : List Elem). LeadsOn c.args.domains.now c.args.types.now c.args.args.now (c.loop-k.k + 1)
      (c.loop-k.place * length xs + c.position.result)) (sym c.domain_in-domain.ensures)
      (leads-next c.args.domains.now c.args.types.now c.args.args.now c.loop-k.k c.loop-k.place c.loop-k.invariant.0
      c.loop-k-test.true c.index-args-k.result c.index-args-k.is c.position.result
      (subst (λ (xs : List Elem). slice_get xs c.position.result ≡ Some c.index-args-k.result)
      c.domain_in-domain.ensures c.position.ensures))

pub overflow_add-place : goal.overflow_add-place
overflow_add-place c =
    let x = place-fits c.args.domains.now c.args.types.now c.args.args.now (c.loop-k.k + 1)
    (c.loop-k.place * length c.domain_in-domain.result.now + c.position.result) (next c) in
    omega (arith, x, c.requires.few)

pub loop-k-preserved : goal.loop-k-preserved
loop-k-preserved c = (next c, c.loop-k.invariant.1)

pub returns : goal.returns
returns c = leads-ends c.args.domains.now c.args.types.now c.args.args.now c.loop-k.k c.loop-k.place c.loop-k-test.false
    c.loop-k.invariant.0
