use Rattle.std.proofs.Common.{◌≡◌, ℕ, ◌<◌, Some, length, slice_get, arith, refl, subst}
use Rattle.std.proofs.lemmas.Option.{slice_get-get_or, slice_get_read}
use Rattle.clause_base.specs.ShortState.{IsListed}
use Rattle.clause_base.specs.ShortFields.{lists_of}
use Rattle.clause_base.proofs.ShortFacts.{grows-seen, grows-then, listed-next}
use Rattle.clause_base.proofs.packing.add_clause.Goals as goal

pub returns-in_err-add-clause-grows : goal.returns-in_err-add-clause-grows
returns-in_err-add-clause-grows c =
    let lit = c.index-lits-place.result in
    let within : c.loop-place.place < length c.args.lits.now = omega (arith, c.loop-place-test.true) in
    let here : slice_get c.args.lits.now c.loop-place.place ≡ Some lit =
    slice_get_read c.args.lits.now _ c.loop-place.place lit refl within c.index-lits-place.is in
    grows-then _ (lists_of c.loop-place.lists) _ _ _ c.loop-place.invariant.0
    (grows-seen _ _ _ _ c.loop-place.place lit c.seen_from-seen.result c.seen_from-seen.ensures.id here
    c.seen_from-seen.ensures.rest c.add.ensures.grows)

pub loop-place-preserved : goal.loop-place-preserved
loop-place-preserved c =
    let lit = c.index-lits-place.result in
    let within : c.loop-place.place < length c.args.lits.now = omega (arith, c.loop-place-test.true) in
    let here : slice_get c.args.lits.now c.loop-place.place ≡ Some lit =
    slice_get_read c.args.lits.now _ c.loop-place.place lit refl within c.index-lits-place.is in
    listed-next _ (lists_of c.loop-place.lists) _ _ _ c.loop-place.place c.loop-place.invariant
    (grows-seen _ _ _ _ c.loop-place.place lit c.seen_from-seen.result c.seen_from-seen.ensures.id here
    c.seen_from-seen.ensures.rest c.add.ensures.grows)
    lit here
    (subst (λ (n : ℕ). IsListed (lists_of c.add.new.lists) lit n) c.seen_from-seen.ensures.id c.in_ok-add.ensures.here)

pub returns-clause-all : goal.returns-clause-all
returns-clause-all c k d lt = c.loop-place.invariant.1 k _ (omega (arith, c.loop-place-test.false))
    (slice_get-get_or c.args.lits.now k d lt)
