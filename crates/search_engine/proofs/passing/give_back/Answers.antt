use Rattle.std.proofs.Common.{◌-◌, ℕ, List, length, slice_get, Contains, sym, ap, ◌∙◌, subst}
use Rattle.std.proofs.lemmas.List.Elements.{Contains-append_left}
use Rattle.clause_store.specs.Releasing.{HasTrue}
use Rattle.clause_store.specs.StoreState.{StoreState}
use Rattle.search_engine.proofs.GivenBack.{gives-step, stands-in}
use Rattle.search_engine.proofs.passing.give_back.Goals as goal

pub returns-then-not-release-clause-needed : goal.returns-then-not-release-clause-needed
returns-then-not-release-clause-needed c id has =
    let r = c.if-not-release.ensures.released in
    subst (λ (x : StoreState). HasTrue x id) (sym r.0) (c.loop-id.invariant.needed id has)

pub loop-id-preserved : goal.loop-id-preserved
loop-id-preserved c =
    let among : Contains c.loop-id.passing.items c.in-Some.id = stands-in c.loop-id.passing.items
    (length c.loop-id.passing.items - 1) c.in-Some.id
    (ap (λ (xs : List ℕ). slice_get xs (length xs - 1)) (sym c.as_slice.ensures.value)
    ∙ (sym c.newest.ensures ∙ c.in-Some.is)) in
    gives-step c.args.store.now c.args.passing.now.items c.loop-id.store c.loop-id.passing.items c.in-Some.id
    c.release.new.self c.pop.new.self.items c.loop-id.invariant among c.release.ensures.laws
    c.if-not-release.ensures.released
    (λ i has. subst (λ (xs : List ℕ). Contains xs i) (sym c.pop.ensures.items)
    (Contains-append_left c.pop.new.self.items _ i has))
