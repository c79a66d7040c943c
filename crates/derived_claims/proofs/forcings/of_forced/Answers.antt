use Rattle.std.proofs.Common.{◌∙◌, List, All, map, sym, subst}
use Rattle.lit_core.specs.declared.literals.Lit.{Lit}
use Rattle.derived_claims.specs.declared.forcing.Forcing.{Forcing}
use Rattle.derived_claims.specs.Following.{IsForcing, forced_claim}
use Rattle.derived_claims.specs.Statements.{Claimed}
use Rattle.derived_claims.proofs.Claiming.{forced-stated}
use Rattle.derived_claims.proofs.forcings.of_forced.Goals as goal

pub claim_each-requires-clause-cites : goal.claim_each-requires-clause-cites
claim_each-requires-clause-cites c =
    subst (λ (ls : List Lit). All (IsForcing c.forcings.new.checker ls) c.as_slice-2.result.now)
    (sym (c.as_slice.ensures.value ∙ c.in_ok-found.ensures.kept))
    (subst (λ (fs : List Forcing). All (IsForcing c.forcings.new.checker c.args.lits.now.items) fs)
    (sym c.as_slice-2.ensures.value) c.in_ok-found.ensures.cites)

pub returns : goal.returns
returns c =
    forced-stated c.args.numbers.now c.args.checker.now c.forcings.new.checker c.claim_each.new.checker
    c.args.lits.now.items c.args.literals.now c.in_ok-found.found.items c.new-text.result.items
    c.forcings.new.text.items c.claim_each.new.text.items c.new-text.ensures.items c.in_ok-found.ensures.derives
    c.in_ok-found.ensures.each
    (subst (λ (ls : List Lit). Claimed c.forcings.new.checker c.claim_each.new.checker
    (map (forced_claim ls) c.in_ok-found.found.items) c.forcings.new.text.items c.claim_each.new.text.items)
    (c.as_slice.ensures.value ∙ c.in_ok-found.ensures.kept)
    (subst (λ (fs : List Forcing). Claimed c.forcings.new.checker c.claim_each.new.checker
    (map (forced_claim c.as_slice.result.now) fs) c.forcings.new.text.items c.claim_each.new.text.items)
    c.as_slice-2.ensures.value c.in_ok-claim_each.ensures))
