use Rattle.std.proofs.Common.{◌≡◌, ◌⊎◌, ℕ, Some, List, [], ◌∷◌, ◌++◌, Contains, get_or, take, ap, sym}
use Rattle.std.proofs.Common.{◌∙◌, subst, inl, inr, ⊎_elim, rules}
use Rattle.std.proofs.lemmas.List.{take_all, take_more}
use Rattle.std.proofs.lemmas.List.Elements.{Contains-get_or, Contains-push_cases}
use Rattle.lit_core.specs.declared.literals.Lit.{Lit}
use Rattle.clause_store.specs.declared.trails.Step.{Step}
use Rattle.clause_store.specs.StoreState.{StoreState}
use Rattle.conflict_analysis.proofs.Places.{assigned-of, same-step}
use Rattle.conflict_analysis.proofs.Shortened.{reason-others, reason-placed}
use Rattle.conflict_analysis.proofs.shortening.redundant_by.Goals as goal
use Rattle.conflict_analysis.proofs.shortening.redundant_by.Goals.{else-other-place-via-then-other-place+else-not-contains}
use Rattle.conflict_analysis.proofs.shortening.redundant_by.Goals.{else-other-place-via-else-other-place}

pub lend-lits-requires : goal.lend-lits-requires
lend-lits-requires c =
    let r = c.requires.laws.reasons c.args.place c.step-step.result c.in_ok-reason.reason c.step-step.ensures.step
    c.in_ok-reason.was in
    (r.0, r.1)

pub place_of-other-requires-clause-assigned : goal.place_of-other-requires-clause-assigned
place_of-other-requires-clause-assigned c =
    let s : StoreState = c.args.store.now in
    let xs : List Lit = c.lend-lits.result.now in
    let i : ℕ = c.loop-lit.lit-index in
    let m : Lit = c.lit.result in
    let is : m ≡ get_or xs i c.lit-item.result = c.lit.ensures.value ∙ c.lit-item.is in
    let w = reason-placed s c.requires.laws c.args.place c.in_ok-reason.reason c.step-step.result xs
    c.step-step.ensures.step c.in_ok-reason.was c.lend-lits.ensures.held m
    (subst (Contains xs) (sym is) (Contains-get_or xs i c.lit-item.result c.loop-lit-test.true)) in
    assigned-of s.trail.values s.trail.steps c.requires.laws.trail.coherent m w.0 w.1 w.2 w.3

pub loop-lit-preserved : goal.loop-lit-preserved
loop-lit-preserved c = λ t at m has.
    let s : StoreState = c.args.store.now in
    let xs : List Lit = c.lend-lits.result.now in
    let i : ℕ = c.loop-lit.lit-index in
    let x : Lit = c.lit.result in
    let is_item : x ≡ get_or xs i c.lit-item.result = c.lit.ensures.value ∙ c.lit-item.is in
    let here : Contains xs x = subst (Contains xs) (sym is_item) (Contains-get_or xs i c.lit-item.result
    c.loop-lit-test.true) in
    let one : c.step-step.result ≡ t = same-step s.trail.steps c.args.place c.step-step.result t
    c.step-step.ensures.step at in
    let is : t.reason ≡ Some c.in_ok-reason.reason = sym (ap (λ (u : Step). u.reason) one) ∙ c.in_ok-reason.was in
    let u = c.place_of-other.ensures.step in
    let way : (c.place_of-other.result ≡ c.args.place) ⊎ Contains c.args.lower.now c.place_of-other.result =
    elim c.else-other-place.branch [
      | else-other-place-via-then-other-place+else-not-contains w ↦ inr (search rules)
      | else-other-place-via-else-other-place w ↦ inl (search rules)
    ] in
    ⊎_elim
    (λ old. c.loop-lit.invariant t at m old)
    (λ (new : x ≡ m). reason-others s c.requires.laws c.args.place c.in_ok-reason.reason c.place_of-other.result t u.0
    xs c.args.lower.now at is c.lend-lits.ensures.held m (subst (Contains xs) new here) u.1 (ap (λ v. v.0) u.2
    ∙ ap (λ (l : Lit). l.var.0) new) way)
    (Contains-push_cases (take i xs) x m (subst (λ (ls : List Lit). Contains ls m)
    (take_more xs i c.lit-item.result c.loop-lit-test.true ∙ ap (λ l. take i xs ++ l ∷ []) (sym is_item)) has))

pub returns : goal.returns
returns c =
    let xs : List Lit = c.lend-lits.result.now in
    let all : take c.loop-lit.lit-index xs ≡ xs = take_all c.loop-lit.lit-index xs c.loop-lit-test.false in
    record {
      step = c.step-step.result;
      stands = c.step-step.ensures.step;
      reason = c.in_ok-reason.was;
      clause = xs;
      held = c.lend-lits.ensures.held;
      others = λ m has. c.loop-lit.invariant c.step-step.result c.step-step.ensures.step m
          (subst (λ (ls : List Lit). Contains ls m) (sym all) has);
    }
