use Rattle.std.proofs.Common.{◌≡◌, ℕ, ◌+◌, ◌++◌, ◌∷◌, [], List, take, sym, ap, ◌∙◌, subst, get_or, Contains, ◌⊎◌}
use Rattle.std.proofs.lemmas.List.{take_more, take_all}
use Rattle.std.proofs.lemmas.List.Elements.{Contains-get_or}
use Rattle.lit_core.specs.declared.literals.Lit.{Lit}
use Rattle.lit_core.specs.Literals.{negated}
use Rattle.clause_store.specs.StoreState.{StoreState, IsMadeBefore}
use Rattle.clause_store.proofs.WatchFacts.{same-held}
use Rattle.conflict_analysis.specs.Resolvents.{Gathers, IsMadeAt}
use Rattle.conflict_analysis.proofs.Gathered.{gathers-more}
use Rattle.conflict_analysis.proofs.Places.{unfixed-of}
use Rattle.conflict_analysis.proofs.resolvent.Resolvent.absorb.Goals as goal

pub mark-requires-clause-made : goal.mark-requires-clause-made
mark-requires-clause-made c =
    let s : StoreState = c.args.store.now in
    let xs : List Lit = c.lend-lits.result.now in
    let i : ℕ = c.loop-lit.lit-index in
    let m : Lit = c.lit.result in
    let is : m ≡ get_or xs i c.lit-item.result = c.lit.ensures.value ∙ c.lit-item.is in
    let same : xs ≡ c.requires.clause.0 = same-held s c.args.clause xs c.requires.clause.0 c.lend-lits.ensures.held
    c.requires.clause.1 in
    let has : Contains xs m = subst (Contains xs) (sym is) (Contains-get_or xs i c.lit-item.result c.loop-lit-test.true)
    in
    subst (λ (top : ℕ). IsMadeBefore s.trail.steps top (negated m) ⊎ IsMadeAt s.trail.steps top m)
    (sym c.loop-lit.invariant.0.top) (c.requires.clause.2 m (subst (λ (ls : List Lit). Contains ls m) same has))

pub mark-requires-clause-unfixed : goal.mark-requires-clause-unfixed
mark-requires-clause-unfixed c =
    let xs : List Lit = c.lend-lits.result.now in
    let i : ℕ = c.loop-lit.lit-index in
    let m : Lit = c.lit.result in
    let is : m ≡ get_or xs i c.lit-item.result = c.lit.ensures.value ∙ c.lit-item.is in
    let has : Contains xs m = subst (Contains xs) (sym is) (Contains-get_or xs i c.lit-item.result c.loop-lit-test.true)
    in
    unfixed-of c.args.store.now c.args.clause xs m c.lend-lits.ensures.laws c.lend-lits.ensures.held has

pub loop-lit-preserved : goal.loop-lit-preserved
loop-lit-preserved c =
    let xs : List Lit = c.lend-lits.result.now in
    let i : ℕ = c.loop-lit.lit-index in
    let m : Lit = c.lit.result in
    let is : m ≡ get_or xs i c.lit-item.result = c.lit.ensures.value ∙ c.lit-item.is in
    let more : take (i + 1) xs ≡ take i xs ++ m ∷ [] = take_more xs i c.lit-item.result c.loop-lit-test.true
    ∙ ap (λ l. take i xs ++ l ∷ []) (sym is) in
    let e = c.in_ok-mark.ensures in (
      subst (λ (ls : List Lit). Gathers c.args.store.now.trail.steps c.args.self.now (Contains ls) c.mark.new.self)
          (sym more)
          (gathers-more c.args.store.now.trail.steps c.args.self.now c.loop-lit.self c.mark.new.self (take i xs) m
          c.loop-lit.invariant.0 e.ok),
      e.hints ∙ c.loop-lit.invariant.1,
    )

pub returns : goal.returns
returns c =
    let xs : List Lit = c.lend-lits.result.now in
    let all : take c.loop-lit.lit-index xs ≡ xs = take_all c.loop-lit.lit-index xs c.loop-lit-test.false in
    let g : Gathers c.args.store.now.trail.steps c.args.self.now (Contains xs) c.loop-lit.self =
    subst (λ (ls : List Lit). Gathers c.args.store.now.trail.steps c.args.self.now (Contains ls) c.loop-lit.self)
    all c.loop-lit.invariant.0 in
    record {
      ok = record {
        clause = xs;
        held = c.lend-lits.ensures.held;
        gathers = record {
          floor = g.floor;
          top = g.top;
          marked = g.marked;
          kept_upper = g.kept_upper;
          kept_lower = g.kept_lower;
          from_upper = g.from_upper;
          from_lower = g.from_lower;
        };
        hints = c.in_ok-push.ensures.items ∙ ap (λ (ids : List ℕ). ids ++ c.args.clause ∷ []) c.loop-lit.invariant.1;
      };
    }
