use Rattle.std.proofs.Common.{◌≡◌, ℕ, length, vec_len, ◌++◌, ◌∷◌, [], sym, ◌∙◌, arith, subst, refl, List}
use Rattle.clause_base.specs.declared.trail.Step.{Step}
use Rattle.clause_base.specs.TrailState.{TrailState}
use Rattle.clause_base.specs.TrailLaws.{IsCoherent}
use Rattle.clause_base.specs.TrailFields.{IsBeingCleared}
use Rattle.clause_base.specs.declared.trail.Trail.TheInside.{Inside}
use Rattle.clause_base.proofs.ListFacts.{nil-from_length}
use Rattle.clause_base.proofs.TrailFacts.{last-in_range}
use Rattle.clause_base.proofs.TrailGrowth.{clears-start, clears-step, clears-state, clears-kept}
use Rattle.clause_base.proofs.trail.Trail.clear.Goals as goal

emptied : (xs : List Step) (n : ℕ) → n ≡ 0 → n ≡ length xs → xs ≡ []
emptied xs n z is = nil-from_length xs (sym is ∙ z)

pub loop-step-init : goal.loop-step-init
loop-step-init c = subst (λ (x : TrailState). IsBeingCleared x c.self.inside) c.self.view_is
    (clears-start c.self.inside c.self.invariant)

pub unset-requires : goal.unset-requires
unset-requires c =
    let a = c.loop-step.self-inside in
    let coherent : IsCoherent a.assignment (c.pop.new.self.items ++ c.in-Some.step ∷ []) =
    subst (λ (xs : List Step). IsCoherent a.assignment xs) c.in-Some.ensures.items c.loop-step.invariant.coherent in
    last-in_range a.assignment c.pop.new.self.items c.in-Some.step coherent

pub loop-step-preserved : goal.loop-step-preserved
loop-step-preserved c =
    let a = c.loop-step.self-inside in
    let b : Inside = record {
      assignment = c.unset.new.self;
      steps = c.pop.new.self;
      lits = a.lits;
      places = a.places;
      level = a.level;
    } in
    let room = c.in-Some.ensures.capacity in
    clears-step c.args.self.now a b c.in-Some.step c.loop-step.invariant c.in-Some.ensures.items c.unset.ensures refl
    refl (omega arith)

pub invariant_of-self : goal.invariant_of-self
invariant_of-self c =
    let a = c.loop-step.self-inside in
    let b : Inside = record {
      assignment = a.assignment;
      steps = c.pop.new.self;
      lits = c.clear.new.self;
      places =
          a.places;
      level = 0;
    } in
    let none = emptied a.steps.items (vec_len a.steps) c.in_default.ensures.cases.0 a.steps.ok.0 in
    let left = emptied c.pop.new.self.items (vec_len c.pop.new.self) c.in_default.ensures.cases.1 c.pop.new.self.ok.0 in
    let room = c.in_default.ensures.capacity in
    clears-kept c.args.self.now a b c.loop-step.invariant none left refl c.clear.ensures.items refl refl (omega arith)
    (let r = c.clear.ensures.capacity in omega arith)

pub returns-clause-cleared : goal.returns-clause-cleared
returns-clause-cleared c =
    let a = c.loop-step.self-inside in
    let b : Inside = record {
      assignment = a.assignment;
      steps = c.pop.new.self;
      lits = c.clear.new.self;
      places =
          a.places;
      level = 0;
    } in
    let none = emptied a.steps.items (vec_len a.steps) c.in_default.ensures.cases.0 a.steps.ok.0 in
    let left = emptied c.pop.new.self.items (vec_len c.pop.new.self) c.in_default.ensures.cases.1 c.pop.new.self.ok.0 in
    clears-state c.args.self.now a b c.loop-step.invariant none left refl c.clear.ensures.items refl
