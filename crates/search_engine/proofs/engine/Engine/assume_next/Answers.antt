use Rattle.std.proofs.Common.{◌≡◌, ◌+◌, List, None, refl, sym, subst, inl, arith, Contains, ◌⊎◌}
use Rattle.std.proofs.lemmas.List.Elements.{All-contains}
use Rattle.lit_core.specs.declared.literals.Lit.{Lit}
use Rattle.clause_store.specs.declared.trails.Step.{Step}
use Rattle.ground_core.specs.Problems.{IsLitOf}
use Rattle.search_engine.specs.declared.engine.Engine.{Engine}
use Rattle.search_engine.proofs.AnswerFacts.{core-refuted}
use Rattle.search_engine.proofs.DecideFacts.{with_store, same-but, decide-goes, decide-search, decide-turn}
use Rattle.search_engine.proofs.LogFacts.{search-logged, turn-logged}
use Rattle.search_engine.proofs.engine.Engine.assume_next.Goals as goal

module _ (c : goal.After-assign) where
  abbrev old : Engine
  old = c.args.self.now

  abbrev step : Step
  step = record { lit = c.args.lit; level = old.store.trail.level + 1; reason = None }

  within : IsLitOf old.problem.vars c.args.lit
  within = All-contains (IsLitOf old.problem.vars) c.args.assume.now c.args.lit c.requires.literals c.requires.assumed

pub returns-then-is_none-clause-search : goal.returns-then-is_none-clause-search
returns-then-is_none-clause-search c = decide-search (old c) (with_store (old c) c.assign.new.self)
    (same-but (old c) c.assign.new.self) c.requires.search (step c) c.assign.ensures.step c.assign.ensures.laws
    (within c) refl (omega arith)

pub returns-then-is_none-clause-turn : goal.returns-then-is_none-clause-turn
returns-then-is_none-clause-turn c = decide-turn (old c) (with_store (old c) c.assign.new.self)
    (same-but (old c) c.assign.new.self) c.requires.search (step c) c.assign.ensures.step c.assign.ensures.laws
    (within c) refl (omega arith) c.args.assume.now c.requires.turn (inl c.requires.assumed)

pub returns-then-is_none-clause-answer : goal.returns-then-is_none-clause-answer
returns-then-is_none-clause-answer c = (
  c.requires.unrefuted,
  λ goal-of a. decide-goes (old c)
      (with_store (old c) c.assign.new.self) (same-but (old c) c.assign.new.self) c.requires.search
      (step c) c.assign.ensures.step c.assign.ensures.laws (within c) refl (omega arith) goal-of a,
)

pub returns-clause-answer : goal.returns-clause-answer
returns-clause-answer c =
    let e : Engine = c.args.self.now in
    let r = c.in_ok-refuted.refuted in
    let covers = λ (l : Lit) (has : Contains c.args.assume.now l) (why : (l ≡ c.args.lit) ⊎ Contains r.lits.items l).
    c.in_ok-core.ensures.covers l has (subst (λ (xs : List Lit). (l ≡ c.args.lit) ⊎ Contains xs l)
    (sym c.deref.ensures.value) why) in (
      c.in_ok-core.ensures.sublist,
      core-refuted e c.requires.search c.args.assume.now c.requires.turn.decisions
          c.args.lit c.requires.assumed c.requires.untrue r c.in_ok-refuted.ensures c.in_ok-core.core covers,
    )

-- only the log was written
pub returns-clause-search : goal.returns-clause-search
returns-clause-search c = search-logged c.args.self.now c.refute.new.self c.requires.search

pub returns-clause-turn : goal.returns-clause-turn
returns-clause-turn c = turn-logged c.args.self.now c.refute.new.self c.args.assume.now c.requires.turn

pub returns-in_err-refute-clause-search : goal.returns-in_err-refute-clause-search
returns-in_err-refute-clause-search c = search-logged c.args.self.now c.refute.new.self c.requires.search

pub returns-in_err-refute-clause-turn : goal.returns-in_err-refute-clause-turn
returns-in_err-refute-clause-turn c = turn-logged c.args.self.now c.refute.new.self c.args.assume.now c.requires.turn
