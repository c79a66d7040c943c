use Rattle.std.proofs.Common.{◌≡◌, ◌<◌, Bool, None, Option, List, [], length, take, replicate, ap, ◌∙◌, subst}
use Rattle.std.proofs.Common.{arith}
use Rattle.std.proofs.lemmas.List.{length-replicate}
use Rattle.lit_core.specs.declared.literals.Lit.{Lit}
use Rattle.clause_store.specs.TrailState.{TrailState}
use Rattle.clause_store.specs.StoreState.{StoreState}
use Rattle.search_engine.specs.declared.engine.Engine.{Engine}
use Rattle.search_engine.specs.Knowledge.{RemovesFrom}
use Rattle.search_engine.specs.Resting.{held_of}
use Rattle.search_engine.proofs.DecideFacts.{with_store}
use Rattle.search_engine.proofs.Beginning.{resting-cleared}
use Rattle.search_engine.proofs.GrowFacts.{removed-held, resting-back, same-itself, same-twice}
use Rattle.search_engine.proofs.engine.Engine.add_problem.Goals as goal

cleared-size : (mid : Engine) (clear : StoreState) → clear.trail.values ≡ replicate (length mid.store.trail.values) None
    → length clear.trail.values ≡ length mid.store.trail.values
cleared-size mid clear is = ap length is ∙ length-replicate {A = Option Bool} (length mid.store.trail.values) None

pub hold-requires-clause-resting : goal.hold-requires-clause-resting
hold-requires-clause-resting c = resting-cleared c.make_room.new.self c.clear.new.self c.make_room.ensures.resting
    c.clear.ensures.cleared c.clear.ensures.laws

module _ (c : goal.After-remove_from) where
  -- the engine with room for the variables
  abbrev mid : Engine
  mid = c.make_room.new.self

  abbrev half : Engine
  half = c.hold.new.self

  -- its store, where nothing is assigned
  abbrev clear : StoreState
  clear = c.clear.new.self

  same-clauses : clear.clauses ≡ mid.store.clauses
  same-clauses = ap (λ (s : StoreState). s.clauses) c.clear.ensures.cleared

  front : mid.store.clauses ≡ take (length mid.store.clauses) half.store.clauses
  front = subst (λ (xs : List (Option (List Lit))). xs ≡ take (length xs) half.store.clauses) same-clauses
      c.in-Err.ensures.err.front

  removed : RemovesFrom (length mid.store.clauses) half.store.clauses c.remove_from.new.store.clauses
  removed = subst (λ n. RemovesFrom n half.store.clauses c.remove_from.new.store.clauses) (c.len-first.ensures
      ∙ ap length same-clauses) c.remove_from.ensures.removed

  trail : c.remove_from.new.store.trail ≡ clear.trail
  trail = c.remove_from.ensures.trail ∙ c.in-Err.ensures.err.trail

  steps : c.remove_from.new.store.trail.steps ≡ []
  steps = ap (λ (t : TrailState). t.steps) trail ∙ ap (λ (s : StoreState). s.trail.steps) c.clear.ensures.cleared

  level : c.remove_from.new.store.trail.level ≡ 0
  level = ap (λ (t : TrailState). t.level) trail ∙ ap (λ (s : StoreState). s.trail.level) c.clear.ensures.cleared

  sized : mid.problem.vars < length c.remove_from.new.store.trail.values
  sized =
      let was : mid.problem.vars < length mid.store.trail.values = c.make_room.ensures.resting.engine.sized in
      let same : length c.remove_from.new.store.trail.values ≡ length clear.trail.values =
      ap (λ (t : TrailState). length t.values) trail in
      let size : length clear.trail.values ≡ length mid.store.trail.values =
      cleared-size mid clear (ap (λ (s : StoreState). s.trail.values) c.clear.ensures.cleared) in
      omega (arith, was, same, size)

  abbrev done : Engine
  done = with_store half c.remove_from.new.store

pub returns-in-Err-clause-resting : goal.returns-in-Err-clause-resting
returns-in-Err-clause-resting c =
    let h = c.in-Err.ensures.err in
    resting-back (mid c) (done c) (half c).store.clauses c.make_room.ensures.resting (front c) (removed c) (steps c)
    (level c) c.remove_from.ensures.laws (sized c) h.problem h.same.learnt h.ids h.closed h.same.moments
    h.same.conflicts h.same.root_conflicts

pub returns-in-Err-clause-err : goal.returns-in-Err-clause-err
returns-in-Err-clause-err c =
    let h = c.in-Err.ensures.err in
    let r = c.make_room.ensures.reserves in
    record {
      problem = h.problem ∙ r.problem;
      held = removed-held (mid c).store.clauses (half c).store.clauses c.remove_from.new.store.clauses (front c)
          (removed c) ∙ ap held_of r.clauses;
      same = same-twice c.args.self.now (mid c) (done c) r.lists.same
          (same-itself (mid c) (done c) h.same.learnt h.same.moments h.same.searches h.same.conflicts
          h.same.root_conflicts);
    }
