-- An engine with the cores of its answers.
use Rattle.std.specs.Prelude.{◌≡◌, ℕ, ◌+◌, ◌-◌, ◌<◌, ◌≤◌, ◌^◌, Option, Some, None, List, [], ◌++◌, length, All}
use Rattle.std.specs.Prelude.{IfSome}
use Rattle.lit_core.specs.declared.literals.Lit.{Lit}
use Rattle.ground_core.specs.declared.solving.Budget.{Budget}
use Rattle.ground_core.specs.declared.solving.Verdict.{Verdict}
use Rattle.ground_core.specs.declared.solving.Verdict.TheVariants.{Sat, Unsat}
use Rattle.ground_core.specs.Meaning.{HasTermsInRange, RefutesAll}
use Rattle.ground_core.specs.Selectors.{AreSelectors}
use Rattle.ground_core.specs.Solving.{Answers, SolveState, HasCoreWithin}
use Rattle.search_engine.specs.Resting.{IsNew, IsResting, held_of}
use Rattle.clause_learning.specs.declared.keeper.Keeper.{Keeper}
use Rattle.clause_learning.specs.CoreIndexes.{IsIndexed}
use Rattle.clause_learning.specs.LiveBounds.{IsLive, IsOutputOfWider}

-- what contracts see of it
abbrev pub kept_of : Keeper → SolveState
kept_of a = record {
  problem = a.engine.problem;
  learnt = a.engine.learnt;
  moments = a.engine.moments.items;
  cores = a.index.cores.items;
  free = a.engine.problem.vars - length a.engine.problem.retired;
  searches = a.engine.searches;
  additions = a.additions.items;
}

-- what holds while no search is running
pub record IsKeeper (a : Keeper) : Type 0 where
  pub resting : IsResting a.engine
  pub terms : HasTermsInRange a.engine.problem
  pub few : length a.engine.problem.retired ≤ a.engine.problem.vars
  pub selectors : AreSelectors a.engine.problem.retired
  pub indexed : IsIndexed a.index
  pub refuted : All (RefutesAll a.engine.problem) a.index.cores.items
  pub counted : a.engine.searches < 2 ^ 64
  pub live : All (IsLive a.engine.problem) a.live.items

-- of no variables, for which nothing is said
pub record IsNewKeeper (a : Keeper) : Type 0 where
  pub engine : IsNew a.engine
  pub cores : a.index.cores.items ≡ []
  pub additions : a.additions.items ≡ []
  pub entries : a.engine.log.entries ≡ []

-- the learnt list, of so many clauses, may become this long within the budget
abbrev pub IsMost : ℕ → Budget → Option ℕ → Type 0
IsMost known b (Some most) = (limit : ℕ) × (b.limit ≡ Some limit) × (most + b.spent ≡ known + limit)
IsMost known b None = IfSome b.limit (λ limit. 2 ^ 64 + b.spent ≤ known + limit)

-- values, or a core that the problem refutes and that contains no kept one
abbrev pub IsNewRefusal : Keeper → Verdict → Type 0
IsNewRefusal a (Sat values) = Unit {0}
IsNewRefusal a (Unsat core) = RefutesAll a.engine.problem core × (HasCoreWithin a.index.cores.items core → ⊥)

-- what is assumed, and the outputs of bounds that follow from it
abbrev pub IsWidened : Keeper → List Lit → List Lit → Type 0
IsWidened a assumed lits = (more : List Lit) × (lits ≡ assumed ++ more)
    × All (IsOutputOfWider a.live.items assumed) more

-- the answer is one on more than what is assumed
abbrev pub AnswersWidened : Keeper → List Lit → Verdict → Type 0
AnswersWidened a assumed v = (lits : List Lit) × IsWidened a assumed lits × Answers a.engine.problem lits v

-- what the last search met stays
pub record SameCounts (old new : Keeper) : Type 0 where
  pub conflicts : new.engine.conflicts ≡ old.engine.conflicts
  pub root_conflicts : new.engine.root_conflicts ≡ old.engine.root_conflicts

-- what contracts see stays, the clauses that are held, and what was stated
pub record SameKeeping (old new : Keeper) : Type 0 where
  pub kept : kept_of new ≡ kept_of old
  pub held : held_of new.engine.store.clauses ≡ held_of old.engine.store.clauses
  pub entries : new.engine.log.entries ≡ old.engine.log.entries
