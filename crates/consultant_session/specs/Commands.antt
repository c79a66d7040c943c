-- What a command does to the solver that a session keeps.
use Rattle.std.specs.Prelude.{◌≡◌, ◌<◌, ◌≤◌, ◌⊎◌, ℕ, List, [], length, Option, Result, IfOk}
use Rattle.std.specs.declared.alloc.AllocError.{AllocError as Memory}
use Rattle.kb_logic.specs.Bases.{Base}
use Rattle.kb_logic.specs.InForce.{HasNoModel}
use Rattle.lit_core.specs.declared.literals.Lit.{Lit}
use Rattle.ground_core.specs.Solving.{SolveState}
use Rattle.ground_task.specs.Tasks.{AreRefuted, atom_base}
use Rattle.consult_text.specs.declared.commands.Command.{Command}
use Rattle.consult_text.specs.declared.commands.Command.TheVariants as command
use Rattle.consult_text.specs.declared.replies.Reply.{Reply}
use Rattle.consult_text.specs.declared.replies.Reply.TheVariants as reply
use Rattle.consult_text.specs.Replies.{NeedsModel}
use Rattle.consult_text.specs.RightReplies.{in_force}
use Rattle.consult_text.specs.States.{State}
use Rattle.session_queries.specs.Queries.{Learns}
use Rattle.session_queries.specs.Solvers.{IsSolverOf}

-- what a command leaves of the clauses that were learnt before, and of the kept cores: `forget` none
abbrev pub left_by : Command → List (List Lit) → List (List Lit)
left_by command.Forget before = []
left_by _ before = before

-- so many bounds and exclusions stay in the solver's problem
abbrev pub most_additions : ℕ
most_additions = 1000

-- where more were added, `models` and `minimize`, which add further ones, may open the task anew: memory is bounded so
abbrev pub MayOpenAnew : Command → SolveState → Type 0
MayOpenAnew (command.Models n) s = most_additions < length s.additions
MayOpenAnew (command.Minimize t) s = most_additions < length s.additions
MayOpenAnew _ s = ⊥

-- What a command begins with: all that was learnt and kept before stays, but for `forget`, or where the task is opened
-- anew.
abbrev pub IsLeft : Command → SolveState → SolveState → Type 0
IsLeft c old left = ((left.learnt ≡ left_by c old.learnt) × (left.cores ≡ left_by c old.cores))
    ⊎ (MayOpenAnew c old × (left.learnt ≡ []) × (left.cores ≡ []))

-- the solver is as it was, or one where much had been added was given up for a new one
abbrev pub IsKeptOrNew : SolveState → SolveState → Type 0
IsKeptOrNew old new = (new ≡ old) ⊎ ((most_additions < length old.additions) × (new.learnt ≡ []) × (new.cores ≡ []))

-- A command learns after what is left, and each clause that is learnt follows from what the knowledge base says, and
-- was new to the solver.
pub record Searches (kb : Base) (c : Command) (budget : Option ℕ) (result : Result Reply Memory)
    (old new : SolveState) : Type 0 where
  pub solver : IsSolverOf kb new
  pub left : SolveState
  pub from : IsLeft c old left
  pub learns : Learns c budget result left new

-- it is said at once that there is no model, and nothing is searched for, unless memory runs out
pub record IsRefusedAtOnce (result : Result Reply Memory) (old new : SolveState) : Type 0 where
  pub answer : IfOk result (λ r. r ≡ reply.Inconsistent)
  pub solver : new ≡ old

-- the command needs a model, of which a kept core says that there is none; or this is not so
pub record IsRefused (kb : Base) (s : State) (solver : SolveState) (c : Command) : Type 0 where
  pub query : NeedsModel c
  pub core : AreRefuted (atom_base kb) s.choices solver.cores
  pub none : HasNoModel kb (in_force s)

abbrev pub IsNotRefused : Base → State → SolveState → Command → Type 0
IsNotRefused kb s solver c = NeedsModel c → AreRefuted (atom_base kb) s.choices solver.cores → ⊥

-- where a query stays undecided, a solver of the knowledge base has learnt so many clauses
abbrev pub IsSearched : Base → Reply → Type 0
IsSearched kb r = (k : ℕ) → r ≡ reply.Undecided k → (s : SolveState) × IsSolverOf kb s × (k ≤ length s.learnt)
