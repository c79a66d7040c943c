-- How a query of a task ends: what it replies, and what it learns.
use Rattle.std.specs.Prelude.{◌≡◌, ◌+◌, ◌≤◌, ℕ, List, length, Option, Result, Ok, Err, IfOk, IfSome, ⊤}
use Rattle.kb_logic.specs.declared.structures.Literal.{Literal}
use Rattle.std.specs.declared.alloc.AllocError.{AllocError as Memory}
use Rattle.kb_logic.specs.Bases.{Base}
use Rattle.kb_logic.specs.Lists.{IsPrefix}
use Rattle.lit_core.specs.declared.literals.Lit.{Lit}
use Rattle.term_values.specs.GroundBases.{GroundBase}
use Rattle.ground_core.specs.Solving.{SolveState, IsKept, counted}
use Rattle.ground_core.specs.declared.solving.Budget.{Budget}
use Rattle.ground_core.specs.declared.solving.Halt.{Halt}
use Rattle.ground_core.specs.declared.solving.Halt.TheVariants as halt
use Rattle.ground_task.specs.Tasks.{IsTaskOf, AreRefuted}
use Rattle.consequences.specs.declared.kept.Kept.{Kept}
use Rattle.kept_supports.specs.Supports.{Covers}
use Rattle.consult_text.specs.declared.commands.Command.{Command}
use Rattle.consult_text.specs.declared.replies.Reply.{Reply}
use Rattle.consult_text.specs.declared.replies.Reply.TheVariants as reply
use Rattle.consult_text.specs.Replies.{IsQuery}
use Rattle.consult_text.specs.RightReplies.{RightAnswer}
use Rattle.consult_text.specs.Searches.{weight}

-- Clauses are learnt, and cores kept, after those that are left: no more clauses than the budget, exactly so many as
-- are named where a query stays undecided, and none by a command that is no query.
pub record Learns (c : Command) (budget : Option ℕ) (result : Result Reply Memory) (left new : SolveState)
    : Type 0 where
  pub front : IsPrefix left.learnt new.learnt
  pub cores : IsPrefix left.cores new.cores
  pub within : IfSome budget (λ most. length new.learnt ≤ length left.learnt + most)
  pub undecided : IfOk result (λ r. (k : ℕ) → r ≡ reply.Undecided k → length new.learnt ≡ length left.learnt + k)
  pub idle : (IsQuery c → ⊥) → (new.learnt ≡ left.learnt) × (new.cores ≡ left.cores)

-- a reply that there is no model is shown by a kept core within the literals of the choices
abbrev pub Refutes : GroundBase → List Literal → List (List Lit) → Reply → Type 0
Refutes b choices cores reply.Inconsistent = AreRefuted b choices cores
Refutes b choices cores _ = ⊤

-- after a reply that lists what is forced, every literal of an unknown atom that is true in all models is kept
abbrev pub CoversReply : Base → List Literal → List Kept → Reply → Type 0
CoversReply kb choices ks (reply.Forced ls) = Covers kb (record { choices = choices }) ks
CoversReply kb choices ks _ = ⊤

-- at most so many searches were begun
abbrev pub SearchesUpTo : ℕ → SolveState → SolveState → Type 0
SearchesUpTo m old new = (k : ℕ) × (k ≤ m) × (new.searches ≡ counted (old.searches + k))

-- the reply leaves its query undecided
abbrev pub IsUndecided : Reply → Type 0
IsUndecided (reply.Undecided k) = ⊤
IsUndecided _ = ⊥

-- the reply where a search halted
abbrev pub IsHalted : Halt → Budget → Result Reply Memory → Type 0
IsHalted halt.Spent b (Ok r) = r ≡ reply.Undecided b.spent
IsHalted halt.Spent b (Err e) = ⊥
IsHalted halt.Memory b (Ok r) = ⊥
IsHalted halt.Memory b (Err e) = ⊤

-- how a query of a task ends: with a right reply, over each knowledge base for which the task is as it should be,
-- unless memory ran out
pub record QueryEnds (Of : Base → Type 0) (c : Command) (choices : List Literal) (budget : Option ℕ)
    (b b' : GroundBase) (old new : SolveState) (result : Result Reply Memory) : Type 0 where
  pub right : (kb : Base) → Of kb → old.free ≤ weight kb
      → IfOk result (RightAnswer kb (record { choices = choices; budget = budget }) c)
  pub task : (kb : Base) → IsTaskOf kb b old.problem → IsTaskOf kb b' new.problem
  pub refuted : IfOk result (Refutes b choices new.cores)
  pub learns : Learns c budget result old new
  pub kept : IsKept new
  pub free : new.free ≡ old.free
