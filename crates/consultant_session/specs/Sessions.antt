-- What a session holds, and which of its commands take memory.
use Rattle.std.specs.Prelude.{◌≡◌, ◌+◌, ℕ, All, List, [], length, Option, Some, Result, IfOk, OnOk, OnErr}
use Rattle.std.specs.Prelude.{if◌then◌else◌, ⊤, ◌↔◌, Contains}
use Rattle.std.specs.List.{AllByRecursion}
use Rattle.std.specs.declared.alloc.AllocError.{AllocError as Memory}
use Rattle.kb_logic.specs.Bases.{Base}
use Rattle.kb_logic.specs.Lists.{IsPrefix}
use Rattle.kb_logic.specs.declared.structures.Literal.{Literal}
use Rattle.consult_base.specs.Opened.{Opened, base_of}
use Rattle.consult_text.specs.Literals.{IsLiteralOver}
use Rattle.consult_text.specs.declared.commands.Command.{Command}
use Rattle.consult_text.specs.declared.commands.Command.TheVariants as command
use Rattle.consult_text.specs.declared.replies.Reply.{Reply}
use Rattle.consult_text.specs.declared.replies.Reply.TheVariants as reply
use Rattle.consult_text.specs.Replies.{NeedsModel}
use Rattle.consult_text.specs.RightReplies.{RightReply}
use Rattle.consult_text.specs.States.{State, first_state, is_chosen, state_after}
use Rattle.lit_core.specs.declared.literals.Lit.{Lit}
use Rattle.term_values.specs.GroundBases.{GroundBase}
use Rattle.ground_core.specs.Solving.{SolveState}
use Rattle.atom_numbers.specs.Numbers.{HasNumber}
use Rattle.atom_numbers.specs.Unknown.{AreOpen}
use Rattle.consequences.specs.declared.kept.Kept.{Kept}
use Rattle.ground_task.specs.Tasks.{AreRefuted, atom_base}
use Rattle.kept_supports.specs.Supports.{IsSupported, undecided, unsupported, without_support}
use Rattle.kept_answers.specs.Answers.{kept_reply}
use Rattle.kept_answers.specs.declared.answers.Answered.{Answered}
use Rattle.found_models.specs.Found.{FoundState}
use Rattle.found_models.specs.Models.{AreFoundModels}
use Rattle.session_queries.specs.Queries.{CoversReply, Refutes, SearchesUpTo}
use Rattle.session_queries.specs.Solvers.{AreUnknownOf, IsTaskOver}
use Rattle.consultant_session.specs.Commands.{IsRefusedAtOnce, Searches}

-- what a session holds: the knowledge base that it was opened on, the state that its commands left, and what is kept
-- from one to the next: the solver, literals that were found forced with choices that force them, and the last answer
-- to each kind of query
pub record SessionState : Type 0 where
  pub kb : Opened
  pub state : State
  pub solver : SolveState
  pub supports : List Kept
  pub answered : List Answered

-- a session to which no command was given
pub record IsJustOpened (k : Opened) (budget : Option ℕ) (s : SessionState) : Type 0 where
  pub kb : s.kb ≡ k
  pub state : s.state ≡ first_state budget
  pub learnt : s.solver.learnt ≡ []
  pub supports : s.supports ≡ []
  pub answered : s.answered ≡ []

-- the choices are literals over the knowledge base
abbrev pub AreChoicesOver : Opened → List Literal → Type 0
AreChoicesOver kb choices = AllByRecursion (IsLiteralOver (base_of kb)) choices

-- the answer is right in the state, and decides its query; that there is no model is shown by a kept core, and what all
-- models have in common stands among the supports
pub record IsKeptAnswer (kb : Base) (s : State) (supports : List Kept) (solver : SolveState) (a : Answered)
    : Type 0 where
  pub right : RightReply kb s a.query a.reply
  pub decided : (k : ℕ) → a.reply ≡ reply.Undecided k → ⊥
  pub refuted : Refutes (atom_base kb) s.choices solver.cores a.reply
  pub covers : CoversReply kb s.choices supports a.reply

-- of the literals of atoms' variables these are the ones that the choices have
abbrev pub AreLitsOf : Base → List Literal → List Lit → Type 0
AreLitsOf kb choices lits = (l : Literal) (lit : Lit) → HasNumber (atom_base kb) l lit
    → Contains lits lit ↔ Contains choices l

-- the choices are over the knowledge base, their literals are hashed, the task is one of it, these atoms' variables are
-- unknown in its data, and the found models are models of it; the supports are choices, and the answers are right
pub record IsSession (kb : Opened) (s : State) (own lits : List Lit) (models : FoundState) (ks : List Kept)
    (answers : List Answered) (numbers : GroundBase) (solver : SolveState) : Type 0 where
  pub choices : AreChoicesOver kb s.choices
  pub hashed : AreLitsOf (base_of kb) s.choices own
  pub unknown : AreUnknownOf (base_of kb) lits
  pub over : IsTaskOver (base_of kb) numbers solver
  pub found : AreFoundModels (base_of kb) models
  pub supports : All (IsSupported (base_of kb) s.choices) ks
  pub answered : All (IsKeptAnswer (base_of kb) s ks solver) answers

-- What a command leaves of the supports: those without the retracted choice, after `reset` those that need none, after
-- `forget` none. Every other command leaves all, and `propagate` adds some.
abbrev pub SupportsAfter : Base → State → Command → List Kept → List Kept → Type 0
SupportsAfter kb s (command.Retract l) old new = (lit : Lit) → HasNumber (atom_base kb) l lit
    → new ≡ (if is_chosen s l then without_support lit old else old)
SupportsAfter kb s command.Reset old new = new ≡ unsupported old
SupportsAfter kb s command.Forget old new = new ≡ []
SupportsAfter kb s _ old new = IsPrefix old new

-- `propagate` begins one search, and at most one for each unknown atom of which nothing is kept
abbrev pub PropagatesUpTo : Base → Command → List Kept → SolveState → SolveState → Type 0
PropagatesUpTo kb command.Propagate supports old new = (lits : List Lit) → AreOpen (atom_base kb) kb.known lits
    → SearchesUpTo (length (undecided supports lits) + 1) old new
PropagatesUpTo kb _ supports old new = ⊤

-- what a command does to what is kept beside the solver
pub record Carries (kb : Base) (c : Command) (result : Result Reply Memory) (old new : SessionState) : Type 0 where
  pub supports : SupportsAfter kb old.state c old.supports new.supports
  pub covers : IfOk result (CoversReply kb new.state.choices new.supports)
  pub propagates : PropagatesUpTo kb c old.supports old.solver new.solver

-- the command may stay without a reply because memory ran out
abbrev pub TakesMemory : Command → Type 0
TakesMemory (command.Retract l) = ⊥
TakesMemory command.Reset = ⊥
TakesMemory (command.Budget b) = ⊥
TakesMemory command.Forget = ⊥
TakesMemory _ = ⊤

-- all that is promised of a reply, but for what is kept of it
pub record Replies (kb : Base) (c : Command) (result : Result Reply Memory) (old new : SessionState) : Type 0 where
  pub right : IfOk result (RightReply kb old.state c)
  pub after : OnOk result (new.state ≡ state_after kb old.state c)
  pub kept : OnErr result (new.state ≡ old.state)
  pub prompt : OnErr result (TakesMemory c)
  pub kb_same : new.kb ≡ old.kb
  pub searches : Searches kb c old.state.budget result old.solver new.solver
  pub refuted : IfOk result (Refutes (atom_base kb) new.state.choices new.solver.cores)
  pub decided : NeedsModel c → AreRefuted (atom_base kb) old.state.choices old.solver.cores
      → IsRefusedAtOnce result old.solver new.solver
  pub carries : Carries kb c result old new

-- nothing changes but the answers
pub record IsSameButAnswers (old new : SessionState) : Type 0 where
  pub kb : new.kb ≡ old.kb
  pub state : new.state ≡ old.state
  pub solver : new.solver ≡ old.solver
  pub supports : new.supports ≡ old.supports

-- the reply to a query is kept, unless it stays undecided
abbrev pub IsKeptLast : List Answered → Command → Reply → Type 0
IsKeptLast answered c (reply.Undecided k) = ⊤
IsKeptLast answered c r = kept_reply answered c ≡ Some r

-- a repeated query gets the reply that is kept of it, and nothing changes
pub record IsRepeated (r : Reply) (result : Result Reply Memory) (old new : SessionState) : Type 0 where
  pub answer : IfOk result (λ x. x ≡ r)
  pub same : new ≡ old
