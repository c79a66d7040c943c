-- What commands do to the solver, and what queries leave of the task.
use Rattle.std.proofs.Common.{◌≡◌, ◌∙◌, ℕ, ◌<◌, ◌≤◌, List, length, refl, sym, ap, subst, inl, inr}
use Rattle.std.proofs.Common.{Option, Some, None, Result, IfOk}
use Rattle.std.specs.declared.alloc.AllocError.{AllocError as Memory}
use Rattle.kb_logic.specs.declared.structures.Literal.{Literal}
use Rattle.kb_logic.specs.Bases.{Base}
use Rattle.lit_core.specs.declared.literals.Lit.{Lit}
use Rattle.term_values.specs.GroundBases.{GroundBase}
use Rattle.ground_core.specs.Solving.{SolveState}
use Rattle.ground_task.specs.Tasks.{atom_base}
use Rattle.consult_text.specs.declared.commands.Command.{Command}
use Rattle.consult_text.specs.declared.refusals.F.{F}
use Rattle.consult_text.specs.declared.replies.Reply.{Reply}
use Rattle.consult_text.specs.declared.replies.Reply.TheVariants as reply
use Rattle.consult_text.specs.States.{State}
use Rattle.consult_text.specs.Replies.{IsQuery, IsAnswerTo}
use Rattle.consult_text.specs.RightReplies.{RightUnless}
use Rattle.consult_text.specs.Searches.{weight}
use Rattle.session_queries.specs.Queries.{QueryEnds, Refutes}
use Rattle.session_queries.specs.Solvers.{IsTaskOver, IsSolverOf}
use Rattle.session_queries.proofs.QueryLemmas.{learns_nothing}
use Rattle.consultant_session.specs.Commands.{left_by, most_additions, MayOpenAnew, IsLeft, IsKeptOrNew, Searches}
use Rattle.consultant_session.proofs.SolverLemmas.{solver-of}

-- a command without a search learns nothing
pub idle : (kb : Base) (c : Command) (budget : Option ℕ) (result : Result Reply Memory) (old new : SolveState)
    → new.learnt ≡ left_by c old.learnt → new.cores ≡ left_by c old.cores
    → IfOk result (λ r. (k : ℕ) → r ≡ reply.Undecided k → ⊥) → IsSolverOf kb new
    → Searches kb c budget result old new
idle kb c budget result old new learnt cores decided is = record {
  solver = is;
  left = new;
  from = inl (learnt, cores);
  learns = learns_nothing c budget result new new refl refl decided;
}

-- a right reply to a command that is no query leaves nothing undecided
pub decides : (f : Option F) (kb : Base) (s : State) (c : Command) (r : Reply) → (IsQuery c → ⊥)
    → RightUnless f kb s c r → (k : ℕ) → r ≡ reply.Undecided k → ⊥
decides (Some f) kb s c r other is k same = let both : reply.Undecided k ≡ reply.Refused f = sym same ∙ is in cc
decides None kb s c r other is k same = other (subst (IsAnswerTo c) same is.0)

-- the task of a session after a query
pub still_over : (Of : Base → Type 0) (kb : Base) (c : Command) (choices : List Literal) (budget : Option ℕ)
    (numbers numbers' : GroundBase) (old new : SolveState) (result : Result Reply Memory)
    → QueryEnds Of c choices budget numbers numbers' old new result
    → IsTaskOver kb numbers old → IsTaskOver kb numbers' new
still_over Of kb c choices budget numbers numbers' old new result ends is = record {
  task = ends.task kb is.task;
  kept = ends.kept;
  free = subst (λ (n : ℕ). n ≤ weight kb) (sym ends.free) is.free;
}

-- what stays of what a command finds, where the task is as it was, or opened anew
pub left_of : (c : Command) (old mid : SolveState) → (left_by c old.learnt ≡ old.learnt)
    → (left_by c old.cores ≡ old.cores) → (most_additions < length old.additions → MayOpenAnew c old)
    → IsKeptOrNew old mid → IsLeft c old mid
left_of c old mid learnt cores may (inl same) =
    inl (ap (λ (s : SolveState). s.learnt) same ∙ sym learnt, ap (λ (s : SolveState). s.cores) same ∙ sym cores)
left_of c old mid learnt cores may (inr new) = inr (may new.0, new.1, new.2)

-- and what the query did to its solver
pub query_searches : (Of : Base → Type 0) (kb : Base) (c : Command) (choices : List Literal) (budget : Option ℕ)
    (numbers numbers' : GroundBase) (old mid new : SolveState) (result : Result Reply Memory) → IsLeft c old mid
    → QueryEnds Of c choices budget numbers numbers' mid new result → IsTaskOver kb numbers mid
    → Searches kb c budget result old new
query_searches Of kb c choices budget numbers numbers' old mid new result left ends is = record {
  solver = solver-of kb numbers' new (still_over Of kb c choices budget numbers numbers' mid new result ends is);
  left = mid;
  from = left;
  learns = ends.learns;
}

-- that there is no model is shown in the knowledge base's own numbers
pub refuted_by : (kb : Base) (numbers : GroundBase) (choices choices' : List Literal) (cores : List (List Lit))
    (result : Result Reply Memory) → numbers ≡ atom_base kb → choices ≡ choices'
    → IfOk result (Refutes numbers choices cores) → IfOk result (Refutes (atom_base kb) choices' cores)
refuted_by kb numbers choices choices' cores result same is refuted =
    subst (λ (ls : List Literal). IfOk result (Refutes (atom_base kb) ls cores)) is
    (subst (λ (b : GroundBase). IfOk result (Refutes b choices cores)) same refuted)
