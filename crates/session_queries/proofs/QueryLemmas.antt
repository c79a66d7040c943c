-- How queries of a task end, and what they learn.
use Rattle.std.proofs.Common.{◌≡◌, ◌∙◌, ℕ, ◌+◌, ◌*◌, ◌^◌, ◌<◌, ◌≤◌, List, length, refl, sym, ap, subst}
use Rattle.std.proofs.Common.{arith, Option, Some, None, Result, Ok, Err, IfOk, IfSome}
use Rattle.std.specs.declared.alloc.AllocError.{AllocError as Memory}
use Rattle.std.proofs.lemmas.Nat.{mul-le, pow_pos}
use Rattle.std.proofs.Math.Nat.{pow-le-pow_right}
use Rattle.kb_logic.specs.declared.structures.Literal.{Literal}
use Rattle.kb_logic.specs.Bases.{Base}
use Rattle.lit_core.specs.declared.literals.Lit.{Lit}
use Rattle.term_values.specs.GroundBases.{GroundBase}
use Rattle.ground_core.specs.declared.solving.Budget.{Budget}
use Rattle.ground_core.specs.declared.solving.Halt.{Halt}
use Rattle.ground_core.specs.declared.solving.Halt.TheVariants as halt
use Rattle.ground_core.specs.Solving.{SolveState, HaltedAt, IsBudgetOf, IsKept}
use Rattle.ground_core.specs.Calls.{CallEnds}
use Rattle.ground_task.specs.Tasks.{IsTaskOf}
use Rattle.clause_learning.specs.GoingOn.{prefix-same}
use Rattle.consult_text.specs.declared.commands.Command.{Command}
use Rattle.consult_text.specs.declared.replies.Reply.{Reply}
use Rattle.consult_text.specs.declared.replies.Reply.TheVariants as reply
use Rattle.consult_text.specs.Replies.{IsQuery}
use Rattle.consult_text.specs.RightReplies.{RightAnswer}
use Rattle.consult_text.specs.Searches.{weight, searches}
use Rattle.session_queries.specs.Queries.{IsHalted, Learns, QueryEnds, Refutes}

-- at most m searches with at most so many free variables are no more than these
pub enough_for : (m n free most spent : ℕ) → m ≤ n → free ≤ most → spent < m * 2 ^ (free + m)
    → spent < n * 2 ^ (most + n)
enough_for m n free most spent fewer small less =
    omega (
      arith,
      less,
      mul-le m (2 ^ (free + m)) n (2 ^ (most + n)) fewer
          (pow-le-pow_right (pow_pos 1) (omega (arith, fewer, small))),
    )

-- nothing of a budget is spent
pub unspent_budget : (budget : Option ℕ) (learnt : List (List Lit)) (b : Budget)
    → b ≡ record { limit = budget; spent = 0 } → IsBudgetOf learnt b
unspent_budget budget learnt b begun = subst (IsBudgetOf learnt) (sym begun) (record {
  within = within budget;
  learned = omega arith;
})
  where
    within : (o : Option ℕ) → IfSome o (λ most. 0 ≤ most)
    within None = tt
    within (Some n) = omega arith

-- a query asks its task once: for at most n searches
pub record IsCalled (n : ℕ) (c : Command) (budget : Option ℕ) (numbers numbers' : GroundBase)
    (old new : SolveState) (b spent : Budget) : Type 0 where
  pub query : IsQuery c
  pub begun : b ≡ record { limit = budget; spent = 0 }
  pub ends : CallEnds n old new b spent
  pub task : (kb : Base) → IsTaskOf kb numbers old.problem → IsTaskOf kb numbers' new.problem

module _ (Of : Base → Type 0) (choices : List Literal) {n : ℕ} {c : Command} {budget : Option ℕ}
    {numbers numbers' : GroundBase} {old new : SolveState} {b spent : Budget}
    (called : IsCalled n c budget numbers numbers' old new b spent) where
  unspent : b.spent ≡ 0
  unspent = ap (λ (x : Budget). x.spent) called.begun

  limited : spent.limit ≡ budget
  limited = called.ends.keeps.limit ∙ ap (λ (x : Budget). x.limit) called.begun

  learnt_is : length new.learnt ≡ length old.learnt + spent.spent
  learnt_is = omega (arith, called.ends.keeps.growth, unspent)

  few : spent.spent < n * 2 ^ (old.free + n)
  few = omega (arith, called.ends.costs.spent, unspent)

  within : (o : Option ℕ) → IfSome o (λ most. spent.spent ≤ most)
      → IfSome o (λ most. length new.learnt ≤ length old.learnt + most)
  within None is = tt
  within (Some most) is = omega (arith, is, learnt_is)

  counted : (result : Result Reply Memory) → IfOk result (λ r. (k : ℕ) → r ≡ reply.Undecided k → k ≡ spent.spent)
      → IfOk result (λ r. (k : ℕ) → r ≡ reply.Undecided k → length new.learnt ≡ length old.learnt + k)
  counted (Ok r) is = λ k same. omega (arith, learnt_is, is k same)
  counted (Err e) is = tt

  learns : (result : Result Reply Memory) → IfOk result (λ r. (k : ℕ) → r ≡ reply.Undecided k → k ≡ spent.spent)
      → Learns c budget result old new
  learns result undecided = record {
    front = called.ends.keeps.learnt;
    cores = called.ends.keeps.cores;
    within = within budget
        (subst (λ (o : Option ℕ). IfSome o (λ most. spent.spent ≤ most)) limited called.ends.keeps.within);
    undecided = counted result undecided;
    idle = λ other. absurd (other called.query);
  }

  ended : (result : Result Reply Memory) → IfOk result (λ r. (k : ℕ) → r ≡ reply.Undecided k → k ≡ spent.spent)
      → IfOk result (Refutes numbers choices new.cores)
      → ((kb : Base) → Of kb → old.free ≤ weight kb
      → IfOk result (RightAnswer kb (record { choices = choices; budget = budget }) c))
      → QueryEnds Of c choices budget numbers numbers' old new result
  ended result undecided refuted right = record {
    right = right;
    task = called.task;
    refuted = refuted;
    learns = learns result undecided;
    kept = called.ends.kept;
    free = called.ends.free;
  }

  -- it ends with a reply that decides it
  pub found : (r : Reply) → ((k : ℕ) → r ≡ reply.Undecided k → ⊥) → Refutes numbers choices new.cores r
      → ((kb : Base) → Of kb
      → RightAnswer kb (record { choices = choices; budget = budget }) c r)
      → QueryEnds Of c choices budget numbers numbers' old new (Ok r)
  found r decided refuted right =
      ended (Ok r) (λ k is. absurd (decided k is)) refuted (λ kb is few. right kb is)

  -- or it halts, and is undecided at less than what is enough
  pub halts : (h : Halt) (result : Result Reply Memory) → HaltedAt spent h → IsHalted h spent result
      → ((kb : Base) → Of kb
      → n ≤ searches kb (record { choices = choices; budget = budget }) c)
      → QueryEnds Of c choices budget numbers numbers' old new result
  halts halt.Spent (Ok r) at is fewer = ended (Ok r)
      (λ k same. let both : reply.Undecided k ≡ reply.Undecided spent.spent = sym same ∙ is in cc)
      (subst (Refutes numbers choices new.cores) (sym is) tt)
      (λ kb task small. subst (RightAnswer kb (record { choices = choices; budget = budget }) c) (sym is) (
        called.query,
        (
          sym limited ∙ at,
          enough_for n (searches kb (record { choices = choices; budget = budget }) c) old.free (weight kb) spent.spent
              (fewer kb task) small few,
        ),
      ))
  halts halt.Spent (Err e) at is fewer = absurd is
  halts halt.Memory (Ok r) at is fewer = absurd is
  halts halt.Memory (Err e) at is fewer = ended (Err e) tt tt (λ kb task small. tt)

-- nothing is learnt beyond what is left
pub learns_nothing : (c : Command) (budget : Option ℕ) (result : Result Reply Memory) (left new : SolveState)
    → new.learnt ≡ left.learnt → new.cores ≡ left.cores → IfOk result (λ r. (k : ℕ) → r ≡ reply.Undecided k → ⊥)
    → Learns c budget result left new
learns_nothing c budget result left new learnt cores decided = record {
  front = prefix-same left.learnt new.learnt learnt;
  cores = prefix-same left.cores new.cores cores;
  within = within budget;
  undecided = counted result decided;
  idle = λ other. (learnt, cores);
}
  where
    within : (o : Option ℕ) → IfSome o (λ most. length new.learnt ≤ length left.learnt + most)
    within None = tt
    within (Some most) = omega (arith, ap (λ (ls : List (List Lit)). length ls) learnt)

    counted : (result : Result Reply Memory) → IfOk result (λ r. (k : ℕ) → r ≡ reply.Undecided k → ⊥)
        → IfOk result (λ r. (k : ℕ) → r ≡ reply.Undecided k → length new.learnt ≡ length left.learnt + k)
    counted (Ok r) decided = λ k is. absurd (decided k is)
    counted (Err e) decided = tt

-- a query that ends without a search: nothing happens
pub unsearched : (Of : Base → Type 0) (choices : List Literal) {c : Command} {budget : Option ℕ}
    {numbers : GroundBase} {old : SolveState} → IsKept old
    → (result : Result Reply Memory) → IfOk result (λ r. (k : ℕ) → r ≡ reply.Undecided k → ⊥)
    → IfOk result (Refutes numbers choices old.cores)
    → ((kb : Base) → Of kb → IfOk result (RightAnswer kb (record { choices = choices; budget = budget }) c))
    → QueryEnds Of c choices budget numbers numbers old old result
unsearched Of choices {c} {budget} {numbers} {old} kept result decided refuted right =
    record {
      right = λ kb is few. right kb is;
      task = λ kb is. is;
      refuted = refuted;
      learns = learns_nothing c budget result old old refl refl decided;
      kept = kept;
      free = refl;
    }

-- what ends so for each knowledge base of one kind, does for those of a narrower kind
pub narrower : (Of Of' : Base → Type 0) (choices : List Literal) {c : Command} {budget : Option ℕ}
    {numbers numbers' : GroundBase} {old new : SolveState} {result : Result Reply Memory}
    → ((kb : Base) → Of kb → Of' kb) → QueryEnds Of' c choices budget numbers numbers' old new result
    → QueryEnds Of c choices budget numbers numbers' old new result
narrower Of Of' choices of ends = record {
  right = λ kb is few. ends.right kb (of kb is) few;
  task = ends.task;
  refuted = ends.refuted;
  learns = ends.learns;
  kept = ends.kept;
  free = ends.free;
}
