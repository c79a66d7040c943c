-- How far apart the values of a term block can be, and so how many searches its least value takes.
use Rattle.std.proofs.Common.{◌≡◌, ◌∙◌, ℕ, ◌<◌, ◌≤◌, ℤ, pos, negsuc, ◌+ℤ◌, ◌-ℤ◌, ◌≤ℤ◌, nat_abs, Bool, List, []}
use Rattle.std.proofs.Common.{length}
use Rattle.std.proofs.Common.{zero, suc, ◌∷◌, Option, Some, None, Result, refl, sym, subst, arith, slice_get}
use Rattle.std.proofs.lemmas.Int.{ints}
use Rattle.std.specs.declared.alloc.AllocError.{AllocError as Memory}
use Rattle.kb_logic.specs.declared.elements.Elem.{Elem}
use Rattle.kb_logic.specs.declared.structures.Literal.{Literal}
use Rattle.kb_logic.specs.Bases.{Base, NamedTerm, IsModelUnder}
use Rattle.kb_logic.specs.Bounds.{Interval, bounds_of, width_of, IsWithin, ValueIsWithin}
use Rattle.kb_logic.specs.Denotations.{number}
use Rattle.kb_logic.specs.Meaning.{value_of}
use Rattle.kb_logic.proofs.WithinBounds.{values_lie_within_bounds}
use Rattle.ground_core.specs.declared.solving.Budget.{Budget}
use Rattle.ground_core.specs.declared.solving.Halt.{Halt}
use Rattle.ground_core.specs.Problems.{ProblemState}
use Rattle.ground_core.specs.Meaning.{Satisfies}
use Rattle.ground_core.specs.Growing.{value_at}
use Rattle.ground_core.specs.Solving.{SolveState, HaltedAt}
use Rattle.model_minimiser.specs.Minima.{Spans}
use Rattle.term_values.specs.GroundBases.{GroundBase, structure_of}
use Rattle.ground_task.specs.Tasks.{IsTaskOf, Represents, atom_base}
use Rattle.consult_text.specs.declared.commands.Command.{Command}
use Rattle.consult_text.specs.declared.replies.Reply.{Reply}
use Rattle.consult_text.specs.Searches.{searches, term_width}
use Rattle.consult_text.specs.States.{State}
use Rattle.session_queries.specs.Queries.{QueryEnds, IsHalted}
use Rattle.session_queries.proofs.QueryLemmas.{IsCalled, halts}

-- two numbers within an interval are no further apart than it is wide
near : (i : Interval) (x y : ℤ) → IsWithin i x → IsWithin i y → x ≤ℤ (y +ℤ pos (width_of i))
near i x y a b =
    let below : (z : ℤ) → z ≤ℤ pos (nat_abs z) = λ z. elim z [
      | pos n ↦ omega (arith, ints)
      | negsuc n ↦ omega (arith, ints)
    ] in
    omega (arith, ints, a.low, a.high, b.low, b.high, below (i.high -ℤ i.low))

-- a number that a block's term is in a structure of the task lies within the term's static bounds
within : (kb : Base) (p : ProblemState) → Represents kb p → (n : ℕ) (t : NamedTerm)
    → slice_get kb.terms n ≡ Some t → (v : ℕ → Bool) → Satisfies p v → (x : ℤ) → value_at p n v ≡ number x
    → IsWithin (bounds_of kb.vocabulary kb.known.domains t.term []) x
within kb p is n t at v holds x value =
    let m = structure_of (atom_base kb) v in
    let model : IsModelUnder kb [] m = is.gives v holds in
    let is_value : value_of m t.term [] ≡ number x = sym (is.terms n t at v holds) ∙ value in
    let whole : ValueIsWithin (bounds_of kb.vocabulary m.domains t.term []) (value_of m t.term []) =
    values_lie_within_bounds kb.vocabulary m model.structure t.term [] [] tt in
    subst (λ (domains : List (List Elem)). IsWithin (bounds_of kb.vocabulary domains t.term []) x) model.extends.domains
    (subst (ValueIsWithin (bounds_of kb.vocabulary m.domains t.term [])) is_value whole)

-- there is an item at each place below the length
some_at : {A : Type 0} (xs : List A) (k : ℕ) → k < length xs → slice_get xs k ≡ None → ⊥
some_at [] k less none = omega (arith, less)
some_at (x ∷ xs) zero less none = cc
some_at (x ∷ xs) (suc k) less none = some_at xs k (omega (arith, less)) none

spans_at : (kb : Base) (p : ProblemState) (n : ℕ) → Represents kb p → n < length p.terms → (o : Option NamedTerm)
    → slice_get kb.terms n ≡ o → Spans p n (term_width kb n)
spans_at kb p n is few None none = λ v w x y a b value other.
    absurd (some_at kb.terms n (subst (λ (k : ℕ). n < k) is.number few) none)
spans_at kb p n is few (Some t) at = λ v w x y a b value other.
    let i = bounds_of kb.vocabulary kb.known.domains t.term [] in
    let width : term_width kb n ≡ width_of i = rw (at) refl in
    subst (λ (k : ℕ). x ≤ℤ (y +ℤ pos k)) (sym width)
    (near i x y (within kb p is n t at v a x value) (within kb p is n t at w b y other))

-- so the values of a block's term in a task are no further apart than its static bounds are wide
pub spans : (kb : Base) (numbers : GroundBase) (p : ProblemState) (n : ℕ) → IsTaskOf kb numbers p → n < length p.terms
    → Spans p n (term_width kb n)
spans kb numbers p n is few = spans_at kb p n is.represents few (slice_get kb.terms n) refl

-- a query whose searches are counted by each knowledge base of which it is a task halts, undecided at less than what is
-- enough for it
pub halts_by : (Of : Base → Type 0) (choices : List Literal) {c : Command} {budget : Option ℕ}
    {numbers numbers' : GroundBase} {old new : SolveState} {b spent : Budget}
    → ((kb : Base) → Of kb
    → IsCalled (searches kb (record { choices = choices; budget = budget }) c) c budget numbers numbers' old new b
    spent)
    → (kb : Base) → Of kb → (h : Halt) (result : Result Reply Memory) → HaltedAt spent h → IsHalted h spent result
    → QueryEnds Of c choices budget numbers numbers' old new result
halts_by Of choices {c} {budget} called kb of h result at is =
    let state : State = record { choices = choices; budget = budget } in
    let each : (k : Base) → Of k → QueryEnds (λ (b : Base). b ≡ k) c choices budget _ _ _ _ result = λ k of_k.
    halts (λ (b : Base). b ≡ k) choices (called k of_k) h result at is
    (λ b same. subst (λ (x : Base). searches k state c ≤ searches x state c) (sym same) (omega arith)) in
    let one = each kb of in
    record {
      right = λ k of_k small. (each k of_k).right k refl small;
      task = one.task;
      refuted = one.refuted;
      learns = one.learns;
      kept = one.kept;
      free = one.free;
    }
