use Rattle.std.proofs.Common.{List, refl, sym, subst}
use Rattle.std.proofs.lemmas.Bool.{both_ways}
use Rattle.lit_core.specs.Literals.{valuation}
use Rattle.ground_core.specs.declared.solving.Verdict.TheVariants as verdict
use Rattle.ground_core.specs.Solving.{Answers}
use Rattle.solving_judge.specs.declared.problems.Said.{Said}
use Rattle.solving_judge.specs.Sayings.{IsFirstValue, problem_changed, problem_said}
use Rattle.solving_judge.proofs.AskFacts.{same-first}
use Rattle.solving_judge.proofs.SuitFacts.{changed-fields}
use Rattle.solving_judge.proofs.asking.of_values.Goals as goal

pub returns-then-not-is_first_value-clause-right : goal.returns-then-not-is_first_value-clause-right
returns-then-not-is_first_value-clause-right c = λ given len.
    let v = valuation c.args.values.now in
    let said = c.args.spoken.now.said.items in
    let events = c.args.events.now in
    let same = changed-fields (problem_said given said) events in (
      λ e. cc,
      λ h. absurd (both_ways c.is_first_value.result c.if-not-is_first_value.true
          ((c.is_first_value.ensures given).1 (subst (λ (xs : List Said). IsFirstValue (problem_said given xs) v
          c.args.value) (sym c.deref-2.ensures.value) (same-first (problem_changed given said events)
          (problem_said given said) v c.args.value (sym same.1) h.1)))),
    )

pub returns-clause-right : goal.returns-clause-right
returns-clause-right c = λ given len.
    let values = c.args.values.now in
    let v = valuation values in
    let said = c.args.spoken.now.said.items in
    let events = c.args.events.now in
    let assume = c.args.assume.now in
    let same = changed-fields (problem_said given said) events in
    let answers : Answers (problem_changed given said events) assume (verdict.Sat values) =
    subst (λ (xs : List Said). Answers (problem_changed given xs events) assume (verdict.Sat values))
    c.deref.ensures.value ((c.are_right.ensures given len).0 c.if-not-are_right.false) in
    let first : IsFirstValue (problem_said given said) v c.args.value =
    subst (λ (xs : List Said). IsFirstValue (problem_said given xs) v c.args.value) c.deref-2.ensures.value
    ((c.is_first_value.ensures given).0 c.if-not-is_first_value.false) in (
      λ _. (
        answers,
        same-first (problem_said given said) (problem_changed given said events) v c.args.value same.1 first,
      ),
      λ _. refl,
    )
