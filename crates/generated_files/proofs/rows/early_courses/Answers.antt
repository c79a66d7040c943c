use Rattle.std.proofs.Common.{rules, ◌∙◌, ◌≡◌, ◌%◌, ◌==◌, not, ◌++◌, ◌∷◌, [], true, false}
use Rattle.generated_files.proofs.Numbers.{one_taken, one_passed}
use Rattle.generated_files.proofs.rows.early_courses.Goals as goal
use Rattle.generated_files.proofs.rows.early_courses.Goals.{then-course-ne0+in_ok-push, else-course-ne0}

pub loop-course-preserved : goal.loop-course-preserved
loop-course-preserved c = elim c.if-course-ne0.branch [
  | then-course-ne0+in_ok-push w ↦
      let passes : not (c.loop-course.course % 4 == 0) ≡ true = search rules in
      let pushed : c.if-course-ne0.found.items ≡ c.loop-course.found.items ++ c.loop-course.course ∷ [] = search rules in
      rw pushed (one_taken (λ i. not (i % 4 == 0)) c.loop-course.found.items c.loop-course.course c.args.courses
      c.loop-course-test.true passes ∙ c.loop-course.invariant)
  | else-course-ne0 w ↦
      let fails : not (c.loop-course.course % 4 == 0) ≡ false = search rules in
      let same : c.if-course-ne0.found.items ≡ c.loop-course.found.items = search rules in
      rw same (one_passed (λ i. not (i % 4 == 0)) c.loop-course.found.items c.loop-course.course c.args.courses
      c.loop-course-test.true fails ∙ c.loop-course.invariant)
]
