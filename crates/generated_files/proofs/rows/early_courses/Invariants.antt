use Rattle.std.proofs.Common.{◌≡◌, ◌-◌, ◌%◌, ◌==◌, not, ◌++◌}
use Rattle.std.specs.List.{filter, range_with_len}
use Rattle.generated_files.specs.Texts.{early_courses}
use Rattle.generated_files.proofs.rows.early_courses.Given as goal

-- those found, and those among the courses to come, are all
abbrev pub invariant-loop-course : goal.invariant-loop-course
invariant-loop-course l = l.found.items ++ filter (λ i. not (i % 4 == 0)) (range_with_len l.course (l.courses - l.course))
    ≡ early_courses l.courses
