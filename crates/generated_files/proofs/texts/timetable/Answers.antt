use Rattle.std.proofs.Common.{rules, ◌≡◌, ◌∙◌, ◌++◌, refl, codes}
use Rattle.std.proofs.lemmas.Result.{IfOk-weaker}
use Rattle.generated_files.specs.Texts.{early_courses, pairs_line, rooms, span_line}
use Rattle.generated_files.proofs.texts.timetable.Goals as goal

pub returns : goal.returns
returns c =
    let course : c.as_str.result.now ≡ span_line (codes "Course") c.args.courses ++ codes "\n" = search rules in
    let room : c.as_str-2.result.now ≡ span_line (codes "Room") (rooms c.args.courses) ++ codes "\n" = search rules in
    let before : c.as_str-3.result.now ≡ pairs_line (codes "Before") (early_courses c.args.courses) ++ codes "\n" =
    search rules in
    IfOk-weaker c.join.result _ _ (λ text joined. joined ∙ rw (c.as_slice-2.ensures, course, room, before) refl) c.join.ensures.ok
