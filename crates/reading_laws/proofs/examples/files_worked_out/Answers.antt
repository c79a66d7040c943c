use Rattle.std.proofs.Common.{refl}
use Rattle.reading_laws.proofs.examples.files_worked_out.Goals as goal

pub returns : goal.returns
returns c = record {
  propositions = refl;
  empty = refl;
  empty_accepted = refl;
  items_accepted = refl;
  items_given = refl;
  only_a_accepted = refl;
  only_a_given = refl;
  both_given = refl;
  queens_accepted = refl;
  queens_given = refl;
  courses_accepted = refl;
  courses_given = refl;
}
