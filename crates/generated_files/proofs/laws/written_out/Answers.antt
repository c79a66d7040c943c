use Rattle.std.proofs.Common.{refl}
use Rattle.std.specs.Fmt.{digits}
use Rattle.generated_files.proofs.laws.written_out.Goals as goal

-- all of both texts computes
pub returns-clause-timetable : goal.returns-clause-timetable
unfolding digits
returns-clause-timetable c = refl

pub returns-clause-roster : goal.returns-clause-roster
unfolding digits
returns-clause-roster c = refl
