-- What the fields of a checker know.
use Rattle.log_checker.specs.declared.checker.Checker.TheInside.{Inside}
use Rattle.log_checker.specs.States.{state_view}
use Rattle.log_checker.specs.Growing.{Checking, known}
use Rattle.log_checker.specs.Keeping.{IsKept}

abbrev pub checking_of : Inside → Checking
checking_of c = known c.problem (state_view c.st)

abbrev pub keeps : Inside → Type 0
keeps c = IsKept (checking_of c)
