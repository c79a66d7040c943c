-- Rules of decisions.
use Rattle.std.specs.Prelude.{◌≡◌, ℕ, ◌+◌, List, length}
use Rattle.chooser.specs.Choosing.{IsFirstGreatest}
use Rattle.solving_judge.specs.declared.rules.Rule.{Rule}
use Rattle.solving_judge.specs.declared.rules.Rule.TheVariants.{Greatest, First, Last}

-- of these scores the rule chooses the one at this place
abbrev pub IsChosen : Rule → List ℕ → ℕ → Type 0
IsChosen Greatest scores place = IsFirstGreatest scores place
IsChosen First scores place = place ≡ 0
IsChosen Last scores place = place + 1 ≡ length scores
