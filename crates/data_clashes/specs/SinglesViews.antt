-- Facts in memory by their only arguments.
use Rattle.std.specs.Prelude.{◌≡◌, ℕ, Bool, true, List}
use Rattle.stage_definitions.specs.DataFacts.{Fact}
use Rattle.data_domains.specs.Sets.{IsSetOf}
use Rattle.data_clashes.specs.Opposing.{opposing}
use Rattle.data_clashes.specs.RunViews.{cells_against}
use Rattle.data_clashes.specs.declared.singles.Singles.{Singles}

-- they are the arguments of these facts, and what is known to stand against facts of a symbol and sign are those of
-- these that do
pub record AreSinglesOf (before : List Fact) (t : Singles) : Type 0 where
  pub runs : (symbol : ℕ) (holds : Bool) → cells_against symbol holds t.runs ≡ opposing symbol holds before
  pub known : t.is_known ≡ true → IsSetOf (opposing t.symbol t.holds before) t.elements
