-- Numbers in command lines: budgets, which say how many conflicts a query may meet, and how many models are asked for.
use Rattle.std.specs.Prelude.{◌≤◌, ℕ, List}
use Rattle.kb_text.specs.Tokens.{decimal}

-- the greatest budget that is a number
abbrev pub most_budget : ℕ
most_budget = 1000000000000

-- the budget of a session for which none is given
abbrev pub default_budget : ℕ
default_budget = 100000

-- as many models may be asked for at once
abbrev pub most_models : ℕ
most_models = 1000

-- these digits are a number from 1 to the limit
pub record IsUpTo (limit : ℕ) (text : List ℕ) : Type 0 where
  pub least : 1 ≤ decimal text
  pub most : decimal text ≤ limit

-- these digits are a budget: a number from 1 on
abbrev pub IsBudget : List ℕ → Type 0
IsBudget text = IsUpTo most_budget text
