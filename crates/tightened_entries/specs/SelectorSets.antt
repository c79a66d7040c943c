-- Selectors that are hashed.
use Rattle.std.specs.Prelude.{◌≡◌, ℕ, nat_eq}
use Rattle.std.specs.List.{list_any}
use Rattle.tightened_entries.specs.declared.selectors.Selectors.{Selectors}

-- the same variables are listed and hashed
abbrev pub AreHashed : Selectors → Type 0
AreHashed s = (n : ℕ) → list_any (nat_eq n) s.set.keys ≡ list_any (nat_eq n) s.list.items
