-- A side that is gathered value by value.
use Rattle.std.specs.Prelude.{List, ◌++◌, Option, Some, None}
use Rattle.std.specs.Option.{option_map}
use Rattle.lit_core.specs.declared.literals.Lit.{Lit}

-- a side that is gathered so far, with what is to come
abbrev pub joined : Option (List Lit) → Option (List Lit) → Option (List Lit)
joined None o = None
joined (Some ls) o = option_map (λ ks. ls ++ ks) o
