-- A table as the names that it lists.
use Rattle.std.specs.Prelude.{map}
use Rattle.stage_definitions.specs.Names as names
use Rattle.stage_definitions.specs.Names.{Names}
use Rattle.formula_names.specs.declared.tables.Meaning.{Meaning}
use Rattle.formula_names.specs.declared.tables.Meaning.TheVariants.{Undeclared, Integers, Naturals, TypeName, Predicate}
use Rattle.formula_names.specs.declared.tables.Meaning.TheVariants.{Function, Made, Variable}
use Rattle.formula_names.specs.declared.tables.Table.{Table}

abbrev pub meaning_view : Meaning → names.Meaning
meaning_view Undeclared = names.undeclared
meaning_view Integers = names.integers
meaning_view Naturals = names.naturals
meaning_view (TypeName t) = names.a_type t
meaning_view (Predicate s n) = names.predicate s n
meaning_view (Function s n) = names.function s n
meaning_view (Made t i) = names.made t i
meaning_view (Variable level) = names.variable level

abbrev pub names_in : Table → Names
names_in t = map (λ e. (e.0.now, meaning_view e.1)) t.meanings.entries
