-- The further items of raw lists.
use Rattle.std.specs.Prelude.{ℕ}
use Rattle.stage_definitions.specs.Files.{Declaration, type_under, constructed_type, symbol}
use Rattle.grammar.specs.Trees.{Var}
use Rattle.grammar.specs.View.{var_view}
use Rattle.grammar.specs.declared.raw.RawVarTail.{RawVarTail}

abbrev pub tail_var : RawVarTail → Var
tail_var v = var_view v.var

-- how many types, and how many symbols, a declaration declares
abbrev pub type_count : Declaration → ℕ
type_count (type_under n p) = 1
type_count (constructed_type n ns) = 1
type_count (symbol n args to) = 0

abbrev pub symbol_count : Declaration → ℕ
symbol_count (type_under n p) = 0
symbol_count (constructed_type n ns) = 0
symbol_count (symbol n args to) = 1
