use Rattle.std.proofs.Common.{◌≡◌, ◌≢◌, ◌<◌, ℕ, Some}
use Rattle.std.specs.List.{slice_get}
use Rattle.kb_logic.specs.declared.vocabularies.Symbol.{Symbol}
use Rattle.consult_text.proofs.lookup.find_symbol.Given as goal

abbrev pub invariant-loop-number : goal.invariant-loop-number
invariant-loop-number l = (n : ℕ) (t : Symbol) → n < l.number → slice_get l.symbols n ≡ Some t → t.name ≢ l.name
