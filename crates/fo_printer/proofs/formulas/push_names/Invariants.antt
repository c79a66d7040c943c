use Rattle.std.proofs.Common.{◌≡◌, ◌++◌, take}
use Rattle.printed_texts.specs.FormulaPrints.{bound_names}
use Rattle.fo_printer.proofs.formulas.push_names.Given as goal

abbrev pub invariant-loop-bound : goal.invariant-loop-bound
invariant-loop-bound l = l.scope.items ≡ l.initial.scope.items ++ bound_names (take l.bound-index l.bounds)
