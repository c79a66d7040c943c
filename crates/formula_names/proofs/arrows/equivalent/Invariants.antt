use Rattle.std.proofs.Common.{◌≡◌, map, drop, length}
use Rattle.stage_definitions.specs.Numbering as numbers
use Rattle.stage_definitions.specs.NamedViews.{formula_view}
use Rattle.formula_names.proofs.arrows.equivalent.Given as goal

abbrev pub invariant-loop-right : goal.invariant-loop-right
invariant-loop-right l =
    numbers.equivalent (formula_view l.left) (map formula_view (drop (length l.yielded) l.fn.more.items))
    ≡ numbers.equivalent (formula_view l.fn.first) (map formula_view l.fn.more.items)
