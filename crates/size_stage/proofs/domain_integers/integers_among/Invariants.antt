use Rattle.std.proofs.Common.{◌≡◌, drop}
use Rattle.std.specs.Option.{option_map}
use Rattle.kb_logic.specs.Bounds.{integers}
use Rattle.size_stage.specs.Ranges.{range_view}
use Rattle.size_stage.proofs.Widening.{both}
use Rattle.size_stage.proofs.domain_integers.integers_among.Given as goal

abbrev pub invariant-loop-elem : goal.invariant-loop-elem
invariant-loop-elem l = both (option_map range_view l.found) (integers (drop l.elem-index l.domain)) ≡ integers l.domain
