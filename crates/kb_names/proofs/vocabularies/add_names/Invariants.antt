use Rattle.std.proofs.Common.{◌≡◌, ◌++◌, take, map}
use Rattle.stage_definitions.specs.FileView.{element_name}
use Rattle.stage_definitions.specs.Names.{text_of}
use Rattle.kb_names.proofs.vocabularies.add_names.Given as goal

abbrev pub invariant-loop-tail : goal.invariant-loop-tail
invariant-loop-tail l = l.names ≡ l.initial.names ++ map text_of (map element_name (take l.tail-index l.more))
