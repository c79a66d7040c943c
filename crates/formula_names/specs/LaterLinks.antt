-- The operands of a formula after its first arrow.
use Rattle.std.specs.Prelude.{List, []}
use Rattle.grammar.specs.Trees.{Formula, alone, linked}
use Rattle.stage_definitions.specs.Scopes.{Text}
use Rattle.stage_definitions.specs.Names.{Names}
use Rattle.stage_definitions.specs.NamedTrees.{NamedFormula}
use Rattle.stage_definitions.specs.Numbering.{named_links}
use Rattle.stage_definitions.specs.Uses.{Context, Use, uses_in_links}

-- with numbers for words
abbrev pub later_operands : Names → List Text → Formula → List NamedFormula
later_operands names scope (alone o) = []
later_operands names scope (linked a o p ls) = named_links names scope ls

-- the uses in them
abbrev pub later_uses : Context → Formula → List Use
later_uses c (alone o) = []
later_uses c (linked a o p ls) = uses_in_links c ls
