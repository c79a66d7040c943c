-- Why a knowledge base may be refused.
use Rattle.std.specs.Prelude.{◌<◌, ⊤}
use Rattle.kb_logic.specs.Bases.{Base}
use Rattle.stage_definitions.specs.SizesStage.{weight_limit}
use Rattle.open_sizes.specs.OpenWeights.{base_weight}
use Rattle.grounder.specs.declared.errors.GroundError.{GroundError}
use Rattle.grounder.specs.declared.errors.GroundError.TheVariants.{TooLarge, Memory}

-- it weighs more than the limit, or there was no memory
abbrev pub IsRefused : Base → GroundError → Type 0
IsRefused base TooLarge = weight_limit < base_weight base
IsRefused base Memory = ⊤
