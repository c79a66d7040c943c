-- Worked examples of the stage of blocks, and of types below one another.
use Rattle.std.specs.Prelude.{◌≡◌, true, false, List, [], ◌∷◌, None, Some, codes}
use Rattle.stage_definitions.specs.Below.{Parents, is_below}
use Rattle.stage_definitions.specs.BlocksStage.{over, called, one_of, wanted, is_unknown, is_redeclared, is_choiceless}
use Rattle.stage_definitions.specs.BlocksStage.{chosen, one_unless_named}
use Rattle.grammar.specs.Trees.{Name, name}

-- `theory T : V {}` and `theory U : V {}`, by their names
abbrev pub two_theories : List Name
two_theories = name (codes "T") 3 ∷ name (codes "U") 7 ∷ []

pub record BlocksAreWorkedOut : Type 0 where
  -- a header names the first vocabulary, if there is one
  pub other_vocabulary : is_unknown (over (Some (codes "V")) (name (codes "W") 7)) ≡ true
  pub same_vocabulary : is_unknown (over (Some (codes "V")) (name (codes "V") 7)) ≡ false
  pub no_vocabulary : is_unknown (over None (name (codes "V") 7)) ≡ true
  -- of two equal names the second is refused
  pub second_name : is_redeclared (called (name (codes "T") 3 ∷ two_theories) (name (codes "T") 5)) ≡ true
  pub first_name : is_redeclared (called (name (codes "T") 5 ∷ two_theories) (name (codes "T") 3)) ≡ false
  pub second_block : is_choiceless (one_of 1 60) ≡ true
  pub only_block : is_choiceless (one_of 0 20) ≡ false
  -- a name chooses among many; where none is given the first is meant
  pub named_second : chosen two_theories (Some (codes "U")) ≡ Some 1
  pub first_of_all : chosen two_theories None ≡ Some 0
  pub more_where_named : one_unless_named (Some (codes "T")) (20 ∷ 60 ∷ []) ≡ []
  pub not_there : is_choiceless (wanted two_theories (Some (codes "W")) 90) ≡ true
  pub none_there : is_choiceless (wanted [] None 90) ≡ true

-- type A isa B  type B isa C  type C  type D isa C
abbrev pub four_types : Parents
four_types = Some 1 ∷ Some 2 ∷ None ∷ Some 2 ∷ []

pub record BelowIsWorkedOut : Type 0 where
  pub itself : is_below four_types 1 1 ≡ true
  pub two_up : is_below four_types 0 2 ≡ true
  pub not_down : is_below four_types 2 0 ≡ false
  pub side_by_side : is_below four_types 0 3 ≡ false
