-- What callers have to show of rules, and where the atoms of defined symbols are.
use Rattle.std.specs.Prelude.{◌≡◌, ℕ, ◌+◌, List, [], ◌∷◌, ◌++◌, if◌then◌else◌}
use Rattle.kb_logic.specs.declared.vocabularies.Symbol.{Symbol}
use Rattle.kb_logic.specs.Bounds.{RuleIsBounded}
use Rattle.kb_logic.specs.Domains.{AreDomainsOf}
use Rattle.kb_logic.specs.Trees.{RuleTree, DefinitionTree}
use Rattle.term_values.specs.GroundBases.{GroundBase, atoms_in}
use Rattle.def_ground.specs.Definitions.{is_defined, defined_vars}
use Rattle.def_ground.specs.Rules.{IsTypedRule}
use Rattle.definition_walk.specs.Lists.{numbers_from}
use Rattle.definition_walk.specs.Steps.{CanBeGround}

-- a well typed rule whose terms have small bounds can be ground
abbrev pub TypedCanBeGround : Type 0
TypedCanBeGround =
    (b : GroundBase) (r : RuleTree) → AreDomainsOf b.vocabulary b.domains → IsTypedRule b.vocabulary b.domains r
    → RuleIsBounded b.vocabulary b.domains r → CanBeGround b r

-- the variables of the atoms of the symbols from number n on, whose first atom has the variable k, where they are
-- defined
abbrev pub ranges : GroundBase → DefinitionTree → ℕ → ℕ → List Symbol → List ℕ
ranges b d k n [] = []
ranges b d k n (s ∷ ss) = (if is_defined d n then numbers_from k (atoms_in b.domains s) else [])
    ++ ranges b d (k + atoms_in b.domains s) (n + 1) ss

-- the atoms of each defined symbol have the variables of one range
abbrev pub DefinedAreRanges : Type 0
DefinedAreRanges = (b : GroundBase) (d : DefinitionTree) → defined_vars b d ≡ ranges b d 1 0 b.vocabulary.symbols
