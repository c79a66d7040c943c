-- Knowledge bases as they are consulted, and the models of a list of choices.
use Rattle.std.specs.Prelude.{ℕ, List}
use Rattle.std.specs.List.{AllByRecursion}
use Rattle.kb_logic.specs.declared.vocabularies.Vocabulary.{Vocabulary}
use Rattle.kb_logic.specs.declared.structures.Literal.{Literal}
use Rattle.kb_logic.specs.declared.structures.Structure.{Structure}
use Rattle.kb_logic.specs.Trees.{TermTree, TheoryTree}
use Rattle.kb_logic.specs.Structures.{IsStructure}
use Rattle.kb_logic.specs.Models.{HoldsIn, ModelOfTheory}
use Rattle.kb_logic.specs.KnownAtoms.{KnownAtoms, ExtendsData}

-- a term that may be asked for, with its name
pub record NamedTerm : Type 0 where
  pub name : List ℕ
  pub term : TermTree

-- a knowledge base: its vocabulary, what its data make known (the domain of each type, and atoms over them), its theory
-- and the terms that may be asked for
pub record Base : Type 0 where
  pub vocabulary : Vocabulary
  pub known : KnownAtoms
  pub theory : TheoryTree
  pub terms : List NamedTerm

-- m is a model of the knowledge base under these choices: a structure over its vocabulary and its domains that agrees
-- with every known atom, that is a model of its theory, and in which each choice is true
pub record IsModelUnder (base : Base) (choices : List Literal) (m : Structure) : Type 0 where
  pub structure : IsStructure base.vocabulary m
  pub extends : ExtendsData m base.known
  pub theory : ModelOfTheory base.vocabulary m base.theory
  pub chosen : AllByRecursion (HoldsIn m) choices
