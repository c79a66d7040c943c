-- The instances so far, as they stand in memory, and what the walk asks of rules.
use Rattle.std.specs.Prelude.{◌≡◌, ◌≤◌, ◌<◌, ◌+◌, ℕ, List, length, is_some, IfSome}
use Rattle.std.specs.List.{AllByRecursion}
use Rattle.kb_logic.specs.declared.elements.Elem.{Elem}
use Rattle.kb_logic.specs.Trees.{TermTree, RuleTree}
use Rattle.kb_logic.specs.Bounds.{value_type_of}
use Rattle.kb_logic.specs.Structures.{choices}
use Rattle.ground_core.specs.Problems.{ProblemState}
use Rattle.term_values.specs.GroundBases.{GroundBase, first_var}
use Rattle.term_values.specs.RowArithmetic.{RowsFit}
use Rattle.def_ground.specs.Definitions.{Instances}
use Rattle.def_ground.specs.Rules.{IsHeadTerm}
use Rattle.ground_walk.specs.Groundable.{IsGroundable}
use Rattle.definition_walk.specs.declared.bodies.Bodies.{Bodies}
use Rattle.definition_walk.specs.Lists.{lists_of, HaveBodies, AllWithin}

-- the lists have the bodies so far, and the problem is as these left it
pub record Stands (st : Instances) (kept : Bodies) (p : ProblemState) : Type 0 where
  pub bodies : HaveBodies st.bodies kept.first (lists_of kept.lists)
  pub problem : p ≡ st.problem

-- bodies came into the same lists, while the problem grew
pub record BodiesGrow (old new : Bodies) (p q : ProblemState) : Type 0 where
  pub first : new.first ≡ old.first
  pub len : length new.lists.items ≡ length old.lists.items
  pub vars : p.vars ≤ q.vars
  pub within : AllWithin p.vars (lists_of old.lists) → AllWithin q.vars (lists_of new.lists)

-- each atom of the symbol, if it is declared, has a list
pub record HasLists (b : GroundBase) (s : ℕ) (bodies : Bodies) : Type 0 where
  pub low : s < length b.vocabulary.symbols → bodies.first ≤ first_var b s
  pub high : s < length b.vocabulary.symbols → first_var b (s + 1) ≤ bodies.first + length bodies.lists.items

-- the variable is one of the symbol's atoms
pub record IsVarOf (b : GroundBase) (s n : ℕ) : Type 0 where
  pub declared : s < length b.vocabulary.symbols
  pub low : first_var b s ≤ n
  pub high : n < first_var b (s + 1)

-- a term of a head, whose value fits 64 bits
pub record IsPlainTerm (t : TermTree) : Type 0 where
  pub head : IsHeadTerm t
  pub fits : (b : GroundBase) (e : List Elem) → RowsFit b t e

-- a head has a value exactly where its symbol is a function, and its terms are plain
pub record IsPlainHead (b : GroundBase) (r : RuleTree) : Type 0 where
  pub args : AllByRecursion IsPlainTerm r.args
  pub value : IfSome r.value IsPlainTerm
  pub kind : is_some r.value ≡ is_some (value_type_of b.vocabulary r.symbol)

-- the head is plain, and the body can be grounded under each assignment
pub record CanBeGround (b : GroundBase) (r : RuleTree) : Type 0 where
  pub head : IsPlainHead b r
  pub body : AllByRecursion (IsGroundable b r.body) (choices b.domains r.vars)
