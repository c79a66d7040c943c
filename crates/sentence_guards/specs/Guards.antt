-- Atoms that make an instance of a sentence add nothing where they are known to be false.
use Rattle.std.specs.Prelude.{◌≡◌, ℕ, ◌+◌, ◌<◌, List, Bool, true, false, ◌&&◌, Some, length, map, Contains, ⊤}
use Rattle.kb_logic.specs.declared.elements.Elem.{Elem}
use Rattle.kb_logic.specs.Trees.{TermTree, variable, integer, constructed, application, summation, product, aggregate}
use Rattle.kb_logic.specs.Trees.{TermTrees, no_terms, more_terms, FormulaTree, FormulaTrees, terms_of}
use Rattle.kb_logic.specs.Views.{term_view}
use Rattle.lit_core.specs.declared.literals.Lit.{Lit}
use Rattle.ground_core.specs.Problems.{ProblemState}
use Rattle.term_values.specs.GroundBases.{GroundBase, first_var, known_of, row_index, tuples_at}
use Rattle.row_ranges.specs.Arguments.{argument_values}
use Rattle.def_ground.specs.declared.answers.Answer.TheVariants.{Constant}
use Rattle.def_ground.specs.Disjuncts.{all_disjuncts, disjuncts_of}
use Rattle.def_ground.specs.Forms.{Parts, atom_answer}
use Rattle.def_ground.specs.Sentences.{assert_any, assert_of}
use Rattle.sentence_guards.specs.declared.guards.Part.{Part}
use Rattle.sentence_guards.specs.declared.guards.Part.TheVariants.{Found, Quiet, Other}

-- a variable, an integer or a made element
abbrev pub is_leaf : TermTree → Bool
is_leaf (variable n) = true
is_leaf (integer z) = true
is_leaf (constructed ty n) = true
is_leaf (application s ts) = false
is_leaf (summation ss) = false
is_leaf (product ts) = false
is_leaf (aggregate k bs f t) = false

abbrev pub are_leaves : TermTrees → Bool
are_leaves no_terms = true
are_leaves (more_terms t ts) = is_leaf t && are_leaves ts

-- under the assignment e the atom's arguments are outside their types, or it is known to be false
abbrev pub IsKnownFalse : GroundBase → ℕ → TermTrees → List Elem → Type 0
IsKnownFalse b s ts e =
    atom_answer b s (row_index (tuples_at b s) (argument_values b.domains ts e)) ≡ Constant false

-- the instance under the assignment e adds nothing, whatever is asserted beside it
abbrev pub AddsNothing : GroundBase → Bool → FormulaTree → List Elem → Type 0
AddsNothing b sign f e = (ls : List Lit) (p : ProblemState) → assert_of b sign f e ls p ≡ p

-- wherever the atom is known to be false the sentence, or its negation where the sign is false, adds nothing
abbrev pub IsGuard : GroundBase → Bool → FormulaTree → ℕ → TermTrees → Type 0
IsGuard b sign f s ts = (e : List Elem) → IsKnownFalse b s ts e → AddsNothing b sign f e

-- the parts of a disjunction settle it, and leave the problem as it is
abbrev pub Settles : (List Lit → ProblemState → Parts) → Type 0
Settles D = (ls : List Lit) (p : ProblemState) → ((D ls p).settled ≡ true) × ((D ls p).problem ≡ p)

-- they leave the problem as it is
abbrev pub Leaves : (List Lit → ProblemState → Parts) → Type 0
Leaves D = (ls : List Lit) (p : ProblemState) → (D ls p).problem ≡ p

-- what was found of parts of a disjunction, which D says under each assignment: an atom that settles them where it is
-- known to be false, or that they make no variable
abbrev pub IsFound : GroundBase → (List Elem → List Lit → ProblemState → Parts) → Part → Type 0
IsFound b D (Found g) =
    (e : List Elem) → IsKnownFalse b g.symbol (terms_of (map term_view g.args.now)) e → Settles (D e)
IsFound b D Quiet = (e : List Elem) → Leaves (D e)
IsFound b D Other = ⊤

-- so of one formula as a part, and of several
abbrev pub IsPart : GroundBase → Bool → FormulaTree → Part → Type 0
IsPart b sign f r = IsFound b (λ e. disjuncts_of b sign f e) r

abbrev pub AreParts : GroundBase → Bool → FormulaTrees → Part → Type 0
AreParts b sign fs r = IsFound b (λ e. all_disjuncts b sign fs e) r

-- each tuple of the predicate's arguments whose index is none of these is known to be false
abbrev pub AreRowsLeft : GroundBase → ℕ → List ℕ → Type 0
AreRowsLeft b s rows =
    (i : ℕ) → i < length (tuples_at b s) → (Contains rows i → ⊥) → known_of b (first_var b s + i) ≡ Some false

-- wherever the atom is known to be false one of several formulas, as a disjunction, adds nothing
abbrev pub AreGuarded : GroundBase → Bool → FormulaTrees → ℕ → TermTrees → Type 0
AreGuarded b sign fs s ts =
    (e : List Elem) → IsKnownFalse b s ts e → (ls : List Lit) (p : ProblemState) → assert_any b sign fs e ls p ≡ p
