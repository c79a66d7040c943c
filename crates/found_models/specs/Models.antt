-- Found models of a knowledge base.
use Rattle.std.specs.Prelude.{◌≡◌, ℕ, ◌-◌, ◌^◌, ◌<◌, ◌≤◌, min, Bool, Option, Some, None, List, [], length, All}
use Rattle.kb_logic.specs.declared.structures.Literal.{Literal}
use Rattle.kb_logic.specs.declared.structures.Structure.{Structure}
use Rattle.kb_logic.specs.Bases.{Base, IsModelUnder}
use Rattle.kb_logic.specs.KnownAtoms.{atoms_over}
use Rattle.lit_core.specs.declared.literals.Lit.{Lit}
use Rattle.lit_core.specs.Literals.{valuation}
use Rattle.ground_core.specs.Problems.{ProblemState}
use Rattle.term_values.specs.GroundBases.{GroundBase, structure_of}
use Rattle.ground_task.specs.Tasks.{IsTaskOf, atom_base}
use Rattle.found_models.specs.Found.{FoundState, those_under, with_newest, IsLastOf}

-- how many ground atoms there are
abbrev pub atoms_of : Base → ℕ
atoms_of base = length (atoms_over base.vocabulary.symbols base.known.domains)

-- the values are of all ground atoms, and those that are true make a model of the knowledge base
pub record IsFoundModel (base : Base) (values : List Bool) : Type 0 where
  pub long : atoms_of base < length values
  pub model : IsModelUnder base [] (structure_of (atom_base base) (valuation values))

-- all are found models of the knowledge base, and of the next ones the values of all ground atoms will be kept, as far
-- as 64 bits count them
pub record AreFoundModels (base : Base) (f : FoundState) : Type 0 where
  pub last : min (atoms_of base) (2 ^ 64 - 1) ≤ f.last
  pub models : All (IsFoundModel base) f.models

-- it is a task of some knowledge base, of which these are found models
abbrev pub IsTaskWith : GroundBase → ProblemState → FoundState → Type 0
IsTaskWith b p f = (base : Base) × IsTaskOf base b p × AreFoundModels base f

-- the structure of the newest of the models that make the literals true, and nothing where none does
abbrev pub IsNewest : GroundBase → List Lit → List (List Bool) → Option Structure → Type 0
IsNewest b lits models None = those_under lits models ≡ []
IsNewest b lits models (Some m) =
    (values : List Bool) × IsLastOf values (those_under lits models) × (m ≡ structure_of b (valuation values))

-- the structure that was found is that of the newest of the models that are kept now; where none was found, they are as
-- before
abbrev pub IsKept : GroundBase → FoundState → FoundState → Option Structure → Type 0
IsKept b before now None = now ≡ before
IsKept b before now (Some m) =
    (values : List Bool) × (now ≡ with_newest before values) × (m ≡ structure_of b (valuation values))

-- a model under the choices, or none where there is none
abbrev pub IsAnswer : Base → List Literal → Option Structure → Type 0
IsAnswer base choices None = (m : Structure) → IsModelUnder base choices m → ⊥
IsAnswer base choices (Some m) = IsModelUnder base choices m
