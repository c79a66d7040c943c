-- A solver whose problem stands for the models of a knowledge base.
use Rattle.std.specs.Prelude.{◌≡◌, ℕ, ◌<◌, Bool, Option, Some, None, Result, Ok, Err, List, [], length, slice_get, All}
use Rattle.kb_logic.specs.declared.structures.Literal.{Literal}
use Rattle.kb_logic.specs.declared.structures.Structure.{Structure}
use Rattle.kb_logic.specs.Structures.{EachWith}
use Rattle.kb_logic.specs.Meaning.{value_of}
use Rattle.kb_logic.specs.Bases.{Base, NamedTerm, IsModelUnder}
use Rattle.kb_logic.specs.KnownAtoms.{atoms_over}
use Rattle.lit_core.specs.declared.literals.Lit.{Lit}
use Rattle.ground_core.specs.declared.solving.Halt.{Halt}
use Rattle.ground_core.specs.declared.solving.Halt.TheVariants.{Spent, Memory}
use Rattle.ground_core.specs.Problems.{ProblemState}
use Rattle.ground_core.specs.Meaning.{Satisfies}
use Rattle.ground_core.specs.Growing.{value_at}
use Rattle.ground_core.specs.Solving.{SolveState, IsSublist, HasCoreWithin}
use Rattle.term_values.specs.GroundBases.{GroundBase, structure_of}
use Rattle.term_values.specs.KnownBases.{IsGroundBase}
use Rattle.atom_numbers.specs.Numbers.{HasNumber, bare_base}
use Rattle.ground_task.specs.declared.answers.Answer.{Answer}
use Rattle.ground_task.specs.declared.answers.Answer.TheVariants.{Model, NoModel}

-- the vocabulary and the domains of a knowledge base
abbrev pub atom_base : Base → GroundBase
atom_base base = bare_base base.vocabulary base.known.domains

-- the structures of the problem's valuations are the models of the knowledge base, and its terms have the values of the
-- terms that may be asked for
pub record Represents (base : Base) (p : ProblemState) : Type 0 where
  pub atoms : length p.atoms ≡ length (atoms_over base.vocabulary.symbols base.known.domains)
  pub gives : (v : ℕ → Bool) → Satisfies p v → IsModelUnder base [] (structure_of (atom_base base) v)
  pub extends : (m : Structure) → IsModelUnder base [] m
      → (v : ℕ → Bool) × Satisfies p v × (structure_of (atom_base base) v ≡ m)
  pub number : length p.terms ≡ length base.terms
  pub terms : (n : ℕ) (t : NamedTerm) → slice_get base.terms n ≡ Some t → (v : ℕ → Bool) → Satisfies p v
      → value_at p n v ≡ value_of (structure_of (atom_base base) v) t.term []

-- these are the numbers of the knowledge base's atoms, and the problem stands for its models; no atom is retired
pub record IsTaskOf (base : Base) (b : GroundBase) (p : ProblemState) : Type 0 where
  pub numbers : b ≡ atom_base base
  pub fine : IsGroundBase (atom_base base)
  pub represents : Represents base p
  pub unretired : All (λ (l : Lit). length p.atoms < l.var.0) p.retired

-- it is a task of some knowledge base
abbrev pub IsTask : GroundBase → ProblemState → Type 0
IsTask b p = (base : Base) × IsTaskOf base b p

-- a model under the choices, or some of the choices, in their order, under which there is none
abbrev pub IsAnswer : Base → List Literal → Answer → Type 0
IsAnswer base choices (Model m) = IsModelUnder base choices m
IsAnswer base choices (NoModel some) = IsSublist some choices × ((m : Structure) → IsModelUnder base some m → ⊥)

-- a kept core lies within the literals of the choices
abbrev pub AreRefuted : GroundBase → List Literal → List (List Lit) → Type 0
AreRefuted b choices cores = (lits : List Lit) → EachWith (HasNumber b) choices lits → HasCoreWithin cores lits

-- that there is no model under the choices is shown by a kept core among their literals
abbrev pub IsShown : GroundBase → List Literal → List (List Lit) → Answer → Type 0
IsShown b choices cores (Model m) = Unit {0}
IsShown b choices cores (NoModel some) = AreRefuted b choices cores

-- so is that nothing is answered
abbrev pub ShowsNone : {T : Type 0} → GroundBase → List Literal → List (List Lit) → Option T → Type 0
ShowsNone b choices cores None = AreRefuted b choices cores
ShowsNone b choices cores (Some x) = Unit {0}

-- there is no model, or there was no memory
abbrev pub IsRefusal : Result Answer Halt → Type 0
IsRefusal (Ok (Model m)) = ⊥
IsRefusal (Ok (NoModel some)) = Unit {0}
IsRefusal (Err Spent) = ⊥
IsRefusal (Err Memory) = Unit {0}

-- that there is none was known, and is answered without a search
pub record IsRefusedAtOnce (old new : SolveState) (result : Result Answer Halt) : Type 0 where
  pub answer : IsRefusal result
  pub learnt : new.learnt ≡ old.learnt
