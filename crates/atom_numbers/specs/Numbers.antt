-- The variable of a ground atom.
use Rattle.std.specs.Prelude.{◌≡◌, ℕ, suc, ◌+◌, ◌*◌, length, ◌<◌, ◌≤◌, ◌^◌, Some, None, slice_get, get_or, take}
use Rattle.std.specs.Prelude.{sum_by, ◌⊎◌, List, []}
use Rattle.kb_logic.specs.declared.elements.Elem.{Elem}
use Rattle.kb_logic.specs.declared.vocabularies.Symbol.{Symbol}
use Rattle.kb_logic.specs.declared.vocabularies.Vocabulary.{Vocabulary}
use Rattle.kb_logic.specs.declared.structures.Literal.{Literal}
use Rattle.kb_logic.specs.Structures.{domain_at, tuples_of}
use Rattle.kb_logic.specs.Models.{GroundAtom, atom_of}
use Rattle.kb_logic.specs.KnownAtoms.{atoms_over}
use Rattle.lit_core.specs.declared.literals.Lit.{Lit}
use Rattle.term_values.specs.GroundBases.{GroundBase, atoms_in}

-- a vocabulary and domains, over which nothing is known
abbrev pub bare_base : Vocabulary → List (List Elem) → GroundBase
bare_base v domains = record { vocabulary = v; domains = domains; known = [] }

-- the variable is one more than the place of the literal's atom among all atoms, and the sign is the literal's
pub record HasNumber (b : GroundBase) (l : Literal) (lit : Lit) : Type 0 where
  pub place : ℕ
  pub atom : slice_get (atoms_over b.vocabulary.symbols b.domains) place ≡ Some (atom_of l)
  pub var : lit.var.0 ≡ suc place
  pub sign : lit.positive ≡ l.positive

-- both atoms are of the same symbol at the same arguments
abbrev pub AreAlike : GroundAtom → GroundAtom → Type 0
AreAlike a c = (a.symbol ≡ c.symbol) × (a.args ≡ c.args)

-- the variable of the first atom that gives the same function at the same arguments a value as the literal's atom does
pub record IsApplication (b : GroundBase) (l : Literal) (var : ℕ) : Type 0 where
  pub value : Elem
  pub valued : l.value ≡ Some value
  pub place : ℕ
  pub number : var ≡ suc place
  pub first : GroundAtom
  pub atom : slice_get (atoms_over b.vocabulary.symbols b.domains) place ≡ Some first
  pub alike : AreAlike first (atom_of l)
  pub least : (k : ℕ) (c : GroundAtom) → slice_get (atoms_over b.vocabulary.symbols b.domains) k ≡ Some c
      → AreAlike c (atom_of l) → place ≤ k

-- the place of a predicate's atom among those of its symbol
pub record IsPlainPlace (domains : List (List Elem)) (s : Symbol) (l : Literal) (place : ℕ) : Type 0 where
  pub plain : s.value ≡ None
  pub none : l.value ≡ None
  pub tuple : slice_get (tuples_of domains s.args) place ≡ Some l.args

-- the place of a function's atom among those of its symbol
pub record IsValuedPlace (domains : List (List Elem)) (s : Symbol) (l : Literal) (place : ℕ) : Type 0 where
  pub ty : ℕ
  pub i : ℕ
  pub j : ℕ
  pub x : Elem
  pub valued : s.value ≡ Some ty
  pub some : l.value ≡ Some x
  pub tuple : slice_get (tuples_of domains s.args) i ≡ Some l.args
  pub value : slice_get (domain_at domains ty) j ≡ Some x
  pub number : place ≡ i * length (domain_at domains ty) + j

-- the place of the literal's atom among those of its symbol
abbrev pub IsPlaceIn : List (List Elem) → Symbol → Literal → ℕ → Type 0
IsPlaceIn domains s l place = IsPlainPlace domains s l place ⊎ IsValuedPlace domains s l place

-- the variable of a symbol's first atom
abbrev pub first_of : List (List Elem) → List Symbol → ℕ → ℕ
first_of domains symbols k = 1 + sum_by (atoms_in domains) (take k symbols)

-- the variable is one of this symbol's atoms
pub record IsSymbolOf (domains : List (List Elem)) (symbols : List Symbol) (var number : ℕ) : Type 0 where
  pub declared : number < length symbols
  pub from : first_of domains symbols number ≤ var
  pub below : var < first_of domains symbols (number + 1)

-- the variables of the symbols' first atoms; all variables are below 2^64, and all symbols have a u32
pub record AreNumbered (domains : List (List Elem)) (symbols : List Symbol) (vars : List ℕ) : Type 0 where
  pub each : length vars ≡ length symbols
  pub firsts : (k d : ℕ) → k < length symbols → get_or vars k d ≡ first_of domains symbols k
  pub few : first_of domains symbols (length symbols) < 2 ^ 64
  pub symbols_few : length symbols ≤ 2 ^ 32
