-- What data make known of the atoms over some domains, and the structures that extend it.
use Rattle.std.specs.Prelude.{◌≡◌, ℕ, List, [], ◌∷◌, ◌++◌, map, filter, flat_map, Bool, not, Option, None, Some}
use Rattle.std.specs.List.{enumerate_from, AllByRecursion}
use Rattle.kb_logic.specs.declared.elements.Elem.{Elem}
use Rattle.kb_logic.specs.declared.vocabularies.Symbol.{Symbol}
use Rattle.kb_logic.specs.declared.structures.Structure.{Structure}
use Rattle.kb_logic.specs.Structures.{domain_at, tuples_of}
use Rattle.kb_logic.specs.Denotations.{denotation_of}
use Rattle.kb_logic.specs.Meaning.{rows_of, has_row}
use Rattle.kb_logic.specs.Models.{GroundAtom, AtomHolds}

-- the symbols with their types, the domains, and the atoms that are certainly true and those that are certainly false,
-- each list in the order of all atoms
pub record KnownAtoms : Type 0 where
  pub symbols : List Symbol
  pub domains : List (List Elem)
  pub true_atoms : List GroundAtom
  pub false_atoms : List GroundAtom

-- the atoms of symbol i with these tuples: one for each, or for a function one for each tuple and each value
abbrev pub atoms_with : List (List Elem) → ℕ → List (List Elem) → Option ℕ → List GroundAtom
atoms_with domains i ts None = map (λ t. record { symbol = i; args = t; value = None }) ts
atoms_with domains i ts (Some ty) =
    flat_map (λ t. map (λ x. record { symbol = i; args = t; value = Some x }) (domain_at domains ty)) ts

-- all atoms: the symbols as declared, the tuples of each in domain order, then the values in domain order
abbrev pub atoms_over : List Symbol → List (List Elem) → List GroundAtom
atoms_over symbols domains =
    flat_map (λ s. atoms_with domains s.0 (tuples_of domains s.1.args) s.1.value) (enumerate_from 0 symbols)

-- m has the same domains, every atom that is certainly true is true in m, and none that is certainly false
pub record ExtendsData (m : Structure) (k : KnownAtoms) : Type 0 where
  pub domains : m.domains ≡ k.domains
  pub true_atoms : AllByRecursion (AtomHolds m) k.true_atoms
  pub false_atoms : AllByRecursion (λ a. AtomHolds m a → ⊥) k.false_atoms

-- whether the structure has the atom in its table
abbrev pub is_true_atom : Structure → GroundAtom → Bool
is_true_atom m a = elim a.value [
  | None ↦ has_row (rows_of a.symbol m.relations) (map denotation_of a.args)
  | Some x ↦ has_row (rows_of a.symbol m.functions) (map denotation_of (a.args ++ x ∷ []))
]

-- a structure over these symbols as what makes every atom known
abbrev pub known_of : List Symbol → Structure → KnownAtoms
known_of symbols m = record {
  symbols = symbols;
  domains = m.domains;
  true_atoms = filter (is_true_atom m) (atoms_over symbols m.domains);
  false_atoms = filter (λ a. not (is_true_atom m a)) (atoms_over symbols m.domains);
}
