-- What a partial structure always keeps, and what it is to know more than another, or everything.
use Rattle.std.specs.Prelude.{◌≡◌, filter, Contains, IsTrue}
use Rattle.std.specs.List.{AllByRecursion, list_any}
use Rattle.kb_logic.specs.Models.{GroundAtom}
use Rattle.kb_logic.specs.Structures.{IsDistinct}
use Rattle.partial_structures.specs.KnownAtoms.{KnownAtoms, IsAtomOver, atoms_over, same_atom, is_rival, value_at}
use Rattle.row_tries.specs.declared.truths.Truth.TheVariants as truth

-- each true atom is one over the domains, a function has at most one value at its arguments, and no atom is both true
-- and false
pub record IsConsistent (k : KnownAtoms) : Type 0 where
  pub over : AllByRecursion (IsAtomOver k.symbols k.domains) k.true_atoms
  pub single : (a b : GroundAtom) → Contains k.true_atoms a → Contains k.true_atoms b → a.symbol ≡ b.symbol
      → a.args ≡ b.args → a ≡ b
  pub apart : (a : GroundAtom) → Contains k.true_atoms a → Contains k.false_atoms a → ⊥

-- how a partial structure lists what it knows: no domain has an element twice; both lists have atoms over the domains,
-- each once and in the order of all atoms; and where an atom is true that gives a function a value, every atom that
-- gives it another value at the same arguments is false
pub record IsListed (k : KnownAtoms) : Type 0 where
  pub distinct : AllByRecursion IsDistinct k.domains
  pub false_over : AllByRecursion (IsAtomOver k.symbols k.domains) k.false_atoms
  pub true_listed : k.true_atoms ≡ filter (λ a. list_any (same_atom a) k.true_atoms) (atoms_over k.symbols k.domains)
  pub false_listed : k.false_atoms ≡ filter (λ a. list_any (same_atom a) k.false_atoms) (atoms_over k.symbols k.domains)
  pub rivals : (a b : GroundAtom) → Contains k.true_atoms a → IsAtomOver k.symbols k.domains b → IsTrue (is_rival a b)
      → Contains k.false_atoms b

-- what is known in k is known in j too
pub record KnowsMore (k j : KnownAtoms) : Type 0 where
  pub symbols : j.symbols ≡ k.symbols
  pub domains : j.domains ≡ k.domains
  pub true_atoms : (a : GroundAtom) → Contains k.true_atoms a → Contains j.true_atoms a
  pub false_atoms : (a : GroundAtom) → Contains k.false_atoms a → Contains j.false_atoms a

-- no atom is unknown
abbrev pub KnowsAll : KnownAtoms → Type 0
KnowsAll k = (a : GroundAtom) → IsAtomOver k.symbols k.domains a → value_at k a ≡ truth.Unknown → ⊥
