-- The ground atoms, in their order.
use Rattle.std.specs.Prelude.{◌≡◌, ℕ, true, List, [], ◌∷◌, map, flat_map, Option, Some, None, slice_get, Contains}
use Rattle.std.specs.List.{enumerate_from}
use Rattle.kb_logic.specs.declared.elements.Elem.{Elem}
use Rattle.kb_logic.specs.declared.structures.Literal.{Literal}
use Rattle.kb_logic.specs.declared.vocabularies.Symbol.{Symbol}
use Rattle.kb_logic.specs.Structures.{domain_at, tuples_of, EachWith}
use Rattle.kb_logic.specs.Models.{HasValueIn}

-- `P(args)`, or `f(args) = value`, where P or f is the symbol with this number
abbrev pub atom_of : ℕ → List Elem → Option Elem → Literal
atom_of number args value = record { positive = true; symbol = number; args = args; value = value }

-- the atoms of a symbol with these arguments: one, or for a function one for each value, in domain order
abbrev pub atoms_at : List (List Elem) → ℕ → Option ℕ → List Elem → List Literal
atoms_at domains number None args = atom_of number args None ∷ []
atoms_at domains number (Some ty) args = map (λ x. atom_of number args (Some x)) (domain_at domains ty)

-- the atoms of a symbol: the tuples of its arguments in domain order, the first one most significant
abbrev pub atoms_of_symbol : List (List Elem) → ℕ → Symbol → List Literal
atoms_of_symbol domains number s = flat_map (atoms_at domains number s.value) (tuples_of domains s.args)

-- all ground atoms: the symbols as declared
abbrev pub ground_atoms : List Symbol → List (List Elem) → List Literal
ground_atoms symbols domains = flat_map (λ s. atoms_of_symbol domains s.0 s.1) (enumerate_from 0 symbols)

-- an atom of one of the symbols: its arguments are one by one of the symbol's types, and so is the value of a function
pub record IsGroundAtom (symbols : List Symbol) (domains : List (List Elem)) (a : Literal) : Type 0 where
  pub positive : a.positive ≡ true
  pub symbol : Symbol
  pub declared : slice_get symbols a.symbol ≡ Some symbol
  pub args : EachWith (λ ty x. Contains (domain_at domains ty) x) symbol.args a.args
  pub value : HasValueIn domains symbol.value a.value
