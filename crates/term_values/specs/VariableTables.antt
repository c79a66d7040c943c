-- Tables of variables, and counts that stop at the greatest number of 64 bits.
use Rattle.std.specs.Prelude.{ℕ, ◌+◌, zero, suc, List, [], ◌∷◌, ◌++◌, min, sum_by, take}
use Rattle.kb_logic.specs.declared.elements.Elem.{Elem}
use Rattle.kb_logic.specs.declared.vocabularies.Symbol.{Symbol}
use Rattle.term_values.specs.GroundBases.{atoms_in}

-- a number, or the greatest one of 64 bits where it is above that
abbrev pub capped : ℕ → ℕ
capped n = min n 18446744073709551615

-- the variables of the first atoms of the first n symbols
abbrev pub first_vars : List (List Elem) → List Symbol → ℕ → List ℕ
first_vars domains symbols zero = []
first_vars domains symbols (suc n) =
    first_vars domains symbols n ++ (1 + sum_by (atoms_in domains) (take n symbols)) ∷ []
