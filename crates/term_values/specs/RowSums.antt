-- The sum of a row's values.
use Rattle.std.specs.Prelude.{ℤ, pos, List, [], ◌∷◌, Bool, Option, None, Some, map}
use Rattle.kb_logic.specs.Denotations.{Denotation}
use Rattle.kb_logic.specs.Meaning.{summand_plus}
use Rattle.kb_logic.specs.Trees.{TermTree, TermTrees, terms_of}
use Rattle.kb_logic.specs.declared.syntax.Signed.{Signed}

-- the sum of these values with these signs, whether each has a minus
abbrev pub sum_values : List Bool → List Denotation → Option ℤ
sum_values [] [] = Some (pos 0)
sum_values [] (v ∷ vs) = None
sum_values (m ∷ ms) [] = None
sum_values (m ∷ ms) (v ∷ vs) = summand_plus m v (sum_values ms vs)

-- the signs of operands
abbrev pub signs_of : List Signed → List Bool
signs_of parts = map (λ s. s.minus) parts

-- the terms of a sum
abbrev pub operands_of : List (Bool × TermTree) → TermTrees
operands_of ss = terms_of (map (λ s. s.1) ss)
