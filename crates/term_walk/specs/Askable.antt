-- What the walk asks of a term that may be asked for: its sums and differences fit 64 bits.
use Rattle.std.specs.Prelude.{◌≡◌, ℕ, ℤ, pos, neg_ℤ, ◌+ℤ◌, ◌≤ℤ◌, List, [], ◌∷◌, flat_map, false, ⊤}
use Rattle.std.specs.List.{list_any, AllByRecursion}
use Rattle.kb_logic.specs.Bounds.{bound_limit}
use Rattle.kb_logic.specs.Trees.{TermTree}
use Rattle.lit_core.specs.declared.literals.Lit.{Lit}
use Rattle.ground_core.specs.declared.parts.Part.{Part}
use Rattle.ground_core.specs.Problems.{ProblemState}
use Rattle.term_values.specs.GroundBases.{GroundBase}
use Rattle.term_values.specs.RowArithmetic.{RowsFit}
use Rattle.def_ground.specs.AskedTerms.{number_of, Summand, summands_of_term, is_rowless, first_weight, other_weights}
use Rattle.def_ground.specs.AskedTerms.{WeightedParts}
use Rattle.ground_walk.specs.Groundable.{HaveLits, AreInstancesGroundable}
use Rattle.term_walk.specs.declared.terms.SummandRows.{SummandRows}

-- a summand without where its rows lie in memory
abbrev pub summand_view : SummandRows → Summand
summand_view s = record { minus = s.minus; rows = s.rows }

abbrev pub weighted : List Part → ProblemState → WeightedParts
weighted ps p = record { parts = ps; problem = p }

-- the rows of all summands but the first ones
abbrev pub others_of : List Summand → List (List Lit × ℤ)
others_of ss = flat_map (λ (s : Summand). other_weights s.minus s.rows) ss

-- the guards of the summand's rows are over the first n variables
abbrev pub HasRowsIn : ℕ → Summand → Type 0
HasRowsIn n s = HaveLits n s.rows

-- from -10^15 to 10^15
abbrev pub IsSmallNumber : ℤ → Type 0
IsSmallNumber z = (neg_ℤ (pos bound_limit) ≤ℤ z) × (z ≤ℤ pos bound_limit)

-- the numbers of the summand's rows are small
abbrev pub HasSmallRows : Summand → Type 0
HasSmallRows s = AllByRecursion (λ r. IsSmallNumber (number_of r.1)) s.rows

-- a sum stays small while the first weights are added
abbrev pub StaysSmall : ℤ → List Summand → Type 0
StaysSmall z [] = ⊤
StaysSmall z (s ∷ ss) =
    let y = z +ℤ first_weight s.minus s.rows in IsSmallNumber y × StaysSmall y ss

-- the rows of a summand, their numbers and the sum of the first ones can be computed, and the instances of aggregates
-- can be grounded
pub record IsAskable (b : GroundBase) (t : TermTree) : Type 0 where
  pub rows : RowsFit b t []
  pub instances : AreInstancesGroundable b t []
  pub small : AllByRecursion HasSmallRows (summands_of_term b t)
  pub sums : list_any (λ (s : Summand). is_rowless s.rows) (summands_of_term b t) ≡ false
      → StaysSmall (pos 0) (summands_of_term b t)
