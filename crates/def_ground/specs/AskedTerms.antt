-- Terms that may be asked for, as a number and weighted literals.
--
-- Of the rows of a summand exactly one holds. So the summand has the value of its first row, and for each other row the
-- difference to it where that row holds: one part less, and none where there is only one row. A sum is split into its
-- summands, so that no row of the one is joined with a row of the other.
use Rattle.std.specs.Prelude.{ℕ, ℤ, pos, ◌+ℤ◌, ◌-ℤ◌, List, [], ◌∷◌, ◌++◌, map, flat_map, fold, Bool, true, false}
use Rattle.std.specs.Prelude.{if◌then◌else◌, Option, Some, None}
use Rattle.std.specs.List.{list_any}
use Rattle.kb_logic.specs.declared.syntax.AggKind.TheVariants as kind
use Rattle.kb_logic.specs.Bases.{NamedTerm}
use Rattle.kb_logic.specs.Denotations.{Denotation, number, named, minus_infinity, plus_infinity, undefined}
use Rattle.kb_logic.specs.Meaning.{signed_of}
use Rattle.kb_logic.specs.Trees.{TermTree, variable, integer, constructed, application, summation, product, aggregate}
use Rattle.kb_logic.specs.Trees.{SummandTrees, no_summands, more_summands}
use Rattle.lit_core.specs.declared.literals.Lit.{Lit}
use Rattle.ground_core.specs.declared.parts.Part.{Part}
use Rattle.ground_core.specs.Problems.{ProblemState}
use Rattle.ground_core.specs.Growth.{with_term}
use Rattle.kb_logic.specs.declared.syntax.AggKind.{AggKind}
use Rattle.term_values.specs.GroundBases.{GroundBase}
use Rattle.term_values.specs.Rows.{rows_of_term}
use Rattle.def_ground.specs.Counting.{extreme_of}
use Rattle.def_ground.specs.Forms.{no_parts_yet, sums_of}
use Rattle.def_ground.specs.Guards.{guarded_by}
use Rattle.def_ground.specs.Linear.{Linear}

-- the number that a value is in a sum
abbrev pub number_of : Denotation → ℤ
number_of (number z) = z
number_of (named n) = pos 0
number_of minus_infinity = pos 0
number_of plus_infinity = pos 0
number_of undefined = pos 0

-- a summand: whether it has a minus, and its rows
pub record Summand : Type 0 where
  pub minus : Bool
  pub rows : List (List Lit × Denotation)

abbrev pub summands_in : GroundBase → SummandTrees → List Summand
summands_in b no_summands = []
summands_in b (more_summands minus t ss) = record { minus = minus; rows = rows_of_term b t [] } ∷ summands_in b ss

-- a term that is no sum is its only summand
abbrev pub alone : GroundBase → TermTree → List Summand
alone b t = record { minus = false; rows = rows_of_term b t [] } ∷ []

-- the summands of a term without free variables
abbrev pub summands_of_term : GroundBase → TermTree → List Summand
summands_of_term b (variable n) = alone b (variable n)
summands_of_term b (integer z) = alone b (integer z)
summands_of_term b (constructed ty n) = alone b (constructed ty n)
summands_of_term b (application s ts) = alone b (application s ts)
summands_of_term b (summation ss) = summands_in b ss
summands_of_term b (product ts) = alone b (product ts)
summands_of_term b (aggregate k bs f t) = alone b (aggregate k bs f t)

-- the summand has no row
abbrev pub is_rowless : List (List Lit × Denotation) → Bool
is_rowless [] = true
is_rowless (r ∷ rs) = false

-- the number in the first row
abbrev pub first_number : List (List Lit × Denotation) → ℤ
first_number [] = pos 0
first_number (r ∷ rs) = number_of r.1

-- the number in the first row, with the summand's sign
abbrev pub first_weight : Bool → List (List Lit × Denotation) → ℤ
first_weight minus rs = signed_of minus (first_number rs)

-- rows with the differences of their numbers to this one, with the summand's sign
abbrev pub differences : Bool → ℤ → List (List Lit × Denotation) → List (List Lit × ℤ)
differences minus y rs = map (λ q. (q.0, signed_of minus (number_of q.1 -ℤ y))) rs

-- the other rows, with their differences to the first one
abbrev pub other_weights : Bool → List (List Lit × Denotation) → List (List Lit × ℤ)
other_weights minus [] = []
other_weights minus (r ∷ rs) = differences minus (number_of r.1) rs

-- what the summands come to where in each the first row holds
abbrev pub first_sum : List Summand → ℤ
first_sum [] = pos 0
first_sum (s ∷ ss) = first_weight s.minus s.rows +ℤ first_sum ss

-- weighted literals, and the problem that defines them
pub record WeightedParts : Type 0 where
  pub parts : List Part
  pub problem : ProblemState

-- with a part more, for guards
abbrev pub weigh : ℤ → List Lit → WeightedParts → WeightedParts
weigh w guards st =
    let g = guarded_by guards st.problem in
    record { parts = st.parts ++ record { lit = g.lit; weight = w } ∷ []; problem = g.problem }

-- and for each of these rows
abbrev pub weigh_all : List (List Lit × ℤ) → WeightedParts → WeightedParts
weigh_all rs st = fold (λ (t : WeightedParts) (r : List Lit × ℤ). weigh r.1 r.0 t) st rs

-- the parts of all summands; where one has no row, no valuation has a structure, and no gate is made
abbrev pub parts_of_summands : List Summand → ProblemState → WeightedParts
parts_of_summands ss p =
    if list_any (λ (s : Summand). is_rowless s.rows) ss then record { parts = []; problem = p }
    else weigh_all (flat_map (λ (s : Summand). other_weights s.minus s.rows) ss) (record { parts = []; problem = p })

abbrev pub base_of_summands : List Summand → ℤ
base_of_summands ss = if list_any (λ (s : Summand). is_rowless s.rows) ss then pos 0 else first_sum ss

-- the number and the parts of a term: those of its summands, and with them those of its counts and sums
abbrev pub asked_sum : GroundBase → TermTree → ProblemState → Linear
asked_sum b t p =
    let ss = summands_of_term b t in
    let st = parts_of_summands ss p in
    sums_of b (pos 1) t [] (record { base = base_of_summands ss; parts = st.parts; problem = st.problem })

abbrev pub named_parts : List ℕ → AggKind → Linear → ProblemState
named_parts name k st = with_term st.problem (record { name = name; kind = k; base = st.base; parts = st.parts })

-- the problem that also names the term; a minimum or a maximum is the parts of its aggregate
abbrev pub asked_by : Option AggKind → GroundBase → ProblemState → NamedTerm → ProblemState
asked_by (Some k) b p t = named_parts t.name k (sums_of b (pos 1) t.term [] (no_parts_yet p))
asked_by None b p t = named_parts t.name kind.Sum (asked_sum b t.term p)

abbrev pub with_asked : GroundBase → ProblemState → NamedTerm → ProblemState
with_asked b p t = asked_by (extreme_of t.term) b p t

-- so for each term of a list
abbrev pub with_all_asked : GroundBase → List NamedTerm → ProblemState → ProblemState
with_all_asked b ts p = fold (with_asked b) p ts
