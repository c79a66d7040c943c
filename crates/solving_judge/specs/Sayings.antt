-- The problem of which lines say something.
use Rattle.std.specs.Prelude.{◌≡◌, ℕ, ℤ, Bool, true, List, [], ◌∷◌, fold, codes, Option, Some, None}
use Rattle.kb_logic.specs.declared.elements.ExtInt.{ExtInt}
use Rattle.kb_logic.specs.declared.elements.ExtInt.TheVariants.{Num}
use Rattle.kb_logic.specs.declared.structures.Literal.{Literal}
use Rattle.kb_logic.specs.declared.syntax.AggKind.{AggKind}
use Rattle.ground_core.specs.declared.parts.GroundTerm.{GroundTerm}
use Rattle.ground_core.specs.declared.parts.Part.{Part}
use Rattle.ground_core.specs.Problems.{ProblemState}
use Rattle.ground_core.specs.Growth.{empty_problem, with_clause, with_gate, with_same, with_sum, with_term}
use Rattle.ground_core.specs.Growth.{with_bound, with_exclusion}
use Rattle.ground_core.specs.Growing.{HasValue, with_retired}
use Rattle.solving_judge.specs.declared.additions.Event.{Event}
use Rattle.solving_judge.specs.declared.additions.Event.TheVariants.{Bound, Exclusion, Retired}
use Rattle.solving_judge.specs.declared.problems.Said.{Said}
use Rattle.solving_judge.specs.declared.problems.Said.TheVariants.{Clause, Gate, Same, Sum, Term}

-- a term of this kind, with this base and these parts
abbrev pub term_of : AggKind → ℤ → List Part → GroundTerm
term_of kind base parts = record { name = codes "term"; kind = kind; base = base; parts = parts }

-- the terms that are named, in order
abbrev pub terms_of : List Said → List GroundTerm
terms_of [] = []
terms_of (Clause lits ∷ more) = terms_of more
terms_of (Gate all parts ∷ more) = terms_of more
terms_of (Same a b ∷ more) = terms_of more
terms_of (Sum kind least parts ∷ more) = terms_of more
terms_of (Term kind base parts ∷ more) = term_of kind base parts.items ∷ terms_of more

-- the problem, of which this is said
abbrev pub saying : ProblemState → Said → ProblemState
saying p (Clause lits) = with_clause p lits.items
saying p (Gate all parts) = with_gate p all parts.items
saying p (Same a b) = with_same p a b
saying p (Sum kind least parts) = with_sum p kind parts.items least
saying p (Term kind base parts) = with_term p (term_of kind base parts.items)

-- the problem, to which this is added, or of which it is given up
abbrev pub changed : ProblemState → Event → ProblemState
changed p (Bound term below) = with_bound p term (Num below)
changed p (Exclusion values) = with_exclusion p values
changed p (Retired var) = with_retired p (record { var = record { 0 = var }; positive = true })

-- the problem of these ground atoms, of which all this is said
abbrev pub problem_said : List Literal → List Said → ProblemState
problem_said atoms said = fold saying (empty_problem atoms) said

-- the same with what is added and given up later
abbrev pub problem_changed : List Literal → List Said → List Event → ProblemState
problem_changed atoms said events = fold changed (problem_said atoms said) events

-- this is what the first term comes to, if there is one
abbrev pub IsFirstValue : ProblemState → (ℕ → Bool) → Option ExtInt → Type 0
IsFirstValue p v None = p.terms ≡ []
IsFirstValue p v (Some n) = HasValue p 0 v n
