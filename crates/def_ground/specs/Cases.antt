-- Cases, of which exactly one has true guards: what atoms and comparisons of terms come to. They take at most one new
-- variable, beside those for guards of several literals.
use Rattle.std.specs.Prelude.{ℕ, ◌+◌, List, [], ◌∷◌, ◌++◌, map, flat_map, Bool, true, false, not, if◌then◌else◌, ◌||◌}
use Rattle.std.specs.Prelude.{Option, Some, None, filter, option_map}
use Rattle.std.specs.List.{list_all, list_any}
use Rattle.lit_core.specs.declared.literals.Lit.{Lit}
use Rattle.lit_core.specs.Literals.{literal_value, negated}
use Rattle.ground_core.specs.Problems.{ProblemState}
use Rattle.ground_core.specs.Growth.{next_lit}
use Rattle.def_ground.specs.declared.answers.Answer.{Answer}
use Rattle.def_ground.specs.declared.answers.Answer.TheVariants.{Constant, Literal}
use Rattle.def_ground.specs.Answers.{GroundResult}

-- under the guards the whole is true where `yes` is, and false where `no` is; a side is a list of literals, one of
-- which is true, or nothing, which is true in any case
pub record Case : Type 0 where
  pub guards : List Lit
  pub yes : Option (List Lit)
  pub no : Option (List Lit)

-- the side of a sign
abbrev pub side_of : Bool → Case → Option (List Lit)
side_of true c = c.yes
side_of false c = c.no

-- the value of a side
abbrev pub side_value : (ℕ → Bool) → Option (List Lit) → Bool
side_value v None = true
side_value v (Some ls) = list_any (literal_value v) ls

-- the one literal of a list of one
abbrev pub only_literal : List Lit → Option Lit
only_literal [] = None
only_literal (l ∷ []) = Some l
only_literal (l ∷ m ∷ ls) = None

-- the one literal of a side of one literal
abbrev pub only_of : Option (List Lit) → Option Lit
only_of None = None
only_of (Some ls) = only_literal ls

abbrev pub shown_by : List Lit → Option Lit → List Lit
shown_by ks None = ks
shown_by ks (Some l) = negated l ∷ []

-- that one of a side's literals is true; where the other side is one literal, that this one is false says the same
abbrev pub shown_lits : List Lit → Option (List Lit) → List Lit
shown_lits ks other = shown_by ks (only_of other)

-- under the guards the side is true, or one of the literals is; nothing is said where it is so in any case
abbrev pub shown_clauses : List Lit → List Lit → Option (List Lit) → Option (List Lit) → List (List Lit)
shown_clauses ls guards None other = []
shown_clauses ls guards (Some ks) other = (ls ++ map negated guards ++ shown_lits ks other) ∷ []

-- each of the cases is true, or where the sign is false each is not, or one of the literals is true
abbrev pub clauses_saying : Bool → List Lit → List Case → List (List Lit)
clauses_saying sign ls cs =
    flat_map (λ (c : Case). shown_clauses ls c.guards (side_of sign c) (side_of (not sign) c)) cs

-- the problem with more clauses
abbrev pub with_clauses : ProblemState → List (List Lit) → ProblemState
with_clauses p cs = record p { clauses = p.clauses ++ cs }

-- the clauses that make the output true where the cases are, and false where they are not
abbrev pub clauses_of_cases : Lit → List Case → List (List Lit)
clauses_of_cases out cs = clauses_saying true (negated out ∷ []) cs ++ clauses_saying false (out ∷ []) cs

-- the problem with one more variable, and clauses
abbrev pub with_var_and : ProblemState → List (List Lit) → ProblemState
with_var_and p cs = record {
  atoms = p.atoms;
  vars = p.vars + 1;
  gates = p.gates;
  clauses = p.clauses ++ cs;
  sums = p.sums;
  terms = p.terms;
  bounds = p.bounds;
  retired = p.retired;
}

-- the problem with one more variable, which has in each case the case's value
abbrev pub with_cases : ProblemState → List Case → ProblemState
with_cases p cs = with_var_and p (clauses_of_cases (next_lit p) cs)

-- the side that is true in any case
abbrev pub is_always : Option (List Lit) → Bool
is_always None = true
is_always (Some ls) = false

-- without guards: one literal, where it says what the case is
abbrev pub unguarded_answer : List Lit → Option (List Lit) → Option Answer
unguarded_answer [] (Some (l ∷ [])) = Some (Literal l)
unguarded_answer _ _ = None

-- the answer of one case alone that has no guards
abbrev pub single_answer : List Case → Option Answer
single_answer [] = None
single_answer (c ∷ []) = unguarded_answer c.guards c.yes
single_answer (c ∷ d ∷ cs) = None

-- the guard of a case that stands alone, where it has just one
abbrev pub only_guard : List Case → Option Lit
only_guard [] = None
only_guard (c ∷ []) = only_literal c.guards
only_guard (c ∷ d ∷ cs) = None

-- the case is true, or false, whatever the literals of its sides are
abbrev pub is_certain : Case → Bool
is_certain c = is_always c.yes || is_always c.no

-- where all cases are certain: the guard of the one that is true, or the negated guard of the one that is false
abbrev pub certain_answer : Option Lit → Option Lit → Option Answer
certain_answer (Some l) o = Some (Literal l)
certain_answer None o = option_map (λ l. Literal (negated l)) o

-- what the cases come to where no variable is needed
abbrev pub plain_answer : List Case → Option Answer
plain_answer cs =
    if list_all is_certain cs then
    certain_answer (only_guard (filter (λ (c : Case). is_always c.yes) cs))
    (only_guard (filter (λ (c : Case). is_always c.no) cs))
    else single_answer cs

-- the plain answer, or else a new variable
abbrev pub answer_or_cases : Option Answer → List Case → ProblemState → GroundResult
answer_or_cases (Some a) cs p = record { answer = a; problem = p }
answer_or_cases None cs p = record { answer = Literal (next_lit p); problem = with_cases p cs }

-- the answer that needs no variable: a constant where all cases are true, or all false, or else the plain one
abbrev pub answer_without : List Case → Option Answer
answer_without cs =
    if list_all (λ (c : Case). is_always c.yes) cs then Some (Constant true)
    else if list_all (λ (c : Case). is_always c.no) cs then Some (Constant false)
    else plain_answer cs

-- what the cases come to
abbrev pub cases_of : List Case → ProblemState → GroundResult
cases_of cs p = answer_or_cases (answer_without cs) cs p

-- the case that an answer is, under guards
abbrev pub case_of : List Lit → Answer → Case
case_of g (Constant true) = record { guards = g; yes = None; no = Some [] }
case_of g (Constant false) = record { guards = g; yes = Some []; no = None }
case_of g (Literal l) = record { guards = g; yes = Some (l ∷ []); no = Some (negated l ∷ []) }
