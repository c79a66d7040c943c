-- The ground problem of a list of sentences: a function has one value at each tuple, known atoms are facts, and each
-- sentence is asserted.
use Rattle.std.specs.Prelude.{ℕ, ◌+◌, ◌*◌, ℤ, pos, neg_ℤ, nat_lt, List, [], ◌∷◌, ◌++◌, map, flat_map, length, take}
use Rattle.std.specs.Prelude.{Bool, true, false, ◌||◌, if◌then◌else◌, Option, Some, None}
use Rattle.std.specs.List.{enumerate_from}
use Rattle.kb_logic.specs.declared.elements.Elem.{Elem}
use Rattle.kb_logic.specs.declared.elements.ExtInt.TheVariants.{Num}
use Rattle.kb_logic.specs.declared.syntax.AggKind.TheVariants as kind
use Rattle.kb_logic.specs.declared.vocabularies.Symbol.{Symbol}
use Rattle.kb_logic.specs.Trees.{FormulaTree}
use Rattle.kb_logic.specs.Structures.{functions_of}
use Rattle.lit_core.specs.declared.literals.Lit.{Lit}
use Rattle.lit_core.specs.Literals.{negated}
use Rattle.ground_core.specs.declared.parts.Part.{Part}
use Rattle.ground_core.specs.declared.parts.AggCon.{AggCon}
use Rattle.ground_core.specs.Problems.{ProblemState}
use Rattle.ground_core.specs.Atoms.{ground_atoms}
use Rattle.term_values.specs.GroundBases.{GroundBase, known_of, tuples_at, values_at, first_var}
use Rattle.term_values.specs.Rows.{positive_lit}
use Rattle.def_ground.specs.Sentences.{assert_sentences}

-- not the literal together with one of these
abbrev pub pairs_with : Lit → List Lit → List (List Lit)
pairs_with l ls = map (λ m. negated l ∷ negated m ∷ []) ls

-- no two of these
abbrev pub pair_clauses : List Lit → List (List Lit)
pair_clauses [] = []
pair_clauses (l ∷ ls) = pairs_with l ls ++ pair_clauses ls

-- more than this many take no clause for each two of them
abbrev pub most_in_pairs : ℕ
most_in_pairs = 256

-- nor do any, if they times the number of all ground atoms are more than this: so all such clauses together are at most
-- half as many
abbrev pub most_by_atoms : ℕ
most_by_atoms = 33554432

-- whether these, of a function's atoms among n of all, are too many for a clause for each two of them
abbrev pub are_many : ℕ → List Lit → Bool
are_many n ls = nat_lt most_in_pairs (length ls) || nat_lt most_by_atoms (length ls * n)

-- not the first of these together with another
abbrev pub first_pairs : List Lit → List (List Lit)
first_pairs [] = []
first_pairs (l ∷ ls) = pairs_with l ls

-- a literal that counts so much
abbrev pub counting : ℤ → Lit → Part
counting w l = record { lit = l; weight = w }

-- at most one of the others, where the first is false: each of them counts -1, and they come to -1 at least. The first
-- counts -2, so that the sum is less where it is true, and nothing is said there
abbrev pub at_most_one_beside : Lit → List Lit → AggCon
at_most_one_beside l ls = record {
  out = negated l;
  kind = kind.Sum;
  parts = counting (neg_ℤ (pos 2)) l ∷ map (counting (neg_ℤ (pos 1))) ls;
  least = Num (neg_ℤ (pos 1));
}

abbrev pub first_sum : List Lit → List AggCon
first_sum [] = []
first_sum (l ∷ ls) = at_most_one_beside l ls ∷ []

-- exactly one of these is true: some of them, and no two, which takes a sum beside the clauses where they are many
abbrev pub one_of_clauses : ℕ → List Lit → List (List Lit)
one_of_clauses n ls = ls ∷ (if are_many n ls then first_pairs ls else pair_clauses ls)

abbrev pub one_of_sums : ℕ → List Lit → List AggCon
one_of_sums n ls = if are_many n ls then first_sum ls else []

-- a variable more, unless its atom is known to be false
abbrev pub with_open : Option Bool → ℕ → List Lit → List Lit
with_open None n ls = positive_lit n ∷ ls
with_open (Some true) n ls = positive_lit n ∷ ls
with_open (Some false) n ls = ls

-- those of the variables from n on, one for each value, whose atoms are not known to be false
abbrev pub open_variables : GroundBase → ℕ → List Elem → List Lit
open_variables b n [] = []
open_variables b n (x ∷ xs) = with_open (known_of b n) n (open_variables b (n + 1) xs)

-- what is said of the open variables of a function at the tuple with this index
abbrev pub tuple_says : {X : Type 0} → (List Lit → List X) → GroundBase → ℕ → ℕ → List X
tuple_says say b s i = say (open_variables b (first_var b s + i * length (values_at b s)) (values_at b s))

-- the tuples at which this is said: all, or the first alone where a function has no value, since that says it all
abbrev pub said_tuples : List Elem → List (List Elem) → List (List Elem)
said_tuples [] ts = take 1 ts
said_tuples (x ∷ xs) ts = ts

-- what is said at each tuple
abbrev pub function_says : {X : Type 0} → (List Lit → List X) → GroundBase → ℕ → List X
function_says say b s =
    flat_map (λ (r : ℕ × List Elem). tuple_says say b s r.0)
    (enumerate_from 0 (said_tuples (values_at b s) (tuples_at b s)))

-- and of each function
abbrev pub functions_say : {X : Type 0} → (List Lit → List X) → GroundBase → List X
functions_say say b = flat_map (λ (s : ℕ × Symbol). function_says say b s.0) (functions_of b.vocabulary)

-- that a variable has a value
abbrev pub fact_of : ℕ → Bool → Lit
fact_of n x = record { var = record { 0 = n }; positive = x }

-- what is known of the atom of a variable
abbrev pub fact_clause : ℕ → Option Bool → List (List Lit)
fact_clause n None = []
fact_clause n (Some x) = (fact_of n x ∷ []) ∷ []

-- what is known of the atoms from a variable on, a clause of one literal for each known one
abbrev pub fact_clauses : ℕ → List (Option Bool) → List (List Lit)
fact_clauses n [] = []
fact_clauses n (o ∷ os) = fact_clause n o ++ fact_clauses (n + 1) os

-- the problem with more clauses and constraints
abbrev pub saying : ProblemState → List (List Lit) → List AggCon → ProblemState
saying p cs ss = record p { clauses = p.clauses ++ cs; sums = p.sums ++ ss }

-- what holds of the ground atoms before any sentence; they are the first variables, in their order
abbrev pub start_problem : GroundBase → ProblemState
start_problem b = record {
  atoms = ground_atoms b.vocabulary.symbols b.domains;
  vars = length (ground_atoms b.vocabulary.symbols b.domains);
  gates = [];
  clauses = functions_say (one_of_clauses (length b.known)) b ++ fact_clauses 1 b.known;
  sums = functions_say (one_of_sums (length b.known)) b;
  terms = [];
  bounds = [];
  retired = [];
}

-- the problem of sentences over what is known
abbrev pub problem_of : GroundBase → List FormulaTree → ProblemState
problem_of b fs = assert_sentences b fs (start_problem b)
