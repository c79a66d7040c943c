-- Definitions by completion: an atom of a defined symbol is true exactly where the body of some instance with this head
-- is. The atoms have their variables already, so that only bodies make new ones.
use Rattle.std.specs.Prelude.{ℕ, ◌+◌, ◌*◌, nat_eq, List, [], ◌∷◌, ◌++◌, map, filter, fold, flat_map, length, Bool}
use Rattle.std.specs.Prelude.{true, false, if◌then◌else◌}
use Rattle.std.specs.Prelude.{Option, Some, None, option_map}
use Rattle.std.specs.List.{list_any, enumerate_from}
use Rattle.kb_logic.specs.declared.elements.Elem.{Elem}
use Rattle.kb_logic.specs.declared.structures.Structure.{Structure}
use Rattle.kb_logic.specs.Trees.{TermTree, RuleTree, DefinitionTree}
use Rattle.kb_logic.specs.Structures.{choices}
use Rattle.kb_logic.specs.Denotations.{Denotation}
use Rattle.kb_logic.specs.Meaning.{value_of}
use Rattle.kb_logic.specs.Models.{GroundAtom}
use Rattle.kb_logic.specs.KnownAtoms.{atoms_over}
use Rattle.lit_core.specs.declared.literals.Lit.{Lit}
use Rattle.lit_core.specs.Literals.{negated}
use Rattle.ground_core.specs.Problems.{ProblemState}
use Rattle.ground_core.specs.Growth.{with_clause}
use Rattle.ground_core.specs.GateClauses.{clauses_of_join}
use Rattle.term_values.specs.GroundBases.{GroundBase, known_of, first_var, row_index, tuples_at, values_at}
use Rattle.def_ground.specs.declared.answers.Answer.{Answer}
use Rattle.def_ground.specs.declared.answers.Answer.TheVariants.{Constant, Literal}
use Rattle.def_ground.specs.Answers.{GroundResult}
use Rattle.def_ground.specs.Cases.{with_clauses}
use Rattle.def_ground.specs.Forms.{form_of, answer_of_atom, settles, with_answer}

-- a structure without tables: the terms of a head need none
abbrev pub bare_structure : GroundBase → Structure
bare_structure b = record { domains = b.domains; relations = []; functions = [] }

-- the value of a head's term: of a variable, an integer or a constructed name
abbrev pub head_value : GroundBase → List Elem → TermTree → Denotation
head_value b e t = value_of (bare_structure b) t e

-- the variable of a predicate's atom with these arguments, and that of a function's; there is none outside its types
abbrev pub plain_var : GroundBase → ℕ → Option ℕ → Option ℕ
plain_var b s i = option_map (λ k. first_var b s + k) i

abbrev pub valued_var : GroundBase → ℕ → Option ℕ → Option ℕ → Option ℕ
valued_var b s None j = None
valued_var b s (Some i) j = option_map (λ k. first_var b s + i * length (values_at b s) + k) j

abbrev pub var_of_value : GroundBase → ℕ → Option ℕ → Option Denotation → Option ℕ
var_of_value b s i None = plain_var b s i
var_of_value b s i (Some d) = valued_var b s i (row_index (map (λ x. x ∷ []) (values_at b s)) (d ∷ []))

-- the variable of a rule's head under an assignment
abbrev pub head_var : GroundBase → RuleTree → List Elem → Option ℕ
head_var b r e = var_of_value b r.symbol (row_index (tuples_at b r.symbol) (map (head_value b e) r.args))
    (option_map (head_value b e) r.value)

-- the instances so far: the variable of each head, and what its body comes to
pub record Instances : Type 0 where
  pub bodies : List (ℕ × Answer)
  pub problem : ProblemState

abbrev pub with_body : Option ℕ → GroundResult → Instances → Instances
with_body None g st = st
with_body (Some n) g st = record { bodies = st.bodies ++ (n, g.answer) ∷ []; problem = g.problem }

abbrev pub instance_step : GroundBase → RuleTree → Instances → List Elem → Instances
instance_step b r st e = with_body (head_var b r e) (form_of b r.body e st.problem) st

abbrev pub rule_instances : GroundBase → Instances → RuleTree → Instances
rule_instances b st r = fold (instance_step b r) st (choices b.domains r.vars)

abbrev pub all_instances : GroundBase → DefinitionTree → ProblemState → Instances
all_instances b d p = fold (rule_instances b) (record { bodies = []; problem = p }) d.rules

-- the bodies of the instances with this head
abbrev pub bodies_of : ℕ → List (ℕ × Answer) → List Answer
bodies_of n bs = map (λ (x : ℕ × Answer). x.1) (filter (λ (x : ℕ × Answer). nat_eq x.0 n) bs)

-- one of them is true in any case
abbrev pub settled_by : List Answer → Bool
settled_by = list_any (settles false)

abbrev pub literals_in : List Answer → List Lit
literals_in as' = flat_map (λ a. with_answer a []) as'

-- the atom is true exactly where one of the bodies is
abbrev pub complete : Answer → List Answer → ProblemState → ProblemState
complete (Constant true) as' p = if settled_by as' then p else with_clause p (literals_in as')
complete (Constant false) as' p =
    if settled_by as' then with_clause p [] else with_clauses p (map (λ l. negated l ∷ []) (literals_in as'))
complete (Literal l) as' p =
    if settled_by as' then with_clause p (l ∷ []) else with_clauses p (clauses_of_join false l (literals_in as'))

abbrev pub complete_atom : GroundBase → List (ℕ × Answer) → ProblemState → ℕ → ProblemState
complete_atom b bs p n = complete (answer_of_atom (known_of b n) n) (bodies_of n bs) p

-- some rule's head has this symbol
abbrev pub is_defined : DefinitionTree → ℕ → Bool
is_defined d s = list_any (λ (r : RuleTree). nat_eq r.symbol s) d.rules

-- the variables of the atoms of defined symbols, in order
abbrev pub defined_vars : GroundBase → DefinitionTree → List ℕ
defined_vars b d =
    map (λ (x : ℕ × GroundAtom). x.0)
    (filter (λ (x : ℕ × GroundAtom). is_defined d x.1.symbol)
    (enumerate_from 1 (atoms_over b.vocabulary.symbols b.domains)))

-- the problem with a definition
abbrev pub define_of : GroundBase → DefinitionTree → ProblemState → ProblemState
define_of b d p =
    let made = all_instances b d p in
    fold (complete_atom b made.bodies) made.problem (defined_vars b d)

-- definitions one after another
abbrev pub define_all : GroundBase → List DefinitionTree → ProblemState → ProblemState
define_all b ds p = fold (λ q d. define_of b d q) p ds
