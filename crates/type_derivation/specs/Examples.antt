-- Worked examples of the stage of types.
use Rattle.std.specs.Prelude.{◌≡◌, ℕ, pos, true, false, List, [], ◌∷◌, map, Option, None, Some, fold, codes}
use Rattle.kb_logic.specs.declared.syntax.AggKind.TheVariants as kind
use Rattle.kb_logic.specs.declared.syntax.Cmp.TheVariants as cmp
use Rattle.kb_logic.specs.declared.vocabularies.Bound.{Bound}
use Rattle.kb_logic.specs.declared.vocabularies.Vocabulary.{Vocabulary}
use Rattle.kb_logic.specs.declared.vocabularies.TypeDecl.{TypeDecl}
use Rattle.kb_logic.specs.declared.vocabularies.Symbol.{Symbol}
use Rattle.kb_logic.specs.declared.vocabularies.Parent.{Parent}
use Rattle.kb_logic.specs.declared.vocabularies.Parent.TheVariants as parent
use Rattle.kb_logic.specs.Trees as typed
use Rattle.kb_logic.specs.Trees.{TermTree, FormulaTree, RuleTree}
use Rattle.kb_text.specs.declared.fault.K.TheVariants as k
use Rattle.kb_text.specs.declared.fault.KbFault.{KbFault}
use Rattle.stage_definitions.specs.Demands.{Finding, nothing, found, torn, Binding, demand, scope, Parts, no_parts}
use Rattle.stage_definitions.specs.Demands.{more_parts}
use Rattle.stage_definitions.specs.Earliest.{refusal}
use Rattle.stage_definitions.specs.Kinship.{is_under, is_number_type, are_akin}
use Rattle.stage_definitions.specs.NamedTrees.{NamedVar, NamedTerm, at, variable, integer, application, summation}
use Rattle.stage_definitions.specs.NamedTrees.{aggregate, terms_of, summands_of, NamedFormula, truth, atom, comparison}
use Rattle.stage_definitions.specs.NamedTrees.{conjunction, universal, existential, formulas_of, NamedRule}
use Rattle.stage_definitions.specs.TermPlaces.{term_begins, rule_begins}
use Rattle.stage_definitions.specs.TypedTrees.{typed_sentence, typed_rule, typed_block_term}
use Rattle.stage_definitions.specs.TypesStage.{sentence_settled, rule_settled, block_settled, uses_among}
use Rattle.stage_definitions.specs.TypesStage.{rule_type_uses, type_noted}

abbrev pub a_type : Parent → TypeDecl
a_type above = record { name = codes "T"; parent = above; made = [] }

abbrev pub a_symbol : List ℕ → Option ℕ → Symbol
a_symbol args value = record { name = codes "s"; args = args; value = value }

-- type A isa int  B isa A  C  D isa C  E isa B
-- P(A)  Q(B)  R(C)  f(A): B  c: D  g(B): B
abbrev pub types : List TypeDecl
types = a_type parent.Int ∷ a_type (parent.Of 0) ∷ a_type parent.Root ∷ a_type (parent.Of 2) ∷ a_type (parent.Of 1) ∷ []

abbrev pub symbols : List Symbol
symbols =
    a_symbol (0 ∷ []) None
    ∷ a_symbol (1 ∷ []) None
    ∷ a_symbol (2 ∷ []) None
    ∷ a_symbol (0 ∷ []) (Some 1)
    ∷ a_symbol [] (Some 3)
    ∷ a_symbol (1 ∷ []) (Some 1)
    ∷ []

abbrev pub vocabulary : Vocabulary
vocabulary = record { name = codes "V"; types = types; symbols = symbols }

-- ---- formulas and terms; the variables x and y are those with the numbers 0 and 1

abbrev pub bound : ℕ → NamedVar
bound place = record { name = codes "x"; place = place; ty = None }

abbrev pub bound_in : ℕ → ℕ → NamedVar
bound_in place t = record { name = codes "x"; place = place; ty = Some t }

abbrev pub each : NamedFormula → NamedFormula
each f = universal (bound 1 ∷ []) f

abbrev pub each_two : NamedFormula → NamedFormula
each_two f = universal (bound 1 ∷ bound 2 ∷ []) f

abbrev pub some_y : NamedFormula → NamedFormula
some_y f = existential (bound 3 ∷ []) f

abbrev pub x : NamedTerm
x = at 10 (variable 0)

abbrev pub y : NamedTerm
y = at 11 (variable 1)

abbrev pub number : ℕ → NamedTerm
number i = at 12 (integer i)

abbrev pub minus : NamedTerm → NamedTerm
minus t = at 13 (summation (summands_of ((true, t) ∷ [])))

abbrev pub sum : NamedTerm → NamedTerm → NamedTerm
sum a b = at 14 (summation (summands_of ((false, a) ∷ (false, b) ∷ [])))

abbrev pub f : NamedTerm → NamedTerm
f t = at 15 (application 3 (terms_of (t ∷ [])))

abbrev pub g : NamedTerm → NamedTerm
g t = at 17 (application 5 (terms_of (t ∷ [])))

abbrev pub c : NamedTerm
c = at 16 (application 4 (terms_of []))

abbrev pub P : NamedTerm → NamedFormula
P t = atom 0 (terms_of (t ∷ []))

abbrev pub Q : NamedTerm → NamedFormula
Q t = atom 1 (terms_of (t ∷ []))

abbrev pub R : NamedTerm → NamedFormula
R t = atom 2 (terms_of (t ∷ []))

abbrev pub both : NamedFormula → NamedFormula → NamedFormula
both a b = conjunction (formulas_of (a ∷ b ∷ []))

abbrev pub equal : NamedTerm → NamedTerm → NamedFormula
equal = comparison cmp.Eq

-- sum{x : condition : weight}
abbrev pub total : NamedFormula → NamedTerm → NamedTerm
total condition weight = at 9 (aggregate kind.Sum (bound 1 ∷ []) condition weight)

-- rules with one variable: of a predicate, `!x: p(t) <- body`, and of a function, `!x: f(t) = value <- body`
abbrev pub rule_for : List NamedVar → ℕ → NamedTerm → Option NamedTerm → NamedFormula → NamedRule
rule_for vars symbol t value body = record {
  vars = vars;
  symbol = symbol;
  args = t ∷ [];
  value = value;
  has_body = true;
  body = body;
}

abbrev pub each_atom : ℕ → NamedTerm → NamedFormula → NamedRule
each_atom symbol t body = rule_for (bound 1 ∷ []) symbol t None body

abbrev pub each_value : NamedTerm → NamedTerm → NamedFormula → NamedRule
each_value t value body = rule_for (bound 1 ∷ []) 3 t (Some value) body

-- ---- the same with types

abbrev pub of_type : ℕ → List Bound
of_type t = record { name = codes "x"; ty = t } ∷ []

abbrev pub each_of : ℕ → FormulaTree → FormulaTree
each_of t = typed.universal (of_type t)

abbrev pub some_of : ℕ → FormulaTree → FormulaTree
some_of t = typed.existential (of_type t)

abbrev pub total_of : ℕ → FormulaTree → TermTree → TermTree
total_of t = typed.aggregate kind.Sum (of_type t)

abbrev pub typed_x : TermTree
typed_x = typed.variable 0

abbrev pub typed_y : TermTree
typed_y = typed.variable 1

abbrev pub typed_c : TermTree
typed_c = typed.application 4 typed.no_terms

abbrev pub typed_f : TermTree → TermTree
typed_f t = typed.application 3 (typed.terms_of (t ∷ []))

abbrev pub typed_P : TermTree → FormulaTree
typed_P t = typed.atom 0 (typed.terms_of (t ∷ []))

abbrev pub typed_Q : TermTree → FormulaTree
typed_Q t = typed.atom 1 (typed.terms_of (t ∷ []))

abbrev pub typed_R : TermTree → FormulaTree
typed_R t = typed.atom 2 (typed.terms_of (t ∷ []))

abbrev pub typed_both : FormulaTree → FormulaTree → FormulaTree
typed_both a b = typed.conjunction (typed.formulas_of (a ∷ b ∷ []))

abbrev pub typed_equal : TermTree → TermTree → FormulaTree
typed_equal = typed.comparison cmp.Eq

-- ---- what is asked of them

abbrev pub tree_of : NamedFormula → FormulaTree
tree_of = typed_sentence vocabulary

abbrev pub findings_of : List Binding → List Finding
findings_of = map (λ b. b.finding)

abbrev pub first_findings : Parts → List Finding
first_findings no_parts = []
first_findings (more_parts (demand d) ps) = first_findings ps
first_findings (more_parts (scope bs inner) ps) = findings_of bs

-- what is found of the variables of the outermost list
abbrev pub found_of : NamedFormula → List Finding
found_of s = first_findings (sentence_settled vocabulary s)

-- the earliest refusal of a sentence, and of a term block's term
abbrev pub refused : NamedFormula → Option KbFault
refused s = fold (type_noted types) None (uses_among [] (sentence_settled vocabulary s))

abbrev pub refused_term : NamedTerm → Option KbFault
refused_term t = fold (type_noted types) None (uses_among [] (block_settled vocabulary t))

abbrev pub found_of_rule : NamedRule → List Finding
found_of_rule r = first_findings (rule_settled vocabulary r)

abbrev pub refused_rule : NamedRule → Option KbFault
refused_rule r = fold (type_noted types) None (rule_type_uses vocabulary r)

pub record TypesAreWorkedOut : Type 0 where
  -- E is below A, two steps up, but A is not below B
  pub two_steps : is_under types 4 0 ≡ true
  pub not_downwards : is_under types 0 1 ≡ false
  pub number_type : is_number_type types 4 ≡ true
  pub no_number_type : is_number_type types 3 ≡ false
  pub akin : are_akin types 2 3 ≡ true
  pub not_akin : are_akin types 1 3 ≡ false
  -- !x: P(x) & Q(x), in either order
  pub least : found_of (each (both (P x) (Q x))) ≡ found 1 ∷ []
  pub least_first : found_of (each (both (Q x) (P x))) ≡ found 1 ∷ []
  -- !x: P(x) & R(x)
  pub clash : found_of (each (both (P x) (R x))) ≡ torn ∷ []
  pub clash_at_binding : refused (each (both (P x) (R x))) ≡ Some (refusal k.TypeClash 1)
  -- !x[C]: P(x) clashes at the argument, and !x[E]: P(x) is fine
  pub written_stays : found_of (universal (bound_in 1 2 ∷ []) (P x)) ≡ found 2 ∷ []
  pub written_clash : refused (universal (bound_in 1 2 ∷ []) (P x)) ≡ Some (refusal k.TypeClash 10)
  pub written_below : refused (universal (bound_in 1 4 ∷ []) (P x)) ≡ None
  -- !x: x = c
  pub by_other_side : found_of (each (equal x c)) ≡ found 3 ∷ []
  pub by_left_side : found_of (each (equal c x)) ≡ found 3 ∷ []
  -- places before sides: !x: x = c & R(x)
  pub places_first : found_of (each (both (equal x c) (R x))) ≡ found 2 ∷ []
  -- integers, sums and products give no type
  pub integer_gives_none : found_of (each (equal x (number 3))) ≡ nothing ∷ []
  pub no_type : refused (each (equal x (number 3))) ≡ Some (refusal k.Untyped 1)
  pub sum_gives_none : found_of (each (equal x (sum (f (number 1)) (number 1)))) ≡ nothing ∷ []
  -- !x: x = f(1) & x = c
  pub clash_of_sides : refused (each (both (equal x (f (number 1))) (equal x c))) ≡ Some (refusal k.TypeClash 1)
  -- !x y: x = y & R(y)
  pub by_a_variable : found_of (each_two (both (equal x y) (R y))) ≡ found 2 ∷ found 2 ∷ []
  -- !x y: x = y, and !x y: x = y & y = c, where x has only a variable that has its type by a side
  pub by_no_variable : found_of (each_two (equal x y)) ≡ nothing ∷ nothing ∷ []
  pub sides_give_none : found_of (each_two (both (equal x y) (equal y c))) ≡ nothing ∷ found 3 ∷ []
  -- !x: ?y: Q(y) & x = y
  pub by_an_inner_variable : tree_of (each (some_y (both (Q y) (equal x y)))) ≡ each_of 1
      (some_of 1 (typed_both (typed_Q typed_y) (typed_equal typed_x typed_y)))
  -- !x: R(x) & ?y: y = x
  pub by_an_outer_variable : tree_of (each (both (R x) (some_y (equal y x)))) ≡ each_of 2
      (typed_both (typed_R typed_x) (some_of 2 (typed_equal typed_y typed_x)))
  -- !x: ?y: y = c & x = y, where x has only a variable that has its type by a side, and so the type 0
  pub by_no_inner_variable : tree_of (each (some_y (both (equal y c) (equal x y)))) ≡ each_of 0
      (some_of 3 (typed_both (typed_equal typed_y typed_c) (typed_equal typed_x typed_y)))
  -- !x y: x = y & P(y) & R(y)
  pub torn_gives_none : found_of (each_two (both (equal x y) (both (P y) (R y)))) ≡ nothing ∷ torn ∷ []
  pub torn_refused : refused (each_two (both (equal x y) (both (P y) (R y)))) ≡ Some (refusal k.Untyped 1)
  -- P(f(x)) places x at A, and !x: P(x + 1) places it nowhere
  pub whole_argument : found_of (each (P (f x))) ≡ found 0 ∷ []
  pub part_of_argument : found_of (each (P (sum x (number 1)))) ≡ nothing ∷ []
  -- (!x: P(x)) & (!x: R(x)): another variable with the same number
  pub each_in_its_scope : tree_of (both (each (P x)) (each (R x))) ≡ typed_both (each_of 0 (typed_P typed_x))
      (each_of 2 (typed_R typed_x))
  -- 1 = sum{x : true : f(x)}, and sum{x : Q(x) : f(x)} as a term block's term
  pub by_a_weight : tree_of (equal (number 1) (total (truth true) (f x))) ≡ typed_equal (typed.integer (pos 1))
      (total_of 0 typed.verum (typed_f typed_x))
  pub in_a_block : typed_block_term vocabulary (total (Q x) (f x)) ≡ total_of 1 (typed_Q typed_x) (typed_f typed_x)
  -- integers as arguments of a function
  pub an_integer : refused_term (f (number 3)) ≡ None
  pub minus_an_integer : refused_term (f (minus (number 3))) ≡ None
  pub a_sum : refused_term (f (sum (number 2) (number 1))) ≡ Some (refusal k.TypeClash 14)
  pub two_minus : refused_term (f (minus (minus (number 3)))) ≡ Some (refusal k.TypeClash 13)
  -- an argument of a function is below its position: !x[E]: P(g(x)) is fine, but !x[A]: P(g(x)) is not
  pub below : refused (universal (bound_in 1 4 ∷ []) (P (g x))) ≡ None
  pub only_akin : refused (universal (bound_in 1 0 ∷ []) (P (g x))) ≡ Some (refusal k.TypeClash 10)
  pub not_below : refused_term (f c) ≡ Some (refusal k.TypeClash 16)
  -- arguments of a predicate are only akin: !x[A]: Q(x)
  pub akin_at_predicate : refused (universal (bound_in 1 0 ∷ []) (Q x)) ≡ None
  pub integer_at_predicate : refused (Q (number 3)) ≡ None
  pub sum_at_predicate : refused (Q (sum (number 2) (number 1))) ≡ None
  pub apart_at_predicate : refused (P c) ≡ Some (refusal k.TypeClash 16)
  -- f(1) < c, at the left side, and c < c, where both are no numbers
  pub left_side : refused (comparison cmp.Lt (f (number 1)) c) ≡ Some (refusal k.TypeClash 15)
  pub order_of_words : refused (comparison cmp.Lt c c) ≡ Some (refusal k.TypeClash 16)
  pub equal_words : refused (equal c c) ≡ None
  -- c as an operand, and as a term block's term
  pub operand : refused_term (sum (number 1) c) ≡ Some (refusal k.TypeClash 16)
  pub block_term : refused_term c ≡ Some (refusal k.TypeClash 16)
  -- the places of f(2+1) and its parts
  pub places : term_begins (f (sum (number 2) (number 1))) ≡ 15 ∷ 14 ∷ 12 ∷ 12 ∷ []
  -- !x: P(x) & Q(x) with the variable's type
  pub tree : tree_of (each (both (P x) (Q x))) ≡ each_of 1 (typed_both (typed_P typed_x) (typed_Q typed_x))
  -- { !x: P(x) <- true. }, { !x: f(1) = x <- true. } and { !x: P(x) <- Q(x). }
  pub by_a_head : found_of_rule (each_atom 0 x (truth true)) ≡ found 0 ∷ []
  pub by_a_value : found_of_rule (each_value (number 1) x (truth true)) ≡ found 1 ∷ []
  pub by_a_body : found_of_rule (each_atom 0 x (Q x)) ≡ found 1 ∷ []
  -- { !x[A]: Q(x) <- true. }: an argument of a head is below its position, as that of a function
  pub head_below : refused_rule (rule_for (bound_in 1 0 ∷ []) 1 x None (truth true)) ≡ Some (refusal k.TypeClash 10)
  pub integer_in_head : refused_rule (rule_for [] 1 (number 3) None (truth true)) ≡ None
  -- { f(1) = c <- true. }: the value of a head need not be in the value type
  pub value_apart : refused_rule (rule_for [] 3 (number 1) (Some c) (truth true)) ≡ None
  -- { !x: f(x) = f(2+1) <- P(c). }: the places of its arguments, of its value and of its body
  pub places_in_rule : rule_begins (each_value x (f (sum (number 2) (number 1))) (P c))
      ≡ 10 ∷ 15 ∷ 14 ∷ 12 ∷ 12 ∷ 16 ∷ []
  -- { !x: f(x) = x <- Q(x). } with the variable's type
  pub rule_tree : typed_rule vocabulary (each_value x x (Q x)) ≡ record {
    vars = of_type 1;
    symbol = 3;
    args = typed_x ∷ [];
    value = Some typed_x;
    has_body = true;
    body = typed_Q typed_x;
  }
