-- Worked examples of the stage of names.
use Rattle.std.specs.Prelude.{◌≡◌, ℕ, true, false, List, [], ◌∷◌, Option, None, Some, codes}
use Rattle.kb_logic.specs.declared.syntax.Cmp.TheVariants as cmp
use Rattle.kb_logic.specs.declared.vocabularies.Parent.TheVariants as parent
use Rattle.grammar.specs.declared.terminal.Arrow.TheVariants as arrow
use Rattle.grammar.specs.BlockTrees.{Rule, rule, binding, value_head}
use Rattle.grammar.specs.Trees as raw
use Rattle.grammar.specs.Trees.{Name, name}
use Rattle.stage_definitions.specs.Files.{Declaration, type_under, constructed_type, symbol}
use Rattle.stage_definitions.specs.Names.{Names, names_of, meaning_of, a_type}
use Rattle.stage_definitions.specs.NamedTrees as tree
use Rattle.stage_definitions.specs.NamesStage.{is_unknown, is_redeclared, is_wrong, is_unsupported, is_too_many}
use Rattle.stage_definitions.specs.NamesStage.{is_bad_head, begins_cycle}
use Rattle.stage_definitions.specs.Numbering.{grouped, named_factor, named_product, named_rule, parent_named}
use Rattle.stage_definitions.specs.Scopes.{last_position}
use Rattle.stage_definitions.specs.Uses.{declares, counted, climbs, bound, formula_word, term_word, position}
use Rattle.stage_definitions.specs.Uses.{Context, in_scope, function_word, head_argument}
use Rattle.stage_definitions.specs.Uses as use_of

abbrev pub word : List ℕ → Name
word text = name text 7

-- type A isa int  P(A)  f(A): A  p  type C constructed from {Red}
abbrev pub some_declarations : List Declaration
some_declarations =
    type_under (word (codes "A")) (Some (word (codes "int")))
    ∷ symbol (word (codes "P")) (word (codes "A") ∷ []) None
    ∷ symbol (word (codes "f")) (word (codes "A") ∷ []) (Some (word (codes "A")))
    ∷ symbol (word (codes "p")) [] None
    ∷ constructed_type (word (codes "C")) (word (codes "Red") ∷ [])
    ∷ []

abbrev pub some_names : Names
some_names = names_of some_declarations

abbrev pub word_term : Name → raw.Term
word_term w = raw.product (raw.factor (raw.value (raw.constant w)))

-- `f(x)`
abbrev pub value_at_x : raw.App
value_at_x = raw.apply (word (codes "f")) 8 (raw.final (word_term (word (codes "x")))) 10

-- `! x: f(x) = f(x).` with this body
abbrev pub rule_on_itself : Option (ℕ × Option raw.Formula) → Rule
rule_on_itself body =
    rule (binding 0 (raw.var (raw.untyped (word (codes "x")))) 3 ∷ [])
    (value_head value_at_x 11 (raw.product (raw.factor (raw.value value_at_x)))) body 15

-- where a definition defines f, and x is a variable of the rule
abbrev pub where_f_is_defined : Context
where_f_is_defined = record { scope = codes "x" ∷ []; defined = codes "f" ∷ [] }

-- one formula for each name
abbrev pub formula_number : ℕ → tree.NamedFormula
formula_number n = tree.atom n tree.no_terms

pub record NamesAreWorkedOut : Type 0 where
  -- a bound variable is no formula, even where a proposition has its name
  pub variable_as_formula : is_wrong some_names (formula_word (in_scope (codes "p" ∷ [])) (word (codes "p")) 0) ≡ true
  -- with arguments a variable's name is sought among the declarations alone
  pub variable_with_arguments : is_unknown some_names (formula_word (in_scope (codes "x" ∷ [])) (word (codes "x")) 1)
      ≡ true
  pub element_as_formula : is_wrong some_names (formula_word (in_scope []) (word (codes "Red")) 0) ≡ true
  pub function_as_formula : is_wrong some_names (formula_word (in_scope []) (word (codes "f")) 1) ≡ true
  pub predicate_with_other_count : is_wrong some_names (formula_word (in_scope []) (word (codes "P")) 2) ≡ true
  pub predicate_as_formula : is_wrong some_names (formula_word (in_scope []) (word (codes "P")) 1) ≡ false
  pub element_with_arguments : is_wrong some_names (term_word (in_scope []) (word (codes "Red")) 1) ≡ true
  pub type_as_term : is_unsupported some_names (term_word (in_scope []) (word (codes "A")) 0) ≡ true
  pub number_type_as_formula : is_unsupported some_names (formula_word (in_scope []) (word (codes "nat")) 0) ≡ true
  pub number_type_of_argument : is_unsupported some_names (position (word (codes "int"))) ≡ true
  pub predicate_as_type : is_wrong some_names (position (word (codes "P"))) ≡ true
  pub predicate_as_parent : is_wrong some_names (use_of.parent (word (codes "P"))) ≡ true
  pub number_type_as_parent : parent_named some_names (Some (word (codes "int"))) ≡ parent.Int
  pub unknown_type : is_unknown some_names (position (word (codes "D"))) ≡ true
  pub defined_in_body : is_unsupported some_names (term_word where_f_is_defined (word (codes "f")) 1) ≡ true
  pub other_in_body : is_unsupported some_names (formula_word where_f_is_defined (word (codes "P")) 1) ≡ false
  -- a variable and an element are no heads, an application is no argument of a head
  pub variable_as_head : is_wrong some_names (formula_word where_f_is_defined (word (codes "x")) 0) ≡ true
  pub element_as_head : is_wrong some_names (function_word [] (word (codes "Red")) 0) ≡ true
  pub variable_in_head : is_bad_head some_names (head_argument (codes "x" ∷ []) (word_term (word (codes "x")))) ≡ false
  pub element_in_head : is_bad_head some_names (head_argument [] (word_term (word (codes "Red")))) ≡ false
  pub minus_in_head : is_bad_head some_names
      (head_argument [] (raw.product (raw.factor (raw.negative 0 (raw.integer 2 1))))) ≡ false
  pub value_in_head : is_bad_head some_names
      (head_argument (codes "x" ∷ []) (raw.product (raw.factor (raw.value value_at_x)))) ≡ true
  -- `int` is taken, and elements' names are names as others
  pub taken : is_redeclared (declares some_names (word (codes "int"))) ≡ true
  pub element_declared_again : is_redeclared (declares some_names (word (codes "Red"))) ≡ true
  pub variable_bound_twice : is_redeclared (bound (codes "x" ∷ []) (word (codes "x"))) ≡ true
  -- a name that is declared twice means its first declaration
  pub first_declaration : meaning_of (names_of (type_under (word (codes "A")) None ∷ symbol (word (codes "A")) [] None ∷
      [])) (codes "A") ≡ a_type 0
  pub types_up_to_256 : is_too_many (counted 256 256 (word (codes "A"))) ≡ false
  pub types_past_256 : is_too_many (counted 256 257 (word (codes "A"))) ≡ true
  -- a cycle begins at its first type in the text; a type under itself is one
  pub own_parent : begins_cycle (Some 0 ∷ []) 0 ≡ true
  pub first_of_two : begins_cycle (Some 1 ∷ Some 0 ∷ []) 0 ≡ true
  pub second_of_two : begins_cycle (Some 1 ∷ Some 0 ∷ []) 1 ≡ false
  pub on_the_way : begins_cycle (Some 1 ∷ Some 1 ∷ []) 0 ≡ false
  -- the innermost variable of a name, counted from the outermost variable
  pub shadowed : last_position (codes "x") (codes "x" ∷ codes "y" ∷ codes "x" ∷ codes "z" ∷ []) ≡ Some 2
  -- `x()` is the variable x, and a bracket is the place of what stands in it
  pub empty_brackets : named_factor some_names (codes "x" ∷ []) (raw.value (raw.empty (word (codes "x")) 8 9))
      ≡ tree.at 7 (tree.variable 0)
  pub in_brackets : named_factor some_names [] (raw.brackets 1 (raw.product (raw.factor (raw.integer 5 2))) 3)
      ≡ tree.at 1 (tree.integer 5)
  -- `-2 * 3` is a product of a sum of one with minus and 3
  pub minus_two_times_three :
      named_product some_names [] (raw.times (raw.negative 0 (raw.integer 2 1)) 2 (raw.factor (raw.integer 3 3)))
      ≡ tree.at 0 (tree.product (tree.more_terms (tree.at 0 (tree.summation
      (tree.more_summands true (tree.at 1 (tree.integer 2)) tree.no_summands)))
      (tree.more_terms (tree.at 3 (tree.integer 3)) tree.no_terms)))
  -- `! x: f(x) = f(x)` stands for `! x v: f(x) = v <- v = f(x)`
  pub value_as_variable : named_rule some_names (rule_on_itself None) ≡ record {
    vars = record { name = codes "x"; place = 7; ty = None } ∷ record { name = codes "f"; place = 7; ty = None } ∷ [];
    symbol = 1;
    args = tree.at 7 (tree.variable 0) ∷ [];
    value = Some (tree.at 7 (tree.variable 1));
    has_body = true;
    body = tree.comparison cmp.Eq (tree.at 7 (tree.variable 1)) (tree.at 7 (tree.application 1
        (tree.more_terms (tree.at 7 (tree.variable 0)) tree.no_terms)));
  }
  -- arrows are grouped to the right, but `<=` and `<=>` to the left
  pub right : grouped arrow.Implies (formula_number 0) (formula_number 1 ∷ formula_number 2 ∷ []) ≡ tree.implication
      (formula_number 0) (tree.implication (formula_number 1) (formula_number 2))
  pub left : grouped arrow.ImpliedBy (formula_number 0) (formula_number 1 ∷ formula_number 2 ∷ []) ≡ tree.implication
      (formula_number 2) (tree.implication (formula_number 1) (formula_number 0))
  pub both : grouped arrow.Equivalent (formula_number 0) (formula_number 1 ∷ formula_number 2 ∷ []) ≡ tree.equivalence
      (tree.equivalence (formula_number 0) (formula_number 1)) (formula_number 2)
