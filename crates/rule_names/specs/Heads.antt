-- A rule's head with numbers for words, and the rule that it makes with a value and a body.
use Rattle.std.specs.Prelude.{ℕ, Bool, List, [], ◌∷◌, ◌++◌, map, Option, None}
use Rattle.std.specs.List.{flat_map}
use Rattle.grammar.specs.Trees.{Name, Term}
use Rattle.grammar.specs.BlockTrees.{Binding, Head, atom_head, value_head}
use Rattle.stage_definitions.specs.NamedTrees.{NamedVar, NamedTerm, NamedFormula, NamedRule}
use Rattle.stage_definitions.specs.NamedViews.{term_view, var_view}
use Rattle.stage_definitions.specs.Names.{Names, text_of}
use Rattle.stage_definitions.specs.Numbering.{function_at, head_arguments, named_var, predicate_at}
use Rattle.stage_definitions.specs.Scopes.{Text}
use Rattle.stage_definitions.specs.declared.standings.Standing.TheVariants.{Elsewhere}
use Rattle.stage_definitions.specs.Uses.{Context, Use, head_argument, head_app, place_of_term, rule_scope, rule_vars}
use Rattle.stage_definitions.specs.Uses.{arguments_in, head_use, uses_in_term, uses_of_vars, vars_bound}
use Rattle.rule_names.specs.declared.heads.RuleHead.{RuleHead}

-- a head: the rule's variables, the number of its symbol, and its arguments
pub record HeadTree : Type 0 where
  pub vars : List NamedVar
  pub symbol : ℕ
  pub args : List NamedTerm

abbrev pub head_view : RuleHead → HeadTree
head_view h = record { vars = map var_view h.vars.items; symbol = h.symbol; args = map term_view h.args.items }

-- the variables of all lists
abbrev pub named_lists : Names → List Binding → List NamedVar
named_lists names bs = map (named_var names) (rule_vars bs)

abbrev pub uses_of_lists : List Binding → List Use
uses_of_lists = flat_map (λ b. uses_of_vars [] (vars_bound b))

abbrev pub symbol_at : Names → List Text → Head → ℕ
symbol_at names scope (atom_head a) = predicate_at names scope a
symbol_at names scope (value_head a p t) = function_at names scope a

-- the head of a rule with these lists of variables
abbrev pub named_head : Names → List Binding → Head → HeadTree
named_head names bs h = record {
  vars = named_lists names bs;
  symbol = symbol_at names (rule_scope bs) h;
  args = head_arguments names (rule_scope bs) (head_app h);
}

-- an argument of a head, and the uses in it
abbrev pub argument_uses : Context → Term → List Use
argument_uses c t = head_argument c.scope t ∷ uses_in_term Elsewhere c t

-- the uses in a head, where these variables are in scope
abbrev pub uses_in_head : Context → Head → List Use
uses_in_head c h = head_use c.scope h ∷ flat_map (argument_uses c) (arguments_in (head_app h))

-- the rule that a head, its value and a body make
abbrev pub closed : HeadTree → Option NamedTerm → Bool → NamedFormula → NamedRule
closed h value has_body body = record {
  vars = h.vars;
  symbol = h.symbol;
  args = h.args;
  value = value;
  has_body = has_body;
  body = body;
}

-- the head with one variable more
abbrev pub with_var : HeadTree → NamedVar → HeadTree
with_var h v = record { vars = h.vars ++ v ∷ []; symbol = h.symbol; args = h.args }

-- the variable for the value t of a function with this word
abbrev pub var_for : Name → Term → NamedVar
var_for n t = record { name = text_of n; place = place_of_term t; ty = None }
