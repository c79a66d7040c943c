-- The body of a rule, and the rule that it makes with a head and its value.
use Rattle.std.specs.Prelude.{◌≡◌, Bool, true, false, is_some, List, length, ◌++◌, fold, Option, Some, None}
use Rattle.std.specs.Option.{option_map}
use Rattle.grammar.specs.BlockView.{body_view}
use Rattle.grammar.specs.Trees.{Name, Formula, Term}
use Rattle.grammar.specs.declared.raw_blocks.RawBody.{RawBody}
use Rattle.stage_definitions.specs.NamedTrees as named
use Rattle.stage_definitions.specs.NamedTrees.{NamedFormula, NamedRule, at, more_formulas, no_formulas}
use Rattle.stage_definitions.specs.Names.{Names}
use Rattle.stage_definitions.specs.NamesStage.{name_noted}
use Rattle.stage_definitions.specs.Numbering.{named_body, named_formula, named_term, valued_body}
use Rattle.stage_definitions.specs.Scopes.{Text}
use Rattle.stage_definitions.specs.declared.standings.Standing.TheVariants.{Side}
use Rattle.stage_definitions.specs.Uses.{Context, Use, body_uses, place_of_term, uses_in_term, value_scope}
use Rattle.stage_definitions.specs.Uses.{written_body}
use Rattle.formula_names.specs.Steps.{names_known}
use Rattle.formula_names.specs.declared.resolver.Resolver.{Resolver}
use Rattle.rule_names.specs.Heads.{HeadTree, closed, var_for, with_var}

-- the body that is written
abbrev pub body_in : Option RawBody → Option Formula
body_in body = written_body (option_map body_view body)

-- a formula, and a body as one part beside it
abbrev pub joined : Names → List Text → NamedFormula → Option Formula → NamedFormula
joined names scope first None = first
joined names scope first (Some f) =
    named.conjunction (more_formulas first (more_formulas (named_formula names scope f) no_formulas))

-- the rule of a head with this value, which may stand there, or for which a variable stands
abbrev pub valued : Names → List Text → HeadTree → Name → Term → Option Formula → Bool → NamedRule
valued names scope h n t body true =
    closed h (Some (named_term names scope t)) (is_some body) (named_body names scope body)
valued names scope h n t body false =
    closed (with_var h (var_for n t)) (Some (at (place_of_term t) (named.variable (length scope)))) true
    (valued_body names (value_scope scope false) (length scope) t body)

-- the uses in a value and in the body after it
abbrev pub uses_behind : Context → Term → Option Formula → List Use
uses_behind c t body = uses_in_term Side c t ++ body_uses c body

-- the same with these variables in scope
abbrev pub under : List Text → Context → Context
under scope c = record { scope = scope; defined = c.defined }

-- what was made of a whole rule is right, and the earliest refusal of its uses is noted
pub record IsRuled {T : Type 0} (old new : Resolver) (made right : T) (uses : List Use) : Type 0 where
  pub tree : made ≡ right
  pub noted : new.earliest.first ≡ fold (name_noted (names_known old)) old.earliest.first uses
