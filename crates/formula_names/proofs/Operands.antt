-- The operands of chains: with numbers for words, and the uses in them.
use Rattle.std.proofs.Common.{ℕ, List, Bool}
use Rattle.grammar.specs.Trees as raw
use Rattle.grammar.specs.declared.terminal.Adding.{Adding}
use Rattle.stage_definitions.specs.NamedTrees.{NamedFormula, NamedTerm}
use Rattle.stage_definitions.specs.Names.{Names}
use Rattle.stage_definitions.specs.Numbering.{named_or, named_and, named_unary, named_product, named_factor, named_term}
use Rattle.stage_definitions.specs.Numbering.{is_minus}
use Rattle.stage_definitions.specs.Scopes.{Text}
use Rattle.stage_definitions.specs.declared.standings.Standing.{Standing}
use Rattle.stage_definitions.specs.declared.standings.Standing.TheVariants.{Elsewhere}
use Rattle.stage_definitions.specs.Uses.{Context, Use, uses_in_or, uses_in_and, uses_in_unary, uses_in_product}
use Rattle.stage_definitions.specs.Uses.{uses_in_factor, uses_in_term}

abbrev pub link_named : Names → List Text → ℕ × raw.Or → NamedFormula
link_named names scope x = named_or names scope x.1

abbrev pub link_uses : Context → ℕ × raw.Or → List Use
link_uses c x = uses_in_or c x.1

abbrev pub disjunct_named : Names → List Text → ℕ × raw.And → NamedFormula
disjunct_named names scope x = named_and names scope x.1

abbrev pub disjunct_uses : Context → ℕ × raw.And → List Use
disjunct_uses c x = uses_in_and c x.1

abbrev pub conjunct_named : Names → List Text → ℕ × raw.Unary → NamedFormula
conjunct_named names scope x = named_unary names scope x.1

abbrev pub conjunct_uses : Context → ℕ × raw.Unary → List Use
conjunct_uses c x = uses_in_unary c x.1

abbrev pub summand_named : Names → List Text → Adding × ℕ × raw.Product → Bool × NamedTerm
summand_named names scope x = (is_minus x.0, named_product names scope x.2)

abbrev pub summand_uses : Standing → Context → Adding × ℕ × raw.Product → List Use
summand_uses s c x = uses_in_product s c x.2

abbrev pub factor_named : Names → List Text → ℕ × raw.Factor → NamedTerm
factor_named names scope x = named_factor names scope x.1

abbrev pub factor_uses : Standing → Context → ℕ × raw.Factor → List Use
factor_uses s c x = uses_in_factor s c x.1

abbrev pub argument_named : Names → List Text → ℕ × raw.Term → NamedTerm
argument_named names scope x = named_term names scope x.1

abbrev pub argument_uses : Context → ℕ × raw.Term → List Use
argument_uses c x = uses_in_term Elsewhere c x.1
