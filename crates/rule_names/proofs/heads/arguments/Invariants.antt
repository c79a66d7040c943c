use Rattle.std.proofs.Common.{map, take}
use Rattle.grammar.specs.View.{terms_tail_view}
use Rattle.stage_definitions.specs.NamedViews.{term_view}
use Rattle.formula_names.proofs.Operands.{argument_named}
use Rattle.formula_names.proofs.StepLaws.{Adds}
use Rattle.rule_names.proofs.HeadLaws.{tail_uses}
use Rattle.rule_names.proofs.heads.arguments.Given as goal

abbrev pub invariant-loop-tail : goal.invariant-loop-tail
invariant-loop-tail l = Adds l.initial.walk l.walk argument_named tail_uses
    terms_tail_view (take l.tail-index l.more) (map term_view l.initial.args.items) (map term_view l.args.items)
