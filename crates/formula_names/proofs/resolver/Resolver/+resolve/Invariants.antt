use Rattle.std.proofs.Common.{take, map}
use Rattle.grammar.specs.View.{link_view, or_tail_view, and_tail_view, sum_tail_view, product_tail_view}
use Rattle.grammar.specs.View.{terms_tail_view}
use Rattle.stage_definitions.specs.NamedViews.{formula_view, term_view, signed_view}
use Rattle.formula_names.proofs.Operands.{link_named, link_uses, disjunct_named, disjunct_uses, conjunct_named}
use Rattle.formula_names.proofs.Operands.{conjunct_uses, summand_named, summand_uses, factor_named, factor_uses}
use Rattle.formula_names.proofs.Operands.{argument_named, argument_uses}
use Rattle.formula_names.proofs.StepLaws.{Adds}
use Rattle.formula_names.proofs.resolver.Resolver.+resolve.Given as goal

abbrev pub invariant-add_links-loop-link : goal.invariant-add_links-loop-link
invariant-add_links-loop-link l = Adds l.initial.self l.self link_named link_uses
    link_view (take l.link-index l.links) (map formula_view l.initial.more.items)
    (map formula_view l.more.items)

abbrev pub invariant-disjunction-loop-tail : goal.invariant-disjunction-loop-tail
invariant-disjunction-loop-tail l = Adds l.initial.self l.self disjunct_named disjunct_uses
    or_tail_view (take l.tail-index l.more) (map formula_view l.initial.operands.items)
    (map formula_view l.operands.items)

abbrev pub invariant-conjunction-loop-tail : goal.invariant-conjunction-loop-tail
invariant-conjunction-loop-tail l = Adds l.initial.self l.self conjunct_named conjunct_uses
    and_tail_view (take l.tail-index l.more) (map formula_view l.initial.operands.items)
    (map formula_view l.operands.items)

abbrev pub invariant-term-loop-tail : goal.invariant-term-loop-tail
invariant-term-loop-tail l = Adds l.initial.self l.self summand_named (summand_uses l.inner)
    sum_tail_view (take l.tail-index l.more) (map signed_view l.initial.operands.items)
    (map signed_view l.operands.items)

abbrev pub invariant-product-loop-tail : goal.invariant-product-loop-tail
invariant-product-loop-tail l = Adds l.initial.self l.self factor_named (factor_uses l.inner)
    product_tail_view (take l.tail-index l.more) (map term_view l.initial.operands.items)
    (map term_view l.operands.items)

abbrev pub invariant-arguments-loop-tail : goal.invariant-arguments-loop-tail
invariant-arguments-loop-tail l = Adds l.initial.self l.self argument_named argument_uses
    terms_tail_view (take l.tail-index l.more) (map term_view l.initial.args.items)
    (map term_view l.args.items)
