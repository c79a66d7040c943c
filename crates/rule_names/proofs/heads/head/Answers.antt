use Rattle.std.proofs.Common.{◌≡◌, [], arith, map}
use Rattle.std.proofs.lemmas.Grind.{common_steps}
use Rattle.grammar.specs.BlockView as block
use Rattle.stage_definitions.specs.NamedViews.{var_view}
use Rattle.rule_names.proofs.HeadLaws.{headed}
use Rattle.rule_names.proofs.heads.head.Goals as goal

pub symbol-symbol-requires : goal.symbol-symbol-requires
symbol-symbol-requires c = record { outside = rw c.in_ok-bind_lists.ensures.known c.requires.outside }

pub returns : goal.returns
returns c =
    let none : map var_view c.new-vars.result.items ≡ [] = grind (arith, common_steps) in
    headed c.args.walk.now c.bind_lists.new.walk c.symbol-symbol.new.walk c.arguments.new.walk
    (map block.binding_view c.args.raw.now.binders) (block.head_view c.args.raw.now.head)
    c.requires.alone c.requires.outside (rw (c.as_slice.ensures, none) at c.in_ok-bind_lists.ensures)
    c.symbol-symbol.ensures (rw c.head_app.ensures at c.in_ok-args.ensures)
