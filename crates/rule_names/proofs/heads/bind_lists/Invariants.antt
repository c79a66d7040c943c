use Rattle.std.proofs.Common.{◌++◌, map, take}
use Rattle.grammar.specs.BlockView.{binding_view}
use Rattle.stage_definitions.specs.NamedViews.{var_view}
use Rattle.stage_definitions.specs.Uses.{rule_scope}
use Rattle.formula_names.specs.Steps.{IsStep, names_known}
use Rattle.rule_names.specs.Heads.{named_lists, uses_of_lists}
use Rattle.rule_names.proofs.heads.bind_lists.Given as goal

abbrev pub invariant-loop-binder : goal.invariant-loop-binder
invariant-loop-binder l = IsStep l.initial.walk l.walk (map var_view l.vars.items)
    (map var_view l.initial.vars.items ++ named_lists (names_known l.initial.walk)
    (map binding_view (take l.binder-index l.binders)))
    (l.initial.walk.scope ++ rule_scope (map binding_view (take l.binder-index l.binders)))
    (uses_of_lists (map binding_view (take l.binder-index l.binders)))
