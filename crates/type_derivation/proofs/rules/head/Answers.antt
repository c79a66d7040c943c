use Rattle.std.proofs.Common.{map, option_map}
use Rattle.kb_logic.specs.Views as view
use Rattle.stage_definitions.specs.NamedViews.{rule_view}
use Rattle.type_derivation.proofs.HeadSteps.{head_built}
use Rattle.type_derivation.proofs.rules.head.Goals as goal

pub returns : goal.returns
returns c = head_built (rule_view c.args.named.now) c.args.types.now c.terms.new.types c.value.new.types
    c.args.places.now.items c.terms.new.places.items c.value.new.places.items
    (map view.term_view c.in_ok-args.args.items) (option_map view.term_view c.in_ok-value.field-0)
    (rw c.as_slice.ensures at c.in_ok-args.ensures) c.in_ok-value.ensures
