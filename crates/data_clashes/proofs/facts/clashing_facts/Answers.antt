use Rattle.std.proofs.Common.{◌∙◌, [], ap, map, fold}
use Rattle.stage_definitions.specs.DataStage as stage
use Rattle.structure_entries.specs.SaidViews.{said_view}
use Rattle.data_clashes.proofs.Opposable.{same_notes}
use Rattle.data_clashes.proofs.facts.clashing_facts.Goals as goal

pub returns : goal.returns
returns c = λ all es first.
    ap (λ fs. fold (stage.data_noted all es) first (stage.uses_of_facts [] fs)) c.in_ok-facts.ensures
    ∙ same_notes all es (map said_view c.args.entries.now) first
