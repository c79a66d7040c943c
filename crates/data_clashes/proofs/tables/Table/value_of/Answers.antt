use Rattle.std.proofs.Common.{◌∙◌, ap, Option}
use Rattle.std.specs.Option.{option_map}
use Rattle.data_refusals.specs.Labels.{label_view}
use Rattle.data_refusals.specs.declared.labels.Label.{Label}
use Rattle.data_clashes.proofs.KeyLemmas.{looked_up}
use Rattle.data_clashes.proofs.tables.Table.value_of.Goals as goal

pub returns-in-Some : goal.returns-in-Some
returns-in-Some c = ap (option_map (λ (v : Option Label). option_map label_view v)) c.in-Some.ensures.value
    ∙ looked_up c.args.self.now.values.entries c.args.row.now c.requires

pub returns-in-None : goal.returns-in-None
returns-in-None c = ap (option_map (λ (v : Option Label). option_map label_view v)) c.in-None.ensures.value
    ∙ looked_up c.args.self.now.values.entries c.args.row.now c.requires
