use Rattle.std.proofs.Common.{◌∙◌, ap}
use Rattle.partial_structures.specs.KnownAtoms.{atom_of}
use Rattle.partial_structures.specs.Flags.{is_closed}
use Rattle.row_tries.specs.Words.{words_in}
use Rattle.partial_structures.specs.AtomRows.{status_of}
use Rattle.partial_structures.proofs.Views.{value_from}
use Rattle.partial_structures.proofs.partial.Partial.value.Goals as goal

pub returns : goal.returns
returns c =
    let p = c.self.inside in
    let a = c.args.atom.now in
    value_from p c.args.self.now (atom_of a) c.status.result c.self.view_is c.requires
    (c.status.ensures ∙ ap (λ f. status_of (words_in p.rows.words) p.rows.nodes.entries f a.symbol a.args a.value)
    (c.flag.ensures ∙ ap (λ l. is_closed l a.symbol) c.deref.ensures.value))
