use Rattle.std.proofs.Common.{map, subst, sym, ap}
use Rattle.grammar.specs.BlockView.{structure_view}
use Rattle.structure_entries.specs.SaidViews.{said_view}
use Rattle.data_filling.specs.Filling.{AreAccepted}
use Rattle.type_derivation.specs.TypedViews.{typed_view}
use Rattle.structure_reader.proofs.Accepted.{can_be_filled}
use Rattle.structure_reader.proofs.reading.read_structure.Goals as goal

pub fill-requires-clause-accepted : goal.fill-requires-clause-accepted
fill-requires-clause-accepted c =
    let entries = c.in-Ok.given.0.items in
    subst (AreAccepted c.args.kb.now.vocab) (sym (ap (map said_view) c.deref.ensures.value))
    (can_be_filled (typed_view c.args.kb.now) c.args.theory (structure_view c.args.raw.now) (map said_view entries)
    c.in-Ok.given.1.items c.in-Ok.ensures.ok)
