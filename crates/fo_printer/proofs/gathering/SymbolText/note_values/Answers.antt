use Rattle.fo_printer.proofs.gathering.SymbolText.note_values.Goals as goal

pub add_values-requires-2 : goal.add_values-requires-2
add_values-requires-2 c = λ x m. rw (c.add_values.ensures.symbol, c.add_values.ensures.args) (c.requires x m)
