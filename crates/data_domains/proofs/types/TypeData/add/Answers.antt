use Rattle.std.proofs.Common.{◌∷◌, [], ◌∙◌, map, refl, sym, ap}
use Rattle.std.proofs.lemmas.List.{map-append}
use Rattle.stage_definitions.specs.Elements.{listed}
use Rattle.structure_entries.specs.EntryViews.{cell_view}
use Rattle.data_domains.proofs.Filled.{cell_more}
use Rattle.data_domains.proofs.types.TypeData.add.Goals as goal

pub returns-in_ok-push : goal.returns-in_ok-push
returns-in_ok-push c = record {
  traits = refl;
  stands = λ cs h. record {
    cells = ap (λ xs. listed (map cell_view xs)) c.in_ok-push.ensures.items
        ∙ ap listed (map-append cell_view c.args.self.now.cells.items (c.args.cell ∷ []))
        ∙ cell_more (map cell_view c.args.self.now.cells.items) cs (cell_view c.args.cell) h.cells;
    gathered = c.in_ok-is_more.ensures.gathered cs h.gathered;
  };
}

pub returns-else-is_more : goal.returns-else-is_more
returns-else-is_more c = record {
  traits = refl;
  stands = λ cs h. record {
    cells = h.cells ∙ sym (c.in_ok-is_more.ensures.known c.if-is_more.false cs h.gathered);
    gathered = c.in_ok-is_more.ensures.gathered cs h.gathered;
  };
}
