use Rattle.std.proofs.Common.{◌≡◌, ◌∷◌, [], None, Some, refl, sym, ◌∙◌, rules}
use Rattle.std.proofs.lemmas.Bool.{eq-eqb}
use Rattle.std.proofs.lemmas.Result.{on_ok_weaker}
use Rattle.structure_entries.specs.EntryViews.{cell_view, spot_view}
use Rattle.data_domains.specs.Shares.{occurring_share}
use Rattle.data_domains.proofs.Filled.{found_there, given_to, is_not_past, no_cell, none_given, occurs_elsewhere}
use Rattle.data_domains.proofs.Filled.{takes_cell, takes_none, takes_nothing}
use Rattle.data_domains.proofs.filling.add_spot.Goals as goal

pub returns-in_default-get_mut-clause-given : goal.returns-in_default-get_mut-clause-given
returns-in_default-get_mut-clause-given c = λ t x cs h.
    let s = spot_view c.args.spot.now in
    let types = c.args.types.now in
    none_given c.args.all.now.items t x cs (occurring_share types t x (s ∷ [])) h
    (occurs_elsewhere types t x s (sym (c.in-Some.ensures t)
    ∙ is_not_past c.args.all.now.items c.in-Some.ty t x cs c.in_default-get_mut.ensures.item.3 h))

pub returns-in_default-clause-given : goal.returns-in_default-clause-given
returns-in_default-clause-given c = λ t x cs h.
    let s = spot_view c.args.spot.now in
    let types = c.args.types.now in
    none_given c.args.all.now.items t x cs (occurring_share types t x (s ∷ [])) h
    (occurs_elsewhere types t x s (sym (c.in_default.ensures t)))

pub returns-then-not-data-clause-given : goal.returns-then-not-data-clause-given
returns-then-not-data-clause-given c =
    let s = spot_view c.args.spot.now in
    let types = c.args.types.now in
    let ty = c.in-Some.ty in
    let found = c.in-Some-get_mut.data.now in
    let there = found_there c.args.all.now.items ty found c.in-Some-get_mut.ensures.item.3.0
    c.in-Some-get_mut.ensures.value in
    given_to c.args.all.now.items ty found found [] (λ t x. occurring_share types t x (s ∷ [])) there
    (takes_nothing found) (takes_none types ty found.traits s c.if-not-data.true)
    (λ t x apart. occurs_elsewhere types t x s (sym (c.in-Some.ensures t) ∙ apart))

pub returns-in_default-cell-clause-given : goal.returns-in_default-cell-clause-given
returns-in_default-cell-clause-given c =
    let s = spot_view c.args.spot.now in
    let types = c.args.types.now in
    let ty = c.in-Some.ty in
    let found = c.in-Some-get_mut.data.now in
    let there = found_there c.args.all.now.items ty found c.in-Some-get_mut.ensures.item.3.0
    c.in-Some-get_mut.ensures.value in
    let none : s.cell ≡ None = search rules in
    given_to c.args.all.now.items ty found found [] (λ t x. occurring_share types t x (s ∷ [])) there
    (takes_nothing found) (no_cell types ty found.traits s none)
    (λ t x apart. occurs_elsewhere types t x s (sym (c.in-Some.ensures t) ∙ apart))

pub returns-clause-given : goal.returns-clause-given
returns-clause-given c =
    let s = spot_view c.args.spot.now in
    let types = c.args.types.now in
    let ty = c.in-Some.ty in
    let found = c.in-Some-get_mut.data.now in
    let there = found_there c.args.all.now.items ty found c.in-Some-get_mut.ensures.item.3.0
    c.in-Some-get_mut.ensures.value in
    let cell = cell_view c.in-Some-cell.cell in
    let written : s.cell ≡ Some cell = search rules in
    on_ok_weaker c.add.result (λ taken. given_to c.args.all.now.items ty _ found (cell ∷ [])
    (λ t x. occurring_share types t x (s ∷ [])) there taken
    (takes_cell types ty found.traits s cell c.if-not-data.false (sym (c.in-Some.ensures ty) ∙ eq-eqb ty ty refl)
    written)
    (λ t x apart. occurs_elsewhere types t x s (sym (c.in-Some.ensures t) ∙ apart)))
    c.add.ensures
