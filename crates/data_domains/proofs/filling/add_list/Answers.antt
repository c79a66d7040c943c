use Rattle.std.proofs.Common.{[], refl, sym, ◌∙◌}
use Rattle.std.proofs.lemmas.Result.{on_ok_weaker}
use Rattle.std.proofs.lemmas.Bool.{eq-eqb}
use Rattle.stage_definitions.specs.DataDomains.{cells_given}
use Rattle.structure_entries.specs.SaidViews.{said_view}
use Rattle.data_domains.specs.Shares.{listed_share}
use Rattle.data_domains.proofs.Filled.{found_there, given_to, is_not_past, no_list, no_own_list, none_given, own_list}
use Rattle.data_domains.proofs.Filled.{takes_nothing}
use Rattle.data_domains.proofs.filling.add_list.Goals as goal

pub returns-in_default-get_mut-clause-given : goal.returns-in_default-get_mut-clause-given
returns-in_default-get_mut-clause-given c = λ t x cs h.
    let e = said_view c.args.entry.now in
    none_given c.args.all.now.items t x cs (listed_share t x e) h
    (no_list t x e (sym (c.in-Some.ensures t) ∙ is_not_past c.args.all.now.items c.in-Some.ty t x cs
    c.in_default-get_mut.ensures.item.3 h))

pub returns-in_default-clause-given : goal.returns-in_default-clause-given
returns-in_default-clause-given c = λ t x cs h.
    let e = said_view c.args.entry.now in
    none_given c.args.all.now.items t x cs (listed_share t x e) h (no_list t x e (sym (c.in_default.ensures t)))

pub returns-then-data-clause-given : goal.returns-then-data-clause-given
returns-then-data-clause-given c =
    let e = said_view c.args.entry.now in
    let found = c.in-Some-get_mut.data.now in
    let there = found_there c.args.all.now.items c.in-Some.ty found c.in-Some-get_mut.ensures.item.3.0
    c.in-Some-get_mut.ensures.value in
    given_to c.args.all.now.items c.in-Some.ty found found [] (λ t x. listed_share t x e) there (takes_nothing found)
    (no_own_list c.in-Some.ty found.traits e c.if-data.true)
    (λ t x apart. no_list t x e (sym (c.in-Some.ensures t) ∙ apart))

pub returns-clause-given : goal.returns-clause-given
returns-clause-given c =
    let e = said_view c.args.entry.now in
    let ty = c.in-Some.ty in
    let found = c.in-Some-get_mut.data.now in
    let there = found_there c.args.all.now.items ty found c.in-Some-get_mut.ensures.item.3.0
    c.in-Some-get_mut.ensures.value in
    let own = own_list ty found.traits e c.if-data.false (sym (c.in-Some.ensures ty) ∙ eq-eqb ty ty refl) in
    on_ok_weaker c.add_whole.result (λ taken. given_to c.args.all.now.items ty _ found (cells_given e)
    (λ t x. listed_share t x e) there taken own (λ t x apart. no_list t x e (sym (c.in-Some.ensures t) ∙ apart)))
    c.add_whole.ensures
