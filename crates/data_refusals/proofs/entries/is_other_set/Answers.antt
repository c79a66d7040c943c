use Rattle.std.proofs.Common.{◌≡◌, ◌∙◌, ◌&&◌, not, map, ap, subst}
use Rattle.std.specs.List.{list_all}
use Rattle.stage_definitions.specs.Elements as set
use Rattle.stage_definitions.specs.DataDomains as domain
use Rattle.structure_entries.specs.EntryViews.{cell_view}
use Rattle.structure_entries.specs.SaidViews.{said_view}
use Rattle.data_domains.specs.Sets.{IsSetOf}
use Rattle.data_refusals.proofs.entries.is_other_set.Goals as goal

pub returns : goal.returns
returns c =
    let made = domain.made_cells c.args.decl.now in
    let given = domain.cells_given (said_view c.args.entry.now) in
    let m : map cell_view c.in_ok-made.made.items ≡ made = c.in_ok-made.ensures in
    let g : map cell_view c.in_ok-given.given.items ≡ given = c.in_ok-given.ensures in
    let m_set = subst (λ cs. IsSetOf cs c.in_ok-made_set.made_set) (ap (map cell_view) c.deref.ensures.value
    ∙ m) c.in_ok-made_set.ensures in
    let g_set = subst (λ cs. IsSetOf cs c.in_ok-given_set.given_set) (ap (map cell_view) c.deref-2.ensures.value
    ∙ g) c.in_ok-given_set.ensures in
    let a = c.are_covered-are_given.ensures given g_set ∙ ap (list_all (set.is_covered given))
    (ap (map cell_view) c.deref-3.ensures.value ∙ m) in
    let b = c.are_covered-are_made.ensures made m_set ∙ ap (list_all (set.is_covered made))
    (ap (map cell_view) c.deref-4.ensures.value ∙ g) in
    c.not_both.ensures ∙ ap (λ x. not (x && c.are_covered-are_made.result)) a
    ∙ ap (λ x. not (list_all (set.is_covered given) made && x)) b
