use Rattle.std.proofs.Common.{◌≡◌, ◌∙◌, true, ap, rules}
use Rattle.structure_entries.specs.EntryViews.{fact_view}
use Rattle.data_refusals.specs.Labels.{tuple_view}
use Rattle.data_clashes.specs.Tables.{is_denied, value_in}
use Rattle.data_clashes.proofs.Kept.{clear_by, clear_of}
use Rattle.data_clashes.proofs.tables.Table.add_clear.Goals as goal

pub returns-then-not-fact-clause-clear : goal.returns-then-not-fact-clause-clear
returns-then-not-fact-clause-clear c = λ _ f k.
    let t = c.args.self.now in
    let g = fact_view c.args.fact.now in
    let ys = tuple_view c.args.args.items in
    let r : c.is_clear.result ≡ true = search rules in
    let known = c.value_of-known.ensures ∙ ap (λ is. value_in t.values.entries g.symbol (tuple_view is))
    (c.in_ok-from_slice.ensures.items ∙ c.deref.ensures.value) in
    let v = c.value_label-value.ensures in
    clear_of t f g ys c.requires.args c.requires.narrow (clear_by g.holds c.is_clear.result _ _ _ _ _ _
    c.is_clear.ensures known v (c.is_denied.ensures ∙ ap (is_denied t.denied.keys g.symbol ys) v) r) k

pub returns-in_ok-enter_value-clause-clear : goal.returns-in_ok-enter_value-clause-clear
returns-in_ok-enter_value-clause-clear c = λ _ f k.
    let t = c.args.self.now in
    let g = fact_view c.args.fact.now in
    let ys = tuple_view c.args.args.items in
    let r : c.is_clear.result ≡ true = search rules in
    let known = c.value_of-known.ensures ∙ ap (λ is. value_in t.values.entries g.symbol (tuple_view is))
    (c.in_ok-from_slice.ensures.items ∙ c.deref.ensures.value) in
    let v = c.value_label-value.ensures in
    clear_of t f g ys c.requires.args c.requires.narrow (clear_by g.holds c.is_clear.result _ _ _ _ _ _
    c.is_clear.ensures known v (c.is_denied.ensures ∙ ap (is_denied t.denied.keys g.symbol ys) v) r) k

pub returns-else-is_none-clause-clear : goal.returns-else-is_none-clause-clear
returns-else-is_none-clause-clear c = λ _ f k.
    let t = c.args.self.now in
    let g = fact_view c.args.fact.now in
    let ys = tuple_view c.args.args.items in
    let r : c.is_clear.result ≡ true = search rules in
    let known = c.value_of-known.ensures ∙ ap (λ is. value_in t.values.entries g.symbol (tuple_view is))
    (c.in_ok-from_slice.ensures.items ∙ c.deref.ensures.value) in
    let v = c.value_label-value.ensures in
    clear_of t f g ys c.requires.args c.requires.narrow (clear_by g.holds c.is_clear.result _ _ _ _ _ _
    c.is_clear.ensures known v (c.is_denied.ensures ∙ ap (is_denied t.denied.keys g.symbol ys) v) r) k
