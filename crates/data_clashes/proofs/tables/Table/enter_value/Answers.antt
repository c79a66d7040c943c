use Rattle.std.proofs.Common.{◌≡◌, ◌++◌, ◌∷◌, [], ◌∙◌, ap}
use Rattle.indexmap.proofs.CallerLemmas.{insert_entry-new}
use Rattle.data_refusals.specs.Labels.{tuple_view}
use Rattle.data_clashes.specs.Tables.{value_in}
use Rattle.data_clashes.specs.contracts.keys.KeyPartialEq.TheImpl.{ghosts as key_equality}
use Rattle.data_clashes.proofs.Kept.{still_kept}
use Rattle.data_clashes.proofs.KeyLemmas.{looked_up, none_views, now_in, own_row, still_in}
use Rattle.data_clashes.proofs.tables.Table.enter_value.Goals as goal

pub returns-clause-kept : goal.returns-clause-kept
returns-clause-kept c = λ f k.
    let es = c.args.self.now.values.entries in
    let row = c.args.row in
    let e : c.insert.new.self.entries ≡ es ++ (row, c.args.value) ∷ [] =
    c.in_ok-insert.ensures.entries ∙ insert_entry-new key_equality.eq c.args.self.now.values row c.args.value
    (none_views _ (looked_up es row c.requires.none ∙ c.requires.absent)) in
    still_kept c.args.self.now _ (record {
      wide = λ s h. h;
      values = λ s xs v h. ap (λ zs. value_in zs s xs) e ∙ still_in es ((row, c.args.value) ∷ []) s xs v h;
      denied = λ s xs v h. h;
    }) f k

pub returns-clause-own : goal.returns-clause-own
returns-clause-own c =
    let es = c.args.self.now.values.entries in
    let row = c.args.row in
    let xs = tuple_view row.args.items in
    let e : c.insert.new.self.entries ≡ es ++ (row, c.args.value) ∷ [] =
    c.in_ok-insert.ensures.entries ∙ insert_entry-new key_equality.eq c.args.self.now.values row c.args.value
    (none_views _ (looked_up es row c.requires.none ∙ c.requires.absent)) in
    ap (λ zs. value_in zs row.symbol xs) e ∙ now_in es row c.args.value row.symbol xs c.requires.absent
    (own_row row c.requires.none)
