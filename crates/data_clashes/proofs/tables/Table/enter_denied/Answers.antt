use Rattle.std.specs.Option.{option_map}
use Rattle.data_refusals.specs.Labels.{label_view, tuple_view}
use Rattle.data_clashes.specs.Tables.{is_atom}
use Rattle.data_clashes.specs.contracts.keys.KeyPartialEq.TheImpl.{ghosts as key_equality}
use Rattle.data_clashes.proofs.Kept.{among_now}
use Rattle.data_clashes.proofs.KeyLemmas.{denied_is, own_atom}
use Rattle.data_clashes.proofs.tables.Table.enter_denied.Goals as goal

pub returns-clause-own : goal.returns-clause-own
returns-clause-own c =
    let k = c.args.atom in
    among_now (is_atom k.symbol (tuple_view k.args.items) (option_map label_view k.value)) key_equality.eq
    c.args.self.now.denied.keys c.insert_full.new.self.keys k c.in_ok-insert_full.ensures.keys
    (denied_is c.args.self.now.denied.keys k) (own_atom k)
