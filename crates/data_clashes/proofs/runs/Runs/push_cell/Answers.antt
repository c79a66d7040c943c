use Rattle.std.proofs.Common.{refl}
use Rattle.data_clashes.specs.declared.runs.Run.{Run}
use Rattle.data_clashes.proofs.RunFacts.{last_longer}
use Rattle.data_clashes.proofs.runs.Runs.push_cell.Goals as goal

pub returns : goal.returns
returns c = λ s h.
    let last = c.args.self.now.last in
    let longer : Run = record {
      symbol = last.symbol;
      holds = last.holds;
      valued = last.valued;
      cells =
          c.push.new.self;
    } in
    last_longer s h c.args.self.now.over.items last longer c.args.cell refl refl refl c.in_ok-push.ensures.items
