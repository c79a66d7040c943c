use Rattle.std.proofs.Common.{false}
use Rattle.data_clashes.proofs.RunFacts.{no_runs}
use Rattle.data_clashes.proofs.runs.Runs.new.Goals as goal

pub returns : goal.returns
returns c = λ s h. no_runs s h _ (record { symbol = 0; holds = false; valued = false; cells = c.new-cells.result })
    c.new-over.ensures.items c.new-cells.ensures.items
