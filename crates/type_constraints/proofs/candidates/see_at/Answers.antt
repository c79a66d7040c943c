use Rattle.std.proofs.Common.{arith, ap}
use Rattle.type_constraints.specs.PartViews.{kind_view}
use Rattle.type_constraints.proofs.Seen.{noted_here, noted_beyond, noted_by_itself}
use Rattle.type_constraints.proofs.candidates.see_at.Goals as goal

pub returns-then-n-len : goal.returns-then-n-len
returns-then-n-len c = noted_here c.args.types.now _ _ c.in-Variable.n c.args.findings.now.items _ _
    (ap kind_view c.in-Variable.is) (omega arith) c.index.ensures c.see.ensures

pub returns-else-n-len : goal.returns-else-n-len
returns-else-n-len c = noted_beyond c.args.types.now _ _ c.in-Variable.n c.args.findings.now.items
    (ap kind_view c.in-Variable.is) (omega arith)

pub returns-in-ByItself : goal.returns-in-ByItself
returns-in-ByItself c = noted_by_itself c.args.types.now _ _ _ _ (ap kind_view c.in-ByItself.is)
