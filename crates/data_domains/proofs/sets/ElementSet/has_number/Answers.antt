use Rattle.std.proofs.Common.{◌∙◌, None, Some, not, sym, ap}
use Rattle.structure_entries.specs.WholeViews.{whole_view}
use Rattle.data_domains.specs.Sets.{runs_in}
use Rattle.data_domains.proofs.RunFacts.{reached}
use Rattle.data_domains.proofs.CellRuns.{among_reached, found_by}
use Rattle.data_domains.proofs.sets.ElementSet.has_number.Goals as goal

pub returns-in-Some : goal.returns-in-Some
returns-in-Some c = λ cells s.
    let z = whole_view c.args.n in
    let is = runs_in c.args.self.now in
    let found = found_by c.deref.result.now c.args.self.now.intervals.items c.deref.ensures.value z c.reaching.result
    (Some c.in-Some.interval) c.reaching.ensures s.apart c.in-Some.is in
    ap not c.is_below.ensures ∙ sym (ap (reached z) found) ∙ among_reached cells is s.apart.start s.integers
    s.apart.from z

pub returns-in-None : goal.returns-in-None
returns-in-None c = λ cells s.
    let z = whole_view c.args.n in
    let is = runs_in c.args.self.now in
    let found = found_by c.deref.result.now c.args.self.now.intervals.items c.deref.ensures.value z c.reaching.result
    None c.reaching.ensures s.apart c.in-None.is in
    sym (ap (reached z) found) ∙ among_reached cells is s.apart.start s.integers s.apart.from z
