use Rattle.std.proofs.Common.{◌≡◌, ◌∙◌, false, true, None, Some, sym, ap, rules}
use Rattle.structure_entries.specs.WholeViews.{whole_view}
use Rattle.data_domains.specs.Sets.{runs_in}
use Rattle.data_domains.proofs.CellRuns.{covered_by, found_by, holds, in_order, none_covered}
use Rattle.data_domains.proofs.sets.ElementSet.covers_interval.Goals as goal

pub returns-then-is_empty : goal.returns-then-is_empty
returns-then-is_empty c = λ cells s.
    let a = whole_view c.args.wanted.low in
    let b = whole_view c.args.wanted.high in
    let t : c.is_empty.result ≡ true = search rules in
    none_covered cells a b (sym c.is_empty.ensures ∙ t)

pub returns-in-Some : goal.returns-in-Some
returns-in-Some c = λ cells s.
    let a = whole_view c.args.wanted.low in
    let b = whole_view c.args.wanted.high in
    let is = runs_in c.args.self.now in
    let f : c.is_empty.result ≡ false = search rules in
    let order = in_order a b (sym c.is_empty.ensures ∙ f) in
    let found = found_by c.deref.result.now c.args.self.now.intervals.items c.deref.ensures.value a c.reaching.result
    (Some c.in-Some.interval) c.reaching.ensures s.apart c.in-Some.is in
    c.includes.ensures ∙ sym (ap (holds cells is s.apart.start s.integers s.apart.from a b) found)
    ∙ covered_by cells is s.apart.start s.integers s.apart.from a b order

pub returns-in-None : goal.returns-in-None
returns-in-None c = λ cells s.
    let a = whole_view c.args.wanted.low in
    let b = whole_view c.args.wanted.high in
    let is = runs_in c.args.self.now in
    let f : c.is_empty.result ≡ false = search rules in
    let order = in_order a b (sym c.is_empty.ensures ∙ f) in
    let found = found_by c.deref.result.now c.args.self.now.intervals.items c.deref.ensures.value a c.reaching.result
    None c.reaching.ensures s.apart c.in-None.is in
    sym (ap (holds cells is s.apart.start s.integers s.apart.from a b) found)
    ∙ covered_by cells is s.apart.start s.integers s.apart.from a b order
