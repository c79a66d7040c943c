use Rattle.std.proofs.lemmas.Grind.{common_steps}
use Rattle.std.proofs.Common.{◌≡◌, ◌≤◌, ◌+◌, drop, length, map, ap, arith}
use Rattle.std.specs.List.{sum_by}
use Rattle.std.proofs.lemmas.List.{drop_all}
use Rattle.stage_definitions.specs.Elements.{intervals_of, size_of, words_of}
use Rattle.stage_definitions.specs.SizesStage.{capped}
use Rattle.data_domains.specs.Sets.{interval_view, runs_in, words_in}
use Rattle.data_domains.proofs.CellRuns.{sizes_alike}
use Rattle.data_domains.proofs.sets.ElementSet.count.Goals as goal

pub returns : goal.returns
returns c = λ cells s.
    let is = c.args.self.now.intervals.items in
    let i = c.loop-interval.interval-index in
    let past : length is ≤ i = rw (← c.deref-interval-items.ensures.value) c.loop-interval-test.false in
    let rest : sum_by size_of (map interval_view (drop i is)) ≡ 0 = ap (λ xs. sum_by size_of (map interval_view xs))
    (drop_all i is past) in
    let words : length (words_in c.args.self.now) ≡ length (words_of cells) = s.words.count in
    let areas : sum_by size_of (runs_in c.args.self.now) ≡ sum_by size_of (intervals_of cells) =
    sizes_alike cells (runs_in c.args.self.now) s.apart.start s.integers s.apart.from in
    let small = c.loop-interval.invariant.small in
    let sum : capped (c.loop-interval.count + sum_by size_of (map interval_view (drop i is)))
    ≡ capped (length (words_in c.args.self.now) + sum_by size_of (runs_in c.args.self.now)) =
    c.loop-interval.invariant.sum in
    omega (arith, rest, words, areas, small, sum)

pub loop-interval-init : goal.loop-interval-init
loop-interval-init c = grind (arith, common_steps)

pub loop-interval-preserved : goal.loop-interval-preserved
loop-interval-preserved c = grind (arith, common_steps)
