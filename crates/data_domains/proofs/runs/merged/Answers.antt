use Rattle.std.proofs.Common.{◌≡◌, ◌∙◌, List, subst, sym, rules, ℤ}
use Rattle.std.proofs.lemmas.List.Sorted.{answers_always}
use Rattle.structure_entries.specs.WholeViews.{whole_view}
use Rattle.data_domains.specs.Runs.{is_hollow, is_inside, AreRisingFrom}
use Rattle.data_domains.specs.declared.intervals.Interval.{Interval}
use Rattle.reading_laws.proofs.Covering.{lies_in}
use Rattle.data_domains.proofs.Sorting.{rises, same_any, views}
use Rattle.data_domains.proofs.runs.merged.Goals as goal

pub joined_runs-requires : goal.joined_runs-requires
joined_runs-requires c =
    let sorts = c.in_ok-sort_by_key.ensures in
    subst (λ (xs : List Interval). (start : ℤ) × AreRisingFrom start (views xs)) (sym c.deref.ensures.value)
    (rises c.sort_by_key.new.self.items (sorts.sorted (λ (i : Interval). whole_view i.low)
    (answers_always _ _ _ (λ f a r g h. search rules)))
    (same_any is_hollow c.args.intervals.items c.sort_by_key.new.self.items sorts.permutation ∙ c.requires))

pub returns-clause-same : goal.returns-clause-same
returns-clause-same c = λ z.
    c.in_ok-runs.ensures.same z
    ∙ subst (λ (xs : List Interval). is_inside (views xs) z ≡ is_inside (views c.args.intervals.items) z)
    (sym c.deref.ensures.value)
    (same_any (lies_in z) c.args.intervals.items c.sort_by_key.new.self.items c.in_ok-sort_by_key.ensures.permutation)
