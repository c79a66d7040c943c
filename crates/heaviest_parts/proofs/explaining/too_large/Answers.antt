use Rattle.std.proofs.Common.{map, subst, sym}
use Rattle.std.specs.List.{AllByRecursion}
use Rattle.structure_entries.specs.SaidViews.{said_view}
use Rattle.size_stage.specs.Counted.{IsCountable}
use Rattle.structure_reader.proofs.NextDomain.{all_countable}
use Rattle.heaviest_parts.proofs.explaining.too_large.Goals as goal

pub lines_over-requires : goal.lines_over-requires
lines_over-requires c =
    subst (AllByRecursion IsCountable) (sym c.deref-2.ensures.value) (all_countable c.as_slice.result.now
    (map said_view c.deref.result.now) c.in_ok-types.types.items c.in_ok-types.ensures)
