-- What contracts see of a log.
use Rattle.search_log.specs.declared.log.SearchLog.TheInside.{Inside}
use Rattle.search_log.specs.Entries.{AreEntries}
use Rattle.search_log.specs.Logs.{LogState}

abbrev pub state_of : Inside → LogState
state_of l = record {
  on = l.is_on;
  numbers = l.numbers.items;
  borne = l.borne;
  empty = l.empty;
  refutation = l.refutation;
  entries = l.text.items;
}

pub record IsLog (l : Inside) : Type 0 where
  pub texts : AreEntries l.text.items
