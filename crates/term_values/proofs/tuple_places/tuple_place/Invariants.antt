use Rattle.std.proofs.Common.{◌≡◌, ◌≤◌, map, option_map}
use Rattle.kb_logic.specs.Structures.{tuples_of}
use Rattle.term_values.specs.GroundBases.{row_index}
use Rattle.term_values.specs.RowValues.{row_value}
use Rattle.term_values.specs.VariableTables.{capped}
use Rattle.term_values.proofs.RadixLemmas.{index_from}
use Rattle.term_values.proofs.tuple_places.tuple_place.Given as goal

abbrev pub invariant-loop-i : goal.invariant-loop-i
invariant-loop-i l = record {
  same : index_from l.domains l.types (map row_value l.values) l.i l.place
      ≡ option_map capped (row_index (tuples_of l.domains l.types) (map row_value l.values));
  fits : l.place ≤ 18446744073709551615;
}
