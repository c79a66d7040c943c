-- What a value in a row stands for.
use Rattle.kb_logic.specs.Denotations.{Denotation}
use Rattle.kb_logic.specs.Values.{value_view}
use Rattle.term_values.specs.declared.rows.RowValue.{RowValue}

abbrev pub row_value : RowValue → Denotation
row_value v = value_view v.value
