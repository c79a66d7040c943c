-- Elements that are lent.
use Rattle.kb_logic.specs.declared.elements.Elem.{Elem}
use Rattle.kb_logic.specs.declared.elements.Elem.TheVariants as elem
use Rattle.row_tries.specs.declared.lent.LentElem.{LentElem}
use Rattle.row_tries.specs.declared.lent.LentElem.TheVariants.{Named, Num}

abbrev pub lent_view : LentElem → Elem
lent_view (Named q) = elem.Named q.now
lent_view (Num z) = elem.Num z
