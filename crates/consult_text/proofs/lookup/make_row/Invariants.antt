use Rattle.std.proofs.Common.{◌≡◌, take, map}
use Rattle.consult_text.specs.Literals.{elem_of}
use Rattle.consult_text.specs.Parse.{elem_views}
use Rattle.consult_text.proofs.lookup.make_row.Given as goal

abbrev pub invariant-loop-text : goal.invariant-loop-text
invariant-loop-text l = l.row.items ≡ map elem_of (elem_views (take l.text-index l.texts))
