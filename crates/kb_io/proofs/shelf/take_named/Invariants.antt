use Rattle.std.proofs.Common.{◌≡◌, ◌++◌, take, drop}
use Rattle.kb_io.specs.Files.{source_named, without}
use Rattle.kb_io.proofs.shelf.take_named.Given as goal

abbrev pub invariant-loop-i : goal.invariant-loop-i
invariant-loop-i l = record {
  same : l.files.items ≡ l.initial.files.items;
  named : source_named (drop l.i l.files.items) l.name ≡ source_named l.files.items l.name;
  rest : without l.name l.files.items ≡ take l.i l.files.items ++ without l.name (drop l.i l.files.items);
}
