use Rattle.std.proofs.Common.{◌≡◌, length, take}
use Rattle.grammar.proofs.text.Text.new.Given as goal

abbrev pub invariant-loop-b : goal.invariant-loop-b
invariant-loop-b l = record {
  count : l.n ≡ l.b-index;
  room : length l.short ≡ 14;
  copied : take l.n l.short ≡ take l.b-index l.text;
}
