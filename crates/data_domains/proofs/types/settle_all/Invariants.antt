use Rattle.std.proofs.Common.{◌≡◌, length}
use Rattle.data_domains.proofs.Wholes.{IsSettledBelow}
use Rattle.data_domains.proofs.types.settle_all.Given as goal

abbrev pub invariant-loop-ty : goal.invariant-loop-ty
invariant-loop-ty l = record {
  count : length l.all.items ≡ length l.fn.all.items;
  settled : IsSettledBelow l.fn.all.items l.all.items l.ty;
}
