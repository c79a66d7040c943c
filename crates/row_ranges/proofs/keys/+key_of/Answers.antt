use Rattle.std.proofs.Common.{◌≡◌, ◌+◌, ◌*◌, ◌/◌, length, ap, rules, arith}
use Rattle.kb_logic.specs.Structures.{tuples_of}
use Rattle.row_ranges.specs.Keys.{key_of}
use Rattle.row_ranges.proofs.Keying.{below-is, key-step}
use Rattle.row_ranges.proofs.keys.+key_of.Goals as goal

pub key_of-requires : goal.key_of-requires
key_of-requires t c = (
  search rules,
  below-is c.args.domains.now c.args.types.now c.in-Some.ty.now c.in-Some.types.now c.args.count
      (length c.domain_in.result.now) (search rules) c.requires (ap length c.domain_in.ensures)
      (omega (arith, c.if-size-eq0.false)),
)

pub returns-in-Some-checked_mul : goal.returns-in-Some-checked_mul
returns-in-Some-checked_mul t c =
    let n = c.args.count / length c.domain_in.result.now in
    let below : n ≡ length (tuples_of c.args.domains.now c.in-Some.types.now) =
    below-is c.args.domains.now c.args.types.now c.in-Some.ty.now c.in-Some.types.now c.args.count
    (length c.domain_in.result.now) (search rules) c.requires (ap length c.domain_in.ensures)
    (omega (arith, c.if-size-eq0.false)) in
    let whole : key_of c.args.domains.now c.args.types.now c.args.own.now c.args.row
    ≡ (c.args.row / n) * c.in-Some-split_first.step.now + c.in-Some-key_of.rest =
    key-step c.args.domains.now c.args.types.now c.args.own.now c.in-Some.ty.now c.in-Some.types.now
    c.in-Some-split_first.step.now c.in-Some-split_first.own.now c.args.row n c.in-Some-key_of.rest (search rules)
    (search rules) below c.in-Some-key_of.ensures in
    rw whole (search rules)
