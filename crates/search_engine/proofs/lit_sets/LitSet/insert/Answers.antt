use Rattle.std.proofs.Common.{refl}
use Rattle.search_engine.specs.declared.lit_sets.LitSet.{LitSet}
use Rattle.search_engine.proofs.LitSetFacts.{inserts-positive, inserts-negative, inserts-kept, inserts-new}
use Rattle.search_engine.proofs.LitSetFacts.{inserts-from}
use Rattle.search_engine.proofs.lit_sets.LitSet.insert.Goals as goal

pub returns-then-lit-clause-kept : goal.returns-then-lit-clause-kept
returns-then-lit-clause-kept c = let new : LitSet = record {
  positive = c.insert.new.self;
  negative =
      c.args.self.now.negative;
} in inserts-kept c.args.self.now new c.args.lit
    (inserts-positive c.args.self.now new c.args.lit c.if-lit.true c.in_ok-insert.ensures.keys refl)

pub returns-then-lit-clause-new : goal.returns-then-lit-clause-new
returns-then-lit-clause-new c = let new : LitSet = record {
  positive = c.insert.new.self;
  negative =
      c.args.self.now.negative;
} in inserts-new c.args.self.now new c.args.lit
    (inserts-positive c.args.self.now new c.args.lit c.if-lit.true c.in_ok-insert.ensures.keys refl)

pub returns-then-lit-clause-from : goal.returns-then-lit-clause-from
returns-then-lit-clause-from c = let new : LitSet = record {
  positive = c.insert.new.self;
  negative =
      c.args.self.now.negative;
} in inserts-from c.args.self.now new c.args.lit
    (inserts-positive c.args.self.now new c.args.lit c.if-lit.true c.in_ok-insert.ensures.keys refl)

pub returns-clause-kept : goal.returns-clause-kept
returns-clause-kept c = let new : LitSet = record {
  positive = c.args.self.now.positive;
  negative =
      c.insert-2.new.self;
} in inserts-kept c.args.self.now new c.args.lit
    (inserts-negative c.args.self.now new c.args.lit c.if-lit.false c.in_ok-insert-2.ensures.keys refl)

pub returns-clause-new : goal.returns-clause-new
returns-clause-new c = let new : LitSet = record { positive = c.args.self.now.positive; negative = c.insert-2.new.self }
    in inserts-new c.args.self.now new c.args.lit (inserts-negative c.args.self.now new c.args.lit c.if-lit.false
    c.in_ok-insert-2.ensures.keys refl)

pub returns-clause-from : goal.returns-clause-from
returns-clause-from c = let new : LitSet = record {
  positive = c.args.self.now.positive;
  negative =
      c.insert-2.new.self;
} in inserts-from c.args.self.now new c.args.lit
    (inserts-negative c.args.self.now new c.args.lit c.if-lit.false c.in_ok-insert-2.ensures.keys refl)
