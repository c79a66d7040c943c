use Rattle.std.proofs.Common.{rules, Some, refl, ◌∙◌, arith, subst}
use Rattle.std.proofs.lemmas.Option.{same_Some}
use Rattle.clause_base.specs.ClauseDbFields.{HasRoom}
use Rattle.clause_base.specs.declared.clause_db.ClauseDb.TheInside.{Inside}
use Rattle.clause_base.proofs.ArenaFacts.{kept-same, room-more}
use Rattle.clause_base.proofs.clause_db.ClauseDb.reserve.Goals as goal

pub invariant_of-self : goal.invariant_of-self
invariant_of-self c =
    let a : Inside = c.self.inside in
    let b : Inside = record {
      lits = a.lits;
      entries = c.reserve.new.self;
      buffer = a.buffer;
      spare = a.spare;
      live = a.live;
    } in
    let r = c.reserve.ensures in
    kept-same a b c.self.invariant refl r.items refl c.self.invariant.empty
    (λ n is. room-more a b n (c.self.invariant.room n is) (omega arith) r.len r.capacity refl (omega arith))

pub invariant_of-self-in_err-reserve-2 : goal.invariant_of-self-in_err-reserve-2
invariant_of-self-in_err-reserve-2 c =
    let a : Inside = c.self.inside in
    let b : Inside = record {
      lits = c.reserve-2.new.self;
      entries = c.reserve.new.self;
      buffer = a.buffer;
      spare =
          a.spare;
      live = a.live;
    } in
    let r = c.reserve.ensures in
    let q = c.reserve-2.ensures in
    kept-same a b c.self.invariant q.items r.items refl c.self.invariant.empty
    (λ n is. room-more a b n (c.self.invariant.room n is) (omega arith) r.len r.capacity q.len q.capacity)

pub invariant_of-self-in_err-reserve-3 : goal.invariant_of-self-in_err-reserve-3
invariant_of-self-in_err-reserve-3 c =
    let a : Inside = c.self.inside in
    let b : Inside = record {
      lits = c.reserve-2.new.self;
      entries = c.reserve.new.self;
      buffer = c.reserve-3.new.self;
      spare = a.spare;
      live = a.live;
    } in
    let r = c.reserve.ensures in
    let q = c.reserve-2.ensures in
    kept-same a b c.self.invariant q.items r.items refl (c.reserve-3.ensures.items ∙ c.self.invariant.empty)
    (λ n is. room-more a b n (c.self.invariant.room n is) c.reserve-3.ensures.capacity r.len r.capacity
    q.len q.capacity)

pub invariant_of-self-2 : goal.invariant_of-self-2
invariant_of-self-2 c =
    let a : Inside = c.self.inside in
    let b : Inside = record {
      lits = c.reserve-2.new.self;
      entries = c.reserve.new.self;
      buffer = c.reserve-3.new.self;
      spare = Some c.args.len;
      live = a.live;
    } in
    let r = c.reserve.ensures in
    let q = c.reserve-2.ensures in
    let room : HasRoom b c.args.len = record {
      buffer = search rules;
      entry = omega (arith, c.in_ok-reserve.ensures.ok, r.len);
      arena = omega (arith, c.in_ok-reserve-2.ensures.ok, q.len);
      small = omega (arith, q.len, c.len.ensures, c.if-len.false, c.if-len-2.false);
    } in
    kept-same a b c.self.invariant q.items r.items refl (c.reserve-3.ensures.items ∙ c.self.invariant.empty)
    (λ n is. subst (HasRoom b) (same_Some c.args.len n is) room)
