use Rattle.std.proofs.Common.{◌≡◌, ℕ, ◌+◌, ◌-◌, ◌≤◌, ◌++◌, None, length, replicate, sym, ap, ◌∙◌, arith, refl, vec_len}
use Rattle.std.proofs.Common.{length-append}
use Rattle.std.proofs.lemmas.List.{append-nil, length-replicate, length-map}
use Rattle.clause_base.specs.declared.trail.Step.{Step}
use Rattle.clause_base.specs.declared.trail.Trail.TheInside.{Inside}
use Rattle.clause_base.proofs.TrailGrowth.{kept-wider, laws-wider}
use Rattle.clause_base.proofs.trail.Trail.grow.Goals as goal

pub invariant_of-self-in_err-grow_places : goal.invariant_of-self-in_err-grow_places
invariant_of-self-in_err-grow_places c =
    let a = c.self.inside in
    let b : Inside = record {
      assignment = a.assignment;
      steps = c.reserve.new.self;
      lits = c.reserve-2.new.self;
      places = c.grow_places.new.places;
      level = a.level;
    } in
    let k = c.self.invariant in
    let longer = c.grow_places.ensures.longer in
    let room = c.reserve.ensures.capacity in
    let room2 = c.reserve-2.ensures.capacity in
    kept-wider a b 0 k (sym (append-nil a.assignment)) c.reserve.ensures.items c.reserve-2.ensures.items refl
    c.grow_places.ensures.kept
    (let s = k.sized in omega arith) (let s = k.room_steps in omega arith) (let s = k.room_lits in omega arith)

pub invariant_of-self-in_err-grow : goal.invariant_of-self-in_err-grow
invariant_of-self-in_err-grow c =
    let a = c.self.inside in
    let b : Inside = record {
      assignment = c.grow.new.self;
      steps = c.reserve.new.self;
      lits = c.reserve-2.new.self;
      places = c.grow_places.new.places;
      level = a.level;
    } in
    let k = c.self.invariant in
    let longer = c.grow_places.ensures.longer in
    let room = c.reserve.ensures.capacity in
    let room2 = c.reserve-2.ensures.capacity in
    let same : c.grow.new.self ≡ a.assignment = c.in_err-grow.ensures.err in
    let size : length c.grow.new.self ≡ length a.assignment = ap length same in
    kept-wider a b 0 k (same ∙ sym (append-nil a.assignment)) c.reserve.ensures.items c.reserve-2.ensures.items refl
    c.grow_places.ensures.kept
    (let s = k.sized in omega arith) (let s = k.room_steps in omega arith) (let s = k.room_lits in omega arith)

pub invariant_of-self-2 : goal.invariant_of-self-2
invariant_of-self-2 c =
    let a = c.self.inside in
    let b : Inside = record {
      assignment = c.grow.new.self;
      steps = c.reserve.new.self;
      lits = c.reserve-2.new.self;
      places = c.grow_places.new.places;
      level = a.level;
    } in
    let k = c.self.invariant in
    let n : ℕ = c.args.len - length a.assignment in
    let same : c.grow.new.self ≡ a.assignment ++ replicate n None = c.in_ok-grow.ensures.ok in
    let size : length c.grow.new.self ≡ length a.assignment + n = ap length same
    ∙ length-append a.assignment (replicate n None) ∙ ap (λ m. length a.assignment + m) (length-replicate n None) in
    let longer = c.grow_places.ensures.longer in
    let enough : c.args.len ≤ length c.grow_places.new.places.items = c.in_ok-grow_places.ensures.enough in
    let more = c.saturating_sub-more.ensures in
    let len = c.len.ensures in
    let room = c.reserve.ensures.capacity in
    let room2 = c.reserve-2.ensures.capacity in
    let given = c.in_ok-reserve.ensures.ok in
    let given2 = c.in_ok-reserve-2.ensures.ok in
    let lits : length a.lits.items ≡ length a.steps.items = ap length k.lits
    ∙ length-map a.steps.items (λ (t : Step). t.lit) in
    let steps_len : vec_len a.steps ≡ length a.steps.items = a.steps.ok.0 in
    let lits_len : vec_len a.lits ≡ length a.lits.items = a.lits.ok.0 in
    let same_len = c.reserve.ensures.len in
    let same_len2 = c.reserve-2.ensures.len in
    kept-wider a b n k same c.reserve.ensures.items c.reserve-2.ensures.items refl c.grow_places.ensures.kept
    (let s = k.sized in omega arith) (let s = k.room_steps in omega arith) (let s = k.room_lits in omega arith)

pub returns-clause-laws : goal.returns-clause-laws
returns-clause-laws c =
    let a = c.self.inside in
    let b : Inside = record {
      assignment = c.grow.new.self;
      steps = c.reserve.new.self;
      lits = c.reserve-2.new.self;
      places = c.grow_places.new.places;
      level = a.level;
    } in
    laws-wider a b (c.args.len - length a.assignment) c.self.invariant c.in_ok-grow.ensures.ok c.reserve.ensures.items
    c.reserve-2.ensures.items refl
