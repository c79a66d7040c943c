use Rattle.std.proofs.Common.{◌≡◌, ℕ, map, Vec, rules}
use Rattle.std.specs.declared.alloc.Global.{Global}
use Rattle.std.proofs.lemmas.Result.{IfOk-weaker}
use Rattle.partial_structures.specs.KnownAtoms.{atoms_of, value_at}
use Rattle.known_guards.proofs.GuardRows.{left-of-truths}
use Rattle.known_guards.proofs.rows.rows_left.Goals as goal

pub returns : goal.returns
returns c =
    let k = c.args.known.now in
    let s = c.args.symbol in
    let are : c.deref.result.now ≡ map (value_at k) (atoms_of k s) = search rules in
    IfOk-weaker c.others.result _ _
    (λ o h. left-of-truths (λ (rows : Vec ℕ Global). rows.items) k s c.deref.result.now are o h) c.others.ensures
