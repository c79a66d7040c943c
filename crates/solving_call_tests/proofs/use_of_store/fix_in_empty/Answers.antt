use Rattle.std.proofs.Common.{◌≡◌, ◌<◌, Some, length, refl, arith}
use Rattle.std.proofs.lemmas.Option.{slice_get_within}
use Rattle.solving_call_tests.proofs.use_of_store.fix_in_empty.Goals as goal

pub fix-requires-clause-unopposed : goal.fix-requires-clause-unopposed
fix-requires-clause-unopposed c id d held has =
    let none : length c.args.store.now.clauses ≡ 0 = c.if-is_empty.ensures.0 refl in
    let lt : id < length c.args.store.now.clauses = slice_get_within c.args.store.now.clauses id (Some d) held in
    omega arith
