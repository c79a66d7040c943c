use Rattle.std.proofs.Common.{◌≡◌, ◌++◌, sym, subst, arith}
use Rattle.ground_core.specs.Problems.{ProblemState, IsProblem}
use Rattle.kept_problem.specs.Joining.{joined_problem, CanJoin}
use Rattle.kept_problem.specs.KeptFields.{state_of}
use Rattle.ground_core.specs.Selectors.{AreSelectors}
use Rattle.kept_problem.proofs.JoinLaws.{joined-laws, same-both, one-has-none}
use Rattle.kept_problem.proofs.kept.KeptProblem.join.Goals as goal

pub joined_atoms-requires : goal.joined_atoms-requires
joined_atoms-requires c =
    let old : ProblemState = state_of c.self.inside in
    let more : ProblemState = c.args.more.now in
    let can : CanJoin old more = subst (λ (p : ProblemState). CanJoin p more) (sym c.self.view_is) c.requires.can in
    rw c.atoms.ensures.value (one-has-none old more c.self.invariant.laws can)

pub invariant_of-self-2 : goal.invariant_of-self-2
invariant_of-self-2 c =
    let old : ProblemState = state_of c.self.inside in
    let more : ProblemState = c.args.more.now in
    let can : CanJoin old more = subst (λ (p : ProblemState). CanJoin p more) (sym c.self.view_is) c.requires.can in
    let laws : IsProblem (joined_problem old more) = joined-laws old more c.requires.bounds
    c.self.invariant.laws c.atoms.ensures.laws can in
    let atoms : c.in_ok-atoms.atoms ≡ old.atoms ++ more.atoms = cc (c.in_ok-atoms.ensures, c.atoms.ensures.value) in
    let gates : c.append_reserved.new.to.items ≡ old.gates ++ more.gates =
    cc (c.append_reserved.ensures, c.in_ok-reserve.ensures.items, c.in_ok-gates.ensures, c.gates.ensures.value) in
    let clauses : c.append.new.self ≡ old.clauses ++ more.clauses = cc (
      c.in_ok-append.ensures.ok,
      c.clauses.ensures.value,
    ) in
    let sums : c.append_reserved-2.new.to.items ≡ old.sums ++ more.sums =
    cc (c.append_reserved-2.ensures, c.in_ok-reserve-2.ensures.items, c.in_ok-sums.ensures, c.sums.ensures.value) in
    let terms : c.append_reserved-3.new.to.items ≡ old.terms ++ more.terms =
    cc (c.append_reserved-3.ensures, c.in_ok-reserve-3.ensures.items, c.in_ok-terms.ensures, c.terms.ensures.value) in
    let e : c.reserve-4.new.self.items ≡ old.retired = c.in_ok-reserve-4.ensures.items in
    record {
      laws = rw (atoms, gates, clauses, sums, terms, e, c.vars-self-inside.ensures.value)
          (subst IsProblem (same-both old more c.requires.bounds) laws);
      retired = subst AreSelectors (sym e) c.self.invariant.retired;
      room = omega (arith, c.vars-self-inside.ensures.value, c.vars.ensures.value, c.in_ok-reserve-4.ensures.ok);
    }
