use Rattle.std.proofs.Common.{◌≡◌, ◌<◌, ◌≤◌, ◌+◌, ◌*◌, ℕ, List, length, ◌++◌, sym, ap, subst, ◌∙◌, arith}
use Rattle.kb_logic.specs.declared.elements.Elem.{Elem}
use Rattle.lit_core.specs.declared.literals.Lit.{Lit}
use Rattle.ground_core.specs.Problems.{ProblemState}
use Rattle.term_values.specs.GroundBases.{first_var, tuples_at, values_at}
use Rattle.def_ground.specs.Problems.{one_of_clauses, one_of_sums, said_tuples, saying, tuple_says, function_says}
use Rattle.def_ground.specs.Problems.{open_variables}
use Rattle.ground_walk.specs.Groundable.{HasVars}
use Rattle.ground_walk.proofs.StartSteps.{all-said, more-times, next-said, said-so-far, saying-more}
use Rattle.ground_walk.proofs.StartSteps.{tuple-below, tuple-lits}
use Rattle.ground_walk.proofs.starts.push_function.Goals as goal

pub push_one_of-requires-clause-few : goal.push_one_of-requires-clause-few
push_one_of-requires-clause-few c =
    let b = c.args.base.now in
    let s = c.args.symbol in
    let i = c.loop-tuple._tuple in
    let said : i < length (said_tuples (values_at b s) (tuples_at b s)) =
    omega (arith, c.loop-tuple-test.true, c.in_ok-count.ensures) in
    let low = tuple-below b c.requires.given s i said in
    let size = ap (λ (xs : List Elem). length xs) c.values-values.ensures in
    omega (arith, low, size, c.loop-tuple.invariant.next, c.atoms-atoms.ensures.few, c.requires.known)

pub push_one_of-requires-clause-within : goal.push_one_of-requires-clause-within
push_one_of-requires-clause-within c =
    let b = c.args.base.now in
    let s = c.args.symbol in
    let i = c.loop-tuple._tuple in
    let said : i < length (said_tuples (values_at b s) (tuples_at b s)) =
    omega (arith, c.loop-tuple-test.true, c.in_ok-count.ensures) in
    let vars : HasVars b c.loop-tuple.problem =
    subst (λ (q : ProblemState). HasVars b q) (sym c.loop-tuple.invariant.said) c.requires.room in
    rw (c.loop-tuple.invariant.next, c.values-values.ensures)
    (tuple-lits b c.loop-tuple.problem c.requires.given vars s i said)

pub overflow_add-next : goal.overflow_add-next
overflow_add-next c =
    let b = c.args.base.now in
    let s = c.args.symbol in
    let i = c.loop-tuple._tuple in
    let said : i < length (said_tuples (values_at b s) (tuples_at b s)) =
    omega (arith, c.loop-tuple-test.true, c.in_ok-count.ensures) in
    let low = tuple-below b c.requires.given s i said in
    let size = ap (λ (xs : List Elem). length xs) c.values-values.ensures in
    omega (arith, low, size, c.loop-tuple.invariant.next, c.atoms-atoms.ensures.few, c.requires.known)

pub loop-tuple-preserved : goal.loop-tuple-preserved
loop-tuple-preserved c =
    let b = c.args.base.now in
    let s = c.args.symbol in
    let i = c.loop-tuple._tuple in
    let p = c.args.problem.now in
    let said : i < length (said_tuples (values_at b s) (tuples_at b s)) =
    omega (arith, c.loop-tuple-test.true, c.in_ok-count.ensures) in
    let here = open_variables b c.loop-tuple.next c.values-values.result.now in
    let is : here ≡ open_variables b (first_var b s + i * length (values_at b s)) (values_at b s) =
    ap (λ (n : ℕ). open_variables b n c.values-values.result.now) c.loop-tuple.invariant.next
    ∙ ap (λ (ys : List Elem). open_variables b (first_var b s + i * length (values_at b s)) ys)
    c.values-values.ensures in
    let cs = said-so-far (one_of_clauses (length b.known)) b s i in
    let ss = said-so-far (one_of_sums (length b.known)) b s i in
    let size = ap (λ (ys : List Elem). length ys) c.values-values.ensures in
    let times = more-times i (length (values_at b s)) in
    record {
      said = c.in_ok-push_one_of.ensures
          ∙ ap (λ (q : ProblemState). saying q ((one_of_clauses (length b.known)) here) ((one_of_sums (length b.known)) here)) c.loop-tuple.invariant.said
          ∙ saying-more p cs ((one_of_clauses (length b.known)) here) ss ((one_of_sums (length b.known)) here)
          ∙ ap (λ (ls : List Lit). saying p (cs ++ (one_of_clauses (length b.known)) ls) (ss ++ (one_of_sums (length b.known)) ls)) is
          ∙ ap (λ (ds : List (List Lit)). saying p ds (ss ++ tuple_says (one_of_sums (length b.known)) b s i))
          (sym (next-said (one_of_clauses (length b.known)) b s i said))
          ∙ ap (saying p (said-so-far (one_of_clauses (length b.known)) b s (i + 1))) (sym (next-said (one_of_sums (length b.known)) b s i said));
      next = omega (arith, size, times, c.loop-tuple.invariant.next);
    }

pub returns : goal.returns
returns c =
    let b = c.args.base.now in
    let s = c.args.symbol in
    let p = c.args.problem.now in
    let k = c.loop-tuple._tuple in
    let end : length (said_tuples (values_at b s) (tuples_at b s)) ≤ k =
    omega (arith, c.loop-tuple-test.false, c.in_ok-count.ensures) in
    c.loop-tuple.invariant.said
    ∙ ap (λ (ds : List (List Lit)). saying p ds (said-so-far (one_of_sums (length b.known)) b s k)) (all-said (one_of_clauses (length b.known)) b s k end)
    ∙ ap (saying p (function_says (one_of_clauses (length b.known)) b s)) (all-said (one_of_sums (length b.known)) b s k end)
