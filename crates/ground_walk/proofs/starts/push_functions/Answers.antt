use Rattle.std.proofs.Common.{◌≡◌, ◌+◌, ℕ, Bool, List, take, ◌++◌, is_some, sym, ap, ◌∙◌, arith, length}
use Rattle.kb_logic.specs.declared.vocabularies.Symbol.{Symbol}
use Rattle.lit_core.specs.declared.literals.Lit.{Lit}
use Rattle.ground_core.specs.Problems.{ProblemState}
use Rattle.def_ground.specs.Problems.{one_of_clauses, one_of_sums, saying}
use Rattle.ground_walk.proofs.StartSteps.{if-function, next-function, of-functions, saying-more}
use Rattle.ground_walk.proofs.starts.push_functions.Goals as goal

pub loop-symbol-preserved : goal.loop-symbol-preserved
loop-symbol-preserved c =
    let b = c.args.base.now in
    let p = c.args.problem.now in
    let xs = c.as_slice-symbols.result.now in
    let k = c.loop-symbol.symbol in
    let x = c.index-symbols-symbol.result in
    let cs = of-functions (one_of_clauses (length b.known)) b 0 (take k xs) in
    let ss = of-functions (one_of_sums (length b.known)) b 0 (take k xs) in
    let t = c.is_some-is_function.result in
    let number : k ≡ 0 + k = omega arith in
    let is : t ≡ is_some x.value = c.is_some-is_function.ensures
    ∙ ap (λ (y : Symbol). is_some y.value) (sym c.index-symbols-symbol.is) in
    c.in_ok-push_symbol.ensures
    ∙ ap (λ (q : ProblemState). saying q (if-function (one_of_clauses (length b.known)) b t k) (if-function (one_of_sums (length b.known)) b t k))
    c.loop-symbol.invariant
    ∙ saying-more p cs (if-function (one_of_clauses (length b.known)) b t k) ss (if-function (one_of_sums (length b.known)) b t k)
    ∙ ap (λ (t : Bool). saying p (cs ++ if-function (one_of_clauses (length b.known)) b t k) (ss ++ if-function (one_of_sums (length b.known)) b t k)) is
    ∙ ap (λ (n : ℕ). saying p (cs ++ if-function (one_of_clauses (length b.known)) b (is_some x.value) n)
    (ss ++ if-function (one_of_sums (length b.known)) b (is_some x.value) n)) number
    ∙ ap (λ (ds : List (List Lit)). saying p ds (ss ++ if-function (one_of_sums (length b.known)) b (is_some x.value) (0 + k)))
    (sym (next-function (one_of_clauses (length b.known)) b 0 k xs x c.loop-symbol-test.true c.index-symbols-symbol.is))
    ∙ ap (saying p (of-functions (one_of_clauses (length b.known)) b 0 (take (k + 1) xs)))
    (sym (next-function (one_of_sums (length b.known)) b 0 k xs x c.loop-symbol-test.true c.index-symbols-symbol.is))
