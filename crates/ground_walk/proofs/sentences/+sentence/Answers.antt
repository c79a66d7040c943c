use Rattle.std.proofs.Common.{◌≡◌, ◌+◌, ◌<◌, ◌≤◌, ◌++◌, ◌∷◌, List, [], map, drop, take, false, length, get_or, fold}
use Rattle.std.proofs.Common.{OnOk, refl, sym, ap, subst, ◌∙◌, arith, length-append}
use Rattle.kb_logic.specs.declared.elements.Elem.{Elem}
use Rattle.plain_evaluation.specs.Environments.{env_view}
use Rattle.kb_logic.specs.Structures.{choices}
use Rattle.kb_logic.specs.Views.{formula_view}
use Rattle.lit_core.specs.declared.literals.Lit.{Lit}
use Rattle.ground_core.specs.Problems.{ProblemState, AreLitsOf}
use Rattle.def_ground.specs.Disjuncts.{disjuncts_of}
use Rattle.def_ground.specs.Sentences.{assert_any}
use Rattle.kb_logic.specs.Trees.{formulas_of}
use Rattle.def_ground.proofs.Growing.{lits-more}
use Rattle.plain_evaluation.proofs.Folds.{after_front, each_after, fold_by_front, fold_done, fold_next, inner_fold}
use Rattle.row_ranges.proofs.Walking.{all-out, fits-all, fits-one, led-below, order-below}
use Rattle.sentence_guards.specs.Guards.{AddsNothing}
use Rattle.ground_walk.specs.Groundable.{IsGroundable}
use Rattle.ground_walk.specs.Steps.{MakesParts, assert_step}
use Rattle.ground_walk.proofs.LedSteps.{passed-over}
use Rattle.ground_walk.proofs.SentenceSteps.{Begins, all-asserted, some-asserted, begins-itself, disjuncts-begin}
use Rattle.ground_walk.proofs.SentenceSteps.{front-begins, front-of, any-next, unless-stops, unless-goes-on}
use Rattle.ground_walk.proofs.SentenceSteps.{groundable-next}
use Rattle.ground_walk.proofs.sentences.+sentence.Goals as goal

pub push_any-returns-then-branch-clause-made : goal.push_any-returns-then-branch-clause-made
push_any-returns-then-branch-clause-made t c =
    let b = c.args.scope.base.now in
    let sign = c.args.sign in
    let e = env_view c.args.scope.env.now in
    let z = c.in-Some.last.now in
    let others = c.in-Some.others.now in
    let i = c.loop-formula.formula-index in
    let x = c.formula-item.result in
    let before = c.loop-formula.lits.items in
    let p = c.loop-formula.problem in
    let q = c.disjuncts.new.problem in
    let xs = c.disjuncts.new.lits.items in
    let r = disjuncts_of b sign (formula_view x) e before p in
    let made : MakesParts r c.in_ok-disjuncts.field-0 xs q = c.in_ok-disjuncts.ensures.made in
    let rest = λ (ys : List Lit) (r : ProblemState). assert_any b sign
    (formulas_of (map formula_view (drop (i + 1) others ++ z ∷ []))) e ys r in
    let next = any-next b sign others z e before p i x c.loop-formula-test.true c.formula-item.is in
    sym (next ∙ unless-stops r rest c.in_ok-disjuncts.field-0 xs q made c.if-branch.true)
    ∙ c.loop-formula.invariant.same

pub push_any-returns-then-branch-clause-lits : goal.push_any-returns-then-branch-clause-lits
push_any-returns-then-branch-clause-lits t c =
    let b = c.args.scope.base.now in
    let sign = c.args.sign in
    let e = env_view c.args.scope.env.now in
    let x = c.formula-item.result in
    let ls = c.args.lits.now.items in
    let before = c.loop-formula.lits.items in
    let p = c.loop-formula.problem in
    let xs = c.disjuncts.new.lits.items in
    let r = disjuncts_of b sign (formula_view x) e before p in
    let made : MakesParts r c.in_ok-disjuncts.field-0 xs c.disjuncts.new.problem = c.in_ok-disjuncts.ensures.made in
    let n : c.len-before.result ≡ length ls = omega (arith, c.len-before.ensures, c.args.lits.now.ok.0) in
    c.truncate.ensures.items ∙ ap (λ k. take k xs) n
    ∙ front-of ls xs (subst (Begins ls) (sym made.1)
    (disjuncts-begin b ls sign (formula_view x) e before p (front-begins ls before c.loop-formula.invariant.front)))

pub push_any-loop-formula-preserved : goal.push_any-loop-formula-preserved
push_any-loop-formula-preserved t c =
    let b = c.args.scope.base.now in
    let sign = c.args.sign in
    let e = env_view c.args.scope.env.now in
    let z = c.in-Some.last.now in
    let others = c.in-Some.others.now in
    let i = c.loop-formula.formula-index in
    let x = c.formula-item.result in
    let ls = c.args.lits.now.items in
    let before = c.loop-formula.lits.items in
    let p = c.loop-formula.problem in
    let q = c.disjuncts.new.problem in
    let xs = c.disjuncts.new.lits.items in
    let r = disjuncts_of b sign (formula_view x) e before p in
    let made : MakesParts r c.in_ok-disjuncts.field-0 xs q = c.in_ok-disjuncts.ensures.made in
    let rest = λ (ys : List Lit) (r : ProblemState). assert_any b sign
    (formulas_of (map formula_view (drop (i + 1) others ++ z ∷ []))) e ys r in
    let next = any-next b sign others z e before p i x c.loop-formula-test.true c.formula-item.is in
    let grows = c.in_ok-disjuncts.ensures.grows in
    record {
      same = sym (next ∙ unless-goes-on r rest c.in_ok-disjuncts.field-0 xs q made c.if-branch.false)
          ∙ c.loop-formula.invariant.same;
      fits = groundable-next b others z e i x c.loop-formula-test.true c.loop-formula.invariant.fits;
      vars = omega (arith, c.loop-formula.invariant.vars, grows.vars);
      front =
          front-of ls xs (subst (Begins ls) (sym made.1)
          (disjuncts-begin b ls sign (formula_view x) e before p
          (front-begins ls before c.loop-formula.invariant.front)));
      within = grows.within;
    }

pub push_each-push_each-requires : goal.push_each-push_each-requires
push_each-push_each-requires t c =
    let b = c.args.scope.base.now in
    let sign = c.args.sign in
    let e = env_view c.args.scope.env.now in
    let f = formula_view c.args.binder.formula.now in
    let ls = c.args.lits.now.items in
    let these = c.split_in.result.0.bounds.now in
    let others = c.split_in.result.1.now in
    let cs = choices b.domains these in
    let rest = choices b.domains others in
    let i = c.loop-number.number in
    let count : c.split_in.result.0.count ≡ length cs = rw c.domains.ensures at c.split_in.ensures.count in
    let inner = env_view c.extend-inner.result in
    let within : i < length cs = rw (← count) c.loop-number-test.true in
    let is : inner ≡ e ++ get_or cs i [] = rw (c.split_in.ensures.domains, c.domains.ensures)
    at c.extend-inner.ensures in (
      omega (arith, c.split_in.ensures.fewer),
      (
        c.requires.given,
        (
          omega (arith, c.requires.room, c.loop-number.invariant.vars),
          (
            each_after b.domains c.args.binder.bounds.now these others c.split_in.ensures.parts
                (IsGroundable b f) e inner i within is c.requires.fits,
            c.loop-number.invariant.within,
          ),
        ),
      ),
    )

pub push_each-loop-number-preserved : goal.push_each-loop-number-preserved
push_each-loop-number-preserved t c =
    let b = c.args.scope.base.now in
    let sign = c.args.sign in
    let e = env_view c.args.scope.env.now in
    let f = formula_view c.args.binder.formula.now in
    let ls = c.args.lits.now.items in
    let these = c.split_in.result.0.bounds.now in
    let others = c.split_in.result.1.now in
    let cs = choices b.domains these in
    let rest = choices b.domains others in
    let i = c.loop-number.number in
    let count : c.split_in.result.0.count ≡ length cs = rw c.domains.ensures at c.split_in.ensures.count in
    let inner = env_view c.extend-inner.result in
    let within : i < length cs = rw (← count) c.loop-number-test.true in
    let is : inner ≡ e ++ get_or cs i [] = rw (c.split_in.ensures.domains, c.domains.ensures)
    at c.extend-inner.ensures in
    let G = λ (q : ProblemState) (a : List Elem). assert_step b sign f ls q a in
    let F = λ (q : ProblemState) (a : List Elem). G q (e ++ a) in
    let p = c.loop-number.problem in
    let q = c.push_each.new.problem in
    let made : q ≡ fold (λ (r : ProblemState) (x : List Elem). G r (inner ++ x)) p rest =
    c.in_ok-push_each.ensures.made
    ∙ ap (λ (ms : List Lit). fold (λ (r : ProblemState) (x : List Elem). assert_step b sign f ms r (inner ++ x)) p rest)
    c.loop-number.invariant.lits in
    let more : p.vars ≤ q.vars = c.in_ok-push_each.ensures.grows in
    record {
      same = fold_next (after_front F rest) cs i p q within (made ∙ inner_fold G rest e inner (get_or cs i []) p is)
          ∙ c.loop-number.invariant.same;
      vars = omega (arith, c.loop-number.invariant.vars, more);
      lits = c.in_ok-push_each.ensures.lits ∙ c.loop-number.invariant.lits;
      within =
          subst (AreLitsOf q.vars) (sym c.in_ok-push_each.ensures.lits)
          (lits-more p.vars q.vars more c.loop-number.lits.items c.loop-number.invariant.within);
    }

pub push_each-returns-clause-made : goal.push_each-returns-clause-made
push_each-returns-clause-made t c =
    let b = c.args.scope.base.now in
    let sign = c.args.sign in
    let e = env_view c.args.scope.env.now in
    let f = formula_view c.args.binder.formula.now in
    let ls = c.args.lits.now.items in
    let these = c.split_in.result.0.bounds.now in
    let others = c.split_in.result.1.now in
    let cs = choices b.domains these in
    let rest = choices b.domains others in
    let i = c.loop-number.number in
    let count : c.split_in.result.0.count ≡ length cs = rw c.domains.ensures at c.split_in.ensures.count in
    let past : length cs ≤ i = rw (← count) c.loop-number-test.false in
    let F = λ (q : ProblemState) (a : List Elem). assert_step b sign f ls q (e ++ a) in
    sym
    (fold_by_front b.domains c.args.binder.bounds.now these others c.split_in.ensures.parts F c.args.problem.now
    ∙ sym c.loop-number.invariant.same ∙ fold_done (after_front F rest) cs i c.loop-number.problem past)

pub push_quantified-returns-then-sign-all-clause-made : goal.push_quantified-returns-then-sign-all-clause-made
push_quantified-returns-then-sign-all-clause-made t c =
    subst (λ (q : ProblemState). OnOk c.push_instances.result (c.push_instances.new.problem ≡ q))
    (all-asserted c.args.scope.base.now c.args.binder.bounds.now (formula_view c.args.binder.formula.now) (env_view c.args.scope.env.now)
    c.args.lits.now.items c.args.problem.now c.args.all c.args.sign c.if-sign-all.true) c.push_instances.ensures.made

pub push_quantified-returns-else-sign-all-clause-made : goal.push_quantified-returns-else-sign-all-clause-made
push_quantified-returns-else-sign-all-clause-made t c =
    subst (λ (q : ProblemState). OnOk c.push_some.result (c.push_some.new.problem ≡ q))
    (some-asserted c.args.scope.base.now c.args.binder.bounds.now (formula_view c.args.binder.formula.now) (env_view c.args.scope.env.now)
    c.args.lits.now.items c.args.problem.now c.args.all c.args.sign c.if-sign-all.false) c.push_some.ensures.made

pub push-returns-in_ok-settled-in-Implies-clause-lits : goal.push-returns-in_ok-settled-in-Implies-clause-lits
push-returns-in_ok-settled-in-Implies-clause-lits t c =
    let b = c.args.scope.base.now in
    let e = env_view c.args.scope.env.now in
    let f = formula_view c.deref-then-sign.result.now in
    let ls = c.args.lits.now.items in
    let p = c.args.problem.now in
    let xs = c.disjuncts.new.lits.items in
    let new = c.push_under.new.lits.items in
    let made : MakesParts (disjuncts_of b false f e ls p) c.in_ok-settled-in-Implies.settled xs
    c.disjuncts.new.problem = c.in_ok-settled-in-Implies.ensures.made in
    let n : c.len-before.result ≡ length ls = omega (arith, c.len-before.ensures, c.args.lits.now.ok.0) in
    let front : take c.len-before.result xs ≡ ls =
    ap (λ k. take k xs) n
    ∙ front-of ls xs (subst (Begins ls) (sym made.1) (disjuncts-begin b ls false f e ls p (begins-itself ls))) in
    subst (λ ys. OnOk c.push_under.result (new ≡ ys)) front c.push_under.ensures.lits

pub push_led-next-index-requires-clause-fits : goal.push_led-next-index-requires-clause-fits
push_led-next-index-requires-clause-fits t c =
    let b = c.args.scope.base.now in
    let these = c.first_variable.result.0.bounds.now in
    let place = c.args.place in
    let cs = choices b.domains these in
    let count : c.first_variable.result.0.count ≡ length cs = rw c.domains.ensures at c.first_variable.ensures.count in
    let fits = fits-all (AddsNothing b c.args.sign (formula_view c.args.binder.formula.now)) b.domains place.keys.now place.key
    place.steps.now c.args.binder.bounds.now these c.first_variable.result.1.now (env_view c.args.scope.env.now)
    c.first_variable.ensures.parts c.first_variable.ensures.one c.requires.led c.requires.order in
    rw count fits

pub push_led-next-index-requires-in-loop-index-clause-fits : goal.push_led-next-index-requires-in-loop-index-clause-fits
push_led-next-index-requires-in-loop-index-clause-fits t c =
    let b = c.args.scope.base.now in
    let these = c.first_variable.result.0.bounds.now in
    let place = c.args.place in
    let cs = choices b.domains these in
    let count : c.first_variable.result.0.count ≡ length cs = rw c.domains.ensures at c.first_variable.ensures.count in
    let fits = fits-all (AddsNothing b c.args.sign (formula_view c.args.binder.formula.now)) b.domains place.keys.now place.key
    place.steps.now c.args.binder.bounds.now these c.first_variable.result.1.now (env_view c.args.scope.env.now)
    c.first_variable.ensures.parts c.first_variable.ensures.one c.requires.led c.requires.order in
    rw count fits

pub push_led-below-below-requires : goal.push_led-below-below-requires
push_led-below-below-requires t c =
    let b = c.args.scope.base.now in
    let these = c.first_variable.result.0.bounds.now in
    let place = c.args.place in
    let cs = choices b.domains these in
    let count : c.first_variable.result.0.count ≡ length cs = rw c.domains.ensures at c.first_variable.ensures.count in
    let fits = fits-one (AddsNothing b c.args.sign (formula_view c.args.binder.formula.now)) b.domains place.keys.now place.key
    place.steps.now c.args.binder.bounds.now these c.first_variable.result.1.now (env_view c.args.scope.env.now)
    c.first_variable.ensures.parts c.first_variable.ensures.one c.requires.led c.loop-index.index
    (rw (← count) c.loop-index-test.true) c.requires.order in
    record { fits = fits }

pub push_led-push_led-requires : goal.push_led-push_led-requires
push_led-push_led-requires t c =
    let b = c.args.scope.base.now in
    let e = env_view c.args.scope.env.now in
    let f = formula_view c.args.binder.formula.now in
    let Out = AddsNothing b c.args.sign f in
    let these = c.first_variable.result.0.bounds.now in
    let others = c.first_variable.result.1.now in
    let bounds = c.args.binder.bounds.now in
    let place = c.args.place in
    let cs = choices b.domains these in
    let i = c.loop-index.index in
    let count : c.first_variable.result.0.count ≡ length cs = rw c.domains.ensures at c.first_variable.ensures.count in
    let inner = env_view c.extend-inner.result in
    let within : i < length cs = rw (← count) c.loop-index-test.true in
    let is : inner ≡ e ++ get_or cs i [] = rw (c.first_variable.ensures.domains, c.domains.ensures)
    at c.extend-inner.ensures in
    let parts = c.first_variable.ensures.parts in
    let one = c.first_variable.ensures.one in
    let fewer : length bounds ≡ length these + length others = ap length parts ∙ length-append these others in (
      omega (arith, fewer, one),
      (
        c.requires.given,
        (
          omega (arith, c.requires.room, c.loop-index.invariant.vars),
          (
            each_after b.domains bounds these others parts (IsGroundable b f) e inner i within is c.requires.fits,
            (
              c.loop-index.invariant.within,
              (
                rw (c.below-below.ensures.keys, c.below-below.ensures.key, c.below-below.ensures.steps)
                    (led-below Out b.domains place.keys.now place.key place.steps.now bounds these others e parts one
                    c.requires.led i inner within is),
                rw (c.below-below.ensures.keys, c.below-below.ensures.key, c.below-below.ensures.steps)
                    (order-below Out b.domains place.keys.now place.key place.steps.now bounds these others e parts one
                    c.requires.led i within c.requires.order),
              ),
            ),
          ),
        ),
      ),
    )

pub push_led-loop-index-init : goal.push_led-loop-index-init
push_led-loop-index-init t c =
    let b = c.args.scope.base.now in
    let e = env_view c.args.scope.env.now in
    let f = formula_view c.args.binder.formula.now in
    let Out = AddsNothing b c.args.sign f in
    let these = c.first_variable.result.0.bounds.now in
    let others = c.first_variable.result.1.now in
    let bounds = c.args.binder.bounds.now in
    let place = c.args.place in
    let cs = choices b.domains these in
    let rest = choices b.domains others in
    let next = c.next-index.ensures in
    let count : c.first_variable.result.0.count ≡ length cs = rw c.domains.ensures at c.first_variable.ensures.count in
    let below : c.next-index.result ≤ length cs = rw (← count) next.within in
    record {
      same =
          passed-over b c.args.sign f c.args.lits.now.items e cs rest 0 c.next-index.result c.args.problem.now
          (omega arith) below
          (λ k low high.
          all-out Out b.domains place.keys.now place.key place.steps.now bounds these others e
          c.first_variable.ensures.parts c.first_variable.ensures.one c.requires.led k (omega (arith, high, below))
          c.requires.order (next.moved (omega (arith, low, high))) (next.passed k low high));
      within_all = next.within;
      vars = omega arith;
      lits = refl;
      within = c.requires.lits;
    }

pub push_led-loop-index-preserved : goal.push_led-loop-index-preserved
push_led-loop-index-preserved t c =
    let b = c.args.scope.base.now in
    let sign = c.args.sign in
    let e = env_view c.args.scope.env.now in
    let f = formula_view c.args.binder.formula.now in
    let ls = c.args.lits.now.items in
    let Out = AddsNothing b sign f in
    let these = c.first_variable.result.0.bounds.now in
    let others = c.first_variable.result.1.now in
    let bounds = c.args.binder.bounds.now in
    let place = c.args.place in
    let cs = choices b.domains these in
    let rest = choices b.domains others in
    let i = c.loop-index.index in
    let next = c.next-index-in-loop-index.ensures in
    let count : c.first_variable.result.0.count ≡ length cs = rw c.domains.ensures at c.first_variable.ensures.count in
    let below : c.next-index-in-loop-index.result ≤ length cs = rw (← count) next.within in
    let inner = env_view c.extend-inner.result in
    let within : i < length cs = rw (← count) c.loop-index-test.true in
    let is : inner ≡ e ++ get_or cs i [] = rw (c.first_variable.ensures.domains, c.domains.ensures)
    at c.extend-inner.ensures in
    let G = λ (q : ProblemState) (a : List Elem). assert_step b sign f ls q a in
    let F = λ (q : ProblemState) (a : List Elem). G q (e ++ a) in
    let p = c.loop-index.problem in
    let q = c.push_led.new.problem in
    let made : q ≡ fold (λ (r : ProblemState) (x : List Elem). G r (inner ++ x)) p rest =
    c.in_ok-push_led.ensures.made
    ∙ ap (λ (ms : List Lit). fold (λ (r : ProblemState) (x : List Elem). assert_step b sign f ms r (inner ++ x)) p rest)
    c.loop-index.invariant.lits in
    let more : p.vars ≤ q.vars = c.in_ok-push_led.ensures.grows in
    record {
      same =
          passed-over b sign f ls e cs rest (i + 1) c.next-index-in-loop-index.result q (omega (arith, next.from)) below
          (λ k low high.
          all-out Out b.domains place.keys.now place.key place.steps.now bounds these others e
          c.first_variable.ensures.parts c.first_variable.ensures.one c.requires.led k (omega (arith, high, below))
          c.requires.order (next.moved (omega (arith, low, high))) (next.passed k low high))
          ∙ (fold_next (after_front F rest) cs i p q within
          (made ∙ inner_fold G rest e inner (get_or cs i []) p is)
          ∙ c.loop-index.invariant.same);
      within_all = next.within;
      vars = omega (arith, c.loop-index.invariant.vars, more);
      lits = c.in_ok-push_led.ensures.lits ∙ c.loop-index.invariant.lits;
      within =
          subst (AreLitsOf q.vars) (sym c.in_ok-push_led.ensures.lits)
          (lits-more p.vars q.vars more c.loop-index.lits.items c.loop-index.invariant.within);
    }

pub push_led-returns-clause-made : goal.push_led-returns-clause-made
push_led-returns-clause-made t c =
    let b = c.args.scope.base.now in
    let sign = c.args.sign in
    let e = env_view c.args.scope.env.now in
    let f = formula_view c.args.binder.formula.now in
    let ls = c.args.lits.now.items in
    let these = c.first_variable.result.0.bounds.now in
    let others = c.first_variable.result.1.now in
    let cs = choices b.domains these in
    let rest = choices b.domains others in
    let i = c.loop-index.index in
    let count : c.first_variable.result.0.count ≡ length cs = rw c.domains.ensures at c.first_variable.ensures.count in
    let past : length cs ≤ i = rw (← count) c.loop-index-test.false in
    let F = λ (q : ProblemState) (a : List Elem). assert_step b sign f ls q (e ++ a) in
    sym
    (fold_by_front b.domains c.args.binder.bounds.now these others c.first_variable.ensures.parts F c.args.problem.now
    ∙ sym c.loop-index.invariant.same ∙ fold_done (after_front F rest) cs i c.loop-index.problem past)
