use Rattle.std.proofs.Common.{◌≡◌, ◌<◌, ◌≤◌, ◌+◌, ◌*◌, ◌-◌, ◌^◌, ℕ, true, false, List, [], ◌++◌, drop, length, get_or}
use Rattle.std.proofs.Common.{sym, ap, ◌∙◌, arith, subst, length-append}
use Rattle.kb_logic.specs.declared.elements.Elem.{Elem}
use Rattle.kb_logic.specs.Structures.{choices}
use Rattle.kb_logic.specs.Views.{formula_view}
use Rattle.plain_evaluation.specs.Environments.{env_view}
use Rattle.plain_evaluation.proofs.Folds.{after_front, fold_by_front, each_after, inner_fold, fold_next, fold_done}
use Rattle.plain_evaluation.proofs.Folds.{fold_stays}
use Rattle.partial_structures.specs.declared.truths.Truth.{Truth}
use Rattle.certain_truth.specs.Certainty.{certain_truth}
use Rattle.certain_truth.specs.Evaluation.{joined}
use Rattle.certain_truth.specs.KnownArithmetic.{CertaintyFits}
use Rattle.row_ranges.specs.Leads.{first_step}
use Rattle.row_ranges.proofs.Walking.{all-out, fits-all, fits-one, led-below, order-below}
use Rattle.known_guards.specs.Guards.{IsRuledOut}
use Rattle.stage_definitions.specs.SizesStage.{capped}
use Rattle.open_sizes.specs.OpenWeights.{open_occurrences}
use Rattle.open_sizes.specs.Weighings.{is_all, is_over}
use Rattle.open_sizes.proofs.Passed.{passed_over}
use Rattle.open_sizes.proofs.Weighing.{over_stays, passed_open, passed_truth}
use Rattle.open_sizes.proofs.outermost.+led.Goals as goal

pub next-index-requires-clause-fits : goal.next-index-requires-clause-fits
next-index-requires-clause-fits t c =
    let v = c.args.setting.vocabulary.now in
    let k = c.args.setting.known.now in
    let e = env_view c.args.env.now in
    let f = formula_view c.args.whole.of.now in
    let all' = is_all c.args.whole.joining in
    let Out = IsRuledOut k all' f in
    let these = c.first_variable.result.0.bounds.now in
    let others = c.first_variable.result.1.now in
    let bounds = c.args.bounds.now in
    let place = c.args.place in
    let cs = choices k.domains these in
    let rest = choices k.domains others in
    let parts = c.first_variable.ensures.parts in
    let one = c.first_variable.ensures.one in
    let slice : c.as_slice.result.now ≡ k.domains = c.as_slice.ensures ∙ c.domains.ensures.domains in
    let count : c.first_variable.result.0.count ≡ length cs =
    c.first_variable.ensures.count ∙ ap (λ d. length (choices d these)) slice in
    let fits = fits-all Out k.domains place.keys.now place.key place.steps.now bounds these others e parts one
    c.requires.led c.requires.order in
    subst (λ n. place.key + (n - 1) * first_step place.steps.now < 2 ^ 64) (sym count) fits

pub next-index-requires-in-loop-index-clause-fits : goal.next-index-requires-in-loop-index-clause-fits
next-index-requires-in-loop-index-clause-fits t c =
    let v = c.args.setting.vocabulary.now in
    let k = c.args.setting.known.now in
    let e = env_view c.args.env.now in
    let f = formula_view c.args.whole.of.now in
    let all' = is_all c.args.whole.joining in
    let Out = IsRuledOut k all' f in
    let these = c.first_variable.result.0.bounds.now in
    let others = c.first_variable.result.1.now in
    let bounds = c.args.bounds.now in
    let place = c.args.place in
    let cs = choices k.domains these in
    let rest = choices k.domains others in
    let parts = c.first_variable.ensures.parts in
    let one = c.first_variable.ensures.one in
    let slice : c.as_slice.result.now ≡ k.domains = c.as_slice.ensures ∙ c.domains.ensures.domains in
    let count : c.first_variable.result.0.count ≡ length cs =
    c.first_variable.ensures.count ∙ ap (λ d. length (choices d these)) slice in
    let fits = fits-all Out k.domains place.keys.now place.key place.steps.now bounds these others e parts one
    c.requires.led c.requires.order in
    subst (λ n. place.key + (n - 1) * first_step place.steps.now < 2 ^ 64) (sym count) fits

pub below-requires : goal.below-requires
below-requires t c =
    let v = c.args.setting.vocabulary.now in
    let k = c.args.setting.known.now in
    let e = env_view c.args.env.now in
    let f = formula_view c.args.whole.of.now in
    let all' = is_all c.args.whole.joining in
    let Out = IsRuledOut k all' f in
    let these = c.first_variable.result.0.bounds.now in
    let others = c.first_variable.result.1.now in
    let bounds = c.args.bounds.now in
    let place = c.args.place in
    let cs = choices k.domains these in
    let rest = choices k.domains others in
    let parts = c.first_variable.ensures.parts in
    let one = c.first_variable.ensures.one in
    let slice : c.as_slice.result.now ≡ k.domains = c.as_slice.ensures ∙ c.domains.ensures.domains in
    let count : c.first_variable.result.0.count ≡ length cs =
    c.first_variable.ensures.count ∙ ap (λ d. length (choices d these)) slice in
    record {
      fits = fits-one Out k.domains place.keys.now place.key place.steps.now bounds these others e parts one
          c.requires.led c.loop-index.index (subst (λ n. c.loop-index.index < n) count c.loop-index-test.true)
          c.requires.order;
    }

pub led-so_far-requires : goal.led-so_far-requires
led-so_far-requires t c =
    let v = c.args.setting.vocabulary.now in
    let k = c.args.setting.known.now in
    let e = env_view c.args.env.now in
    let f = formula_view c.args.whole.of.now in
    let all' = is_all c.args.whole.joining in
    let Out = IsRuledOut k all' f in
    let these = c.first_variable.result.0.bounds.now in
    let others = c.first_variable.result.1.now in
    let bounds = c.args.bounds.now in
    let place = c.args.place in
    let cs = choices k.domains these in
    let rest = choices k.domains others in
    let parts = c.first_variable.ensures.parts in
    let one = c.first_variable.ensures.one in
    let slice : c.as_slice.result.now ≡ k.domains = c.as_slice.ensures ∙ c.domains.ensures.domains in
    let count : c.first_variable.result.0.count ≡ length cs =
    c.first_variable.ensures.count ∙ ap (λ d. length (choices d these)) slice in
    let i = c.loop-index.index in
    let inner = env_view c.extend-inner.result in
    let within : i < length cs = subst (λ n. i < n) count c.loop-index-test.true in
    let is : inner ≡ e ++ get_or cs i [] =
    c.extend-inner.ensures ∙ ap (λ d. e ++ get_or (choices d these) i []) (c.first_variable.ensures.domains ∙ slice) in
    let fewer : length bounds ≡ length these + length others = ap length parts ∙ length-append these others in (
      omega (arith, fewer, one),
      (
        each_after k.domains bounds these others parts (CertaintyFits k f) e inner i within is c.requires.fits,
        (
          rw (c.below.ensures.keys, c.below.ensures.key, c.below.ensures.steps)
              (led-below Out k.domains place.keys.now place.key place.steps.now bounds these others e parts one
              c.requires.led i inner within is),
          (
            rw (c.below.ensures.keys, c.below.ensures.key, c.below.ensures.steps)
                (order-below Out k.domains place.keys.now place.key place.steps.now bounds these others e parts one
                c.requires.led i within c.requires.order),
            c.loop-index.invariant.small,
          ),
        ),
      ),
    )

pub loop-index-init : goal.loop-index-init
loop-index-init t c =
    let v = c.args.setting.vocabulary.now in
    let k = c.args.setting.known.now in
    let e = env_view c.args.env.now in
    let f = formula_view c.args.whole.of.now in
    let all' = is_all c.args.whole.joining in
    let Out = IsRuledOut k all' f in
    let these = c.first_variable.result.0.bounds.now in
    let others = c.first_variable.result.1.now in
    let bounds = c.args.bounds.now in
    let place = c.args.place in
    let cs = choices k.domains these in
    let rest = choices k.domains others in
    let parts = c.first_variable.ensures.parts in
    let one = c.first_variable.ensures.one in
    let slice : c.as_slice.result.now ≡ k.domains = c.as_slice.ensures ∙ c.domains.ensures.domains in
    let count : c.first_variable.result.0.count ≡ length cs =
    c.first_variable.ensures.count ∙ ap (λ d. length (choices d these)) slice in
    let next = c.next-index.ensures in
    let j = c.next-index.result in
    let below : j ≤ length cs = subst (λ n. j ≤ n) count next.within in
    let G = λ (s : Truth) (a : List Elem). joined (all') s (certain_truth k f a) in
    let F = λ (s : Truth) (a : List Elem). G s (e ++ a) in
    let M = λ (n : ℕ) (a : List Elem). capped (n + open_occurrences v k f a) in
    let N = λ (n : ℕ) (a : List Elem). M n (e ++ a) in
    let u = c.args.before in
    record {
      truth =
          passed_over G Out u.truth (λ a out. passed_truth v k f a all' u.truth out) e cs rest 0 j (omega arith) below
          (λ j from to.
          all-out Out k.domains place.keys.now place.key place.steps.now bounds these others e parts one
          c.requires.led j (omega (arith, to, below)) c.requires.order (next.moved (omega (arith, from, to)))
          (next.passed j from to));
      count = λ goes.
          passed_over M Out u.count (λ a out. passed_open v k f a all' u.count c.requires.small out) e cs rest 0 j (omega arith) below
          (λ j from to.
          all-out Out k.domains place.keys.now place.key place.steps.now bounds these others e parts one
          c.requires.led j (omega (arith, to, below)) c.requires.order (next.moved (omega (arith, from, to)))
          (next.passed j from to));
      within_all = next.within;
      small = c.requires.small;
    }

pub returns-then-is_over-clause-truth : goal.returns-then-is_over-clause-truth
returns-then-is_over-clause-truth t c =
    let v = c.args.setting.vocabulary.now in
    let k = c.args.setting.known.now in
    let e = env_view c.args.env.now in
    let f = formula_view c.args.whole.of.now in
    let all' = is_all c.args.whole.joining in
    let Out = IsRuledOut k all' f in
    let these = c.first_variable.result.0.bounds.now in
    let others = c.first_variable.result.1.now in
    let bounds = c.args.bounds.now in
    let place = c.args.place in
    let cs = choices k.domains these in
    let rest = choices k.domains others in
    let parts = c.first_variable.ensures.parts in
    let one = c.first_variable.ensures.one in
    let slice : c.as_slice.result.now ≡ k.domains = c.as_slice.ensures ∙ c.domains.ensures.domains in
    let count : c.first_variable.result.0.count ≡ length cs =
    c.first_variable.ensures.count ∙ ap (λ d. length (choices d these)) slice in
    let G = λ (s : Truth) (a : List Elem). joined (all') s (certain_truth k f a) in
    let F = λ (s : Truth) (a : List Elem). G s (e ++ a) in
    let i = c.loop-index.index in
    let u = c.loop-index.so_far.truth in
    let over : is_over c.args.whole.joining u ≡ true = sym c.is_over.ensures ∙ c.if-is_over.true in
    sym (fold_by_front k.domains bounds these others parts F c.args.before.truth
    ∙ (sym c.loop-index.invariant.truth
    ∙ fold_stays (after_front F rest) (drop i cs) u
    (λ a. fold_stays (λ s b. F s (a ++ b)) rest u
    (λ b. over_stays c.args.whole.joining u (certain_truth k f (e ++ (a ++ b))) over))))

pub loop-index-preserved : goal.loop-index-preserved
loop-index-preserved t c =
    let v = c.args.setting.vocabulary.now in
    let k = c.args.setting.known.now in
    let e = env_view c.args.env.now in
    let f = formula_view c.args.whole.of.now in
    let all' = is_all c.args.whole.joining in
    let Out = IsRuledOut k all' f in
    let these = c.first_variable.result.0.bounds.now in
    let others = c.first_variable.result.1.now in
    let bounds = c.args.bounds.now in
    let place = c.args.place in
    let cs = choices k.domains these in
    let rest = choices k.domains others in
    let parts = c.first_variable.ensures.parts in
    let one = c.first_variable.ensures.one in
    let slice : c.as_slice.result.now ≡ k.domains = c.as_slice.ensures ∙ c.domains.ensures.domains in
    let count : c.first_variable.result.0.count ≡ length cs =
    c.first_variable.ensures.count ∙ ap (λ d. length (choices d these)) slice in
    let i = c.loop-index.index in
    let inner = env_view c.extend-inner.result in
    let within : i < length cs = subst (λ n. i < n) count c.loop-index-test.true in
    let is : inner ≡ e ++ get_or cs i [] =
    c.extend-inner.ensures ∙ ap (λ d. e ++ get_or (choices d these) i []) (c.first_variable.ensures.domains ∙ slice) in
    let next = c.next-index-in-loop-index.ensures in
    let j = c.next-index-in-loop-index.result in
    let below : j ≤ length cs = subst (λ n. j ≤ n) count next.within in
    let G = λ (s : Truth) (a : List Elem). joined (all') s (certain_truth k f a) in
    let F = λ (s : Truth) (a : List Elem). G s (e ++ a) in
    let M = λ (n : ℕ) (a : List Elem). capped (n + open_occurrences v k f a) in
    let N = λ (n : ℕ) (a : List Elem). M n (e ++ a) in
    let before = c.loop-index.so_far in
    let after = c.led-so_far.result in
    let on : is_over c.args.whole.joining before.truth ≡ false = sym c.is_over.ensures ∙ c.if-is_over.false in
    record {
      truth =
          passed_over G Out after.truth (λ a out. passed_truth v k f a all' after.truth out) e cs rest (i + 1) j (omega (arith, next.from)) below
          (λ j from to.
          all-out Out k.domains place.keys.now place.key place.steps.now bounds these others e parts one
          c.requires.led j (omega (arith, to, below)) c.requires.order (next.moved (omega (arith, from, to)))
          (next.passed j from to))
          ∙ (fold_next (after_front F rest) cs i before.truth after.truth within
          (c.led-so_far.ensures.truth ∙ inner_fold G rest e inner (get_or cs i []) before.truth is)
          ∙ c.loop-index.invariant.truth);
      count = λ goes.
          passed_over M Out after.count (λ a out. passed_open v k f a all' after.count c.led-so_far.ensures.small out) e cs rest (i + 1) j (omega (arith, next.from)) below
          (λ j from to.
          all-out Out k.domains place.keys.now place.key place.steps.now bounds these others e parts one
          c.requires.led j (omega (arith, to, below)) c.requires.order (next.moved (omega (arith, from, to)))
          (next.passed j from to))
          ∙ (fold_next (after_front N rest) cs i before.count after.count within
          (c.led-so_far.ensures.count goes ∙ inner_fold M rest e inner (get_or cs i []) before.count is)
          ∙ c.loop-index.invariant.count on);
      within_all = next.within;
      small = c.led-so_far.ensures.small;
    }

pub returns-clause-truth : goal.returns-clause-truth
returns-clause-truth t c =
    let v = c.args.setting.vocabulary.now in
    let k = c.args.setting.known.now in
    let e = env_view c.args.env.now in
    let f = formula_view c.args.whole.of.now in
    let all' = is_all c.args.whole.joining in
    let Out = IsRuledOut k all' f in
    let these = c.first_variable.result.0.bounds.now in
    let others = c.first_variable.result.1.now in
    let bounds = c.args.bounds.now in
    let place = c.args.place in
    let cs = choices k.domains these in
    let rest = choices k.domains others in
    let parts = c.first_variable.ensures.parts in
    let one = c.first_variable.ensures.one in
    let slice : c.as_slice.result.now ≡ k.domains = c.as_slice.ensures ∙ c.domains.ensures.domains in
    let count : c.first_variable.result.0.count ≡ length cs =
    c.first_variable.ensures.count ∙ ap (λ d. length (choices d these)) slice in
    let G = λ (s : Truth) (a : List Elem). joined (all') s (certain_truth k f a) in
    let F = λ (s : Truth) (a : List Elem). G s (e ++ a) in
    let i = c.loop-index.index in
    let past : length cs ≤ i = subst (λ n. n ≤ i) count c.loop-index-test.false in
    sym (fold_by_front k.domains bounds these others parts F c.args.before.truth
    ∙ (sym c.loop-index.invariant.truth ∙ fold_done (after_front F rest) cs i c.loop-index.so_far.truth past))

pub returns-clause-count : goal.returns-clause-count
returns-clause-count t c =
    let v = c.args.setting.vocabulary.now in
    let k = c.args.setting.known.now in
    let e = env_view c.args.env.now in
    let f = formula_view c.args.whole.of.now in
    let all' = is_all c.args.whole.joining in
    let Out = IsRuledOut k all' f in
    let these = c.first_variable.result.0.bounds.now in
    let others = c.first_variable.result.1.now in
    let bounds = c.args.bounds.now in
    let place = c.args.place in
    let cs = choices k.domains these in
    let rest = choices k.domains others in
    let parts = c.first_variable.ensures.parts in
    let one = c.first_variable.ensures.one in
    let slice : c.as_slice.result.now ≡ k.domains = c.as_slice.ensures ∙ c.domains.ensures.domains in
    let count : c.first_variable.result.0.count ≡ length cs =
    c.first_variable.ensures.count ∙ ap (λ d. length (choices d these)) slice in
    let M = λ (n : ℕ) (a : List Elem). capped (n + open_occurrences v k f a) in
    let N = λ (n : ℕ) (a : List Elem). M n (e ++ a) in
    let i = c.loop-index.index in
    let past : length cs ≤ i = subst (λ n. n ≤ i) count c.loop-index-test.false in
    λ goes. sym (fold_by_front k.domains bounds these others parts N c.args.before.count
    ∙ (sym (c.loop-index.invariant.count goes) ∙ fold_done (after_front N rest) cs i c.loop-index.so_far.count past))
