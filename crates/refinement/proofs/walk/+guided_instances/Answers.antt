use Rattle.std.proofs.Common.{◌≡◌, ◌<◌, ◌≤◌, ◌+◌, [], ◌++◌, map, drop, length, length-append, get_or, sym, subst, ap}
use Rattle.std.proofs.Common.{◌∙◌, ◌||◌, ◌-◌, ◌*◌, ◌^◌, arith, false}
use Rattle.std.proofs.lemmas.List.{at_drop_more}
use Rattle.kb_logic.specs.Structures.{choices}
use Rattle.kb_logic.specs.Views.{formula_view}
use Rattle.plain_evaluation.specs.Environments.{env_view}
use Rattle.plain_evaluation.proofs.Folds.{by_front, each_after}
use Rattle.row_ranges.specs.Leads.{Leads, first_step}
use Rattle.row_ranges.proofs.Walking.{all-out, fits-all, fits-one, led-below, order-below}
use Rattle.refinement.specs.Following.{IsPart, IsSettled, ObeysSentences}
use Rattle.refinement.proofs.Follows.{SoFar, begun, turn}
use Rattle.refinement.proofs.Guided.{leads_later, passed_over, so_far_by}
use Rattle.refinement.proofs.Parts.{Instances, Blocks, blocks_all, blocks_join}
use Rattle.refinement.proofs.walk.+guided_instances.Goals as goal

pub loop-index-init : goal.loop-index-init
loop-index-init t c =
    let d = c.args.course.setting.domains.now in
    let f = formula_view c.args.guided.formula.now in
    let e = env_view c.args.env.now in
    let k = c.args.known.now in
    let W = ObeysSentences (map formula_view c.args.course.sentences.now) in
    let Out = IsSettled k f in
    let these = c.first_variable.result.0.bounds.now in
    let others = c.first_variable.result.1.now in
    let bounds = c.args.bounds.now in
    let place = c.args.guided.place in
    let cs = choices d these in
    let rest = choices d others in
    let next = c.next-index.ensures in
    let below : c.next-index.result ≤ length cs = subst (λ m. c.next-index.result ≤ m) c.first_variable.ensures.count
    next.within in
    record {
      symbols = c.requires.symbols;
      domains = c.requires.domains;
      led = c.requires.led;
      within = next.within;
      so_far = begun W k (Instances f e (choices d bounds)) (Blocks f e rest (drop c.next-index.result cs))
          (λ h. blocks_all f e false (choices d bounds) rest cs k
          (by_front d bounds these others c.first_variable.ensures.parts)
          (passed_over f e rest cs k c.consistency.ensures.consistent c.consistency.ensures.listed 0
          c.next-index.result (omega arith) below
          (λ m low high.
          all-out Out d place.keys.now place.key place.steps.now bounds these others e
          c.first_variable.ensures.parts c.first_variable.ensures.one c.requires.led m (omega (arith, high, below))
          c.requires.order (next.moved (omega (arith, low, high))) (next.passed m low high)) h));
    }

pub guided_instances-requires : goal.guided_instances-requires
guided_instances-requires t c =
    let s = c.args.course.setting.symbols.now in
    let d = c.args.course.setting.domains.now in
    let fs = map formula_view c.args.course.sentences.now in
    let f = formula_view c.args.guided.formula.now in
    let e = env_view c.args.env.now in
    let Out = IsSettled c.loop-index.known f in
    let these = c.first_variable.result.0.bounds.now in
    let others = c.first_variable.result.1.now in
    let bounds = c.args.bounds.now in
    let place = c.args.guided.place in
    let cs = choices d these in
    let i = c.loop-index.index in
    let parts = c.first_variable.ensures.parts in
    let one = c.first_variable.ensures.one in
    let inner = env_view c.extend-inner.result in
    let within : i < length cs = subst (λ m. i < m) c.first_variable.ensures.count c.loop-index-test.true in
    let is : inner ≡ e ++ get_or cs i [] =
    c.extend-inner.ensures ∙ ap (λ x. e ++ get_or (choices x these) i []) c.first_variable.ensures.domains in
    let fewer : length bounds ≡ length these + length others = ap length parts ∙ length-append these others in (
      omega (arith, fewer, one),
      (
        c.loop-index.invariant.symbols,
        (
          c.loop-index.invariant.domains,
          (
            c.requires.fits,
            (
              each_after d bounds these others parts (IsPart s d fs f) e inner i within is c.requires.parts,
              (
                rw (c.below-place.ensures.keys, c.below-place.ensures.key, c.below-place.ensures.steps)
                    (led-below Out d place.keys.now place.key place.steps.now bounds these others e parts one
                    c.loop-index.invariant.led i inner within is),
                rw (c.below-place.ensures.keys, c.below-place.ensures.key, c.below-place.ensures.steps)
                    (order-below Out d place.keys.now place.key place.steps.now bounds these others e parts one
                    c.loop-index.invariant.led i within c.requires.order),
              ),
            ),
          ),
        ),
      ),
    )

pub next-index-requires-clause-fits : goal.next-index-requires-clause-fits
next-index-requires-clause-fits t c =
    let place = c.args.guided.place in
    subst (λ m. place.key + (m - 1) * first_step place.steps.now < 2 ^ 64) (sym c.first_variable.ensures.count)
    (fits-all (IsSettled c.args.known.now (formula_view c.args.guided.formula.now)) c.args.course.setting.domains.now
    place.keys.now place.key place.steps.now c.args.bounds.now c.first_variable.result.0.bounds.now
    c.first_variable.result.1.now (env_view c.args.env.now) c.first_variable.ensures.parts c.first_variable.ensures.one
    c.requires.led c.requires.order)

pub next-index-requires-in-loop-index-clause-fits : goal.next-index-requires-in-loop-index-clause-fits
next-index-requires-in-loop-index-clause-fits t c =
    let place = c.args.guided.place in
    subst (λ m. place.key + (m - 1) * first_step place.steps.now < 2 ^ 64) (sym c.first_variable.ensures.count)
    (fits-all (IsSettled c.args.known.now (formula_view c.args.guided.formula.now)) c.args.course.setting.domains.now
    place.keys.now place.key place.steps.now c.args.bounds.now c.first_variable.result.0.bounds.now
    c.first_variable.result.1.now (env_view c.args.env.now) c.first_variable.ensures.parts c.first_variable.ensures.one
    c.requires.led c.requires.order)

pub below-place-requires : goal.below-place-requires
below-place-requires t c =
    let place = c.args.guided.place in
    let i = c.loop-index.index in
    let these = c.first_variable.result.0.bounds.now in
    let d = c.args.course.setting.domains.now in
    record {
      fits = fits-one (IsSettled c.args.known.now (formula_view c.args.guided.formula.now)) d
          place.keys.now place.key place.steps.now c.args.bounds.now these
          c.first_variable.result.1.now (env_view c.args.env.now) c.first_variable.ensures.parts
          c.first_variable.ensures.one c.requires.led i
          (subst (λ m. i < m) c.first_variable.ensures.count c.loop-index-test.true) c.requires.order;
    }

pub loop-index-preserved : goal.loop-index-preserved
loop-index-preserved t c =
    let d = c.args.course.setting.domains.now in
    let f = formula_view c.args.guided.formula.now in
    let e = env_view c.args.env.now in
    let first = c.args.known.now in
    let now = c.loop-index.known in
    let then' = c.guided_instances.new.known in
    let W = ObeysSentences (map formula_view c.args.course.sentences.now) in
    let Out = IsSettled then' f in
    let these = c.first_variable.result.0.bounds.now in
    let others = c.first_variable.result.1.now in
    let bounds = c.args.bounds.now in
    let place = c.args.guided.place in
    let cs = choices d these in
    let rest = choices d others in
    let i = c.loop-index.index in
    let next = c.next-index-in-loop-index.ensures in
    let j = c.next-index-in-loop-index.result in
    let below : j ≤ length cs = subst (λ m. j ≤ m) c.first_variable.ensures.count next.within in
    let inner = env_view c.extend-inner.result in
    let within : i < length cs = subst (λ m. i < m) c.first_variable.ensures.count c.loop-index-test.true in
    let is : inner ≡ e ++ get_or cs i [] =
    c.extend-inner.ensures ∙ ap (λ x. e ++ get_or (choices x these) i []) c.first_variable.ensures.domains in
    let step = c.in_ok-more.ensures in
    let later : Leads Out d place.keys.now place.key place.steps.now bounds e =
    leads_later f d place.keys.now place.key place.steps.now bounds e now then' step.more c.loop-index.invariant.led in
    let Whole = Instances f e (choices d bounds) in
    let turned : SoFar W first then' (c.loop-index.changed || c.in_ok-more.more) Whole
    (Blocks f e rest (drop (i + 1) cs)) =
    turn W first now c.loop-index.changed Whole (Blocks f e rest (drop i cs)) c.loop-index.invariant.so_far then'
    c.in_ok-more.more (Instances f inner rest) (Blocks f e rest (drop (i + 1) cs))
    (blocks_join f e rest (drop i cs) (drop (i + 1) cs) (get_or cs i []) inner then'
    (at_drop_more (λ us. us) cs i [] within) is) step in
    record {
      symbols = c.loop-index.invariant.symbols ∙ sym step.more.symbols;
      domains = c.loop-index.invariant.domains ∙ sym step.more.domains;
      led = later;
      within = next.within;
      so_far = subst (λ b. SoFar W first then' b Whole (Blocks f e rest (drop j cs))) (sym c.either-changed.ensures)
          (so_far_by W first then' (c.loop-index.changed || c.in_ok-more.more) Whole
          (Blocks f e rest (drop (i + 1) cs)) (Blocks f e rest (drop j cs))
          (passed_over f e rest cs then' c.consistency-in-loop-index.ensures.consistent
          c.consistency-in-loop-index.ensures.listed (i + 1) j (omega (arith, next.from)) below
          (λ m low high.
          all-out Out d place.keys.now place.key place.steps.now bounds these others e
          c.first_variable.ensures.parts c.first_variable.ensures.one later m (omega (arith, high, below))
          c.requires.order (next.moved (omega (arith, low, high))) (next.passed m low high))) turned);
    }
