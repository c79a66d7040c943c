use Rattle.std.proofs.Common.{◌≡◌, ◌<◌, [], ◌++◌, map, length, get_or, ap, ◌∙◌, arith}
use Rattle.kb_logic.specs.Structures.{choices}
use Rattle.kb_logic.specs.Views.{formula_view}
use Rattle.plain_evaluation.specs.Environments.{env_view}
use Rattle.plain_evaluation.proofs.Folds.{each_after}
use Rattle.refinement.specs.Following.{IsPart}
use Rattle.refinement.proofs.following.+led.Goals as goal

pub led-requires : goal.led-requires
led-requires t c =
    let s = c.args.course.setting.symbols.now in
    let d = c.args.course.setting.domains.now in
    let fs = map formula_view c.args.course.sentences.now in
    let e = env_view c.args.env.now in
    let these = c.front.result.0.bounds.now in
    let others = c.front.result.1.now in
    let all = choices d these in
    let i = c.loop-number.number in
    let inner = env_view c.extend.result in
    let within : i < length all =
    omega (arith, c.loop-number-test.true, c.end_of-number-end.ensures, c.front.ensures.count) in
    let is : inner ≡ e ++ get_or all i [] =
    c.extend.ensures ∙ ap (λ x. e ++ get_or (choices x these) i []) c.front.ensures.domains in (
      omega (arith, c.front.ensures.fewer),
      (
        c.loop-number.invariant.symbols,
        (
          c.loop-number.invariant.domains,
          each_after d c.args.bounds.now these others c.front.ensures.parts
              (IsPart s d fs (formula_view c.args.way.inner.now)) e inner i within is c.requires.parts,
        ),
      ),
    )
