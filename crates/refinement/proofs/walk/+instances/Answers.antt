use Rattle.std.proofs.Common.{◌≡◌, ◌<◌, ◌+◌, [], ◌++◌, map, drop, length, get_or, sym, subst, ap, ◌∙◌, arith}
use Rattle.std.proofs.lemmas.List.{at_drop_more}
use Rattle.kb_logic.specs.Structures.{choices}
use Rattle.kb_logic.specs.Views.{formula_view}
use Rattle.plain_evaluation.specs.Environments.{env_view}
use Rattle.plain_evaluation.proofs.Folds.{by_front, each_after}
use Rattle.quantifier_bounds.specs.Walks.{IsNth}
use Rattle.quantifier_bounds.proofs.Orders.{ordered, ordered_length, nth_is}
use Rattle.refinement.specs.Following.{IsPart, ObeysSentences}
use Rattle.refinement.proofs.Follows.{SoFar, begun, turn}
use Rattle.refinement.proofs.Parts.{Instances, Blocks, blocks_all, blocks_join}
use Rattle.refinement.proofs.walk.+instances.Goals as goal

pub loop-turn-init : goal.loop-turn-init
loop-turn-init t c =
    let d = c.args.course.setting.domains.now in
    let f = formula_view c.args.formula.now in
    let e = env_view c.args.env.now in
    let k = c.args.known.now in
    let these = c.split_in.result.0.bounds.now in
    let others = c.split_in.result.1.now in
    let falling = c.args.course.setting.falling in
    let all = choices d c.args.bounds.now in
    record {
      symbols = c.requires.symbols;
      domains = c.requires.domains;
      so_far = begun (ObeysSentences (map formula_view c.args.course.sentences.now)) k (Instances f e all)
          (Blocks f e (choices d others) (ordered falling (choices d these)))
          (blocks_all f e falling all (choices d others) (choices d these) k
          (by_front d c.args.bounds.now these others c.split_in.ensures.parts));
    }

pub instances-requires : goal.instances-requires
instances-requires t c =
    let s = c.args.course.setting.symbols.now in
    let d = c.args.course.setting.domains.now in
    let fs = map formula_view c.args.course.sentences.now in
    let e = env_view c.args.env.now in
    let these = c.split_in.result.0.bounds.now in
    let others = c.split_in.result.1.now in
    let all = choices d these in
    let n = c.nth.result in
    let inner = env_view c.extend-inner.result in
    let within : n < length all = subst (λ m. n < m) c.split_in.ensures.count c.nth.ensures.within in
    let is : inner ≡ e ++ get_or all n [] =
    subst (λ x. inner ≡ e ++ get_or (choices x these) n []) c.split_in.ensures.domains c.extend-inner.ensures in (
      omega (arith, c.split_in.ensures.fewer),
      (
        c.loop-turn.invariant.symbols,
        (
          c.loop-turn.invariant.domains,
          (
            c.requires.fits,
            each_after d c.args.bounds.now these others c.split_in.ensures.parts
                (IsPart s d fs (formula_view c.args.formula.now)) e inner n within is c.requires.parts,
          ),
        ),
      ),
    )

pub loop-turn-preserved : goal.loop-turn-preserved
loop-turn-preserved t c =
    let d = c.args.course.setting.domains.now in
    let f = formula_view c.args.formula.now in
    let e = env_view c.args.env.now in
    let W = ObeysSentences (map formula_view c.args.course.sentences.now) in
    let first = c.args.known.now in
    let now = c.loop-turn.known in
    let then' = c.instances.new.known in
    let these = c.split_in.result.0.bounds.now in
    let others = choices d c.split_in.result.1.now in
    let bounds = choices d c.args.bounds.now in
    let all = choices d these in
    let falling = c.args.course.setting.falling in
    let list = ordered falling all in
    let i = c.loop-turn.turn in
    let n = c.nth.result in
    let inner = env_view c.extend-inner.result in
    let within : i < length all = subst (λ m. i < m) c.split_in.ensures.count c.loop-turn-test.true in
    let long : i < length list = subst (λ m. i < m) (sym (ordered_length falling all)) within in
    let is : inner ≡ e ++ get_or list i [] =
    c.extend-inner.ensures ∙ ap (λ x. e ++ get_or (choices x these) n []) c.split_in.ensures.domains
    ∙ ap (λ a. e ++ a) (sym (nth_is falling all i n [] within
    (subst (λ m. IsNth falling i m n) c.split_in.ensures.count c.nth.ensures.nth))) in
    let step = c.in_ok-more.ensures in
    record {
      symbols = c.loop-turn.invariant.symbols ∙ sym step.more.symbols;
      domains = c.loop-turn.invariant.domains ∙ sym step.more.domains;
      so_far = subst (λ b. SoFar W first then' b (Instances f e bounds) (Blocks f e others (drop (i + 1) list)))
          (sym c.either-changed.ensures)
          (turn W first now c.loop-turn.changed (Instances f e bounds) (Blocks f e others (drop i list))
          c.loop-turn.invariant.so_far then' c.in_ok-more.more (Instances f inner others)
          (Blocks f e others (drop (i + 1) list))
          (blocks_join f e others (drop i list) (drop (i + 1) list) (get_or list i []) inner then'
          (at_drop_more (λ us. us) list i [] long) is) step);
    }
