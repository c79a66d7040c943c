use Rattle.std.proofs.Common.{◌≡◌, ◌≤◌, ◌<◌, ◌++◌, [], List, length, fold, get_or, sym, subst, ◌∙◌, arith}
use Rattle.kb_logic.specs.declared.elements.Elem.{Elem}
use Rattle.kb_logic.specs.Structures.{choices}
use Rattle.kb_logic.specs.Views.{formula_view, rule_view}
use Rattle.plain_evaluation.specs.Environments.{env_view}
use Rattle.plain_evaluation.proofs.Folds.{after_front, each_after, fold_by_front, fold_done, fold_next, inner_fold}
use Rattle.ground_walk.specs.Groundable.{IsGroundable}
use Rattle.def_ground.specs.Definitions.{Instances, instance_step}
use Rattle.definition_walk.specs.Steps.{Stands}
use Rattle.definition_walk.proofs.Grown.{grow-on, lists-stay}
use Rattle.definition_walk.proofs.instances.+push_instances.Goals as goal

pub push_instances-requires : goal.push_instances-requires
push_instances-requires t c =
    let b = c.args.walk.now.base.now in
    let e = env_view c.args.env.now in
    let f = formula_view c.args.walk.now.rule.now.body in
    let these = c.split_in.result.0.bounds.now in
    let others = c.split_in.result.1.now in
    let cs = choices b.domains these in
    let i = c.loop-number.number in
    let count : c.split_in.result.0.count ≡ length cs = rw c.domains.ensures at c.split_in.ensures.count in
    let inner = env_view c.extend-inner.result in
    let within : i < length cs = rw (← count) c.loop-number-test.true in
    let is : inner ≡ e ++ get_or cs i [] = rw (c.split_in.ensures.domains, c.domains.ensures)
    at c.extend-inner.ensures in
    let vars = c.loop-number.invariant.grows.vars in (
      omega (arith, c.split_in.ensures.fewer),
      (
        c.requires.given,
        (
          c.requires.known,
          (
            omega (arith, c.requires.room, vars),
            (
              c.requires.head,
              (
                each_after b.domains c.args.bounds.now these others c.split_in.ensures.parts
                    (IsGroundable b f) e inner i within is c.requires.fits,
                lists-stay b c.args.walk.now.rule.now.symbol c.args.bodies.now c.loop-number.bodies
                    c.args.problem.now c.loop-number.problem c.loop-number.invariant.grows c.requires.lists,
              ),
            ),
          ),
        ),
      ),
    )

pub loop-number-preserved : goal.loop-number-preserved
loop-number-preserved t c =
    let b = c.args.walk.now.base.now in
    let e = env_view c.args.env.now in
    let r = rule_view c.args.walk.now.rule.now in
    let these = c.split_in.result.0.bounds.now in
    let others = c.split_in.result.1.now in
    let cs = choices b.domains these in
    let rest = choices b.domains others in
    let i = c.loop-number.number in
    let count : c.split_in.result.0.count ≡ length cs = rw c.domains.ensures at c.split_in.ensures.count in
    let inner = env_view c.extend-inner.result in
    let within : i < length cs = rw (← count) c.loop-number-test.true in
    let is : inner ≡ e ++ get_or cs i [] = rw (c.split_in.ensures.domains, c.domains.ensures)
    at c.extend-inner.ensures in
    let G = λ (s : Instances) (a : List Elem). instance_step b r s a in
    let F = λ (s : Instances) (a : List Elem). G s (e ++ a) in
    record {
      made = λ st h. let k = c.loop-number.invariant.made st h in
          let u = fold (λ (s : Instances) (a : List Elem). G s (inner ++ a)) k.0 rest in (
            u,
            c.in_ok-push_instances.ensures.made k.0 k.1,
            fold_next (after_front F rest) cs i k.0 u within (inner_fold G rest e inner (get_or cs i []) k.0 is) ∙ k.2,
          );
      grows = grow-on c.args.bodies.now c.loop-number.bodies c.push_instances.new.bodies c.args.problem.now
          c.loop-number.problem c.push_instances.new.problem c.loop-number.invariant.grows
          c.in_ok-push_instances.ensures.grows;
    }

pub returns-clause-made : goal.returns-clause-made
returns-clause-made t c st h =
    let b = c.args.walk.now.base.now in
    let e = env_view c.args.env.now in
    let r = rule_view c.args.walk.now.rule.now in
    let these = c.split_in.result.0.bounds.now in
    let others = c.split_in.result.1.now in
    let cs = choices b.domains these in
    let rest = choices b.domains others in
    let i = c.loop-number.number in
    let count : c.split_in.result.0.count ≡ length cs = rw c.domains.ensures at c.split_in.ensures.count in
    let past : length cs ≤ i = rw (← count) c.loop-number-test.false in
    let F = λ (s : Instances) (a : List Elem). instance_step b r s (e ++ a) in
    let k = c.loop-number.invariant.made st h in
    subst (λ (s : Instances). Stands s c.loop-number.bodies c.loop-number.problem)
    (sym (fold_by_front b.domains c.args.bounds.now these others c.split_in.ensures.parts F st
    ∙ sym k.2 ∙ fold_done (after_front F rest) cs i k.0 past))
    k.1
