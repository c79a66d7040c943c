use Rattle.std.proofs.Common.{◌≡◌, map, drop, length}
use Rattle.kb_logic.specs.Structures.{choices}
use Rattle.kb_logic.specs.Views.{formula_view}
use Rattle.plain_evaluation.specs.Environments.{env_view}
use Rattle.quantifier_bounds.proofs.Orders.{ordered}
use Rattle.refinement.specs.Following.{ObeysSentences}
use Rattle.refinement.proofs.Follows.{SoFar}
use Rattle.refinement.proofs.Parts.{Instances, Blocks}
use Rattle.refinement.proofs.walk.+instances.Given as goal

-- the instances that are left stand for all
abbrev pub invariant-loop-turn : goal.invariant-loop-turn
invariant-loop-turn l =
    let d = l.course.setting.domains.now in
    let f = formula_view l.formula in
    let e = env_view l.env in
    record {
      symbols : l.course.setting.symbols.now ≡ l.known.symbols;
      domains : d ≡ l.known.domains;
      so_far : SoFar (ObeysSentences (map formula_view l.course.sentences.now)) l.fn.known l.known l.changed
          (Instances f e (choices d l.bounds))
          (Blocks f e (choices d l.others) (drop l.turn (ordered l.course.setting.falling
          (choices d l.block.bounds.now))));
    }

abbrev pub decreases-instances : goal.decreases-instances
decreases-instances l = length l.bounds.now
