use Rattle.std.proofs.Common.{◌≡◌, ◌≤◌, ◌-◌, map, drop, length}
use Rattle.kb_logic.specs.Structures.{choices}
use Rattle.kb_logic.specs.Views.{formula_view}
use Rattle.plain_evaluation.specs.Environments.{env_view}
use Rattle.row_ranges.specs.Leads.{Leads}
use Rattle.refinement.specs.Following.{IsSettled, ObeysSentences}
use Rattle.refinement.proofs.Follows.{SoFar}
use Rattle.refinement.proofs.Parts.{Instances, Blocks}
use Rattle.refinement.proofs.walk.+guided_instances.Given as goal

-- the instances that are left stand for all
abbrev pub invariant-loop-index : goal.invariant-loop-index
invariant-loop-index l =
    let d = l.course.setting.domains.now in
    let f = formula_view l.guided.formula.now in
    let e = env_view l.env in
    let place = l.guided.place in
    record {
      symbols : l.course.setting.symbols.now ≡ l.known.symbols;
      domains : d ≡ l.known.domains;
      led : Leads (IsSettled l.known f) d place.keys.now place.key place.steps.now l.bounds e;
      within : l.index ≤ l.block.count;
      so_far : SoFar (ObeysSentences (map formula_view l.course.sentences.now)) l.fn.known l.known l.changed
          (Instances f e (choices d l.bounds))
          (Blocks f e (choices d l.others) (drop l.index (choices d l.block.bounds.now)));
    }

abbrev pub decreases-guided_instances : goal.decreases-guided_instances
decreases-guided_instances l = length l.bounds.now

abbrev pub decreases-loop-index : goal.decreases-loop-index
decreases-loop-index l = l.block.count - l.index
