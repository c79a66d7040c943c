use Rattle.std.proofs.Common.{◌≡◌, ◌≤◌, ◌+◌, ◌-◌, ℕ, false, List, ◌++◌, drop, fold, length}
use Rattle.kb_logic.specs.declared.elements.Elem.{Elem}
use Rattle.kb_logic.specs.Structures.{choices}
use Rattle.kb_logic.specs.Views.{formula_view}
use Rattle.plain_evaluation.specs.Environments.{env_view}
use Rattle.plain_evaluation.proofs.Folds.{after_front}
use Rattle.partial_structures.specs.declared.truths.Truth.{Truth}
use Rattle.certain_truth.specs.Certainty.{certain_truth}
use Rattle.certain_truth.specs.Evaluation.{joined}
use Rattle.stage_definitions.specs.SizesStage.{capped}
use Rattle.open_sizes.specs.OpenWeights.{open_occurrences}
use Rattle.open_sizes.specs.Weighings.{is_all, is_over}
use Rattle.open_sizes.proofs.outermost.+led.Given as goal

abbrev pub invariant-loop-index : goal.invariant-loop-index
invariant-loop-index l =
    let v = l.setting.vocabulary.now in
    let k = l.setting.known.now in
    let f = formula_view l.whole.of.now in
    let rest = choices k.domains l.others in
    let cs = choices k.domains l.block.bounds.now in
    let T = after_front (λ (t : Truth) (a : List Elem). joined (is_all l.whole.joining) t
    (certain_truth k f (env_view l.env ++ a))) rest in
    let N = after_front (λ (n : ℕ) (a : List Elem). capped (n + open_occurrences v k f (env_view l.env ++ a))) rest in
    record {
      truth : fold T l.so_far.truth (drop l.index cs) ≡ fold T l.fn.before.truth cs;
      count : is_over l.whole.joining l.so_far.truth ≡ false
          → fold N l.so_far.count (drop l.index cs) ≡ fold N l.fn.before.count cs;
      within_all : l.index ≤ l.block.count;
      small : l.so_far.count ≡ capped l.so_far.count;
    }

abbrev pub decreases-led : goal.decreases-led
decreases-led l = length l.bounds.now

abbrev pub decreases-loop-index : goal.decreases-loop-index
decreases-loop-index l = l.block.count - l.index
