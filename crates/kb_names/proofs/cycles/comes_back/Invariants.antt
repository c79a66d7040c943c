use Rattle.std.proofs.Common.{◌≡◌, ◌+◌, ℕ}
use Rattle.stage_definitions.specs.NamesStage as stage
use Rattle.kb_names.proofs.cycles.comes_back.Given as goal

abbrev pub invariant-loop-step : goal.invariant-loop-step
invariant-loop-step l = (m : ℕ) → m + l.step ≡ l.steps → stage.comes_back m l.parents l.ty l.at
    ≡ stage.comes_back l.steps l.parents l.ty l.fn.from
