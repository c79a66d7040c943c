use Rattle.std.proofs.Common.{◌≡◌, ◌+◌, ℕ, length}
use Rattle.stage_definitions.specs.Below.{type_parents}
use Rattle.stage_definitions.specs.Kinship.{climbed, top_of}
use Rattle.stage_definitions.proofs.types_above.top_of.Given as goal

abbrev pub invariant-loop-step : goal.invariant-loop-step
invariant-loop-step l = (m : ℕ) → m + l._step ≡ length l.types → climbed m (type_parents l.types) l.at
    ≡ top_of l.types l.ty
