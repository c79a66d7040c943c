use Rattle.std.proofs.Common.{◌≡◌, ◌+◌, ℕ, length}
use Rattle.stage_definitions.specs.Below.{reaches, type_parents}
use Rattle.stage_definitions.specs.Kinship as kin
use Rattle.type_constraints.proofs.subtypes.is_under.Given as goal

abbrev pub invariant-loop-step : goal.invariant-loop-step
invariant-loop-step l = (m : ℕ) → m + l._step ≡ length l.types → reaches m (type_parents l.types) l.at l.upper
    ≡ kin.is_under l.types l.lower l.upper
