-- A test of terms that keeps their values in range.
use Rattle.std.specs.Prelude.{ℕ, ◌+◌, ◌^◌, ◌≤◌, nat_abs, List, [], ◌∷◌}
use Rattle.kb_logic.specs.declared.syntax.AggKind.{AggKind}
use Rattle.kb_logic.specs.declared.syntax.AggKind.TheVariants as kind
use Rattle.ground_core.specs.declared.parts.Part.{Part}
use Rattle.ground_core.specs.declared.parts.GroundTerm.{GroundTerm}

-- how far a part can take a value from 0
abbrev pub part_size : AggKind → Part → ℕ
part_size kind.Count p = 1
part_size kind.Sum p = nat_abs p.weight
part_size kind.Min p = nat_abs p.weight
part_size kind.Max p = nat_abs p.weight

-- how far all of them can
abbrev pub parts_size : AggKind → List Part → ℕ
parts_size k [] = 0
parts_size k (p ∷ ps) = part_size k p + parts_size k ps

-- the base and all parts together stay within 10^15
abbrev pub IsSmall : GroundTerm → Type 0
IsSmall t = nat_abs t.base + parts_size t.kind t.parts ≤ 10 ^ 15
