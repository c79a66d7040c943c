-- Which sums are an integer with a minus.
use Rattle.std.proofs.Common.{◌≡◌, ◌≤◌, false, List, [], ◌∷◌, length, map, refl, arith}
use Rattle.stage_definitions.specs.Demands.{is_lone_integer}
use Rattle.stage_definitions.specs.NamedTrees.{summands_of}
use Rattle.stage_definitions.specs.declared.named.NamedSigned.{NamedSigned}
use Rattle.stage_definitions.specs.NamedViews.{signed_view}

pub several : (ss : List NamedSigned) → 2 ≤ length ss → false ≡ is_lone_integer (summands_of (map signed_view ss))
several [] le = absurd (omega arith)
several (s ∷ []) le = absurd (let few : 2 ≤ 1 = le in omega arith)
several (s ∷ u ∷ ss) le = refl
