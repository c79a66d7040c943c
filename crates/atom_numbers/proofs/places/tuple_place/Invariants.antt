use Rattle.std.proofs.Common.{◌≡◌, length}
use Rattle.atom_numbers.proofs.PlaceFacts.{LeadsOn}
use Rattle.atom_numbers.proofs.places.tuple_place.Given as goal

abbrev pub invariant-loop-k : goal.invariant-loop-k
invariant-loop-k l = LeadsOn l.domains l.types l.args l.k l.place × (length l.args ≡ length l.types)
