use Rattle.std.proofs.Common.{◌≡◌, ◌<◌, ◌++◌, [], drop, length, get_or}
use Rattle.kb_logic.specs.Structures.{tuples_of}
use Rattle.atom_numbers.proofs.places.tuple_at.Given as goal

abbrev pub invariant-loop-ty : goal.invariant-loop-ty
invariant-loop-ty l = (l.each ≡ length (tuples_of l.domains (drop l.ty-index l.types))) × (l.left < l.each)
    × (l.tuple ++ get_or (tuples_of l.domains (drop l.ty-index l.types)) l.left [] ≡ get_or (tuples_of l.domains
    l.types)
    l.place [])
