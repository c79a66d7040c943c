-- What the definitions say, in the subject's own words.
use Rattle.std.specs.Prelude.{◌≡◌}
use Rattle.kb_logic.specs.declared.structures.Structure.{Structure}
use Rattle.kb_logic.specs.Models.{GroundAtom, AtomHolds}
use Rattle.partial_structures.specs.KnownAtoms.{KnownAtoms, value_at}
use Rattle.partial_structures.specs.Extension.{ExtendsData}
use Rattle.row_tries.specs.declared.truths.Truth.TheVariants as truth

-- what is known of an atom is so in every structure that extends the data
abbrev pub KnownAtomsHold : Type 0
KnownAtomsHold = (m : Structure) (k : KnownAtoms) (a : GroundAtom) → ExtendsData m k
    → (value_at k a ≡ truth.Yes → AtomHolds m a) × (value_at k a ≡ truth.No → AtomHolds m a → ⊥)
