-- What the data of a knowledge base are narrowed to, and the knowledge base that is grounded in its place.
use Rattle.std.specs.Prelude.{◌≡◌, ℕ, ◌≤◌, ◌<◌, [], ◌∷◌, map, pos, ⊤}
use Rattle.kb_logic.specs.Bases.{Base, NamedTerm}
use Rattle.kb_logic.specs.KnownAtoms.{KnownAtoms}
use Rattle.kb_logic.specs.Trees.{integer, falsum}
use Rattle.stage_definitions.specs.SizesStage.{open_limit}
use Rattle.bound_laws.specs.Closures.{IsNarrowed, IsContradictory}
use Rattle.open_sizes.specs.OpenWeights.{base_weight, open_weight}
use Rattle.ground_core.specs.Problems.{ProblemState}
use Rattle.def_ground.specs.Groundings.{theory_problem}
use Rattle.narrowed_bases.specs.declared.errors.NarrowError.{NarrowError}
use Rattle.narrowed_bases.specs.declared.errors.NarrowError.TheVariants.{TooLarge, Memory}
use Rattle.narrowed_bases.specs.declared.narrowings.Narrowing.{Narrowing}
use Rattle.narrowed_bases.specs.declared.narrowings.Narrowing.TheVariants.{Plain, Narrowed, Contradiction}

-- what the data are narrowed to: nothing is done where the whole weight is within the limit of what may be open
abbrev pub IsNarrowing : Base → Narrowing → Type 0
IsNarrowing base Plain = base_weight base ≤ open_limit
IsNarrowing base (Narrowed k) = (open_limit < base_weight base) × IsNarrowed base.theory base.known k
IsNarrowing base Contradiction = (open_limit < base_weight base) × IsContradictory base.theory base.known

-- the term 0 of the same name
abbrev pub zero_term : NamedTerm → NamedTerm
zero_term t = record { name = t.name; term = integer (pos 0) }

-- the same data under a theory without models, where each term that may be asked for is 0
abbrev pub without_models : Base → Base
without_models base = record {
  vocabulary = base.vocabulary;
  known = base.known;
  theory = record { sentences = falsum ∷ []; definitions = [] };
  terms = map zero_term base.terms;
}

-- the knowledge base with other data
abbrev pub with_data : Base → KnownAtoms → Base
with_data base k = record { vocabulary = base.vocabulary; known = k; theory = base.theory; terms = base.terms }

-- the knowledge base that is grounded: that of the narrowed data, or one without models
abbrev pub grounded_base : Base → Narrowing → Base
grounded_base base Plain = base
grounded_base base (Narrowed k) = with_data base k
grounded_base base Contradiction = without_models base

-- the ground problem of a knowledge base
abbrev pub IsProblemOf : Base → ProblemState → Type 0
IsProblemOf base p = (n : Narrowing) × IsNarrowing base n × (p ≡ theory_problem (grounded_base base n))

-- what the narrowed data leave open is within its limit
abbrev pub IsLight : Base → Type 0
IsLight base = (k : KnownAtoms) → IsNarrowed base.theory base.known k → open_weight base k ≤ open_limit

-- what the narrowed data leave open is above it
abbrev pub IsHeavy : Base → Type 0
IsHeavy base = (k : KnownAtoms) × IsNarrowed base.theory base.known k × (open_limit < open_weight base k)

-- what the narrowed data leave open is above its limit, or there was no memory
abbrev pub IsTooOpen : Base → NarrowError → Type 0
IsTooOpen base TooLarge = IsHeavy base
IsTooOpen base Memory = ⊤
