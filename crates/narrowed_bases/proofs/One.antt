-- A knowledge base has one ground problem.
use Rattle.std.proofs.Common.{◌≡◌, ℕ, ◌<◌, ◌≤◌, refl, sym, ap, ◌∙◌, arith}
use Rattle.kb_logic.specs.Bases.{Base}
use Rattle.kb_logic.specs.KnownAtoms.{KnownAtoms}
use Rattle.bound_laws.proofs.One.{one_narrowed}
use Rattle.open_sizes.specs.OpenWeights.{base_weight, open_weight}
use Rattle.def_ground.specs.Groundings.{theory_problem}
use Rattle.narrowed_bases.specs.Laws.{LightOrHeavy, OneProblem}
use Rattle.stage_definitions.specs.SizesStage.{open_limit}
use Rattle.narrowed_bases.specs.Narrowings.{IsNarrowing, grounded_base}
use Rattle.narrowed_bases.specs.declared.narrowings.Narrowing.{Narrowing}
use Rattle.narrowed_bases.specs.declared.narrowings.Narrowing.TheVariants.{Plain, Narrowed, Contradiction}

both : (weight limit : ℕ) → weight ≤ limit → limit < weight → ⊥
both weight limit low high = omega (arith, low, high)

-- data are narrowed in one way
pub one_narrowing : (base : Base) (n m : Narrowing) → IsNarrowing base n → IsNarrowing base m → n ≡ m
one_narrowing base Plain Plain h i = refl
one_narrowing base Plain (Narrowed k) h i = absurd (both (base_weight base) open_limit h i.0)
one_narrowing base Plain Contradiction h i = absurd (both (base_weight base) open_limit h i.0)
one_narrowing base (Narrowed k) Plain h i = absurd (both (base_weight base) open_limit i h.0)
one_narrowing base (Narrowed k) (Narrowed j) h i =
    ap (λ (x : KnownAtoms). Narrowed x) (one_narrowed base.theory base.known k j h.1 i.1)
one_narrowing base (Narrowed k) Contradiction h i = absurd (i.1 k h.1.closed)
one_narrowing base Contradiction Plain h i = absurd (both (base_weight base) open_limit i h.0)
one_narrowing base Contradiction (Narrowed k) h i = absurd (h.1 k i.1.closed)
one_narrowing base Contradiction Contradiction h i = refl

pub one_problem : OneProblem
one_problem base p q h i =
    h.2 ∙ ap (λ (n : Narrowing). theory_problem (grounded_base base n)) (one_narrowing base h.0 i.0 h.1 i.1) ∙ sym i.2

pub light_or_heavy : LightOrHeavy
light_or_heavy base light heavy =
    both (open_weight base heavy.0) open_limit (light heavy.0 heavy.1) heavy.2
