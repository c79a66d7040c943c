-- The conditions of narrowing and of weighing what it leaves open, and when that is light.
use Rattle.std.proofs.Common.{◌≤◌, List, [], ◌∷◌, map, sym, subst}
use Rattle.std.specs.List.{AllByRecursion}
use Rattle.kb_logic.specs.declared.elements.Elem.{Elem}
use Rattle.kb_logic.specs.Bases.{Base, NamedTerm}
use Rattle.kb_logic.specs.Bounds.{TermIsBounded, TheoryIsBounded}
use Rattle.kb_logic.specs.KnownAtoms.{KnownAtoms}
use Rattle.bound_laws.specs.Closures.{IsNarrowed}
use Rattle.bound_laws.proofs.One.{one_narrowed}
use Rattle.quantifier_bounds.specs.Fits.{TheoryFits}
use Rattle.quantifier_bounds.proofs.Small.{small_theories_fit}
use Rattle.open_sizes.specs.Fits.{WeighingFits}
use Rattle.open_sizes.specs.Laws.{SmallBasesFit}
use Rattle.open_sizes.specs.OpenWeights.{open_weight, terms_in}
use Rattle.def_ground.specs.Groundings.{IsGroundTheory, TermsAreBounded}
use Rattle.stage_definitions.specs.SizesStage.{open_limit}
use Rattle.narrowed_bases.specs.Narrowings.{IsLight}
use Rattle.narrowed_bases.proofs.Grounded.{narrowed_bounded, narrowed_data}
use Rattle.narrowed_bases.proofs.Typed.{heads_plain}

module _ (base : Base) (is : IsGroundTheory base) where
  -- narrowing meets no integer that does not fit
  pub theory_fits : TheoryIsBounded base.vocabulary base.known.domains base.theory
      → TheoryFits base.known.symbols base.known.domains base.theory
  theory_fits bounded =
      subst (λ ss. TheoryFits ss base.known.domains base.theory) (sym is.known.symbols)
      (small_theories_fit base.vocabulary base.known.domains base.theory
      (heads_plain base.vocabulary base.known.domains base.theory.definitions is.definitions) bounded)

  -- nor does weighing what it leaves open
  pub weighing_fits : SmallBasesFit → TheoryIsBounded base.vocabulary base.known.domains base.theory
      → TermsAreBounded base → (k : KnownAtoms) → IsNarrowed base.theory base.known k
      → WeighingFits k base.theory (terms_in base)
  weighing_fits small bounded asked k narrowed =
      let given = narrowed_data base is k narrowed in
      small base.vocabulary k given.symbols given.consistent base.theory (terms_in base)
      (narrowed_bounded base k narrowed bounded)
      (each base.terms (subst (λ (ds : List (List Elem)). AllByRecursion
      (λ (t : NamedTerm). TermIsBounded base.vocabulary ds t.term []) base.terms) (sym narrowed.closed.more.domains)
      asked))
    where
      each : (ts : List NamedTerm)
          → AllByRecursion (λ (t : NamedTerm). TermIsBounded base.vocabulary k.domains t.term []) ts
          → AllByRecursion (λ u. TermIsBounded base.vocabulary k.domains u []) (map (λ (t : NamedTerm). t.term) ts)
      each [] h = tt
      each (t ∷ ts) h = (h.0, each ts h.1)

-- where the narrowed data leave little open
pub narrowed_light : (base : Base) (k : KnownAtoms) → IsNarrowed base.theory base.known k
    → open_weight base k ≤ open_limit → IsLight base
narrowed_light base k narrowed within j other =
    subst (λ (x : KnownAtoms). open_weight base x ≤ open_limit)
    (one_narrowed base.theory base.known k j narrowed other) within
