-- The problem over narrowed data has few variables, and the values of its terms are in range.
use Rattle.std.proofs.Common.{◌≡◌, ℕ, ◌+◌, ◌*◌, ◌≤◌, List, [], ◌∷◌, map, length, refl, subst, ◌∙◌, arith}
use Rattle.std.specs.List.{sum_by}
use Rattle.kb_logic.specs.declared.elements.Elem.{Elem}
use Rattle.kb_logic.specs.Bases.{Base, NamedTerm}
use Rattle.kb_logic.specs.Trees.{falsum}
use Rattle.kb_logic.specs.Weights.{atom_count, weight_of}
use Rattle.ground_core.specs.Atoms.{ground_atoms}
use Rattle.ground_core.specs.Problems.{ProblemState}
use Rattle.open_sizes.specs.OpenWeights.{base_weight, terms_in}
use Rattle.term_values.specs.GroundBases.{GroundBase}
use Rattle.term_values.proofs.Places.{atoms-count}
use Rattle.def_ground.specs.AskedTerms.{with_asked, with_all_asked}
use Rattle.def_ground.specs.Groundings.{ground_base, theory_problem}
use Rattle.def_ground.specs.Problems.{problem_of}
use Rattle.def_ground.proofs.StartLaws.{atoms-length}
use Rattle.theory_laws.proofs.FewTheories.{problem-is-small}
use Rattle.theory_laws.proofs.TheoryRanges.{terms-in-range}
use Rattle.narrowed_bases.specs.Laws.{NarrowedIsInRange, NarrowedIsSmall}
use Rattle.narrowed_bases.specs.Narrowings.{grounded_base, with_data, without_models, zero_term}
use Rattle.narrowed_bases.specs.declared.narrowings.Narrowing.TheVariants.{Plain, Narrowed, Contradiction}
use Rattle.narrowed_bases.proofs.Grounded.{grounded_terms, grounded_theory}

-- the terms that are 0 add no variable
zeros_vars : (b : GroundBase) (ts : List NamedTerm) (p : ProblemState)
    → (with_all_asked b (map zero_term ts) p).vars ≡ p.vars
zeros_vars b [] p = refl
zeros_vars b (t ∷ ts) p = zeros_vars b ts (with_asked b p (zero_term t))

contradicted_vars : (base : Base) → (theory_problem (without_models base)).vars
    ≡ atom_count base.vocabulary base.known.domains
contradicted_vars base =
    zeros_vars (ground_base base) base.terms (problem_of (ground_base base) (falsum ∷ []))
    ∙ atoms-length base.vocabulary.symbols base.known.domains ∙ atoms-count (ground_base base)

within : (n a b : ℕ) → n ≡ a → n ≤ a + b
within n a b e = omega (arith, e)

pub narrowed_is_small : NarrowedIsSmall
narrowed_is_small base Plain is h = problem-is-small base is
narrowed_is_small base (Narrowed k) is h =
    subst (λ (ds : List (List Elem)). (theory_problem (with_data base k)).vars
    ≤ weight_of base.vocabulary ds base.theory (terms_in base)) h.1.closed.more.domains
    (problem-is-small (with_data base k) (grounded_theory base is (Narrowed k) h))
narrowed_is_small base Contradiction is h =
    within (theory_problem (without_models base)).vars (atom_count base.vocabulary base.known.domains) _
    (contradicted_vars base)

pub narrowed_is_in_range : NarrowedIsInRange
narrowed_is_in_range base n is h bounded =
    terms-in-range (grounded_base base n) (grounded_theory base is n h) (grounded_terms base n h bounded)
