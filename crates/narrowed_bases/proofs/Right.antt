-- The problem over narrowed data stands for the models of the knowledge base.
use Rattle.std.proofs.Common.{◌≡◌, ℕ, Bool, true, false, [], map, length, sym, ap, subst, ◌∙◌}
use Rattle.std.proofs.lemmas.Bool.{true≢false}
use Rattle.std.proofs.lemmas.List.{length-map}
use Rattle.kb_logic.specs.declared.structures.Structure.{Structure}
use Rattle.kb_logic.specs.Bases.{Base, IsModelUnder}
use Rattle.kb_logic.specs.KnownAtoms.{KnownAtoms}
use Rattle.kb_logic.specs.Meaning.{value_of}
use Rattle.bound_laws.specs.Closures.{IsNarrowed, IsContradictory}
use Rattle.bound_laws.proofs.Keeps.{narrowed_keeps_models}
use Rattle.ground_core.specs.Atoms.{ground_atoms}
use Rattle.ground_core.specs.Meaning.{Satisfies}
use Rattle.ground_core.specs.Problems.{ProblemState}
use Rattle.term_values.specs.GroundBases.{structure_of}
use Rattle.def_ground.specs.Groundings.{ground_base, IsGroundTheory, IsGroundingOf, theory_problem}
use Rattle.theory_laws.proofs.ProblemLaws.{problem-is-right}
use Rattle.narrowed_bases.specs.Laws.{NarrowedIsRight}
use Rattle.narrowed_bases.specs.Narrowings.{IsNarrowing, grounded_base, with_data, without_models, zero_term}
use Rattle.narrowed_bases.specs.declared.narrowings.Narrowing.TheVariants.{Plain, Narrowed, Contradiction}
use Rattle.narrowed_bases.proofs.Grounded.{grounded_theory}
use Rattle.narrowed_bases.proofs.Known.{extends_less, facts_stay, same_structure}
use Rattle.narrowed_bases.proofs.Typed.{typed_base}

module _ (base : Base) (is : IsGroundTheory base) where
  module _ (k : KnownAtoms) (narrowed : IsNarrowed base.theory base.known k) where
    -- the models are those over the narrowed data
    to : (m : Structure) → IsModelUnder base [] m → IsModelUnder (with_data base k) [] m
    to m model = record {
      structure = model.structure;
      extends = (narrowed_keeps_models base (typed_base base is) [] m model).0 k narrowed;
      theory = model.theory;
      chosen = tt;
    }

    back : (m : Structure) → IsModelUnder (with_data base k) [] m → IsModelUnder base [] m
    back m model = record {
      structure = model.structure;
      extends = extends_less base.known k narrowed.closed.consistent narrowed.closed.more m model.extends;
      theory = model.theory;
      chosen = tt;
    }

    same : (w : ℕ → Bool) → structure_of (ground_base (with_data base k)) w ≡ structure_of (ground_base base) w
    same w = same_structure base.known k narrowed.closed.consistent narrowed.closed.more base.vocabulary w

    narrowed_right : (p : ProblemState) → IsGroundingOf (with_data base k) p → IsGroundingOf base p
    narrowed_right p right = record {
      atoms = right.atoms ∙ ap (ground_atoms base.vocabulary.symbols) narrowed.closed.more.domains;
      facts = λ n x known. right.facts n x
          (facts_stay base.known k narrowed.closed.consistent narrowed.closed.more base.vocabulary n x known);
      extends = λ m model. let v = right.extends m (to m model) in (v.0, v.1, sym (same v.0) ∙ v.2);
      unique = λ v w s t e. right.unique v w s t (same v ∙ e ∙ sym (same w));
      gives = λ v s. subst (IsModelUnder base []) (same v)
          (back (structure_of (ground_base (with_data base k)) v) (right.gives v s));
      number = right.number;
      terms = λ n t at v s. right.terms n t at v s ∙ ap (λ (m : Structure). value_of m t.term []) (same v);
    }

  module _ (none : IsContradictory base.theory base.known) where
    unsatisfied : (p : ProblemState) → IsGroundingOf (without_models base) p → (v : ℕ → Bool) → Satisfies p v → ⊥
    unsatisfied p right v s = true≢false (sym (right.gives v s).theory.sentences.0)

    contradicted_right : (p : ProblemState) → IsGroundingOf (without_models base) p → IsGroundingOf base p
    contradicted_right p right = record {
      atoms = right.atoms;
      facts = right.facts;
      extends = λ m model. absurd ((narrowed_keeps_models base (typed_base base is) [] m model).1 none);
      unique = right.unique;
      gives = λ v s. absurd (unsatisfied p right v s);
      number = right.number ∙ length-map base.terms zero_term;
      terms = λ n t at v s. absurd (unsatisfied p right v s);
    }

pub narrowed_is_right : NarrowedIsRight
narrowed_is_right base Plain is h = problem-is-right base is
narrowed_is_right base (Narrowed k) is h =
    narrowed_right base is k h.1 (theory_problem (with_data base k))
    (problem-is-right (with_data base k) (grounded_theory base is (Narrowed k) h))
narrowed_is_right base Contradiction is h =
    contradicted_right base is h.1 (theory_problem (without_models base))
    (problem-is-right (without_models base) (grounded_theory base is Contradiction h))
