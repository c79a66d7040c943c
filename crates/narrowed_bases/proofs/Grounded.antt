-- What is grounded over narrowed data can be grounded.
use Rattle.std.proofs.Common.{ℤ, pos, neg_ℤ, ◌≤ℤ◌, List, [], ◌∷◌, map, sym, subst, ◌∙◌, arith}
use Rattle.std.specs.List.{AllByRecursion}
use Rattle.std.proofs.lemmas.Int.{ints}
use Rattle.kb_logic.specs.declared.elements.Elem.{Elem}
use Rattle.kb_logic.specs.Bases.{Base, NamedTerm}
use Rattle.kb_logic.specs.Bounds.{TermIsBounded, TheoryIsBounded}
use Rattle.kb_logic.specs.Domains.{AreDomainsOf}
use Rattle.kb_logic.specs.KnownAtoms.{KnownAtoms}
use Rattle.kb_logic.specs.Typing.{IsTypedOver, TermIsTypedOver}
use Rattle.partial_structures.specs.Consistency.{KnowsMore}
use Rattle.bound_laws.specs.Closures.{IsNarrowed}
use Rattle.term_values.specs.KnownBases.{AreDataOf}
use Rattle.def_ground.specs.Groundings.{IsGroundNumber, IsGroundTheory, TermsAreBounded}
use Rattle.def_ground.specs.Rules.{IsTypedDefinition}
use Rattle.narrowed_bases.specs.Narrowings.{IsNarrowing, grounded_base, with_data, without_models, zero_term}
use Rattle.narrowed_bases.specs.declared.narrowings.Narrowing.{Narrowing}
use Rattle.narrowed_bases.specs.declared.narrowings.Narrowing.TheVariants.{Plain, Narrowed, Contradiction}

numbers_over : (base : Base) (k : KnownAtoms) → KnowsMore base.known k → (ts : List NamedTerm)
    → AllByRecursion (IsGroundNumber base) ts → AllByRecursion (IsGroundNumber (with_data base k)) ts
numbers_over base k more [] h = tt
numbers_over base k more (t ∷ ts) h = (
  record {
    typed = subst (λ (ds : List (List Elem)). TermIsTypedOver base.vocabulary ds t.term []) (sym more.domains) h.0.typed;
    numeric = h.0.numeric;
    placed = h.0.placed;
  },
  numbers_over base k more ts h.1,
)

zeros_over : (base : Base) (ts : List NamedTerm)
    → AllByRecursion (IsGroundNumber (without_models base)) (map zero_term ts)
zeros_over base [] = tt
zeros_over base (t ∷ ts) = (record { typed = tt; numeric = tt; placed = tt }, zeros_over base ts)

module _ (base : Base) (is : IsGroundTheory base) where
  pub narrowed_data : (k : KnownAtoms) → IsNarrowed base.theory base.known k → AreDataOf base.vocabulary k
  narrowed_data k narrowed = record {
    symbols = narrowed.closed.more.symbols ∙ is.known.symbols;
    domains = subst (AreDomainsOf base.vocabulary) (sym narrowed.closed.more.domains) is.known.domains;
    consistent = narrowed.closed.consistent;
    false_over = narrowed.closed.listed.false_over;
  }

  narrowed_theory : (k : KnownAtoms) → IsNarrowed base.theory base.known k → IsGroundTheory (with_data base k)
  narrowed_theory k narrowed =
      let domains = sym narrowed.closed.more.domains in
      record {
        known = narrowed_data k narrowed;
        typed = subst (λ (ds : List (List Elem)). AllByRecursion (λ f. IsTypedOver base.vocabulary ds f [])
            base.theory.sentences) domains is.typed;
        placed = is.placed;
        definitions = subst (λ (ds : List (List Elem)). AllByRecursion (IsTypedDefinition base.vocabulary ds)
            base.theory.definitions) domains is.definitions;
        terms = numbers_over base k narrowed.closed.more base.terms is.terms;
      }

  contradicted_theory : IsGroundTheory (without_models base)
  contradicted_theory = record {
    known = is.known;
    typed = (tt, tt);
    placed = (tt, tt);
    definitions = tt;
    terms = zeros_over base base.terms;
  }

  -- whatever the data are narrowed to
  pub grounded_theory : (n : Narrowing) → IsNarrowing base n → IsGroundTheory (grounded_base base n)
  grounded_theory Plain h = is
  grounded_theory (Narrowed k) h = narrowed_theory k h.1
  grounded_theory Contradiction h = contradicted_theory

zeros_bounded : (base : Base) (ts : List NamedTerm)
    → AllByRecursion (λ (t : NamedTerm). TermIsBounded base.vocabulary base.known.domains t.term []) (map zero_term ts)
zeros_bounded base [] = tt
zeros_bounded base (t ∷ ts) = ((omega (arith, ints), omega (arith, ints)), zeros_bounded base ts)

-- its terms are bounded as those of the knowledge base are
pub grounded_terms : (base : Base) (n : Narrowing) → IsNarrowing base n → TermsAreBounded base
    → TermsAreBounded (grounded_base base n)
grounded_terms base Plain h bounded = bounded
grounded_terms base (Narrowed k) h bounded =
    subst (λ (ds : List (List Elem)). AllByRecursion (λ (t : NamedTerm). TermIsBounded base.vocabulary ds t.term [])
    base.terms) (sym h.1.closed.more.domains) bounded
grounded_terms base Contradiction h bounded = zeros_bounded base base.terms

-- and so is the theory of narrowed data
pub narrowed_bounded : (base : Base) (k : KnownAtoms) → IsNarrowed base.theory base.known k
    → TheoryIsBounded base.vocabulary base.known.domains base.theory
    → TheoryIsBounded base.vocabulary k.domains base.theory
narrowed_bounded base k narrowed bounded =
    subst (λ (ds : List (List Elem)). TheoryIsBounded base.vocabulary ds base.theory)
    (sym narrowed.closed.more.domains) bounded
