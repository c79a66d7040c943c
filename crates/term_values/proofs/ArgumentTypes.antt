-- Terms whose functions are applied to elements of their argument types.
use Rattle.std.specs.Prelude.{◌≡◌, ℕ, ℤ, neg_ℤ, true, ◌<◌, List, [], ◌∷◌, length, Some, slice_get, Contains}
use Rattle.kb_logic.specs.declared.elements.Elem.{Elem}
use Rattle.kb_logic.specs.declared.elements.Elem.TheVariants.{Num}
use Rattle.kb_logic.specs.declared.vocabularies.Symbol.{Symbol}
use Rattle.kb_logic.specs.declared.vocabularies.Vocabulary.{Vocabulary}
use Rattle.kb_logic.specs.Trees.{TermTree, variable, integer, constructed, application, summation, product, aggregate}
use Rattle.kb_logic.specs.Trees.{TermTrees}
use Rattle.kb_logic.specs.Trees.{no_terms, more_terms, SummandTrees, no_summands, more_summands}
use Rattle.kb_logic.specs.Structures.{domain_at}
use Rattle.kb_logic.specs.Bounds.{value_type_of}

-- each element of the one type is one of the other
abbrev pub IsSubtype : List (List Elem) → ℕ → ℕ → Type 0
IsSubtype domains u ty = (x : Elem) → Contains (domain_at domains u) x → Contains (domain_at domains ty) x

-- what an argument at a position of this type may be: the scope has the types of the variables in scope
abbrev pub IsOfType : Vocabulary → List (List Elem) → List ℕ → ℕ → TermTree → Type 0
IsOfType v domains scope ty (variable n) = (u : ℕ) × (slice_get scope n ≡ Some u) × IsSubtype domains u ty
IsOfType v domains scope ty (integer z) = Contains (domain_at domains ty) (Num z)
IsOfType v domains scope ty (constructed u n) = (n < length (domain_at domains u)) × IsSubtype domains u ty
IsOfType v domains scope ty (application s ts) = (u : ℕ) × (value_type_of v s ≡ Some u) × IsSubtype domains u ty
IsOfType v domains scope ty (summation ss) =
    (z : ℤ) × (ss ≡ more_summands true (integer z) no_summands) × Contains (domain_at domains ty) (Num (neg_ℤ z))
IsOfType v domains scope ty (product ts) = ⊥
IsOfType v domains scope ty (aggregate k bs f t) = ⊥

abbrev mutual
  -- each application outside aggregates is of a function to elements of its argument types
  pub IsTypedTerm : Vocabulary → List (List Elem) → List ℕ → TermTree → Type 0
  IsTypedTerm v domains scope (variable n) = Unit {0}
  IsTypedTerm v domains scope (integer z) = Unit {0}
  IsTypedTerm v domains scope (constructed u n) = Unit {0}
  IsTypedTerm v domains scope (application s ts) =
      (d : Symbol) × (slice_get v.symbols s ≡ Some d) × AreArguments v domains scope d.args ts
  IsTypedTerm v domains scope (summation ss) = AreTypedSummands v domains scope ss
  IsTypedTerm v domains scope (product ts) = AreTypedTerms v domains scope ts
  IsTypedTerm v domains scope (aggregate k bs f t) = Unit {0}

  pub AreTypedTerms : Vocabulary → List (List Elem) → List ℕ → TermTrees → Type 0
  AreTypedTerms v domains scope no_terms = Unit {0}
  AreTypedTerms v domains scope (more_terms t ts) = IsTypedTerm v domains scope t × AreTypedTerms v domains scope ts

  pub AreTypedSummands : Vocabulary → List (List Elem) → List ℕ → SummandTrees → Type 0
  AreTypedSummands v domains scope no_summands = Unit {0}
  AreTypedSummands v domains scope (more_summands minus t ss) =
      IsTypedTerm v domains scope t × AreTypedSummands v domains scope ss

  -- one argument for each of the types
  pub AreArguments : Vocabulary → List (List Elem) → List ℕ → List ℕ → TermTrees → Type 0
  AreArguments v domains scope [] no_terms = Unit {0}
  AreArguments v domains scope [] (more_terms t ts) = ⊥
  AreArguments v domains scope (ty ∷ types) no_terms = ⊥
  AreArguments v domains scope (ty ∷ types) (more_terms t ts) =
      IsOfType v domains scope ty t × IsTypedTerm v domains scope t × AreArguments v domains scope types ts
