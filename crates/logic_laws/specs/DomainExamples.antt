-- Worked examples of domains: a constructed type, one of natural numbers, a type below that, and one without a parent.
use Rattle.std.specs.Prelude.{ℕ, pos, negsuc, List, [], ◌∷◌}
use Rattle.kb_logic.specs.declared.elements.Elem.{Elem}
use Rattle.kb_logic.specs.declared.elements.Elem.TheVariants.{Named, Num}
use Rattle.kb_logic.specs.declared.vocabularies.Parent.{Parent}
use Rattle.kb_logic.specs.declared.vocabularies.Parent.TheVariants.{Root, Nat, Of}
use Rattle.kb_logic.specs.declared.vocabularies.TypeDecl.{TypeDecl}
use Rattle.kb_logic.specs.declared.vocabularies.Vocabulary.{Vocabulary}
use Rattle.kb_logic.specs.Domains.{AreDomainsOf}

abbrev pub declared_as : Parent → List (List ℕ) → TypeDecl
declared_as parent made = record { name = []; parent = parent; made = made }

-- type 0 is constructed from r and g, type 1 is under `nat`, type 2 is below type 1, and type 3 stands alone
abbrev pub four_types : Vocabulary
four_types = record {
  name = [];
  types = declared_as Root ((114 ∷ []) ∷ (103 ∷ []) ∷ []) ∷ declared_as Nat [] ∷ declared_as (Of 1)
      [] ∷ declared_as Root [] ∷ [];
  symbols = [];
}

abbrev pub r : Elem
r = Named (114 ∷ [])

abbrev pub g : Elem
g = Named (103 ∷ [])

abbrev pub numbers : List Elem
numbers = Num (pos 0) ∷ Num (pos 7) ∷ []

abbrev pub with_last : List Elem → List (List Elem)
with_last d = (r ∷ g ∷ []) ∷ numbers ∷ (Num (pos 7) ∷ []) ∷ d ∷ []

abbrev pub NoDomains : List (List Elem) → Type 0
NoDomains domains = AreDomainsOf four_types domains → ⊥

-- which of these are domains of the four types
pub record DomainExamples : Type 0 where
  pub mixed : AreDomainsOf four_types (with_last (r ∷ Num (negsuc 2) ∷ []))
  pub empty : AreDomainsOf four_types ((r ∷ g ∷ []) ∷ [] ∷ [] ∷ [] ∷ [])
  pub too_few_lists : NoDomains ((r ∷ g ∷ []) ∷ numbers ∷ (Num (pos 7) ∷ []) ∷ [])
  pub names_in_another_order : NoDomains ((g ∷ r ∷ []) ∷ [] ∷ [] ∷ [] ∷ [])
  pub negative_under_nat : NoDomains ((r ∷ g ∷ []) ∷ (Num (negsuc 0) ∷ []) ∷ [] ∷ [] ∷ [])
  pub word_under_nat : NoDomains ((r ∷ g ∷ []) ∷ (r ∷ []) ∷ [] ∷ [] ∷ [])
  pub outside_its_parent : NoDomains ((r ∷ g ∷ []) ∷ numbers ∷ (Num (pos 1) ∷ []) ∷ [] ∷ [])
  pub element_twice : NoDomains (with_last (r ∷ r ∷ []))
  pub out_of_range : NoDomains (with_last (Num (pos 1000001) ∷ []))
