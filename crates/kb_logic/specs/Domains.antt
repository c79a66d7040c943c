-- Domains as a vocabulary asks for them.
use Rattle.std.specs.Prelude.{◌≡◌, ◌≢◌, ◌≤◌, ◌≤ℤ◌, ℕ, ℤ, pos, neg_ℤ, List, [], map, length, Contains, ⊤}
use Rattle.std.specs.List.{AllByRecursion}
use Rattle.kb_logic.specs.declared.elements.Elem.{Elem}
use Rattle.kb_logic.specs.declared.elements.Elem.TheVariants.{Named, Num}
use Rattle.kb_logic.specs.declared.vocabularies.Parent.{Parent}
use Rattle.kb_logic.specs.declared.vocabularies.Parent.TheVariants.{Root, Int, Nat, Of}
use Rattle.kb_logic.specs.declared.vocabularies.TypeDecl.{TypeDecl}
use Rattle.kb_logic.specs.declared.vocabularies.Vocabulary.{Vocabulary}
use Rattle.kb_logic.specs.Structures.{domain_at, IsDistinct, EachWith}

-- an element of a type with this parent: any element where there is none; an integer under `int`, and one that is not
-- below 0 under `nat`; else an element of the parent
abbrev pub IsUnder : List (List Elem) → Parent → Elem → Type 0
IsUnder domains Root x = ⊤
IsUnder domains Int x = (z : ℤ) × (x ≡ Num z)
IsUnder domains Nat x = (n : ℕ) × (x ≡ Num (pos n))
IsUnder domains (Of ty) x = Contains (domain_at domains ty) x

-- an integer, where it is one, is from -1,000,000 to 1,000,000
abbrev pub IsInRange : Elem → Type 0
IsInRange (Named n) = ⊤
IsInRange (Num z) = (neg_ℤ (pos 1000000) ≤ℤ z) × (z ≤ℤ pos 1000000)

-- the domain of a type: no element stands twice, a constructed type has its names in their order, each element is one
-- of the type's parent, integers are in range, and there are at most 65,536 elements
pub record IsDomainOf (domains : List (List Elem)) (t : TypeDecl) (d : List Elem) : Type 0 where
  pub distinct : IsDistinct d
  pub names : t.made ≢ [] → d ≡ map Named t.made
  pub parent : AllByRecursion (IsUnder domains t.parent) d
  pub range : AllByRecursion IsInRange d
  pub few : length d ≤ 65536

-- the domains are as the vocabulary asks: one for each type, each as its declaration asks
abbrev pub AreDomainsOf : Vocabulary → List (List Elem) → Type 0
AreDomainsOf v domains = EachWith (IsDomainOf domains) v.types domains
