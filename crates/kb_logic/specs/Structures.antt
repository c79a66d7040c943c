-- Structures over a vocabulary, as IDP3 has them: a domain for each type, a set of tuples for each predicate and one
-- value for each tuple of each function. A set of tuples is the list of its members in domain order, so that equal
-- structures are equal values.
use Rattle.std.specs.Prelude.{◌≡◌, ℕ, List, [], ◌∷◌, ◌++◌, map, length, filter, flat_map, Bool, slice_get, unwrap_or}
use Rattle.std.specs.Prelude.{is_some, is_none, IfSome, Contains, ⊤}
use Rattle.std.specs.List.{enumerate_from, AllByRecursion}
use Rattle.kb_logic.specs.declared.elements.Elem.{Elem}
use Rattle.kb_logic.specs.declared.vocabularies.Bound.{Bound}
use Rattle.kb_logic.specs.declared.vocabularies.Symbol.{Symbol}
use Rattle.kb_logic.specs.declared.vocabularies.Vocabulary.{Vocabulary}
use Rattle.kb_logic.specs.declared.structures.Table.{Table}
use Rattle.kb_logic.specs.declared.structures.Structure.{Structure}

-- the domain of a type
abbrev pub domain_at : List (List Elem) → ℕ → List Elem
domain_at domains ty = unwrap_or (slice_get domains ty) []

-- all lists with one element of each of these domains; the first place is the most significant
abbrev pub tuples_over : List (List Elem) → List (List Elem)
tuples_over [] = [] ∷ []
tuples_over (d ∷ ds) = flat_map (λ x. map (λ a. x ∷ a) (tuples_over ds)) d

-- all tuples of elements of these types, in domain order
abbrev pub tuples_of : List (List Elem) → List ℕ → List (List Elem)
tuples_of domains types = tuples_over (map (domain_at domains) types)

-- all assignments of elements to these variables: one element of each one's type, in domain order
abbrev pub choices : List (List Elem) → List Bound → List (List Elem)
choices domains bs = tuples_of domains (map (λ b. b.ty) bs)

-- no element stands twice
abbrev pub IsDistinct : {X : Type 0} → List X → Type 0
IsDistinct [] = ⊤
IsDistinct (x ∷ xs) = (Contains xs x → ⊥) × IsDistinct xs

-- the predicates with their numbers, in order of declaration
abbrev pub predicates_of : Vocabulary → List (ℕ × Symbol)
predicates_of v = filter (λ s. is_none s.1.value) (enumerate_from 0 v.symbols)

-- the functions with their numbers, in order of declaration
abbrev pub functions_of : Vocabulary → List (ℕ × Symbol)
functions_of v = filter (λ s. is_some s.1.value) (enumerate_from 0 v.symbols)

-- R holds of the first items of both lists, of the second items, and so on; the lists have one length
abbrev pub EachWith : {A B : Type 0} → (A → B → Type 0) → List A → List B → Type 0
EachWith R [] [] = ⊤
EachWith R [] (y ∷ ys) = ⊥
EachWith R (x ∷ xs) [] = ⊥
EachWith R (x ∷ xs) (y ∷ ys) = R x y × EachWith R xs ys

-- each element of the row is in the domain of its type
abbrev pub IsRowOver : List (List Elem) → List ℕ → List Elem → Type 0
IsRowOver domains types row = EachWith (λ ty x. Contains (domain_at domains ty) x) types row

-- the table of a predicate has those tuples over its types that pass some test, in domain order
pub record IsRelation (domains : List (List Elem)) (s : ℕ × Symbol) (t : Table) : Type 0 where
  pub symbol : t.symbol ≡ s.0
  pub rows : (test : List Elem → Bool) × (t.rows ≡ filter test (tuples_of domains s.1.args))

-- a function's row for some arguments has them and then one element of the value's domain
abbrev pub IsRowFor : List Elem → List Elem → List Elem → Type 0
IsRowFor values args row = (x : Elem) × Contains values x × (row ≡ args ++ x ∷ [])

-- the table of a function has one row for each tuple over its types, in domain order
pub record IsFunction (domains : List (List Elem)) (s : ℕ × Symbol) (t : Table) : Type 0 where
  pub symbol : t.symbol ≡ s.0
  pub rows : IfSome s.1.value (λ ty. EachWith (IsRowFor (domain_at domains ty)) (tuples_of domains s.1.args) t.rows)

-- m is a structure over the vocabulary
pub record IsStructure (v : Vocabulary) (m : Structure) : Type 0 where
  pub types : length m.domains ≡ length v.types
  pub distinct : AllByRecursion IsDistinct m.domains
  pub relations : EachWith (IsRelation m.domains) (predicates_of v) m.relations
  pub functions : EachWith (IsFunction m.domains) (functions_of v) m.functions
