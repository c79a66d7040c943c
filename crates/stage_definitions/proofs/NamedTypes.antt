-- Where the stage of names refuses nothing, no type begins a cycle.
use Rattle.std.proofs.Common.{◌≡◌, ◌≤◌, ◌<◌, ◌⊎◌, inl, inr, ℕ, zero, suc, ◌+◌, Bool, true, false, IsTrue, is_some}
use Rattle.std.proofs.Common.{if◌then◌else◌, nat_lt, unwrap_or, List, [], ◌∷◌, ◌++◌, Option, None, Some, length, map}
use Rattle.std.proofs.Common.{refl, ap, sym, subst, arith, Contains, codes}
use Rattle.std.specs.Str.{bytes_eq}
use Rattle.std.proofs.lemmas.Bool.Decides.{nat_tests}
use Rattle.std.proofs.lemmas.List.Elements.{Contains-append_left, Contains-append_right}
use Rattle.kb_text.specs.declared.fault.KbFault.{KbFault}
use Rattle.stage_definitions.specs.Below.{HasNoCycle, Parents, type_above, type_parents}
use Rattle.stage_definitions.specs.Files.{Declaration, type_under, constructed_type, symbol, File}
use Rattle.stage_definitions.specs.Names.{Names, Meaning, undeclared, integers, naturals, a_type, predicate, function}
use Rattle.stage_definitions.specs.Names.{made, variable, meaning_in, meaning_of, declared, with_names, declared_names}
use Rattle.stage_definitions.specs.Names.{made_names, names_of, number_types, symbol_meaning, text_of}
use Rattle.stage_definitions.specs.NamesStage.{NamesRefuse, redeclared, too_large, begins_cycle, declarations_of}
use Rattle.stage_definitions.specs.NamesStage.{is_too_many, uses_of_file}
use Rattle.stage_definitions.specs.Numbering.{IsNamed, NamedFile, parent_named, parent_of, types_in, within_count}
use Rattle.stage_definitions.specs.Scopes.{Text}
use Rattle.grammar.specs.Trees.{Name}
use Rattle.stage_definitions.specs.Uses.{Use, climbs, counted, climbing_uses, cycle_uses, declared_uses, position}
use Rattle.stage_definitions.specs.Uses.{position_uses, parent_uses, parent_type, parents_in, type_in, type_names}
use Rattle.stage_definitions.specs.Uses.{uses_in_declarations, uses_of_declarations}
use Rattle.stage_definitions.proofs.EarliestLaws.{contains_head, contains_tail}

-- ---- at most 256 types

not_too_many : (t : ℕ) (b : Bool) → nat_lt 256 (t + 1) ≡ b → (IsTrue b → ⊥) → t + 1 ≤ 256
not_too_many t true e never = absurd (never refl)
not_too_many t false e never = grind (arith, nat_tests)

few_types : (ds : List Declaration) (t s : ℕ) → t ≤ 256 → ((u : Use) → Contains (uses_in_declarations t s ds) u
    → IsTrue (is_too_many u) → ⊥) → t + length (type_names ds) ≤ 256
few_types [] t s le fine = omega arith
few_types (type_under n p ∷ ds) t s le fine =
    let u : Use = counted 256 (t + 1) n in
    let more : t + 1 ≤ 256 = not_too_many t (nat_lt 256 (t + 1)) refl
    (fine u (contains_head u (parent_uses p ++ uses_in_declarations (t + 1) s ds) u refl)) in
    let rest : t + 1 + length (type_names ds) ≤ 256 =
    few_types ds (t + 1) s more (λ v there. fine v (Contains-append_right (u ∷ parent_uses p)
    (uses_in_declarations (t + 1) s ds) v there)) in
    omega arith
few_types (constructed_type n ns ∷ ds) t s le fine =
    let u : Use = counted 256 (t + 1) n in
    let w : Use = counted 65536 (length ns) n in
    let more : t + 1 ≤ 256 = not_too_many t (nat_lt 256 (t + 1)) refl
    (fine u (contains_head u (w ∷ uses_in_declarations (t + 1) s ds) u refl)) in
    let rest : t + 1 + length (type_names ds) ≤ 256 =
    few_types ds (t + 1) s more (λ v there. fine v (Contains-append_right (u ∷ w ∷ [])
    (uses_in_declarations (t + 1) s ds) v there)) in
    omega arith
few_types (symbol n args to ∷ ds) t s le fine =
    few_types ds t (s + 1) le
    (λ v there. fine v (Contains-append_right (counted 1024 (s + 1) n ∷ counted 8 (length args) n ∷
    (map position args ++ position_uses to)) (uses_in_declarations t (s + 1) ds) v there))

-- ---- each type is looked at

climbs_there : (ps : Parents) (ts : List Name) (j t i : ℕ) → t ≡ j + i → i < length ts
    → (n : Name) × Contains (climbing_uses ps j ts) (climbs ps t n)
climbs_there ps [] j t i e lt = absurd (omega arith)
climbs_there ps (n ∷ ts) j t zero e lt =
    let same : j ≡ t = omega arith in (
      n,
      contains_head (climbs ps j n) (climbing_uses ps (j + 1) ts) (climbs ps t n)
          (ap (λ (k : ℕ). climbs ps k n) same),
    )
climbs_there ps (n ∷ ts) j t (suc i) e lt =
    let r = climbs_there ps ts (j + 1) t i (omega arith) (omega arith) in
    (r.0, contains_tail (climbs ps j n) (climbing_uses ps (j + 1) ts) (climbs ps t r.0) r.1)

length_of_parents : (names : Names) (ds : List Declaration) → length (parents_in names ds) ≡ length (type_names ds)
length_of_parents names [] = refl
length_of_parents names (type_under n p ∷ ds) = ap suc (length_of_parents names ds)
length_of_parents names (constructed_type n ns ∷ ds) = ap suc (length_of_parents names ds)
length_of_parents names (symbol n args to ∷ ds) = length_of_parents names ds

not_so : (b : Bool) → (IsTrue b → ⊥) → b ≡ false
not_so true never = absurd (never refl)
not_so false never = refl

-- ---- the numbers of types are below their count

-- every type that a word means has a number below the count
abbrev IsLow : ℕ → Names → Type 0
IsLow count names = (w : Text) (t : ℕ) → meaning_in names w ≡ Some (a_type t) → t < count

abbrev AreLow : ℕ → List (Name × Meaning) → Type 0
AreLow count [] = Unit {0}
AreLow count (e ∷ es) = ((t : ℕ) → e.1 ≡ a_type t → t < count) × AreLow count es

low-append : (count : ℕ) (es fs : List (Name × Meaning)) → AreLow count es → AreLow count fs → AreLow count (es ++ fs)
low-append count [] fs l m = m
low-append count (e ∷ es) fs l m = (l.0, low-append count es fs l.1 m)

low_made : (count ty place : ℕ) (ns : List Name) → AreLow count (made_names ty place ns)
low_made count ty place [] = tt
low_made count ty place (n ∷ ns) = ((λ t e. absurd (let no : ⊥ = cc in no)), low_made count ty (place + 1) ns)

low_symbol : (count symbols n : ℕ) (value : Option Name) → (t : ℕ) → symbol_meaning symbols n value
    ≡ a_type t → t < count
low_symbol count symbols n None t e = absurd (let no : ⊥ = cc in no)
low_symbol count symbols n (Some v) t e = absurd (let no : ⊥ = cc in no)

below_by : (count t u : ℕ) → a_type t ≡ a_type u → t < count → u < count
below_by count t u e lt = let same : t ≡ u = cc in omega arith

low_names : (count : ℕ) (ds : List Declaration) (t s : ℕ) → t + length (type_names ds) ≤ count
    → AreLow count (declared_names t s ds)
low_names count [] t s le = tt
low_names count (type_under n p ∷ ds) t s le = (
  (λ u e. below_by count t u e (omega arith)),
  low_names count ds (t + 1) s (omega arith),
)
low_names count (constructed_type n ns ∷ ds) t s le = (
  (λ u e. below_by count t u e (omega arith)),
  low-append count (made_names t 0 ns) (declared_names (t + 1) s ds)
      (low_made count t 0 ns) (low_names count ds (t + 1) s (omega arith)),
)
low_names count (symbol n args to ∷ ds) t s le = (low_symbol count s (length args) to, low_names count ds t (s + 1) le)

pushed_by : (ns : Names) (w v : Text) (m x : Meaning) (t : ℕ) (b : Bool)
    → (if b then Some x else meaning_in (ns ++ (w, m) ∷ []) v) ≡ Some (a_type t)
    → (meaning_in (ns ++ (w, m) ∷ []) v ≡ Some (a_type t) → (meaning_in ns v ≡ Some (a_type t)) ⊎ (m ≡ a_type t))
    → ((if b then Some x else meaning_in ns v) ≡ Some (a_type t)) ⊎ (m ≡ a_type t)
pushed_by ns w v m x t true h go = inl h
pushed_by ns w v m x t false h go = go h

last_by : (m : Meaning) (t : ℕ) (b : Bool) → (if b then Some m else None) ≡ Some (a_type t)
    → ((◌≡◌ {A = Option Meaning} None (Some (a_type t))) ⊎ (m ≡ a_type t))
last_by m t true h = inr cc
last_by m t false h = inl h

pushed : (ns : Names) (w v : Text) (m : Meaning) (t : ℕ) → meaning_in (ns ++ (w, m) ∷ []) v ≡ Some (a_type t)
    → (meaning_in ns v ≡ Some (a_type t)) ⊎ (m ≡ a_type t)
pushed [] w v m t h = last_by m t (bytes_eq v w) h
pushed (e ∷ es) w v m t h = pushed_by es w v m e.1 t (bytes_eq v e.0) h (λ g. pushed es w v m t g)

low_declared_by : (count : ℕ) (ns : Names) (w : Text) (m : Meaning) (b : Bool) → IsLow count ns
    → ((t : ℕ) → m ≡ a_type t → t < count)
    → IsLow count (if b then ns else ns ++ (w, m) ∷ [])
low_declared_by count ns w m true low here = low
low_declared_by count ns w m false low here = λ v t h. elim (pushed ns w v m t h)
    [ inl old ↦ low v t old | inr new ↦ here t new ]

low_with : (count : ℕ) (ns : Names) (es : List (Name × Meaning)) → IsLow count ns → AreLow count es
    → IsLow count (with_names ns es)
low_with count ns [] low are = low
low_with count ns (e ∷ es) low are =
    low_with count (declared ns (text_of e.0) e.1) es (low_declared_by count ns (text_of e.0) e.1
    (is_some (meaning_in ns (text_of e.0))) low are.0) are.1

low_nothing : (count : ℕ) → IsLow count []
low_nothing count w t h = absurd (let no : ⊥ = cc in no)

low_taken : (count : ℕ) → IsLow count number_types
low_taken count =
    low_declared_by count ((codes "int", integers) ∷ []) (codes "nat") naturals false
    (low_declared_by count [] (codes "int") integers false (low_nothing count) (λ t e. absurd (let no : ⊥ = cc in no)))
    (λ t e. absurd (let no : ⊥ = cc in no))

-- ---- so the numbered parents are the declared ones

small : (t : ℕ) → t < 256 → within_count 256 t ≡ t
small t lt = let less : nat_lt t 256 ≡ true = grind (arith, nat_tests) in rw less refl

above_is : (m : Meaning) → ((t : ℕ) → m ≡ a_type t → t < 256) → type_above (parent_of m) ≡ type_in m
above_is undeclared low = refl
above_is integers low = refl
above_is naturals low = refl
above_is (a_type t) low = ap Some (small t (low t refl))
above_is (predicate s n) low = refl
above_is (function s n) low = refl
above_is (made t i) low = refl
above_is (variable level) low = refl

means_low : (count : ℕ) (o : Option Meaning) → ((t : ℕ) → o ≡ Some (a_type t) → t < count) → (t : ℕ)
    → unwrap_or o undeclared ≡ a_type t → t < count
means_low count None low t e = absurd (let no : ⊥ = cc in no)
means_low count (Some m) low t e = low t (ap Some e)

parent_is : (names : Names) → IsLow 256 names → (p : Option Name) → type_above (parent_named names p)
    ≡ parent_type names p
parent_is names low None = refl
parent_is names low (Some w) = above_is (meaning_of names (text_of w)) (means_low 256 (meaning_in names (text_of w))
    (low (text_of w)))

parents_are : (names : Names) → IsLow 256 names → (ds : List Declaration) → type_parents (types_in names ds)
    ≡ parents_in names ds
parents_are names low [] = refl
parents_are names low (type_under n p ∷ ds) = rw (parent_is names low p)
    (ap (λ (ps : Parents). parent_type names p ∷ ps) (parents_are names low ds))
parents_are names low (constructed_type n ns ∷ ds) = ap (λ (ps : Parents). None ∷ ps) (parents_are names low ds)
parents_are names low (symbol n args to ∷ ds) = parents_are names low ds

-- ---- the law

module _ (f : File) (accepted : (q : KbFault) → NamesRefuse f q → ⊥) where
  among : (u : Use) → Contains (uses_of_declarations (declarations_of f.vocabularies)) u → Contains (uses_of_file f) u
  among u there = Contains-append_left (uses_of_declarations (declarations_of f.vocabularies)) _ u there

  few : length (type_names (declarations_of f.vocabularies)) ≤ 256
  few =
      let ds : List Declaration = declarations_of f.vocabularies in
      let le : 0 + length (type_names (declarations_of f.vocabularies)) ≤ 256 =
      few_types ds 0 0 (omega arith)
      (λ u there many. accepted _ (too_large u (among u (Contains-append_left
      (declared_uses number_types (declared_names 0 0 ds) ++ uses_in_declarations 0 0 ds) (cycle_uses ds) u
      (Contains-append_right (declared_uses number_types (declared_names 0 0 ds)) (uses_in_declarations 0 0 ds) u
      there))) many)) in
      omega arith

  none_begins : (t : ℕ) → t < length (type_names (declarations_of f.vocabularies))
      → begins_cycle (parents_in (names_of (declarations_of f.vocabularies)) (declarations_of f.vocabularies)) t ≡ false
  none_begins t lt =
      let ds : List Declaration = declarations_of f.vocabularies in
      let there = climbs_there (parents_in (names_of ds) ds) (type_names ds) 0 t t (omega arith) lt in
      not_so (begins_cycle (parents_in (names_of ds) ds) t)
      (λ begins. accepted _ (redeclared (climbs (parents_in (names_of ds) ds) t there.0)
      (among (climbs (parents_in (names_of ds) ds) t there.0)
      (Contains-append_right (declared_uses number_types (declared_names 0 0 ds) ++ uses_in_declarations 0 0 ds)
      (cycle_uses ds) (climbs (parents_in (names_of ds) ds) t there.0) there.1)) begins))

  same_parents : type_parents (types_in (names_of (declarations_of f.vocabularies)) (declarations_of f.vocabularies))
      ≡ parents_in (names_of (declarations_of f.vocabularies)) (declarations_of f.vocabularies)
  same_parents =
      parents_are (names_of (declarations_of f.vocabularies))
      (low_with 256 number_types (declared_names 0 0 (declarations_of f.vocabularies)) (low_taken 256)
      (low_names 256 (declarations_of f.vocabularies) 0 0 (omega (arith, few))))
      (declarations_of f.vocabularies)

  no_cycle : HasNoCycle (type_parents (types_in (names_of (declarations_of f.vocabularies))
      (declarations_of f.vocabularies)))
  no_cycle =
      subst HasNoCycle (sym same_parents)
      (λ t lt. none_begins t (rw (length_of_parents (names_of (declarations_of f.vocabularies))
      (declarations_of f.vocabularies)) at lt))

pub named_without_cycles : (f : File) (answer : NamedFile) → IsNamed f answer
    → HasNoCycle (type_parents answer.vocabulary.types)
named_without_cycles f answer named =
    subst HasNoCycle (ap (λ (a : NamedFile). type_parents a.vocabulary.types) (sym named.tree))
    (no_cycle f named.accepted)
