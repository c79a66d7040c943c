-- The turns of the loops, and what is filled at last.
use Rattle.std.proofs.Common.{◌≡◌, ◌<◌, ◌≤◌, ℕ, zero, suc, ◌+◌, ℤ, pos, ◌+ℤ◌, List, [], ◌∷◌, ◌++◌, length, map, get_or}
use Rattle.std.proofs.Common.{refl, sym, ap, subst, ◌∙◌, arith, Contains}
use Rattle.std.specs.Prelude.{flat_map}
use Rattle.std.specs.List.{AllByRecursion, enumerate_from}
use Rattle.std.proofs.lemmas.Int.{ints}
use Rattle.std.proofs.lemmas.List.{map-append}
use Rattle.kb_logic.specs.declared.elements.Elem.{Elem}
use Rattle.kb_logic.specs.declared.elements.Elem.TheVariants.{Num}
use Rattle.kb_logic.specs.declared.vocabularies.TypeDecl.{TypeDecl}
use Rattle.kb_logic.specs.declared.vocabularies.Symbol.{Symbol}
use Rattle.kb_logic.specs.declared.vocabularies.Vocabulary.{Vocabulary}
use Rattle.kb_logic.specs.KnownAtoms.{KnownAtoms}
use Rattle.kb_logic.specs.Structures.{IsDistinct}
use Rattle.kb_logic.proofs.Members.{first, later, in_all}
use Rattle.partial_structures.specs.KnownAtoms.{nothing_known}
use Rattle.stage_definitions.specs.Elements.{span, as_interval, size_of, integers_from, members, listed}
use Rattle.stage_definitions.specs.DataAnswer.{given_by}
use Rattle.stage_definitions.specs.DataDomains.{cells_by, domains_of}
use Rattle.stage_definitions.specs.DataEntries.{Said, said_in}
use Rattle.stage_definitions.specs.DataFacts.{Fact, facts_of, facts_in}
use Rattle.reading_laws.proofs.Sharing.{listed_are_distinct}
use Rattle.data_filling.specs.Filling.{AreAccepted, known_from, IsFactOver, IsSubjectOver, Adds, Closes, fact_with}
use Rattle.data_filling.proofs.FactsOver.{each_over, subjects_over}
use Rattle.data_filling.proofs.RangeFacts.{facts_with, range_same, element_over, integers_more}
use Rattle.data_filling.proofs.Steps.{nothing_is, adds_then, adds_same}

-- ---- items of lists

pub at_item : {X Y : Type 0} (P : Y → Type 0) (f : X → Y) (xs : List X) (i : ℕ) (x : X) → i < length xs → x
    ≡ get_or xs i x → AllByRecursion P (map f xs) → P (f x)
at_item P f [] i x lt e h = absurd (omega (arith, lt))
at_item P f (y ∷ ys) zero x lt e h = subst (λ z. P (f z)) (sym e) h.0
at_item P f (y ∷ ys) (suc i) x lt e h = at_item P f ys i x (omega (arith, lt)) e h.1

all_front : {X : Type 0} (P : X → Type 0) (xs ys : List X) → AllByRecursion P (xs ++ ys) → AllByRecursion P xs
all_front P [] ys h = tt
all_front P (x ∷ xs) ys h = (h.0, all_front P xs ys h.1)

all_back : {X : Type 0} (P : X → Type 0) (xs ys : List X) → AllByRecursion P (xs ++ ys) → AllByRecursion P ys
all_back P [] ys h = h
all_back P (x ∷ xs) ys h = all_back P xs ys h.1

parted : {X Y : Type 0} (P : Y → Type 0) (F : X → List Y) (xs : List X) → AllByRecursion P (flat_map F xs)
    → AllByRecursion (λ x. AllByRecursion P (F x)) xs
parted P F [] h = tt
parted P F (x ∷ xs) h = (all_front P (F x) (flat_map F xs) h, parted P F xs (all_back P (F x) (flat_map F xs) h))

-- ---- facts over the same atoms

over_after : (old new : KnownAtoms) (ms : List Fact) → Adds old new ms → (f : Fact)
    → IsFactOver old.symbols old.domains f → IsFactOver new.symbols new.domains f
over_after old new ms a f h =
    subst (λ (ds : List (List Elem)). IsFactOver new.symbols ds f) (sym a.domains)
    (subst (λ (ss : List Symbol). IsFactOver ss old.domains f) (sym a.symbols) h)

pub fact_after : {X : Type 0} (view : X → Fact) (old new : KnownAtoms) (ms : List Fact) → Adds old new ms
    → (xs : List X) (i : ℕ) (x : X) → i < length xs → x ≡ get_or xs i x
    → AllByRecursion (IsFactOver old.symbols old.domains) (map view xs) → IsFactOver new.symbols new.domains (view x)
fact_after view old new ms a xs i x lt e h = over_after old new ms a (view x)
    (at_item (IsFactOver old.symbols old.domains) view xs i x lt e h)

all_after : (old new : KnownAtoms) (ms : List Fact) → Adds old new ms → (fs : List Fact)
    → AllByRecursion (IsFactOver old.symbols old.domains) fs → AllByRecursion (IsFactOver new.symbols new.domains) fs
all_after old new ms a [] h = tt
all_after old new ms a (f ∷ fs) h = (over_after old new ms a f h.0, all_after old new ms a fs h.1)

pub facts_after : {X : Type 0} (view : X → Said) (old new : KnownAtoms) (ms : List Fact) → Adds old new ms
    → (xs : List X) (i : ℕ) (x : X) → i < length xs → x ≡ get_or xs i x
    → AllByRecursion (IsFactOver old.symbols old.domains) (facts_in (map view xs))
    → AllByRecursion (IsFactOver new.symbols new.domains) (facts_of (view x))
facts_after view old new ms a xs i x lt e h =
    all_after old new ms a (facts_of (view x))
    (at_item (λ y. AllByRecursion (IsFactOver old.symbols old.domains) (facts_of y)) view xs i x lt e
    (parted (IsFactOver old.symbols old.domains) facts_of (map view xs) h))

pub subject_after : {X : Type 0} (view : X → Said) (old new : KnownAtoms) (ms : List Said) → Closes old new ms
    → (xs : List X) (i : ℕ) (x : X) → i < length xs → x ≡ get_or xs i x
    → AllByRecursion (IsSubjectOver old.symbols) (map view xs) → IsSubjectOver new.symbols (view x)
subject_after view old new ms a xs i x lt e h = subst (λ (ss : List Symbol). IsSubjectOver ss (view x)) (sym a.symbols)
    (at_item (IsSubjectOver old.symbols) view xs i x lt e h)

-- some of what is left, after what was added before it
pub part_after : (old now : KnownAtoms) (done one rest whole : List Fact) → Adds old now done
    → done ++ (one ++ rest) ≡ whole → AllByRecursion (IsFactOver old.symbols old.domains) whole
    → AllByRecursion (IsFactOver now.symbols now.domains) one
part_after old now done one rest whole a e h =
    let P = IsFactOver old.symbols old.domains in
    all_after old now done a one (all_front P one rest (all_back P done (one ++ rest)
    (subst (λ (fs : List Fact). AllByRecursion P fs) (sym e) h)))

-- ---- ranges

integer_in : (z : ℤ) (n k : ℕ) → k < n → Contains (integers_from z n) (Num (z +ℤ pos k))
integer_in z zero k lt = absurd (omega (arith, lt))
integer_in z (suc n) zero lt =
    let same : z ≡ z +ℤ pos 0 = omega (arith, ints) in
    subst (λ (y : ℤ). Contains (Num z ∷ integers_from (z +ℤ pos 1) n) (Num y)) same
    (first (Num z) (integers_from (z +ℤ pos 1) n))
integer_in z (suc n) (suc k) lt =
    let same : (z +ℤ pos 1) +ℤ pos k ≡ z +ℤ pos (suc k) = omega (arith, ints) in
    later (Num z) (Num (z +ℤ pos (suc k))) (integers_from (z +ℤ pos 1) n)
    (subst (λ (y : ℤ). Contains (integers_from (z +ℤ pos 1) n) (Num y)) same
    (integer_in (z +ℤ pos 1) n k (omega (arith, lt))))

module _ (f : Fact) (a b : ℤ) (args : f.args ≡ span a b ∷ []) where
  pub number_over : (old new : KnownAtoms) (ms : List Fact) → Adds old new ms → IsFactOver old.symbols old.domains f
      → (n k : ℕ) → n ≡ size_of (as_interval a b) → k < n
      → IsFactOver new.symbols new.domains (fact_with f (Num (a +ℤ pos k) ∷ []))
  number_over old new ms h over n k e lt =
      over_after old new ms h (fact_with f (Num (a +ℤ pos k) ∷ []))
      (element_over f (span a b) args old.symbols old.domains over (Num (a +ℤ pos k))
      (integer_in a (size_of (as_interval a b)) k (omega (arith, e, lt))))

  pub next_number : (old now new : KnownAtoms) (k : ℕ) → Adds old now (facts_with f (integers_from a k))
      → Adds now new (fact_with f (Num (a +ℤ pos k) ∷ []) ∷ [])
      → Adds old new (facts_with f (integers_from a (k + 1)))
  next_number old now new k h g =
      let next : k + 1 ≡ suc k = omega arith in
      let more : facts_with f (integers_from a k) ++ fact_with f (Num (a +ℤ pos k) ∷ []) ∷ []
      ≡ facts_with f (integers_from a (suc k)) =
      sym (map-append (λ x. fact_with f (x ∷ [])) (integers_from a k) (Num (a +ℤ pos k) ∷ []))
      ∙ ap (facts_with f) (sym (integers_more a k)) in
      subst (λ (n : ℕ). Adds old new (facts_with f (integers_from a n))) (sym next)
      (subst (λ (fs : List Fact). Adds old new fs) more (adds_then old now new (facts_with f (integers_from a k))
      (fact_with f (Num (a +ℤ pos k) ∷ []) ∷ []) h g))

  pub all_numbers : (old new : KnownAtoms) (n k : ℕ) → n ≡ size_of (as_interval a b) → n ≤ k → k ≤ n
      → Adds old new (facts_with f (integers_from a k)) → Adds old new (f ∷ [])
  all_numbers old new n k e le ge h =
      let same : k ≡ size_of (as_interval a b) = omega (arith, e, le, ge) in
      adds_same old new (facts_with f (members (span a b))) (f ∷ [])
      (subst (λ (m : ℕ). Adds old new (facts_with f (integers_from a m))) same h) (range_same f (span a b) args)

-- ---- the whole

as_many : (types : List TypeDecl) (es : List Said) (n : ℕ) (ds : List TypeDecl)
    → length (map (λ t. listed (cells_by types es t.0 t.1)) (enumerate_from n ds)) ≡ length ds
as_many types es n [] = refl
as_many types es n (d ∷ ds) = ap suc (as_many types es (n + 1) ds)

pub each_type : (v : Vocabulary) (es : List Said) (domains : List (List Elem)) → domains ≡ domains_of v.types es
    → length domains ≡ length v.types
each_type v es domains e = ap length e ∙ as_many v.types es 0 v.types

each_distinct : (types : List TypeDecl) (es : List Said) (n : ℕ) (ds : List TypeDecl)
    → AllByRecursion IsDistinct (map (λ t. listed (cells_by types es t.0 t.1)) (enumerate_from n ds))
each_distinct types es n [] = tt
each_distinct types es n (d ∷ ds) = (listed_are_distinct (cells_by types es n d), each_distinct types es (n + 1) ds)

pub are_distinct : (v : Vocabulary) (es : List Said) (domains : List (List Elem)) → domains ≡ domains_of v.types es
    → AllByRecursion IsDistinct domains
are_distinct v es domains e = subst (λ (ds : List (List Elem)). AllByRecursion IsDistinct ds) (sym e)
    (each_distinct v.types es 0 v.types)

module _ (v : Vocabulary) (es : List Said) (a : AreAccepted v es) where
  abbrev AreFacts : List Said → Type 0
  AreFacts ds = AllByRecursion (IsFactOver v.symbols (domains_of v.types ds)) (facts_in ds)

  facts_over : AreFacts es
  facts_over =
      subst AreFacts (sym a.said)
      (in_all (IsFactOver v.symbols (domains_of v.types (said_in v a.structure))) (facts_in (said_in v a.structure))
      (λ f c. each_over v a.structure a.places a.accepted f c))

  subjects_are : AllByRecursion (IsSubjectOver v.symbols) es
  subjects_are =
      subst (λ (ds : List Said). AllByRecursion (IsSubjectOver v.symbols) ds) (sym a.said)
      (in_all (IsSubjectOver v.symbols) (said_in v a.structure)
      (λ e c. subjects_over v a.structure a.places a.accepted e c))

  pub facts_at_first : (domains : List (List Elem)) → domains ≡ domains_of v.types es → (k : KnownAtoms) → k
      ≡ nothing_known v.symbols domains
      → AllByRecursion (IsFactOver k.symbols k.domains) (facts_in es)
  facts_at_first domains e k h =
      subst (λ (j : KnownAtoms). AllByRecursion (IsFactOver j.symbols j.domains) (facts_in es)) (sym h)
      (subst (λ (ds : List (List Elem)). AllByRecursion (IsFactOver v.symbols ds) (facts_in es)) (sym e) facts_over)

  pub subjects_then : (domains : List (List Elem)) (k j : KnownAtoms) (ms : List Fact) → k
      ≡ nothing_known v.symbols domains → Adds k j ms → AllByRecursion (IsSubjectOver j.symbols) es
  subjects_then domains k j ms h g =
      subst (λ (ss : List Symbol). AllByRecursion (IsSubjectOver ss) es)
      (sym (g.symbols ∙ ap (λ (l : KnownAtoms). l.symbols) h)) subjects_are

pub filled : (v : Vocabulary) (es : List Said) (domains : List (List Elem)) → domains ≡ domains_of v.types es
    → (k j l : KnownAtoms) → k ≡ nothing_known v.symbols domains
    → Adds k j (facts_in es) → Closes j l es → l ≡ given_by v es
filled v es domains e k j l h g c =
    let start : k ≡ nothing_known v.symbols (domains_of v.types es) = h ∙ ap (nothing_known v.symbols) e in
    let added : Adds (nothing_known v.symbols (domains_of v.types es)) j (facts_in es) =
    subst (λ (i : KnownAtoms). Adds i j (facts_in es)) start g in
    let known : j ≡ known_from v.symbols (domains_of v.types es) (facts_in es) [] =
    added.known [] (nothing_is v.symbols (domains_of v.types es)) in
    let closed : Closes (known_from v.symbols (domains_of v.types es) (facts_in es) []) l es =
    subst (λ (i : KnownAtoms). Closes i l es) known c in
    closed.known (facts_in es) [] refl
