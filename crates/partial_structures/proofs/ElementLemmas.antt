-- The tables of the elements of the types.
use Rattle.std.proofs.Common.{◌≡◌, ℕ, zero, suc, ◌+◌, ◌<◌, List, [], ◌∷◌, ◌++◌, length, take, Bool, true, false}
use Rattle.std.proofs.Common.{◌||◌, if◌then◌else◌, Option, None, Some, is_some, map, slice_get, refl, sym, ap, ◌∙◌}
use Rattle.std.proofs.Common.{subst, get_or}
use Rattle.std.proofs.Common.{inl, inr, arith, Contains, MatchBool}
use Rattle.std.specs.Prelude.{⊤}
use Rattle.std.specs.List.{list_any}
use Rattle.std.proofs.lemmas.Bool.{cases_Bool, true≢false, false_from_ne_true}
use Rattle.indexmap.specs.IndexSet.{insert_key}
use Rattle.kb_logic.specs.declared.elements.Elem.{Elem}
use Rattle.kb_logic.specs.Structures.{domain_at}
use Rattle.kb_logic.specs.Denotations.{Denotation, denotation_of}
use Rattle.kb_logic.proofs.Members.{some_one, one_is_some}
use Rattle.partial_structures.specs.Applications.{stands_in}
use Rattle.partial_structures.specs.Elements.{AreLabelsOf, HasElements, TellsElements, has_label_of, labels_at}
use Rattle.partial_structures.specs.Elements.{stands_for}
use Rattle.row_tries.specs.Rows.{same_label, same_optional_label, label_of, has_label}
use Rattle.row_tries.specs.Values.{value_label}
use Rattle.row_tries.specs.Words.{words_of}
use Rattle.row_tries.specs.declared.rows.Label.{Label}
use Rattle.row_tries.specs.contracts.rows.LabelPartialEq.TheImpl.{ghosts as label_equality}
use Rattle.row_tries.proofs.Growth.{same_label_refl}
use Rattle.partial_structures.proofs.Labelled.{typed_labelled}
use Rattle.row_tries.proofs.Labels.{label_test}
use Rattle.kb_logic.proofs.Atoms.{denotes_one}
use Rattle.kb_logic.proofs.Has.{has_from}
use Rattle.row_tries.proofs.Nodes.{same_label_is}
use Rattle.partial_structures.proofs.Walks.{stands, stands_is, value_injective, label_same}

-- ---- tests

or_false : (a : Bool) → (a || false) ≡ a
or_false true = refl
or_false false = refl

pub list_any-append : {X : Type 0} (p : X → Bool) (xs ys : List X) → list_any p (xs ++ ys)
    ≡ (list_any p xs || list_any p ys)
list_any-append p [] ys = refl
list_any-append p (x ∷ xs) ys = ap (λ b. p x || b) (list_any-append p xs ys) ∙ grouped (p x) (list_any p xs)
    (list_any p ys)
  where
    grouped : (a b c : Bool) → (a || (b || c)) ≡ ((a || b) || c)
    grouped true b c = refl
    grouped false b c = refl

any_more_at : {X : Type 0} (p : X → Bool) (xs : List X) (i : ℕ) (x : X) → i < length xs → x ≡ get_or xs i x
    → (list_any p (take i xs) || p x) ≡ list_any p (take (suc i) xs)
any_more_at p [] i x h e = absurd (omega (arith, h))
any_more_at p (y ∷ xs) zero x h e = ap p e ∙ sym (or_false (p y))
any_more_at p (y ∷ xs) (suc i) x h e = grouped (p y) (list_any p (take i xs)) (p x)
    ∙ ap (λ b. p y || b) (any_more_at p xs i x (omega (arith, h)) e)
  where
    grouped : (a b c : Bool) → ((a || b) || c) ≡ (a || (b || c))
    grouped true b c = refl
    grouped false b c = refl

pub any_more : {X : Type 0} (p : X → Bool) (xs : List X) (i : ℕ) (x : X) → i < length xs → x ≡ get_or xs i x
    → (list_any p (take i xs) || p x) ≡ list_any p (take (i + 1) xs)
any_more p xs i x h e =
    let next : suc i ≡ i + 1 = omega arith in
    any_more_at p xs i x h e ∙ ap (λ n. list_any p (take n xs)) next

-- ---- one label more

-- a label that is there already adds nothing
there_already : (l k : Label) (ks : List Label) → list_any (label_equality.eq k) ks ≡ true → same_label l k ≡ true
    → list_any (same_label l) ks ≡ true
there_already l k ks h i =
    let r = some_one (label_equality.eq k) ks h in
    let same : k ≡ r.0 = same_label_is k r.0 (sym (label_test k r.0) ∙ r.2) in
    one_is_some (same_label l) ks r.0 r.1 (subst (λ m. same_label l m ≡ true) same i)

by_presence : (l k : Label) (ks : List Label) (b : Bool) → list_any (label_equality.eq k) ks ≡ b
    → list_any (same_label l) (if b then ks else ks ++ k ∷ []) ≡ (list_any (same_label l) ks || same_label l k)
by_presence l k ks false h = list_any-append (same_label l) ks (k ∷ []) ∙ ap (λ b. list_any (same_label l) ks || b)
    (or_false (same_label l k))
by_presence l k ks true h = by (same_label l k) refl
  where
    by : (b : Bool) → same_label l k ≡ b → list_any (same_label l) ks ≡ (list_any (same_label l) ks || b)
    by true e = there_already l k ks h e ∙ ap (λ c. c || true) (sym (there_already l k ks h e))
    by false e = sym (or_false (list_any (same_label l) ks))

pub added_label : (ks new : List Label) (k : Label) → new ≡ insert_key label_equality.eq ks k → (l : Label)
    → list_any (same_label l) new ≡ (list_any (same_label l) ks || same_optional_label l (Some k))
added_label ks new k e l = ap (list_any (same_label l)) e
    ∙ by_presence l k ks (list_any (label_equality.eq k) ks) refl

pub nothing_added : (ks : List Label) (l : Label) → list_any (same_label l) ks
    ≡ (list_any (same_label l) ks || same_optional_label l None)
nothing_added ks l = sym (or_false (list_any (same_label l) ks))

pub next_label : (ws : List (List ℕ)) (xs : List Elem) (i : ℕ) (x : Elem) (old new : List Label) (label : Option Label)
    → i < length xs → x ≡ get_or xs i x → label ≡ label_of ws x
    → ((l : Label) → list_any (same_label l) new ≡ (list_any (same_label l) old || same_optional_label l label))
    → AreLabelsOf ws (take i xs) old → AreLabelsOf ws (take (i + 1) xs) new
next_label ws xs i x old new label lt is at added inv = λ l.
    added l ∙ ap (λ b. b || same_optional_label l label) (inv l)
    ∙ ap (λ o. list_any (stands_for ws l) (take i xs) || same_optional_label l o) at
    ∙ any_more (stands_for ws l) xs i x lt is

-- ---- type by type

-- each table has the labels of its domain
abbrev pub EachLabels : List (List ℕ) → List (List Elem) → List (List Label) → Type 0
EachLabels ws [] [] = ⊤
EachLabels ws [] (ls ∷ tables) = ⊥
EachLabels ws (d ∷ ds) [] = ⊥
EachLabels ws (d ∷ ds) (ls ∷ tables) = AreLabelsOf ws d ls × EachLabels ws ds tables

pub one_table_more : (ws : List (List ℕ)) (ds : List (List Elem)) (tables : List (List Label)) (d : List Elem)
    (ls : List Label) → EachLabels ws ds tables → AreLabelsOf ws d ls → EachLabels ws (ds ++ d ∷ []) (tables ++ ls ∷ [])
one_table_more ws [] [] d ls h k = (k, tt)
one_table_more ws [] (us ∷ tables) d ls h k = absurd h
one_table_more ws (e ∷ ds) [] d ls h k = absurd h
one_table_more ws (e ∷ ds) (us ∷ tables) d ls h k = (h.0, one_table_more ws ds tables d ls h.1 k)

pub each_type : (ws : List (List ℕ)) (ds : List (List Elem)) (tables : List (List Label)) → EachLabels ws ds tables
    → HasElements ws ds tables
each_type ws [] [] h = λ ty l. refl
each_type ws [] (ls ∷ tables) h = absurd h
each_type ws (d ∷ ds) [] h = absurd h
each_type ws (d ∷ ds) (ls ∷ tables) h = λ ty. by ty (each_type ws ds tables h.1)
  where
    by : (ty : ℕ) → HasElements ws ds tables
        → AreLabelsOf ws (domain_at (d ∷ ds) ty) (labels_at (ls ∷ tables) ty)
    by zero rest = h.0
    by (suc ty) rest = rest ty

pub labels_of_some : {X : Type 0} (labels : X → List Label) (ts : List X) (ty : ℕ) (t : X) → Some t ≡ slice_get ts ty
    → labels_at (map labels ts) ty ≡ labels t
labels_of_some labels [] ty t h = absurd (cc)
labels_of_some labels (s ∷ ts) zero t h = let is : s ≡ t = cc in ap labels is
labels_of_some labels (s ∷ ts) (suc ty) t h = labels_of_some labels ts ty t h

pub labels_of_none : {X : Type 0} (labels : X → List Label) (ts : List X) (ty : ℕ) → None ≡ slice_get ts ty
    → labels_at (map labels ts) ty ≡ []
labels_of_none labels [] ty h = refl
labels_of_none labels (s ∷ ts) zero h = absurd (cc)
labels_of_none labels (s ∷ ts) (suc ty) h = labels_of_none labels ts ty h

pub label_found : (k : Label) (ks : List Label) → list_any (label_equality.eq k) ks ≡ list_any (same_label k) ks
label_found k [] = refl
label_found k (d ∷ ks) = ap (λ b. b || list_any (label_equality.eq k) ks) (label_test k d)
    ∙ ap (λ b. same_label k d || b) (label_found k ks)

-- ---- what the table tells

same_optional_is : (l : Label) (o : Option Label) → same_optional_label l o ≡ true → o ≡ Some l
same_optional_is l None h = cc
same_optional_is l (Some k) h = ap Some (sym (same_label_is l k h))

label_stands : (ws : List (List ℕ)) (d : List Elem) (v : Denotation) (l : Label) → value_label ws v ≡ Some l
    → list_any (stands_for ws l) d ≡ stands_in d v
label_stands ws d v l e = elim (cases_Bool (stands_in d v)) [
  | inl h ↦
      let r = stands d v h in
      let label : label_of ws r.0 ≡ Some l = sym (label_same ws r.0) ∙ ap (value_label ws) r.2 ∙ e in
      one_is_some (stands_for ws l) d r.0 r.1 (ap (same_optional_label l) label ∙ same_label_refl l) ∙ sym h
  | inr h ↦
      false_from_ne_true (list_any (stands_for ws l) d) (λ i.
      let r = some_one (stands_for ws l) d i in
      let label : value_label ws (denotation_of r.0) ≡ Some l = label_same ws r.0
      ∙ same_optional_is l (label_of ws r.0) r.2 in
      let same : denotation_of r.0 ≡ v = value_injective ws (denotation_of r.0) v l label e in
      true≢false (sym (ap (stands_in d) (sym same) ∙ stands_is d r.0 (has_from d r.0 r.1)) ∙ h)) ∙ sym h
]

pub tells_elements : (ws : List (List ℕ)) (domains : List (List Elem)) (table : List (List Label))
    → ws ≡ words_of domains
    → HasElements ws domains table → TellsElements ws domains table
tells_elements ws domains table words has = λ ty v. by ty v (value_label ws v) refl
  where
    by : (ty : ℕ) (v : Denotation) (o : Option Label) → value_label ws v ≡ o → has_label_of table ty o ≡ stands_in
        (domain_at domains ty) v
    by ty v (Some l) e = has ty l ∙ label_stands ws (domain_at domains ty) v l e
    by ty v None e = sym (false_from_ne_true (stands_in (domain_at domains ty) v) (λ h.
        let r = stands (domain_at domains ty) v h in
        let none : label_of ws r.0 ≡ None = sym (label_same ws r.0) ∙ ap (value_label ws) r.2 ∙ e in
        let some : has_label ws r.0 ≡ true = subst (λ us. has_label us r.0 ≡ true) (sym words)
        (typed_labelled domains ty r.0 (has_from (domain_at domains ty) r.0 r.1)) in
        true≢false (sym some ∙ ap is_some none)))

-- so it tells of each element whether it is one of a type's
pub tells_membership : (ws : List (List ℕ)) (domains : List (List Elem)) (table : List (List Label))
    → ws ≡ words_of domains
    → HasElements ws domains table
    → (ty : ℕ) (x : Elem) → MatchBool (has_label_of table ty (label_of ws x)) (Contains (domain_at domains ty) x)
    (Contains (domain_at domains ty) x → ⊥)
tells_membership ws domains table words has ty x =
    let d = domain_at domains ty in
    let told : has_label_of table ty (label_of ws x) ≡ stands_in d (denotation_of x) =
    ap (has_label_of table ty) (sym (label_same ws x)) ∙ tells_elements ws domains table words has ty
    (denotation_of x) in
    subst (λ b. MatchBool b (Contains d x) (Contains d x → ⊥)) (sym told) (by d (stands_in d (denotation_of x)) refl)
  where
    by : (d : List Elem) (b : Bool) → stands_in d (denotation_of x) ≡ b → MatchBool b (Contains d x) (Contains d x → ⊥)
    by d true e =
        let r = stands d (denotation_of x) e in
        subst (Contains d) (denotes_one r.0 x r.2) r.1
    by d false e = λ m. true≢false (sym (stands_is d x (has_from d x m)) ∙ e)
