-- The place of an element, where one more stands at the end of a domain.
use Rattle.std.proofs.Common.{◌≡◌, ℕ, ◌+◌, suc, List, [], ◌∷◌, ◌++◌, length, Option, None, Some, option_map, is_some}
use Rattle.std.proofs.Common.{map}
use Rattle.std.proofs.Common.{Bool, true, false, cond}
use Rattle.std.proofs.Common.{refl, sym, ap, ◌∙◌, arith}
use Rattle.std.specs.Ordering.{int_eq}
use Rattle.std.specs.Str.{bytes_eq}
use Rattle.kb_logic.specs.declared.elements.Elem.{Elem}
use Rattle.kb_logic.specs.Denotations.{Denotation, denotation_of, same_value, named, number, minus_infinity}
use Rattle.kb_logic.specs.Denotations.{plus_infinity, undefined}
use Rattle.kb_logic.specs.declared.elements.Elem.TheVariants.{Named, Num}
use Rattle.kb_logic.specs.Structures.{EachWith, domain_at}
use Rattle.indexmap.specs.IndexMap.{get_by}
use Rattle.std.proofs.Common.{ℤ, zero, slice_get, ◌≤◌}
use Rattle.kb_logic.proofs.Atoms.{same_is}
use Rattle.kb_logic.specs.Meaning.{behind, is_end}
use Rattle.term_values.specs.GroundBases.{row_index}
use Rattle.term_values.specs.DomainIndexes.{elem_index, index_in, IsIndexOf, AreIndexesOf}
use Rattle.term_values.specs.declared.domain_index.DomainIndex.{DomainIndex}

-- the place of an element is that of a row with it alone
pub single-index : (xs : List Elem) (v : Denotation) → row_index (map (λ x. x ∷ []) xs) (v ∷ []) ≡ elem_index xs v
single-index [] v = refl
single-index (x ∷ xs) v =
    ap (λ o. cond (is_end (behind (x ∷ []) (v ∷ []))) (Some 0) (option_map (λ i. 1 + i) o)) (single-index xs v)
    ∙ here (same_value (denotation_of x) v) (option_map (λ i. 1 + i) (elem_index xs v))
  where
    here : (b : Bool) (o : Option ℕ) → cond (is_end (cond b (Some []) None)) (Some 0) o ≡ cond b (Some 0) o
    here true o = refl
    here false o = refl

-- the first place, or else the second
abbrev pub first_of : Option ℕ → Option ℕ → Option ℕ
first_of (Some i) o = Some i
first_of None o = o

pub shifted : (b : Bool) (n : ℕ) (o p : Option ℕ)
    → cond b (Some 0) (option_map (λ i. 1 + i) (first_of o (option_map (λ i. n + i) p)))
    ≡ first_of (cond b (Some 0) (option_map (λ i. 1 + i) o)) (option_map (λ i. suc n + i) p)
shifted true n o p = refl
shifted false n (Some i) p = refl
shifted false n None None = refl
shifted false n None (Some i) = ap Some (let e : 1 + (n + i) ≡ suc n + i = omega arith in e)

pub elem_index_append : (xs ys : List Elem) (v : Denotation)
    → elem_index (xs ++ ys) v ≡ first_of (elem_index xs v) (option_map (λ i. length xs + i) (elem_index ys v))
elem_index_append [] ys v = by (elem_index ys v)
  where
    by : (o : Option ℕ) → o ≡ option_map (λ i. 0 + i) o
    by None = refl
    by (Some i) = ap Some (let e : i ≡ 0 + i = omega arith in e)
elem_index_append (x ∷ xs) ys v =
    ap (λ o. cond (same_value (denotation_of x) v) (Some 0) (option_map (λ i. 1 + i) o)) (elem_index_append xs ys v)
    ∙ shifted (same_value (denotation_of x) v) (length xs) (elem_index xs v) (elem_index ys v)

by_test : (xs : List Elem) (x : Elem) (v : Denotation) (n : ℕ) (b : Bool) → same_value (denotation_of x) v ≡ b
    → elem_index xs (denotation_of x) ≡ None → n ≡ length xs
    → first_of (elem_index xs v) (option_map (λ i. length xs + i) (cond b (Some 0) None))
    ≡ cond b (Some n) (elem_index xs v)
by_test xs x v n true t none at =
    let same = same_is (denotation_of x) v t in
    let absent : elem_index xs v ≡ None = ap (elem_index xs) (sym same) ∙ none in
    ap (λ o. first_of o (Some (length xs + 0))) absent ∙ ap Some (let e : length xs + 0 ≡ n = omega arith in e)
by_test xs x v n false t none at = whole (elem_index xs v)
  where
    whole : (o : Option ℕ) → first_of o None ≡ o
    whole None = refl
    whole (Some i) = refl

-- a new element
pub elem_index_push : (xs : List Elem) (x : Elem) (v : Denotation) (n : ℕ) → elem_index xs (denotation_of x) ≡ None
    → n ≡ length xs
    → elem_index (xs ++ x ∷ []) v ≡ cond (same_value (denotation_of x) v) (Some n) (elem_index xs v)
elem_index_push xs x v n none at =
    elem_index_append xs (x ∷ []) v ∙ by_test xs x v n (same_value (denotation_of x) v) refl none at

some_first : (o p : Option ℕ) → is_some o ≡ true → first_of o p ≡ o
some_first (Some i) p h = refl
some_first None p h = cc

none_more : (n : ℕ) (o : Option ℕ) (b : Bool) → (b ≡ true → is_some o ≡ true)
    → first_of o (option_map (λ i. n + i) (cond b (Some 0) None)) ≡ o
none_more n o true h = some_first o (Some (n + 0)) (h refl)
none_more n None false h = refl
none_more n (Some i) false h = refl

-- an element that was there before
pub elem_index_again : (xs : List Elem) (x : Elem) (v : Denotation) → is_some (elem_index xs (denotation_of x)) ≡ true
    → elem_index (xs ++ x ∷ []) v ≡ elem_index xs v
elem_index_again xs x v there =
    elem_index_append xs (x ∷ []) v
    ∙ none_more (length xs) (elem_index xs v) (same_value (denotation_of x) v)
    (λ t. ap (λ d. is_some (elem_index xs d)) (sym (same_is (denotation_of x) v t)) ∙ there)

module _ (d e : DomainIndex) (place : ℕ) (xs : List Elem) (is : IsIndexOf d xs) (at : place ≡ length xs) where
  absent : (x : Elem) (b : Bool) → b ≡ is_some (index_in d (denotation_of x)) → b ≡ false
      → elem_index xs (denotation_of x) ≡ None
  absent x b here no_ = gone (elem_index xs (denotation_of x)) (sym (ap is_some (is (denotation_of x)))
      ∙ sym here ∙ no_)
    where
      gone : (o : Option ℕ) → is_some o ≡ false → o ≡ None
      gone None h = refl
      gone (Some i) h = cc

  pub name_added : (w : List ℕ) (b : Bool) → b ≡ is_some (index_in d (named w)) → b ≡ false → e.numbers ≡ d.numbers
      → ((q : List ℕ) → index_in e (named q) ≡ cond (bytes_eq w q) (Some place) (index_in d (named q)))
      → IsIndexOf e (xs ++ Named w ∷ [])
  name_added w b here no_ numbers names v = by v
      ∙ sym (elem_index_push xs (Named w) v place (absent (Named w) b here no_) at)
    where
      by : (v : Denotation) → index_in e v ≡ cond (same_value (named w) v) (Some place) (elem_index xs v)
      by (named q) = names q ∙ ap (λ o. cond (bytes_eq w q) (Some place) o) (is (named q))
      by (number z) = ap (λ m. get_by (int_eq z) m) numbers ∙ is (number z)
      by minus_infinity = is minus_infinity
      by plus_infinity = is plus_infinity
      by undefined = is undefined

  pub number_added : (n : ℤ) (b : Bool) → b ≡ is_some (index_in d (number n)) → b ≡ false → e.names ≡ d.names
      → ((z : ℤ) → index_in e (number z) ≡ cond (int_eq n z) (Some place) (index_in d (number z)))
      → IsIndexOf e (xs ++ Num n ∷ [])
  number_added n b here no_ names numbers v = by v
      ∙ sym (elem_index_push xs (Num n) v place (absent (Num n) b here no_) at)
    where
      by : (v : Denotation) → index_in e v ≡ cond (same_value (number n) v) (Some place) (elem_index xs v)
      by (named q) = ap (λ m. get_by (λ k. bytes_eq q k.now) m) names ∙ is (named q)
      by (number z) = numbers z ∙ ap (λ o. cond (int_eq n z) (Some place) o) (is (number z))
      by minus_infinity = is minus_infinity
      by plus_infinity = is plus_infinity
      by undefined = is undefined

  pub added_again : (x : Elem) (b : Bool) → b ≡ is_some (index_in d (denotation_of x)) → b ≡ true
      → IsIndexOf d (xs ++ x ∷ [])
  added_again x b here yes_ v =
      is v ∙ sym (elem_index_again xs x v (sym (ap is_some (is (denotation_of x))) ∙ sym here ∙ yes_))

pub each_more : {A B : Type 0} (R : A → B → Type 0) (xs : List A) (ys : List B) (x : A) (y : B)
    → EachWith R xs ys → R x y
    → EachWith R (xs ++ x ∷ []) (ys ++ y ∷ [])
each_more R [] [] x y h r = (r, tt)
each_more R [] (z ∷ ys) x y h r = absurd h
each_more R (z ∷ xs) [] x y h r = absurd h
each_more R (z ∷ xs) (w ∷ ys) x y h r = (h.0, each_more R xs ys x y h.1 r)

-- the index of a type's domain
pub index_at : (ds : List DomainIndex) (domains : List (List Elem)) (ty : ℕ) (d : DomainIndex) (v : Denotation)
    → AreIndexesOf ds domains → slice_get ds ty ≡ Some d → index_in d v ≡ elem_index (domain_at domains ty) v
index_at [] domains ty d v each at = cc
index_at (e ∷ ds) [] ty d v each at = absurd each
index_at (e ∷ ds) (xs ∷ domains) zero d v each at =
    let same : d ≡ e = cc in
    ap (λ i. index_in i v) same ∙ each.0 v
index_at (e ∷ ds) (xs ∷ domains) (suc ty) d v each at = index_at ds domains ty d v each.1 at

-- there is none where there is no such type
pub no_index : (ds : List DomainIndex) (domains : List (List Elem)) (ty : ℕ) (v : Denotation) → AreIndexesOf ds domains
    → slice_get ds ty ≡ None → None ≡ elem_index (domain_at domains ty) v
no_index [] [] ty v each at = refl
no_index [] (xs ∷ domains) ty v each at = absurd each
no_index (e ∷ ds) [] ty v each at = absurd each
no_index (e ∷ ds) (xs ∷ domains) zero v each at = cc
no_index (e ∷ ds) (xs ∷ domains) (suc ty) v each at = no_index ds domains ty v each.1 at

pub slice_none : {X : Type 0} (xs : List X) (k : ℕ) → length xs ≤ k → slice_get xs k ≡ None
slice_none [] k h = refl
slice_none (x ∷ xs) zero h = absurd (omega (arith, h))
slice_none (x ∷ xs) (suc k) h = slice_none xs k (omega (arith, h))

pub elem_named : (x : Elem) (w : List ℕ) → denotation_of x ≡ named w → x ≡ Named w
elem_named (Named q) w h = let e : q ≡ w = cc in ap Named e
elem_named (Num z) w h = cc

pub elem_number : (x : Elem) (n : ℤ) → denotation_of x ≡ number n → x ≡ Num n
elem_number (Named q) n h = cc
elem_number (Num z) n h = let e : z ≡ n = cc in ap Num e
