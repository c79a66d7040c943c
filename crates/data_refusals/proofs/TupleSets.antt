-- Tuples in memory and in the definition are the same.
use Rattle.std.proofs.Common.{◌≡◌, ℕ, List, [], ◌∷◌, ◌++◌, map, Bool, true, false, ◌&&◌, ◌||◌}
use Rattle.std.proofs.Common.{if◌then◌else◌, refl, sym, ap, ◌∙◌, fold, filter, nat_lt, ◌<◌, arith, length-append, Vec}
use Rattle.std.proofs.Common.{subst}
use Rattle.std.specs.declared.alloc.Global.{Global}
use Rattle.std.specs.List.{list_any, filter_map}
use Rattle.std.specs.Cmp.Lexicographic.{pointwise}
use Rattle.std.proofs.lemmas.Bool.Decides.{nat_tests}
use Rattle.std.proofs.lemmas.Grind.{fold-append}
use Rattle.std.proofs.lemmas.List.Folds.{list_any-append}
use Rattle.std.proofs.lemmas.List.Elements.{filter_map-append, filter-append}
use Rattle.kb_logic.specs.declared.elements.Elem.{Elem}
use Rattle.indexmap.specs.IndexSet.{insert_key}
use Rattle.stage_definitions.specs.Elements.{same_element}
use Rattle.stage_definitions.specs.DataEntries.{Subject, WrittenRow, fits_in}
use Rattle.stage_definitions.specs.DataFacts.{same_tuple, single_elements, with_tuple}
use Rattle.stage_definitions.specs.SizesStage.{capped}
use Rattle.data_domains.proofs.Keys.{added_key}
use Rattle.data_refusals.specs.Labels.{label_view, tuple_view, AreSameTuples}
use Rattle.data_refusals.specs.declared.labels.Label.{Label}
use Rattle.data_refusals.specs.declared.labels.Label.TheVariants.{Word, Number}
use Rattle.data_refusals.specs.contracts.labels.LabelPartialEq.TheImpl.{ghosts as label_equality}

pub label_test : (a b : Label) → label_equality.eq a b ≡ same_element (label_view a) (label_view b)
label_test (Word a) (Word b) = refl
label_test (Word a) (Number b) = refl
label_test (Number a) (Word b) = refl
label_test (Number a) (Number b) = refl

pub tuple_test : (xs ys : List Label) → pointwise label_equality.eq xs ys ≡ same_tuple (tuple_view xs) (tuple_view ys)
tuple_test [] [] = refl
tuple_test [] (y ∷ ys) = refl
tuple_test (x ∷ xs) [] = refl
tuple_test (x ∷ xs) (y ∷ ys) = ap (λ b. b && pointwise label_equality.eq xs ys) (label_test x y)
    ∙ ap (λ b. same_element (label_view x) (label_view y) && b) (tuple_test xs ys)

or_turned : (a b : Bool) → (a || (b || false)) ≡ (b || a)
or_turned true true = refl
or_turned true false = refl
or_turned false true = refl
or_turned false false = refl

by_one : (xs ys : List (List Elem)) (t : List Elem) (b : Bool) → AreSameTuples xs ys
    → AreSameTuples (if b then xs else xs ++ t ∷ []) (if b then ys else t ∷ ys)
by_one xs ys t true s = s
by_one xs ys t false s = record {
  count = let l = length-append xs (t ∷ []) in omega (arith, l, s.count);
  among = λ v. list_any-append (same_tuple v) xs (t ∷ []) ∙ or_turned (list_any (same_tuple v) xs) (same_tuple v t)
      ∙ ap (λ b. same_tuple v t || b) (s.among v);
}

abbrev tuples_in : List (Vec Label Global) → List (List Elem)
tuples_in ks = map (λ (k : Vec Label Global). tuple_view k.items) ks

pub tuple_added : (ks new : List (Vec Label Global)) (k : Vec Label Global)
    → new ≡ insert_key (λ x y. pointwise label_equality.eq x.items y.items) ks k
    → (ts : List (List Elem)) → AreSameTuples (tuples_in ks) ts → AreSameTuples (tuples_in new)
    (with_tuple ts (tuple_view k.items))
tuple_added ks new k keys ts s =
    let f = λ (k : Vec Label Global). tuple_view k.items in
    let grown = added_key f (λ x y. pointwise label_equality.eq x.items y.items) same_tuple k ks new keys
    (λ d. tuple_test k.items d.items) in
    let both = by_one (map f ks) ts (f k) (list_any (same_tuple (f k)) ts) s in
    subst (λ xs. AreSameTuples xs (with_tuple ts (f k))) (sym (grown
    ∙ ap (λ b. if b then map f ks else map f ks ++ f k ∷ []) (s.among (f k)))) both

-- one row more
abbrev pub taken : (List Elem → Bool) → Subject → List WrittenRow → List (List Elem)
taken over x rs = filter over (filter_map (λ (r : WrittenRow). single_elements r.items) (filter (fits_in x) rs))

pub next_row : (over : List Elem → Bool) (x : Subject) (r : WrittenRow) (rs : List WrittenRow) (ts : List (List Elem))
    → fold with_tuple (fold with_tuple ts (taken over x (r ∷ []))) (taken over x rs) ≡ fold with_tuple ts
    (taken over x (r ∷ rs))
next_row over x r rs ts =
    let f = λ (r : WrittenRow). single_elements r.items in
    sym (fold-append with_tuple ts (taken over x (r ∷ [])) (taken over x rs))
    ∙ ap (fold with_tuple ts) (sym (ap (λ qs. filter over (filter_map f qs)) (filter-append (fits_in x) (r ∷ []) rs)
    ∙ ap (filter over) (filter_map-append f (filter (fits_in x) (r ∷ [])) (filter (fits_in x) rs))
    ∙ filter-append over (filter_map f (filter (fits_in x) (r ∷ []))) (filter_map f (filter (fits_in x) rs))))

pub fewer : (m n : ℕ) → m < 9223372036854775808 → nat_lt m (capped n) ≡ nat_lt m n
fewer m n h = grind (arith, nat_tests, h)
