-- Keys of rows and atoms.
use Rattle.std.proofs.Common.{◌≡◌, ◌==◌, ◌&&◌, ◌||◌, ℕ, Bool, true, false, List, [], ◌∷◌, ◌++◌, Option, None, Some}
use Rattle.std.proofs.Common.{is_some, if◌then◌else◌, cond, map, refl, sym, ap, ◌∙◌}
use Rattle.std.specs.List.{list_any}
use Rattle.std.specs.Option.{option_map, option_eq}
use Rattle.std.specs.Map.{lookup}
use Rattle.std.proofs.lemmas.List.Folds.{list_any-append}
use Rattle.kb_logic.specs.declared.elements.Elem.{Elem}
use Rattle.stage_definitions.specs.Elements.{same_element}
use Rattle.stage_definitions.specs.DataFacts.{same_tuple, same_value_of}
use Rattle.data_refusals.specs.Labels.{label_view, tuple_view}
use Rattle.data_refusals.specs.declared.labels.Label.{Label}
use Rattle.data_refusals.specs.contracts.labels.LabelPartialEq.TheImpl.{ghosts as label_equality}
use Rattle.data_refusals.proofs.TupleSets.{label_test, tuple_test}
use Rattle.std.proofs.lemmas.Bool.{and_from, eq-eqb}
use Rattle.reading_laws.proofs.Same.{value_itself}
use Rattle.data_clashes.proofs.Kept.{tuple_same}
use Rattle.data_clashes.specs.Tables.{is_atom, is_denied, value_in}
use Rattle.data_clashes.specs.declared.keys.Key.{Key}
use Rattle.data_clashes.specs.contracts.keys.KeyPartialEq.TheImpl.{ghosts as key_equality}

value_test : (o u : Option Label) → option_eq label_equality.eq o u ≡ same_value_of (option_map label_view o)
    (option_map label_view u)
value_test None None = refl
value_test None (Some b) = refl
value_test (Some a) None = refl
value_test (Some a) (Some b) = label_test a b

pub key_test : (a b : Key) → key_equality.eq a b ≡ is_atom a.symbol (tuple_view a.args.items)
    (option_map label_view a.value) b
key_test a b =
    ap (λ t. (a.symbol == b.symbol) && (t && option_eq label_equality.eq a.value b.value))
    (tuple_test a.args.items b.args.items)
    ∙ ap (λ t. (a.symbol == b.symbol) && (same_tuple (tuple_view a.args.items) (tuple_view b.args.items) && t))
    (value_test a.value b.value)

-- ---- values of rows

abbrev value_views : Option (Option Label) → Option (Option Elem)
value_views o = option_map (λ (v : Option Label). option_map label_view v) o

found_by : (b : Bool) (v : Option Label) (o : Option (Option Label)) (rest : Option (Option Elem))
    → value_views o ≡ rest → value_views (cond b (Some v) o) ≡ (if b then Some (option_map label_view v) else rest)
found_by true v o rest e = refl
found_by false v o rest e = e

pub looked_up : (es : List (Key × Option Label)) (k : Key) → k.value ≡ None
    → value_views (lookup (key_equality.eq k) es) ≡ value_in es k.symbol (tuple_view k.args.items)
looked_up [] k n = refl
looked_up (e ∷ es) k n =
    found_by (key_equality.eq k e.0) e.1 (lookup (key_equality.eq k) es)
    (value_in es k.symbol (tuple_view k.args.items)) (looked_up es k n)
    ∙ ap (λ b. if b then Some (option_map label_view e.1) else value_in es k.symbol (tuple_view k.args.items))
    (key_test k e.0 ∙ ap (λ v. is_atom k.symbol (tuple_view k.args.items) (option_map label_view v) e.0) n)

pub none_views : (o : Option (Option Label)) → value_views o ≡ None → o ≡ None
none_views None h = refl
none_views (Some v) h = let n : Some (option_map label_view v) ≡ None = h in absurd (cc)

-- a value that is entered leaves those that stand there
pub still_in : (es more : List (Key × Option Label)) (s : ℕ) (xs : List Elem) (v : Option Elem)
    → value_in es s xs ≡ Some v → value_in (es ++ more) s xs ≡ Some v
still_in [] more s xs v h = let n : None ≡ Some v = h in absurd (cc)
still_in (e ∷ es) more s xs v h = by (is_atom s xs None e.0) (still_in es more s xs v) h
  where
    by : (b : Bool) → (value_in es s xs ≡ Some v → value_in (es ++ more) s xs ≡ Some v)
        → (if b then Some (option_map label_view e.1) else value_in es s xs) ≡ Some v
        → (if b then Some (option_map label_view e.1) else value_in (es ++ more) s xs) ≡ Some v
    by true later k = k
    by false later k = later k

-- a value that is entered stands there
pub now_in : (es : List (Key × Option Label)) (k : Key) (v : Option Label) (s : ℕ) (xs : List Elem)
    → value_in es s xs ≡ None → is_atom s xs None k ≡ true → value_in (es ++ (k, v) ∷ []) s xs
    ≡ Some (option_map label_view v)
now_in [] k v s xs h at = ap (λ b. if b then Some (option_map label_view v) else None) at
now_in (e ∷ es) k v s xs h at = by (is_atom s xs None e.0) (λ n. now_in es k v s xs n at) h
  where
    by : (b : Bool) → (value_in es s xs ≡ None → value_in (es ++ (k, v) ∷ []) s xs ≡ Some (option_map label_view v))
        → (if b then Some (option_map label_view e.1) else value_in es s xs) ≡ None
        → (if b then Some (option_map label_view e.1) else value_in (es ++ (k, v) ∷ []) s xs)
        ≡ Some (option_map label_view v)
    by true later n = let no : Some (option_map label_view e.1) ≡ None = n in absurd (cc)
    by false later n = later n

-- ---- atoms that are denied

pub denied_is : (ks : List Key) (k : Key) → list_any (key_equality.eq k) ks ≡ is_denied ks k.symbol
    (tuple_view k.args.items) (option_map label_view k.value)
denied_is [] k = refl
denied_is (d ∷ ds) k = ap (λ b. b || list_any (key_equality.eq k) ds) (key_test k d)
    ∙ ap (λ b. is_atom k.symbol (tuple_view k.args.items) (option_map label_view k.value) d || b) (denied_is ds k)

-- a key is that of its own atom
pub own_atom : (k : Key) → is_atom k.symbol (tuple_view k.args.items) (option_map label_view k.value) k ≡ true
own_atom k =
    let xs = tuple_view k.args.items in
    let v = option_map label_view k.value in
    and_from (k.symbol == k.symbol) (same_tuple xs xs && same_value_of v v) (eq-eqb k.symbol k.symbol refl)
    (and_from (same_tuple xs xs) (same_value_of v v) (tuple_same xs) (value_itself v))

pub own_row : (k : Key) → k.value ≡ None → is_atom k.symbol (tuple_view k.args.items) None k ≡ true
own_row k n = ap (λ v. is_atom k.symbol (tuple_view k.args.items) (option_map label_view v) k) (sym n) ∙ own_atom k
