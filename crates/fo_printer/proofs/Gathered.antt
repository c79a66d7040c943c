-- Rows that are gathered one after another.
use Rattle.std.proofs.Common.{arith, zero, suc, drop, ◌≡◌, ◌<◌, ℕ, ◌+◌, Bool, true, false, List, [], ◌∷◌, ◌++◌, Some}
use Rattle.std.proofs.Common.{length, get_or, take, map, flat_map, refl, sym, ap, subst, ◌∙◌, append_assoc}
use Rattle.std.specs.Prelude.{filter, Contains, ◌||◌, ◌&&◌}
use Rattle.std.specs.List.{list_all}
use Rattle.std.proofs.lemmas.List.{append-nil, map-append, take_more}
use Rattle.std.proofs.lemmas.List.Elements.{filter-append, Contains-get_or}
use Rattle.std.proofs.lemmas.List.Folds.{list_all-append}
use Rattle.std.proofs.lemmas.Grind.{flat_map-append}
use Rattle.kb_logic.specs.declared.elements.Elem.{Elem}
use Rattle.kb_logic.specs.declared.vocabularies.Symbol.{Symbol}
use Rattle.kb_logic.specs.KnownAtoms.{KnownAtoms}
use Rattle.kb_logic.specs.Models.{GroundAtom, IsAtomOver}
use Rattle.partial_structures.specs.KnownAtoms.{value_at}
use Rattle.partial_structures.specs.declared.truths.Truth.TheVariants.{Yes}
use Rattle.printed_texts.specs.Entries.{element, lone_value, PlainRow, row_of, is_known_as, is_some_row, where_none}
use Rattle.printed_texts.specs.Entries.{is_settled, function_atoms, atoms_at, rows_where, rows_at}
use Rattle.printed_texts.specs.Texts.{row_text_of, next_row_text}
use Rattle.fo_printer.specs.declared.rows.RowText.{RowText}
use Rattle.fo_printer.specs.declared.gathering.SymbolText.{SymbolText}
use Rattle.fo_printer.specs.Gathering.{rows_text_after, HasMore, HasNotedAtoms, HasGathered, AreAtomsOver}

pub some_joined : (xs ys : List PlainRow) → is_some_row (xs ++ ys) ≡ (is_some_row xs || is_some_row ys)
some_joined [] ys = refl
some_joined (x ∷ xs) ys = refl

or_joined : (a b c : Bool) → ((a || b) || c) ≡ (a || (b || c))
or_joined true b c = refl
or_joined false b c = refl

and_joined : (a b c : Bool) → ((a && b) && c) ≡ (a && (b && c))
and_joined true b c = refl
and_joined false b c = refl

text_joined : (s : Bool) (xs ys : List PlainRow) → rows_text_after s (xs ++ ys) ≡ rows_text_after s xs
    ++ rows_text_after (s || is_some_row xs) ys
text_joined true xs ys = flat_map-append next_row_text xs ys
text_joined false [] ys = refl
text_joined false (x ∷ xs) ys =
    ap (λ (t : List ℕ). row_text_of x ++ t) (flat_map-append next_row_text xs ys)
    ∙ sym (append_assoc (row_text_of x) (flat_map next_row_text xs) (flat_map next_row_text ys))

pub more_rows : (a b c : RowText) (xs ys : List PlainRow) → HasMore a b xs → HasMore b c ys → HasMore a c (xs ++ ys)
more_rows a b c xs ys h k = record {
  some = k.some ∙ (rw (h.some, some_joined xs ys) (or_joined a.some (is_some_row xs) (is_some_row ys)));
  text = k.text ∙ (rw (h.text, h.some, text_joined a.some xs ys) (append_assoc a.text.items (rows_text_after a.some xs)
      (rows_text_after (a.some || is_some_row xs) ys)));
}

pub no_rows : (a : RowText) → HasMore a a []
no_rows a = record { some = nothing_more a.some; text = nothing_behind a.some a.text.items }
  where
    nothing_more : (b : Bool) → b ≡ (b || false)
    nothing_more true = refl
    nothing_more false = refl

    nothing_behind : (b : Bool) (xs : List ℕ) → xs ≡ xs ++ rows_text_after b []
    nothing_behind true xs = sym (append-nil xs)
    nothing_behind false xs = sym (append-nil xs)

-- one atom more of a function
taken : {A : Type 0} (xs : List A) (i : ℕ) (x : A) → i < length xs → x ≡ get_or xs i x
    → take (i + 1) xs ≡ take i xs ++ x ∷ []
taken {A = A} xs i x lt e = take_more xs i x lt ∙ ap (λ (y : A). take i xs ++ y ∷ []) (sym e)

pub rows_more : (holds : Bool) (k : KnownAtoms) (number : ℕ) (args values : List Elem) (i : ℕ) (x : Elem)
    → i < length values → x ≡ get_or values i x
    → rows_where holds k (function_atoms number args (take (i + 1) values))
    ≡ rows_where holds k (function_atoms number args (take i values)) ++ rows_where holds k
    (record { symbol = number; args = args; value = Some x } ∷ [])
rows_more holds k number args values i x lt e =
    let atom : Elem → GroundAtom = λ y. record { symbol = number; args = args; value = Some y } in
    rw (
      taken values i x lt e,
      map-append atom (take i values) (x ∷ []),
      filter-append (is_known_as holds k)
          (map atom (take i values)) (atom x ∷ []),
    )
    (map-append row_of (filter (is_known_as holds k) (map atom (take i values)))
    (filter (is_known_as holds k) (atom x ∷ [])))

pub over_at : (k : KnownAtoms) (number : ℕ) (args values : List Elem) (i : ℕ) → AreAtomsOver k number args values
    → i < length values
    → (n : ℕ) (ys : List Elem) → n ≡ number → ys ≡ args → (x z : Elem) → x ≡ get_or values i x → z ≡ x
    → IsAtomOver k.symbols k.domains (record { symbol = n; args = ys; value = Some z })
over_at k number args values i over lt n ys e f x z g h =
    rw (e, f, h) (over x (subst (λ (y : Elem). Contains values y) (sym g) (Contains-get_or values i x lt)))

-- the atoms for one tuple of arguments more
pub gathered_more : (k : KnownAtoms) (s : ℕ × Symbol) (ts : List (List Elem)) (t : List Elem) (a b c : SymbolText)
    → HasGathered k s ts a b
    → HasNotedAtoms k s.1.value (atoms_at k.domains s.0 s.1.value t) b c → HasGathered k s (ts ++ t ∷ []) a c
gathered_more k s ts t a b c h n = record {
  true_rows = subst (λ (rows : List PlainRow). HasMore a.trues c.trues rows) (sym (one_more (rows_at true k s) ts t))
      (more_rows a.trues b.trues c.trues _ _ h.true_rows n.true_rows);
  false_rows = subst (λ (rows : List PlainRow). HasMore a.falses c.falses rows)
      (sym (one_more (λ u. where_none (rows_at true k s u) (rows_at false k s u)) ts t))
      (more_rows a.falses b.falses c.falses _ _ h.false_rows n.false_rows);
  whole =
      n.whole ∙ ap (λ x. x && is_settled s.1.value (rows_at true k s t) (rows_at false k s t)) h.whole
      ∙ and_joined a.whole (list_all (settled k s) ts) (settled k s t)
      ∙ ap (λ x. a.whole && x) (ap (λ x. list_all (settled k s) ts && x) (and_true (settled k s t))
      ∙ sym (list_all-append (settled k s) ts (t ∷ [])));
}
  where
    settled : KnownAtoms → ℕ × Symbol → List Elem → Bool
    settled k s u = is_settled s.1.value (rows_at true k s u) (rows_at false k s u)

    one_more : {A B : Type 0} (f : A → List B) (xs : List A) (x : A) → flat_map f (xs ++ x ∷ []) ≡ flat_map f xs ++ f x
    one_more {B = B} f xs x = flat_map-append f xs (x ∷ []) ∙ ap (λ (ys : List B). flat_map f xs ++ ys)
        (append-nil (f x))

    and_true : (x : Bool) → x ≡ (x && true)
    and_true true = refl
    and_true false = refl

-- the value of a constant is the first that is certainly true
pub constant_found : (k : KnownAtoms) (number : ℕ) (args values : List Elem) (i : ℕ) (x : Elem) → i < length values
    → x ≡ get_or values i x
    → value_at k (record { symbol = number; args = args; value = Some x }) ≡ Yes
    → lone_value (rows_where true k (function_atoms number args (drop i values))) ≡ element x
constant_found k number args [] i x lt e y = absurd (omega arith)
constant_found k number args (z ∷ zs) zero x lt e y = rw (← e, y) refl
constant_found k number args (z ∷ zs) (suc i) x lt e y = constant_found k number args zs i x (omega arith) e y
