-- The entries of a partial structure: each has the form that its word asks for, and its rows are over the domains.
use Rattle.std.proofs.Common.{arith, nat_lt, ◌==◌, ◌≡◌, ℕ, suc, Bool, true, false, ◌&&◌, ◌||◌, List, [], ◌∷◌, ◌++◌}
use Rattle.std.proofs.Common.{length, map, Option, None, Some, flat_map, refl, sym, ap, subst, ◌∙◌, ◌⊎◌, inl, inr}
use Rattle.std.proofs.Common.{if◌then◌else◌}
use Rattle.std.specs.Prelude.{Contains, codes}
use Rattle.std.specs.List.{AllByRecursion, enumerate_from}
use Rattle.std.specs.Str.{bytes_eq}
use Rattle.std.proofs.lemmas.List.{append-nil}
use Rattle.std.proofs.lemmas.Bool.{true≢false}
use Rattle.std.proofs.lemmas.Bool.Decides.{nat_tests}
use Rattle.kb_logic.specs.declared.elements.Elem.{Elem}
use Rattle.kb_logic.specs.declared.vocabularies.TypeDecl.{TypeDecl}
use Rattle.kb_logic.specs.declared.vocabularies.Symbol.{Symbol}
use Rattle.kb_logic.specs.declared.vocabularies.Vocabulary.{Vocabulary}
use Rattle.kb_logic.specs.Models.{HasValueIn}
use Rattle.kb_logic.specs.Structures.{EachWith, domain_at}
use Rattle.kb_logic.specs.KnownAtoms.{KnownAtoms}
use Rattle.kb_logic.proofs.Atoms.{tuple_elements}
use Rattle.kb_logic.proofs.Has.{Has, map_has, has_flat_map, flat_map_has, has_left, has_right, has_either}
use Rattle.kb_logic.proofs.Has.{contains_from}
use Rattle.grammar.specs.BlockTrees as raw
use Rattle.stage_definitions.specs.DataEntries.{Subject, a_type, a_symbol, argument_types, value_type, Sense}
use Rattle.stage_definitions.specs.DataEntries.{everything}
use Rattle.stage_definitions.specs.DataEntries.{certainly_true, certainly_false, unread, form_of_symbol, has_form}
use Rattle.stage_definitions.specs.DataEntries.{is_truth}
use Rattle.printed_texts.specs.Entries.{PlainRow, table, PlainEntry, alone, list_of, type_entries, rows_at, is_some_row}
use Rattle.printed_texts.specs.Entries.{where_none, is_settled, tuples_for, is_whole, true_rows, false_rows}
use Rattle.printed_texts.specs.Entries.{alone_value}
use Rattle.printed_texts.specs.Entries.{whole_value, marked, symbol_entries, entries_of}
use Rattle.printed_texts.specs.Saying.{rows_said, says_truth, SaysValue}
use Rattle.printed_texts.proofs.Each.{has_all}
use Rattle.printed_texts.proofs.KnownRows.{IsRowOf, true_row, false_row}

-- ---- which entries there are

abbrev pub listing_of : KnownAtoms → ℕ × TypeDecl → PlainEntry
listing_of k t = record { word = t.1.name; mark = None; value = table (map alone (domain_at k.domains t.0)) }

abbrev pub whole_of : KnownAtoms → ℕ × Symbol → PlainEntry
whole_of k s = record { word = s.1.name; mark = None; value = whole_value s.1.args (true_rows k s) }

abbrev pub certain_of : KnownAtoms → ℕ × Symbol → PlainEntry
certain_of k s = record { word = s.1.name; mark = Some (codes "ct"); value = table (true_rows k s) }

abbrev pub denied_of : KnownAtoms → ℕ × Symbol → PlainEntry
denied_of k s = record { word = s.1.name; mark = Some (codes "cf"); value = table (false_rows k s) }

pub data EntryOf (v : Vocabulary) (k : KnownAtoms) : PlainEntry → Type 0 where
  listing : (t : ℕ × TypeDecl) → Has (enumerate_from 0 v.types) t → t.1.made ≡ [] → EntryOf v k (listing_of k t)
  whole : (s : ℕ × Symbol) → Has (enumerate_from 0 k.symbols) s → is_whole k s ≡ true → EntryOf v k (whole_of k s)
  certain : (s : ℕ × Symbol) → Has (enumerate_from 0 k.symbols) s → is_whole k s ≡ false
      → is_some_row (true_rows k s) ≡ true → EntryOf v k (certain_of k s)
  denied : (s : ℕ × Symbol) → Has (enumerate_from 0 k.symbols) s → is_whole k s ≡ false
      → is_some_row (false_rows k s) ≡ true → EntryOf v k (denied_of k s)

of_list : (name : List ℕ) (made : List (List ℕ)) (domain : List Elem) (p : PlainEntry)
    → Has (list_of name made domain) p
    → (made ≡ []) × (record { word = name; mark = None; value = table (map alone domain) } ≡ p)
of_list name [] domain p (inl e) = (refl, e)
of_list name [] domain p (inr h) = absurd h
of_list name (n ∷ ns) domain p h = absurd h

pub in_list : (name : List ℕ) (made : List (List ℕ)) (domain : List Elem) → made ≡ []
    → Has (list_of name made domain) (record { word = name; mark = None; value = table (map alone domain) })
in_list name [] domain e = inl refl
in_list name (n ∷ ns) domain e = absurd (cc)

of_marked : (name mark : List ℕ) (rows : List PlainRow) (p : PlainEntry) → Has (marked name mark rows) p
    → (is_some_row rows ≡ true) × (record { word = name; mark = Some mark; value = table rows } ≡ p)
of_marked name mark [] p h = absurd h
of_marked name mark (r ∷ rs) p (inl e) = (refl, e)
of_marked name mark (r ∷ rs) p (inr h) = absurd h

pub in_marked : (name mark : List ℕ) (rows : List PlainRow) → is_some_row rows ≡ true
    → Has (marked name mark rows) (record { word = name; mark = Some mark; value = table rows })
in_marked name mark [] e = absurd (true≢false (sym e))
in_marked name mark (r ∷ rs) e = inl refl

module _ (v : Vocabulary) (k : KnownAtoms) where
  of_type : (t : ℕ × TypeDecl) → Has (enumerate_from 0 v.types) t → (p : PlainEntry) → Has (type_entries k.domains t) p
      → EntryOf v k p
  of_type t m p h = let r = of_list t.1.name t.1.made (domain_at k.domains t.0) p h in
      subst (EntryOf v k) r.1 (listing t m r.0)

  of_symbol : (s : ℕ × Symbol) → Has (enumerate_from 0 k.symbols) s → (p : PlainEntry) → Has (symbol_entries k s) p
      → EntryOf v k p
  of_symbol s m p h = by (is_whole k s) refl h
    where
      open_ : is_whole k s ≡ false → Has (marked s.1.name (codes "ct") (true_rows k s)) p
          ⊎ Has (marked s.1.name (codes "cf") (false_rows k s)) p → EntryOf v k p
      open_ e (inl h) = let r = of_marked s.1.name (codes "ct") (true_rows k s) p h in
          subst (EntryOf v k) r.1 (certain s m e r.0)
      open_ e (inr h) = let r = of_marked s.1.name (codes "cf") (false_rows k s) p h in
          subst (EntryOf v k) r.1 (denied s m e r.0)

      by : (b : Bool) → is_whole k s ≡ b
          → Has (if b then whole_of k s ∷ [] else marked s.1.name (codes "ct") (true_rows k s) ++ marked s.1.name
          (codes "cf") (false_rows k s)) p → EntryOf v k p
      by true e (inl f) = subst (EntryOf v k) f (whole s m e)
      by true e (inr f) = absurd f
      by false e f = open_ e (has_either (marked s.1.name (codes "ct") (true_rows k s))
          (marked s.1.name (codes "cf") (false_rows k s)) p f)

  pub entry_kind : (p : PlainEntry) → Has (entries_of v k) p → EntryOf v k p
  entry_kind p h = elim (has_either (flat_map (type_entries k.domains) (enumerate_from 0 v.types))
      (flat_map (symbol_entries k) (enumerate_from 0 k.symbols)) p h) [
        | inl a ↦ let r = flat_map_has (type_entries k.domains) (enumerate_from 0 v.types) p a in of_type r.0 r.1 p r.2
        | inr b ↦ let r = flat_map_has (symbol_entries k) (enumerate_from 0 k.symbols) p b in of_symbol r.0 r.1 p r.2
      ]

  pub has_listing : (t : ℕ × TypeDecl) → Has (enumerate_from 0 v.types) t → t.1.made ≡ []
      → Has (entries_of v k) (listing_of k t)
  has_listing t m e =
      has_left (flat_map (type_entries k.domains) (enumerate_from 0 v.types))
      (flat_map (symbol_entries k) (enumerate_from 0 k.symbols)) (listing_of k t)
      (has_flat_map (type_entries k.domains) (enumerate_from 0 v.types) t (listing_of k t) m
      (in_list t.1.name t.1.made (domain_at k.domains t.0) e))

  pub has_symbol_entry : (s : ℕ × Symbol) → Has (enumerate_from 0 k.symbols) s → (p : PlainEntry)
      → Has (symbol_entries k s) p → Has (entries_of v k) p
  has_symbol_entry s m p h =
      has_right (flat_map (type_entries k.domains) (enumerate_from 0 v.types))
      (flat_map (symbol_entries k) (enumerate_from 0 k.symbols)) p
      (has_flat_map (symbol_entries k) (enumerate_from 0 k.symbols) s p m h)

pub has_whole : (k : KnownAtoms) (s : ℕ × Symbol) → is_whole k s ≡ true → Has (symbol_entries k s) (whole_of k s)
has_whole k s e = rw e (inl refl)

pub has_certain : (k : KnownAtoms) (s : ℕ × Symbol) → is_whole k s ≡ false → is_some_row (true_rows k s) ≡ true
    → Has (symbol_entries k s) (certain_of k s)
has_certain k s e f = rw e
    (has_left (marked s.1.name (codes "ct") (true_rows k s)) (marked s.1.name (codes "cf") (false_rows k s))
    (certain_of k s) (in_marked s.1.name (codes "ct") (true_rows k s) f))

pub has_denied : (k : KnownAtoms) (s : ℕ × Symbol) → is_whole k s ≡ false → is_some_row (false_rows k s) ≡ true
    → Has (symbol_entries k s) (denied_of k s)
has_denied k s e f = rw e
    (has_right (marked s.1.name (codes "ct") (true_rows k s)) (marked s.1.name (codes "cf") (false_rows k s))
    (denied_of k s) (in_marked s.1.name (codes "cf") (false_rows k s) f))

-- ---- rows over the domains

pub record RightRow (D : List (List Elem)) (x : Subject) (r : PlainRow) : Type 0 where
  pub args : EachWith (λ ty y. Contains (domain_at D ty) y) (argument_types x) r.args
  pub value : HasValueIn D (value_type x) r.value

pub right_row : (k : KnownAtoms) (s : ℕ × Symbol) (holds : Bool) (r : PlainRow) → IsRowOf k s holds r
    → RightRow k.domains (a_symbol s.0 s.1) r
right_row k s holds r h =
    subst (RightRow k.domains (a_symbol s.0 s.1)) h.known.row
    (record {
      args = rw h.known.at.args
          (tuple_elements k.domains s.1.args h.args (contains_from (tuples_for k s) h.args h.tuple));
      value = h.known.at.value;
    })

pub right_alone : (D : List (List Elem)) (t : ℕ × TypeDecl) (r : PlainRow) → Has (map alone (domain_at D t.0)) r
    → RightRow D (a_type t.0 t.1) r
right_alone D t r h = let m = map_has alone (domain_at D t.0) r h in
    subst (RightRow D (a_type t.0 t.1)) m.2
    (record { args = (contains_from (domain_at D t.0) m.0 m.1, tt); value = tt })

-- ---- the sense of a mark

abbrev pub sense_by : Option (List ℕ) → Sense
sense_by None = everything
sense_by (Some m) = if bytes_eq m (codes "ct") then certainly_true
    else (if bytes_eq m (codes "cf") then certainly_false else unread)

pub record RightEntry (D : List (List Elem)) (x : Subject) (p : PlainEntry) : Type 0 where
  pub form : (y : raw.Value) → SaysValue p.value y → has_form x (sense_by p.mark) (length (rows_said p.value)) y ≡ true
  pub rows : AllByRecursion (RightRow D x) (rows_said p.value)

pub right_listing : (k : KnownAtoms) (t : ℕ × TypeDecl) → RightEntry k.domains (a_type t.0 t.1) (listing_of k t)
right_listing k t = record {
  form = λ y s. s.braces;
  rows = has_all _ (map alone (domain_at k.domains t.0)) (λ r h. right_alone k.domains t r h);
}

-- ---- a symbol of which all is known

-- a symbol without arguments has one tuple
one_tuple : (k : KnownAtoms) (s : ℕ × Symbol) → s.1.args ≡ [] → tuples_for k s ≡ [] ∷ []
one_tuple k s e = rw e refl

or_true : (b : Bool) → (b || true) ≡ true
or_true true = refl
or_true false = refl

pub value_some : (D : List (List Elem)) (ty : ℕ) (o : Option Elem) → HasValueIn D (Some ty) o
    → (x : Elem) × (o ≡ Some x)
value_some D ty None h = absurd h
value_some D ty (Some x) h = (x, refl)

pub value_none : (D : List (List Elem)) (o : Option Elem) → HasValueIn D None o → o ≡ None
value_none D None h = refl
value_none D (Some x) h = absurd h

whole_form : (D : List (List Elem)) (args : List ℕ) (value : Option ℕ) (rows : List PlainRow)
    → ((r : PlainRow) → Has rows r → HasValueIn D value r.value)
    → (args ≡ [] → (ty : ℕ) → value ≡ Some ty → is_some_row rows ≡ true) → (y : raw.Value)
    → SaysValue (whole_value args rows) y
    → form_of_symbol everything (length (rows_said (whole_value args rows))) args value y ≡ true
whole_form D (t ∷ ts) value rows over some y s = s.braces
whole_form D [] None [] over some y s = s.lone
whole_form D [] None (r ∷ rs) over some y s = s.lone
    ∙ ap (λ o. says_truth (alone_value o)) (value_none D r.value (over r (inl refl)))
whole_form D [] (Some ty) [] over some y s = absurd (true≢false (sym (some refl ty refl)))
whole_form D [] (Some ty) (r ∷ rs) over some y s =
    let x = value_some D ty r.value (over r (inl refl)) in
    let lone : is_truth y ≡ false = s.lone ∙ ap (λ o. says_truth (alone_value o)) x.1 in
    rw (lone, x.1) refl

bare_row : (D : List (List Elem)) (x : Subject) → argument_types x ≡ [] → (r : PlainRow) → RightRow D x r
    → RightRow D x (record { args = []; value = r.value })
bare_row D x e r h = record { args = rw e tt; value = h.value }

pub said_alone : (o : Option Elem) → rows_said (alone_value o) ≡ record { args = []; value = o } ∷ []
said_alone None = refl
said_alone (Some x) = refl

whole_rows : (D : List (List Elem)) (x : Subject) (args : List ℕ) → argument_types x ≡ args → (rows : List PlainRow)
    → ((r : PlainRow) → Has rows r → RightRow D x r) → AllByRecursion (RightRow D x) (rows_said (whole_value args rows))
whole_rows D x (t ∷ ts) e rows over = has_all (RightRow D x) rows over
whole_rows D x [] e [] over = tt
whole_rows D x [] e (r ∷ rs) over = rw (said_alone r.value) (bare_row D x e r (over r (inl refl)), tt)

settled_one : (k : KnownAtoms) (s : ℕ × Symbol) → s.1.args ≡ []
    → is_whole k s ≡ (is_settled s.1.value (rows_at true k s []) (rows_at false k s []) && true)
settled_one k s e = rw e refl

true_one : (k : KnownAtoms) (s : ℕ × Symbol) → s.1.args ≡ [] → true_rows k s ≡ rows_at true k s []
true_one k s e = rw (one_tuple k s e) (append-nil (rows_at true k s []))

false_one : (k : KnownAtoms) (s : ℕ × Symbol) → s.1.args ≡ []
    → false_rows k s ≡ where_none (rows_at true k s []) (rows_at false k s [])
false_one k s e = rw (one_tuple k s e) (append-nil (where_none (rows_at true k s []) (rows_at false k s [])))

and_true : (b : Bool) → (b && true) ≡ b
and_true true = refl
and_true false = refl

constant_some : (k : KnownAtoms) (s : ℕ × Symbol) → is_whole k s ≡ true → s.1.args ≡ [] → (ty : ℕ) → s.1.value ≡ Some ty
    → is_some_row (true_rows k s) ≡ true
constant_some k s w e ty f =
    ap is_some_row (true_one k s e) ∙ sym (and_true (is_some_row (rows_at true k s [])))
    ∙ sym (ap (λ o. is_settled o (rows_at true k s []) (rows_at false k s []) && true) f)
    ∙ sym (settled_one k s e) ∙ w

pub right_whole : (k : KnownAtoms) (s : ℕ × Symbol) → is_whole k s ≡ true
    → RightEntry k.domains (a_symbol s.0 s.1) (whole_of k s)
right_whole k s w = record {
  form = whole_form k.domains s.1.args s.1.value (true_rows k s)
      (λ r h. (right_row k s true r (true_row k s r h)).value) (constant_some k s w);
  rows = whole_rows k.domains (a_symbol s.0 s.1) s.1.args refl (true_rows k s)
      (λ r h. right_row k s true r (true_row k s r h));
}

-- ---- a symbol of which not all is known

-- without arguments, no row is true, and of a proposition none is false
none_true : (value : Option ℕ) (trues falses : List PlainRow) → (is_settled value trues falses && true) ≡ false
    → is_some_row trues ≡ false
none_true None [] falses e = refl
none_true None (r ∷ rs) falses e = e
none_true (Some ty) [] falses e = refl
none_true (Some ty) (r ∷ rs) falses e = e

none_false : (trues falses : List PlainRow) → (is_settled None trues falses && true) ≡ false
    → is_some_row (where_none trues falses) ≡ false
none_false [] [] e = refl
none_false [] (r ∷ rs) e = e
none_false (r ∷ rs) falses e = refl

pub open_true : (k : KnownAtoms) (s : ℕ × Symbol) → is_whole k s ≡ false → s.1.args ≡ []
    → is_some_row (true_rows k s) ≡ false
open_true k s w e = ap is_some_row (true_one k s e)
    ∙ none_true s.1.value (rows_at true k s []) (rows_at false k s []) (sym (settled_one k s e) ∙ w)

pub open_false : (k : KnownAtoms) (s : ℕ × Symbol) → is_whole k s ≡ false → s.1.args ≡ [] → s.1.value ≡ None
    → is_some_row (false_rows k s) ≡ false
open_false k s w e f =
    ap is_some_row (false_one k s e)
    ∙ none_false (rows_at true k s []) (rows_at false k s [])
    (sym (ap (λ o. is_settled o (rows_at true k s []) (rows_at false k s []) && true) f)
    ∙ sym (settled_one k s e) ∙ w)

positive : (n : ℕ) → nat_lt 0 (suc n) ≡ true
positive n = grind (arith, nat_tests)

certain_form : (args : List ℕ) (value : Option ℕ) (rows : List PlainRow) → (args ≡ [] → ⊥) → (y : raw.Value)
    → SaysValue (table rows) y → form_of_symbol certainly_true (length rows) args value y ≡ true
certain_form (t ∷ ts) value rows some y s = s.braces
certain_form [] value rows some y s = absurd (some refl)

denied_form : (args : List ℕ) (value : Option ℕ) (rows : List PlainRow) → is_some_row rows ≡ true
    → (args ≡ [] → value ≡ None → ⊥) → (y : raw.Value) → SaysValue (table rows) y
    → form_of_symbol certainly_false (length rows) args value y ≡ true
denied_form (t ∷ ts) value rows some other y s = s.braces
denied_form [] None rows some other y s = absurd (other refl refl)
denied_form [] (Some ty) [] some other y s = absurd (true≢false (sym some))
denied_form [] (Some ty) (r ∷ rs) some other y s =
    rw s.lone (ap (λ b. (length (r ∷ rs) == 1) || b) (positive (length rs)) ∙ or_true (length (r ∷ rs) == 1))

pub right_certain : (k : KnownAtoms) (s : ℕ × Symbol) → is_whole k s ≡ false → is_some_row (true_rows k s) ≡ true
    → RightEntry k.domains (a_symbol s.0 s.1) (certain_of k s)
right_certain k s w some = record {
  form = certain_form s.1.args s.1.value (true_rows k s) (λ e. true≢false (sym some ∙ open_true k s w e));
  rows = has_all _ (true_rows k s) (λ r h. right_row k s true r (true_row k s r h));
}

pub right_denied : (k : KnownAtoms) (s : ℕ × Symbol) → is_whole k s ≡ false → is_some_row (false_rows k s) ≡ true
    → RightEntry k.domains (a_symbol s.0 s.1) (denied_of k s)
right_denied k s w some = record {
  form = denied_form s.1.args s.1.value (false_rows k s) some (λ e f. true≢false (sym some ∙ open_false k s w e f));
  rows = has_all _ (false_rows k s) (λ r h. right_row k s false r (false_row k s r h));
}
