-- What the stage of data reads in an entry that was written.
use Rattle.std.proofs.Common.{◌≡◌, ℕ, Bool, true, false, not, ◌==◌, List, [], ◌∷◌, length, map, Option, None, Some}
use Rattle.std.proofs.Common.{flat_map, option_map, refl, sym, ap, subst, ◌∙◌, inl, inr}
use Rattle.std.specs.Prelude.{Contains, is_some}
use Rattle.std.proofs.lemmas.Bool.{true≢false, and_parts, and_from, eq-eqb, eqb-true}
use Rattle.std.proofs.lemmas.List.{length-map}
use Rattle.kb_logic.specs.declared.elements.Elem.{Elem}
use Rattle.kb_logic.specs.declared.vocabularies.TypeDecl.{TypeDecl}
use Rattle.kb_logic.specs.declared.vocabularies.Vocabulary.{Vocabulary}
use Rattle.kb_logic.specs.Models.{HasValueIn}
use Rattle.kb_logic.specs.Structures.{EachWith, domain_at}
use Rattle.kb_logic.proofs.Has.{Has, flat_map_has, has_either}
use Rattle.grammar.specs.Trees.{Name}
use Rattle.grammar.specs.BlockTrees as raw
use Rattle.stage_definitions.specs.Names.{text_of}
use Rattle.stage_definitions.specs.Elements.{one}
use Rattle.stage_definitions.specs.DataEntries.{Subject, a_type, a_symbol, nothing_named, an_element, subject_of}
use Rattle.stage_definitions.specs.DataEntries.{argument_types, value_type, is_a_type, is_plain_list, sense_of}
use Rattle.stage_definitions.specs.DataEntries.{mark_name}
use Rattle.stage_definitions.specs.DataEntries.{WrittenRow, element_of, written_rows, has_form, Said, said_by, said}
use Rattle.stage_definitions.specs.DataEntries.{is_value_for, fits_in, fitting, cell_of, Spot, item_spots, value_spots}
use Rattle.stage_definitions.specs.DataEntries.{row_spots, spots_of}
use Rattle.stage_definitions.specs.DataFacts.{cells_read, single_element, single_elements}
use Rattle.printed_texts.specs.Entries.{PlainRow, PlainEntry}
use Rattle.printed_texts.specs.Saying.{SaysRow, IsAlone, rows_said, SaysValue, SaysEntry}
use Rattle.printed_texts.proofs.Each.{each_back, each_length, all_has, has_all, filter_all}
use Rattle.printed_texts.proofs.RightEntries.{RightRow, RightEntry, sense_by}

-- an entry as it is read: it says what was written, in the form that its word asks for
pub record IsSaid (p : PlainEntry) (x : Subject) (e : Said) : Type 0 where
  pub word : text_of e.word ≡ p.word
  pub subject : e.subject ≡ x
  pub mark : option_map text_of e.mark ≡ p.mark
  pub fits : e.fits ≡ true
  pub rows : EachWith SaysRow (rows_said p.value) e.rows

pub sense_is : (m : Option Name) (q : Option (List ℕ)) → option_map text_of m ≡ q → sense_of m ≡ sense_by q
sense_is None q e = ap sense_by e
sense_is (Some m) q e = ap sense_by e

-- ---- in a plain list each row has one element

same_length : {X Y : Type 0} (R : X → Y → Type 0) (xs : List X) (ys : List Y) → EachWith R xs ys → length ys ≡ length xs
same_length R xs ys h = each_length R xs ys h

plain_alone : (D : List (List Elem)) (x : Subject) (r : PlainRow) → RightRow D x r → IsAlone (is_plain_list x) r
plain_alone D x r h e =
    let parts = and_parts (length (argument_types x) == 1) (not (is_some (value_type x))) e in
    same_length (λ ty y. Contains (domain_at D ty) y) (argument_types x) r.args h.args
    ∙ eqb-true (length (argument_types x)) 1 parts.0

said_by_form : (word : Name) (x : Subject) (mark : Option Name) (value : raw.Value) (rows : List WrittenRow)
    → has_form x (sense_of mark) (length rows) value ≡ true → ((said_by word x mark value rows).fits ≡ true)
    × ((said_by word x mark value rows).rows ≡ rows)
said_by_form word x mark value rows e = rw e (refl, refl)

said_value : (D : List (List Elem)) (p : PlainEntry) (x : Subject) → RightEntry D x p
    → (word : Name) (mark : Option Name) (value : raw.Value) → text_of word ≡ p.word → option_map text_of mark ≡ p.mark
    → SaysValue p.value value
    → IsSaid p x (said_by word x mark value (written_rows (is_plain_list x) value))
said_value D p x right word mark value w m s =
    let rows : EachWith SaysRow (rows_said p.value) (written_rows (is_plain_list x) value) =
    s.rows (is_plain_list x)
    (has_all (IsAlone (is_plain_list x)) (rows_said p.value)
    (λ r h. plain_alone D x r (all_has (RightRow D x) (rows_said p.value) right.rows r h))) in
    let count : length (written_rows (is_plain_list x) value) ≡ length (rows_said p.value) =
    each_length SaysRow (rows_said p.value) (written_rows (is_plain_list x) value) rows in
    let form : has_form x (sense_of mark) (length (written_rows (is_plain_list x) value)) value ≡ true =
    rw (count, sense_is mark p.mark m) (right.form value s) in
    let both = said_by_form word x mark value (written_rows (is_plain_list x) value) form in
    record { word = w; subject = refl; mark = m; fits = both.0; rows = rw both.1 rows }

pub said_entry : (D : List (List Elem)) (v : Vocabulary) (p : PlainEntry) (x : Subject) → RightEntry D x p
    → subject_of v p.word ≡ x → (t : raw.Entry) → SaysEntry p t → IsSaid p x (said v t)
said_entry D v p x right e (raw.entry word mark q value) s =
    subst (λ X. IsSaid p x (said_by word X (option_map mark_name mark) value (written_rows (is_plain_list X) value)))
    (sym (ap (subject_of v) s.word ∙ e))
    (said_value D p x right word (option_map mark_name mark) value s.word s.mark s.value)

-- ---- rows that fit

singles_length : (is : List raw.RowItem) (xs : List Elem) → map single_element is ≡ map Some xs → length is ≡ length xs
singles_length is xs e = sym (length-map is single_element) ∙ ap length e ∙ length-map xs Some

value_there : (D : List (List Elem)) (ty : Option ℕ) (value : Option Elem) (written : Option raw.Element)
    → HasValueIn D ty value → option_map element_of written ≡ value → is_value_for ty written ≡ true
value_there D None None None h e = refl
value_there D None None (Some y) h e = absurd (cc)
value_there D None (Some x) written h e = absurd h
value_there D (Some ty) None written h e = absurd h
value_there D (Some ty) (Some x) None h e = absurd (cc)
value_there D (Some ty) (Some x) (Some y) h e = refl

pub row_fits : (D : List (List Elem)) (x : Subject) (r : PlainRow) (w : WrittenRow) → RightRow D x r → SaysRow r w
    → fits_in x w ≡ true
row_fits D x r w h s =
    and_from (length w.items == length (argument_types x)) (is_value_for (value_type x) w.value)
    (eq-eqb (length w.items) (length (argument_types x)) (singles_length w.items r.args s.items
    ∙ each_length (λ ty y. Contains (domain_at D ty) y) (argument_types x) r.args h.args))
    (value_there D (value_type x) r.value w.value h.value s.value)

-- the entry's rows are all that fit
pub all_fit : (D : List (List Elem)) (p : PlainEntry) (x : Subject) (e : Said) → RightEntry D x p → IsSaid p x e
    → fitting e ≡ e.rows
all_fit D p x e right h =
    filter_all (fits_in e.subject) e.rows
    (λ w m. let r = each_back SaysRow (rows_said p.value) e.rows h.rows w m in
    rw h.subject (row_fits D x r.0 w (all_has (RightRow D x) (rows_said p.value) right.rows r.0 r.1) r.2))

-- ---- cells

pub cell_read : (b : Bool) (i : raw.RowItem) (x : Elem) → single_element i ≡ Some x → cell_of b i ≡ Some (one x)
cell_read b (raw.item e None) x h = ap (option_map one) h
cell_read b (raw.item e (Some to)) x h = absurd (cc)

pub cells_of_row : (b : Bool) (is : List raw.RowItem) (xs : List Elem) → map single_element is ≡ map Some xs
    → cells_read b is ≡ Some (map one xs)
cells_of_row b [] [] h = refl
cells_of_row b [] (x ∷ xs) h = absurd (cc)
cells_of_row b (i ∷ is) [] h = absurd (cc)
cells_of_row b (i ∷ is) (x ∷ xs) h =
    let first : single_element i ≡ Some x = cc in
    let rest : map single_element is ≡ map Some xs = cc in
    rw (cell_read b i x first, cells_of_row b is xs rest) refl

pub elements_of_row : (is : List raw.RowItem) (xs : List Elem) → map single_element is ≡ map Some xs
    → single_elements is ≡ Some xs
elements_of_row [] [] h = refl
elements_of_row [] (x ∷ xs) h = absurd (cc)
elements_of_row (i ∷ is) [] h = absurd (cc)
elements_of_row (i ∷ is) (x ∷ xs) h =
    let first : single_element i ≡ Some x = cc in
    let rest : map single_element is ≡ map Some xs = cc in
    rw (first, elements_of_row is xs rest) refl

-- ---- what stands in a row

-- an element of its position's type; in a type's list it stands in the list of that type
pub record IsRightSpot (D : List (List Elem)) (x : Subject) (s : Spot) : Type 0 where
  pub elem : Elem
  pub cell : s.cell ≡ Some (one elem)
  pub inside : Contains (domain_at D s.ty) elem
  pub list : s.in_list ≡ is_a_type x
  pub listed : (t : ℕ) (d : TypeDecl) → x ≡ a_type t d → s.ty ≡ t

first_type : (x : Subject) (t : ℕ) (d : TypeDecl) → x ≡ a_type t d → argument_types x ≡ t ∷ []
first_type x t d e = ap argument_types e

no_value_type : (x : Subject) (t : ℕ) (d : TypeDecl) → x ≡ a_type t d → value_type x ≡ None
no_value_type x t d e = ap value_type e

-- each type is that of the list, where the entry is one
abbrev TypesAre : Subject → List ℕ → Type 0
TypesAre x types = (t : ℕ) (d : TypeDecl) → x ≡ a_type t d → (u : ℕ) → Has types u → u ≡ t

items_right : (D : List (List Elem)) (x : Subject) (types : List ℕ) (xs : List Elem) (is : List raw.RowItem)
    → TypesAre x types → EachWith (λ ty y. Contains (domain_at D ty) y) types xs → map single_element is ≡ map Some xs
    → (s : Spot) → Has (item_spots x types is) s → IsRightSpot D x s
items_right D x [] xs is are h e s m = absurd m
items_right D x (t ∷ ts) xs [] are h e s m = absurd m
items_right D x (t ∷ ts) [] (i ∷ is) are h e s m = absurd h
items_right D x (t ∷ ts) (y ∷ ys) (i ∷ is) are h e s (inl f) =
    let first : single_element i ≡ Some y = cc in
    subst (IsRightSpot D x) f (record {
      elem = y;
      cell = cell_read (is_plain_list x) i y first;
      inside = h.0;
      list = refl;
      listed = λ u d g. are u d g t (inl refl);
    })
items_right D x (t ∷ ts) (y ∷ ys) (i ∷ is) are h e s (inr m) =
    let rest : map single_element is ≡ map Some ys = cc in
    items_right D x ts ys is (λ u d g n k. are u d g n (inr k)) h.1 rest s m

value_right : (D : List (List Elem)) (x : Subject) (ty : Option ℕ) (value : Option Elem) (written : Option raw.Element)
    → ((t : ℕ) (d : TypeDecl) → x ≡ a_type t d → ty ≡ None) → (is_a_type x ≡ true → ty ≡ None) → HasValueIn D ty value
    → option_map element_of written ≡ value
    → (s : Spot) → Has (value_spots ty written) s → IsRightSpot D x s
value_right D x None value written none plain h e s m = absurd m
value_right D x (Some ty) value None none plain h e s m = absurd m
value_right D x (Some ty) None (Some y) none plain h e s m = absurd h
value_right D x (Some ty) (Some z) (Some y) none plain h e s (inl f) =
    subst (IsRightSpot D x) f (record {
      elem = z;
      cell = let same : element_of y ≡ z = cc in
          ap (λ w. Some (one w)) same;
      inside = h;
      list = no_type (is_a_type x) refl;
      listed = λ t d g. absurd (let n = none t d g in cc);
    })
  where
    no_type : (b : Bool) → is_a_type x ≡ b → false ≡ is_a_type x
    no_type true g = absurd (let n = plain g in cc)
    no_type false g = sym g
value_right D x (Some ty) (Some z) (Some y) none plain h e s (inr f) = absurd f

plain_none : (x : Subject) → is_a_type x ≡ true → value_type x ≡ None
plain_none nothing_named e = refl
plain_none an_element e = refl
plain_none (a_type t d) e = refl
plain_none (a_symbol s d) e = absurd (true≢false (sym e))

one_type : (x : Subject) → TypesAre x (argument_types x)
one_type x t d e u h = by (subst (λ (ts : List ℕ). Has ts u) (first_type x t d e) h)
  where
    by : Has (t ∷ []) u → u ≡ t
    by (inl f) = sym f
    by (inr f) = absurd f

row_right : (D : List (List Elem)) (x : Subject) (r : PlainRow) (w : WrittenRow) → RightRow D x r → SaysRow r w
    → (s : Spot) → Has (row_spots x w) s → IsRightSpot D x s
row_right D x r w h e s m =
    elim (has_either (item_spots x (argument_types x) w.items) (value_spots (value_type x) w.value) s m) [
      | inl a ↦ items_right D x (argument_types x) r.args w.items (one_type x) h.args e.items s a
      | inr b ↦ value_right D x (value_type x) r.value w.value (no_value_type x) (plain_none x) h.value e.value s b
    ]

pub spots_right : (D : List (List Elem)) (p : PlainEntry) (x : Subject) (e : Said) → RightEntry D x p → IsSaid p x e
    → (s : Spot) → Has (spots_of e) s → IsRightSpot D x s
spots_right D p x e right h s m =
    let n : Has (flat_map (row_spots x) e.rows) s = rw (all_fit D p x e right h, h.subject) at m in
    let w = flat_map_has (row_spots x) e.rows s n in
    let r = each_back SaysRow (rows_said p.value) e.rows h.rows w.0 w.1 in
    row_right D x r.0 w.0 (all_has (RightRow D x) (rows_said p.value) right.rows r.0 r.1) r.2 s w.2
