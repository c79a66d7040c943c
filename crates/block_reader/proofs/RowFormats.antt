-- The rows of a structure and their elements as formats, and their laws.
use Rattle.std.proofs.Common.{◌≡◌, ℕ, List, [], ◌∷◌, ◌++◌, Option, Some, None, ◌⊎◌, inl, inr, refl, sym, ap, ap₂, subst}
use Rattle.std.proofs.Common.{◌∙◌}
use Rattle.grammar.specs.declared.terminal.Terminal.TheVariants as t
use Rattle.grammar.specs.declared.terminal.Outer.TheVariants as o
use Rattle.grammar.specs.declared.terminal.Adding.TheVariants.{Minus}
use Rattle.grammar.specs.Terminals.{Symbol, Tok, mark, word, sign}
use Rattle.grammar.specs.Trees.{name}
use Rattle.grammar.specs.BlockTrees.{Element, named, number, below_zero, RowItem, item, RowItems, items, Row, plain}
use Rattle.grammar.specs.BlockTrees.{bracketed, only, Rows, rows}
use Rattle.grammar.specs.BlockSpelling.{put_option, put_each, put_sign, put_element, put_item, put_items, put_row}
use Rattle.grammar.specs.BlockSpelling.{put_rows}
use Rattle.block_reader.specs.BlockReads.{put_row_tails}
use Rattle.block_reader.specs.BlockParts.{Anything, EndsRow, EndsItems, EndsItem}
use Rattle.token_reader.specs.Signs.{next, No, Is}
use Rattle.block_reader.proofs.Formats.{Format, Into, Apart, narrowed}
use Rattle.block_reader.proofs.Plain.{Law, then, then_law, option, Optional, option_law, each, Several, each_law}
use Rattle.block_reader.proofs.Plain.{either, Alternatives, either_law, Same, same_law, narrowed_law, behind}
use Rattle.block_reader.proofs.Plain.{behind_law, optional_behind, several_behind}

-- ---- elements

-- a word, an integer or - comes
abbrev pub BeginsElement : Option Symbol → Type 0
BeginsElement (Some (word w)) = Unit {0}
BeginsElement (Some (mark (t.Integer n))) = Unit {0}
BeginsElement (Some (mark (t.Add Minus))) = Unit {0}
BeginsElement _ = ⊥

abbrev pub element_format : Format Element
element_format = record { put = put_element; Fine = λ x. Unit {0}; First = BeginsElement; Next = Anything }

element_appends : (a : Element) (x y : List Tok) → put_element a (x ++ y) ≡ put_element a x ++ y
element_appends (named (name w p)) x y = refl
element_appends (number n p) x y = refl
element_appends (below_zero p n q) x y = refl

element_first : (a : Element) (ts : List Tok) → BeginsElement (next (put_element a ts))
element_first (named (name w p)) ts = tt
element_first (number n p) ts = tt
element_first (below_zero p n q) ts = tt

element_only : (a b : Element) (m n : List Tok) → put_element a m ≡ put_element b n → (a ≡ b) × (m ≡ n)
element_only (named (name w p)) (named (name v q)) m n e = (cc, cc)
element_only (named (name w p)) (number j q) m n e = absurd (cc)
element_only (named (name w p)) (below_zero q j r) m n e = absurd (cc)
element_only (number i p) (named (name v q)) m n e = absurd (cc)
element_only (number i p) (number j q) m n e = (cc, cc)
element_only (number i p) (below_zero q j r) m n e = absurd (cc)
element_only (below_zero p i r) (named (name v q)) m n e = absurd (cc)
element_only (below_zero p i r) (number j q) m n e = absurd (cc)
element_only (below_zero p i r) (below_zero q j s) m n e = (cc, cc)

pub element_law : Law element_format
element_law = record {
  law = record {
    some = named (name [] 0);
    some_fine = tt;
    appends = element_appends;
    first = λ a ts h n. element_first a ts;
    only = λ a b m n h k z w e. element_only a b m n e;
  };
  total = λ a. tt;
}

-- ---- items

abbrev pub range_format : Format (Option (ℕ × Element))
range_format = option (behind (t.Outer o.Range) element_format) EndsItem

range_apart : Into EndsItem (No (t.Outer o.Range))
range_apart s (inl e) f = cc
range_apart s (inr (inl e)) f = cc
range_apart s (inr (inr (inl e))) f = cc
range_apart s (inr (inr (inr (inl e)))) f = cc
range_apart s (inr (inr (inr (inr e)))) f = cc

pub range_optional : Optional (behind (t.Outer o.Range) element_format) EndsItem
range_optional = optional_behind (t.Outer o.Range) element_law (λ s h. tt) range_apart

abbrev pub item_parts : Format (Element × Option (ℕ × Element))
item_parts = then element_format range_format

abbrev pub item_format : Format RowItem
item_format = record { put = put_item; Fine = λ x. Unit {0}; First = BeginsElement; Next = EndsItem }

abbrev item_to : RowItem → Element × Option (ℕ × Element)
item_to (item e r) = (e, r)

item_there : (a : RowItem) → item (item_to a).0 (item_to a).1 ≡ a
item_there (item e r) = refl

item_written : (a : RowItem) (ts : List Tok) → put_item a ts ≡ item_parts.put (item_to a) ts
item_written (item e r) ts = refl

pub item_same : Same item_format item_parts
item_same = record {
  to = item_to;
  from = λ x. item x.0 x.1;
  there = item_there;
  written = item_written;
  back = λ b ts. refl;
  ends = λ s h. h;
  begins = λ s h. h;
}

pub item_parts_law : Law item_parts
item_parts_law = then_law element_law (option_law range_optional) (λ s h. tt)

pub item_law : Law item_format
item_law = same_law item_same item_parts_law

abbrev pub item_tails : Format (List (ℕ × RowItem))
item_tails = each (behind t.Comma item_format) EndsItems

items_no_comma : Into EndsItems (No t.Comma)
items_no_comma s (inl e) f = cc
items_no_comma s (inr (inl e)) f = cc
items_no_comma s (inr (inr (inl e))) f = cc
items_no_comma s (inr (inr (inr e))) f = cc

pub item_tails_several : Several (behind t.Comma item_format) EndsItems
item_tails_several = several_behind t.Comma item_law (λ s h. inr h) items_no_comma (inl refl)

abbrev pub items_parts : Format (RowItem × List (ℕ × RowItem))
items_parts = then item_format item_tails

abbrev pub items_format : Format RowItems
items_format = record { put = put_items; Fine = λ x. Unit {0}; First = BeginsElement; Next = EndsItems }

abbrev items_to : RowItems → RowItem × List (ℕ × RowItem)
items_to (items i is) = (i, is)

items_there : (a : RowItems) → items (items_to a).0 (items_to a).1 ≡ a
items_there (items i is) = refl

items_written : (a : RowItems) (ts : List Tok) → put_items a ts ≡ items_parts.put (items_to a) ts
items_written (items i is) ts = refl

pub items_same : Same items_format items_parts
items_same = record {
  to = items_to;
  from = λ x. items x.0 x.1;
  there = items_there;
  written = items_written;
  back = λ b ts. refl;
  ends = λ s h. h;
  begins = λ s h. h;
}

pub items_parts_law : Law items_parts
items_parts_law = then_law item_law (each_law item_tails_several) (λ s h. h)

pub items_law : Law items_format
items_law = same_law items_same items_parts_law

-- ---- rows

abbrev pub to_format : Format (ℕ × Element)
to_format = behind (t.Outer o.To) element_format

pub to_law : Law to_format
to_law = behind_law (t.Outer o.To) element_law

row_no : (s : Option Symbol) → EndsRow s → No (t.Outer o.To) s
row_no s (inl e) f = cc
row_no s (inr e) f = cc

abbrev pub arrow_format : Format (Option (ℕ × Element))
arrow_format = option to_format EndsRow

pub arrow_optional : Optional to_format EndsRow
arrow_optional = optional_behind (t.Outer o.To) element_law (λ s h. tt) row_no

abbrev pub Arrowed : Type 0
Arrowed = Option (ℕ × Element)

abbrev pub plain_parts : Format (RowItems × Arrowed)
plain_parts = then items_format arrow_format

pub plain_law : Law plain_parts
plain_law = then_law items_law (option_law arrow_optional) (λ s h. inr h)

-- after the items of a row in brackets
abbrev pub closed_arrow : Format (ℕ × Arrowed)
closed_arrow = behind t.Close arrow_format

pub closed_arrow_law : Law closed_arrow
closed_arrow_law = behind_law t.Close (option_law arrow_optional)

abbrev pub inner_row : Format (RowItems × (ℕ × Arrowed))
inner_row = then items_format closed_arrow

pub inner_row_law : Law inner_row
inner_row_law = then_law items_law closed_arrow_law (λ s h. inl h)

abbrev pub bracketed_parts : Format (ℕ × (RowItems × (ℕ × Arrowed)))
bracketed_parts = behind t.Open inner_row

pub bracketed_law : Law bracketed_parts
bracketed_law = behind_law t.Open inner_row_law

abbrev pub Bracketed : Type 0
Bracketed = ℕ × (RowItems × (ℕ × Arrowed))

abbrev pub only_format : Format (ℕ × Element)
only_format = narrowed to_format EndsRow

pub only_law : Law only_format
only_law = narrowed_law to_law (λ s h. tt)

bracket_apart : Apart (Is t.Open) (Is (t.Outer o.To))
bracket_apart s e f = cc

abbrev pub other_rows : Format (Bracketed ⊎ (ℕ × Element))
other_rows = either bracketed_parts only_format EndsRow

pub other_alternatives : Alternatives bracketed_parts only_format EndsRow
other_alternatives = record {
  left = bracketed_law;
  right = only_law;
  apart = bracket_apart;
  ends_left = λ s h. h;
  ends_right = λ s h. h;
}

pub element_no : (s : Option Symbol) → BeginsElement s → (Is t.Open s ⊎ Is (t.Outer o.To) s) → ⊥
element_no s h (inl e) = subst BeginsElement e h
element_no s h (inr e) = subst BeginsElement e h

abbrev pub RowParts : Type 0
RowParts = (RowItems × Arrowed) ⊎ (Bracketed ⊎ (ℕ × Element))

abbrev pub row_parts : Format RowParts
row_parts = either plain_parts other_rows EndsRow

pub row_alternatives : Alternatives plain_parts other_rows EndsRow
row_alternatives = record {
  left = plain_law;
  right = either_law other_alternatives;
  apart = element_no;
  ends_left =
      λ s h. h;
  ends_right = λ s h. h;
}

abbrev pub BeginsRow : Option Symbol → Type 0
BeginsRow s = BeginsElement s ⊎ (Is t.Open s ⊎ Is (t.Outer o.To) s)

abbrev pub row_format : Format Row
row_format = record { put = put_row; Fine = λ x. Unit {0}; First = BeginsRow; Next = EndsRow }

abbrev row_to : Row → RowParts
row_to (plain is r) = inl (is, r)
row_to (bracketed p is q r) = inr (inl (p, (is, (q, r))))
row_to (only r) = inr (inr r)

abbrev row_from : RowParts → Row
row_from (inl (is, r)) = plain is r
row_from (inr (inl (p, (is, (q, r))))) = bracketed p is q r
row_from (inr (inr r)) = only r

row_there : (a : Row) → row_from (row_to a) ≡ a
row_there (plain is r) = refl
row_there (bracketed p is q r) = refl
row_there (only r) = refl

row_written : (a : Row) (ts : List Tok) → put_row a ts ≡ row_parts.put (row_to a) ts
row_written (plain is r) ts = refl
row_written (bracketed p is q r) ts = refl
row_written (only r) ts = refl

row_back : (b : RowParts) (ts : List Tok) → put_row (row_from b) ts ≡ row_parts.put b ts
row_back (inl (is, r)) ts = refl
row_back (inr (inl (p, (is, (q, r))))) ts = refl
row_back (inr (inr r)) ts = refl

pub row_same : Same row_format row_parts
row_same = record {
  to = row_to;
  from = row_from;
  there = row_there;
  written = row_written;
  back = row_back;
  ends = λ s h. h;
  begins = λ s h. h;
}

pub row_parts_law : Law row_parts
row_parts_law = either_law row_alternatives

pub row_law : Law row_format
row_law = same_law row_same row_parts_law

-- ---- rows between semicolons: each semicolon has a row after it, but the last one may stand alone

abbrev pub row_tail : Format (ℕ × Option Row)
row_tail = behind (t.Outer o.Semicolon) (option row_format EndsRow)

pub row_apart : Apart EndsRow BeginsRow
row_apart s (inl e) (inl h) = subst BeginsElement e h
row_apart s (inr e) (inl h) = subst BeginsElement e h
row_apart s (inl e) (inr (inl f)) = cc
row_apart s (inr e) (inr (inl f)) = cc
row_apart s (inl e) (inr (inr f)) = cc
row_apart s (inr e) (inr (inr f)) = cc

pub row_optional : Optional row_format EndsRow
row_optional = record { law = row_law; ends = λ s h. h; apart = row_apart }

close_no_semicolon : Into (Is t.CloseBrace) (No (t.Outer o.Semicolon))
close_no_semicolon s e f = cc

pub row_tails_several : Several row_tail (Is t.CloseBrace)
row_tails_several = several_behind (t.Outer o.Semicolon) (option_law row_optional)
    (λ s e. inr e) close_no_semicolon (inl refl)

abbrev pub RowTails : Type 0
RowTails = List (ℕ × Row) × Option ℕ

abbrev pub with_row : ℕ × Row → ℕ × Option Row
with_row x = (x.0, Some x.1)

abbrev pub lone : Option ℕ → List (ℕ × Option Row)
lone None = []
lone (Some p) = (p, None) ∷ []

abbrev pub tails_to : List (ℕ × Row) → Option ℕ → List (ℕ × Option Row)
tails_to [] l = lone l
tails_to (x ∷ xs) l = with_row x ∷ tails_to xs l

lone_written : (l : Option ℕ) (ts : List Tok) → put_option (put_sign (t.Outer o.Semicolon)) l ts
    ≡ put_each row_tail.put (lone l) ts
lone_written None ts = refl
lone_written (Some p) ts = refl

pub tails_written : (xs : List (ℕ × Row)) (l : Option ℕ) (ts : List Tok) → put_row_tails (xs, l) ts
    ≡ put_each row_tail.put (tails_to xs l) ts
tails_written [] l ts = lone_written l ts
tails_written (x ∷ xs) l ts = ap (λ (us : List Tok). sign (t.Outer o.Semicolon) x.0 ∷ put_row x.1 us)
    (tails_written xs l ts)

abbrev pub head_place : List (ℕ × Option Row) → ℕ
head_place [] = 0
head_place (z ∷ zs) = z.0

abbrev pub head_row : List (ℕ × Option Row) → Option Row
head_row [] = None
head_row (z ∷ zs) = z.1

abbrev pub behind_head : List (ℕ × Option Row) → List (ℕ × Option Row)
behind_head [] = []
behind_head (z ∷ zs) = zs

tails_only : (xs ys : List (ℕ × Row)) (l k : Option ℕ) → tails_to xs l ≡ tails_to ys k → (xs ≡ ys) × (l ≡ k)
tails_only [] [] None None e = (refl, refl)
tails_only [] [] None (Some q) e = absurd (cc)
tails_only [] [] (Some p) None e = absurd (cc)
tails_only [] [] (Some p) (Some q) e = (refl, ap Some (ap head_place e))
tails_only [] (y ∷ ys) None k e = absurd (cc)
tails_only [] (y ∷ ys) (Some p) k e = absurd (let f : None ≡ Some y.1 = ap head_row e in cc)
tails_only (x ∷ xs) [] l None e = absurd (cc)
tails_only (x ∷ xs) [] l (Some q) e = absurd (let f : Some x.1 ≡ None = ap head_row e in cc)
tails_only (x ∷ xs) (y ∷ ys) l k e =
    let r = tails_only xs ys l k (ap behind_head e) in
    let p : x.0 ≡ y.0 = ap head_place e in
    let f : Some x.1 ≡ Some y.1 = ap head_row e in
    let q : x.1 ≡ y.1 = cc in
    (ap₂ (λ (a : ℕ × Row) (more : List (ℕ × Row)). a ∷ more) (ap₂ (λ (a : ℕ) (b : Row). (a, b)) p q) r.0, r.1)

abbrev pub row_tails : Format RowTails
row_tails = record { put = put_row_tails; Fine = λ x. Unit {0}; First = EndsRow; Next = Is t.CloseBrace }

tails_appends : (a : RowTails) (x y : List Tok) → put_row_tails a (x ++ y) ≡ put_row_tails a x ++ y
tails_appends (rs, l) x y = tails_written rs l (x ++ y) ∙ (each_law row_tails_several).law.appends (tails_to rs l) x y
    ∙ ap (λ (ts : List Tok). ts ++ y) (sym (tails_written rs l x))

tails_first : (a : RowTails) (ts : List Tok) → Is t.CloseBrace (next ts) → EndsRow (next (put_row_tails a ts))
tails_first ([], None) ts n = inr n
tails_first ([], Some p) ts n = inl refl
tails_first (x ∷ xs, l) ts n = inl refl

tails_law_only : (a b : RowTails) (m n : List Tok) → Is t.CloseBrace (next m) → Is t.CloseBrace (next n)
    → put_row_tails a m ≡ put_row_tails b n → (a ≡ b) × (m ≡ n)
tails_law_only (xs, l) (ys, k) m n z w e =
    let r = (each_law row_tails_several).law.only (tails_to xs l) (tails_to ys k) m n tt tt z w
    (sym (tails_written xs l m) ∙ e ∙ tails_written ys k n) in
    let f = tails_only xs ys l k r.0 in
    (ap₂ (λ (a : List (ℕ × Row)) (b : Option ℕ). (a, b)) f.0 f.1, r.1)

pub row_tails_law : Law row_tails
row_tails_law = record {
  law = record {
    some = ([], None);
    some_fine = tt;
    appends = tails_appends;
    first = λ a ts h n. tails_first a ts n;
    only = λ a b m n h k z w e. tails_law_only a b m n z w e;
  };
  total = λ a. tt;
}

abbrev pub rows_parts : Format (Row × RowTails)
rows_parts = then row_format row_tails

abbrev pub rows_format : Format Rows
rows_format = record { put = put_rows; Fine = λ x. Unit {0}; First = BeginsRow; Next = Is t.CloseBrace }

abbrev rows_to : Rows → Row × RowTails
rows_to (rows r rs l) = (r, (rs, l))

rows_there : (a : Rows) → rows (rows_to a).0 (rows_to a).1.0 (rows_to a).1.1 ≡ a
rows_there (rows r rs l) = refl

rows_written : (a : Rows) (ts : List Tok) → put_rows a ts ≡ rows_parts.put (rows_to a) ts
rows_written (rows r rs l) ts = refl

pub rows_same : Same rows_format rows_parts
rows_same = record {
  to = rows_to;
  from = λ x. rows x.0 x.1.0 x.1.1;
  there = rows_there;
  written = rows_written;
  back = λ b ts. refl;
  ends = λ s h. h;
  begins = λ s h. h;
}

pub rows_parts_law : Law rows_parts
rows_parts_law = then_law row_law row_tails_law (λ s h. h)

pub rows_law : Law rows_format
rows_law = same_law rows_same rows_parts_law
