-- Values, entries and whole structures as formats, and their laws.
use Rattle.std.proofs.Common.{◌≡◌, ℕ, List, ◌∷◌, Bool, true, Option, Some, None, ◌⊎◌, inl, inr, refl, ap₂, subst}
use Rattle.grammar.specs.declared.terminal.Terminal.TheVariants as t
use Rattle.grammar.specs.declared.terminal.Outer.{Outer}
use Rattle.grammar.specs.declared.terminal.Outer.TheVariants as o
use Rattle.grammar.specs.declared.terminal.Comparison.TheVariants as cmp
use Rattle.grammar.specs.Terminals.{Symbol, Tok, mark, word, sign}
use Rattle.grammar.specs.Trees.{Name}
use Rattle.grammar.specs.BlockTrees.{Header, header, Element, Rows, Value, truth_value, element_value, table}
use Rattle.grammar.specs.BlockTrees.{Mark, closed_mark, open_mark, Entry, entry, Structure, structure}
use Rattle.grammar.specs.BlockSpelling.{put_header, put_value, put_equal, put_entry, put_structure}
use Rattle.block_reader.specs.BlockParts.{Anything}
use Rattle.token_reader.specs.Signs.{Is, AWord}
use Rattle.block_reader.proofs.Formats.{Format, Apart, sign_format, name_format}
use Rattle.block_reader.proofs.Plain.{Law, sign_law, name_law, then, then_law, option, Optional, option_law, each}
use Rattle.block_reader.proofs.Plain.{Several, each_law, either, Alternatives, either_law, Same, same_law, behind}
use Rattle.block_reader.proofs.Plain.{behind_law}
use Rattle.block_reader.proofs.BlockFormats.{word_no}
use Rattle.block_reader.proofs.RowFormats.{BeginsElement, element_format, element_law, BeginsRow, row_apart}
use Rattle.block_reader.proofs.RowFormats.{rows_format, rows_law}

-- ---- values

rows_apart : Apart (Is t.CloseBrace) BeginsRow
rows_apart s e h = row_apart s (inr e) h

pub rows_optional : Optional rows_format (Is t.CloseBrace)
rows_optional = record { law = rows_law; ends = λ s h. h; apart = rows_apart }

abbrev pub inner_table : Format (Option Rows × ℕ)
inner_table = then (option rows_format (Is t.CloseBrace)) (sign_format t.CloseBrace)

pub inner_table_law : Law inner_table
inner_table_law = then_law (option_law rows_optional) (sign_law t.CloseBrace) (λ s h. h)

abbrev pub table_parts : Format (ℕ × (Option Rows × ℕ))
table_parts = behind t.OpenBrace inner_table

-- true or false comes
abbrev pub ATruth : Option Symbol → Type 0
ATruth (Some (mark (t.Truth b))) = Unit {0}
ATruth _ = ⊥

abbrev pub truth_format : Format (Bool × ℕ)
truth_format = record {
  put = λ x ts. sign (t.Truth x.0) x.1 ∷ ts;
  Fine = λ x. Unit {0};
  First = ATruth;
  Next = Anything;
}

truth_only : (a b : Bool × ℕ) (m n : List Tok) → sign (t.Truth a.0) a.1 ∷ m ≡ sign (t.Truth b.0) b.1 ∷ n
    → (a ≡ b) × (m ≡ n)
truth_only (a, p) (b, q) m n e =
    let f : a ≡ b = cc in
    let g : p ≡ q = cc in
    (ap₂ (λ (x : Bool) (y : ℕ). (x, y)) f g, cc)

pub truth_law : Law truth_format
truth_law = record {
  law = record {
    some = (true, 0);
    some_fine = tt;
    appends = λ a x y. refl;
    first = λ a ts h n. tt;
    only = λ a b m n h k z w e. truth_only a b m n e;
  };
  total = λ a. tt;
}

element_no_brace : Apart BeginsElement (Is t.OpenBrace)
element_no_brace s h e = subst BeginsElement e h

abbrev pub other_values : Format (Element ⊎ (ℕ × (Option Rows × ℕ)))
other_values = either element_format table_parts Anything

pub other_value_alternatives : Alternatives element_format table_parts Anything
other_value_alternatives = record {
  left = element_law;
  right = behind_law t.OpenBrace inner_table_law;
  apart =
      element_no_brace;
  ends_left = λ s h. h;
  ends_right = λ s h. h;
}

truth_apart : Apart ATruth (λ s. BeginsElement s ⊎ Is t.OpenBrace s)
truth_apart None h k = h
truth_apart (Some (word w)) h k = h
truth_apart (Some (mark (t.Truth b))) h (inl k) = k
truth_apart (Some (mark (t.Truth b))) h (inr e) = cc
truth_apart (Some (mark s)) h k = h

abbrev pub ValueParts : Type 0
ValueParts = (Bool × ℕ) ⊎ (Element ⊎ (ℕ × (Option Rows × ℕ)))

abbrev pub value_parts : Format ValueParts
value_parts = either truth_format other_values Anything

pub value_alternatives : Alternatives truth_format other_values Anything
value_alternatives = record {
  left = truth_law;
  right = either_law other_value_alternatives;
  apart = truth_apart;
  ends_left = λ s h. h;
  ends_right = λ s h. h;
}

abbrev pub BeginsValue : Option Symbol → Type 0
BeginsValue s = ATruth s ⊎ (BeginsElement s ⊎ Is t.OpenBrace s)

abbrev pub value_format : Format Value
value_format = record { put = put_value; Fine = λ x. Unit {0}; First = BeginsValue; Next = Anything }

abbrev value_to : Value → ValueParts
value_to (truth_value b p) = inl (b, p)
value_to (element_value e) = inr (inl e)
value_to (table b rs e) = inr (inr (b, (rs, e)))

abbrev value_from : ValueParts → Value
value_from (inl (b, p)) = truth_value b p
value_from (inr (inl e)) = element_value e
value_from (inr (inr (b, (rs, e)))) = table b rs e

value_there : (a : Value) → value_from (value_to a) ≡ a
value_there (truth_value b p) = refl
value_there (element_value e) = refl
value_there (table b rs e) = refl

value_written : (a : Value) (ts : List Tok) → put_value a ts ≡ value_parts.put (value_to a) ts
value_written (truth_value b p) ts = refl
value_written (element_value e) ts = refl
value_written (table b rs e) ts = refl

value_back : (b : ValueParts) (ts : List Tok) → put_value (value_from b) ts ≡ value_parts.put b ts
value_back (inl (b, p)) ts = refl
value_back (inr (inl e)) ts = refl
value_back (inr (inr (b, (rs, e)))) ts = refl

pub value_same : Same value_format value_parts
value_same = record {
  to = value_to;
  from = value_from;
  there = value_there;
  written = value_written;
  back = value_back;
  ends = λ s h. h;
  begins = λ s h. h;
}

pub value_parts_law : Law value_parts
value_parts_law = either_law value_alternatives

pub value_law : Law value_format
value_law = same_law value_same value_parts_law

-- ---- marks

abbrev pub Closing : Type 0
Closing = (ℕ × ℕ) ⊎ ℕ

abbrev pub apart_equal : Format (ℕ × ℕ)
apart_equal = behind (t.Compare cmp.Greater) (sign_format (t.Compare cmp.Equal))

pub apart_equal_law : Law apart_equal
apart_equal_law = behind_law (t.Compare cmp.Greater) (sign_law (t.Compare cmp.Equal))

abbrev pub closing_format : Format Closing
closing_format = either apart_equal (sign_format (t.Compare cmp.AtLeast)) Anything

greater_apart : Apart (Is (t.Compare cmp.Greater)) (Is (t.Compare cmp.AtLeast))
greater_apart s e f = cc

pub closing_alternatives : Alternatives apart_equal (sign_format (t.Compare cmp.AtLeast)) Anything
closing_alternatives = record {
  left = apart_equal_law;
  right = sign_law (t.Compare cmp.AtLeast);
  apart = greater_apart;
  ends_left = λ s h. h;
  ends_right = λ s h. h;
}

abbrev pub named_mark : Format (Name × Closing)
named_mark = then name_format closing_format

pub named_mark_law : Law named_mark
named_mark_law = then_law name_law (either_law closing_alternatives) (λ s h. tt)

abbrev pub mark_parts : Format (ℕ × (Name × Closing))
mark_parts = behind (t.Compare cmp.Less) named_mark

abbrev pub EqualParts : Type 0
EqualParts = ℕ ⊎ (ℕ × (Name × Closing))

abbrev pub equal_parts : Format EqualParts
equal_parts = either (sign_format (t.Compare cmp.Equal)) mark_parts Anything

equal_apart : Apart (Is (t.Compare cmp.Equal)) (Is (t.Compare cmp.Less))
equal_apart s e f = cc

pub equal_alternatives : Alternatives (sign_format (t.Compare cmp.Equal)) mark_parts Anything
equal_alternatives = record {
  left = sign_law (t.Compare cmp.Equal);
  right =
      behind_law (t.Compare cmp.Less) named_mark_law;
  apart = equal_apart;
  ends_left = λ s h. h;
  ends_right = λ s h. h;
}

abbrev pub Equal : Type 0
Equal = Option Mark × ℕ

abbrev pub BeginsEqual : Option Symbol → Type 0
BeginsEqual s = Is (t.Compare cmp.Equal) s ⊎ Is (t.Compare cmp.Less) s

abbrev pub put_equals : Equal → List Tok → List Tok
put_equals x ts = put_equal x.0 x.1 ts

abbrev pub equal_format : Format Equal
equal_format = record { put = put_equals; Fine = λ x. Unit {0}; First = BeginsEqual; Next = Anything }

abbrev equal_to : Equal → EqualParts
equal_to (None, p) = inl p
equal_to (Some (closed_mark a n b), p) = inr (a, (n, inl (b, p)))
equal_to (Some (open_mark a n), p) = inr (a, (n, inr p))

abbrev equal_from : EqualParts → Equal
equal_from (inl p) = (None, p)
equal_from (inr (a, (n, inl (b, p)))) = (Some (closed_mark a n b), p)
equal_from (inr (a, (n, inr p))) = (Some (open_mark a n), p)

equal_there : (a : Equal) → equal_from (equal_to a) ≡ a
equal_there (None, p) = refl
equal_there (Some (closed_mark a n b), p) = refl
equal_there (Some (open_mark a n), p) = refl

equal_written : (a : Equal) (ts : List Tok) → put_equals a ts ≡ equal_parts.put (equal_to a) ts
equal_written (None, p) ts = refl
equal_written (Some (closed_mark a n b), p) ts = refl
equal_written (Some (open_mark a n), p) ts = refl

equal_back : (b : EqualParts) (ts : List Tok) → put_equals (equal_from b) ts ≡ equal_parts.put b ts
equal_back (inl p) ts = refl
equal_back (inr (a, (n, inl (b, p)))) ts = refl
equal_back (inr (a, (n, inr p))) ts = refl

pub equal_same : Same equal_format equal_parts
equal_same = record {
  to = equal_to;
  from = equal_from;
  there = equal_there;
  written = equal_written;
  back = equal_back;
  ends = λ s h. h;
  begins = λ s h. h;
}

pub equal_parts_law : Law equal_parts
equal_parts_law = either_law equal_alternatives

pub equal_law : Law equal_format
equal_law = same_law equal_same equal_parts_law

-- ---- entries

abbrev pub given_value : Format (Equal × Value)
given_value = then equal_format value_format

pub given_value_law : Law given_value
given_value_law = then_law equal_law value_law (λ s h. tt)

abbrev pub entry_parts : Format (Name × (Equal × Value))
entry_parts = then name_format given_value

abbrev pub entry_format : Format Entry
entry_format = record { put = put_entry; Fine = λ x. Unit {0}; First = AWord; Next = Anything }

abbrev entry_to : Entry → Name × (Equal × Value)
entry_to (entry n m p v) = (n, ((m, p), v))

entry_there : (a : Entry) → entry (entry_to a).0 (entry_to a).1.0.0 (entry_to a).1.0.1 (entry_to a).1.1 ≡ a
entry_there (entry n m p v) = refl

entry_written : (a : Entry) (ts : List Tok) → put_entry a ts ≡ entry_parts.put (entry_to a) ts
entry_written (entry n m p v) ts = refl

pub entry_same : Same entry_format entry_parts
entry_same = record {
  to = entry_to;
  from = λ x. entry x.0 x.1.0.0 x.1.0.1 x.1.1;
  there = entry_there;
  written = entry_written;
  back = λ b ts. refl;
  ends = λ s h. h;
  begins = λ s h. h;
}

pub entry_parts_law : Law entry_parts
entry_parts_law = then_law name_law given_value_law (λ s h. tt)

pub entry_law : Law entry_format
entry_law = same_law entry_same entry_parts_law

pub entries_several : Several entry_format (Is t.CloseBrace)
entries_several = record {
  law = entry_law;
  ends = λ s h. tt;
  apart = λ s e w. word_no s w t.CloseBrace e;
  follows = λ s h. tt;
}

abbrev pub entries_format : Format (List Entry)
entries_format = each entry_format (Is t.CloseBrace)

abbrev pub closed_entries : Format (List Entry × ℕ)
closed_entries = then entries_format (sign_format t.CloseBrace)

pub closed_entries_law : Law closed_entries
closed_entries_law = then_law (each_law entries_several) (sign_law t.CloseBrace) (λ s h. h)

-- ---- how a block begins

abbrev pub of_vocabulary : Format (Name × ℕ)
of_vocabulary = then name_format (sign_format t.OpenBrace)

pub of_vocabulary_law : Law of_vocabulary
of_vocabulary_law = then_law name_law (sign_law t.OpenBrace) (λ s h. tt)

abbrev pub colon_of : Format (ℕ × (Name × ℕ))
colon_of = behind t.Colon of_vocabulary

pub colon_of_law : Law colon_of
colon_of_law = behind_law t.Colon of_vocabulary_law

abbrev pub named_header : Format (Name × (ℕ × (Name × ℕ)))
named_header = then name_format colon_of

pub named_header_law : Law named_header
named_header_law = then_law name_law colon_of_law (λ s h. tt)

abbrev pub header_parts : Outer → Format (ℕ × (Name × (ℕ × (Name × ℕ))))
header_parts w = behind (t.Outer w) named_header

abbrev pub header_format : Outer → Format Header
header_format w = record { put = put_header w; Fine = λ x. Unit {0}; First = Is (t.Outer w); Next = Anything }

abbrev header_to : Header → ℕ × (Name × (ℕ × (Name × ℕ)))
header_to (header p n c v b) = (p, (n, (c, (v, b))))

header_there : (a : Header) → header (header_to a).0 (header_to a).1.0 (header_to a).1.1.0 (header_to a).1.1.1.0
    (header_to a).1.1.1.1 ≡ a
header_there (header p n c v b) = refl

header_written : (w : Outer) (a : Header) (ts : List Tok) → put_header w a ts ≡ (header_parts w).put (header_to a) ts
header_written w (header p n c v b) ts = refl

pub header_same : (w : Outer) → Same (header_format w) (header_parts w)
header_same w = record {
  to = header_to;
  from = λ x. header x.0 x.1.0 x.1.1.0 x.1.1.1.0 x.1.1.1.1;
  there = header_there;
  written = header_written w;
  back = λ b ts. refl;
  ends = λ s h. h;
  begins = λ s h. h;
}

pub header_parts_law : (w : Outer) → Law (header_parts w)
header_parts_law w = behind_law (t.Outer w) named_header_law

pub header_law : (w : Outer) → Law (header_format w)
header_law w = same_law (header_same w) (header_parts_law w)

-- ---- structures

abbrev pub structure_parts : Format (Header × (List Entry × ℕ))
structure_parts = then (header_format o.Structure) closed_entries

abbrev pub structure_format : Format Structure
structure_format = record {
  put = put_structure;
  Fine = λ x. Unit {0};
  First = Is (t.Outer o.Structure);
  Next = Anything;
}

abbrev structure_to : Structure → Header × (List Entry × ℕ)
structure_to (structure h es e) = (h, (es, e))

structure_there : (a : Structure) → structure (structure_to a).0 (structure_to a).1.0 (structure_to a).1.1 ≡ a
structure_there (structure h es e) = refl

structure_written : (a : Structure) (ts : List Tok) → put_structure a ts ≡ structure_parts.put (structure_to a) ts
structure_written (structure h es e) ts = refl

pub structure_same : Same structure_format structure_parts
structure_same = record {
  to = structure_to;
  from = λ x. structure x.0 x.1.0 x.1.1;
  there = structure_there;
  written = structure_written;
  back = λ b ts. refl;
  ends = λ s h. h;
  begins = λ s h. h;
}

pub structure_parts_law : Law structure_parts
structure_parts_law = then_law (header_law o.Structure) closed_entries_law (λ s h. tt)

pub structure_law : Law structure_format
structure_law = same_law structure_same structure_parts_law
