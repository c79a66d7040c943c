-- The elements of the domains that a structure gives are words, where they are names.
use Rattle.std.proofs.Common.{ℕ, zero, suc, ◌+◌, ℤ, pos, ◌+ℤ◌, Bool, true, false, List, [], ◌∷◌, ◌++◌, length, map}
use Rattle.std.proofs.Common.{filter, fold, cond, if◌then◌else◌, Option, None, Some, option_map}
use Rattle.std.specs.Prelude.{⊤, IfSome, flat_map, filter_map}
use Rattle.std.specs.List.{AllByRecursion, list_any, enumerate_from, cons_option}
use Rattle.kb_logic.specs.declared.elements.Elem.{Elem}
use Rattle.kb_logic.specs.declared.elements.Elem.TheVariants.{Named, Num}
use Rattle.kb_logic.specs.declared.vocabularies.TypeDecl.{TypeDecl}
use Rattle.kb_logic.specs.declared.vocabularies.Vocabulary.{Vocabulary}
use Rattle.grammar.specs.BlockTrees as raw
use Rattle.grammar.specs.Trees.{name}
use Rattle.stage_definitions.specs.Names.{text_of}
use Rattle.stage_definitions.specs.Elements.{Cell, one, span, as_interval, size_of, integers_from, members}
use Rattle.stage_definitions.specs.Elements.{same_element}
use Rattle.stage_definitions.specs.Elements.{with_element, listed}
use Rattle.stage_definitions.specs.DataEntries.{Subject, argument_types, value_type, is_plain_list, subject_of}
use Rattle.stage_definitions.specs.DataEntries.{WrittenRow}
use Rattle.stage_definitions.specs.DataEntries.{element_of, items_in, value_in, row_of_item, rows_between, rows_in}
use Rattle.stage_definitions.specs.DataEntries.{written_rows, has_form, sense_of, mark_name, Said, said, said_in}
use Rattle.stage_definitions.specs.DataEntries.{fits_in}
use Rattle.stage_definitions.specs.DataEntries.{fitting, range_of, cell_of, Spot, item_spots, value_spots, row_spots}
use Rattle.stage_definitions.specs.DataEntries.{spots_of}
use Rattle.stage_definitions.specs.DataDomains.{is_list_of, is_listed, cells_given, listed_cells, occurs_at}
use Rattle.stage_definitions.specs.DataDomains.{occurring_cells, is_constructed, made_cells, has_what_occurs, cells_by}
use Rattle.stage_definitions.specs.DataDomains.{domains_of}
use Rattle.reading_laws.specs.Words.{IsFreeWord, IsSpelled, IsSpelledType}
use Rattle.reading_laws.proofs.BlockWords.{IsElementRead, IsItemRead, AreItemsRead, IsRowRead, AreRowsRead, IsValueRead}
use Rattle.reading_laws.proofs.BlockWords.{IsEntryRead, IsStructureRead}

-- ---- lists

module _ {X : Type 0} (P : X → Type 0) where
  joined : (xs ys : List X) → AllByRecursion P xs → AllByRecursion P ys → AllByRecursion P (xs ++ ys)
  joined [] ys h k = k
  joined (x ∷ xs) ys h k = (h.0, joined xs ys h.1 k)

  chosen : (b : Bool) (xs ys : List X) → AllByRecursion P xs → AllByRecursion P ys
      → AllByRecursion P (if b then xs else ys)
  chosen true xs ys h k = h
  chosen false xs ys h k = k

  kept : (test : X → Bool) (xs : List X) → AllByRecursion P xs → AllByRecursion P (filter test xs)
  kept test [] h = tt
  kept test (x ∷ xs) h = by (test x) (kept test xs h.1)
    where
      by : (b : Bool) → AllByRecursion P (filter test xs) → AllByRecursion P
          (cond b (x ∷ filter test xs) (filter test xs))
      by true k = (h.0, k)
      by false k = k

module _ {X Y : Type 0} (P : X → Type 0) (Q : Y → Type 0) where
  together : (f : X → List Y) → ((x : X) → P x → AllByRecursion Q (f x)) → (xs : List X) → AllByRecursion P xs
      → AllByRecursion Q (flat_map f xs)
  together f each [] h = tt
  together f each (x ∷ xs) h = joined Q (f x) (flat_map f xs) (each x h.0) (together f each xs h.1)

  images : (f : X → Y) → ((x : X) → P x → Q (f x)) → (xs : List X) → AllByRecursion P xs → AllByRecursion Q (map f xs)
  images f each [] h = tt
  images f each (x ∷ xs) h = (each x h.0, images f each xs h.1)

  those_there : (f : X → Option Y) → ((x : X) → P x → IfSome (f x) Q) → (xs : List X) → AllByRecursion P xs
      → AllByRecursion Q (filter_map f xs)
  those_there f each [] h = tt
  those_there f each (x ∷ xs) h = by (f x) (each x h.0) (those_there f each xs h.1)
    where
      by : (o : Option Y) → IfSome o Q → AllByRecursion Q (filter_map f xs)
          → AllByRecursion Q (cons_option o (filter_map f xs))
      by None k rest = rest
      by (Some y) k rest = (k, rest)

-- ---- rows as they are written

abbrev IsRowSpelled : WrittenRow → Type 0
IsRowSpelled r = AllByRecursion IsItemRead r.items × IfSome r.value IsElementRead

items_spelled : (is : raw.RowItems) → AreItemsRead is → AllByRecursion IsItemRead (items_in is)
items_spelled (raw.items i is) h = (
  h.0,
  images (λ (x : ℕ × raw.RowItem). IsItemRead x.1) IsItemRead (λ x. x.1)
      (λ x k. k) is h.1,
)

value_spelled : (o : Option (ℕ × raw.Element)) → IfSome o (λ x. IsElementRead x.1) → IfSome (value_in o) IsElementRead
value_spelled None h = tt
value_spelled (Some x) h = h

between_spelled : (b : Bool) (r : raw.Row) → IsRowRead r → AllByRecursion IsRowSpelled (rows_between b r)
between_spelled true (raw.plain is None) h = images IsItemRead IsRowSpelled row_of_item (λ i k. ((k, tt), tt))
    (items_in is) (items_spelled is h.0)
between_spelled true (raw.plain is (Some to)) h = ((items_spelled is h.0, h.1), tt)
between_spelled false (raw.plain is to) h = ((items_spelled is h.0, value_spelled to h.1), tt)
between_spelled true (raw.bracketed p is q to) h = ((items_spelled is h.0, value_spelled to h.1), tt)
between_spelled false (raw.bracketed p is q to) h = ((items_spelled is h.0, value_spelled to h.1), tt)
between_spelled true (raw.only to) h = ((tt, h), tt)
between_spelled false (raw.only to) h = ((tt, h), tt)

rows_spelled : (rs : raw.Rows) → AreRowsRead rs → AllByRecursion IsRowRead (rows_in rs)
rows_spelled (raw.rows r more e) h = (
  h.0,
  images (λ (x : ℕ × raw.Row). IsRowRead x.1) IsRowRead (λ x. x.1)
      (λ x k. k) more h.1,
)

written_spelled : (b : Bool) (w : raw.Value) → IsValueRead w → AllByRecursion IsRowSpelled (written_rows b w)
written_spelled b (raw.truth_value true p) h = ((tt, tt), tt)
written_spelled b (raw.truth_value false p) h = tt
written_spelled b (raw.element_value e) h = ((tt, h), tt)
written_spelled b (raw.table p None q) h = tt
written_spelled b (raw.table p (Some rs) q) h = together IsRowRead IsRowSpelled (rows_between b) (between_spelled b)
    (rows_in rs) (rows_spelled rs h)

-- ---- entries

abbrev IsSaidSpelled : Said → Type 0
IsSaidSpelled e = AllByRecursion IsRowSpelled e.rows

said_spelled : (v : Vocabulary) (e : raw.Entry) → IsEntryRead e → IsSaidSpelled (said v e)
said_spelled v (raw.entry w mark p value) h =
    let x = subject_of v (text_of w) in
    let rows = written_rows (is_plain_list x) value in
    chosen IsRowSpelled (has_form x (sense_of (option_map mark_name mark)) (length rows) value) rows []
    (written_spelled (is_plain_list x) value h) tt

entries_spelled : (v : Vocabulary) (s : raw.Structure) → IsStructureRead s → AllByRecursion IsSaidSpelled (said_in v s)
entries_spelled v (raw.structure x es e) h = images IsEntryRead IsSaidSpelled (said v) (said_spelled v) es h.1

-- ---- what stands in rows

abbrev IsCellSpelled : Cell → Type 0
IsCellSpelled (one x) = IsSpelled x
IsCellSpelled (span a b) = ⊤

abbrev IsSpotSpelled : Spot → Type 0
IsSpotSpelled s = IfSome s.cell IsCellSpelled

element_spelled : (e : raw.Element) → IsElementRead e → IsSpelled (element_of e)
element_spelled (raw.named (name text p)) h = h
element_spelled (raw.number n p) h = tt
element_spelled (raw.below_zero p n q) h = tt

range_spelled : (x y : Elem) → IfSome (range_of x y) IsCellSpelled
range_spelled (Num a) (Num b) = tt
range_spelled (Num a) (Named n) = tt
range_spelled (Named m) (Num b) = tt
range_spelled (Named m) (Named n) = tt

cell_spelled : (b : Bool) (i : raw.RowItem) → IsItemRead i → IfSome (cell_of b i) IsCellSpelled
cell_spelled b (raw.item e None) h = element_spelled e h
cell_spelled true (raw.item e (Some to)) h = range_spelled (element_of e) (element_of to.1)
cell_spelled false (raw.item e (Some to)) h = tt

items_spots : (x : Subject) (types : List ℕ) (is : List raw.RowItem) → AllByRecursion IsItemRead is
    → AllByRecursion IsSpotSpelled (item_spots x types is)
items_spots x [] is h = tt
items_spots x (t ∷ ts) [] h = tt
items_spots x (t ∷ ts) (i ∷ is) h = (cell_spelled (is_plain_list x) i h.0, items_spots x ts is h.1)

values_spots : (t : Option ℕ) (o : Option raw.Element) → IfSome o IsElementRead
    → AllByRecursion IsSpotSpelled (value_spots t o)
values_spots (Some t) (Some e) h = (element_spelled e h, tt)
values_spots (Some t) None h = tt
values_spots None o h = tt

rows_spots : (x : Subject) (r : WrittenRow) → IsRowSpelled r → AllByRecursion IsSpotSpelled (row_spots x r)
rows_spots x r h =
    joined IsSpotSpelled (item_spots x (argument_types x) r.items) (value_spots (value_type x) r.value)
    (items_spots x (argument_types x) r.items h.0) (values_spots (value_type x) r.value h.1)

spots_spelled : (e : Said) → IsSaidSpelled e → AllByRecursion IsSpotSpelled (spots_of e)
spots_spelled e h = together IsRowSpelled IsSpotSpelled (row_spots e.subject) (rows_spots e.subject) (fitting e)
    (kept IsRowSpelled (fits_in e.subject) e.rows h)

-- ---- domains

module _ (types : List TypeDecl) (es : List Said) (spelled : AllByRecursion IsSaidSpelled es) where
  given_spelled : (e : Said) → IsSaidSpelled e → AllByRecursion IsCellSpelled (cells_given e)
  given_spelled e h = those_there IsSpotSpelled IsCellSpelled (λ s. s.cell) (λ s k. k) (spots_of e) (spots_spelled e h)

  list_spelled : (t : ℕ) → AllByRecursion IsCellSpelled (listed_cells es t)
  list_spelled t = together IsSaidSpelled IsCellSpelled cells_given given_spelled (filter (is_list_of t) es)
      (kept IsSaidSpelled (is_list_of t) es spelled)

  occurring_spelled : (t : ℕ) → AllByRecursion IsCellSpelled (occurring_cells types es t)
  occurring_spelled t =
      those_there IsSpotSpelled IsCellSpelled (λ s. s.cell) (λ s k. k)
      (filter (occurs_at types t) (flat_map spots_of es))
      (kept IsSpotSpelled (occurs_at types t) (flat_map spots_of es)
      (together IsSaidSpelled IsSpotSpelled spots_of spots_spelled es spelled))

  cells_spelled : (t : ℕ) (d : TypeDecl) → IsSpelledType d → AllByRecursion IsCellSpelled (cells_by types es t d)
  cells_spelled t d h =
      let rest = if has_what_occurs es t d then occurring_cells types es t else [] in
      let more = if is_listed es t then listed_cells es t else rest in
      chosen IsCellSpelled (is_constructed d) (made_cells d) more
      (images IsFreeWord IsCellSpelled (λ n. one (Named n)) (λ n k. k) d.made h.made)
      (chosen IsCellSpelled (is_listed es t) (listed_cells es t) rest (list_spelled t)
      (chosen IsCellSpelled (has_what_occurs es t d) (occurring_cells types es t) [] (occurring_spelled t) tt))

integers_spelled : (z : ℤ) (n : ℕ) → AllByRecursion IsSpelled (integers_from z n)
integers_spelled z zero = tt
integers_spelled z (suc n) = (tt, integers_spelled (z +ℤ pos 1) n)

members_spelled : (c : Cell) → IsCellSpelled c → AllByRecursion IsSpelled (members c)
members_spelled (one x) h = (h, tt)
members_spelled (span a b) h = integers_spelled a (size_of (as_interval a b))

collected : (xs ys : List Elem) → AllByRecursion IsSpelled xs → AllByRecursion IsSpelled ys
    → AllByRecursion IsSpelled (fold with_element xs ys)
collected xs [] h k = h
collected xs (y ∷ ys) h k =
    collected (with_element xs y) ys (chosen IsSpelled (list_any (same_element y) xs) xs (xs ++ y ∷ []) h
    (joined IsSpelled xs (y ∷ []) h (k.0, tt))) k.1

listed_spelled : (cs : List Cell) → AllByRecursion IsCellSpelled cs → AllByRecursion IsSpelled (listed cs)
listed_spelled cs h = collected [] (flat_map members cs) tt (together IsCellSpelled IsSpelled members members_spelled cs
    h)

each_domain : (types : List TypeDecl) (es : List Said) → AllByRecursion IsSaidSpelled es → (n : ℕ) (ds : List TypeDecl)
    → AllByRecursion IsSpelledType ds
    → AllByRecursion (AllByRecursion IsSpelled) (map (λ t. listed (cells_by types es t.0 t.1)) (enumerate_from n ds))
each_domain types es spelled n [] h = tt
each_domain types es spelled n (d ∷ ds) h = (
  listed_spelled (cells_by types es n d) (cells_spelled types es spelled n d h.0),
  each_domain types es spelled
      (n + 1) ds h.1,
)

pub domains_spelled : (v : Vocabulary) (s : raw.Structure) → IsStructureRead s → AllByRecursion IsSpelledType v.types
    → AllByRecursion (AllByRecursion IsSpelled) (domains_of v.types (said_in v s))
domains_spelled v s read types = each_domain v.types (said_in v s) (entries_spelled v s read) 0 v.types types
