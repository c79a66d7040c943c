-- Where the parts of a structure are stuck.
use Rattle.std.proofs.Common.{◌≡◌, ℕ, List, [], ◌∷◌, ◌++◌, Option, Some, None, inl, inr, refl, sym, ap, subst, ◌∙◌}
use Rattle.grammar.specs.declared.stops.ReadError.{ReadError}
use Rattle.grammar.specs.declared.stops.ReadError.TheVariants.{Stuck}
use Rattle.grammar.specs.declared.terminal.Terminal.TheVariants as t
use Rattle.grammar.specs.declared.terminal.Outer.{Outer}
use Rattle.grammar.specs.declared.terminal.Outer.TheVariants as o
use Rattle.grammar.specs.declared.terminal.Adding.TheVariants.{Minus}
use Rattle.grammar.specs.declared.terminal.Comparison.TheVariants as cmp
use Rattle.grammar.specs.Terminals.{Symbol, Tok, tok_at, mark, word, sign, place_of}
use Rattle.grammar.specs.Trees.{Name, name}
use Rattle.grammar.specs.Texts.{SameHead}
use Rattle.token_reader.specs.Binders.{Whole}
use Rattle.grammar.specs.Spelling.{put_name}
use Rattle.token_reader.specs.Parts.{NoInteger}
use Rattle.grammar.specs.BlockTrees.{Header, Element, named, number, below_zero, RowItem, RowItems, Row, Mark, Entry}
use Rattle.grammar.specs.BlockSpelling.{put_option, put_each, put_behind, put_header, put_element, put_item}
use Rattle.grammar.specs.BlockSpelling.{put_items, put_to, put_row, put_value, put_entry, put_structure}
use Rattle.block_reader.specs.BlockParts.{Anything, NoTruth, EndsItem, EndsItems, EndsRow, StuckAt}
use Rattle.token_reader.specs.Signs.{next, No, Is, AWord, Absent}
use Rattle.block_reader.specs.BlockReads.{put_marked, put_row_tails}
use Rattle.block_reader.proofs.Formats.{Here, at_same, same_next, comes_too, each_cut, each_next, push_put, whole_each}
use Rattle.block_reader.proofs.Plain.{fully, not_first, sign_law, name_law, then_first, then_second, option_law}
use Rattle.block_reader.proofs.Plain.{option_in, option_ends, each_law, each_in, either_law, either_left, either_right}
use Rattle.block_reader.proofs.Plain.{same_in, narrowed_in, stuck_behind, behind, behind_in}
use Rattle.block_reader.proofs.BlockReadings.{absent_at, neither}
use Rattle.block_reader.proofs.RowFormats.{BeginsElement, element_format, element_law, range_format, range_optional}
use Rattle.block_reader.proofs.RowFormats.{item_format, item_parts_law, item_same, item_law, item_tails}
use Rattle.block_reader.proofs.RowFormats.{item_tails_several, items_format, items_parts_law, items_same, items_law}
use Rattle.block_reader.proofs.RowFormats.{to_law, arrow_format, arrow_optional, closed_arrow_law, inner_row}
use Rattle.block_reader.proofs.RowFormats.{inner_row_law, only_format, other_alternatives, row_format, row_parts_law}
use Rattle.block_reader.proofs.RowFormats.{row_same, row_alternatives, row_law, row_tail, row_tails_several, row_tails}
use Rattle.block_reader.proofs.RowFormats.{row_tails_law, tails_to, tails_written, rows_format, rows_parts_law}
use Rattle.block_reader.proofs.RowFormats.{rows_same}
use Rattle.block_reader.proofs.StructureFormats.{rows_optional, inner_table_law, ATruth, other_value_alternatives}
use Rattle.block_reader.proofs.StructureFormats.{value_format, value_parts_law, value_alternatives, value_same}
use Rattle.block_reader.proofs.StructureFormats.{value_law, closing_alternatives, named_mark, named_mark_law}
use Rattle.block_reader.proofs.StructureFormats.{equal_format, equal_parts_law, equal_alternatives, equal_same}
use Rattle.block_reader.proofs.StructureFormats.{equal_law, given_value_law, entry_format, entry_parts_law, entry_same}
use Rattle.block_reader.proofs.StructureFormats.{entry_law, entries_format, entries_several, closed_entries_law}
use Rattle.block_reader.proofs.StructureFormats.{of_vocabulary_law, colon_of, colon_of_law, named_header}
use Rattle.block_reader.proofs.StructureFormats.{named_header_law, header_format, header_parts_law, header_same}
use Rattle.block_reader.proofs.StructureFormats.{header_law, structure_format, structure_parts_law, structure_same}

-- ---- how a block begins

header_in : (w : Outer) (place : ℕ) (us rest : List Tok) → Here named_header us rest
    → Here (header_format w) (sign (t.Outer w) place ∷ us) rest
header_in w place us rest h = same_in (header_same w) (header_parts_law w) (sign (t.Outer w) place ∷ us) rest
    (behind_in (t.Outer w) named_header_law place (sign (t.Outer w) place ∷ us) us rest refl h)

colon_in : (w : Outer) (place : ℕ) (n : Name) (us vs rest : List Tok) → us ≡ put_name n vs → Here colon_of vs rest
    → Here (header_format w) (sign (t.Outer w) place ∷ us) rest
colon_in w place n us vs rest is h = header_in w place us rest
    (then_second name_law colon_of_law (λ s k. tt) n us vs rest is tt h)

pub no_header_name : (w : Outer) (place : ℕ) (us : List Tok) (len : ℕ) (e : ReadError) → Absent AWord us len e
    → StuckAt (put_header w) Whole Anything (sign (t.Outer w) place ∷ us) len e
no_header_name w place us len e h = absent_at AWord (header_format w) (sign (t.Outer w) place ∷ us) us len e
    (λ none. header_in w place us us (not_first named_header_law us none)) h

pub no_header_colon : (w : Outer) (place : ℕ) (n : Name) (us vs : List Tok) (len : ℕ) (e : ReadError)
    → us ≡ put_name n vs → Absent (Is t.Colon) vs len e → StuckAt (put_header w) Whole Anything
    (sign (t.Outer w) place ∷ us) len e
no_header_colon w place n us vs len e is h = absent_at (Is t.Colon) (header_format w) (sign (t.Outer w) place ∷ us) vs
    len e (λ none. colon_in w place n us vs vs is (not_first colon_of_law vs none)) h

pub no_header_of : (w : Outer) (place : ℕ) (n : Name) (q : ℕ) (us vs ws : List Tok) (len : ℕ) (e : ReadError)
    → us ≡ put_name n vs → vs ≡ sign t.Colon q ∷ ws → Absent AWord ws len e → StuckAt (put_header w) Whole Anything
    (sign (t.Outer w) place ∷ us) len e
no_header_of w place n q us vs ws len e is colon h = absent_at AWord (header_format w) (sign (t.Outer w) place ∷ us) ws
    len e (λ none. colon_in w place n us vs ws is (behind_in t.Colon of_vocabulary_law q vs ws ws colon
    (not_first of_vocabulary_law ws none))) h

pub no_header_brace : (w : Outer) (place : ℕ) (n : Name) (q : ℕ) (m : Name) (us vs ws xs : List Tok) (len : ℕ)
    (e : ReadError) → us ≡ put_name n vs → vs ≡ sign t.Colon q ∷ ws → ws ≡ put_name m xs
    → Absent (Is t.OpenBrace) xs len e → StuckAt (put_header w) Whole Anything (sign (t.Outer w) place ∷ us) len e
no_header_brace w place n q m us vs ws xs len e is colon read h =
    absent_at (Is t.OpenBrace) (header_format w) (sign (t.Outer w) place ∷ us) xs len e
    (λ none. colon_in w place n us vs xs is (behind_in t.Colon of_vocabulary_law q vs ws xs colon
    (then_second name_law (sign_law t.OpenBrace) (λ s k. tt) m ws xs xs read tt
    (not_first (sign_law t.OpenBrace) xs none)))) h

-- ---- elements

no_element_here : (ts : List Tok) → No (t.Add Minus) (next ts) → NoInteger ts → (AWord (next ts) → ⊥)
    → BeginsElement (next ts) → ⊥
no_element_here [] m i w h = h
no_element_here (tok_at (word x) p ∷ ts) m i w h = w tt
no_element_here (tok_at (mark (t.Integer n)) p ∷ ts) m i w h = i
no_element_here (tok_at (mark (t.Add Minus)) p ∷ ts) m i w h = m refl
no_element_here (tok_at (mark s) p ∷ ts) m i w h = h

pub no_element : (ts : List Tok) (len : ℕ) (e : ReadError) → No (t.Add Minus) (next ts) → NoInteger ts
    → Absent AWord ts len e
    → StuckAt put_element Whole Anything ts len e
no_element ts len e m i h = absent_at AWord element_format ts ts len e
    (λ none. not_first element_law ts (no_element_here ts m i none)) h

-- an integer comes
abbrev pub AnInteger : Option Symbol → Type 0
AnInteger (Some (mark (t.Integer n))) = Unit {0}
AnInteger _ = ⊥

no_integer : (ts : List Tok) → NoInteger ts → AnInteger (next ts) → ⊥
no_integer [] i h = h
no_integer (tok_at (word x) p ∷ ts) i h = h
no_integer (tok_at (mark (t.Integer n)) p ∷ ts) i h = i
no_integer (tok_at (mark s) p ∷ ts) i h = h

behind_minus : (a : Element) (p : ℕ) (more after : List Tok) → sign (t.Add Minus) p ∷ more ≡ put_element a after
    → AnInteger (next more)
behind_minus (named (name w q)) p more after e = absurd (cc)
behind_minus (number n q) p more after e = absurd (cc)
behind_minus (below_zero q n r) p more after e = let f : sign (t.Integer n) r ∷ after ≡ more = cc in
    subst AnInteger (ap next f) tt

minus_alone : (p : ℕ) (us : List Tok) → NoInteger us → Here element_format (sign (t.Add Minus) p ∷ us) us
minus_alone p us i = record {
  front = sign (t.Add Minus) p ∷ [];
  split = refl;
  dead = λ a more after same fine n e. no_integer us i (subst AnInteger (sym (same_next us more same))
      (behind_minus a p more after e));
  viable = λ after. (below_zero p 0 0, sign (t.Integer 0) 0 ∷ after, tt, refl);
}

pub no_number : (p : ℕ) (ts us : List Tok) (len place : ℕ) → ts ≡ sign (t.Add Minus) p ∷ us → NoInteger us
    → place ≡ place_of us len → StuckAt put_element Whole Anything ts len (Stuck place)
no_number p ts us len place is i at = (us, rw is (minus_alone p us i), at)

-- ---- items

item_in : (ts us rest : List Tok) (x : Element) → ts ≡ put_element x us → Here range_format us rest
    → Here item_format ts rest
item_in ts us rest x is h = same_in item_same item_parts_law ts rest
    (then_second element_law (option_law range_optional) (λ s k. tt) x ts us rest is tt h)

pub item_first : (ts : List Tok) (len : ℕ) (e : ReadError) → StuckAt put_element Whole Anything ts len e
    → StuckAt put_item Whole EndsItem ts len e
item_first ts len e h = at_same element_format item_format ts ts (λ rest s. same_in item_same item_parts_law ts rest
    (then_first element_law (option_law range_optional) (λ x k. tt) ts rest s)) len e h

pub item_alone : (x : Element) (ts us : List Tok) (len : ℕ) (e : ReadError) → ts ≡ put_element x us
    → No (t.Outer o.Range) (next us) → Absent EndsItem us len e → StuckAt put_item Whole EndsItem ts len e
item_alone x ts us len e is never h = absent_at EndsItem item_format ts us len e
    (λ none. item_in ts us us x is (not_first (option_law range_optional) us (neither never none))) h

pub in_range : (x : Element) (p : ℕ) (ts us vs : List Tok) (len : ℕ) (e : ReadError) → ts ≡ put_element x us
    → us ≡ sign (t.Outer o.Range) p ∷ vs → StuckAt put_element Whole Anything vs len e
    → StuckAt put_item Whole EndsItem ts len e
in_range x p ts us vs len e is comes h = at_same element_format item_format ts vs
    (λ rest s. item_in ts us rest x is (option_in range_optional us rest
    (λ n. range_optional.apart (next us) n (ap next comes)) (behind_in (t.Outer o.Range) element_law p us vs rest
    comes s))) len e h

pub behind_range : (x : Element) (p : ℕ) (y : Element) (ts us vs ws : List Tok) (len : ℕ) (e : ReadError)
    → ts ≡ put_element x us → us ≡ sign (t.Outer o.Range) p ∷ vs → vs ≡ put_element y ws → Absent EndsItem ws len e
    → StuckAt put_item Whole EndsItem ts len e
behind_range x p y ts us vs ws len e is comes read h =
    absent_at EndsItem item_format ts ws len e (λ none. item_in ts us ws x is (option_ends range_optional (p, y) us ws
    (comes ∙ ap (λ (z : List Tok). sign (t.Outer o.Range) p ∷ z) read) tt none
    (λ n. range_optional.apart (next us) n (ap next comes)))) h

pub in_item_tails : (xs : List (ℕ × RowItem)) (p : ℕ) (ts us vs : List Tok) (len : ℕ) (e : ReadError)
    → ts ≡ put_each (put_behind t.Comma put_item) xs us → EndsItem (next us) → us ≡ sign t.Comma p ∷ vs
    → StuckAt put_item Whole EndsItem vs len e → StuckAt (put_each (put_behind t.Comma put_item)) Whole
    EndsItems ts len e
in_item_tails xs p ts us vs len e is may comes h = at_same item_format item_tails ts vs
    (λ rest s. each_in item_tails_several xs ts us rest is may (λ n. item_tails_several.apart (next us) n
    (ap next comes)) (behind_in t.Comma item_law p us vs rest comes s)) len e h

pub items_end : (s : Option Symbol) → EndsItem s → No t.Comma s → EndsItems s
items_end s (inl e) never = absurd (never e)
items_end s (inr h) never = h

pub items_first : (ts : List Tok) (len : ℕ) (e : ReadError) → StuckAt put_item Whole EndsItem ts len e
    → StuckAt put_items Whole EndsItems ts len e
items_first ts len e h = at_same item_format items_format ts ts (λ rest s. same_in items_same items_parts_law ts rest
    (then_first item_law (each_law item_tails_several) (λ x k. k) ts rest s)) len e h

pub items_more : (i : RowItem) (ts us : List Tok) (len : ℕ) (e : ReadError) → ts ≡ put_item i us → EndsItem (next us)
    → StuckAt (put_each (put_behind t.Comma put_item)) Whole EndsItems us len e
    → StuckAt put_items Whole EndsItems ts len e
items_more i ts us len e is may h = at_same item_tails items_format ts us
    (λ rest s. same_in items_same items_parts_law ts rest (then_second item_law (each_law item_tails_several)
    (λ x k. k) i ts us rest is may s)) len e h

-- ---- arrows

pub arrow_none : (ts : List Tok) (len : ℕ) (e : ReadError) → No (t.Outer o.To) (next ts) → Absent EndsRow ts len e
    → StuckAt (put_option put_to) Whole EndsRow ts len e
arrow_none ts len e never h = absent_at EndsRow arrow_format ts ts len e
    (λ none. not_first (option_law arrow_optional) ts (neither never none)) h

pub in_arrow : (p : ℕ) (ts us : List Tok) (len : ℕ) (e : ReadError) → ts ≡ sign (t.Outer o.To) p ∷ us
    → StuckAt put_element Whole Anything us len e → StuckAt (put_option put_to) Whole EndsRow ts len e
in_arrow p ts us len e is h = at_same element_format arrow_format ts us (λ rest s. option_in arrow_optional ts rest
    (λ n. arrow_optional.apart (next ts) n (ap next is)) (behind_in (t.Outer o.To) element_law p ts us rest is s)) len e
    h

pub behind_arrow : (p : ℕ) (x : Element) (ts us vs : List Tok) (len : ℕ) (e : ReadError)
    → ts ≡ sign (t.Outer o.To) p ∷ us → us ≡ put_element x vs → Absent EndsRow vs len e
    → StuckAt (put_option put_to) Whole EndsRow ts len e
behind_arrow p x ts us vs len e is read h = absent_at EndsRow arrow_format ts vs len e
    (λ none. option_ends arrow_optional (p, x) ts vs (is ∙ ap (λ (z : List Tok). sign (t.Outer o.To) p ∷ z) read) tt
    none (λ n. arrow_optional.apart (next ts) n (ap next is))) h

-- ---- rows

bracket_in : (begin : ℕ) (us rest : List Tok) → Here inner_row us rest → Here row_format (sign t.Open begin ∷ us) rest
bracket_in begin us rest h =
    let ts = sign t.Open begin ∷ us in
    same_in row_same row_parts_law ts rest (either_right row_alternatives ts rest (λ w. w)
    (either_left other_alternatives ts rest (λ (f : Is (t.Outer o.To) (Some (mark t.Open))). cc)
    (behind_in t.Open inner_row_law begin ts us rest refl h)))

pub bracketed_items : (begin : ℕ) (us : List Tok) (len : ℕ) (e : ReadError) → StuckAt put_items Whole EndsItems us len e
    → StuckAt put_row Whole EndsRow (sign t.Open begin ∷ us) len e
bracketed_items begin us len e h = at_same items_format row_format (sign t.Open begin ∷ us) us
    (λ rest s. bracket_in begin us rest (then_first items_law closed_arrow_law (λ x k. inl k) us rest s)) len e h

pub bracketed_close : (begin : ℕ) (is : RowItems) (us vs : List Tok) (len : ℕ) (e : ReadError) → us ≡ put_items is vs
    → EndsItems (next vs) → Absent (Is t.Close) vs len e → StuckAt put_row Whole EndsRow (sign t.Open begin ∷ us) len e
bracketed_close begin is us vs len e read may h = absent_at (Is t.Close) row_format (sign t.Open begin ∷ us) vs len e
    (λ none. bracket_in begin us vs (then_second items_law closed_arrow_law (λ x k. inl k) is us vs vs read may
    (not_first closed_arrow_law vs none))) h

pub bracketed_arrow : (begin : ℕ) (is : RowItems) (q : ℕ) (us vs ws : List Tok) (len : ℕ) (e : ReadError)
    → us ≡ put_items is vs → EndsItems (next vs) → vs ≡ sign t.Close q ∷ ws
    → StuckAt (put_option put_to) Whole EndsRow ws len e → StuckAt put_row Whole EndsRow (sign t.Open begin ∷ us) len e
bracketed_arrow begin is q us vs ws len e read may comes h =
    at_same arrow_format row_format (sign t.Open begin ∷ us) ws
    (λ rest s. bracket_in begin us rest (then_second items_law closed_arrow_law (λ x k. inl k) is us vs rest read
    may (behind_in t.Close (option_law arrow_optional) q vs ws rest comes s))) len e h

lone_in : (p : ℕ) (us rest : List Tok) → Here only_format (sign (t.Outer o.To) p ∷ us) rest
    → Here row_format (sign (t.Outer o.To) p ∷ us) rest
lone_in p us rest h =
    let ts = sign (t.Outer o.To) p ∷ us in
    same_in row_same row_parts_law ts rest (either_right row_alternatives ts rest (λ w. w)
    (either_right other_alternatives ts rest (λ (f : Is t.Open (Some (mark (t.Outer o.To)))). cc) h))

pub lone_element : (p : ℕ) (us : List Tok) (len : ℕ) (e : ReadError) → StuckAt put_element Whole Anything us len e
    → StuckAt put_row Whole EndsRow (sign (t.Outer o.To) p ∷ us) len e
lone_element p us len e h = at_same element_format row_format (sign (t.Outer o.To) p ∷ us) us
    (λ rest s. lone_in p us rest (narrowed_in {N = EndsRow} to_law (λ x k. tt) (sign (t.Outer o.To) p ∷ us) rest
    (behind_in (t.Outer o.To) element_law p (sign (t.Outer o.To) p ∷ us) us rest refl s))) len e h

pub lone_ends : (p : ℕ) (x : Element) (us vs : List Tok) (len : ℕ) (e : ReadError) → us ≡ put_element x vs
    → Absent EndsRow vs len e → StuckAt put_row Whole EndsRow (sign (t.Outer o.To) p ∷ us) len e
lone_ends p x us vs len e read h = absent_at EndsRow row_format (sign (t.Outer o.To) p ∷ us) vs len e
    (λ none. lone_in p us vs (stuck_behind {N = EndsRow} to_law (λ s k. tt) (p, x) (sign (t.Outer o.To) p ∷ us) vs
    (ap (λ (z : List Tok). sign (t.Outer o.To) p ∷ z) read) tt none)) h

pub plain_items : (ts : List Tok) (len : ℕ) (e : ReadError) → No t.Open (next ts) → No (t.Outer o.To) (next ts)
    → StuckAt put_items Whole EndsItems ts len e → StuckAt put_row Whole EndsRow ts len e
plain_items ts len e a b h = at_same items_format row_format ts ts (λ rest s. same_in row_same row_parts_law ts rest
    (either_left row_alternatives ts rest (neither a b) (then_first items_law (option_law arrow_optional)
    (λ x k. inr k) ts rest s))) len e h

pub plain_arrow : (is : RowItems) (ts us : List Tok) (len : ℕ) (e : ReadError) → No t.Open (next ts)
    → No (t.Outer o.To) (next ts) → ts ≡ put_items is us → EndsItems (next us)
    → StuckAt (put_option put_to) Whole EndsRow us len e → StuckAt put_row Whole EndsRow ts len e
plain_arrow is ts us len e a b read may h = at_same arrow_format row_format ts us
    (λ rest s. same_in row_same row_parts_law ts rest (either_left row_alternatives ts rest (neither a b)
    (then_second items_law (option_law arrow_optional) (λ x k. inr k) is ts us rest read may s))) len e h

-- ---- rows between semicolons

tails_put : (xs : List (ℕ × Row)) (us : List Tok) → put_each (put_behind (t.Outer o.Semicolon) put_row) xs us
    ≡ put_each row_tail.put (tails_to xs None) us
tails_put xs us = tails_written xs None us

tails_front : (xs : List (ℕ × Row)) (x y : List Tok) → put_each (put_behind (t.Outer o.Semicolon) put_row) xs (x ++ y)
    ≡ put_each (put_behind (t.Outer o.Semicolon) put_row) xs x ++ y
tails_front xs x y = tails_put xs (x ++ y) ∙ (each_law row_tails_several).law.appends (tails_to xs None) x y
    ∙ ap (λ (z : List Tok). z ++ y) (sym (tails_put xs x))

-- a semicolon without a row follows all others
abbrev pub EndsThere : Option Row → List (ℕ × Option Row) → Type 0
EndsThere None (z ∷ zs) = ⊥
EndsThere r zs = Unit {0}

abbrev pub LastOnly : List (ℕ × Option Row) → Type 0
LastOnly [] = Unit {0}
LastOnly (z ∷ zs) = EndsThere z.1 zs × LastOnly zs

tails_last : (xs : List (ℕ × Row)) (l : Option ℕ) → LastOnly (tails_to xs l)
tails_last [] None = tt
tails_last [] (Some p) = (tt, tt)
tails_last (x ∷ xs) l = (tt, tails_last xs l)

last_behind : (xs zs : List (ℕ × Option Row)) → LastOnly (xs ++ zs) → LastOnly zs
last_behind [] zs h = h
last_behind (x ∷ xs) zs h = last_behind xs zs h.1

row_here : (vs rest : List Tok) (h : Here row_format vs rest) → No t.CloseBrace (next vs)
    → (p : ℕ) (zs : List (ℕ × Option Row)) (more after : List Tok) → SameHead rest more → LastOnly zs
    → Is t.CloseBrace (next after)
    → sign (t.Outer o.Semicolon) p ∷ (h.front ++ more) ≡ put_each row_tail.put zs after → ⊥
row_here vs rest h never p [] more after same last n e = absurd (let f : Some (mark (t.Outer o.Semicolon))
    ≡ next after = ap next e in cc)
row_here vs rest h never p ((q, None) ∷ []) more after same last n e =
    let f : h.front ++ more ≡ after = cc in
    never (comes_too vs h.front rest more h.split same ∙ ap next f ∙ n)
row_here vs rest h never p ((q, None) ∷ z ∷ zs) more after same last n e = last.0
row_here vs rest h never p ((q, Some r) ∷ zs) more after same last n e =
    let f : h.front ++ more ≡ put_row r (put_each row_tail.put zs after) = cc in
    h.dead r more (put_each row_tail.put zs after) same tt (each_next (fully row_tails_several) zs after
    (whole_each (λ z. tt) zs) (inr n)) f

tails_dead : (xs : List (ℕ × Row)) (p : ℕ) (vs rest : List Tok) (h : Here row_format vs rest)
    → No t.CloseBrace (next vs) → (ys : List (ℕ × Row)) (l : Option ℕ) (more after : List Tok) → SameHead rest more
    → Is t.CloseBrace (next after)
    → put_each (put_behind (t.Outer o.Semicolon) put_row) xs (sign (t.Outer o.Semicolon) p ∷ h.front) ++ more
    ≡ put_row_tails (ys, l) after → ⊥
tails_dead xs p vs rest h never ys l more after same n e =
    let m = sign (t.Outer o.Semicolon) p ∷ (h.front ++ more) in
    let r = each_cut (fully row_tails_several) (tails_to xs None) (tails_to ys l) m after
    (whole_each (λ z. tt) (tails_to xs None)) (whole_each (λ z. tt) (tails_to ys l)) (inl refl) n
    (sym (tails_put xs m) ∙ tails_front xs (sign (t.Outer o.Semicolon) p ∷ h.front) more ∙ e
    ∙ tails_written ys l after) in
    row_here vs rest h never p r.0 more after same (last_behind (tails_to xs None) r.0
    (subst LastOnly r.1 (tails_last ys l))) n r.3

tails_in : (xs : List (ℕ × Row)) (p : ℕ) (ts us vs rest : List Tok)
    → ts ≡ put_each (put_behind (t.Outer o.Semicolon) put_row) xs us → us ≡ sign (t.Outer o.Semicolon) p ∷ vs
    → No t.CloseBrace (next vs) → Here row_format vs rest → Here row_tails ts rest
tails_in xs p ts us vs rest is comes never h = record {
  front = put_each (put_behind (t.Outer o.Semicolon) put_row) xs (sign (t.Outer o.Semicolon) p ∷ h.front);
  split = is ∙ ap (λ (z : List Tok). put_each (put_behind (t.Outer o.Semicolon) put_row) xs z)
      (comes ∙ ap (λ (z : List Tok). sign (t.Outer o.Semicolon) p ∷ z) h.split)
      ∙ tails_front xs (sign (t.Outer o.Semicolon) p ∷ h.front) rest;
  dead = λ a more after same fine n e. tails_dead xs p vs rest h never a.0 a.1 more after same n e;
  viable = λ after.
      let v = h.viable after in (
        (xs ++ (p, v.0) ∷ [], None),
        v.1,
        tt,
        sym (tails_front xs (sign (t.Outer o.Semicolon) p ∷ h.front) v.1)
            ∙ ap (λ (z : List Tok). put_each (put_behind (t.Outer o.Semicolon) put_row) xs
            (sign (t.Outer o.Semicolon) p ∷ z)) v.3 ∙ sym (push_put (behind (t.Outer o.Semicolon) row_format) xs
            (p, v.0) after),
      );
}

pub in_row_tails : (xs : List (ℕ × Row)) (p : ℕ) (ts us vs : List Tok) (len : ℕ) (e : ReadError)
    → ts ≡ put_each (put_behind (t.Outer o.Semicolon) put_row) xs us → us ≡ sign (t.Outer o.Semicolon) p ∷ vs
    → No t.CloseBrace (next vs) → StuckAt put_row Whole EndsRow vs len e
    → StuckAt put_row_tails Whole (Is t.CloseBrace) ts len e
in_row_tails xs p ts us vs len e is comes never h = at_same row_format row_tails ts vs
    (λ rest s. tails_in xs p ts us vs rest is comes never s) len e h

pub rows_end : (s : Option Symbol) → EndsRow s → No (t.Outer o.Semicolon) s → Is t.CloseBrace s
rows_end s (inl e) never = absurd (never e)
rows_end s (inr e) never = e

-- ---- tables

table_in : (begin : ℕ) (us rest : List Tok) → No t.CloseBrace (next us) → Here rows_format us rest
    → Here value_format (sign t.OpenBrace begin ∷ us) rest
table_in begin us rest never h =
    let ts = sign t.OpenBrace begin ∷ us in
    same_in value_same value_parts_law ts rest (either_right value_alternatives ts rest (λ w. w)
    (either_right other_value_alternatives ts rest (λ w. w) (behind_in t.OpenBrace inner_table_law begin
    ts us rest refl
    (then_first (option_law rows_optional) (sign_law t.CloseBrace) (λ x k. k) us rest
    (option_in rows_optional us rest never h)))))

pub table_first : (begin : ℕ) (us : List Tok) (len : ℕ) (e : ReadError) → No t.CloseBrace (next us)
    → StuckAt put_row Whole EndsRow us len e → StuckAt put_value Whole Anything (sign t.OpenBrace begin ∷ us) len e
table_first begin us len e never h = at_same row_format value_format (sign t.OpenBrace begin ∷ us) us
    (λ rest s. table_in begin us rest never (same_in rows_same rows_parts_law us rest
    (then_first row_law row_tails_law (λ x k. k) us rest s))) len e h

pub table_more : (begin : ℕ) (r : Row) (us vs : List Tok) (len : ℕ) (e : ReadError) → No t.CloseBrace (next us)
    → us ≡ put_row r vs → EndsRow (next vs) → StuckAt put_row_tails Whole (Is t.CloseBrace) vs len e
    → StuckAt put_value Whole Anything (sign t.OpenBrace begin ∷ us) len e
table_more begin r us vs len e never read may h = at_same row_tails value_format (sign t.OpenBrace begin ∷ us) vs
    (λ rest s. table_in begin us rest never (same_in rows_same rows_parts_law us rest
    (then_second row_law row_tails_law (λ x k. k) r us vs rest read may s))) len e h

-- ---- values

no_truth : (s : Option Symbol) → NoTruth s → ATruth s → ⊥
no_truth None n h = h
no_truth (Some (word w)) n h = h
no_truth (Some (mark (t.Truth b))) n h = n
no_truth (Some (mark s)) n h = h

pub value_element : (ts : List Tok) (len : ℕ) (e : ReadError) → No t.OpenBrace (next ts) → NoTruth (next ts)
    → StuckAt put_element Whole Anything ts len e → StuckAt put_value Whole Anything ts len e
value_element ts len e brace truth h = at_same element_format value_format ts ts
    (λ rest s. same_in value_same value_parts_law ts rest (either_right value_alternatives ts rest
    (no_truth (next ts) truth) (either_left other_value_alternatives ts rest brace s))) len e h

-- ---- marks

mark_in : (begin : ℕ) (us rest : List Tok) → Here named_mark us rest
    → Here equal_format (sign (t.Compare cmp.Less) begin ∷ us) rest
mark_in begin us rest h =
    let ts = sign (t.Compare cmp.Less) begin ∷ us in
    same_in equal_same equal_parts_law ts rest (either_right equal_alternatives ts rest
    (λ (f : Is (t.Compare cmp.Equal) (Some (mark (t.Compare cmp.Less)))). cc)
    (behind_in (t.Compare cmp.Less) named_mark_law begin ts us rest refl h))

pub no_mark_name : (begin : ℕ) (us : List Tok) (len : ℕ) (e : ReadError) → Absent AWord us len e
    → StuckAt put_marked Whole Anything (sign (t.Compare cmp.Less) begin ∷ us) len e
no_mark_name begin us len e h = absent_at AWord equal_format (sign (t.Compare cmp.Less) begin ∷ us) us len e
    (λ none. mark_in begin us us (not_first named_mark_law us none)) h

pub no_mark_close : (begin : ℕ) (n : Name) (us vs : List Tok) (len : ℕ) (e : ReadError) → us ≡ put_name n vs
    → No (t.Compare cmp.AtLeast) (next vs) → Absent (Is (t.Compare cmp.Greater)) vs len e
    → StuckAt put_marked Whole Anything (sign (t.Compare cmp.Less) begin ∷ us) len e
no_mark_close begin n us vs len e is never h = absent_at (Is (t.Compare cmp.Greater)) equal_format
    (sign (t.Compare cmp.Less) begin ∷ us) vs len e (λ none. mark_in begin us vs
    (then_second name_law (either_law closing_alternatives) (λ s k. tt) n us vs vs is tt
    (not_first (either_law closing_alternatives) vs (neither none never)))) h

pub no_mark_equal : (begin : ℕ) (n : Name) (q : ℕ) (us vs ws : List Tok) (len : ℕ) (e : ReadError) → us ≡ put_name n vs
    → No (t.Compare cmp.AtLeast) (next vs) → vs ≡ sign (t.Compare cmp.Greater) q ∷ ws
    → Absent (Is (t.Compare cmp.Equal)) ws len e → StuckAt put_marked Whole Anything
    (sign (t.Compare cmp.Less) begin ∷ us) len e
no_mark_equal begin n q us vs ws len e is never closes h =
    absent_at (Is (t.Compare cmp.Equal)) equal_format (sign (t.Compare cmp.Less) begin ∷ us) ws len e
    (λ none. mark_in begin us ws (then_second name_law (either_law closing_alternatives)
    (λ s k. tt) n us vs ws is tt
    (either_left closing_alternatives vs ws never (behind_in (t.Compare cmp.Greater) (sign_law (t.Compare cmp.Equal)) q
    vs ws ws closes (not_first (sign_law (t.Compare cmp.Equal)) ws none))))) h

pub no_equal : (ts : List Tok) (len : ℕ) (e : ReadError) → No (t.Compare cmp.Less) (next ts)
    → Absent (Is (t.Compare cmp.Equal)) ts len e → StuckAt put_marked Whole Anything ts len e
no_equal ts len e never h = absent_at (Is (t.Compare cmp.Equal)) equal_format ts ts len e
    (λ none. not_first equal_law ts (neither none never)) h

-- ---- entries

pub no_entry : (ts : List Tok) (len : ℕ) (e : ReadError) → Absent AWord ts len e
    → StuckAt put_entry Whole Anything ts len e
no_entry ts len e h = absent_at AWord entry_format ts ts len e (λ none. not_first entry_law ts none) h

pub entry_equal : (n : Name) (ts us : List Tok) (len : ℕ) (e : ReadError) → ts ≡ put_name n us
    → StuckAt put_marked Whole Anything us len e → StuckAt put_entry Whole Anything ts len e
entry_equal n ts us len e is h = at_same equal_format entry_format ts us
    (λ rest s. same_in entry_same entry_parts_law ts rest (then_second name_law given_value_law (λ x k. tt) n ts us rest
    is tt (then_first equal_law value_law (λ x k. tt) us rest s))) len e h

pub entry_value : (n : Name) (m : Option Mark × ℕ) (ts us vs : List Tok) (len : ℕ) (e : ReadError) → ts ≡ put_name n us
    → us ≡ put_marked m vs → StuckAt put_value Whole Anything vs len e → StuckAt put_entry Whole Anything ts len e
entry_value n m ts us vs len e is read h = at_same value_format entry_format ts vs
    (λ rest s. same_in entry_same entry_parts_law ts rest (then_second name_law given_value_law (λ x k. tt) n ts us rest
    is tt (then_second equal_law value_law (λ x k. tt) m us vs rest read tt s))) len e h

pub in_entries : (xs : List Entry) (ts us : List Tok) (len : ℕ) (e : ReadError) → ts ≡ put_each put_entry xs us
    → No t.CloseBrace (next us) → StuckAt put_entry Whole Anything us len e → StuckAt (put_each put_entry) Whole
    (Is t.CloseBrace) ts len e
in_entries xs ts us len e is never h = at_same entry_format entries_format ts us
    (λ rest s. each_in entries_several xs ts us rest is tt never s) len e h

-- ---- the structure

pub structure_header : (ts : List Tok) (len : ℕ) (e : ReadError) → StuckAt (put_header o.Structure) Whole Anything ts
    len e → StuckAt put_structure Whole Anything ts len e
structure_header ts len e h = at_same (header_format o.Structure) structure_format ts ts
    (λ rest s. same_in structure_same structure_parts_law ts rest
    (then_first (header_law o.Structure) closed_entries_law (λ x k. tt) ts rest s)) len e h

pub structure_entries : (d : Header) (ts us : List Tok) (len : ℕ) (e : ReadError) → ts ≡ put_header o.Structure d us
    → StuckAt (put_each put_entry) Whole (Is t.CloseBrace) us len e → StuckAt put_structure Whole Anything ts len e
structure_entries d ts us len e is h = at_same entries_format structure_format ts us
    (λ rest s. same_in structure_same structure_parts_law ts rest
    (then_second (header_law o.Structure) closed_entries_law (λ x k. tt) d ts us rest is tt
    (then_first (each_law entries_several) (sign_law t.CloseBrace) (λ x k. k) us rest s))) len e h
