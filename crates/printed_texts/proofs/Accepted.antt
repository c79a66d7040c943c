-- The stage of data refuses nothing of a printed block.
use Rattle.std.proofs.Common.{◌≡◌, ℕ, zero, suc, ◌+◌, ◌≤◌, nat_lt, int_lt, pos, negsuc, ◌≤ℤ◌, Bool, true, false, not}
use Rattle.std.proofs.Common.{◌&&◌, ◌||◌, ◌==◌, List, [], ◌∷◌, ◌++◌, length, map, filter, fold, Option, None, Some}
use Rattle.std.proofs.Common.{slice_get, option_map, refl, sym, ap, subst, ◌∙◌, arith, inl, inr, if◌then◌else◌}
use Rattle.std.specs.Prelude.{Contains, codes, is_none, is_some, zip}
use Rattle.std.specs.List.{enumerate_from, list_any, filter_map}
use Rattle.std.proofs.lemmas.Bool.{true≢false, and_parts, and_from, eqb-true, false_from_ne_true}
use Rattle.std.proofs.lemmas.Bool.Decides.{nat_tests}
use Rattle.std.proofs.lemmas.Option.{slice_get-map}
use Rattle.std.proofs.lemmas.Int.{ints}
use Rattle.kb_text.specs.declared.fault.K.{K}
use Rattle.kb_text.specs.declared.fault.K.TheVariants as kk
use Rattle.kb_logic.specs.declared.elements.Elem.{Elem}
use Rattle.kb_logic.specs.declared.elements.Elem.TheVariants.{Named, Num}
use Rattle.kb_logic.specs.declared.vocabularies.Parent.{Parent}
use Rattle.kb_logic.specs.declared.vocabularies.Parent.TheVariants.{Root, Int, Nat, Of}
use Rattle.kb_logic.specs.declared.vocabularies.TypeDecl.{TypeDecl}
use Rattle.kb_logic.specs.declared.vocabularies.Symbol.{Symbol}
use Rattle.kb_logic.specs.declared.vocabularies.Vocabulary.{Vocabulary}
use Rattle.kb_logic.specs.Domains.{IsUnder, IsInRange}
use Rattle.kb_logic.specs.Models.{GroundAtom}
use Rattle.kb_logic.specs.Structures.{EachWith, domain_at, tuples_of}
use Rattle.kb_logic.specs.KnownAtoms.{KnownAtoms}
use Rattle.kb_logic.proofs.Atoms.{tuple_elements}
use Rattle.kb_logic.proofs.Has.{Has, has_map, map_has, has_either, has_from, contains_from, has_enumerated}
use Rattle.grammar.specs.BlockTrees as raw
use Rattle.grammar.specs.Trees.{Name}
use Rattle.partial_structures.specs.Consistency.{IsConsistent, IsListed}
use Rattle.partial_structures.proofs.Sames.{atom_by}
use Rattle.stage_definitions.specs.Names.{text_of}
use Rattle.stage_definitions.specs.Below.{type_above, type_parents}
use Rattle.stage_definitions.specs.Kinship.{climbed_on, climbed, top_of, is_number_parent, is_under_a_number}
use Rattle.stage_definitions.specs.Kinship.{is_number_type}
use Rattle.stage_definitions.specs.Elements.{one, same_element, is_in, is_among, is_covered, count_of, is_numeric}
use Rattle.stage_definitions.specs.Elements.{is_not_negative}
use Rattle.stage_definitions.specs.DataEntries.{Subject, a_type, a_symbol, is_a_type, sense_of, WrittenRow, Said, said}
use Rattle.stage_definitions.specs.DataEntries.{fits_in, fitting, Spot, spots_of}
use Rattle.stage_definitions.specs.DataDomains.{is_listed, cells_given, parent_of_type, is_constructed, has_what_occurs}
use Rattle.stage_definitions.specs.DataDomains.{cells_of, domains_of, is_nat, is_under_nat, is_natural_type, is_of_kind}
use Rattle.stage_definitions.specs.DataDomains.{is_in_range}
use Rattle.stage_definitions.specs.DataFacts.{Fact, facts_in, same_value_of, all_share, are_opposed, do_clash}
use Rattle.stage_definitions.specs.DataFacts.{single_elements, same_tuple, with_tuple, is_over, tuples_given}
use Rattle.stage_definitions.specs.DataFacts.{misses_a_tuple}
use Rattle.stage_definitions.specs.DataStage.{DataUse, declared, entry, mark, row, fact, spot, mark_uses, uses_of_entry}
use Rattle.stage_definitions.specs.DataStage.{uses_of_entries, uses_of_facts, type_use, uses_of_types, structure_uses}
use Rattle.stage_definitions.specs.DataStage.{is_unknown, is_nothing, is_again, is_misformed, is_not_given, is_idle}
use Rattle.stage_definitions.specs.DataStage.{gives}
use Rattle.stage_definitions.specs.DataStage.{is_in_type_above, is_outside, cell_is, is_no_element, is_not_whole}
use Rattle.stage_definitions.specs.DataStage.{is_partial, is_clash, is_no_mark, is_unsupported, is_out_of_range}
use Rattle.stage_definitions.specs.DataStage.{is_too_large, is_data_refused}
use Rattle.reading_laws.specs.CellLaws.{has_no_row}
use Rattle.reading_laws.proofs.Same.{is_same, itself, same_value_is, value_itself}
use Rattle.reading_laws.proofs.Listing.{lower_not}
use Rattle.reading_laws.proofs.Counting.{listed_are_counted}
use Rattle.reading_laws.proofs.Missing.{missed_is_some}
use Rattle.printed_texts.specs.Entries.{PlainRow, PlainEntry, row_of, rows_at, is_some_row, is_settled, tuples_for}
use Rattle.printed_texts.specs.Entries.{is_whole, true_rows, whole_value, entries_of}
use Rattle.printed_texts.specs.Saying.{SaysRow, SaysEntry, rows_said}
use Rattle.printed_texts.specs.ReadBlocks.{IsWritable, StandsAlone}
use Rattle.printed_texts.proofs.Each.{each_forth, each_back, all_has, any_none, has_any, has_kept, option_kept}
use Rattle.printed_texts.proofs.Each.{numbered_item, AllPairs}
use Rattle.printed_texts.proofs.KnownRows.{yes_true, one_value, not_both, some_row, row_known, row_true}
use Rattle.printed_texts.proofs.RightEntries.{RightRow, RightEntry, sense_by, listing_of, whole_of, certain_of}
use Rattle.printed_texts.proofs.RightEntries.{denied_of}
use Rattle.printed_texts.proofs.RightEntries.{right_listing, right_whole, right_certain, right_denied}
use Rattle.printed_texts.proofs.SaidEntries.{IsSaid, sense_is, row_fits, all_fit, elements_of_row, IsRightSpot}
use Rattle.printed_texts.proofs.SaidEntries.{spots_right}
use Rattle.printed_texts.proofs.SaidFacts.{listed_given}
use Rattle.printed_texts.proofs.Reading.{ReadAs, as_listing, as_whole, as_certain, as_denied, read_as, Differs}
use Rattle.printed_texts.proofs.Reading.{read_apart}
use Rattle.printed_texts.proofs.ReadDomains.{listed_one, numbered_domain, domain_of, has_list, cells_are, domains_are}
use Rattle.printed_texts.proofs.ReadFacts.{said_whole, all_item, some_mark, IsFactAbout, IsKnown, IsRightFact}
use Rattle.printed_texts.proofs.ReadFacts.{facts_right}
use Rattle.printed_texts.proofs.ReadFacts.{one_row, bare_tuple}

-- ---- a use at which no row of the table holds

abbrev pub IsAccepted : List TypeDecl → List Said → DataUse → Type 0
IsAccepted types es u = (cause : K) → is_data_refused types es u cause ≡ false

record Passes (types : List TypeDecl) (es : List Said) (u : DataUse) : Type 0 where
  unknown : is_unknown u ≡ false
  again : is_again u ≡ false
  misformed : is_misformed u ≡ false
  not_given : is_not_given es u ≡ false
  no_element : is_no_element types es u ≡ false
  clash : is_clash types es u ≡ false
  unsupported : is_unsupported u ≡ false
  out_of_range : is_out_of_range types es u ≡ false
  too_large : is_too_large types es u ≡ false

accepted : (types : List TypeDecl) (es : List Said) (u : DataUse) → Passes types es u → IsAccepted types es u
accepted types es u p kk.Syntax = refl
accepted types es u p kk.UnknownName = p.unknown
accepted types es u p kk.Redeclared = p.again
accepted types es u p kk.WrongArity = p.misformed
accepted types es u p kk.TypeClash = refl
accepted types es u p kk.Untyped = refl
accepted types es u p kk.TypeNotGiven = p.not_given
accepted types es u p kk.NotAnElement = p.no_element
accepted types es u p kk.DataClash = p.clash
accepted types es u p kk.Unsupported = p.unsupported
accepted types es u p kk.BadHead = refl
accepted types es u p kk.OutOfRange = p.out_of_range
accepted types es u p kk.TooLarge = p.too_large
accepted types es u p kk.TooLong = refl
accepted types es u p kk.TooDeep = refl
accepted types es u p kk.BlockChoice = refl

and_none : (b : Bool) → (b && false) ≡ false
and_none true = refl
and_none false = refl

not_is : (b : Bool) → b ≡ true → not b ≡ false
not_is b e = ap not e

not_above : (n m : ℕ) → n ≤ m → nat_lt m n ≡ false
not_above n m le = grind (arith, nat_tests)

-- ---- elements of domains

among_one : (xs : List Elem) (y : Elem) → Has xs y → is_among (map one xs) y ≡ true
among_one xs y m = has_any (is_in y) (map one xs) (one y) (has_map one xs y m) (itself y)

same_row_is : (xs ys : List Elem) → all_share (map one xs) (map one ys) ≡ true → xs ≡ ys
same_row_is [] [] h = refl
same_row_is [] (y ∷ ys) h = absurd (true≢false (sym h))
same_row_is (x ∷ xs) [] h = absurd (true≢false (sym h))
same_row_is (x ∷ xs) (y ∷ ys) h =
    let parts = and_parts (same_element x y) (all_share (map one xs) (map one ys)) h in
    let first = is_same x y parts.0 in
    let rest = same_row_is xs ys parts.1 in
    cc

tuple_itself : (xs : List Elem) → same_tuple xs xs ≡ true
tuple_itself [] = refl
tuple_itself (x ∷ xs) = and_from (same_element x x) (same_tuple xs xs) (itself x) (tuple_itself xs)

in_range : (y : Elem) → IsInRange y → is_in_range (one y) ≡ true
in_range (Named n) h = refl
in_range (Num z) h = and_from (not (int_lt z (negsuc 999999))) (not (int_lt (pos 1000000) z))
    (lower_not z (negsuc 999999) h.0) (lower_not (pos 1000000) z h.1)

under_number : (domains : List (List Elem)) (parent : Parent) (y : Elem) → IsUnder domains parent y
    → is_number_parent parent ≡ true → is_numeric (one y) ≡ true
under_number domains Root y h e = absurd (true≢false (sym e))
under_number domains Int y h e = rw h.1 refl
under_number domains Nat y h e = rw h.1 refl
under_number domains (Of t) y h e = absurd (true≢false (sym e))

under_nat : (domains : List (List Elem)) (parent : Parent) (y : Elem) → IsUnder domains parent y → is_nat parent ≡ true
    → is_not_negative (one y) ≡ true
under_nat domains Root y h e = absurd (true≢false (sym e))
under_nat domains Int y h e = absurd (true≢false (sym e))
under_nat domains Nat y h e = rw h.1 (lower_not (pos h.0) (pos 0) (not_below h.0))
  where
    not_below : (n : ℕ) → pos 0 ≤ℤ pos n
    not_below n = omega (arith, ints)
under_nat domains (Of t) y h e = absurd (true≢false (sym e))

zip_first : {A B : Type 0} (xs : List A) (ys : List B) (p : A × B) → Has (zip xs ys) p → Has xs p.0
zip_first [] ys p m = absurd m
zip_first (x ∷ xs) [] p m = absurd m
zip_first (x ∷ xs) (y ∷ ys) p (inl e) = inl (ap (λ q. q.0) e)
zip_first (x ∷ xs) (y ∷ ys) p (inr m) = inr (zip_first xs ys p m)

-- tuples that are given
kept_given : (t : List Elem) (acc ts : List (List Elem)) → list_any (same_tuple t) acc ≡ true
    → list_any (same_tuple t) (fold with_tuple acc ts) ≡ true
kept_given t acc [] h = h
kept_given t acc (u ∷ us) h = by (list_any (same_tuple u) acc) refl (λ more k. kept_given t more us k)
  where
    or_true : (b : Bool) → (b || true) ≡ true
    or_true true = refl
    or_true false = refl

    by : (b : Bool) → list_any (same_tuple u) acc ≡ b
        → ((more : List (List Elem)) → list_any (same_tuple t) more ≡ true
        → list_any (same_tuple t) (fold with_tuple more us) ≡ true)
        → list_any (same_tuple t) (fold with_tuple (if list_any (same_tuple u) acc then acc else u ∷ acc) us) ≡ true
    by true e go = rw e (go acc h)
    by false e go = rw e (go (u ∷ acc) (ap (λ b. same_tuple t u || b) h ∙ or_true (same_tuple t u)))

given_one : (t : List Elem) (acc ts : List (List Elem)) → Has ts t
    → list_any (same_tuple t) (fold with_tuple acc ts) ≡ true
given_one t acc [] m = absurd m
given_one t acc (u ∷ us) (inl e) = kept_given t (with_tuple acc u) us (by (list_any (same_tuple u) acc) refl)
  where
    by : (b : Bool) → list_any (same_tuple u) acc ≡ b
        → list_any (same_tuple t) (if list_any (same_tuple u) acc then acc else u ∷ acc) ≡ true
    by true f = rw f (ap (λ z. list_any (same_tuple z) acc) (sym e) ∙ f)
    by false f = rw f (ap (λ b. b || list_any (same_tuple t) acc) (ap (same_tuple t) e ∙ tuple_itself t))
given_one t acc (u ∷ us) (inr m) = given_one t (with_tuple acc u) us m

module _ (v : Vocabulary) (title : List ℕ) (k : KnownAtoms) (w : IsWritable v title k) (c : IsConsistent k)
    (l : IsListed k) (xs : List raw.Entry) (says : EachWith SaysEntry (entries_of v k) xs) where
  abbrev es : List Said
  es = map (said v) xs

  abbrev types : List TypeDecl
  types = v.types

  -- ---- types

  alone_above : (t : ℕ × TypeDecl) → Has (enumerate_from 0 v.types) t → (made : List (List ℕ)) → t.1.made ≡ made
      → (is_some (type_above t.1.parent) && not (is_listed es t.0)) ≡ false
  alone_above t m [] e = ap (λ b. is_some (type_above t.1.parent) && not b) (has_list v title k w xs says t m e)
      ∙ and_none (is_some (type_above t.1.parent))
  alone_above t m (n ∷ ns) e =
      ap (λ o. is_some o && not (is_listed es t.0))
      (all_has StandsAlone v.types w.alone t.1 (numbered_item 0 v.types t m)
      (λ f. absurd (let g = sym e ∙ f in cc)))

  made_some : (d : TypeDecl) (n : List ℕ) (ns : List (List ℕ)) → d.made ≡ n ∷ ns → is_constructed d ≡ true
  made_some d n ns e = rw e (grind (arith, nat_tests))

  never_occurs : (t : ℕ × TypeDecl) → Has (enumerate_from 0 v.types) t → (made : List (List ℕ)) → t.1.made ≡ made
      → has_what_occurs es t.0 t.1 ≡ false
  never_occurs t m [] e = ap (λ b. not (is_constructed t.1) && (not b && is_none (type_above t.1.parent)))
      (has_list v title k w xs says t m e) ∙ and_none (not (is_constructed t.1))
  never_occurs t m (n ∷ ns) e = ap (λ b. not b && (not (is_listed es t.0) && is_none (type_above t.1.parent)))
      (made_some t.1 n ns e)

  type_accepted : (places : List ℕ) (u : DataUse) → Has (uses_of_types v.types places) u → IsAccepted v.types es u
  type_accepted places u m =
      let r = map_has type_use (zip (enumerate_from 0 v.types) places) u m in
      let t = r.0.0 in
      let n = zip_first (enumerate_from 0 v.types) places r.0 r.1 in
      subst (IsAccepted v.types es) r.2
      (accepted v.types es (declared t.0 t.1 r.0.1) (record {
        unknown = refl;
        again = refl;
        misformed = refl;
        not_given = alone_above t n t.1.made refl;
        no_element = refl;
        clash = refl;
        unsupported = refl;
        out_of_range = refl;
        too_large = rw (never_occurs t n t.1.made refl) refl;
      }))

  -- ---- elements

  -- an element of a type is one of each type above it
  climb : (n t : ℕ) (y : Elem) → Contains (domain_at k.domains t) y
      → Contains (domain_at k.domains (climbed n (type_parents v.types) t)) y
  climb zero t y h = h
  climb (suc n) t y h = by (slice_get v.types t) refl (λ p g. climb n p y g)
    where
      by : (o : Option TypeDecl) → slice_get v.types t ≡ o
          → ((p : ℕ) → Contains (domain_at k.domains p) y
          → Contains (domain_at k.domains (climbed n (type_parents v.types) p)) y)
          → Contains (domain_at k.domains
          (climbed_on (slice_get (type_parents v.types) t) t (climbed n (type_parents v.types)))) y
      by None e on = subst (λ o. Contains (domain_at k.domains (climbed_on o t (climbed n (type_parents v.types)))) y)
          (sym (slice_get-map (λ (d : TypeDecl). type_above d.parent) v.types t
          ∙ ap (option_map (λ (d : TypeDecl). type_above d.parent)) e)) h
      by (Some d) e on =
          subst (λ o. Contains (domain_at k.domains (climbed_on o t (climbed n (type_parents v.types)))) y)
          (sym (slice_get-map (λ (d : TypeDecl). type_above d.parent) v.types t
          ∙ ap (option_map (λ (d : TypeDecl). type_above d.parent)) e))
          (up d.parent (all_has (IsUnder k.domains d.parent) (domain_at k.domains t)
          (domain_of v title k w t d e).parent y (has_from (domain_at k.domains t) y h)))
        where
          up : (p : Parent) → IsUnder k.domains p y
              → Contains (domain_at k.domains (climbed_on (Some (type_above p)) t (climbed n (type_parents v.types)))) y
          up Root u = h
          up Int u = h
          up Nat u = h
          up (Of q) u = on q u

  top_under : (t : ℕ) (y : Elem) → Contains (domain_at k.domains t) y → (d : TypeDecl)
      → slice_get v.types (top_of v.types t) ≡ Some d → IsUnder k.domains d.parent y
  top_under t y h d e =
      all_has (IsUnder k.domains d.parent) (domain_at k.domains (top_of v.types t))
      (domain_of v title k w (top_of v.types t) d e).parent y
      (has_from (domain_at k.domains (top_of v.types t)) y (climb (length v.types) t y h))

  number_kind : (t : ℕ) (y : Elem) → Contains (domain_at k.domains t) y → is_number_type v.types t ≡ true
      → is_numeric (one y) ≡ true
  number_kind t y h e = by (slice_get v.types (top_of v.types t)) refl e
    where
      by : (o : Option TypeDecl) → slice_get v.types (top_of v.types t) ≡ o → is_under_a_number o ≡ true
          → is_numeric (one y) ≡ true
      by None f g = absurd (true≢false (sym g))
      by (Some d) f g = under_number k.domains d.parent y (top_under t y h d f) g

  natural_kind : (t : ℕ) (y : Elem) → Contains (domain_at k.domains t) y → is_natural_type v.types t ≡ true
      → is_not_negative (one y) ≡ true
  natural_kind t y h e = by (slice_get v.types (top_of v.types t)) refl e
    where
      by : (o : Option TypeDecl) → slice_get v.types (top_of v.types t) ≡ o → is_under_nat o ≡ true
          → is_not_negative (one y) ≡ true
      by None f g = absurd (true≢false (sym g))
      by (Some d) f g = under_nat k.domains d.parent y (top_under t y h d f) g

  implied : (a b : Bool) → (a ≡ true → b ≡ true) → (not a || b) ≡ true
  implied true b h = h refl
  implied false b h = refl

  of_kind : (t : ℕ) (y : Elem) → Contains (domain_at k.domains t) y → is_of_kind v.types t (one y) ≡ true
  of_kind t y h =
      and_from (not (is_number_type v.types t) || is_numeric (one y))
      (not (is_natural_type v.types t) || is_not_negative (one y))
      (implied (is_number_type v.types t) (is_numeric (one y)) (number_kind t y h))
      (implied (is_natural_type v.types t) (is_not_negative (one y)) (natural_kind t y h))

  covered : (t : ℕ) (y : Elem) → Contains (domain_at k.domains t) y → is_covered (cells_of v.types es t) (one y) ≡ true
  covered t y h = ap (λ cells. is_among cells y) (cells_are v title k w xs says t)
      ∙ among_one (domain_at k.domains t) y (has_from (domain_at k.domains t) y h)

  above : (t : ℕ) (y : Elem) → Contains (domain_at k.domains t) y
      → is_in_type_above v.types es (parent_of_type v.types t) (one y) ≡ true
  above t y h = by (slice_get v.types t) refl
    where
      by : (o : Option TypeDecl) → slice_get v.types t ≡ o
          → is_in_type_above v.types es (parent_of_type v.types t) (one y) ≡ true
      by None e = rw (slice_get-map (λ (d : TypeDecl). type_above d.parent) v.types t, e) refl
      by (Some d) e = rw (slice_get-map (λ (d : TypeDecl). type_above d.parent) v.types t, e)
          (up d.parent (all_has (IsUnder k.domains d.parent) (domain_at k.domains t)
          (domain_of v title k w t d e).parent y (has_from (domain_at k.domains t) y h)))
        where
          up : (p : Parent) → IsUnder k.domains p y → is_in_type_above v.types es (type_above p) (one y) ≡ true
          up Root u = refl
          up Int u = refl
          up Nat u = refl
          up (Of q) u = covered q y u

  gives_none : (s : Spot) → s.in_list ≡ false → gives v.types es s ≡ false
  gives_none s e = by (slice_get v.types s.ty) refl
    where
      by : (o : Option TypeDecl) → slice_get v.types s.ty ≡ o → gives v.types es s ≡ false
      by None f = rw (e, f) refl
      by (Some d) f =
          let plus : 0 + s.ty ≡ s.ty = omega arith in
          rw (e, f) (never_occurs (s.ty, d)
          (subst (λ n. Has (enumerate_from 0 v.types) (n, d)) plus (has_enumerated 0 s.ty v.types d f)) d.made refl)

  outside_none : (s : Spot) (y : Elem) → s.in_list ≡ false → Contains (domain_at k.domains s.ty) y
      → is_outside v.types es s (one y) ≡ false
  outside_none s y e h = rw (gives_none s e) (not_is (is_covered (cells_of v.types es s.ty) (one y)) (covered s.ty y h))

  list_outside : (s : Spot) (y : Elem) → s.in_list ≡ true → Contains (domain_at k.domains s.ty) y
      → is_outside v.types es s (one y) ≡ false
  list_outside s y e h = rw (e, of_kind s.ty y h, above s.ty y h) refl

  element_in_range : (t : ℕ × TypeDecl) → Has (enumerate_from 0 v.types) t → (y : Elem)
      → Contains (domain_at k.domains t.0) y → is_in_range (one y) ≡ true
  element_in_range t m y h =
      in_range y (all_has IsInRange (domain_at k.domains t.0) (numbered_domain v title k w t m).range y
      (has_from (domain_at k.domains t.0) y h))

  symbol_spot : (s : ℕ × Symbol) (u : Spot) → IsRightSpot k.domains (a_symbol s.0 s.1) u
      → IsAccepted v.types es (spot u)
  symbol_spot s u h = accepted v.types es (spot u) (record {
    unknown = refl;
    again = refl;
    misformed = refl;
    not_given = refl;
    no_element = rw h.cell (ap (λ b. not (is_idle v.types u) && b) (outside_none u h.elem h.list h.inside)
        ∙ and_none (not (is_idle v.types u)));
    clash = refl;
    unsupported = rw h.cell refl;
    out_of_range = ap (λ b. not (is_idle v.types u) && (b && cell_is (λ x. not (is_in_range x)) u.cell))
        (gives_none u h.list) ∙ and_none (not (is_idle v.types u));
    too_large = refl;
  })

  list_spot : (t : ℕ × TypeDecl) → Has (enumerate_from 0 v.types) t → (u : Spot)
      → IsRightSpot k.domains (a_type t.0 t.1) u → IsAccepted v.types es (spot u)
  list_spot t m u h = accepted v.types es (spot u) (record {
    unknown = refl;
    again = refl;
    misformed = refl;
    not_given = refl;
    no_element = rw h.cell (ap (λ b. not (is_idle v.types u) && b) (list_outside u h.elem h.list h.inside)
        ∙ and_none (not (is_idle v.types u)));
    clash = refl;
    unsupported = rw h.cell refl;
    out_of_range =
        rw h.cell
        (ap (λ b. not (is_idle v.types u) && (gives v.types es u && not b))
        (element_in_range t m h.elem
        (subst (λ n. Contains (domain_at k.domains n) h.elem) (h.listed t.0 t.1 refl) h.inside))
        ∙ ap (λ b. not (is_idle v.types u) && b) (and_none (gives v.types es u)) ∙ and_none (not (is_idle v.types u)));
    too_large = refl;
  })

  -- ---- functions that are given whole

  over_given : (args : List ℕ) (t : List Elem) → EachWith (λ ty y. Contains (domain_at k.domains ty) y) args t
      → is_over v.types es args t ≡ true
  over_given [] [] h = refl
  over_given [] (y ∷ ys) h = absurd h
  over_given (a ∷ as') [] h = absurd h
  over_given (a ∷ as') (y ∷ ys) h = and_from (is_among (cells_of v.types es a) y) (is_over v.types es as' ys)
      (covered a y h.0) (over_given as' ys h.1)

  row_of_tuple : (s : ℕ × Symbol) → is_whole k s ≡ true → (ty : ℕ) → s.1.value ≡ Some ty → (t : List Elem)
      → Has (tuples_for k s) t → (r : PlainRow) × Has (rows_said (whole_value s.1.args (true_rows k s))) r
      × (r.args ≡ t)
  row_of_tuple s e ty f t m =
      let settled = all_item (λ u. is_settled s.1.value (rows_at true k s u) (rows_at false k s u))
      (tuples_for k s) t e m in
      let some : is_some_row (rows_at true k s t) ≡ true =
      sym (ap (λ o. is_settled o (rows_at true k s t) (rows_at false k s t)) f) ∙ settled in
      let r = some_row (rows_at true k s t) some in
      let h = row_known k s true t r.0 r.1 in
      let row : Has (true_rows k s) (row_of h.atom) = row_true k s t h.atom m h.at h.known in (
        row_of h.atom,
        said_whole s.1.args (true_rows k s) (row_of h.atom)
            (λ b q n. one_row v title k w c l xs says s h.atom t h.at (yes_true k h.atom h.known)
            (bare_tuple v title k w c l xs says s t m b) b q n)
            (λ b. h.at.args ∙ bare_tuple v title k w c l xs says s t m b) row,
        h.at.args,
      )

  nothing_missed : (s : ℕ × Symbol) (whole : is_whole k s ≡ true) (ty : ℕ) → s.1.value ≡ Some ty → (e : Said)
      → IsSaid (whole_of k s) (a_symbol s.0 s.1) e → misses_a_tuple v.types es s.1.args e ≡ false
  nothing_missed s whole ty f e h =
      missed_is_some v.types es s.1.args e
      ∙ any_none (has_no_row v.types es s.1.args e) (tuples_of (domains_of v.types es) s.1.args)
      (λ t m.
      let n : Has (tuples_for k s) t =
      subst (λ ds. Has (tuples_of ds s.1.args) t) (domains_are v title k w xs says) m in
      let r = row_of_tuple s whole ty f t n in
      let z = each_forth SaysRow (rows_said (whole_value s.1.args (true_rows k s))) e.rows h.rows r.0 r.1 in
      let fits : Has (fitting e) z.0 =
      subst (λ (rows : List WrittenRow). Has rows z.0)
      (sym (all_fit k.domains (whole_of k s) (a_symbol s.0 s.1) e (right_whole k s whole) h)) z.1 in
      let elements = elements_of_row z.0.items r.0.args z.2.items ∙ ap Some r.2 in
      let written : Has (filter_map (λ (x : WrittenRow). single_elements x.items) (fitting e)) t =
      option_kept (λ (x : WrittenRow). single_elements x.items) (fitting e) z.0 t fits elements in
      let over = over_given s.1.args t (tuple_elements k.domains s.1.args t (contains_from (tuples_for k s) t n)) in
      not_is (list_any (same_tuple t) (tuples_given v.types es s.1.args e))
      (given_one t [] (filter (is_over v.types es s.1.args)
      (filter_map (λ (x : WrittenRow). single_elements x.items) (fitting e)))
      (has_kept (is_over v.types es s.1.args) (filter_map (λ (x : WrittenRow). single_elements x.items) (fitting e)) t
      written over)))

  -- ---- entries

  none_again : (before : List Said) (e : Said) → ((q : Said) → Has before q → Differs q e)
      → is_again (entry before e) ≡ false
  none_again before e apart = any_none _ before (λ q m. apart q m)

  entry_of_type : (before : List Said) (e : Said) → ((q : Said) → Has before q → Differs q e) → (t : ℕ × TypeDecl)
      → Has (enumerate_from 0 v.types) t → t.1.made ≡ [] → IsSaid (listing_of k t) (a_type t.0 t.1) e
      → IsAccepted v.types es (entry before e)
  entry_of_type before e apart t m made h = accepted v.types es (entry before e) (record {
    unknown = ap is_nothing h.subject;
    again = none_again before e apart;
    misformed = rw h.fits (and_none (not (is_nothing e.subject)));
    not_given = refl;
    no_element = refl;
    clash = ap (is_not_whole v.types es e) h.subject ∙ rw made refl;
    unsupported = refl;
    out_of_range = refl;
    too_large =
        ap (λ n. is_a_type e.subject && nat_lt 65536 n)
        (ap count_of (listed_given k.domains (listing_of k t) t e (domain_at k.domains t.0) refl (right_listing k t) h)
        ∙ listed_are_counted (map one (domain_at k.domains t.0))
        ∙ ap length (listed_one (domain_at k.domains t.0) (numbered_domain v title k w t m).distinct))
        ∙ ap (λ b. is_a_type e.subject && b)
        (not_above (length (domain_at k.domains t.0)) 65536 (numbered_domain v title k w t m).few)
        ∙ and_none (is_a_type e.subject);
  })

  entry_of_symbol : (before : List Said) (e : Said) → ((q : Said) → Has before q → Differs q e)
      → (s : ℕ × Symbol) (p : PlainEntry) → IsSaid p (a_symbol s.0 s.1) e → is_partial v.types es e.mark s.1 e ≡ false
      → IsAccepted v.types es (entry before e)
  entry_of_symbol before e apart s p h whole = accepted v.types es (entry before e) (record {
    unknown = ap is_nothing h.subject;
    again = none_again before e apart;
    misformed = rw h.fits (and_none (not (is_nothing e.subject)));
    not_given = refl;
    no_element = refl;
    clash = ap (is_not_whole v.types es e) h.subject ∙ whole;
    unsupported = refl;
    out_of_range = refl;
    too_large = ap (λ b. b && nat_lt 65536 (count_of (cells_given e))) (ap is_a_type h.subject);
  })

  whole_partial : (s : ℕ × Symbol) (whole : is_whole k s ≡ true) (e : Said) → IsSaid (whole_of k s) (a_symbol s.0 s.1) e
      → (value : Option ℕ) → s.1.value ≡ value → is_partial v.types es e.mark s.1 e ≡ false
  whole_partial s whole e h None f = ap (λ o. is_none e.mark && (is_some o && misses_a_tuple v.types es s.1.args e)) f
      ∙ and_none (is_none e.mark)
  whole_partial s whole e h (Some ty) f =
      ap (λ b. is_none e.mark && (is_some s.1.value && b)) (nothing_missed s whole ty f e h)
      ∙ ap (λ b. is_none e.mark && b) (and_none (is_some s.1.value)) ∙ and_none (is_none e.mark)

  entry_accepted : (before : List Said) (e : Said) → ((q : Said) → Has before q → Differs q e) → ReadAs v k e
      → IsAccepted v.types es (entry before e)
  entry_accepted before e apart (as_listing t m made h) = entry_of_type before e apart t m made h
  entry_accepted before e apart (as_whole s m whole h) =
      entry_of_symbol before e apart s (whole_of k s) h (whole_partial s whole e h s.1.value refl)
  entry_accepted before e apart (as_certain s m open_ some h) =
      entry_of_symbol before e apart s (certain_of k s) h
      (ap (λ b. b && (is_some s.1.value && misses_a_tuple v.types es s.1.args e))
      (some_mark e.mark (codes "ct") h.mark))
  entry_accepted before e apart (as_denied s m open_ some h) =
      entry_of_symbol before e apart s (denied_of k s) h
      (ap (λ b. b && (is_some s.1.value && misses_a_tuple v.types es s.1.args e))
      (some_mark e.mark (codes "cf") h.mark))

  -- ---- marks, rows, and what stands in them

  mark_fine : (x : Subject) (m : Name) → is_a_type x ≡ false → is_no_mark (sense_of (Some m)) ≡ false
      → IsAccepted v.types es (mark x m)
  mark_fine x m e f = accepted v.types es (mark x m) (record {
    unknown = refl;
    again = refl;
    misformed = refl;
    not_given = refl;
    no_element = refl;
    clash = refl;
    unsupported = rw (e, f) refl;
    out_of_range = refl;
    too_large = refl;
  })

  no_marks : (x : Subject) (o : Option Name) → option_map text_of o ≡ None → (u : DataUse) → Has (mark_uses x o) u
      → IsAccepted v.types es u
  no_marks x None e u m = absurd m
  no_marks x (Some n) e u m = absurd (cc)

  one_mark : (x : Subject) (o : Option Name) (word : List ℕ) → option_map text_of o ≡ Some word → is_a_type x ≡ false
      → is_no_mark (sense_by (Some word)) ≡ false → (u : DataUse) → Has (mark_uses x o) u → IsAccepted v.types es u
  one_mark x None word e f g u m = absurd m
  one_mark x (Some n) word e f g u (inl same) =
      subst (IsAccepted v.types es) same (mark_fine x n f (ap is_no_mark (sense_is (Some n) (Some word) e) ∙ g))
  one_mark x (Some n) word e f g u (inr m) = absurd m

  marks_accepted : (e : Said) → ReadAs v k e → (u : DataUse) → Has (mark_uses e.subject e.mark) u
      → IsAccepted v.types es u
  marks_accepted e (as_listing t m made h) u n = no_marks e.subject e.mark h.mark u n
  marks_accepted e (as_whole s m whole h) u n = no_marks e.subject e.mark h.mark u n
  marks_accepted e (as_certain s m open_ some h) u n =
      one_mark e.subject e.mark (codes "ct") h.mark (ap is_a_type h.subject) refl u n
  marks_accepted e (as_denied s m open_ some h) u n =
      one_mark e.subject e.mark (codes "cf") h.mark (ap is_a_type h.subject) refl u n

  row_fine : (x : Subject) (p : PlainEntry) (e : Said) → RightEntry k.domains x p → IsSaid p x e → (z : WrittenRow)
      → Has e.rows z → IsAccepted v.types es (row e.subject z)
  row_fine x p e right h z m = accepted v.types es (row e.subject z) (record {
    unknown = refl;
    again = refl;
    misformed =
        let r = each_back SaysRow (rows_said p.value) e.rows h.rows z m in
        ap (λ y. not (fits_in y z)) h.subject
        ∙ not_is (fits_in x z) (row_fits k.domains x r.0 z
        (all_has (RightRow k.domains x) (rows_said p.value) right.rows r.0 r.1) r.2);
    not_given = refl;
    no_element = refl;
    clash = refl;
    unsupported = refl;
    out_of_range = refl;
    too_large = refl;
  })

  rows_accepted : (e : Said) → ReadAs v k e → (z : WrittenRow) → Has e.rows z → IsAccepted v.types es (row e.subject z)
  rows_accepted e (as_listing t m made h) z n = row_fine (a_type t.0 t.1) (listing_of k t) e (right_listing k t) h z n
  rows_accepted e (as_whole s m whole h) z n =
      row_fine (a_symbol s.0 s.1) (whole_of k s) e (right_whole k s whole) h z n
  rows_accepted e (as_certain s m open_ some h) z n =
      row_fine (a_symbol s.0 s.1) (certain_of k s) e (right_certain k s open_ some) h z n
  rows_accepted e (as_denied s m open_ some h) z n =
      row_fine (a_symbol s.0 s.1) (denied_of k s) e (right_denied k s open_ some) h z n

  spots_accepted : (e : Said) → ReadAs v k e → (u : Spot) → Has (spots_of e) u → IsAccepted v.types es (spot u)
  spots_accepted e (as_listing t m made h) u n =
      list_spot t m u (spots_right k.domains (listing_of k t) (a_type t.0 t.1) e (right_listing k t) h u n)
  spots_accepted e (as_whole s m whole h) u n =
      symbol_spot s u (spots_right k.domains (whole_of k s) (a_symbol s.0 s.1) e (right_whole k s whole) h u n)
  spots_accepted e (as_certain s m open_ some h) u n =
      symbol_spot s u (spots_right k.domains (certain_of k s) (a_symbol s.0 s.1) e (right_certain k s open_ some) h u n)
  spots_accepted e (as_denied s m open_ some h) u n =
      symbol_spot s u (spots_right k.domains (denied_of k s) (a_symbol s.0 s.1) e (right_denied k s open_ some) h u n)

  -- ---- all uses

  use_of_entry : (before : List Said) (e : Said) → Has es e → ((q : Said) → Has before q → Differs q e) → (u : DataUse)
      → Has (uses_of_entry before e) u → IsAccepted v.types es u
  use_of_entry before e m apart u (inl f) =
      subst (IsAccepted v.types es) f (entry_accepted before e apart (read_as v title k w xs says e m))
  use_of_entry before e m apart u (inr n) =
      elim (has_either (mark_uses e.subject e.mark) (map (row e.subject) e.rows ++ map spot (spots_of e)) u n) [
        | inl a ↦ marks_accepted e (read_as v title k w xs says e m) u a
        | inr b ↦ elim (has_either (map (row e.subject) e.rows) (map spot (spots_of e)) u b) [
          | inl a ↦ let r = map_has (row e.subject) e.rows u a in
              subst (IsAccepted v.types es) r.2 (rows_accepted e (read_as v title k w xs says e m) r.0 r.1)
          | inr a ↦ let r = map_has spot (spots_of e) u a in
              subst (IsAccepted v.types es) r.2 (spots_accepted e (read_as v title k w xs says e m) r.0 r.1)
        ]
      ]

  longer_before : (before : List Said) (e y : Said) → ((q : Said) → Has before q → Differs q y) → Differs e y
      → (q : Said) → Has (before ++ e ∷ []) q → Differs q y
  longer_before before e y apart own q m = elim (has_either before (e ∷ []) q m) [ inl a ↦ apart q a | inr b ↦ last b ]
    where
      last : Has (e ∷ []) q → Differs q y
      last (inl f) = subst (λ z. Differs z y) f own
      last (inr f) = absurd f

  entries_accepted : (before rest : List Said) → ((e : Said) → Has rest e → Has es e)
      → ((q : Said) → Has before q → (e : Said) → Has rest e → Differs q e) → AllPairs Differs rest → (u : DataUse)
      → Has (uses_of_entries before rest) u → IsAccepted v.types es u
  entries_accepted before [] within across pairs u m = absurd m
  entries_accepted before (e ∷ rest) within across pairs u m =
      elim (has_either (uses_of_entry before e) (uses_of_entries (before ++ e ∷ []) rest) u m) [
        | inl a ↦ use_of_entry before e (within e (inl refl)) (λ q n. across q n e (inl refl)) u a
        | inr b ↦ entries_accepted (before ++ e ∷ []) rest (λ f n. within f (inr n))
            (λ q n f o. longer_before before e f (λ r p. across r p f (inr o)) (pairs.0 f o) q n) pairs.1 u b
      ]

  -- ---- facts

  same_atom : (f g : Fact) (a b : GroundAtom) (i j : Bool) → IsFactAbout a i f → IsFactAbout b j g
      → (f.symbol == g.symbol) ≡ true → all_share f.args g.args ≡ true → (a.symbol ≡ b.symbol) × (a.args ≡ b.args)
  same_atom f g a b i j h n e s = (
    sym h.symbol ∙ eqb-true f.symbol g.symbol e
        ∙ n.symbol,
    same_row_is a.args b.args (ap (λ cs. all_share cs (map one b.args)) (sym h.args)
        ∙ ap (λ cs. all_share f.args cs) (sym n.args) ∙ s),
  )

  opposed : (f g : Fact) → IsRightFact k f → IsRightFact k g → (i j : Bool) → f.holds ≡ i → g.holds ≡ j
      → (f.symbol == g.symbol) ≡ true → all_share f.args g.args ≡ true
      → are_opposed i j (same_value_of f.value g.value) ≡ true → ⊥
  opposed f g h n false false e o s t x = true≢false (sym x)
  opposed f g h n true true e o s t x =
      let same = same_atom f g h.atom n.atom f.holds g.holds h.about n.about s t in
      let first : Has k.true_atoms h.atom = subst (λ b. IsKnown k b h.atom) e h.known in
      let second : Has k.true_atoms n.atom = subst (λ b. IsKnown k b n.atom) o n.known in
      let values : f.value ≡ g.value = h.about.value
      ∙ ap (λ a. a.value) (one_value k c h.atom n.atom first second same.0 same.1) ∙ sym n.about.value in
      true≢false (sym x ∙ ap not (ap (λ z. same_value_of z g.value) values ∙ value_itself g.value))
  opposed f g h n true false e o s t x =
      let same = same_atom f g h.atom n.atom f.holds g.holds h.about n.about s t in
      let first : Has k.true_atoms h.atom = subst (λ b. IsKnown k b h.atom) e h.known in
      let second : Has k.false_atoms n.atom = subst (λ b. IsKnown k b n.atom) o n.known in
      let values : h.atom.value ≡ n.atom.value = sym h.about.value ∙ same_value_is f.value g.value x ∙ n.about.value in
      not_both k c n.atom (subst (λ a. Has k.true_atoms a) (atom_by h.atom n.atom same.0 same.1 values) first) second
  opposed f g h n false true e o s t x =
      let same = same_atom f g h.atom n.atom f.holds g.holds h.about n.about s t in
      let first : Has k.false_atoms h.atom = subst (λ b. IsKnown k b h.atom) e h.known in
      let second : Has k.true_atoms n.atom = subst (λ b. IsKnown k b n.atom) o n.known in
      let values : h.atom.value ≡ n.atom.value = sym h.about.value ∙ same_value_is f.value g.value x ∙ n.about.value in
      not_both k c n.atom second (subst (λ a. Has k.false_atoms a) (atom_by h.atom n.atom same.0 same.1 values) first)

  no_clash : (f g : Fact) → IsRightFact k f → IsRightFact k g → do_clash f g ≡ false
  no_clash f g h n = false_from_ne_true (do_clash f g) (λ e.
      let outer = and_parts (f.symbol == g.symbol)
      (all_share f.args g.args && are_opposed f.holds g.holds (same_value_of f.value g.value)) e in
      let inner = and_parts (all_share f.args g.args)
      (are_opposed f.holds g.holds (same_value_of f.value g.value)) outer.1 in
      opposed f g h n f.holds g.holds refl refl outer.0 inner.0 inner.1)

  fact_fine : (before : List Fact) (f : Fact) → ((g : Fact) → Has before g → IsRightFact k g) → IsRightFact k f
      → IsAccepted v.types es (fact before f)
  fact_fine before f right h = accepted v.types es (fact before f) (record {
    unknown = refl;
    again = refl;
    misformed = refl;
    not_given = refl;
    no_element = refl;
    clash = any_none (λ g. do_clash g f) before (λ g m. no_clash g f (right g m) h);
    unsupported = refl;
    out_of_range = refl;
    too_large = refl;
  })

  longer_right : (before : List Fact) (f : Fact) → ((g : Fact) → Has before g → IsRightFact k g) → IsRightFact k f
      → (g : Fact) → Has (before ++ f ∷ []) g → IsRightFact k g
  longer_right before f right h g m = elim (has_either before (f ∷ []) g m) [ inl a ↦ right g a | inr b ↦ last b ]
    where
      last : Has (f ∷ []) g → IsRightFact k g
      last (inl e) = subst (IsRightFact k) e h
      last (inr e) = absurd e

  facts_accepted : (before rest : List Fact) → ((g : Fact) → Has before g → IsRightFact k g)
      → ((g : Fact) → Has rest g → IsRightFact k g) → (u : DataUse) → Has (uses_of_facts before rest) u
      → IsAccepted v.types es u
  facts_accepted before [] right later u m = absurd m
  facts_accepted before (f ∷ fs) right later u (inl e) =
      subst (IsAccepted v.types es) e (fact_fine before f right (later f (inl refl)))
  facts_accepted before (f ∷ fs) right later u (inr m) =
      facts_accepted (before ++ f ∷ []) fs (longer_right before f right (later f (inl refl)))
      (λ g n. later g (inr n)) u m

  pub all_accepted : (places : List ℕ) (u : DataUse) → Has (structure_uses v.types places (map (said v) xs)) u
      → IsAccepted v.types (map (said v) xs) u
  all_accepted places u m =
      elim (has_either (uses_of_types v.types places)
      (uses_of_entries [] (map (said v) xs) ++ uses_of_facts [] (facts_in (map (said v) xs))) u m) [
        | inl a ↦ type_accepted places u a
        | inr b ↦ elim (has_either (uses_of_entries [] (map (said v) xs))
            (uses_of_facts [] (facts_in (map (said v) xs))) u b) [
              | inl a ↦ entries_accepted [] (map (said v) xs) (λ e n. n) (λ q n e o. absurd n)
                  (read_apart v title k w xs says) u a
              | inr a ↦ facts_accepted [] (facts_in (map (said v) xs)) (λ g n. absurd n)
                  (facts_right v title k w c l xs says) u a
            ]
      ]
