-- Nothing is refused of words at positions of types that any word may be of.
use Rattle.std.proofs.Common.{◌≡◌, ◌∙◌, ◌∷◌, [], ◌++◌, ◌&&◌, ◌||◌, not, ℕ, Bool, true, false, List, Option, None, Some}
use Rattle.std.proofs.Common.{fold, map, refl, sym, ap, if◌then◌else◌, append-nil, slice_get}
use Rattle.std.specs.List.{flat_map, list_all}
use Rattle.std.proofs.lemmas.Bool.{and_parts, true≢false}
use Rattle.std.proofs.lemmas.Grind.{fold-append}
use Rattle.std.proofs.lemmas.List.{map-append}
use Rattle.kb_text.specs.declared.fault.KbFault.{KbFault}
use Rattle.kb_text.specs.declared.fault.K.TheVariants as k
use Rattle.kb_logic.specs.declared.elements.Elem.{Elem}
use Rattle.kb_logic.specs.declared.elements.Elem.TheVariants.{Named, Num}
use Rattle.kb_logic.specs.declared.vocabularies.TypeDecl.{TypeDecl}
use Rattle.grammar.specs.BlockTrees as raw
use Rattle.stage_definitions.specs.Kinship.{is_number_type}
use Rattle.stage_definitions.specs.Earliest.{noted_if}
use Rattle.stage_definitions.specs.Elements.{one}
use Rattle.stage_definitions.specs.DataEntries.{Said, Subject, nothing_named, an_element, a_type, a_symbol, Spot}
use Rattle.stage_definitions.specs.DataEntries.{WrittenRow}
use Rattle.stage_definitions.specs.DataEntries.{argument_types, element_of, fits_in, is_a_type}
use Rattle.stage_definitions.specs.DataEntries.{item_spots, place_of_element, row_spots, value_spots, value_type}
use Rattle.stage_definitions.specs.DataDomains.{has_what_occurs, is_natural_type}
use Rattle.stage_definitions.specs.DataStage as stage
use Rattle.structure_entries.specs.EntryViews.{row_view, spots_in}
use Rattle.structure_entries.specs.declared.rows.Row.{Row}
use Rattle.structure_entries.proofs.Spotted.{spots_next}
use Rattle.data_refusals.specs.Words.{are_open, has_words_alone, is_open, is_open_if, is_plain_word, is_word}
use Rattle.data_refusals.specs.Words.{is_word_if}

module _ (all : List TypeDecl) (es : List Said) where
  -- a word at a position of an open type
  pub record IsFine (s : Spot) : Type 0 where
    pub in_list : s.in_list ≡ false
    pub open_to : is_open all es s.ty ≡ true
    pub word : List ℕ
    pub cell : s.cell ≡ Some (one (Named word))

  none_of : (a : Bool) → (a && false) ≡ false
  none_of true = refl
  none_of false = refl

  gives_by : (l t : Bool) → l ≡ false → t ≡ true → (l || t) ≡ true
  gives_by l t e f = ap (λ b. b || t) e ∙ f

  outside_by : (g n u l : Bool) (above covered : Bool) → g ≡ true → n ≡ false → u ≡ false → l ≡ false
      → (if g then not ((not n || false) && (not u || true)) || (l && not above) else not covered) ≡ false
  outside_by true false false false above covered e f h i = refl
  outside_by false n u l above covered e f h i = absurd (true≢false (sym e))
  outside_by true true u l above covered e f h i = absurd (true≢false f)
  outside_by true false true l above covered e f h i = absurd (true≢false h)
  outside_by true false false true above covered e f h i = absurd (true≢false i)

  noted_by : (a b c : Bool) (place : ℕ) (old : Option KbFault) → a ≡ false → b ≡ false → c ≡ false
      → noted_if c k.OutOfRange place (noted_if b k.Unsupported place (noted_if a k.NotAnElement place old)) ≡ old
  noted_by a b c place old e f g =
      ap (λ x. noted_if c k.OutOfRange place (noted_if b k.Unsupported place (noted_if x k.NotAnElement place old))) e
      ∙ ap (λ x. noted_if c k.OutOfRange place (noted_if x k.Unsupported place old)) f
      ∙ ap (λ x. noted_if x k.OutOfRange place old) g

  not_true : (b : Bool) → not b ≡ true → b ≡ false
  not_true true h = absurd (true≢false (sym h))
  not_true false h = refl

  pub fine_noted : (s : Spot) (old : Option KbFault) → IsFine s → stage.data_noted all es old (stage.spot s) ≡ old
  fine_noted s old h =
      let parts = and_parts (stage.type_is (has_what_occurs es s.ty) (slice_get all s.ty))
      (not (is_number_type all s.ty) && not (is_natural_type all s.ty)) h.open_to in
      let kinds = and_parts (not (is_number_type all s.ty)) (not (is_natural_type all s.ty)) parts.1 in
      let gives = gives_by s.in_list (stage.type_is (has_what_occurs es s.ty) (slice_get all s.ty)) h.in_list parts.0 in
      let outside : stage.is_outside all es s (one (Named h.word)) ≡ false =
      outside_by (stage.gives all es s) (is_number_type all s.ty) (is_natural_type all s.ty) s.in_list _ _ gives
      (not_true _ kinds.0) (not_true _ kinds.1) h.in_list in
      let no_element : stage.is_no_element all es (stage.spot s) ≡ false =
      ap (λ o. not (stage.is_idle all s) && stage.cell_is (stage.is_outside all es s) o) h.cell
      ∙ ap (λ b. not (stage.is_idle all s) && b) outside ∙ none_of (not (stage.is_idle all s)) in
      let unsupported : stage.is_unsupported (stage.spot s) ≡ false = rw h.cell refl in
      let beyond : stage.is_out_of_range all es (stage.spot s) ≡ false = rw h.cell
      (ap (λ b. not (stage.is_idle all s) && b) (none_of (stage.gives all es s)) ∙ none_of (not (stage.is_idle all s))) in
      noted_by (stage.is_no_element all es (stage.spot s)) (stage.is_unsupported (stage.spot s))
      (stage.is_out_of_range all es (stage.spot s)) s.place old no_element unsupported beyond

  abbrev pub noted_spots : Option KbFault → List Spot → Option KbFault
  noted_spots old ss = fold (stage.data_noted all es) old (map stage.spot ss)

  as_word : (x : Elem) → is_word x ≡ true → (n : List ℕ) × (x ≡ Named n)
  as_word (Named n) h = (n, refl)
  as_word (Num z) h = absurd (true≢false (sym h))

  items_noted : (x : Subject) (ts : List ℕ) (is : List raw.RowItem) (old : Option KbFault) → is_a_type x ≡ false
      → list_all (is_open all es) ts ≡ true → list_all is_plain_word is ≡ true
      → noted_spots old (item_spots x ts is) ≡ old
  items_noted x [] is old a o w = refl
  items_noted x (t ∷ ts) [] old a o w = refl
  items_noted x (t ∷ ts) (raw.item e None ∷ is) old a o w =
      let opens = and_parts (is_open all es t) (list_all (is_open all es) ts) o in
      let words = and_parts (is_word (element_of e)) (list_all is_plain_word is) w in
      let n = as_word (element_of e) words.0 in
      let fine : IsFine (record {
        ty = t;
        in_list = is_a_type x;
        place = place_of_element e;
        cell = Some (one (element_of e));
      }) = record {
        in_list = a;
        open_to = opens.0;
        word = n.0;
        cell = ap (λ y. Some (one y)) n.1;
      } in
      ap (λ f. noted_spots f (item_spots x ts is)) (fine_noted _ old fine) ∙ items_noted x ts is old a opens.1 words.1
  items_noted x (t ∷ ts) (raw.item e (Some to) ∷ is) old a o w = absurd (true≢false (sym w))

  value_noted : (ty : Option ℕ) (v : Option raw.Element) (old : Option KbFault) → is_open_if all es ty ≡ true
      → is_word_if v ≡ true → noted_spots old (value_spots ty v) ≡ old
  value_noted None v old o w = refl
  value_noted (Some t) None old o w = refl
  value_noted (Some t) (Some e) old o w =
      let n = as_word (element_of e) w in
      let fine : IsFine (record {
        ty = t;
        in_list = false;
        place = place_of_element e;
        cell = Some (one (element_of e));
      }) = record {
        in_list = refl;
        open_to = o;
        word = n.0;
        cell = ap (λ y. Some (one y)) n.1;
      } in
      fine_noted _ old fine

  opens : (x : Subject) → are_open all es x ≡ true → (is_a_type x ≡ false)
      × (list_all (is_open all es) (argument_types x) ≡ true) × (is_open_if all es (value_type x) ≡ true)
  opens nothing_named h = (refl, refl, refl)
  opens an_element h = (refl, refl, refl)
  opens (a_type t d) h = absurd (true≢false (sym h))
  opens (a_symbol s d) h =
      let parts = and_parts (list_all (is_open all es) d.args) (is_open_if all es d.value) h in
      (refl, parts.0, parts.1)

  pub row_noted : (x : Subject) (r : WrittenRow) (old : Option KbFault) → are_open all es x ≡ true
      → has_words_alone r ≡ true → noted_spots old (spots_in x (r ∷ [])) ≡ old
  row_noted x r old o w = by (fits_in x r)
    where
      parts : (is_a_type x ≡ false) × (list_all (is_open all es) (argument_types x) ≡ true)
          × (is_open_if all es (value_type x) ≡ true)
      parts = opens x o

      words : (is_word_if r.value ≡ true) × (list_all is_plain_word r.items ≡ true)
      words = and_parts (is_word_if r.value) (list_all is_plain_word r.items) w

      items : List Spot
      items = item_spots x (argument_types x) r.items

      values : List Spot
      values = value_spots (value_type x) r.value

      by : (b : Bool) → noted_spots old (flat_map (row_spots x) (if b then r ∷ [] else [])) ≡ old
      by false = refl
      by true =
          ap (noted_spots old) (append-nil (items ++ values))
          ∙ ap (fold (stage.data_noted all es) old) (map-append (λ s. stage.spot s) items values)
          ∙ fold-append (stage.data_noted all es) old (map (λ s. stage.spot s) items) (map (λ s. stage.spot s) values)
          ∙ ap (λ f. noted_spots f values) (items_noted x (argument_types x) r.items old parts.0 parts.1 words.1)
          ∙ value_noted (value_type x) r.value old parts.2 words.0

-- what stands in a row is noted before what stands in the rows after it
pub rows_noted : (x : Subject) (r : Row) (rs : List Row) → map (λ s. stage.spot s) (spots_in x (map row_view (r ∷ rs)))
    ≡ map (λ s. stage.spot s) (spots_in x (row_view r ∷ [])) ++ map (λ s. stage.spot s) (spots_in x (map row_view rs))
rows_noted x r rs = ap (map (λ s. stage.spot s)) (spots_next x (row_view r) (map row_view rs))
    ∙ map-append (λ s. stage.spot s) (spots_in x (row_view r ∷ [])) (spots_in x (map row_view rs))
