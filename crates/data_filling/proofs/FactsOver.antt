-- What accepted entries say is said of atoms over the domains that they give.
use Rattle.std.proofs.Common.{◌≡◌, ◌==◌, ℕ, suc, ◌+◌, Bool, true, false, not, ◌&&◌, ◌||◌, is_none, if◌then◌else◌, List}
use Rattle.std.proofs.Common.{[], ◌∷◌, ◌++◌, length, filter, cond, Option, None, Some, option_map, slice_get, inl, inr}
use Rattle.std.proofs.Common.{◌⊎◌, refl, sym, ap, subst, ◌∙◌, arith, Contains}
use Rattle.std.specs.Prelude.{flat_map, filter_map}
use Rattle.std.specs.List.{enumerate_from, cons_option}
use Rattle.std.specs.Str.{bytes_eq}
use Rattle.std.proofs.lemmas.Bool.{true≢false, and_parts, eqb-true, eq-eqb, not-true, not-false}
use Rattle.std.proofs.lemmas.List.Elements.{Contains-append_left, Contains-append_right}
use Rattle.kb_text.specs.declared.fault.K.TheVariants as k
use Rattle.kb_text.specs.declared.fault.KbFault.{KbFault}
use Rattle.kb_logic.specs.declared.elements.Elem.{Elem}
use Rattle.kb_logic.specs.declared.vocabularies.TypeDecl.{TypeDecl}
use Rattle.kb_logic.specs.declared.vocabularies.Symbol.{Symbol}
use Rattle.kb_logic.specs.declared.vocabularies.Vocabulary.{Vocabulary}
use Rattle.kb_logic.specs.Models.{HasValueIn}
use Rattle.kb_logic.specs.Structures.{EachWith}
use Rattle.kb_logic.proofs.Members.{first, later, member_cases, none_in}
use Rattle.grammar.specs.BlockTrees as raw
use Rattle.stage_definitions.specs.Names.{text_of}
use Rattle.stage_definitions.specs.Elements.{Cell, one, is_in, is_among, is_covered, members, same_element}
use Rattle.stage_definitions.specs.DataEntries.{Subject, nothing_named, an_element, a_type, a_symbol, named_in_types}
use Rattle.stage_definitions.specs.DataEntries.{named_in_symbols, named_in_elements, subject_of, is_plain_list}
use Rattle.stage_definitions.specs.DataEntries.{WrittenRow}
use Rattle.stage_definitions.specs.DataEntries.{element_of, Said, said_in, entries_in, is_value_for, fits_in, fitting}
use Rattle.stage_definitions.specs.DataEntries.{cell_of, Spot, item_spots, value_spots, row_spots, spots_of, sense_of}
use Rattle.stage_definitions.specs.DataEntries.{place_of_item, place_of_element}
use Rattle.stage_definitions.specs.Below.{type_above}
use Rattle.stage_definitions.specs.DataDomains.{cells_if, cells_of, domains_of, listed_cells, made_cells}
use Rattle.stage_definitions.specs.DataDomains.{parent_of_type}
use Rattle.stage_definitions.specs.DataDomains.{is_this, is_listed, is_constructed, has_what_occurs, occurring_cells}
use Rattle.stage_definitions.specs.DataDomains.{occurs_at}
use Rattle.stage_definitions.specs.DataFacts.{Fact, joined_to, cells_read, fact_at, fact_of, signs_of, facts_of}
use Rattle.stage_definitions.specs.DataFacts.{facts_in}
use Rattle.stage_definitions.specs.DataStage.{spot, uses_of_types, uses_of_entries, uses_of_facts, structure_uses}
use Rattle.stage_definitions.specs.DataStage.{is_idle}
use Rattle.stage_definitions.specs.DataStage.{type_is, gives, is_outside, cell_is, EntriesRefuse}
use Rattle.reading_laws.proofs.Members.{item_some, item_all, passed, in_some, some_in, of_options}
use Rattle.reading_laws.proofs.Covered.{covered_is_each}
use Rattle.reading_laws.proofs.GivenDomains.{in_listing}
use Rattle.reading_laws.proofs.Listing.{in_members}
use Rattle.reading_laws.proofs.Lists.{is_said, spot_in}
use Rattle.reading_laws.proofs.Missing.{domain_is}
use Rattle.reading_laws.proofs.Rows.{AreFine, fine, no_element}
use Rattle.reading_laws.proofs.Same.{itself}
use Rattle.data_filling.specs.Filling.{IsCellOver, IsFactOver, IsNumberOver, IsSubjectOver}

-- ---- lists

kept_by : {X : Type 0} (test : X → Bool) (y x : X) (ys : List X) → test x ≡ true
    → (Contains ys x → Contains (filter test ys) x)
    → (b : Bool) → test y ≡ b → (y ≡ x) ⊎ Contains ys x → Contains (cond b (y ∷ filter test ys) (filter test ys)) x
kept_by {X} test y x ys h go true e (inl s) = subst (λ (z : X). Contains (z ∷ filter test ys) x) (sym s)
    (first x (filter test ys))
kept_by test y x ys h go true e (inr d) = later y x (filter test ys) (go d)
kept_by test y x ys h go false e (inl s) = absurd (true≢false (sym h ∙ ap test (sym s) ∙ e))
kept_by test y x ys h go false e (inr d) = go d

kept_in : {X : Type 0} (test : X → Bool) (xs : List X) (x : X) → Contains xs x → test x ≡ true
    → Contains (filter test xs) x
kept_in test [] x c h = absurd (none_in x c)
kept_in test (y ∷ ys) x c h = kept_by test y x ys h (λ d. kept_in test ys x d h) (test y) refl (member_cases y x ys c)

options_by : {X Y : Type 0} (f : X → Option Y) (z x : X) (y : Y) (xs : List X) → f x ≡ Some y
    → (Contains xs x → Contains (filter_map f xs) y)
    → (o : Option Y) → f z ≡ o → (z ≡ x) ⊎ Contains xs x → Contains (cons_option o (filter_map f xs)) y
options_by {X} {Y} f z x y xs h go None e (inl s) = let no : None ≡ Some y = sym e ∙ ap f s ∙ h in absurd (cc)
options_by f z x y xs h go None e (inr d) = go d
options_by {X} {Y} f z x y xs h go (Some w) e (inl s) =
    let same : Some w ≡ Some y = sym e ∙ ap f s ∙ h in
    let is : w ≡ y = cc in
    subst (λ (u : Y). Contains (u ∷ filter_map f xs) y) (sym is) (first y (filter_map f xs))
options_by f z x y xs h go (Some w) e (inr d) = later w y (filter_map f xs) (go d)

in_options : {X Y : Type 0} (f : X → Option Y) (xs : List X) (x : X) (y : Y) → Contains xs x → f x ≡ Some y
    → Contains (filter_map f xs) y
in_options f [] x y c h = absurd (none_in x c)
in_options f (z ∷ xs) x y c h = options_by f z x y xs h (λ d. in_options f xs x y d h) (f z) refl
    (member_cases z x xs c)

-- ---- symbols that words name

abbrev IsSymbolAt : List Symbol → ℕ → Subject → Type 0
IsSymbolAt symbols i nothing_named = Unit {0}
IsSymbolAt symbols i an_element = Unit {0}
IsSymbolAt symbols i (a_type t d) = Unit {0}
IsSymbolAt symbols i (a_symbol s d) = (j : ℕ) × (i + j ≡ s) × (slice_get symbols j ≡ Some d)

chosen_subject : (P : Subject → Type 0) (b : Bool) (x y : Subject) → P x → P y → P (if b then x else y)
chosen_subject P true x y h g = h
chosen_subject P false x y h g = g

longer : (symbols : List Symbol) (c : Symbol) (i : ℕ) (x : Subject) → IsSymbolAt symbols (i + 1) x
    → IsSymbolAt (c ∷ symbols) i x
longer symbols c i nothing_named h = tt
longer symbols c i an_element h = tt
longer symbols c i (a_type t d) h = tt
longer symbols c i (a_symbol s d) h = let number = h.1 in (suc h.0, omega (arith, number), h.2)

elements_name_none : (w : List ℕ) (ns : List (List ℕ)) (P : Subject → Type 0) → P nothing_named → P an_element
    → P (named_in_elements w ns)
elements_name_none w [] P h g = h
elements_name_none w (n ∷ ns) P h g = chosen_subject P (bytes_eq w n) an_element (named_in_elements w ns) g
    (elements_name_none w ns P h g)

symbols_named : (w : List ℕ) (i : ℕ) (symbols : List Symbol) (other : Subject)
    → ((ss : List Symbol) (j : ℕ) → IsSymbolAt ss j other) → IsSymbolAt symbols i
    (named_in_symbols w (enumerate_from i symbols) other)
symbols_named w i [] other h = h [] i
symbols_named w i (c ∷ cs) other h =
    let here : i + 0 ≡ i = omega arith in
    chosen_subject (IsSymbolAt (c ∷ cs) i) (bytes_eq w c.name) (a_symbol i c)
    (named_in_symbols w (enumerate_from (i + 1) cs) other)
    (0, here, refl) (longer cs c i (named_in_symbols w (enumerate_from (i + 1) cs) other)
    (symbols_named w (i + 1) cs other h))

types_named : (w : List ℕ) (i : ℕ) (types : List TypeDecl) (other : Subject) (P : Subject → Type 0)
    → ((t : ℕ) (d : TypeDecl) → P (a_type t d)) → P other → P (named_in_types w (enumerate_from i types) other)
types_named w i [] other P h g = g
types_named w i (c ∷ cs) other P h g =
    chosen_subject P (bytes_eq w c.name) (a_type i c) (named_in_types w (enumerate_from (i + 1) cs) other) (h i c)
    (types_named w (i + 1) cs other P h g)

number_over : (symbols : List Symbol) (x : Subject) → IsSymbolAt symbols 0 x → IsNumberOver symbols x
number_over symbols nothing_named h = tt
number_over symbols an_element h = tt
number_over symbols (a_type t d) h = tt
number_over symbols (a_symbol s d) h =
    let number = h.1 in
    let same : h.0 ≡ s = omega (arith, number) in
    subst (λ (n : ℕ). slice_get symbols n ≡ Some d) same h.2

subject_over : (v : Vocabulary) (w : List ℕ) → IsNumberOver v.symbols (subject_of v w)
subject_over v w =
    let elements = named_in_elements w (flat_map (λ (d : TypeDecl). d.made) v.types) in
    let any : (ss : List Symbol) (j : ℕ) → IsSymbolAt ss j elements =
    λ ss j. elements_name_none w (flat_map (λ (d : TypeDecl). d.made) v.types) (IsSymbolAt ss j) tt tt in
    number_over v.symbols (subject_of v w)
    (types_named w 0 v.types (named_in_symbols w (enumerate_from 0 v.symbols) elements) (IsSymbolAt v.symbols 0)
    (λ t d. tt) (symbols_named w 0 v.symbols elements any))

-- ---- cells that are in their types

module _ (types : List TypeDecl) (es : List Said) where
  covered : (t : ℕ) (c : Cell) → is_covered (cells_of types es t) c ≡ true → IsCellOver (domains_of types es) t c
  covered t c h x m =
      subst (λ (xs : List Elem). Contains xs x) (sym (domain_is types es t))
      (in_listing (cells_of types es t) x (item_all (is_among (cells_of types es t)) (members c) x
      (sym (covered_is_each (cells_of types es t) c) ∙ h) m))

  listed_cell : (t : ℕ) (c : Cell) → Contains (cells_of types es t) c → IsCellOver (domains_of types es) t c
  listed_cell t c h x m =
      subst (λ (xs : List Elem). Contains xs x) (sym (domain_is types es t))
      (in_listing (cells_of types es t) x (item_some (is_in x) (cells_of types es t) c h
      (in_members x c ∙ item_some (same_element x) (members c) x m (itself x))))

  -- a type that has what occurs has this cell
  occurs : (t : ℕ) (o : Option TypeDecl) → slice_get types t ≡ o → type_is (has_what_occurs es t) o ≡ true
      → cells_of types es t ≡ occurring_cells types es t
  occurs t None e h = absurd (true≢false (sym h))
  occurs t (Some d) e h =
      let parts = and_parts (not (is_constructed d)) (not (is_listed es t) && is_none (type_above d.parent)) h in
      let rest = and_parts (not (is_listed es t)) (is_none (type_above d.parent)) parts.1 in
      ap (cells_if types es t) e
      ∙ ap (λ b. if b then made_cells d else (if is_listed es t then listed_cells es t else
      (if has_what_occurs es t d then occurring_cells types es t else []))) (not-true (is_constructed d) parts.0)
      ∙ ap (λ b. if b then listed_cells es t else (if has_what_occurs es t d then occurring_cells types es t else []))
      (not-true (is_listed es t) rest.0)
      ∙ ap (λ b. if b then occurring_cells types es t else []) h

-- ---- what stands in rows of an accepted structure

joined_parts : (o : Option Cell) (p : Option (List Cell)) (cs : List Cell) → joined_to o p ≡ Some cs
    → (c : Cell) × (rest : List Cell) × (o ≡ Some c) × (p ≡ Some rest) × (cs ≡ c ∷ rest)
joined_parts None p cs h = let no : None ≡ Some cs = h in absurd (cc)
joined_parts (Some c) None cs h = let no : None ≡ Some cs = h in absurd (cc)
joined_parts (Some c) (Some rest) cs h = let same : c ∷ rest ≡ cs = cc in (c, rest, refl, refl, sym same)

not_and : (a b : Bool) → (not a && b) ≡ false → a ≡ false → b ≡ false
not_and true b h e = absurd (true≢false e)
not_and false b h e = h

either_way : {P : Type 0} (b x y : Bool) → (if b then x else y) ≡ false → (b ≡ true → P) → (b ≡ false → y ≡ false → P)
    → P
either_way true x y h f g = f refl
either_way false x y h f g = g refl h

module _ (v : Vocabulary) (s : raw.Structure) (places : List ℕ)
    (accepted : (q : KbFault) → EntriesRefuse v places s q → ⊥) where
  abbrev es : List Said
  es = said_in v s

  abbrev domains : List (List Elem)
  domains = domains_of v.types es

  all : AreFine v.types es (structure_uses v.types places es)
  all = fine v.types es (structure_uses v.types places es) accepted

  spot_used : (e : Said) (p : Spot) → Contains es e → Contains (spots_of e) p
      → Contains (structure_uses v.types places es) (spot p)
  spot_used e p c d =
      Contains-append_right (uses_of_types v.types places) (uses_of_entries [] es ++ uses_of_facts [] (facts_in es))
      (spot p)
      (Contains-append_left (uses_of_entries [] es) (uses_of_facts [] (facts_in es)) (spot p) (spot_in [] es e p c d))

  this_type : (t : ℕ) (p : Spot) → p.in_list ≡ false → p.ty ≡ t → occurs_at v.types t p ≡ true
  this_type t p h g = ap (λ b. is_this t (if b then parent_of_type v.types p.ty else Some p.ty)) h ∙ eq-eqb p.ty t g

  spot_over : (e : Said) (p : Spot) (c : Cell) → Contains es e → Contains (spots_of e) p → p.in_list ≡ false → p.cell
      ≡ Some c → IsCellOver domains p.ty c
  spot_over e p c among at own cell =
      let refused : (not (is_idle v.types p) && cell_is (is_outside v.types es p) p.cell) ≡ false =
      all (spot p) (spot_used e p among at) k.NotAnElement no_element in
      let idle : is_idle v.types p ≡ false = ap (λ b. b && type_is is_constructed (slice_get v.types p.ty)) own in
      let outside : is_outside v.types es p c ≡ false = sym (ap (cell_is (is_outside v.types es p)) cell)
      ∙ not_and (is_idle v.types p) (cell_is (is_outside v.types es p) p.cell) refused idle in
      either_way (gives v.types es p) _ (not (is_covered (cells_of v.types es p.ty) c)) outside
      (λ g. listed_cell v.types es p.ty c
      (subst (λ (cs : List Cell). Contains cs c) (sym (occurs v.types es p.ty (slice_get v.types p.ty) refl
      (sym (ap (λ b. b || type_is (has_what_occurs es p.ty) (slice_get v.types p.ty)) own) ∙ g)))
      (in_options (λ (q : Spot). q.cell) (filter (occurs_at v.types p.ty) (flat_map spots_of es)) p c
      (kept_in (occurs_at v.types p.ty) (flat_map spots_of es) p (some_in spots_of es e p among at)
      (this_type p.ty p own refl)) cell)))
      (λ g h. covered v.types es p.ty c (not-false (is_covered (cells_of v.types es p.ty) c) h))

  -- ---- a row that fits

  module _ (e : Said) (among : Contains es e) (n : ℕ) (d : Symbol) (names : e.subject ≡ a_symbol n d) where
    abbrev AreSpots : List Spot → Type 0
    AreSpots ps = (p : Spot) → Contains ps p → Contains (spots_of e) p

    cells_over : (types : List ℕ) (items : List raw.RowItem) (cs : List Cell) → (length items == length types) ≡ true
        → AreSpots (item_spots (a_symbol n d) types items) → cells_read (is_plain_list (a_symbol n d)) items ≡ Some cs
        → EachWith (IsCellOver domains) types cs
    cells_over [] [] cs l h g = let same : [] ≡ cs = cc in subst
        (λ (xs : List Cell). EachWith (IsCellOver domains) [] xs) same tt
    cells_over [] (i ∷ is) cs l h g = absurd (let long = eqb-true (length (i ∷ is)) 0 l in omega (arith, long))
    cells_over (t ∷ ts) [] cs l h g = absurd (let long = eqb-true 0 (length (t ∷ ts)) l in omega (arith, long))
    cells_over (t ∷ ts) (i ∷ is) cs l h g =
        let plain = is_plain_list (a_symbol n d) in
        let long : length is ≡ length ts = let suc_long = eqb-true (suc (length is)) (suc (length ts)) l in
        omega (arith, suc_long) in
        let parts = joined_parts (cell_of plain i) (cells_read plain is) cs g in
        let own : Spot = record { ty = t; in_list = false; place = place_of_item i; cell = cell_of plain i } in
        let rest = item_spots (a_symbol n d) ts is in
        subst (λ (xs : List Cell). EachWith (IsCellOver domains) (t ∷ ts) xs) (sym parts.4) (
          spot_over e own parts.0 among (h own (first own rest)) refl parts.2,
          cells_over ts is parts.1 (eq-eqb (length is) (length ts) long) (λ p c. h p (later own p rest c)) parts.3,
        )

    value_over : (t : Option ℕ) (o : Option raw.Element) → is_value_for t o ≡ true → AreSpots (value_spots t o)
        → HasValueIn domains t (option_map element_of o)
    value_over None None f h = tt
    value_over None (Some x) f h = absurd (true≢false (sym f))
    value_over (Some t) None f h = absurd (true≢false (sym f))
    value_over (Some t) (Some x) f h =
        let own : Spot = record {
          ty = t;
          in_list = false;
          place = place_of_element x;
          cell =
              Some (one (element_of x));
        } in
        spot_over e own (one (element_of x)) among (h own (first own [])) refl refl (element_of x)
        (first (element_of x) [])

    row_over : (holds : Bool) (r : WrittenRow) (f : Fact) → Contains (fitting e) r → fits_in e.subject r ≡ true
        → slice_get v.symbols n ≡ Some d
        → fact_of holds (a_symbol n d) r ≡ Some f → IsFactOver v.symbols domains f
    row_over holds r f c fit at h = by (cells_read (is_plain_list (a_symbol n d)) r.items) refl h
      where
        fits : fits_in (a_symbol n d) r ≡ true
        fits = ap (λ x. fits_in x r) (sym names) ∙ fit

        spots : AreSpots (row_spots (a_symbol n d) r)
        spots p m = some_in (row_spots e.subject) (fitting e) r p c
            (subst (λ (x : Subject). Contains (row_spots x r) p) (sym names) m)

        by : (o : Option (List Cell)) → cells_read (is_plain_list (a_symbol n d)) r.items ≡ o
            → option_map (fact_at r.place n holds (option_map element_of r.value)) o ≡ Some f
            → IsFactOver v.symbols domains f
        by None g q = let no : None ≡ Some f = q in absurd (cc)
        by (Some cs) g q =
            let both = and_parts (length r.items == length d.args) (is_value_for d.value r.value) fits in
            let items = item_spots (a_symbol n d) d.args r.items in
            let values = value_spots d.value r.value in
            let is : fact_at r.place n holds (option_map element_of r.value) cs ≡ f = cc in
            subst (λ (x : Fact). IsFactOver v.symbols domains x) is
            (record {
              declared = d;
              at = at;
              args = cells_over d.args r.items cs both.0 (λ p m. spots p (Contains-append_left items values p m)) g;
              value = value_over d.value r.value both.1 (λ p m. spots p (Contains-append_right items values p m));
            })

  -- ---- an entry

  rows_over : (e : Said) → Contains es e → (holds : Bool) (x : Subject) → e.subject ≡ x → IsNumberOver v.symbols x
      → (r : WrittenRow) (f : Fact) → Contains (fitting e) r
      → fits_in e.subject r ≡ true → fact_of holds x r ≡ Some f → IsFactOver v.symbols domains f
  rows_over e among holds nothing_named names at r f c fit h = let no : None ≡ Some f = h in absurd (cc)
  rows_over e among holds an_element names at r f c fit h = let no : None ≡ Some f = h in absurd (cc)
  rows_over e among holds (a_type t d) names at r f c fit h = let no : None ≡ Some f = h in absurd (cc)
  rows_over e among holds (a_symbol n d) names at r f c fit h = row_over e among n d names holds r f c fit at h

  entry_over : (e : Said) → Contains es e → IsSubjectOver v.symbols e → (f : Fact) → Contains (facts_of e) f
      → IsFactOver v.symbols domains f
  entry_over e among at f c =
      let sign = in_some (λ holds. filter_map (fact_of holds e.subject) (fitting e)) (signs_of (sense_of e.mark)) f c in
      let r = of_options (fact_of sign.0 e.subject) (fitting e) f sign.2 in
      let fit = passed (fits_in e.subject) e.rows r.0 r.1 in
      rows_over e among sign.0 e.subject refl at r.0 f r.1 fit.1 r.2

  pub subjects_over : (e : Said) → Contains es e → IsSubjectOver v.symbols e
  subjects_over e among = subst (IsNumberOver v.symbols) (sym (is_said v (entries_in s) e among))
      (subject_over v (text_of e.word))

  pub each_over : (f : Fact) → Contains (facts_in es) f → IsFactOver v.symbols domains f
  each_over f c = let e = in_some facts_of es f c in entry_over e.0 e.1 (subjects_over e.0 e.1) f e.2
