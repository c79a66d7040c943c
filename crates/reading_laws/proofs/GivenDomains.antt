-- The domains that an accepted structure gives are as the vocabulary asks.
use Rattle.std.proofs.Common.{◌≡◌, ◌≤◌, ℕ, zero, suc, ◌+◌, ℤ, pos, negsuc, neg_ℤ, ◌-ℤ◌, ◌≤ℤ◌, Bool, true, false, not}
use Rattle.std.proofs.Common.{◌&&◌, ◌||◌, ◌==◌, nat_lt, int_lt, is_none, List, [], ◌∷◌, ◌++◌, length, map, filter, fold}
use Rattle.std.proofs.Common.{if◌then◌else◌, Option, None, Some, option_map, slice_get, unwrap_or, refl, sym, ap, subst}
use Rattle.std.proofs.Common.{◌∙◌, arith, ◌⊎◌, inl, inr, Contains}
use Rattle.std.specs.Prelude.{zip}
use Rattle.std.specs.List.{flat_map, enumerate_from, AllByRecursion}
use Rattle.std.proofs.lemmas.Bool.{true≢false, cases_Bool, and_parts, or_cases, eqb-true, false_from_ne_true}
use Rattle.std.proofs.lemmas.Bool.Decides.{nat_tests}
use Rattle.std.proofs.lemmas.Int.{ints}
use Rattle.std.proofs.lemmas.Option.{slice_get-map}
use Rattle.std.proofs.lemmas.List.{append-nil, length-map}
use Rattle.std.proofs.lemmas.List.Elements.{Contains-append_left, Contains-append_right}
use Rattle.kb_text.specs.declared.fault.K.TheVariants as k
use Rattle.kb_logic.specs.declared.elements.Elem.{Elem}
use Rattle.kb_logic.specs.declared.elements.Elem.TheVariants.{Named, Num}
use Rattle.kb_logic.specs.declared.vocabularies.Parent.{Parent}
use Rattle.kb_logic.specs.declared.vocabularies.Parent.TheVariants as parent
use Rattle.kb_logic.specs.declared.vocabularies.TypeDecl.{TypeDecl}
use Rattle.kb_logic.specs.Structures.{EachWith}
use Rattle.kb_logic.specs.KnownAtoms.{KnownAtoms}
use Rattle.kb_logic.specs.Domains.{IsUnder, IsInRange, IsDomainOf, AreDomainsOf}
use Rattle.grammar.specs.BlockTrees as raw
use Rattle.stage_definitions.specs.Below.{type_above, type_parents}
use Rattle.stage_definitions.specs.Kinship.{climbed, climbed_on, top_of, is_number_parent, is_under_a_number}
use Rattle.stage_definitions.specs.Kinship.{is_number_type}
use Rattle.stage_definitions.specs.NamesStage.{declarations_of}
use Rattle.stage_definitions.specs.Numbering.{NamedFile, named_file, vocabulary_name}
use Rattle.stage_definitions.specs.TypedFiles.{TypedFile, typed_file}
use Rattle.stage_definitions.specs.Elements.{Cell, one, span, same_element, is_between, is_in, is_among, as_interval}
use Rattle.stage_definitions.specs.Elements.{one_more, size_of, is_covered, is_numeric, is_not_negative, members}
use Rattle.stage_definitions.specs.Elements.{with_element, listed, count_of}
use Rattle.stage_definitions.specs.DataEntries.{a_type, is_a_type, WrittenRow, fitting, Spot, item_spots, row_spots}
use Rattle.stage_definitions.specs.DataEntries.{spots_of, Said, said_in, entries_in}
use Rattle.stage_definitions.specs.DataDomains.{is_list_of, is_listed, cells_given, listed_cells, parent_of_type}
use Rattle.stage_definitions.specs.DataDomains.{is_this}
use Rattle.stage_definitions.specs.DataDomains.{occurs_at, occurring_cells, is_constructed, made_cells, has_what_occurs}
use Rattle.stage_definitions.specs.DataDomains.{cells_by, cells_of, domains_of, is_nat, is_under_nat, is_natural_type}
use Rattle.stage_definitions.specs.DataDomains.{is_of_kind, is_in_range}
use Rattle.stage_definitions.specs.DataFacts.{facts_in}
use Rattle.stage_definitions.specs.DataStage.{declared, spot, type_use, uses_of_types, uses_of_entries, uses_of_facts}
use Rattle.stage_definitions.specs.DataStage.{structure_uses, argument_uses, is_idle, type_is, gives, is_in_type_above}
use Rattle.stage_definitions.specs.DataStage.{is_outside, cell_is}
use Rattle.stage_definitions.specs.DataAnswer.{IsDataOf}
use Rattle.reading_laws.specs.DataLaws.{AcceptedHaveDomains}
use Rattle.reading_laws.proofs.Members.{here, there, nowhere, first_or_later, some_item, item_some, item_all, passed}
use Rattle.reading_laws.proofs.Members.{in_some, of_options}
use Rattle.reading_laws.proofs.Rows.{AreFine, fine, no_element, out_of_range, too_large, from_first}
use Rattle.reading_laws.proofs.Same.{is_same, itself}
use Rattle.reading_laws.proofs.Bounded.{not_lower}
use Rattle.reading_laws.proofs.Listing.{in_members, listed_are_among}
use Rattle.reading_laws.proofs.Counting.{listed_are_counted}
use Rattle.reading_laws.proofs.Covered.{covered_is_each}
use Rattle.reading_laws.proofs.Sharing.{listed_are_distinct}
use Rattle.reading_laws.proofs.Missing.{domain_is}
use Rattle.reading_laws.proofs.Declared.{AreDeclared, are_declared}
use Rattle.reading_laws.proofs.Lists.{subject_of_list, spot_in, entry_in, OneList, one_list}

-- ---- elements of cells

-- an element of the listing is in some cell
pub in_a_cell : (cells : List Cell) (x : Elem) → Contains (listed cells) x → (c : Cell) × Contains cells c
    × (is_in x c ≡ true)
in_a_cell cells x h = some_item (is_in x) cells (listed_are_among cells x
    ∙ item_some (same_element x) (listed cells) x h (itself x))

-- an element that is among cells is in their listing
pub in_listing : (cells : List Cell) (x : Elem) → is_among cells x ≡ true → Contains (listed cells) x
in_listing cells x h =
    let found = some_item (same_element x) (listed cells) (sym (listed_are_among cells x) ∙ h) in
    subst (λ y. Contains (listed cells) y) (sym (is_same x found.0 found.2)) found.1

-- each element of a covered cell is among the others
covers : (cells : List Cell) (c : Cell) (x : Elem) → is_covered cells c ≡ true → is_in x c ≡ true
    → is_among cells x ≡ true
covers cells c x h k =
    let found = some_item (same_element x) (members c) (sym (in_members x c) ∙ k) in
    let each = item_all (is_among cells) (members c) found.0 (sym (covered_is_each cells c) ∙ h) found.1 in
    ap (is_among cells) (is_same x found.0 found.2) ∙ each

numeric : (c : Cell) (x : Elem) → is_numeric c ≡ true → is_in x c ≡ true → (z : ℤ) × (x ≡ Num z)
numeric (one (Named n)) x h k = absurd (true≢false (sym h))
numeric (one (Num z)) x h k = (z, is_same x (Num z) k)
numeric (span a b) (Named n) h k = absurd (true≢false (sym k))
numeric (span a b) (Num z) h k = (z, refl)

between : (a b z : ℤ) → is_between a b z ≡ true → (a ≤ℤ z) × (z ≤ℤ b)
between a b z h =
    let parts = and_parts (not (int_lt z a)) (not (int_lt b z)) h in
    (not_lower z a parts.0, not_lower b z parts.1)

not_none : (y : ℤ) → pos 0 ≤ℤ y → (one_more y == 0) ≡ true → ⊥
not_none (pos n) h k = let none : suc n ≡ 0 = eqb-true (suc n) 0 k in omega (arith, none)
not_none (negsuc n) h k = omega (arith, ints, h)

-- a range with an integer in it is not empty
not_empty : (a b z : ℤ) → is_between a b z ≡ true → (size_of (as_interval a b) == 0) ≡ true → ⊥
not_empty a b z h k =
    let ends = between a b z h in
    let low = ends.0 in
    let high = ends.1 in
    not_none (b -ℤ a) (omega (arith, ints, low, high)) k

not_negative : (c : Cell) (z : ℤ) → is_not_negative c ≡ true → is_in (Num z) c ≡ true → pos 0 ≤ℤ z
not_negative (one (Named n)) z h k = absurd (true≢false (sym k))
not_negative (one (Num y)) z h k =
    let same : z ≡ y = number_is z y (is_same (Num z) (Num y) k) in
    let low = not_lower y (pos 0) h in
    omega (arith, ints, same, low)
  where
    number_is : (z y : ℤ) → Num z ≡ Num y → z ≡ y
    number_is z y e = cc
not_negative (span a b) z h k = elim (or_cases (size_of (as_interval a b) == 0) (not (int_lt a (pos 0))) h) [
  | inl e ↦ absurd (not_empty a b z k e)
  | inr e ↦
      let ends = between a b z k in
      let above = ends.0 in
      let low = not_lower a (pos 0) e in
      omega (arith, ints, above, low)
]

natural : (z : ℤ) → pos 0 ≤ℤ z → (n : ℕ) × (Num z ≡ Num (pos n))
natural (pos n) h = (n, refl)
natural (negsuc n) h = absurd (omega (arith, ints, h))

least_integer : neg_ℤ (pos 1000000) ≡ negsuc 999999
least_integer = refl

ranged : (z : ℤ) → is_between (negsuc 999999) (pos 1000000) z ≡ true → IsInRange (Num z)
ranged z h =
    let ends = between (negsuc 999999) (pos 1000000) z h in
    (subst (λ (y : ℤ). y ≤ℤ z) (sym least_integer) ends.0, ends.1)

in_range : (c : Cell) (x : Elem) → is_in_range c ≡ true → is_in x c ≡ true → IsInRange x
in_range (one (Named n)) x h k = subst IsInRange (sym (is_same x (Named n) k)) tt
in_range (one (Num y)) x h k = subst IsInRange (sym (is_same x (Num y) k)) (ranged y h)
in_range (span a b) (Named n) h k = tt
in_range (span a b) (Num z) h k = elim (or_cases (size_of (as_interval a b) == 0)
    (is_between (negsuc 999999) (pos 1000000) a && is_between (negsuc 999999) (pos 1000000) b) h) [
      | inl e ↦ absurd (not_empty a b z k e)
      | inr e ↦
          let parts = and_parts (is_between (negsuc 999999) (pos 1000000) a)
          (is_between (negsuc 999999) (pos 1000000) b) e in
          let first = between (negsuc 999999) (pos 1000000) a parts.0 in
          let last = between (negsuc 999999) (pos 1000000) b parts.1 in
          let ends = between a b z k in
          let low = first.0 in
          let high = last.1 in
          let above = ends.0 in
          let below = ends.1 in (
            subst (λ (y : ℤ). y ≤ℤ z) (sym least_integer) (omega (arith, ints, low, above)),
            omega (arith, ints, high, below),
          )
    ]

-- ---- the top of a chain

parent_is : (types : List TypeDecl) (t : ℕ) (d : TypeDecl) → slice_get types t ≡ Some d
    → slice_get (type_parents types) t ≡ Some (type_above d.parent)
parent_is types t d h = slice_get-map (λ (c : TypeDecl). type_above c.parent) types t
    ∙ ap (option_map (λ (c : TypeDecl). type_above c.parent)) h

no_further : (n : ℕ) (parents : List (Option ℕ)) (t : ℕ) → slice_get parents t ≡ Some None → climbed n parents t ≡ t
no_further zero parents t h = refl
no_further (suc n) parents t h = ap (λ o. climbed_on o t (climbed n parents)) h

top_itself : (types : List TypeDecl) (t : ℕ) (d : TypeDecl) → slice_get types t ≡ Some d → type_above d.parent ≡ None
    → top_of types t ≡ t
top_itself types t d h k = no_further (length types) (type_parents types) t (parent_is types t d h
    ∙ ap (λ (o : Option ℕ). Some o) k)

one_step : (n : ℕ) (parents : List (Option ℕ)) (u t : ℕ) → slice_get parents u ≡ Some (Some t) → slice_get parents t
    ≡ Some None → climbed (suc n) parents u ≡ t
one_step n parents u t h k = ap (λ o. climbed_on o u (climbed n parents)) h ∙ no_further n parents t k

given_parent : (o : Option (Option ℕ)) (t : ℕ) → unwrap_or o None ≡ Some t → o ≡ Some (Some t)
given_parent None t h = let n : None ≡ Some t = h in absurd (cc)
given_parent (Some p) t h = ap (λ (o : Option ℕ). Some o) h

top_above : (types : List TypeDecl) (u t : ℕ) (d : TypeDecl) → slice_get types t ≡ Some d → type_above d.parent ≡ None
    → parent_of_type types u ≡ Some t → top_of types u ≡ t
top_above [] u t d h k p = let n : None ≡ Some d = h in absurd (cc)
top_above (c ∷ cs) u t d h k p =
    let types = c ∷ cs in
    one_step (length cs) (type_parents types) u t (given_parent (slice_get (type_parents types) u) t p)
    (parent_is types t d h ∙ ap (λ (o : Option ℕ). Some o) k)

-- ---- where the cells of a type are written

-- a spot that gives the type this cell: in the type's own list, or where what occurs counts
pub record Gives (types : List TypeDecl) (es : List Said) (t : ℕ) (d : TypeDecl) (c : Cell) : Type 0 where
  pub at : Spot
  pub used : Contains (uses_of_entries [] es) (spot at)
  pub cell : at.cell ≡ Some c
  pub way : ((at.ty ≡ t) × (at.in_list ≡ true)) ⊎ ((has_what_occurs es t d ≡ true) × (occurs_at types t at ≡ true))

item_of_type : (t : ℕ) (d : TypeDecl) (is : List raw.RowItem) (s : Spot)
    → Contains (item_spots (a_type t d) (t ∷ []) is) s → (s.ty ≡ t) × (s.in_list ≡ true)
item_of_type t d [] s c = absurd (nowhere s c)
item_of_type t d (i ∷ is) s c = elim (first_or_later _ s (item_spots (a_type t d) [] is) c) [
  | inl e ↦ (sym (ap (λ (x : Spot). x.ty) e), sym (ap (λ (x : Spot). x.in_list) e))
  | inr e ↦ absurd (nowhere s e)
]

spot_of_type : (t : ℕ) (d : TypeDecl) (r : WrittenRow) (s : Spot) → Contains (row_spots (a_type t d) r) s
    → (s.ty ≡ t) × (s.in_list ≡ true)
spot_of_type t d r s c = item_of_type t d r.items s (subst (λ xs. Contains xs s)
    (append-nil (item_spots (a_type t d) (t ∷ []) r.items)) c)

listed_at : (types : List TypeDecl) (es : List Said) (t : ℕ) (d : TypeDecl) (c : Cell) → Contains (listed_cells es t) c
    → Gives types es t d c
listed_at types es t d c h =
    let e = in_some cells_given (filter (is_list_of t) es) c h in
    let own = passed (is_list_of t) es e.0 e.1 in
    let s = of_options (λ (x : Spot). x.cell) (spots_of e.0) c e.2 in
    let x = subject_of_list t e.0 own.1 in
    let r = in_some (row_spots e.0.subject) (fitting e.0) s.0 s.1 in
    record {
      at = s.0;
      used = spot_in [] es e.0 s.0 own.0 s.1;
      cell = s.2;
      way = inl (spot_of_type t x.0 r.0 s.0 (subst (λ y. Contains (row_spots y r.0) s.0) x.1 r.2));
    }

occurs_where : (types : List TypeDecl) (es : List Said) (t : ℕ) (d : TypeDecl) (c : Cell) → has_what_occurs es t d
    ≡ true → Contains (occurring_cells types es t) c → Gives types es t d c
occurs_where types es t d c o h =
    let s = of_options (λ (x : Spot). x.cell) (filter (occurs_at types t) (flat_map spots_of es)) c h in
    let own = passed (occurs_at types t) (flat_map spots_of es) s.0 s.1 in
    let e = in_some spots_of es s.0 own.0 in
    record { at = s.0; used = spot_in [] es e.0 s.0 e.1 e.2; cell = s.2; way = inr (o, own.1) }

chosen : {X : Type 0} (b : Bool) (x y : X) (P : X → Type 0) → P (if b then x else y) → ((b ≡ true) × P x)
    ⊎ ((b ≡ false) × P y)
chosen true x y P h = inl (refl, h)
chosen false x y P h = inr (refl, h)

-- a type that is not constructed has its cells from its list, or from what occurs
cell_given : (types : List TypeDecl) (es : List Said) (t : ℕ) (d : TypeDecl) (c : Cell) → is_constructed d ≡ false
    → Contains (cells_by types es t d) c → Gives types es t d c
cell_given types es t d c n h =
    let has = λ (xs : List Cell). Contains xs c in
    let rest = if has_what_occurs es t d then occurring_cells types es t else [] in
    let more = if is_listed es t then listed_cells es t else rest in
    elim (chosen (is_constructed d) (made_cells d) more has h) [
      | inl e ↦ absurd (true≢false (sym e.0 ∙ n))
      | inr e ↦ elim (chosen (is_listed es t) (listed_cells es t) rest has e.1) [
        | inl f ↦ listed_at types es t d c f.1
        | inr f ↦ elim (chosen (has_what_occurs es t d) (occurring_cells types es t) [] has f.1) [
          | inl g ↦ occurs_where types es t d c g.0 g.1
          | inr g ↦ absurd (nowhere c g.1)
        ]
      ]
    ]

-- ---- what is asked of these cells

-- a type that is not constructed, where a spot gives it a cell
pub record Passes (types : List TypeDecl) (es : List Said) (t : ℕ) (d : TypeDecl) (c : Cell) : Type 0 where
  pub kind : is_of_kind types t c ≡ true
  pub ranged : is_in_range c ≡ true
  pub above : (p : ℕ) → type_above d.parent ≡ Some p → is_covered (cells_of types es p) c ≡ true

not_and : (a b : Bool) → (not a && b) ≡ false → a ≡ false → b ≡ false
not_and true b h e = absurd (true≢false e)
not_and false b h e = h

and_left_true : (a b : Bool) → (a && b) ≡ false → a ≡ true → b ≡ false
and_left_true true b h e = h
and_left_true false b h e = absurd (true≢false (sym e))

not_false : (b : Bool) → not b ≡ false → b ≡ true
not_false true h = refl
not_false false h = absurd (true≢false h)

neither : (a b : Bool) → (a || b) ≡ false → (a ≡ false) × (b ≡ false)
neither true b h = absurd (true≢false h)
neither false b h = (refl, h)

type_test : (test : TypeDecl → Bool) (o : Option TypeDecl) (d : TypeDecl) → o ≡ Some d → type_is test o ≡ test d
type_test test o d h = ap (type_is test) h

-- of a type that stands under no other, the kind of a spot below it is its own
kind_of_top : (types : List TypeDecl) (t u : ℕ) (c : Cell) → top_of types u ≡ top_of types t → is_of_kind types u c
    ≡ true → is_of_kind types t c ≡ true
kind_of_top types t u c h k =
    ap (λ n. (not (is_under_a_number (slice_get types n)) || is_numeric c) &&
    (not (is_under_nat (slice_get types n)) || is_not_negative c)) (sym h) ∙ k

this_type : (t : ℕ) (o : Option ℕ) → is_this t o ≡ true → o ≡ Some t
this_type t None h = absurd (true≢false (sym h))
this_type t (Some u) h = ap (λ (n : ℕ). Some n) (eqb-true u t h)

no_parent : (es : List Said) (t : ℕ) (d : TypeDecl) → has_what_occurs es t d ≡ true → type_above d.parent ≡ None
no_parent es t d h =
    let first = and_parts (not (is_constructed d)) (not (is_listed es t) && is_none (type_above d.parent)) h in
    let second = and_parts (not (is_listed es t)) (is_none (type_above d.parent)) first.1 in
    none_is (type_above d.parent) second.1
  where
    none_is : (o : Option ℕ) → is_none o ≡ true → o ≡ None
    none_is None e = refl
    none_is (Some x) e = absurd (true≢false (sym e))

module _ (types : List TypeDecl) (es : List Said) (alone : (t : ℕ) (d : TypeDecl) → slice_get types t ≡ Some d
    → is_constructed d ≡ true → d.parent ≡ parent.Root) (all : AreFine types es (uses_of_entries [] es)) where
  -- a spot that gives elements to a type that is not constructed
  at_spot : (s : Spot) (c : Cell) → Contains (uses_of_entries [] es) (spot s) → s.cell ≡ Some c
      → is_idle types s ≡ false → gives types es s ≡ true
      → (is_of_kind types s.ty c ≡ true) × (is_in_range c ≡ true) × (s.in_list ≡ true
      → is_in_type_above types es (parent_of_type types s.ty) c ≡ true)
  at_spot s c u e i g =
      let no = all (spot s) u k.NotAnElement no_element in
      let out = all (spot s) u k.OutOfRange out_of_range in
      let is_out = not_and (is_idle types s) (cell_is (is_outside types es s) s.cell) no i in
      let is_outside_c : is_outside types es s c ≡ false = sym (ap (cell_is (is_outside types es s)) e) ∙ is_out in
      let by_gift = ap (λ b. if b then (not (is_of_kind types s.ty c) ||
      (s.in_list && not (is_in_type_above types es (parent_of_type types s.ty) c))) else
      not (is_covered (cells_of types es s.ty) c)) (sym g) ∙ is_outside_c in
      let parts = neither (not (is_of_kind types s.ty c)) (s.in_list && not
      (is_in_type_above types es (parent_of_type types s.ty) c)) by_gift in
      let rest = and_left_true (gives types es s) (cell_is (λ x. not (is_in_range x)) s.cell)
      (not_and (is_idle types s) (gives types es s && cell_is (λ x. not (is_in_range x)) s.cell) out i) g in (
        not_false (is_of_kind types s.ty c) parts.0,
        not_false (is_in_range c) (sym (ap (cell_is (λ x. not (is_in_range x))) e) ∙ rest),
        λ l. not_false (is_in_type_above types es (parent_of_type types s.ty) c)
            (and_left_true s.in_list (not (is_in_type_above types es (parent_of_type types s.ty) c)) parts.1 l),
      )

  -- a type under another one is not constructed
  not_made : (u t : ℕ) → parent_of_type types u ≡ Some t → type_is is_constructed (slice_get types u) ≡ false
  not_made u t h = by (slice_get types u) refl
    where
      under : (e : TypeDecl) → slice_get types u ≡ Some e → type_above e.parent ≡ Some t
      under e f =
          let both : Some (type_above e.parent) ≡ Some (Some t) = sym (parent_is types u e f)
          ∙ given_parent (slice_get (type_parents types) u) t h in
          cc

      by : (o : Option TypeDecl) → slice_get types u ≡ o → type_is is_constructed o ≡ false
      by None f = refl
      by (Some e) f = false_from_ne_true (is_constructed e) (λ m. let root = ap type_above (alone u e f m) in
          let n : None ≡ Some t = sym root ∙ under e f in absurd (cc))

  own_list : (t : ℕ) (d : TypeDecl) (c : Cell) → slice_get types t ≡ Some d → is_constructed d ≡ false → (s : Spot)
      → Contains (uses_of_entries [] es) (spot s) → s.cell ≡ Some c → s.ty ≡ t → s.in_list ≡ true
      → Passes types es t d c
  own_list t d c h n s u e ty l =
      let here_d : slice_get types s.ty ≡ Some d = ap (slice_get types) ty ∙ h in
      let idle : is_idle types s ≡ false = ap (λ b. b && type_is is_constructed (slice_get types s.ty)) l
      ∙ type_test is_constructed (slice_get types s.ty) d here_d ∙ n in
      let gift : gives types es s ≡ true = ap (λ b. b || type_is (has_what_occurs es s.ty) (slice_get types s.ty)) l in
      let three = at_spot s c u e idle gift in
      record {
        kind = subst (λ (x : ℕ). is_of_kind types x c ≡ true) ty three.0;
        ranged = three.1;
        above = λ p q. ap (λ o. is_in_type_above types es o c) (sym (above_is p q))
            ∙ ap (λ (x : ℕ). is_in_type_above types es (parent_of_type types x) c) (sym ty) ∙ three.2 l;
      }
    where
      above_is : (p : ℕ) → type_above d.parent ≡ Some p → parent_of_type types t ≡ Some p
      above_is p q = ap (λ (o : Option (Option ℕ)). unwrap_or o None) (parent_is types t d h) ∙ q

  other_way : (t : ℕ) (d : TypeDecl) (c : Cell) → slice_get types t ≡ Some d → is_constructed d ≡ false → (s : Spot)
      → Contains (uses_of_entries [] es) (spot s) → s.cell ≡ Some c → has_what_occurs es t d ≡ true
      → occurs_at types t s ≡ true → Passes types es t d c
  other_way t d c h n s u e o at_t = by s.in_list refl
    where
      root : type_above d.parent ≡ None
      root = no_parent es t d o

      nothing_above : (p : ℕ) → type_above d.parent ≡ Some p → is_covered (cells_of types es p) c ≡ true
      nothing_above p q = let n : None ≡ Some p = sym root ∙ q in absurd (cc)

      by : (b : Bool) → s.in_list ≡ b → Passes types es t d c
      by true l =
          let under : parent_of_type types s.ty ≡ Some t = this_type t (parent_of_type types s.ty)
          (ap (λ b. is_this t (if b then parent_of_type types s.ty else Some s.ty)) (sym l) ∙ at_t) in
          let idle : is_idle types s ≡ false = ap (λ b. b && type_is is_constructed (slice_get types s.ty)) l
          ∙ not_made s.ty t under in
          let gift : gives types es s ≡ true = ap (λ b. b || type_is (has_what_occurs es s.ty)
          (slice_get types s.ty)) l in
          let three = at_spot s c u e idle gift in
          let top = top_above types s.ty t d h root under ∙ sym (top_itself types t d h root) in
          record { kind = kind_of_top types t s.ty c top three.0; ranged = three.1; above = nothing_above }
      by false l =
          let same : Some s.ty ≡ Some t = this_type t (Some s.ty)
          (ap (λ b. is_this t (if b then parent_of_type types s.ty else Some s.ty)) (sym l) ∙ at_t) in
          let ty : s.ty ≡ t = cc in
          let here_d : slice_get types s.ty ≡ Some d = ap (slice_get types) ty ∙ h in
          let idle : is_idle types s ≡ false = ap (λ b. b && type_is is_constructed (slice_get types s.ty)) l in
          let gift : gives types es s ≡ true =
          ap (λ b. b || type_is (has_what_occurs es s.ty) (slice_get types s.ty)) l
          ∙ type_test (has_what_occurs es s.ty) (slice_get types s.ty) d here_d
          ∙ ap (λ (x : ℕ). has_what_occurs es x d) ty
          ∙ o in
          let three = at_spot s c u e idle gift in
          record {
            kind = subst (λ (x : ℕ). is_of_kind types x c ≡ true) ty three.0;
            ranged = three.1;
            above =
                nothing_above;
          }

  passes : (t : ℕ) (d : TypeDecl) (c : Cell) → slice_get types t ≡ Some d → is_constructed d ≡ false
      → Gives types es t d c → Passes types es t d c
  passes t d c h n g = elim g.way [
    | inl w ↦ own_list t d c h n g.at g.used g.cell w.0 w.1
    | inr w ↦ other_way t d c h n g.at g.used g.cell w.0 w.1
  ]

-- ---- what an element's type asks of it

abbrev IsAsked : List TypeDecl → List (List Elem) → TypeDecl → Elem → Type 0
IsAsked types domains d x = IsUnder domains d.parent x × IsInRange x

number_kind : (types : List TypeDecl) (t : ℕ) (c : Cell) → is_number_type types t ≡ true → is_of_kind types t c ≡ true
    → is_numeric c ≡ true
number_kind types t c n h =
    let first = and_parts (not (is_number_type types t) || is_numeric c)
    (not (is_natural_type types t) || is_not_negative c) h in
    ap (λ b. not b || is_numeric c) (sym n) ∙ first.0

natural_kind : (types : List TypeDecl) (t : ℕ) (c : Cell) → is_natural_type types t ≡ true → is_of_kind types t c ≡ true
    → is_not_negative c ≡ true
natural_kind types t c n h =
    let first = and_parts (not (is_number_type types t) || is_numeric c)
    (not (is_natural_type types t) || is_not_negative c) h in
    ap (λ b. not b || is_not_negative c) (sym n) ∙ first.1

under_parent : (types : List TypeDecl) (es : List Said) (t : ℕ) (d : TypeDecl) (c : Cell) (x : Elem)
    → slice_get types t ≡ Some d → Passes types es t d c → is_in x c ≡ true
    → (p : Parent) → d.parent ≡ p → IsUnder (domains_of types es) p x
under_parent types es t d c x h passes k parent.Root e = tt
under_parent types es t d c x h passes k parent.Int e =
    let top : slice_get types (top_of types t) ≡ Some d = ap (slice_get types)
    (top_itself types t d h (ap type_above e)) ∙ h in
    let number : is_number_type types t ≡ true = ap is_under_a_number top ∙ ap is_number_parent e in
    numeric c x (number_kind types t c number passes.kind) k
under_parent types es t d c x h passes k parent.Nat e =
    let top : slice_get types (top_of types t) ≡ Some d = ap (slice_get types)
    (top_itself types t d h (ap type_above e)) ∙ h in
    let number : is_number_type types t ≡ true = ap is_under_a_number top ∙ ap is_number_parent e in
    let below : is_natural_type types t ≡ true = ap is_under_nat top ∙ ap is_nat e in
    let z = numeric c x (number_kind types t c number passes.kind) k in
    let low = not_negative c z.0 (natural_kind types t c below passes.kind) (subst (λ y. is_in y c ≡ true) z.1 k) in
    let n = natural z.0 low in
    (n.0, z.1 ∙ n.1)
under_parent types es t d c x h passes k (parent.Of p) e =
    let covered = passes.above p (ap type_above e) in
    subst (λ xs. Contains xs x) (sym (domain_is types es p)) (in_listing (cells_of types es p) x
    (covers (cells_of types es p) c x covered k))

-- ---- lists

all_of : {X : Type 0} (P : X → Type 0) (xs : List X) → ((x : X) → Contains xs x → P x) → AllByRecursion P xs
all_of P [] h = tt
all_of P (x ∷ xs) h = (h x (here x xs), all_of P xs (λ y c. h y (there x y xs c)))

each_with : (R : TypeDecl → List Elem → Type 0) (F : ℕ × TypeDecl → List Elem) (i : ℕ) (types : List TypeDecl)
    → ((t : ℕ) (d : TypeDecl) → slice_get types t ≡ Some d → R d (F (i + t, d)))
    → EachWith R types (map F (enumerate_from i types))
each_with R F i [] h = tt
each_with R F i (d ∷ ds) h =
    let first : i + 0 ≡ i = omega arith in (
      subst (λ n. R d (F (n, d))) first (h 0 d refl),
      each_with R F (i + 1) ds (λ t e q. let next : i + suc t
          ≡ (i + 1) + t = omega arith in subst (λ n. R e (F (n, e))) next (h (suc t) e q)),
    )

-- ---- a constructed type

made_members : (ns : List (List ℕ)) → flat_map members (map (λ n. one (Named n)) ns) ≡ map Named ns
made_members [] = refl
made_members (n ∷ ns) = ap (λ xs. Named n ∷ xs) (made_members ns)

made_listing : (d : TypeDecl) → fold with_element [] (map Named d.made) ≡ map Named d.made → listed (made_cells d)
    ≡ map Named d.made
made_listing d once = ap (fold with_element []) (made_members d.made) ∙ once

made_range : (ns : List (List ℕ)) → AllByRecursion IsInRange (map Named ns)
made_range [] = tt
made_range (n ∷ ns) = (tt, made_range ns)

made_under : (domains : List (List Elem)) (xs : List Elem) → AllByRecursion (IsUnder domains parent.Root) xs
made_under domains [] = tt
made_under domains (x ∷ xs) = (tt, made_under domains xs)

at_most : (n : ℕ) → nat_lt 65536 n ≡ false → n ≤ 65536
at_most n h = grind (arith, nat_tests, h)

-- ---- how many elements

one_cells : (es : List Said) (t : ℕ) (e : Said) → filter (is_list_of t) es ≡ e ∷ [] → listed_cells es t ≡ cells_given e
one_cells es t e h = ap (flat_map cells_given) h ∙ append-nil (cells_given e)

few_listed : (types : List TypeDecl) (es : List Said) (t : ℕ) → AreFine types es (uses_of_entries [] es) → OneList t es
    → count_of (listed_cells es t) ≤ 65536
few_listed types es t all h = elim h [
  | inl none ↦ let same : count_of (listed_cells es t) ≡ 0 = ap (λ xs. count_of (flat_map cells_given xs)) none in
      omega (arith, same)
  | inr e ↦
      let u = entry_in [] es e.0 e.1 in
      let x = subject_of_list t e.0 e.2 in
      let kept = all _ u.1 k.TooLarge too_large in
      let few : nat_lt 65536 (count_of (cells_given e.0)) ≡ false = and_left_true (is_a_type e.0.subject)
      (nat_lt 65536 (count_of (cells_given e.0))) kept (ap is_a_type x.1) in
      subst (λ (n : ℕ). n ≤ 65536) (sym (ap count_of (one_cells es t e.0 e.3)))
      (at_most (count_of (cells_given e.0)) few)
]

-- a type has its use
type_used : (i t : ℕ) (types : List TypeDecl) (places : List ℕ) (d : TypeDecl) → length places ≡ length types
    → slice_get types t ≡ Some d → (p : ℕ) × Contains (map type_use (zip (enumerate_from i types) places))
    (declared (i + t) d p)
type_used i t [] places d e h = let n : None ≡ Some d = h in absurd (cc)
type_used i t (c ∷ cs) [] d e h = absurd (omega (arith, e))
type_used i zero (c ∷ cs) (p ∷ ps) d e h =
    let first : i + 0 ≡ i = omega arith in
    let same : c ≡ d = cc in (
      p,
      subst (λ x. Contains (map type_use (zip (enumerate_from i (c ∷ cs)) (p ∷ ps))) (declared (i + 0) x p)) same
          (subst (λ n. Contains (map type_use (zip (enumerate_from i (c ∷ cs)) (p ∷ ps))) (declared n c p)) (sym first)
          (here (declared i c p) (map type_use (zip (enumerate_from (i + 1) cs) ps)))),
    )
type_used i (suc t) (c ∷ cs) (p ∷ ps) d e h =
    let next : (i + 1) + t ≡ i + suc t = omega arith in
    let fewer : length ps ≡ length cs = omega (arith, e) in
    let rest = type_used (i + 1) t cs ps d fewer h in (
      rest.0,
      subst (λ n. Contains (map type_use (zip (enumerate_from i (c ∷ cs)) (p ∷ ps))) (declared n d rest.0)) next
          (there (declared i c p) (declared ((i + 1) + t) d rest.0)
          (map type_use (zip (enumerate_from (i + 1) cs) ps)) rest.1),
    )

few_occur : (types : List TypeDecl) (es : List Said) (places : List ℕ) (t : ℕ) (d : TypeDecl)
    → AreFine types es (uses_of_types types places) → length places ≡ length types → slice_get types t ≡ Some d
    → has_what_occurs es t d ≡ true
    → count_of (occurring_cells types es t) ≤ 65536
few_occur types es places t d all e h o =
    let used = type_used 0 t types places d e h in
    let same : 0 + t ≡ t = omega arith in
    let kept = all (declared t d used.0) (subst (λ n. Contains (uses_of_types types places) (declared n d used.0)) same
    used.1) k.TooLarge too_large in
    at_most (count_of (occurring_cells types es t)) (and_left_true (has_what_occurs es t d)
    (nat_lt 65536 (count_of (occurring_cells types es t))) kept o)

-- ---- all domains

entries_fine : (types : List TypeDecl) (places : List ℕ) (es : List Said)
    → AreFine types es (structure_uses types places es) → AreFine types es (uses_of_entries [] es)
entries_fine types places es all u c =
    all u (Contains-append_right (uses_of_types types places) (uses_of_entries [] es ++ uses_of_facts []
    (facts_in es)) u
    (Contains-append_left (uses_of_entries [] es) (uses_of_facts [] (facts_in es)) u c))

module _ (types : List TypeDecl) (places : List ℕ) (es : List Said) (sound : AreDeclared types places) (lists : (t : ℕ)
    → OneList t es) (all : AreFine types es (structure_uses types places es)) where
  of_types : AreFine types es (uses_of_types types places)
  of_types u c = all u (Contains-append_left (uses_of_types types places) (uses_of_entries [] es ++ uses_of_facts []
      (facts_in es)) u c)

  of_entries : AreFine types es (uses_of_entries [] es)
  of_entries = entries_fine types places es all

  -- a constructed type
  made_domain : (t : ℕ) (d : TypeDecl) → slice_get types t ≡ Some d → is_constructed d ≡ true
      → IsDomainOf (domains_of types es) d (listed (cells_by types es t d))
  made_domain t d h m =
      let cells : cells_by types es t d ≡ made_cells d = ap (λ b. if b then made_cells d else
      (if is_listed es t then listed_cells es t else (if has_what_occurs es t d then
      occurring_cells types es t else []))) m in
      let names : listed (cells_by types es t d) ≡ map Named d.made = ap listed cells
      ∙ made_listing d (sound.once t d h) in
      record {
        distinct = listed_are_distinct (cells_by types es t d);
        names = λ n. names;
        parent = subst (λ p. AllByRecursion (IsUnder (domains_of types es) p) (listed (cells_by types es t d)))
            (sym (sound.alone t d h m)) (made_under (domains_of types es) (listed (cells_by types es t d)));
        range = subst (λ xs. AllByRecursion IsInRange xs) (sym names) (made_range d.made);
        few = subst (λ xs. length xs ≤ 65536) (sym names) (subst (λ (n : ℕ). n ≤ 65536) (sym (length-map d.made Named))
            (at_most (length d.made) (sound.few t d h)));
      }

  -- how many elements a type has that is not constructed
  few_cells : (t : ℕ) (d : TypeDecl) → slice_get types t ≡ Some d → is_constructed d ≡ false
      → count_of (cells_by types es t d) ≤ 65536
  few_cells t d h n =
      let rest = if has_what_occurs es t d then occurring_cells types es t else [] in
      subst (λ xs. count_of xs ≤ 65536) (sym (ap (λ b. if b then made_cells d else
      (if is_listed es t then listed_cells es t else rest)) n)) (by_list (is_listed es t))
    where
      by_occurring : (o : Bool) → has_what_occurs es t d ≡ o → count_of (if o then occurring_cells types es t else [])
          ≤ 65536
      by_occurring true e = few_occur types es places t d of_types sound.located h e
      by_occurring false e = omega arith

      by_list : (l : Bool) → count_of (if l then listed_cells es t else
          (if has_what_occurs es t d then occurring_cells types es t else [])) ≤ 65536
      by_list true = few_listed types es t of_entries (lists t)
      by_list false = by_occurring (has_what_occurs es t d) refl

  -- what is asked of an element of a type that is not constructed
  element : (t : ℕ) (d : TypeDecl) → slice_get types t ≡ Some d → is_constructed d ≡ false → (x : Elem)
      → Contains (listed (cells_by types es t d)) x → IsAsked types (domains_of types es) d x
  element t d h n x c =
      let cell = in_a_cell (cells_by types es t d) x c in
      let passed = passes types es sound.alone of_entries t d cell.0 h n (cell_given types es t d cell.0 n cell.1) in
      (under_parent types es t d cell.0 x h passed cell.2 d.parent refl, in_range cell.0 x passed.ranged cell.2)

  other_domain : (t : ℕ) (d : TypeDecl) → slice_get types t ≡ Some d → is_constructed d ≡ false
      → IsDomainOf (domains_of types es) d (listed (cells_by types es t d))
  other_domain t d h n = record {
    distinct = listed_are_distinct (cells_by types es t d);
    names = λ m. absurd (m (none_made d.made n));
    parent = all_of (IsUnder (domains_of types es) d.parent) (listed (cells_by types es t d))
        (λ x c. (element t d h n x c).0);
    range = all_of IsInRange (listed (cells_by types es t d)) (λ x c. (element t d h n x c).1);
    few = subst (λ (m : ℕ). m ≤ 65536) (listed_are_counted (cells_by types es t d)) (few_cells t d h n);
  }
    where
      none_made : (ns : List (List ℕ)) → nat_lt 0 (length ns) ≡ false → ns ≡ []
      none_made [] e = refl
      none_made (m ∷ ms) e = absurd (grind (arith, nat_tests, e))

  domain : (t : ℕ) (d : TypeDecl) → slice_get types t ≡ Some d → IsDomainOf (domains_of types es) d
      (listed (cells_by types es t d))
  domain t d h = elim (cases_Bool (is_constructed d)) [
    | inl m ↦ made_domain t d h m
    | inr n ↦ other_domain t d h n
  ]

  are_domains : EachWith (IsDomainOf (domains_of types es)) types (domains_of types es)
  are_domains =
      each_with (IsDomainOf (domains_of types es)) (λ u. listed (cells_by types es u.0 u.1)) 0 types
      (λ t d h. let same : t ≡ 0 + t = omega arith in subst (λ n. IsDomainOf (domains_of types es) d
      (listed (cells_by types es n d))) same (domain t d h))

-- ---- a file

given_domains : (n : NamedFile) (theory : ℕ) (s : raw.Structure) (answer : KnownAtoms)
    → AreDeclared n.vocabulary.types n.type_places → IsDataOf (typed_file n) theory s answer
    → AreDomainsOf n.vocabulary answer.domains
given_domains n theory s answer sound data_of =
    let v = n.vocabulary in
    let es = said_in v s in
    let own = structure_uses v.types n.type_places es in
    let all : AreFine v.types es own = fine v.types es own (λ q h. data_of.accepted q
    (from_first _ _ _ own (argument_uses (typed_file n) theory) q h)) in
    let lists = one_list v es (entries_in s) (entries_fine v.types n.type_places es all) in
    subst (λ (k : KnownAtoms). AreDomainsOf v k.domains) (sym data_of.given)
    (are_domains v.types n.type_places es sound lists all)

pub accepted_have_domains : AcceptedHaveDomains
accepted_have_domains file n typed named_of typed_of theory s answer data_of =
    let ds = declarations_of file.vocabularies in
    let tree = named_file (vocabulary_name file.vocabularies) ds file.theories file.terms in
    let sound = subst (λ (m : NamedFile). AreDeclared m.vocabulary.types m.type_places) (sym named_of.tree)
    (are_declared file named_of.accepted) in
    subst (λ (g : TypedFile). AreDomainsOf g.vocabulary answer.domains) (sym typed_of.tree)
    (given_domains n theory s answer sound (subst (λ g. IsDataOf g theory s answer) typed_of.tree data_of))
