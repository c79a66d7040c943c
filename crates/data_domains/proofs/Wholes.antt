-- What all entries give a type.
use Rattle.std.proofs.Common.{◌≡◌, ◌<◌, ◌≤◌, ◌+◌, ◌==◌, ℕ, Bool, true, false, not, ◌&&◌, ◌||◌, List, [], ◌∷◌, ◌++◌}
use Rattle.std.proofs.Common.{Some, length, map, filter, slice_get, if◌then◌else◌, refl, sym, ap, ◌∙◌, subst}
use Rattle.std.proofs.Common.{arith}
use Rattle.std.specs.Prelude.{slice_set, is_none}
use Rattle.std.specs.List.{filter_map, flat_map, list_any}
use Rattle.std.proofs.lemmas.Bool.{eqb-false, eqb-true, true≢false}
use Rattle.std.proofs.lemmas.List.{append-nil}
use Rattle.std.proofs.lemmas.Option.{slice_get_within}
use Rattle.std.proofs.lemmas.List.Elements.{filter_map-append, filter-append}
use Rattle.kb_logic.specs.declared.vocabularies.TypeDecl.{TypeDecl}
use Rattle.stage_definitions.specs.Below.{type_above}
use Rattle.stage_definitions.specs.Elements.{Cell, listed}
use Rattle.stage_definitions.specs.DataEntries.{Said, Spot, spots_of}
use Rattle.stage_definitions.specs.DataDomains.{cells_by, cells_given, is_constructed, is_list_of, is_listed}
use Rattle.stage_definitions.specs.DataDomains.{listed_cells, made_cells, occurring_cells, occurs_at}
use Rattle.structure_entries.specs.EntryViews.{cell_view}
use Rattle.data_domains.specs.Runs.{is_hollow}
use Rattle.data_domains.specs.Sets.{runs_in, IsGathered, IsSetOf}
use Rattle.data_domains.specs.Shares.{share, IsDeclaredSo, IsGiven, IsSettled, StandsFor, Takes}
use Rattle.data_domains.specs.Traits.{AreTraitsOf}
use Rattle.data_domains.specs.TypeSets.{AreTypesOf}
use Rattle.data_domains.specs.declared.traits.Traits.{Traits}
use Rattle.data_domains.specs.declared.types.TypeData.{TypeData}
use Rattle.data_domains.proofs.Filled.{changed_at, unchanged_at}
use Rattle.data_domains.proofs.Looked.{some_beside}

-- the share of an entry, by what is known of the type: whether it is constructed, whether it has what occurs, and
-- whether the entry is a list of it
abbrev share_by : List TypeDecl → ℕ → Bool → Bool → Bool → Said → List Cell
share_by types t constructed occurs list e = (if not constructed && list then cells_given e else [])
    ++ filter_map (λ (s : Spot). s.cell) (filter (λ s. occurs && occurs_at types t s) (spots_of e))

none_taken : (ss : List Spot) → filter_map (λ (s : Spot). s.cell) (filter (λ (s : Spot). false) ss) ≡ []
none_taken [] = refl
none_taken (s ∷ ss) = none_taken ss

-- a constructed type is given nothing
nothing_shared : (types : List TypeDecl) (t : ℕ) (es : List Said)
    → flat_map (λ e. share_by types t true false (is_list_of t e) e) es ≡ []
nothing_shared types t [] = refl
nothing_shared types t (e ∷ es) = ap (λ cs. cs ++ flat_map (λ e. share_by types t true false (is_list_of t e) e) es)
    (none_taken (spots_of e)) ∙ nothing_shared types t es

list_or_not : (types : List TypeDecl) (t : ℕ) (b : Bool) (e : Said) (rest : List Said) (whole : List Cell)
    → whole ≡ flat_map cells_given rest
    → share_by types t false false b e ++ whole ≡ flat_map cells_given (if b then e ∷ rest else rest)
list_or_not types t true e rest whole h =
    ap (λ cs. (cells_given e ++ cs) ++ whole) (none_taken (spots_of e)) ∙ ap (λ cs. cs ++ whole)
    (append-nil (cells_given e)) ∙ ap (λ cs. cells_given e ++ cs) h
list_or_not types t false e rest whole h = ap (λ cs. cs ++ whole) (none_taken (spots_of e)) ∙ h

-- a type that has lists is given what stands there
lists_shared : (types : List TypeDecl) (t : ℕ) (es : List Said)
    → flat_map (λ e. share_by types t false false (is_list_of t e) e) es ≡ listed_cells es t
lists_shared types t [] = refl
lists_shared types t (e ∷ es) = list_or_not types t (is_list_of t e) e (filter (is_list_of t) es) _
    (lists_shared types t es)

-- a type that has no list is given what occurs, or nothing
no_list_shared : (types : List TypeDecl) (t : ℕ) (e : Said) (b : Bool) → b ≡ false
    → share_by types t false true b e ≡ filter_map (λ (s : Spot). s.cell) (filter (occurs_at types t) (spots_of e))
no_list_shared types t e false h = refl
no_list_shared types t e true h = absurd (true≢false h)

neither : (a b : Bool) → (a || b) ≡ false → (a ≡ false) × (b ≡ false)
neither true b h = absurd (true≢false h)
neither false b h = (refl, h)

occurrences_shared : (types : List TypeDecl) (t : ℕ) (es : List Said) → is_listed es t ≡ false
    → flat_map (λ e. share_by types t false true (is_list_of t e) e) es ≡ occurring_cells types es t
occurrences_shared types t [] h = refl
occurrences_shared types t (e ∷ es) h =
    let parts = neither (is_list_of t e) (is_listed es t) h in
    let p = occurs_at types t in
    ap (λ cs. cs ++ flat_map (λ e. share_by types t false true (is_list_of t e) e) es)
    (no_list_shared types t e (is_list_of t e) parts.0)
    ∙ ap (λ cs. filter_map (λ (s : Spot). s.cell) (filter p (spots_of e)) ++ cs) (occurrences_shared types t es parts.1)
    ∙ sym (ap (filter_map (λ (s : Spot). s.cell)) (filter-append p (spots_of e) (flat_map spots_of es))
    ∙ filter_map-append (λ (s : Spot). s.cell) (filter p (spots_of e)) (filter p (flat_map spots_of es)))

no_listed_cells : (t : ℕ) (es : List Said) → is_listed es t ≡ false → listed_cells es t ≡ []
no_listed_cells t [] h = refl
no_listed_cells t (e ∷ es) h =
    let parts = neither (is_list_of t e) (is_listed es t) h in
    ap (λ b. flat_map cells_given (if b then e ∷ filter (is_list_of t) es else filter (is_list_of t) es)) parts.0
    ∙ no_listed_cells t es parts.1

-- the elements of a type are those that are declared with it, and those that the entries give it
all_shared : (types : List TypeDecl) (es : List Said) (t : ℕ) (d : TypeDecl) (c l n : Bool)
    → is_listed es t ≡ l
    → (if c then made_cells d else [])
    ++ flat_map (λ e. share_by types t c (not c && (not l && n)) (is_list_of t e) e) es
    ≡ (if c then made_cells d else (if l then listed_cells es t
    else (if not c && (not l && n) then occurring_cells types es t else [])))
all_shared types es t d true l n h = ap (λ cs. made_cells d ++ cs) (nothing_shared types t es)
    ∙ append-nil (made_cells d)
all_shared types es t d false true n h = lists_shared types t es
all_shared types es t d false false true h = occurrences_shared types t es h
all_shared types es t d false false false h = lists_shared types t es ∙ no_listed_cells t es h

pub made_stand : (b : Bool) (x y : TypeData) (d : TypeDecl) → b ≡ true → StandsFor [] x → Takes x y (made_cells d)
    → StandsFor (if b then made_cells d else []) y
made_stand true x y d e h taken = taken.stands [] h
made_stand false x y d e h taken = absurd (true≢false (sym e))

pub none_stand : (b : Bool) (x : TypeData) (d : TypeDecl) → b ≡ false → StandsFor [] x
    → StandsFor (if b then made_cells d else []) x
none_stand true x d e h = absurd (true≢false e)
none_stand false x d e h = h

-- of each type there is what was declared with it
given_first : (xs : List TypeData) (t : ℕ) (y : TypeData) (cs : List Cell) → slice_get xs t ≡ Some y → StandsFor cs y
    → IsGiven xs t y.traits cs
given_first xs t y cs there stands = record { known = y; there = there; traits = refl; stands = stands }

by_traits : (types : List TypeDecl) (es : List Said) (t : ℕ) (d : TypeDecl) (x : Traits) → AreTraitsOf types es t d x
    → (if x.constructed then made_cells d else []) ++ flat_map (share types t x) es ≡ cells_by types es t d
by_traits types es t d x h =
    ap (λ b. (if b then made_cells d else [])
    ++ flat_map (λ e. share_by types t b x.occurs (is_list_of t e) e) es) h.constructed
    ∙ ap (λ b. (if is_constructed d then made_cells d else [])
    ++ flat_map (λ e. share_by types t (is_constructed d) b (is_list_of t e) e) es) h.occurs
    ∙ all_shared types es t d (is_constructed d) (is_listed es t) (is_none (type_above d.parent)) refl

-- what is there at the end, by what was there at the beginning
pub all_given : (types : List TypeDecl) (es : List Said) (first mid last : List TypeData)
    → length first ≡ length types → length mid ≡ length first → length last ≡ length mid
    → ((t : ℕ) (d : TypeDecl) (x : TypeData) → slice_get types t ≡ Some d → slice_get first t ≡ Some x
    → IsDeclaredSo types es t d x)
    → ((t : ℕ) (x : Traits) (cs : List Cell) → IsGiven first t x cs
    → IsGiven mid t x (cs ++ flat_map (share types t x) es))
    → ((t : ℕ) (x : Traits) (cs : List Cell) → IsGiven mid t x cs → IsSettled last t x cs)
    → AreTypesOf types es last
all_given types es first mid last count same kept declared filled settled = record {
  count = kept ∙ same ∙ count;
  traits = λ t d x p q. (at t d x p q).0;
  cells = λ t d x p q. (at t d x p q).1;
  elements = λ t d x p q. (at t d x p q).2;
}
  where
    at : (t : ℕ) (d : TypeDecl) (x : TypeData) → slice_get types t ≡ Some d → slice_get last t ≡ Some x
        → AreTraitsOf types es t d x.traits × (listed (map cell_view x.cells.items) ≡ listed (cells_by types es t d))
        × IsSetOf (cells_by types es t d) x.elements
    at t d x p q =
        let y = some_beside last first t x (kept ∙ same) q in
        let own = declared t d y.0 p y.1 in
        let start : List Cell = if y.0.traits.constructed then made_cells d else [] in
        let whole : List Cell = start ++ flat_map (share types t y.0.traits) es in
        let all = settled t y.0.traits whole (filled t y.0.traits start (given_first first t y.0 start y.1 own.stands)) in
        let both : Some all.known ≡ Some x = sym all.there ∙ q in
        let is : all.known ≡ x = cc in
        let cells = by_traits types es t d y.0.traits own.traits in
        let elements : IsSetOf whole x.elements = subst (λ (k : TypeData). IsSetOf whole k.elements) is all.elements in (
          subst (AreTraitsOf types es t d) (sym all.traits ∙ ap (λ (k : TypeData). k.traits) is) own.traits,
          ap (λ (k : TypeData). listed (map cell_view k.cells.items)) (sym is) ∙ all.cells ∙ ap listed cells,
          subst (λ cs. IsSetOf cs x.elements) cells elements,
        )

-- the sets were gathered, so that they can be settled
pub all_full : (types : List TypeDecl) (es : List Said) (first mid : List TypeData)
    → length first ≡ length types → length mid ≡ length first
    → ((t : ℕ) (d : TypeDecl) (x : TypeData) → slice_get types t ≡ Some d → slice_get first t ≡ Some x
    → IsDeclaredSo types es t d x)
    → ((t : ℕ) (x : Traits) (cs : List Cell) → IsGiven first t x cs
    → IsGiven mid t x (cs ++ flat_map (share types t x) es))
    → (t : ℕ) (x : TypeData) → slice_get mid t ≡ Some x → list_any is_hollow (runs_in x.elements) ≡ false
all_full types es first mid count same declared filled t x q =
    let y = some_beside mid first t x same q in
    let d = some_beside first types t y.0 count y.1 in
    let own = declared t d.0 y.0 d.1 y.1 in
    let start : List Cell = if y.0.traits.constructed then made_cells d.0 else [] in
    let all = filled t y.0.traits start (given_first first t y.0 start y.1 own.stands) in
    let both : Some all.known ≡ Some x = sym all.there ∙ q in
    let is : all.known ≡ x = cc in
    ap (λ (k : TypeData). list_any is_hollow (runs_in k.elements)) (sym is) ∙ all.stands.gathered.full

-- ---- the sets, one after another

-- the types from this one on are as they were, and those before it are settled
pub record IsSettledBelow (old new : List TypeData) (i : ℕ) : Type 0 where
  pub rest : (t : ℕ) → i ≤ t → slice_get new t ≡ slice_get old t
  pub done : (t : ℕ) (x : Traits) (cs : List Cell) → t < i → IsGiven old t x cs → IsSettled new t x cs

pub nothing_settled : (xs : List TypeData) → IsSettledBelow xs xs 0
nothing_settled xs = record { rest = λ t le. refl; done = λ t x cs lt h. absurd (omega (arith, lt)) }

not_this : (i t : ℕ) → i + 1 ≤ t → (i == t) ≡ false
not_this i t le = by (i == t) refl
  where
    by : (b : Bool) → (i == t) ≡ b → b ≡ false
    by false e = refl
    by true e = let at : i ≡ t = eqb-true i t e in absurd (omega (arith, le, at))

below : (t i : ℕ) → t < i + 1 → (t ≡ i → ⊥) → t < i
below t i lt apart = omega (arith, lt, apart)

-- one set more
pub one_settled : (old xs : List TypeData) (i : ℕ) (y z : TypeData) → slice_get xs i ≡ Some z → y.traits ≡ z.traits
    → y.cells ≡ z.cells → ((cs : List Cell) → IsGathered cs z.elements → IsSetOf cs y.elements)
    → IsSettledBelow old xs i → IsSettledBelow old (slice_set xs i y) (i + 1)
one_settled old xs i y z there traits cells sets before = record { rest = rest; done = done }
  where
    rest : (t : ℕ) → i + 1 ≤ t → slice_get (slice_set xs i y) t ≡ slice_get old t
    rest t le = unchanged_at xs i t y (not_this i t le) ∙ before.rest t (omega (arith, le))

    by : (t : ℕ) (x : Traits) (cs : List Cell) (b : Bool) → (i == t) ≡ b → t < i + 1 → IsGiven old t x cs
        → IsSettled (slice_set xs i y) t x cs
    by t x cs true e lt h =
        let at : i ≡ t = eqb-true i t e in
        let here : slice_get xs t ≡ Some h.known = before.rest t (omega (arith, at)) ∙ h.there in
        let both : Some h.known ≡ Some z = sym here ∙ sym (ap (slice_get xs) at) ∙ there in
        let is : h.known ≡ z = cc in
        let stands : StandsFor cs z = subst (StandsFor cs) is h.stands in
        record {
          known = y;
          there = changed_at xs i t y h.known here ∙ ap (λ b. Some (if b then y else h.known)) e;
          traits = traits ∙ ap (λ (k : TypeData). k.traits) (sym is) ∙ h.traits;
          cells = ap (λ v. listed (map cell_view v.items)) cells ∙ stands.cells;
          elements = sets cs stands.gathered;
        }
    by t x cs false e lt h =
        let g = before.done t x cs (below t i lt (λ k. eqb-false i t e (sym k))) h in
        record {
          known = g.known;
          there = changed_at xs i t y g.known g.there ∙ ap (λ b. Some (if b then y else g.known)) e;
          traits = g.traits;
          cells = g.cells;
          elements = g.elements;
        }

    done : (t : ℕ) (x : Traits) (cs : List Cell) → t < i + 1 → IsGiven old t x cs → IsSettled (slice_set xs i y) t x cs
    done t x cs lt h = by t x cs (i == t) refl lt h

-- none is left
pub all_settled : (old new : List TypeData) (i : ℕ) → length old ≤ i → IsSettledBelow old new i
    → (t : ℕ) (x : Traits) (cs : List Cell) → IsGiven old t x cs → IsSettled new t x cs
all_settled old new i past h t x cs g =
    let within = slice_get_within old t g.known g.there in
    h.done t x cs (omega (arith, past, within)) g
