-- What rows say, one after another.
use Rattle.std.proofs.Common.{◌≡◌, ◌<◌, ◌≤◌, ◌+◌, ℕ, Bool, true, false, List, [], ◌∷◌, ◌++◌, Option, None, Some, drop}
use Rattle.std.proofs.Common.{filter, get_or, length, map, option_map, cond, refl, sym, ap, ◌∙◌}
use Rattle.std.specs.List.{cons_option, filter_map}
use Rattle.std.proofs.lemmas.List.{drop_all}
use Rattle.std.proofs.lemmas.List.Elements.{filter-append, filter_map-append}
use Rattle.kb_logic.specs.declared.elements.Elem.{Elem}
use Rattle.kb_logic.specs.Models.{GroundAtom}
use Rattle.grammar.specs.BlockTrees as raw
use Rattle.stage_definitions.specs.Elements.{one}
use Rattle.stage_definitions.specs.DataEntries.{Subject, WrittenRow, nothing_named, an_element, a_type, a_symbol}
use Rattle.stage_definitions.specs.DataEntries.{cell_of}
use Rattle.stage_definitions.specs.DataEntries.{element_of, fits_in, is_plain_list}
use Rattle.stage_definitions.specs.DataFacts.{Fact, added_to, cells_read, fact_at, fact_of, joined_to}
use Rattle.stage_definitions.specs.DataFacts.{single_element, single_elements}
use Rattle.structure_entries.proofs.Dropped.{front}
use Rattle.structure_entries.specs.EntryViews.{row_view}
use Rattle.structure_entries.specs.declared.rows.Row.{Row}
use Rattle.data_filling.specs.Filling.{atom_with, row_facts, single_fact, symbol_named}

-- ---- the first row, and those after it

module _ {X Y : Type 0} (F : X → Option Y) (p : X → Bool) where
  pub more_kept : (x : X) (xs : List X) → filter_map F (filter p (x ∷ xs)) ≡ filter_map F (filter p (x ∷ []))
      ++ filter_map F (filter p xs)
  more_kept x xs = ap (filter_map F) (filter-append p (x ∷ []) xs)
      ∙ filter_map-append F (filter p (x ∷ [])) (filter p xs)

  none_of : (b : Bool) (x : X) → F x ≡ None → filter_map F (cond b (x ∷ []) []) ≡ []
  none_of false x e = refl
  none_of true x e = ap (λ o. cons_option o []) e

  pub nothing_kept : (x : X) → F x ≡ None → filter_map F (filter p (x ∷ [])) ≡ []
  nothing_kept x e = none_of (p x) x e

  pub not_kept : (x : X) → p x ≡ false → filter_map F (filter p (x ∷ [])) ≡ []
  not_kept x e = ap (λ b. filter_map F (cond b (x ∷ []) [])) e

  pub one_kept : (x : X) (y : Y) → p x ≡ true → F x ≡ Some y → filter_map F (filter p (x ∷ [])) ≡ y ∷ []
  one_kept x y e f = ap (λ b. filter_map F (cond b (x ∷ []) [])) e ∙ ap (λ o. cons_option o []) f

-- what the rows from one on say
abbrev pub left : Bool → Subject → List Row → ℕ → List Fact
left holds x rows i = row_facts holds x (map row_view (drop i rows))

pub next_left : (holds : Bool) (x : Subject) (rows : List Row) (i : ℕ) (row : Row) → i < length rows
    → row ≡ get_or rows i row → left holds x rows i ≡ row_facts holds x (row_view row ∷ []) ++ left holds x rows (i + 1)
next_left holds x rows i row lt is =
    ap (λ (rs : List Row). row_facts holds x (map row_view rs)) (front rows i row lt is)
    ∙ more_kept (fact_of holds x) (fits_in x) (row_view row) (map row_view (drop (i + 1) rows))

pub none_left : (holds : Bool) (x : Subject) (rows : List Row) (i : ℕ) → length rows ≤ i → left holds x rows i ≡ []
none_left holds x rows i past = ap (λ (rs : List Row). row_facts holds x (map row_view rs)) (drop_all i rows past)

-- ---- rows of which nothing is said

pub nothing_said : (holds : Bool) (x : Subject) (r : WrittenRow) → symbol_named x ≡ None
    → row_facts holds x (r ∷ []) ≡ []
nothing_said holds nothing_named r e = nothing_kept (fact_of holds nothing_named) (fits_in nothing_named) r refl
nothing_said holds an_element r e = nothing_kept (fact_of holds an_element) (fits_in an_element) r refl
nothing_said holds (a_type t d) r e = nothing_kept (fact_of holds (a_type t d)) (fits_in (a_type t d)) r refl
nothing_said holds (a_symbol s d) r e = absurd (let n : ⊥ = cc in n)

pub unfit : (holds : Bool) (x : Subject) (r : WrittenRow) → fits_in x r ≡ false → row_facts holds x (r ∷ []) ≡ []
unfit holds x r e = not_kept (fact_of holds x) (fits_in x) r e

-- ---- rows without ranges

single_cell : (plain : Bool) (i : raw.RowItem) (y : Elem) → single_element i ≡ Some y → cell_of plain i ≡ Some (one y)
single_cell plain (raw.item e None) y h = let same : element_of e ≡ y = cc in ap (λ x. Some (one x)) same
single_cell plain (raw.item e (Some to)) y h = absurd (let n : ⊥ = cc in n)

single_cells : (plain : Bool) (is : List raw.RowItem) (xs : List Elem) → single_elements is ≡ Some xs
    → cells_read plain is ≡ Some (map (λ x. one x) xs)
single_cells plain [] xs h = let same : [] ≡ xs = cc in ap (λ ys. Some (map (λ x. one x) ys)) same
single_cells plain (i ∷ is) xs h =
    by (single_element i) (single_elements is) refl refl h (λ ys e. single_cells plain is ys e)
  where
    by : (o : Option Elem) (os : Option (List Elem)) → single_element i ≡ o → single_elements is ≡ os
        → single_elements (i ∷ is) ≡ Some xs
        → ((ys : List Elem) → single_elements is ≡ Some ys → cells_read plain is ≡ Some (map (λ x. one x) ys))
        → cells_read plain (i ∷ is) ≡ Some (map (λ x. one x) xs)
    by None os e es h more =
        let no : None ≡ Some xs = sym (ap (λ o. added_to o (single_elements is)) e) ∙ h in absurd (let n : ⊥ = cc in n)
    by (Some y) None e es h more =
        let no : None ≡ Some xs = sym (ap (λ o. added_to o (single_elements is)) e ∙ ap (added_to (Some y)) es) ∙ h in
        absurd (let n : ⊥ = cc in n)
    by (Some y) (Some ys) e es h more =
        let both : Some (y ∷ ys) ≡ Some xs =
        sym (ap (λ o. added_to o (single_elements is)) e ∙ ap (added_to (Some y)) es) ∙ h in
        let same : y ∷ ys ≡ xs = cc in
        ap (λ o. joined_to o (cells_read plain is)) (single_cell plain i y e)
        ∙ ap (joined_to (Some (one y))) (more ys es)
        ∙ ap (λ zs. Some (map (λ x. one x) zs)) same

pub single_said : (holds : Bool) (x : Subject) (s : ℕ) (r : WrittenRow) (xs : List Elem) → symbol_named x ≡ Some s
    → fits_in x r ≡ true → single_elements r.items ≡ Some xs
    → row_facts holds x (r ∷ []) ≡ single_fact holds s r xs ∷ []
single_said holds nothing_named s r xs e f g = absurd (let n : ⊥ = cc in n)
single_said holds an_element s r xs e f g = absurd (let n : ⊥ = cc in n)
single_said holds (a_type t d) s r xs e f g = absurd (let n : ⊥ = cc in n)
single_said holds (a_symbol u d) s r xs e f g =
    let same : u ≡ s = cc in
    one_kept (fact_of holds (a_symbol u d)) (fits_in (a_symbol u d)) r (single_fact holds s r xs) f
    (ap (λ o. option_map (fact_at r.place u holds (option_map element_of r.value)) o)
    (single_cells (is_plain_list (a_symbol u d)) r.items xs g)
    ∙ ap (λ n. Some (single_fact holds n r xs)) same)

-- the atom of a row's fact
pub row_atom : (holds : Bool) (s t : ℕ) (r : WrittenRow) (xs : List Elem) (v : Option Elem) → t ≡ s
    → v ≡ option_map element_of r.value
    → record { symbol = t; args = xs; value = v } ≡ atom_with (single_fact holds s r []) xs
row_atom holds s t r xs v e f =
    ap (λ n. the_atom n v) e ∙ ap (λ w. the_atom s w) f
  where
    the_atom : ℕ → Option Elem → GroundAtom
    the_atom n w = record { symbol = n; args = xs; value = w }
