-- The facts and the elements that the stage of data reads in an entry that was written.
use Rattle.std.proofs.Common.{◌≡◌, ℕ, Bool, List, [], ◌∷◌, ◌++◌, map, Option, Some, flat_map, option_map, refl, sym, ap}
use Rattle.std.proofs.Common.{◌∙◌}
use Rattle.std.specs.List.{filter_map}
use Rattle.std.proofs.lemmas.List.{append-nil}
use Rattle.std.proofs.lemmas.List.Elements.{filter_map-append}
use Rattle.kb_logic.specs.declared.elements.Elem.{Elem}
use Rattle.kb_logic.specs.declared.vocabularies.TypeDecl.{TypeDecl}
use Rattle.kb_logic.specs.declared.vocabularies.Symbol.{Symbol}
use Rattle.kb_logic.specs.Structures.{EachWith}
use Rattle.kb_logic.proofs.Has.{Has, has_flat_map, flat_map_has}
use Rattle.grammar.specs.BlockTrees as raw
use Rattle.stage_definitions.specs.Elements.{Cell, one}
use Rattle.stage_definitions.specs.DataEntries.{Subject, a_type, a_symbol, is_plain_list, sense_of, WrittenRow}
use Rattle.stage_definitions.specs.DataEntries.{element_of}
use Rattle.stage_definitions.specs.DataEntries.{Said, fitting, Spot, item_spots, row_spots}
use Rattle.stage_definitions.specs.DataDomains.{cells_given}
use Rattle.stage_definitions.specs.DataFacts.{Fact, fact_at, fact_of, signs_of, facts_of, single_element}
use Rattle.printed_texts.specs.Entries.{PlainRow, PlainEntry, alone}
use Rattle.printed_texts.specs.Saying.{SaysRow, rows_said}
use Rattle.printed_texts.proofs.Each.{each_forth, each_back, option_kept, kept_option}
use Rattle.printed_texts.proofs.RightEntries.{RightEntry, sense_by}
use Rattle.printed_texts.proofs.SaidEntries.{IsSaid, sense_is, all_fit, cell_read, cells_of_row}

-- a fact says of a row of the symbol with this number that it is true, or false
pub record IsFactOf (number : ℕ) (sign : Bool) (r : PlainRow) (f : Fact) : Type 0 where
  pub symbol : f.symbol ≡ number
  pub holds : f.holds ≡ sign
  pub args : f.args ≡ map one r.args
  pub value : f.value ≡ r.value

fact_read : (sign : Bool) (s : ℕ × Symbol) (r : PlainRow) (w : WrittenRow) → SaysRow r w
    → fact_of sign (a_symbol s.0 s.1) w
    ≡ Some (fact_at w.place s.0 sign (option_map element_of w.value) (map one r.args))
fact_read sign s r w h = ap (option_map (fact_at w.place s.0 sign (option_map element_of w.value)))
    (cells_of_row (is_plain_list (a_symbol s.0 s.1)) w.items r.args h.items)

module _ (D : List (List Elem)) (p : PlainEntry) (s : ℕ × Symbol) (e : Said) (right : RightEntry D (a_symbol s.0 s.1) p)
    (h : IsSaid p (a_symbol s.0 s.1) e) where
  facts_are : facts_of e ≡ flat_map (λ sign. filter_map (fact_of sign (a_symbol s.0 s.1)) e.rows)
      (signs_of (sense_by p.mark))
  facts_are = rw (all_fit D p (a_symbol s.0 s.1) e right h, h.subject, sense_is e.mark p.mark h.mark) refl

  pub facts_back : (f : Fact) → Has (facts_of e) f → (sign : Bool) × Has (signs_of (sense_by p.mark)) sign
      × ((r : PlainRow) × Has (rows_said p.value) r × IsFactOf s.0 sign r f)
  facts_back f m =
      let n : Has (flat_map (λ sign. filter_map (fact_of sign (a_symbol s.0 s.1)) e.rows) (signs_of (sense_by p.mark)))
      f = rw facts_are at m in
      let b = flat_map_has (λ sign. filter_map (fact_of sign (a_symbol s.0 s.1)) e.rows)
      (signs_of (sense_by p.mark)) f n in
      let w = kept_option (fact_of b.0 (a_symbol s.0 s.1)) e.rows f b.2 in
      let r = each_back SaysRow (rows_said p.value) e.rows h.rows w.0 w.1 in
      (b.0, b.1, (r.0, r.1, made b.0 r.0 w.0 r.2 (sym (fact_read b.0 s r.0 w.0 r.2) ∙ w.2)))
    where
      made : (sign : Bool) (r : PlainRow) (w : WrittenRow) → SaysRow r w
          → Some (fact_at w.place s.0 sign (option_map element_of w.value) (map one r.args)) ≡ Some f
          → IsFactOf s.0 sign r f
      made sign r w says e =
          let same : fact_at w.place s.0 sign (option_map element_of w.value) (map one r.args) ≡ f = cc in
          record {
            symbol = ap (λ g. g.symbol) (sym same);
            holds = ap (λ g. g.holds) (sym same);
            args = ap (λ g. g.args) (sym same);
            value = ap (λ g. g.value) (sym same) ∙ says.value;
          }

  pub facts_forth : (sign : Bool) → Has (signs_of (sense_by p.mark)) sign → (r : PlainRow) → Has (rows_said p.value) r
      → (f : Fact) × Has (facts_of e) f × IsFactOf s.0 sign r f
  facts_forth sign m r n =
      let w = each_forth SaysRow (rows_said p.value) e.rows h.rows r n in
      let f : Fact = fact_at w.0.place s.0 sign (option_map element_of w.0.value) (map one r.args) in (
        f,
        rw facts_are (has_flat_map (λ b. filter_map (fact_of b (a_symbol s.0 s.1)) e.rows)
            (signs_of (sense_by p.mark)) sign f m
            (option_kept (fact_of sign (a_symbol s.0 s.1)) e.rows w.0 f w.1 (fact_read sign s r w.0 w.2))),
        record { symbol = refl; holds = refl; args = refl; value = w.2.value },
      )

-- a type's list says nothing of atoms
pub facts_none : (p : PlainEntry) (t : ℕ × TypeDecl) (e : Said) → IsSaid p (a_type t.0 t.1) e → (f : Fact)
    → Has (facts_of e) f → ⊥
facts_none p t e h f m =
    let b = flat_map_has (λ sign. filter_map (fact_of sign e.subject) (fitting e)) (signs_of (sense_of e.mark)) f m in
    let w = kept_option (fact_of b.0 e.subject) (fitting e) f b.2 in
    no_fact w.0 b.0 (sym (ap (λ x. fact_of b.0 x w.0) h.subject) ∙ w.2)
  where
    no_fact : (w : WrittenRow) (sign : Bool) → fact_of sign (a_type t.0 t.1) w ≡ Some f → ⊥
    no_fact w sign e = cc

-- ---- the elements of a list

abbrev cell_at : Spot → Option Cell
cell_at s = s.cell

one_cell : (x : Subject) (t : ℕ) (y : Elem) (is : List raw.RowItem) → map single_element is ≡ Some y ∷ []
    → filter_map cell_at (item_spots x (t ∷ []) is) ≡ one y ∷ []
one_cell x t y [] e = absurd (cc)
one_cell x t y (i ∷ []) e =
    let first : single_element i ≡ Some y = cc in
    rw (cell_read (is_plain_list x) i y first) refl
one_cell x t y (i ∷ j ∷ js) e = absurd (cc)

row_cells : (t : ℕ) (d : TypeDecl) (y : Elem) (w : WrittenRow) → SaysRow (alone y) w
    → filter_map cell_at (row_spots (a_type t d) w) ≡ one y ∷ []
row_cells t d y w h = ap (λ ss. filter_map cell_at ss) (append-nil (item_spots (a_type t d) (t ∷ []) w.items))
    ∙ one_cell (a_type t d) t y w.items h.items

list_cells : (t : ℕ) (d : TypeDecl) (xs : List Elem) (ws : List WrittenRow) → EachWith SaysRow (map alone xs) ws
    → filter_map cell_at (flat_map (row_spots (a_type t d)) ws) ≡ map one xs
list_cells t d [] [] h = refl
list_cells t d [] (w ∷ ws) h = absurd h
list_cells t d (x ∷ xs) [] h = absurd h
list_cells t d (x ∷ xs) (w ∷ ws) h =
    filter_map-append cell_at (row_spots (a_type t d) w) (flat_map (row_spots (a_type t d)) ws)
    ∙ ap (λ cs. cs ++ filter_map cell_at (flat_map (row_spots (a_type t d)) ws)) (row_cells t d x w h.0)
    ∙ ap (λ cs. one x ∷ cs) (list_cells t d xs ws h.1)

pub listed_given : (D : List (List Elem)) (p : PlainEntry) (t : ℕ × TypeDecl) (e : Said) (xs : List Elem)
    → rows_said p.value ≡ map alone xs → RightEntry D (a_type t.0 t.1) p → IsSaid p (a_type t.0 t.1) e
    → cells_given e ≡ map one xs
listed_given D p t e xs same right h =
    let rows : EachWith SaysRow (map alone xs) e.rows = rw same at h.rows in
    rw (all_fit D p (a_type t.0 t.1) e right h, h.subject) (list_cells t.0 t.1 xs e.rows rows)
