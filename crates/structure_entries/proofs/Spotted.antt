-- Items of a row at positions of types, one after another.
use Rattle.std.proofs.Common.{◌≡◌, ◌+◌, ℕ, List, [], ◌∷◌, ◌++◌, None, Some, drop}
use Rattle.std.proofs.Common.{refl, sym, ap, ◌∙◌, append_assoc, append-nil, slice_get}
use Rattle.grammar.specs.BlockTrees as raw
use Rattle.std.specs.Prelude.{filter}
use Rattle.std.specs.List.{flat_map}
use Rattle.std.proofs.lemmas.Grind.{flat_map-append}
use Rattle.std.proofs.lemmas.List.Elements.{filter-append}
use Rattle.stage_definitions.specs.DataEntries.{Subject, Spot, WrittenRow, fits_in, row_spots}
use Rattle.stage_definitions.specs.DataEntries.{item_spots, is_a_type, is_plain_list, cell_of}
use Rattle.structure_entries.specs.EntryViews.{spots_in}
use Rattle.stage_definitions.specs.DataEntries.{place_of_item}
use Rattle.structure_entries.proofs.Dropped.{drop_some, drop_none}

abbrev spot_for : Subject → ℕ → raw.RowItem → Spot
spot_for x t i = record { ty = t; in_list = is_a_type x; place = place_of_item i; cell = cell_of (is_plain_list x) i }

none_more : (x : Subject) (ts : List ℕ) → item_spots x ts [] ≡ []
none_more x [] = refl
none_more x (t ∷ ts) = refl

pub no_type : (x : Subject) (ts : List ℕ) (items : List raw.RowItem) (i : ℕ) (old whole : List Spot)
    → slice_get ts i ≡ None
    → old ++ item_spots x (drop i ts) items ≡ whole → old ≡ whole
no_type x ts items i old whole none h =
    sym (append-nil old) ∙ ap (λ us. old ++ item_spots x us items) (sym (drop_none ts i none)) ∙ h

pub no_item : (x : Subject) (ts : List ℕ) (items : List raw.RowItem) (old whole : List Spot) → items ≡ []
    → old ++ item_spots x ts items ≡ whole → old ≡ whole
no_item x ts items old whole none h =
    sym (append-nil old) ∙ ap (λ us. old ++ us) (sym (none_more x ts)) ∙ ap (λ is. old ++ item_spots x ts is) (sym none)
    ∙ h

pub next_item : (x : Subject) (ts : List ℕ) (items rest : List raw.RowItem) (one : raw.RowItem) (i t : ℕ)
    (old new whole : List Spot)
    → slice_get ts i ≡ Some t → items ≡ one ∷ rest
    → new ≡ old ++ spot_for x t one ∷ []
    → old ++ item_spots x (drop i ts) items ≡ whole
    → new ++ item_spots x (drop (i + 1) ts) rest ≡ whole
next_item x ts items rest one i t old new whole at there more h =
    ap (λ ss. ss ++ item_spots x (drop (i + 1) ts) rest) more
    ∙ append_assoc old (spot_for x t one ∷ []) (item_spots x (drop (i + 1) ts) rest)
    ∙ sym (ap (λ us. old ++ item_spots x us items) (drop_some ts i t at)
    ∙ ap (λ is. old ++ item_spots x (t ∷ drop (i + 1) ts) is) there)
    ∙ h

-- what stands in a row comes before what stands in the rows after it
pub spots_next : (x : Subject) (r : WrittenRow) (rs : List WrittenRow) → spots_in x (r ∷ rs) ≡ spots_in x (r ∷ [])
    ++ spots_in x rs
spots_next x r rs =
    ap (flat_map (row_spots x)) (filter-append (fits_in x) (r ∷ []) rs)
    ∙ flat_map-append (row_spots x) (filter (fits_in x) (r ∷ [])) (filter (fits_in x) rs)
