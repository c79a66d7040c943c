-- Runs that grow.
use Rattle.std.proofs.Common.{◌≡◌, ℕ, ◌==◌, Bool, true, false, not, ◌&&◌, List, [], ◌∷◌, ◌++◌, Option, None, Some}
use Rattle.std.proofs.Common.{flat_map, is_some, map, option_map, if◌then◌else◌, append_assoc, refl, sym, ap, ◌∙◌}
use Rattle.std.proofs.lemmas.List.{map-append}
use Rattle.stage_definitions.specs.Elements.{Cell}
use Rattle.stage_definitions.specs.DataFacts.{are_opposed, same_value_of}
use Rattle.kb_logic.specs.declared.elements.Elem.{Elem}
use Rattle.structure_entries.specs.EntryViews.{cell_view, elem_view, fact_view}
use Rattle.structure_entries.specs.declared.elements.Cell.{Cell as CellIn}
use Rattle.structure_entries.specs.declared.elements.Element.{Element}
use Rattle.structure_entries.specs.declared.facts.Fact.{Fact}
use Rattle.data_clashes.specs.Opposing.{only_cell, opposing_of}
use Rattle.data_clashes.specs.RunViews.{cells_against, run_against}
use Rattle.data_clashes.specs.declared.runs.Run.{Run}
use Rattle.data_clashes.specs.declared.runs.Runs.{Runs}

nothing_more : (cs : List Cell) → cs ++ [] ≡ cs
nothing_more [] = refl
nothing_more (c ∷ cs) = ap (λ xs. c ∷ xs) (nothing_more cs)

-- one cell more in a run
pub longer_run : (b : Bool) (cs ds : List CellIn) (c : CellIn) → ds ≡ cs ++ c ∷ []
    → (if b then map cell_view ds else []) ≡ (if b then map cell_view cs else []) ++ (if b then
    cell_view c ∷ [] else [])
longer_run true cs ds c more = ap (map cell_view) more ∙ map-append cell_view cs (c ∷ [])
longer_run false cs ds c more = refl

pub last_longer : (s : ℕ) (h : Bool) (over : List Run) (old new : Run) (c : CellIn) → new.symbol ≡ old.symbol
    → new.holds ≡ old.holds → new.valued ≡ old.valued → new.cells.items ≡ old.cells.items ++ c ∷ []
    → flat_map (run_against s h) over ++ run_against s h new
    ≡ (flat_map (run_against s h) over ++ run_against s h old) ++ (if (old.symbol == s) && are_opposed old.holds h
    (not old.valued) then cell_view c ∷ [] else [])
last_longer s h over old new c es eh ev more =
    ap (λ ds. flat_map (run_against s h) over ++ ds)
    (ap (λ n. if (n == s) && are_opposed new.holds h (not new.valued) then map cell_view new.cells.items else []) es
    ∙ ap (λ t. if (old.symbol == s) && are_opposed t h (not new.valued) then map cell_view new.cells.items else []) eh
    ∙ ap (λ t. if (old.symbol == s) && are_opposed old.holds h (not t) then map cell_view new.cells.items else []) ev
    ∙ longer_run ((old.symbol == s) && are_opposed old.holds h (not old.valued)) old.cells.items new.cells.items c more)
    ∙ sym (append_assoc (flat_map (run_against s h) over) (run_against s h old)
    (if (old.symbol == s) && are_opposed old.holds h (not old.valued) then cell_view c ∷ [] else []))

flat_more : (s : ℕ) (h : Bool) (rs : List Run) (r : Run) → flat_map (run_against s h) (rs ++ r ∷ [])
    ≡ flat_map (run_against s h) rs ++ run_against s h r
flat_more s h [] r = nothing_more (run_against s h r)
flat_more s h (q ∷ qs) r = ap (λ cs. run_against s h q ++ cs) (flat_more s h qs r)
    ∙ sym (append_assoc (run_against s h q) (flat_map (run_against s h) qs) (run_against s h r))

abbrev nothing : List Cell
nothing = []

nothing_by : (b : Bool) → (if b then nothing else nothing) ≡ nothing
nothing_by true = refl
nothing_by false = refl

empty_by : (b : Bool) (ds : List CellIn) → ds ≡ [] → (if b then map cell_view ds else []) ≡ []
empty_by true ds e = ap (map cell_view) e
empty_by false ds e = refl

-- there are no runs
pub no_runs : (s : ℕ) (h : Bool) (over : List Run) (last : Run) → over ≡ [] → last.cells.items ≡ []
    → flat_map (run_against s h) over ++ run_against s h last ≡ []
no_runs s h over last e n =
    ap (λ rs. flat_map (run_against s h) rs ++ run_against s h last) e
    ∙ empty_by ((last.symbol == s) && are_opposed last.holds h (not last.valued)) last.cells.items n

-- another run begins
pub run_over : (s : ℕ) (h : Bool) (old new : List Run) (last next : Run) (c : CellIn) → new ≡ old ++ last ∷ []
    → next.cells.items ≡ c ∷ []
    → flat_map (run_against s h) new ++ run_against s h next
    ≡ (flat_map (run_against s h) old ++ run_against s h last) ++ (if (next.symbol == s) && are_opposed next.holds h
    (not next.valued) then cell_view c ∷ [] else [])
run_over s h old new last next c more one =
    ap (λ rs. flat_map (run_against s h) rs ++ run_against s h next) more
    ∙ ap (λ cs. cs ++ run_against s h next) (flat_more s h old last)
    ∙ ap (λ ds. (flat_map (run_against s h) old ++ run_against s h last) ++
    (if (next.symbol == s) && are_opposed next.holds h (not next.valued) then map cell_view ds else [])) one

valued_is : (v : Option Element) → not (is_some v) ≡ same_value_of (option_map elem_view v) None
valued_is None = refl
valued_is (Some x) = refl

-- what a fact adds is the only argument of one that is alike
pub added_by : (s : ℕ) (h : Bool) (f : Fact) (symbol : ℕ) (holds valued : Bool) (c : CellIn) → symbol ≡ f.symbol
    → holds ≡ f.holds → valued ≡ is_some f.value → map cell_view f.args.items ≡ cell_view c ∷ []
    → (if (symbol == s) && are_opposed holds h (not valued) then cell_view c ∷ [] else []) ≡ opposing_of s h
    (fact_view f)
added_by s h f symbol holds valued c es eh ev at =
    ap (λ n. if (n == s) && are_opposed holds h (not valued) then cell_view c ∷ [] else []) es
    ∙ ap (λ t. if (f.symbol == s) && are_opposed t h (not valued) then cell_view c ∷ [] else []) eh
    ∙ ap (λ t. if (f.symbol == s) && are_opposed f.holds h (not t) then cell_view c ∷ [] else []) ev
    ∙ ap (λ t. if (f.symbol == s) && are_opposed f.holds h t then cell_view c ∷ [] else []) (valued_is f.value)
    ∙ sym (ap (λ cs. if (f.symbol == s) && are_opposed f.holds h (same_value_of (option_map elem_view f.value) None)
    then only_cell cs else []) at)

-- a fact that has not one argument adds nothing
pub adds_nothing : (s : ℕ) (h : Bool) (f : Fact) (cells : List Cell) → only_cell (map cell_view f.args.items) ≡ []
    → cells ≡ cells ++ opposing_of s h (fact_view f)
adds_nothing s h f cells none =
    sym (ap (λ cs. cells ++ cs) (ap (λ ds. if (f.symbol == s) && are_opposed f.holds h
    (same_value_of (option_map elem_view f.value) None) then ds else []) none
    ∙ nothing_by ((f.symbol == s) && are_opposed f.holds h (same_value_of (option_map elem_view f.value) None)))
    ∙ nothing_more cells)

-- what a run adds that begins for a fact
pub begins : (s : ℕ) (h : Bool) (r : Run) (f : Fact) (c : CellIn) → r.symbol ≡ f.symbol → r.holds ≡ f.holds
    → r.valued ≡ is_some f.value
    → (if (r.symbol == s) && are_opposed r.holds h (not r.valued) then cell_view c ∷ [] else [])
    ≡ (if (f.symbol == s) && are_opposed f.holds h (not (is_some f.value)) then cell_view c ∷ [] else [])
begins s h r f c es eh ev =
    ap (λ n. if (n == s) && are_opposed r.holds h (not r.valued) then cell_view c ∷ [] else []) es
    ∙ ap (λ t. if (f.symbol == s) && are_opposed t h (not r.valued) then cell_view c ∷ [] else []) eh
    ∙ ap (λ t. if (f.symbol == s) && are_opposed f.holds h (not t) then cell_view c ∷ [] else []) ev
