-- The rows that a known table leaves lead to the instances that may add something.
use Rattle.std.proofs.Common.{◌≡◌, ℕ, ◌+◌, ◌<◌, Bool, List, [], ◌∷◌, ◌++◌, Option, Some, None, slice_get}
use Rattle.std.proofs.Common.{refl, sym, ap, subst, ◌∙◌, below_more}
use Rattle.std.specs.List.{Contains}
use Rattle.std.specs.Option.{IfSome}
use Rattle.std.proofs.lemmas.List.Elements.{Contains-append_left, Contains-push}
use Rattle.kb_logic.specs.declared.elements.Elem.{Elem}
use Rattle.kb_logic.specs.declared.vocabularies.Bound.{Bound}
use Rattle.kb_logic.specs.declared.vocabularies.Symbol.{Symbol}
use Rattle.kb_logic.specs.Denotations.{Denotation}
use Rattle.kb_logic.specs.Structures.{tuples_of}
use Rattle.kb_logic.specs.Trees.{TermTrees, FormulaTree}
use Rattle.term_values.specs.GroundBases.{GroundBase, first_var, row_index, tuples_at}
use Rattle.term_values.proofs.RowFacts.{place-below}
use Rattle.row_ranges.specs.declared.ranges.Ranges.{Ranges}
use Rattle.row_ranges.specs.Arguments.{IsNoRow, argument_values}
use Rattle.row_ranges.specs.Leads.{Leads}
use Rattle.row_ranges.proofs.Passing.{leads-more}
use Rattle.def_ground.specs.Forms.{answer_of_atom, atom_answer}
use Rattle.sentence_guards.specs.Guards.{AddsNothing, AreRowsLeft, IsGuard, IsKnownFalse}

no-row-false : (b : GroundBase) (s : ℕ) (rows : List ℕ) (d : Symbol) (ts : TermTrees) (e : List Elem)
    → slice_get b.vocabulary.symbols s ≡ Some d → AreRowsLeft b s rows → IsNoRow b.domains d.args rows ts e
    → IsKnownFalse b s ts e
no-row-false b s rows d ts e declared left none = by (row_index (tuples_at b s) vs) refl
  where
    vs : List Denotation
    vs = argument_values b.domains ts e

    tuples : tuples_at b s ≡ tuples_of b.domains d.args
    tuples = ap (λ (o : Option Symbol). elim o [ None ↦ [] | Some k ↦ tuples_of b.domains k.args ]) declared

    by : (o : Option ℕ) → row_index (tuples_at b s) vs ≡ o → IsKnownFalse b s ts e
    by None is = ap (atom_answer b s) is
    by (Some i) is =
        ap (atom_answer b s) is
        ∙ ap (λ k. answer_of_atom k (first_var b s + i)) (left i (place-below (tuples_at b s) vs i is)
        (none i (ap (λ (rs : List (List Elem)). row_index rs vs) (sym tuples) ∙ is)))

-- the rows of a table lead as what is known of it says
pub led-by-rows : (b : GroundBase) (s : ℕ) (rows : List ℕ) (d : Symbol) (ts : TermTrees) (bs : List Bound)
    (o : Option Ranges) → slice_get b.vocabulary.symbols s ≡ Some d → AreRowsLeft b s rows
    → IfSome o
    (λ r. Leads (IsNoRow b.domains d.args rows ts) b.domains r.keys.items r.start r.steps.items bs [])
    → IfSome o (λ r. Leads (IsKnownFalse b s ts) b.domains r.keys.items r.start r.steps.items bs [])
led-by-rows b s rows d ts bs None declared left h = h
led-by-rows b s rows d ts bs (Some r) declared left h =
    leads-more (IsNoRow b.domains d.args rows ts) (IsKnownFalse b s ts) b.domains r.keys.items r.start r.steps.items bs
    [] (λ a none. no-row-false b s rows d ts a declared left none) h

-- and so to what may add something
pub led-by-guard : (b : GroundBase) (sign : Bool) (f : FormulaTree) (s : ℕ) (ts : TermTrees) (bs : List Bound)
    (e : List Elem) (o : Option Ranges) → e ≡ [] → IsGuard b sign f s ts
    → IfSome o (λ r. Leads (IsKnownFalse b s ts) b.domains r.keys.items r.start r.steps.items bs [])
    → IfSome o (λ r. Leads (AddsNothing b sign f) b.domains r.keys.items r.start r.steps.items bs e)
led-by-guard b sign f s ts bs e None is g h = h
led-by-guard b sign f s ts bs e (Some r) is g h =
    subst (λ a. Leads (AddsNothing b sign f) b.domains r.keys.items r.start r.steps.items bs a) (sym is)
    (leads-more (IsKnownFalse b s ts) (AddsNothing b sign f) b.domains r.keys.items r.start r.steps.items bs []
    (λ a known. g a known) h)

-- a row more, which is one of those that are left
pub left-pushed : (P : ℕ → Type 0) (rows : List ℕ) (n : ℕ) → ((i : ℕ) → i < n → (Contains rows i → ⊥) → P i)
    → (i : ℕ) → i < n + 1 → (Contains (rows ++ n ∷ []) i → ⊥) → P i
left-pushed P rows n h =
    below_more (λ i. (Contains (rows ++ n ∷ []) i → ⊥) → P i) n
    (λ i low none. h i low (λ m. none (Contains-append_left rows (n ∷ []) i m)))
    (λ none. absurd (none (Contains-push rows n)))

-- or that is not
pub left-passed : (P : ℕ → Type 0) (rows : List ℕ) (n : ℕ) → ((i : ℕ) → i < n → (Contains rows i → ⊥) → P i) → P n
    → (i : ℕ) → i < n + 1 → (Contains rows i → ⊥) → P i
left-passed P rows n h here = below_more (λ i. (Contains rows i → ⊥) → P i) n h (λ none. here)
