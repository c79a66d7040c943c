-- Chains of arrows.
use Rattle.std.proofs.Common.{◌≡◌, List, [], ◌∷◌, ◌++◌, length, refl, ap, ◌∙◌, sym, map}
use Rattle.std.proofs.lemmas.List.{map-append}
use Rattle.stage_definitions.specs.NamedTrees as tree
use Rattle.stage_definitions.specs.Numbering.{implies}
use Rattle.stage_definitions.specs.NamedViews.{formula_view}
use Rattle.stage_definitions.specs.declared.named.NamedFormula.{NamedFormula}

-- the last two of a chain, grouped
implies-push : (f : tree.NamedFormula) (gs : List tree.NamedFormula) (g h : tree.NamedFormula)
    → implies f ((gs ++ g ∷ []) ++ h ∷ []) ≡ implies f (gs ++ tree.implication g h ∷ [])
implies-push f [] g h = refl
implies-push f (x ∷ gs) g h = ap (tree.implication f) (implies-push x gs g h)

pub implies_next : (f whole : tree.NamedFormula) (old new : List NamedFormula) (l r n : NamedFormula)
    → old ≡ new ++ l ∷ [] → formula_view n ≡ tree.implication (formula_view l) (formula_view r)
    → implies f (map formula_view old ++ formula_view r ∷ []) ≡ whole
    → implies f (map formula_view new ++ formula_view n ∷ []) ≡ whole
implies_next f whole old new l r n popped made so_far =
    rw made (sym (implies-push f (map formula_view new) (formula_view l) (formula_view r))
    ∙ rw (← map-append formula_view new (l ∷ []), ← popped) so_far)

pub implies_all : (f whole : tree.NamedFormula) (old new : List NamedFormula) (r : NamedFormula) (n : tree.NamedFormula)
    → old ≡ new ++ [] → length new ≡ 0 → n ≡ tree.implication f (formula_view r)
    → implies f (map formula_view old ++ formula_view r ∷ []) ≡ whole → n ≡ whole
implies_all f whole old [] r n popped none made so_far = made ∙ rw popped at so_far
implies_all f whole old (x ∷ new) r n popped none made so_far = absurd (let no : ⊥ = cc in no)
