-- Lists of trees, one tree after another.
use Rattle.std.proofs.Common.{◌≡◌, ◌≤◌, ◌<◌, ℕ, ◌+◌, Bool, List, [], ◌∷◌, ◌++◌, length, refl, ap, ◌∙◌, sym, add-one}
use Rattle.std.proofs.Common.{get_or, drop, drop-cons, arith, map, subst, append_assoc}
use Rattle.std.proofs.lemmas.Grind.{common_steps}
use Rattle.std.proofs.lemmas.List.{append-nil}
use Rattle.kb_logic.specs.Trees as tree
use Rattle.stage_definitions.specs.NamedTrees.{NamedTerm, terms_of, summands_of, NamedFormula, formulas_of}
use Rattle.stage_definitions.specs.TermPlaces.{each_begins, formulas_begin, summands_begin, term_begins, terms_begin}
use Rattle.type_derivation.specs.ListedTrees as listed
use Rattle.type_derivation.specs.TreeLists.{then_formulas, then_terms, then_summands, IsBuilt}

-- ---- the rest of a list

pub next_item : {X Y : Type 0} (view : X → Y) (items : List X) (i : ℕ) (x : X) → i < length items → x ≡ get_or items i x
    → map view (drop i items) ≡ view x ∷ map view (drop (i + 1) items)
next_item view items i x lt e = rw (drop-cons items i x lt, ← e, add-one i) refl

pub no_item : {X : Type 0} (items : List X) (i : ℕ) → length items ≤ i → drop i items ≡ []
no_item items i le = grind (arith, common_steps)

-- ---- formulas

formulas-push : (fs : List tree.FormulaTree) (f : tree.FormulaTree) (rest : tree.FormulaTrees)
    → then_formulas (fs ++ f ∷ []) rest ≡ then_formulas fs (tree.more_formulas f rest)
formulas-push [] f rest = refl
formulas-push (g ∷ fs) f rest = ap (tree.more_formulas g) (formulas-push fs f rest)

formulas-none : (fs : List tree.FormulaTree) → then_formulas fs tree.no_formulas ≡ tree.formulas_of fs
formulas-none [] = refl
formulas-none (f ∷ fs) = ap (tree.more_formulas f) (formulas-none fs)

pub formulas_next : (ts later : List ℕ) (whole : List NamedFormula) (f : NamedFormula) (fs : List NamedFormula)
    (done done2 : List tree.FormulaTree) (new : tree.FormulaTree) (total : tree.FormulaTrees)
    → whole ≡ f ∷ fs → then_formulas done (listed.listed_formulas ts (formulas_of whole)) ≡ total
    → new ≡ listed.listed_formula ts f → later ≡ listed.left_formula ts f
    → done2 ≡ done ++ new ∷ [] → then_formulas done2 (listed.listed_formulas later (formulas_of fs)) ≡ total
formulas_next ts later whole f fs done done2 new total e so_far n l p =
    rw (p, l, n) (formulas-push done (listed.listed_formula ts f) (listed.listed_formulas (listed.left_formula ts f)
    (formulas_of fs)))
    ∙ subst (λ (gs : List NamedFormula). then_formulas done (listed.listed_formulas ts (formulas_of gs))
    ≡ total) e so_far

pub formulas_left : (ts later : List ℕ) (whole : List NamedFormula) (f : NamedFormula) (fs : List NamedFormula)
    (total : List ℕ)
    → whole ≡ f ∷ fs → listed.left_formulas ts (formulas_of whole) ≡ total → later ≡ listed.left_formula ts f
    → listed.left_formulas later (formulas_of fs) ≡ total
formulas_left ts later whole f fs total e so_far l = rw l (subst (λ (gs : List NamedFormula). listed.left_formulas ts
    (formulas_of gs) ≡ total) e so_far)

pub formulas_begun : (places more : List ℕ) (whole : List NamedFormula) (f : NamedFormula) (fs : List NamedFormula)
    (total : List ℕ)
    → whole ≡ f ∷ fs → places ++ formulas_begin (formulas_of whole) ≡ total → more ≡ places ++ terms_begin f
    → more ++ formulas_begin (formulas_of fs) ≡ total
formulas_begun places more whole f fs total e so_far m =
    ap (λ (ps : List ℕ). ps ++ formulas_begin (formulas_of fs)) m ∙ append_assoc places (terms_begin f)
    (formulas_begin (formulas_of fs))
    ∙ subst (λ (gs : List NamedFormula). places ++ formulas_begin (formulas_of gs) ≡ total) e so_far

pub formulas_done : (ts : List ℕ) (rest : List NamedFormula) (done : List tree.FormulaTree) (total : tree.FormulaTrees)
    → rest ≡ []
    → then_formulas done (listed.listed_formulas ts (formulas_of rest)) ≡ total → tree.formulas_of done ≡ total
formulas_done ts rest done total none e =
    sym (formulas-none done) ∙ subst (λ (gs : List NamedFormula). then_formulas done
    (listed.listed_formulas ts (formulas_of gs)) ≡ total) none e

pub formulas_built : (ts places : List ℕ) (rest : List NamedFormula) (done : List tree.FormulaTree)
    (total : tree.FormulaTrees)
    (left begun : List ℕ) → rest ≡ [] → then_formulas done (listed.listed_formulas ts (formulas_of rest)) ≡ total
    → listed.left_formulas ts (formulas_of rest) ≡ left → places ++ formulas_begin (formulas_of rest) ≡ begun
    → IsBuilt (tree.formulas_of done) ts places total left begun
formulas_built ts places rest done total left begun none e l b = record {
  tree = formulas_done ts rest done total none e;
  types = subst (λ (xs : List NamedFormula). listed.left_formulas ts (formulas_of xs) ≡ left) none l;
  places = sym (append-nil places) ∙ subst (λ (xs : List NamedFormula). places ++ formulas_begin (formulas_of xs)
      ≡ begun) none b;
}

-- ---- terms

terms-push : (us : List tree.TermTree) (u : tree.TermTree) (rest : tree.TermTrees) → then_terms (us ++ u ∷ []) rest
    ≡ then_terms us (tree.more_terms u rest)
terms-push [] u rest = refl
terms-push (v ∷ us) u rest = ap (tree.more_terms v) (terms-push us u rest)

terms-none : (us : List tree.TermTree) → then_terms us tree.no_terms ≡ tree.terms_of us
terms-none [] = refl
terms-none (u ∷ us) = ap (tree.more_terms u) (terms-none us)

pub terms_next : (ts later : List ℕ) (whole : List NamedTerm) (u : NamedTerm) (us : List NamedTerm)
    (done done2 : List tree.TermTree) (new : tree.TermTree) (total : tree.TermTrees)
    → whole ≡ u ∷ us → then_terms done (listed.listed_terms ts (terms_of whole)) ≡ total → new ≡ listed.listed_term ts u
    → later ≡ listed.left_term ts u
    → done2 ≡ done ++ new ∷ [] → then_terms done2 (listed.listed_terms later (terms_of us)) ≡ total
terms_next ts later whole u us done done2 new total e so_far n l p =
    rw (p, l, n) (terms-push done (listed.listed_term ts u) (listed.listed_terms (listed.left_term ts u) (terms_of us)))
    ∙ subst (λ (vs : List NamedTerm). then_terms done (listed.listed_terms ts (terms_of vs)) ≡ total) e so_far

pub terms_left : (ts later : List ℕ) (whole : List NamedTerm) (u : NamedTerm) (us : List NamedTerm) (total : List ℕ)
    → whole ≡ u ∷ us → listed.left_terms ts (terms_of whole) ≡ total → later ≡ listed.left_term ts u
    → listed.left_terms later (terms_of us) ≡ total
terms_left ts later whole u us total e so_far l = rw l (subst (λ (vs : List NamedTerm). listed.left_terms ts
    (terms_of vs) ≡ total) e so_far)

pub terms_begun : (places more : List ℕ) (whole : List NamedTerm) (u : NamedTerm) (us : List NamedTerm) (total : List ℕ)
    → whole ≡ u ∷ us → places ++ each_begins (terms_of whole) ≡ total → more ≡ places ++ term_begins u
    → more ++ each_begins (terms_of us) ≡ total
terms_begun places more whole u us total e so_far m =
    ap (λ (ps : List ℕ). ps ++ each_begins (terms_of us)) m ∙ append_assoc places (term_begins u)
    (each_begins (terms_of us))
    ∙ subst (λ (vs : List NamedTerm). places ++ each_begins (terms_of vs) ≡ total) e so_far

pub terms_done : (ts : List ℕ) (rest : List NamedTerm) (done : List tree.TermTree) (total : tree.TermTrees) → rest ≡ []
    → then_terms done (listed.listed_terms ts (terms_of rest)) ≡ total → tree.terms_of done ≡ total
terms_done ts rest done total none e =
    sym (terms-none done) ∙ subst (λ (vs : List NamedTerm). then_terms done (listed.listed_terms ts (terms_of vs))
    ≡ total) none e

pub terms_built : (ts places : List ℕ) (rest : List NamedTerm) (done : List tree.TermTree) (total : tree.TermTrees)
    (left begun : List ℕ) → rest ≡ [] → then_terms done (listed.listed_terms ts (terms_of rest)) ≡ total
    → listed.left_terms ts (terms_of rest) ≡ left → places ++ each_begins (terms_of rest) ≡ begun
    → IsBuilt (tree.terms_of done) ts places total left begun
terms_built ts places rest done total left begun none e l b = record {
  tree = terms_done ts rest done total none e;
  types = subst (λ (xs : List NamedTerm). listed.left_terms ts (terms_of xs) ≡ left) none l;
  places = sym (append-nil places) ∙ subst (λ (xs : List NamedTerm). places ++ each_begins (terms_of xs)
      ≡ begun) none b;
}

-- ---- operands of sums

summands-push : (ss : List (Bool × tree.TermTree)) (s : Bool × tree.TermTree) (rest : tree.SummandTrees)
    → then_summands (ss ++ s ∷ []) rest ≡ then_summands ss (tree.more_summands s.0 s.1 rest)
summands-push [] s rest = refl
summands-push (r ∷ ss) s rest = ap (tree.more_summands r.0 r.1) (summands-push ss s rest)

summands-none : (ss : List (Bool × tree.TermTree)) → then_summands ss tree.no_summands ≡ tree.summands_of ss
summands-none [] = refl
summands-none (s ∷ ss) = ap (tree.more_summands s.0 s.1) (summands-none ss)

pub summands_next : (ts later : List ℕ) (whole : List (Bool × NamedTerm)) (s : Bool × NamedTerm)
    (ss : List (Bool × NamedTerm)) (done done2 : List (Bool × tree.TermTree)) (new : tree.TermTree)
    (total : tree.SummandTrees)
    → whole ≡ s ∷ ss → then_summands done (listed.listed_summands ts (summands_of whole)) ≡ total
    → new ≡ listed.listed_term ts s.1 → later ≡ listed.left_term ts s.1
    → done2 ≡ done ++ (s.0, new) ∷ [] → then_summands done2 (listed.listed_summands later (summands_of ss)) ≡ total
summands_next ts later whole s ss done done2 new total e so_far n l p =
    rw (p, l, n) (summands-push done (s.0, listed.listed_term ts s.1) (listed.listed_summands (listed.left_term ts s.1)
    (summands_of ss)))
    ∙ subst (λ (rs : List (Bool × NamedTerm)). then_summands done (listed.listed_summands ts (summands_of rs))
    ≡ total) e so_far

pub summands_left : (ts later : List ℕ) (whole : List (Bool × NamedTerm)) (s : Bool × NamedTerm)
    (ss : List (Bool × NamedTerm)) (total : List ℕ)
    → whole ≡ s ∷ ss → listed.left_summands ts (summands_of whole) ≡ total → later ≡ listed.left_term ts s.1
    → listed.left_summands later (summands_of ss) ≡ total
summands_left ts later whole s ss total e so_far l = rw l (subst (λ (rs : List (Bool × NamedTerm)).
    listed.left_summands ts (summands_of rs) ≡ total) e so_far)

pub summands_begun : (places more : List ℕ) (whole : List (Bool × NamedTerm)) (s : Bool × NamedTerm)
    (ss : List (Bool × NamedTerm)) (total : List ℕ)
    → whole ≡ s ∷ ss → places ++ summands_begin (summands_of whole) ≡ total → more ≡ places ++ term_begins s.1
    → more ++ summands_begin (summands_of ss) ≡ total
summands_begun places more whole s ss total e so_far m =
    ap (λ (ps : List ℕ). ps ++ summands_begin (summands_of ss)) m ∙ append_assoc places (term_begins s.1)
    (summands_begin (summands_of ss))
    ∙ subst (λ (rs : List (Bool × NamedTerm)). places ++ summands_begin (summands_of rs) ≡ total) e so_far

pub summands_done : (ts : List ℕ) (rest : List (Bool × NamedTerm)) (done : List (Bool × tree.TermTree))
    (total : tree.SummandTrees) → rest ≡ []
    → then_summands done (listed.listed_summands ts (summands_of rest)) ≡ total → tree.summands_of done ≡ total
summands_done ts rest done total none e =
    sym (summands-none done) ∙ subst (λ (rs : List (Bool × NamedTerm)). then_summands done
    (listed.listed_summands ts (summands_of rs)) ≡ total) none e

pub summands_built : (ts places : List ℕ) (rest : List (Bool × NamedTerm)) (done : List (Bool × tree.TermTree))
    (total : tree.SummandTrees)
    (left begun : List ℕ) → rest ≡ [] → then_summands done (listed.listed_summands ts (summands_of rest)) ≡ total
    → listed.left_summands ts (summands_of rest) ≡ left → places ++ summands_begin (summands_of rest) ≡ begun
    → IsBuilt (tree.summands_of done) ts places total left begun
summands_built ts places rest done total left begun none e l b = record {
  tree = summands_done ts rest done total none e;
  types = subst (λ (xs : List (Bool × NamedTerm)). listed.left_summands ts (summands_of xs) ≡ left) none l;
  places = sym (append-nil places) ∙ subst (λ (xs : List (Bool × NamedTerm)). places ++ summands_begin (summands_of xs)
      ≡ begun) none b;
}
