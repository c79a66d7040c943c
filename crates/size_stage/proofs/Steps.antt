-- Lists of terms, summands, formulas and variables, item by item.
use Rattle.std.proofs.Common.{◌≡◌, ℕ, ◌+◌, ◌*◌, ◌<◌, List, [], ◌∷◌, map, length, get_or, drop, Vec, rules, sym, ap, ◌∙◌}
use Rattle.std.proofs.Common.{arith, length-append}
use Rattle.std.specs.List.{flat_map}
use Rattle.std.specs.declared.alloc.Global.{Global}
use Rattle.std.specs.declared.boxed.Box.{Box}
use Rattle.std.proofs.lemmas.List.{at_drop_more, length-map}
use Rattle.kb_logic.specs.declared.elements.Elem.{Elem}
use Rattle.kb_logic.specs.declared.vocabularies.Bound.{Bound}
use Rattle.kb_logic.specs.declared.syntax.Signed.{Signed}
use Rattle.kb_logic.specs.declared.syntax.Term.{Term}
use Rattle.kb_logic.specs.declared.syntax.Formula.{Formula, Compare, All, Any, the_lemmas}
use Rattle.kb_logic.specs.declared.syntax.Cmp.{Cmp}
use Rattle.kb_logic.specs.Trees.{comparison, universal, existential, terms_of, more_terms, summands_of, more_summands}
use Rattle.kb_logic.specs.Trees.{formulas_of, more_formulas}
use Rattle.kb_logic.specs.Views.{formula_view, term_view, signed_view}
use Rattle.kb_logic.specs.Structures.{domain_at, tuples_of, choices}

pub formula_view-Compare : (c : Cmp) (a b : Term) → formula_view (Compare c a b) ≡ comparison c (term_view a)
    (term_view b)
formula_view-Compare c a b = search (rules, the_lemmas)

pub formula_view-All : (bs : Vec Bound Global) (f : Box Formula Global) → formula_view (All bs f) ≡ universal bs.items
    (formula_view f.value)
formula_view-All bs f = search (rules, the_lemmas)

pub formula_view-Any : (bs : Vec Bound Global) (f : Box Formula Global) → formula_view (Any bs f) ≡ existential bs.items
    (formula_view f.value)
formula_view-Any bs f = search (rules, the_lemmas)

signed_view-is : (s : Signed) → signed_view s ≡ (s.minus, term_view s.term)
signed_view-is s = search (rules, the_lemmas)

pub terms_at : (xs : List Term) (i : ℕ) (x : Term) → i < length xs → x ≡ get_or xs i x
    → terms_of (map term_view (drop i xs)) ≡ more_terms (term_view x) (terms_of (map term_view (drop (i + 1) xs)))
terms_at xs i x h at =
    at_drop_more (λ ys. terms_of (map term_view ys)) xs i x h
    ∙ ap (λ y. terms_of (map term_view (y ∷ drop (i + 1) xs))) (sym at)

pub summands_at : (xs : List Signed) (i : ℕ) (x : Signed) → i < length xs → x ≡ get_or xs i x
    → summands_of (map signed_view (drop i xs)) ≡ more_summands x.minus (term_view x.term)
    (summands_of (map signed_view (drop (i + 1) xs)))
summands_at xs i x h at =
    at_drop_more (λ ys. summands_of (map signed_view ys)) xs i x h
    ∙ ap (λ y. summands_of (map signed_view (y ∷ drop (i + 1) xs))) (sym at)
    ∙ ap (λ y. summands_of (y ∷ map signed_view (drop (i + 1) xs))) (signed_view-is x)

pub formulas_at : (xs : List Formula) (i : ℕ) (x : Formula) → i < length xs → x ≡ get_or xs i x
    → formulas_of (map formula_view (drop i xs)) ≡ more_formulas (formula_view x)
    (formulas_of (map formula_view (drop (i + 1) xs)))
formulas_at xs i x h at =
    at_drop_more (λ ys. formulas_of (map formula_view ys)) xs i x h
    ∙ ap (λ y. formulas_of (map formula_view (y ∷ drop (i + 1) xs))) (sym at)

pub tuples_next : (more : List (List Elem)) (xs : List Elem) → length (flat_map (λ x. map (λ a. x ∷ a) more) xs)
    ≡ length xs * length more
tuples_next more [] = omega arith
tuples_next more (x ∷ xs) =
    length-append (map (λ a. x ∷ a) more) (flat_map (λ x. map (λ a. x ∷ a) more) xs)
    ∙ rw (length-map more (λ a. x ∷ a), tuples_next more xs) (omega arith)

pub choices_at : (domains : List (List Elem)) (bs : List Bound) (i : ℕ) (b : Bound) → i < length bs → b ≡ get_or bs i b
    → length (choices domains (drop i bs)) ≡ length (domain_at domains b.ty) * length
    (choices domains (drop (i + 1) bs))
choices_at domains bs i b h at =
    at_drop_more (λ cs. length (choices domains cs)) bs i b h
    ∙ ap (λ c. length (choices domains (c ∷ drop (i + 1) bs))) (sym at)
    ∙ tuples_next (choices domains (drop (i + 1) bs)) (domain_at domains b.ty)

pub tuples_at : (domains : List (List Elem)) (types : List ℕ) (i : ℕ) → i < length types
    → length (tuples_of domains (drop i types)) ≡ length (domain_at domains (get_or types i 0)) * length
    (tuples_of domains (drop (i + 1) types))
tuples_at domains types i h =
    at_drop_more (λ us. length (tuples_of domains us)) types i 0 h
    ∙ tuples_next (tuples_of domains (drop (i + 1) types)) (domain_at domains (get_or types i 0))
