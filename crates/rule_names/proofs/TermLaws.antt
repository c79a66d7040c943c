-- Terms that are one factor, and where terms begin.
use Rattle.std.proofs.Common.{◌≡◌, ◌&&◌, ℕ, List, [], ◌∷◌, refl}
use Rattle.grammar.specs.Trees.{Factor, Product, Term, brackets, factor, product, sum, times}
use Rattle.grammar.specs.View.{factor_view, product_of, term_of, term_view}
use Rattle.grammar.specs.declared.raw.RawTermTree.{RawTermTree}
use Rattle.grammar.specs.declared.terminal.Adding.{Adding}
use Rattle.stage_definitions.specs.Names.{Names}
use Rattle.stage_definitions.specs.Scopes.{Text}
use Rattle.stage_definitions.specs.Uses.{is_integer, is_simple, is_simple_factor, place_of_factor, place_of_term}
use Rattle.formula_names.specs.PartStandings.{is_lone}
use Rattle.formula_names.proofs.LoneTerms.{first_factor, later_factors, later_products, seen_as}
use Rattle.rule_names.specs.Alone.{is_integer_alone}

-- ---- integers, and what may stand in a head

integer_alone-is : (f : Factor) (ps : List (ℕ × Factor)) (ts : List (Adding × ℕ × Product))
    → is_integer_alone (term_of (product_of f ps) ts) ≡ (is_lone (term_of (product_of f ps) ts) && is_integer f)
integer_alone-is f [] [] = refl
integer_alone-is f (p ∷ ps) [] = refl
integer_alone-is f ps (t ∷ ts) = refl

pub integer_raw : (x : RawTermTree) → is_integer_alone (term_view x) ≡ (is_lone (term_view x) && is_integer
    (factor_view (first_factor x)))
integer_raw x = rw (seen_as x) (integer_alone-is (factor_view (first_factor x)) (later_factors x) (later_products x))

simple-is : (names : Names) (scope : List Text) (f : Factor) (ps : List (ℕ × Factor))
    (ts : List (Adding × ℕ × Product))
    → is_simple names scope (term_of (product_of f ps) ts)
    ≡ (is_lone (term_of (product_of f ps) ts) && is_simple_factor names scope f)
simple-is names scope f [] [] = refl
simple-is names scope f (p ∷ ps) [] = refl
simple-is names scope f ps (t ∷ ts) = refl

pub simple_raw : (names : Names) (scope : List Text) (x : RawTermTree) → is_simple names scope (term_view x)
    ≡ (is_lone (term_view x) && is_simple_factor names scope (factor_view (first_factor x)))
simple_raw names scope x =
    rw (seen_as x) (simple-is names scope (factor_view (first_factor x)) (later_factors x) (later_products x))

pub integer_in_brackets : (p : ℕ) (t : Term) (q : ℕ) → is_integer (brackets p t q) ≡ is_integer_alone t
integer_in_brackets p (product (factor f)) q = refl
integer_in_brackets p (product (times f r g)) q = refl
integer_in_brackets p (sum g a r t) q = refl

pub simple_in_brackets : (names : Names) (scope : List Text) (p : ℕ) (t : Term) (q : ℕ)
    → is_simple_factor names scope (brackets p t q) ≡ is_simple names scope t
simple_in_brackets names scope p (product (factor f)) q = refl
simple_in_brackets names scope p (product (times f r g)) q = refl
simple_in_brackets names scope p (sum g a r t) q = refl

pub begins_with_factor : (f : Factor) (ps : List (ℕ × Factor)) (ts : List (Adding × ℕ × Product))
    → place_of_term (term_of (product_of f ps) ts) ≡ place_of_factor f
begins_with_factor f [] [] = refl
begins_with_factor f (p ∷ ps) [] = refl
begins_with_factor f [] (t ∷ ts) = refl
begins_with_factor f (p ∷ ps) (t ∷ ts) = refl
