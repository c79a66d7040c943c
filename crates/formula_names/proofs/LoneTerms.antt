-- Terms that are one factor.
use Rattle.std.proofs.Common.{◌≡◌, ◌∙◌, ◌==◌, ◌&&◌, ℕ, suc, false, List, [], ◌∷◌, arith, length, map, refl, rules}
use Rattle.std.proofs.lemmas.Bool.Decides.{nat_tests}
use Rattle.std.proofs.lemmas.List.{length-map}
use Rattle.grammar.specs.Trees.{Factor, Product}
use Rattle.grammar.specs.View.{factor_view, product_of, product_tail_view, sum_tail_view, term_of, term_view}
use Rattle.grammar.specs.declared.raw.RawApp.{the_lemmas}
use Rattle.grammar.specs.declared.raw.RawFactor.{RawFactor}
use Rattle.grammar.specs.declared.raw.RawProduct.{out-RawProduct}
use Rattle.grammar.specs.declared.raw.RawTermTree.{RawTermTree, out-RawTermTree}
use Rattle.grammar.specs.declared.terminal.Adding.{Adding}
use Rattle.formula_names.specs.PartStandings.{is_lone}

-- ---- a term by its factors

abbrev pub first_factor : RawTermTree → RawFactor
first_factor x = (out-RawProduct (out-RawTermTree x).first).first

abbrev pub later_factors : RawTermTree → List (ℕ × Factor)
later_factors x = map product_tail_view (out-RawProduct (out-RawTermTree x).first).more

abbrev pub later_products : RawTermTree → List (Adding × ℕ × Product)
later_products x = map sum_tail_view (out-RawTermTree x).more

pub seen_as : (x : RawTermTree) → term_view x
    ≡ term_of (product_of (factor_view (first_factor x)) (later_factors x)) (later_products x)
seen_as x = search (rules, the_lemmas)

no_none : (n : ℕ) → (suc n == 0) ≡ false
no_none n = grind (arith, nat_tests)

lone-is : (f : Factor) (ps : List (ℕ × Factor)) (ts : List (Adding × ℕ × Product))
    → is_lone (term_of (product_of f ps) ts) ≡ ((length ts == 0) && (length ps == 0))
lone-is f [] [] = refl
lone-is f (p ∷ ps) [] = rw (no_none (length ps)) refl
lone-is f ps (t ∷ ts) = rw (no_none (length ts)) refl

pub lone_raw : (x : RawTermTree) → is_lone (term_view x) ≡ ((length (out-RawTermTree x).more == 0)
    && (length (out-RawProduct (out-RawTermTree x).first).more == 0))
lone_raw x =
    rw (seen_as x) (lone-is (factor_view (first_factor x)) (later_factors x) (later_products x)
    ∙ rw (length-map, length-map) refl)
