-- Terms by their first factor, and how many factors of a product are no integers.
use Rattle.std.proofs.Common.{◌≡◌, ◌<◌, ◌∙◌, ◌&&◌, ℕ, ◌+◌, Bool, true, false, not, nat_lt, if◌then◌else◌, List, []}
use Rattle.std.proofs.Common.{◌∷◌, filter, length, map, refl, ap, sym, rules, arith}
use Rattle.std.proofs.lemmas.Bool.Decides.{nat_tests}
use Rattle.grammar.specs.Trees.{Factor, Product}
use Rattle.grammar.specs.View.{factor_view, product_of, product_tail_view, product_view, sum_tail_view, term_of}
use Rattle.grammar.specs.View.{term_view}
use Rattle.grammar.specs.declared.raw.RawApp.{the_lemmas}
use Rattle.grammar.specs.declared.raw.RawProduct.{RawProduct, out-RawProduct}
use Rattle.grammar.specs.declared.raw.RawTermTree.{RawTermTree, out-RawTermTree}
use Rattle.grammar.specs.declared.terminal.Adding.{Adding}
use Rattle.stage_definitions.specs.Standings.{factors_in, in_product, in_sum, is_extremum_factor, is_extremum_term}
use Rattle.stage_definitions.specs.Standings.{is_scaled, is_signed_integer}
use Rattle.stage_definitions.specs.declared.standings.Standing.{Standing}
use Rattle.formula_names.specs.PartStandings.{factors_stand, is_lone, is_signed_alone, operands_stand}
use Rattle.formula_names.proofs.LoneTerms.{first_factor, later_factors, later_products, seen_as}

-- ---- a term that is one factor

signed_alone-is : (f : Factor) (ps : List (ℕ × Factor)) (ts : List (Adding × ℕ × Product))
    → is_signed_alone (term_of (product_of f ps) ts)
    ≡ (is_lone (term_of (product_of f ps) ts) && is_signed_integer f)
signed_alone-is f [] [] = refl
signed_alone-is f (p ∷ ps) [] = refl
signed_alone-is f ps (t ∷ ts) = refl

pub signed_raw : (x : RawTermTree) → is_signed_alone (term_view x) ≡ (is_lone (term_view x) && is_signed_integer
    (factor_view (first_factor x)))
signed_raw x = rw (seen_as x) (signed_alone-is (factor_view (first_factor x)) (later_factors x) (later_products x))

extremum-is : (f : Factor) (ps : List (ℕ × Factor)) (ts : List (Adding × ℕ × Product))
    → is_extremum_term (term_of (product_of f ps) ts)
    ≡ (is_lone (term_of (product_of f ps) ts) && is_extremum_factor f)
extremum-is f [] [] = refl
extremum-is f (p ∷ ps) [] = refl
extremum-is f ps (t ∷ ts) = refl

pub extremum_raw : (x : RawTermTree) → is_extremum_term (term_view x) ≡ (is_lone (term_view x) && is_extremum_factor
    (factor_view (first_factor x)))
extremum_raw x = rw (seen_as x) (extremum-is (factor_view (first_factor x)) (later_factors x) (later_products x))

-- ---- the parts of a term

several_operands : {X : Type 0} (k : Standing) (p : Product) (V : X → Adding × ℕ × Product) (xs : List X)
    → 0 < length xs → operands_stand k (term_of p (map V xs)) ≡ in_sum k
several_operands k p V [] some = absurd (omega arith)
several_operands k p V (x ∷ xs) some = refl

several_factors : {X : Type 0} (k : Standing) (f : Factor) (V : X → ℕ × Factor) (xs : List X) → 0 < length xs
    → factors_stand k (product_of f (map V xs)) ≡ in_product k (product_of f (map V xs))
several_factors k f V [] some = absurd (omega arith)
several_factors k f V (x ∷ xs) some = refl

product_seen : (x : RawProduct) → product_view x ≡ product_of (factor_view (out-RawProduct x).first)
    (map product_tail_view (out-RawProduct x).more)
product_seen x = search (rules, the_lemmas)

pub operands_raw : (k : Standing) (x : RawTermTree) → 0 < length (out-RawTermTree x).more
    → operands_stand k (term_view x) ≡ in_sum k
operands_raw k x some =
    let seen : term_view x ≡ term_of (product_view (out-RawTermTree x).first)
    (map sum_tail_view (out-RawTermTree x).more) = search (rules, the_lemmas) in
    rw seen (several_operands k (product_view (out-RawTermTree x).first) sum_tail_view (out-RawTermTree x).more some)

pub factors_raw : (k : Standing) (x : RawProduct) → 0 < length (out-RawProduct x).more
    → factors_stand k (product_view x) ≡ in_product k (product_view x)
factors_raw k x some =
    rw (product_seen x) (several_factors k (factor_view (out-RawProduct x).first) product_tail_view
    (out-RawProduct x).more some)

-- ---- factors that are no integers

abbrev pub others_of : List (ℕ × Factor) → ℕ
others_of xs = length (filter (λ x. not (is_signed_integer x.1)) xs)

-- one factor before others
one_more : {X : Type 0} (b : Bool) (x : X) (xs : List X) (n : ℕ) → length xs ≡ n
    → length (if not b then x ∷ xs else xs) ≡ (if b then n else n + 1)
one_more true x xs n e = e
one_more false x xs n e = omega (arith, e)

others_more : (x : ℕ × Factor) (xs : List (ℕ × Factor)) → others_of (x ∷ xs)
    ≡ (if is_signed_integer x.1 then others_of xs else others_of xs + 1)
others_more x xs = one_more (is_signed_integer x.1) x (filter (λ y. not (is_signed_integer y.1)) xs) _ refl

counted : (f : Factor) (xs : List (ℕ × Factor))
    → length (filter (λ g. not (is_signed_integer g)) (factors_in (product_of f xs)))
    ≡ (if is_signed_integer f then others_of xs else others_of xs + 1)
counted f [] = one_more (is_signed_integer f) f [] 0 refl
counted f (x ∷ xs) =
    one_more (is_signed_integer f) f (filter (λ g. not (is_signed_integer g)) (factors_in (product_of x.1 xs))) _
    (counted x.1 xs ∙ sym (others_more x xs))

below_two : (b : Bool) (n : ℕ) → nat_lt (if b then n else n + 1) 2 ≡ (if b then nat_lt n 2 else nat_lt n 1)
below_two true n = refl
below_two false n = grind (arith, nat_tests)

pub scaled_raw : (x : RawProduct) → is_scaled (product_view x)
    ≡ (if is_signed_integer (factor_view (out-RawProduct x).first)
    then nat_lt (others_of (map product_tail_view (out-RawProduct x).more)) 2
    else nat_lt (others_of (map product_tail_view (out-RawProduct x).more)) 1)
scaled_raw x =
    let f = factor_view (out-RawProduct x).first in
    let xs = map product_tail_view (out-RawProduct x).more in
    rw (product_seen x) (ap (λ (n : ℕ). nat_lt n 2) (counted f xs) ∙ below_two (is_signed_integer f) (others_of xs))
