-- A fact over a range says what the facts of its integers say.
use Rattle.std.proofs.Common.{◌≡◌, ◌==◌, ℕ, zero, suc, ℤ, pos, ◌+ℤ◌, Bool, true, false, ◌&&◌, ◌||◌, List, [], ◌∷◌, ◌++◌}
use Rattle.std.proofs.Common.{map, refl, sym, ap, subst, ◌∙◌, arith, Contains, inl, inr}
use Rattle.std.specs.List.{list_any}
use Rattle.std.proofs.lemmas.Int.{ints}
use Rattle.kb_logic.specs.declared.elements.Elem.{Elem}
use Rattle.kb_logic.specs.declared.elements.Elem.TheVariants.{Num}
use Rattle.kb_logic.specs.declared.vocabularies.Symbol.{Symbol}
use Rattle.kb_logic.specs.Models.{GroundAtom}
use Rattle.kb_logic.specs.Structures.{EachWith}
use Rattle.kb_logic.proofs.Members.{member_cases, none_in}
use Rattle.stage_definitions.specs.Elements.{Cell, one, same_element, integers_from, members}
use Rattle.stage_definitions.specs.DataFacts.{Fact, are_in, is_about, are_opposed, same_value_of, says_true, says_false}
use Rattle.reading_laws.proofs.Listing.{in_members}
use Rattle.data_filling.specs.Filling.{IsCellOver, IsFactOver, fact_with}
use Rattle.data_filling.proofs.Lists.{any_and, and_any}
use Rattle.data_filling.proofs.Steps.{SaySame}

-- the facts of some elements as the one argument
abbrev pub facts_with : Fact → List Elem → List Fact
facts_with f xs = map (λ x. fact_with f (x ∷ [])) xs

any_mapped : (f : Fact) (test : Fact → Bool) (xs : List Elem) → list_any test (facts_with f xs)
    ≡ list_any (λ x. test (fact_with f (x ∷ []))) xs
any_mapped f test [] = refl
any_mapped f test (x ∷ xs) = ap (λ b. test (fact_with f (x ∷ [])) || b) (any_mapped f test xs)

none_any : (xs : List Elem) → list_any (λ x. false) xs ≡ false
none_any [] = refl
none_any (x ∷ xs) = none_any xs

-- the one argument is in the cell exactly where it is one of its elements
in_cell : (c : Cell) (ys : List Elem) → list_any (λ x. are_in ys (one x ∷ [])) (members c) ≡ are_in ys (c ∷ [])
in_cell c [] = none_any (members c)
in_cell c (y ∷ ys) = any_and (same_element y) (are_in ys []) (members c)
    ∙ ap (λ b. b && are_in ys []) (sym (in_members y c))

module _ (f : Fact) (c : Cell) (args : f.args ≡ c ∷ []) where
  about : (a : GroundAtom) → list_any (λ x. is_about a (fact_with f (x ∷ []))) (members c) ≡ is_about a f
  about a =
      and_any (f.symbol == a.symbol) (λ x. are_in a.args (one x ∷ [])) (members c)
      ∙ ap (λ b. (f.symbol == a.symbol) && b) (in_cell c a.args ∙ ap (are_in a.args) (sym args))

  pub range_same : SaySame (facts_with f (members c)) (f ∷ [])
  range_same = record {
    true_too = λ a. any_mapped f (says_true a) (members c)
        ∙ any_and (λ x. is_about a (fact_with f (x ∷ []))) (f.holds && same_value_of f.value a.value) (members c)
        ∙ ap (λ b. b && (f.holds && same_value_of f.value a.value)) (about a) ∙ alone (says_true a f);
    false_too = λ a. any_mapped f (says_false a) (members c)
        ∙ any_and (λ x. is_about a (fact_with f (x ∷ []))) (are_opposed true f.holds (same_value_of f.value a.value))
        (members c)
        ∙ ap (λ b. b && are_opposed true f.holds (same_value_of f.value a.value)) (about a) ∙ alone (says_false a f);
  }
    where
      alone : (b : Bool) → b ≡ (b || false)
      alone true = refl
      alone false = refl

  -- each element of the cell makes a fact over the domains
  pub element_over : (symbols : List Symbol) (domains : List (List Elem)) → IsFactOver symbols domains f → (x : Elem)
      → Contains (members c) x → IsFactOver symbols domains (fact_with f (x ∷ []))
  element_over symbols domains over x m = record {
    declared = over.declared;
    at = over.at;
    args = by over.declared.args (subst (λ (cs : List Cell). EachWith (IsCellOver domains) over.declared.args cs) args
        over.args);
    value = over.value;
  }
    where
      by : (types : List ℕ) → EachWith (IsCellOver domains) types (c ∷ [])
          → EachWith (IsCellOver domains) types (one x ∷ [])
      by [] h = h
      by (t ∷ []) h = (
        (λ y k. elim (member_cases x y [] k) [
          | inl e ↦ h.0 y
              (subst (λ (z : Elem). Contains (members c) z) e m)
          | inr q ↦ absurd (none_in y q)
        ]),
        h.1,
      )
      by (t ∷ u ∷ ts) h = absurd h.1

-- ---- integers one by one

pub integers_more : (z : ℤ) (n : ℕ) → integers_from z (suc n) ≡ integers_from z n ++ Num (z +ℤ pos n) ∷ []
integers_more z zero = let same : z ≡ z +ℤ pos 0 = omega (arith, ints) in ap (λ (y : ℤ). Num y ∷ []) same
integers_more z (suc n) =
    let same : (z +ℤ pos 1) +ℤ pos n ≡ z +ℤ pos (suc n) = omega (arith, ints) in
    ap (λ (xs : List Elem). Num z ∷ xs) (integers_more (z +ℤ pos 1) n
    ∙ ap (λ (y : ℤ). integers_from (z +ℤ pos 1) n ++ Num y ∷ []) same)
