-- Domains of four types, worked out.
use Rattle.std.proofs.Common.{◌≡◌, ℕ, pos, negsuc, List, [], ◌∷◌, refl, ap, arith, inl, inr}
use Rattle.std.specs.List.{Contains}
use Rattle.std.proofs.lemmas.Int.{ints}
use Rattle.kb_logic.specs.declared.elements.Elem.{Elem}
use Rattle.kb_logic.specs.declared.elements.Elem.TheVariants.{Named, Num}
use Rattle.kb_logic.specs.declared.vocabularies.Parent.{Parent}
use Rattle.kb_logic.specs.declared.vocabularies.Parent.TheVariants.{Root, Nat, Of}
use Rattle.kb_logic.specs.Domains.{IsDomainOf}
use Rattle.logic_laws.specs.DomainExamples.{DomainExamples, declared_as, r, g, numbers, with_last}
use Rattle.kb_logic.proofs.Members.{first, none_in, member_cases}

-- the only element of a list
sole : (x y : Elem) → Contains (x ∷ []) y → x ≡ y
sole x y at = elim (member_cases x y [] at) [ inl e ↦ e | inr more ↦ absurd (none_in y more) ]

-- the first letter of a word
abbrev letter : Elem → ℕ
letter (Named []) = 0
letter (Named (n ∷ ns)) = n
letter (Num z) = 0

abbrev first_letter : List Elem → ℕ
first_letter [] = 0
first_letter (x ∷ xs) = letter x

abbrev size : Elem → ℕ
size (Named n) = 0
size (Num (pos n)) = n
size (Num (negsuc n)) = 0

g_is_not_r : g ≡ r → ⊥
g_is_not_r e = let letters : 103 ≡ 114 = ap letter e in absurd (omega (arith, letters))

module _ (domains : List (List Elem)) where
  colors : IsDomainOf domains (declared_as Root ((114 ∷ []) ∷ (103 ∷ []) ∷ [])) (r ∷ g ∷ [])
  colors = record {
    distinct = (λ at. g_is_not_r (sole g r at), (λ at. none_in g at, tt));
    names = λ some. refl;
    parent = (tt, (tt, tt));
    range = (tt, (tt, tt));
    few = omega arith;
  }

  nothing : (p : Parent) → IsDomainOf domains (declared_as p []) []
  nothing p = record { distinct = tt; names = λ some. absurd (some refl); parent = tt; range = tt; few = omega arith }

  zero_and_seven : IsDomainOf domains (declared_as Nat []) numbers
  zero_and_seven = record {
    distinct = (
      λ at. let same : 7 ≡ 0 = ap size (sole (Num (pos 7)) (Num (pos 0)) at) in absurd (omega (arith, same)),
      (λ at. none_in (Num (pos 7)) at, tt),
    );
    names = λ some. absurd (some refl);
    parent = ((0, refl), ((7, refl), tt));
    range = ((omega (arith, ints), omega (arith, ints)), ((omega (arith, ints), omega (arith, ints)), tt));
    few = omega arith;
  }

  word_and_integer : IsDomainOf domains (declared_as Root []) (r ∷ Num (negsuc 2) ∷ [])
  word_and_integer = record {
    distinct = (
      λ at. let same : 0 ≡ 114 = ap letter (sole (Num (negsuc 2)) r at) in absurd (omega (arith, same)),
      (λ at. none_in (Num (negsuc 2)) at, tt),
    );
    names = λ some. absurd (some refl);
    parent = (tt, (tt, tt));
    range = (tt, ((omega (arith, ints), omega (arith, ints)), tt));
    few = omega arith;
  }

seven : (d : List Elem) → IsDomainOf (with_last d) (declared_as (Of 1) []) (Num (pos 7) ∷ [])
seven d = record {
  distinct = (λ at. none_in (Num (pos 7)) at, tt);
  names = λ some. absurd (some refl);
  parent = ((1, omega arith, refl), tt);
  range = ((omega (arith, ints), omega (arith, ints)), tt);
  few = omega arith;
}

a_word : (n : List ℕ) (k : ℕ) → Named n ≡ Num (pos k) → ⊥
a_word n k e = absurd cc

below_zero : (k : ℕ) → Num (negsuc 0) ≡ Num (pos k) → ⊥
below_zero k e = absurd cc

pub domain_examples : DomainExamples
domain_examples = record {
  mixed = let all = with_last (r ∷ Num (negsuc 2) ∷ []) in (
    colors all,
    (zero_and_seven all, (seven (r ∷ Num (negsuc 2) ∷ []), (word_and_integer all, tt))),
  );
  empty = let all = (r ∷ g ∷ []) ∷ [] ∷ [] ∷ [] ∷ [] in (
    colors all,
    (nothing all Nat, (nothing all (Of 1), (nothing all Root, tt))),
  );
  too_few_lists = λ h. h.1.1.1;
  names_in_another_order = λ h. let letters : 103 ≡ 114 = ap first_letter (h.0.names (λ none. absurd cc)) in
      absurd (omega (arith, letters));
  negative_under_nat = λ h. below_zero h.1.0.parent.0.0 h.1.0.parent.0.1;
  word_under_nat = λ h. a_word (114 ∷ []) h.1.0.parent.0.0 h.1.0.parent.0.1;
  outside_its_parent = λ h. elim (member_cases (Num (pos 0)) (Num (pos 1)) (Num (pos 7) ∷ []) h.1.1.0.parent.0) [
    | inl e ↦ let same : 0 ≡ 1 = ap size e in absurd (omega (arith, same))
    | inr more ↦ let same : 7 ≡ 1 = ap size (sole (Num (pos 7)) (Num (pos 1)) more) in absurd (omega (arith, same))
  ];
  element_twice = λ h. h.1.1.1.0.distinct.0 (first r []);
  out_of_range = λ h. let few = h.1.1.1.0.range.0.1 in absurd (omega (arith, ints, few));
}
