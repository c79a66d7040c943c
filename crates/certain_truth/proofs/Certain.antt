-- What quantifiers say for certain.
use Rattle.std.proofs.Common.{◌≡◌, List, [], ◌∷◌, ◌++◌, refl, sym, ap, ◌∙◌, ◌⊎◌, inl, inr}
use Rattle.kb_logic.specs.Structures.{choices}
use Rattle.certain_truth.specs.Certainty.{both_certain, either_certain, all_certain, any_certain, certain_truth}
use Rattle.certain_truth.specs.Laws.{EveryIsConjunction, SomeIsDisjunction}
use Rattle.partial_structures.specs.declared.truths.Truth.{Truth}
use Rattle.partial_structures.specs.declared.truths.Truth.TheVariants.{Yes, No, Unknown}
use Rattle.kb_logic.proofs.Has.{Has, has_from, contains_from}

both_yes : (a b : Truth) → both_certain a b ≡ Yes → (a ≡ Yes) × (b ≡ Yes)
both_yes Yes b h = (refl, h)
both_yes No b h = absurd (cc)
both_yes Unknown Yes h = absurd (cc)
both_yes Unknown No h = absurd (cc)
both_yes Unknown Unknown h = absurd (cc)

both_no : (a b : Truth) → both_certain a b ≡ No → (a ≡ No) ⊎ (b ≡ No)
both_no Yes b h = inr h
both_no No b h = inl refl
both_no Unknown Yes h = absurd (cc)
both_no Unknown No h = inr refl
both_no Unknown Unknown h = absurd (cc)

second_no : (a b : Truth) → b ≡ No → both_certain a b ≡ No
second_no Yes b h = h
second_no No b h = refl
second_no Unknown b h = ap (both_certain Unknown) h

either_yes : (a b : Truth) → either_certain a b ≡ Yes → (a ≡ Yes) ⊎ (b ≡ Yes)
either_yes Yes b h = inl refl
either_yes No b h = inr h
either_yes Unknown Yes h = inr refl
either_yes Unknown No h = absurd (cc)
either_yes Unknown Unknown h = absurd (cc)

either_no : (a b : Truth) → either_certain a b ≡ No → (a ≡ No) × (b ≡ No)
either_no Yes b h = absurd (cc)
either_no No b h = (refl, h)
either_no Unknown Yes h = absurd (cc)
either_no Unknown No h = absurd (cc)
either_no Unknown Unknown h = absurd (cc)

second_yes : (a b : Truth) → b ≡ Yes → either_certain a b ≡ Yes
second_yes Yes b h = refl
second_yes No b h = h
second_yes Unknown b h = ap (either_certain Unknown) h

module _ {X : Type 0} (P : X → Truth) where
  all_yes : (xs : List X) → all_certain P xs ≡ Yes → (x : X) → Has xs x → P x ≡ Yes
  all_yes [] h x m = absurd m
  all_yes (y ∷ xs) h x (inl e) = ap P (sym e) ∙ (both_yes (P y) (all_certain P xs) h).0
  all_yes (y ∷ xs) h x (inr m) = all_yes xs (both_yes (P y) (all_certain P xs) h).1 x m

  yes_all : (xs : List X) → ((x : X) → Has xs x → P x ≡ Yes) → all_certain P xs ≡ Yes
  yes_all [] h = refl
  yes_all (y ∷ xs) h = ap (λ t. both_certain t (all_certain P xs)) (h y (inl refl)) ∙ yes_all xs (λ x m. h x (inr m))

  all_no : (xs : List X) → all_certain P xs ≡ No → (x : X) × Has xs x × (P x ≡ No)
  all_no [] h = absurd (cc)
  all_no (y ∷ xs) h = elim (both_no (P y) (all_certain P xs) h) [
    | inl e ↦ (y, inl refl, e)
    | inr e ↦ let r = all_no xs e in (r.0, inr r.1, r.2)
  ]

  no_all : (xs : List X) (x : X) → Has xs x → P x ≡ No → all_certain P xs ≡ No
  no_all [] x m h = absurd m
  no_all (y ∷ xs) x (inl e) h = ap (λ t. both_certain t (all_certain P xs)) (ap P e ∙ h)
  no_all (y ∷ xs) x (inr m) h = second_no (P y) (all_certain P xs) (no_all xs x m h)

  any_no : (xs : List X) → any_certain P xs ≡ No → (x : X) → Has xs x → P x ≡ No
  any_no [] h x m = absurd m
  any_no (y ∷ xs) h x (inl e) = ap P (sym e) ∙ (either_no (P y) (any_certain P xs) h).0
  any_no (y ∷ xs) h x (inr m) = any_no xs (either_no (P y) (any_certain P xs) h).1 x m

  no_any : (xs : List X) → ((x : X) → Has xs x → P x ≡ No) → any_certain P xs ≡ No
  no_any [] h = refl
  no_any (y ∷ xs) h = ap (λ t. either_certain t (any_certain P xs)) (h y (inl refl)) ∙ no_any xs (λ x m. h x (inr m))

  any_yes : (xs : List X) → any_certain P xs ≡ Yes → (x : X) × Has xs x × (P x ≡ Yes)
  any_yes [] h = absurd (cc)
  any_yes (y ∷ xs) h = elim (either_yes (P y) (any_certain P xs) h) [
    | inl e ↦ (y, inl refl, e)
    | inr e ↦ let r = any_yes xs e in (r.0, inr r.1, r.2)
  ]

  yes_any : (xs : List X) (x : X) → Has xs x → P x ≡ Yes → any_certain P xs ≡ Yes
  yes_any [] x m h = absurd m
  yes_any (y ∷ xs) x (inl e) h = ap (λ t. either_certain t (any_certain P xs)) (ap P e ∙ h)
  yes_any (y ∷ xs) x (inr m) h = second_yes (P y) (any_certain P xs) (yes_any xs x m h)

pub every_is_conjunction : EveryIsConjunction
every_is_conjunction k bs f e =
    let cs = choices k.domains bs in (
      (
        λ h a m. all_yes (λ a. certain_truth k f (e ++ a)) cs h a (has_from cs a m),
        λ h. yes_all (λ a. certain_truth k f (e ++ a)) cs (λ a m. h a (contains_from cs a m)),
      ),
      (
        λ h. let r = all_no (λ a. certain_truth k f (e ++ a)) cs h in (r.0, contains_from cs r.0 r.1, r.2),
        λ r. no_all (λ a. certain_truth k f (e ++ a)) cs r.0 (has_from cs r.0 r.1) r.2,
      ),
    )

pub some_is_disjunction : SomeIsDisjunction
some_is_disjunction k bs f e =
    let cs = choices k.domains bs in (
      (
        λ h. let r = any_yes (λ a. certain_truth k f (e ++ a)) cs h in (r.0, contains_from cs r.0 r.1, r.2),
        λ r. yes_any (λ a. certain_truth k f (e ++ a)) cs r.0 (has_from cs r.0 r.1) r.2,
      ),
      (
        λ h a m. any_no (λ a. certain_truth k f (e ++ a)) cs h a (has_from cs a m),
        λ h. no_any (λ a. certain_truth k f (e ++ a)) cs (λ a m. h a (contains_from cs a m)),
      ),
    )
