-- What is kept already, and what a search finds beside it, are all that is forced.
use Rattle.std.proofs.Common.{◌≡◌, ℕ, Bool, true, false, not, List, [], ◌∷◌, ◌++◌, All, Contains, map, filter, get_or}
use Rattle.std.proofs.Common.{refl, sym, ◌∙◌, ap, subst, inl, inr, ◌⊎◌, ⊎_elim, ◌<◌, length, ◌||◌}
use Rattle.std.specs.List.{Any}
use Rattle.std.proofs.lemmas.Bool.{cases_Bool, or_cases, false≢true}
use Rattle.std.proofs.lemmas.List.Elements.{All-contains, Contains-get_or}
use Rattle.kb_logic.proofs.Has.{Has, has_from, contains_from, has_either, has_left, has_right, flat_map_has}
use Rattle.kb_logic.proofs.Has.{has_flat_map}
use Rattle.kb_logic.proofs.Tables.{passes_filter, has_filter}
use Rattle.lit_core.specs.declared.literals.Lit.{Lit}
use Rattle.lit_core.specs.Literals.{negated, literal_value}
use Rattle.lit_core.proofs.LiteralFacts.{negated-negated}
use Rattle.lit_core.proofs.Soundness.{value-negated}
use Rattle.ground_core.specs.Problems.{ProblemState}
use Rattle.ground_core.specs.Meaning.{Satisfies, MakesTrue}
use Rattle.ground_core.specs.Solving.{IsSublist}
use Rattle.ground_core.proofs.Sublists.{sublist-all, sublist-filter}
use Rattle.consequences.specs.declared.kept.Kept.{Kept}
use Rattle.consequences.specs.Forced.{AreForced, Forces, IsForced, IsFree}
use Rattle.kept_supports.specs.Supports.{is_kept, is_decided, undecided, kept_of}
use Rattle.kept_supports.proofs.KeptFacts.{Keeps, kept-there, there-kept}
use Rattle.forced_literals.specs.Searches.{AreForcedOf, both_signs}
use Rattle.forced_literals.proofs.ListFacts.{any-has, has-any}

abbrev signs : Lit → List Lit
signs l = l ∷ negated l ∷ []

-- one of both signs is of one of the literals
sign-of : (ls : List Lit) (l : Lit) → Has (both_signs ls) l → (a : Lit) × Has ls a × ((a ≡ l) ⊎ (a ≡ negated l))
sign-of ls l has =
    let r = flat_map_has signs ls l has in
    (r.0, r.1, at r.0 r.2)
  where
    at : (a : Lit) → Has (signs a) l → (a ≡ l) ⊎ (a ≡ negated l)
    at a (inl e) = inl e
    at a (inr (inl e)) = inr (sym (negated-negated a) ∙ ap negated e)
    at a (inr (inr e)) = absurd e

sign-has : (ls : List Lit) (a l : Lit) → Has ls a → (a ≡ l) ⊎ (a ≡ negated l) → Has (both_signs ls) l
sign-has ls a l has way = has_flat_map signs ls a l has (at way)
  where
    at : (a ≡ l) ⊎ (a ≡ negated l) → Has (signs a) l
    at (inl e) = inl e
    at (inr e) = inr (inl (ap negated e ∙ negated-negated l))

-- a literal whose negation is true is false
opposite-false : (v : ℕ → Bool) (l : Lit) → literal_value v (negated l) ≡ true → literal_value v l ≡ false
opposite-false v l e = elim (cases_Bool (literal_value v l)) [
  | inl on ↦ absurd (false≢true (sym (ap not on) ∙ sym (value-negated v l) ∙ e))
  | inr off ↦ off
]

module _ (p : ProblemState) (assumed : List Lit) (cores : List (List Lit)) (ks more new : List Kept) (atoms : List Lit)
    (known : All (λ (k : Kept). Forces p assumed k.lit) ks) (is : new ≡ ks ++ more) where
  abbrev ask : List Lit
  ask = both_signs (undecided ks atoms)

  abbrev all : List Lit
  all = both_signs atoms

  before : (l : Lit) → Keeps ks l → Keeps new l
  before l any =
      let r = any-has (λ (k : Kept). k.lit ≡ l) ks any in
      subst (λ (xs : List Kept). Keeps xs l) (sym is)
      (has-any (λ (k : Kept). k.lit ≡ l) (ks ++ more) r.0 (has_left ks more r.0 r.1) r.2)

  behind : (l : Lit) → Keeps more l → Keeps new l
  behind l any =
      let r = any-has (λ (k : Kept). k.lit ≡ l) more any in
      subst (λ (xs : List Kept). Keeps xs l) (sym is)
      (has-any (λ (k : Kept). k.lit ≡ l) (ks ++ more) r.0 (has_right ks more r.0 r.1) r.2)

  module _ (h : AreForced p assumed ask cores more) where
    forces-known : (l : Lit) → Keeps ks l → Forces p assumed l
    forces-known l any =
        let r = any-has (λ (k : Kept). k.lit ≡ l) ks any in
        subst (λ (m : Lit). Forces p assumed m) r.2
        (All-contains (λ (k : Kept). Forces p assumed k.lit) ks r.0 known (contains_from ks r.0 r.1))

    forces-found : (l : Lit) → Keeps more l → Forces p assumed l
    forces-found l any =
        let r = any-has (λ (k : Kept). k.lit ≡ l) more any in
        let one = All-contains (IsForced p assumed cores) more r.0 h.forced (contains_from more r.0 r.1) in
        subst (λ (m : Lit). Forces p assumed m) r.2
        (λ v s t. one.forces v s (sublist-all (λ l. literal_value v l ≡ true) r.0.support assumed one.among t))

    forces-new : (l : Lit) → Keeps new l → Forces p assumed l
    forces-new l any =
        let r = any-has (λ (k : Kept). k.lit ≡ l) (ks ++ more) (subst (λ (xs : List Kept). Keeps xs l) is any) in
        ⊎_elim
        (λ old. forces-known l (has-any (λ (k : Kept). k.lit ≡ l) ks r.0 old r.2))
        (λ found. forces-found l (has-any (λ (k : Kept). k.lit ≡ l) more r.0 found r.2))
        (has_either ks more r.0 r.1)

    -- what is kept is forced; of the others their negations are kept, or they were asked for
    free-by : (l : Lit) → Keeps ks (negated l) → IsFree p assumed l
    free-by l any =
        let some = h.some in (
          some.0,
          some.1,
          some.2,
          opposite-false some.0 l (forces-known (negated l) any some.0 some.1 some.2),
        )

    asked : (l : Lit) → Has ask l → Keeps new l ⊎ IsFree p assumed l
    asked l has = ⊎_elim (λ any. inl (behind l any)) (λ free. inr free)
        (All-contains (λ (m : Lit). Keeps more m ⊎ IsFree p assumed m) ask l h.others (contains_from ask l has))

    told-of : (a l : Lit) → Has atoms a → (a ≡ l) ⊎ (a ≡ negated l) → Keeps new l ⊎ IsFree p assumed l
    told-of a l has way = elim (cases_Bool (is_decided ks a)) [
      | inl yes' ↦ decided way (or_cases (is_kept ks a) (is_kept ks (negated a)) yes')
      | inr no' ↦ asked l (sign-has (undecided ks atoms) a l
          (has_filter (λ (m : Lit). not (is_decided ks m)) atoms a has (ap not no')) way)
    ]
      where
        decided : (a ≡ l) ⊎ (a ≡ negated l) → (is_kept ks a ≡ true) ⊎ (is_kept ks (negated a) ≡ true)
            → Keeps new l ⊎ IsFree p assumed l
        decided (inl same) (inl here) = inl (before l (subst (Keeps ks) same (kept-there ks a here)))
        decided (inl same) (inr there) =
            inr (free-by l (subst (Keeps ks) (ap negated same) (kept-there ks (negated a) there)))
        decided (inr other) (inl here) = inr (free-by l (subst (Keeps ks) other (kept-there ks a here)))
        decided (inr other) (inr there) =
            inl (before l (subst (Keeps ks) (ap negated other ∙ negated-negated l) (kept-there ks (negated a) there)))

    told : (l : Lit) → Has all l → Contains (kept_of new all) l ⊎ IsFree p assumed l
    told l has =
        let r = sign-of atoms l has in
        ⊎_elim
        (λ any. inl (contains_from (kept_of new all) l (has_filter (is_kept new) all l has (there-kept new l any))))
        (λ free. inr free)
        (told-of r.0 l r.1 r.2)

    pub all-forced : AreForcedOf p assumed all (kept_of new all)
    all-forced = record {
      some = h.some;
      order = sublist-filter (is_kept new) all;
      forced = λ i d lt.
          let l = get_or (kept_of new all) i d in
          forces-new l (kept-there new l (passes_filter (is_kept new) all l (has_from (kept_of new all) l
          (Contains-get_or
          (kept_of new all) i d lt))));
      others = λ i d lt. told (get_or all i d) (has_from all (get_or all i d) (Contains-get_or all i d lt));
    }
