-- The tests of kinship give what well-typed trees ask for.
use Rattle.std.proofs.Common.{◌≡◌, inl, inr, ◌==◌, ◌&&◌, ℕ, zero, suc, Bool, true, length, Option, None, Some}
use Rattle.std.proofs.Common.{option_map, slice_get, refl, sym, ap, subst, ◌∙◌}
use Rattle.std.proofs.lemmas.Bool.{true≢false, eqb-true, or_cases, and_parts}
use Rattle.std.proofs.lemmas.Option.{slice_get-map, none-some}
use Rattle.kb_logic.specs.declared.vocabularies.Parent.{Parent}
use Rattle.kb_logic.specs.declared.vocabularies.Parent.TheVariants as parent
use Rattle.kb_logic.specs.declared.vocabularies.TypeDecl.{TypeDecl}
use Rattle.kb_logic.specs.declared.vocabularies.Vocabulary.{Vocabulary}
use Rattle.kb_logic.specs.Typing.{IsBelow, itself, under, IsNumberParent, IsNumberType, AreAkin}
use Rattle.stage_definitions.specs.Below.{type_above, type_parents, reaches}
use Rattle.stage_definitions.specs.Kinship.{is_under, climbed, climbed_on, top_of, is_number_parent, is_under_a_number}
use Rattle.stage_definitions.specs.Kinship.{is_number_type, are_akin}
use Rattle.stage_definitions.specs.NamesStage.{stepped}

-- ---- a step up

above_is : (q : Parent) (p : ℕ) → type_above q ≡ Some p → q ≡ parent.Of p
above_is parent.Root p h = absurd (none-some p h)
above_is parent.Int p h = absurd (none-some p h)
above_is parent.Nat p h = absurd (none-some p h)
above_is (parent.Of t) p h = let same : t ≡ p = cc in ap parent.Of same

step_of : (v : Vocabulary) (t p : ℕ) (o : Option TypeDecl) → slice_get v.types t ≡ o
    → option_map (λ (d : TypeDecl). type_above d.parent) o ≡ Some (Some p)
    → (d : TypeDecl) × (slice_get v.types t ≡ Some d) × (d.parent ≡ parent.Of p)
step_of v t p None e h = let n : None ≡ Some (Some p) = h in absurd (cc)
step_of v t p (Some d) e h = let same : type_above d.parent ≡ Some p = cc in (d, e, above_is d.parent p same)

step : (v : Vocabulary) (t p : ℕ) → slice_get (type_parents v.types) t ≡ Some (Some p) → (d : TypeDecl)
    × (slice_get v.types t ≡ Some d) × (d.parent ≡ parent.Of p)
step v t p h = step_of v t p (slice_get v.types t) refl (sym (slice_get-map
    (λ (d : TypeDecl). type_above d.parent) v.types t) ∙ h)

-- ---- the walk up

reached_by : (v : Vocabulary) (t u : ℕ) (test : ℕ → Bool) → ((p : ℕ) → test p ≡ true → IsBelow v p u)
    → (o : Option (Option ℕ)) → slice_get (type_parents v.types) t ≡ o → stepped o test ≡ true → IsBelow v t u
reached_by v t u test go None e g = absurd (true≢false (sym g))
reached_by v t u test go (Some None) e g = absurd (true≢false (sym g))
reached_by v t u test go (Some (Some p)) e g = let s = step v t p e in under t p u s.0 s.1 s.2 (go p g)

reached : (v : Vocabulary) (n t u : ℕ) → reaches n (type_parents v.types) t u ≡ true → IsBelow v t u
reached v zero t u h = subst (λ (w : ℕ). IsBelow v t w) (eqb-true t u h) (itself t)
reached v (suc n) t u h = elim (or_cases (t == u) (stepped (slice_get (type_parents v.types) t)
    (λ p. reaches n (type_parents v.types) p u)) h) [
      | inl e ↦ subst (λ (w : ℕ). IsBelow v t w) (eqb-true t u e) (itself t)
      | inr e ↦ reached_by v t u (λ p. reaches n (type_parents v.types) p u) (λ p. reached v n p u)
          (slice_get (type_parents v.types) t) refl e
    ]

pub below : (v : Vocabulary) (t u : ℕ) → is_under v.types t u ≡ true → IsBelow v t u
below v t u h = reached v (length (type_parents v.types)) t u h

climbs_by : (v : Vocabulary) (t : ℕ) (on : ℕ → ℕ) → ((p : ℕ) → IsBelow v p (on p))
    → (o : Option (Option ℕ)) → slice_get (type_parents v.types) t ≡ o → IsBelow v t (climbed_on o t on)
climbs_by v t on go None e = itself t
climbs_by v t on go (Some None) e = itself t
climbs_by v t on go (Some (Some p)) e = let s = step v t p e in under t p (on p) s.0 s.1 s.2 (go p)

climbs : (v : Vocabulary) (n t : ℕ) → IsBelow v t (climbed n (type_parents v.types) t)
climbs v zero t = itself t
climbs v (suc n) t = climbs_by v t (climbed n (type_parents v.types)) (λ p. climbs v n p)
    (slice_get (type_parents v.types) t) refl

top_above : (v : Vocabulary) (t : ℕ) → IsBelow v t (top_of v.types t)
top_above v t = climbs v (length v.types) t

-- ---- number types

is_parent : (p : Parent) → is_number_parent p ≡ true → IsNumberParent p
is_parent parent.Root h = true≢false (sym h)
is_parent parent.Int h = tt
is_parent parent.Nat h = tt
is_parent (parent.Of t) h = true≢false (sym h)

under_a_number : (v : Vocabulary) (u : ℕ) (o : Option TypeDecl) → slice_get v.types u ≡ o → is_under_a_number o ≡ true
    → (d : TypeDecl) × (slice_get v.types u ≡ Some d) × IsNumberParent d.parent
under_a_number v u None e h = absurd (true≢false (sym h))
under_a_number v u (Some d) e h = (d, e, is_parent d.parent h)

pub number_type : (v : Vocabulary) (t : ℕ) → is_number_type v.types t ≡ true → IsNumberType v t
number_type v t h =
    let u = top_of v.types t in
    (u, top_above v t, under_a_number v u (slice_get v.types u) refl h)

pub akin : (v : Vocabulary) (t u : ℕ) → are_akin v.types t u ≡ true → AreAkin v t u
akin v t u h = elim (or_cases (is_number_type v.types t && is_number_type v.types u)
    (top_of v.types t == top_of v.types u) h) [
      | inl e ↦
          let parts = and_parts (is_number_type v.types t) (is_number_type v.types u) e in
          inl (number_type v t parts.0, number_type v u parts.1)
      | inr e ↦
          let same = eqb-true (top_of v.types t) (top_of v.types u) e in
          inr (top_of v.types t, top_above v t, subst (λ (w : ℕ). IsBelow v u w) (sym same) (top_above v u))
    ]
