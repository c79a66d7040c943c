-- The last item that is left of a list.
use Rattle.std.proofs.Common.{◌≡◌, List, [], ◌∷◌, ◌++◌, Bool, true, false, ◌||◌, not, refl, sym, ap, ◌∙◌, subst}
use Rattle.std.proofs.Common.{◌⊎◌, inl, inr, append_assoc}
use Rattle.std.specs.List.{list_all}
use Rattle.std.proofs.lemmas.Bool.{true≢false, and_parts, and_from}
use Rattle.kb_logic.specs.declared.elements.Elem.{Elem}
use Rattle.kb_logic.specs.Structures.{choices}
use Rattle.kb_logic.proofs.Has.{Has, has_from, contains_from}
use Rattle.certain_truth.specs.Certainty.{certain_truth}
use Rattle.bound_laws.specs.Lone.{LoneOf}
use Rattle.bound_laws.specs.Closures.{opposes, Obeys}
use Rattle.bound_laws.specs.Laws.{LastInstanceObeys}

left_before : (left lost : Bool) → (left || not lost) ≡ false → (left ≡ false) × (lost ≡ true)
left_before true lost h = absurd (true≢false h)
left_before false true h = (refl, refl)
left_before false false h = absurd (true≢false h)

left_or : (left lost : Bool) → (left || not lost) ≡ true → (left ≡ true) ⊎ (lost ≡ false)
left_or true lost h = inl refl
left_or false true h = absurd (true≢false (sym h))
left_or false false h = inr refl

now_left : (left lost : Bool) → lost ≡ false → (left || not lost) ≡ true
now_left true lost h = refl
now_left false lost h = ap not h

still_left : (left lost : Bool) → left ≡ true → (left || not lost) ≡ true
still_left left lost h = ap (λ b. b || not lost) h

module _ {X : Type 0} (P : X → Type 0) (lost : X → Bool) where
  one_is_left : (xs : List X) (left : Bool) → LoneOf P lost xs left
      → (left ≡ true) ⊎ ((x : X) × Has xs x × (lost x ≡ false))
  one_is_left [] left h = inl h
  one_is_left (x ∷ xs) left h = elim (one_is_left xs (left || not (lost x)) h.1) [
    | inl e ↦ elim (left_or left (lost x) e) [ inl l ↦ inl l | inr o ↦ inr (x, inl refl, o) ]
    | inr r ↦ inr (r.0, inr r.1, r.2)
  ]

  last_has : (before after : List X) (a : X) (left : Bool) → left ≡ false → list_all lost before ≡ true
      → list_all lost after ≡ true → LoneOf P lost (before ++ a ∷ after) left → P a
  last_has [] after a left none b c h = h.0 none c
  last_has (x ∷ before) after a left none b c h =
      let p = and_parts (lost x) (list_all lost before) b in
      last_has before after a (left || not (lost x)) (ap (λ l. l || not (lost x)) none ∙ ap not p.0) p.1 c h.1

  lost_more : (front : List X) (x : X) → list_all lost front ≡ true → lost x ≡ true
      → list_all lost (front ++ x ∷ []) ≡ true
  lost_more [] x h e = and_from (lost x) true e refl
  lost_more (y ∷ front) x h e =
      let p = and_parts (lost y) (list_all lost front) h in
      and_from (lost y) (list_all lost (front ++ x ∷ [])) p.0 (lost_more front x p.1 e)

  abbrev Each : List X → Type 0
  Each xs = (before after : List X) (a : X) → xs ≡ before ++ a ∷ after → list_all lost before ≡ true
      → list_all lost after ≡ true → P a

  is_lone : (front xs : List X) (left : Bool) → (left ≡ false → list_all lost front ≡ true)
      → (left ≡ true) ⊎ ((x : X) × Has xs x × (lost x ≡ false)) → Each (front ++ xs) → LoneOf P lost xs left
  is_lone front [] left f (inl h) each = h
  is_lone front [] left f (inr h) each = absurd h.1
  is_lone front (x ∷ xs) left f some each = (
    λ none all. each front xs x refl (f none) all,
    is_lone (front ++ x ∷ []) xs (left || not (lost x))
        (λ none. let b = left_before left (lost x) none in lost_more front x (f b.0) b.1)
        (rest some)
        (λ before after a is. each before after a (sym (append_assoc front (x ∷ []) xs) ∙ is)),
  )
    where
      rest : (left ≡ true) ⊎ ((y : X) × Has (x ∷ xs) y × (lost y ≡ false))
          → ((left || not (lost x)) ≡ true) ⊎ ((y : X) × Has xs y × (lost y ≡ false))
      rest (inl h) = inl (still_left left (lost x) h)
      rest (inr (y, inl e, o)) = inl (now_left left (lost x) (ap lost e ∙ o))
      rest (inr (y, inr m, o)) = inr (y, m, o)

not_left : {A : Type 0} → (false ≡ true) ⊎ A → A
not_left (inl h) = absurd (true≢false (sym h))
not_left (inr h) = h

pub last_instance_obeys : LastInstanceObeys
last_instance_obeys k bs f e =
    let lost = λ (a : List Elem). opposes true (certain_truth k f (e ++ a)) in
    let P = λ (a : List Elem). Obeys k true f (e ++ a) in
    let cs = choices k.domains bs in (
      λ h. (
        (let r = not_left (one_is_left P lost cs false h) in (r.0, contains_from cs r.0 r.1, r.2)),
        λ before after a is b c. last_has P lost before after a false refl b c
            (subst (λ xs. LoneOf P lost xs false) is h),
      ),
      λ h. is_lone P lost [] cs false (λ n. refl) (inr (h.0.0, has_from cs h.0.0 h.0.1, h.0.2)) h.1,
    )
