-- Kept cores.
use Rattle.std.proofs.Common.{◌≡◌, ◌+◌, true, List, [], ◌∷◌, ◌++◌, length, Contains, get_or, sym, ◌∙◌, subst, arith}
use Rattle.std.proofs.Common.{⊎_elim, ◌⊎◌}
use Rattle.std.specs.List.{Any}
use Rattle.std.proofs.lemmas.List.{get_or_append_left, length-append}
use Rattle.std.proofs.lemmas.List.Elements.{All-contains, All-contains_itself}
use Rattle.std.proofs.lemmas.List.Quantifiers.{Any-push}
use Rattle.lit_core.specs.declared.literals.Lit.{Lit}
use Rattle.lit_core.specs.Literals.{literal_value}
use Rattle.ground_core.specs.Laws.{RefusalsAreKept}
use Rattle.ground_core.specs.Solving.{IsSublist, IsPrefix, IsWithin, HasCoreWithin}
use Rattle.ground_core.proofs.Sublists.{sublist-all}

pub within-trans : (a b c : List Lit) → IsWithin a b → IsWithin b c → IsWithin a c
within-trans a b c f g = λ k d lt. All-contains (Contains c) b (get_or a k d) g (f k d lt)

pub sublist-within : (core ls : List Lit) → IsSublist core ls → IsWithin core ls
sublist-within core ls s = sublist-all (Contains ls) core ls s (All-contains_itself ls)

-- what is refuted under these literals has a kept core among them
pub refusal-kept : (before after : List (List Lit)) (core ls : List Lit) → IsSublist core ls
    → (HasCoreWithin before core × (after ≡ before)) ⊎ ((HasCoreWithin before core → ⊥) × (after ≡ before ++ core ∷ []))
    → HasCoreWithin after ls
refusal-kept before after core ls s way =
    let among : IsWithin core ls = sublist-within core ls s in
    ⊎_elim
    (λ h. subst (λ (cs : List (List Lit)). HasCoreWithin cs ls) (sym h.1) (
      h.0.0,
      h.0.1,
      h.0.2,
      h.0.3,
      within-trans h.0.1 core ls h.0.4 among,
    ))
    (λ h. subst (λ (cs : List (List Lit)). HasCoreWithin cs ls) (sym h.1)
    (Any-push (λ (k : List Lit). IsWithin k ls) before core among))
    way

pub refused : RefusalsAreKept
refused p before after core ls answers keeps = (
  (λ v s t. answers.1 v s (sublist-all (λ l. literal_value v l ≡ true) core ls answers.0 t)),
  refusal-kept before after core ls answers.0 keeps,
)

-- what a core is within has a kept core
pub within-kept : (before after : List (List Lit)) (core ls : List Lit) → IsWithin core ls
    → (HasCoreWithin before core × (after ≡ before)) ⊎ ((HasCoreWithin before core → ⊥) × (after ≡ before ++ core ∷ []))
    → HasCoreWithin after ls
within-kept before after core ls among way =
    ⊎_elim
    (λ h. subst (λ (cs : List (List Lit)). HasCoreWithin cs ls) (sym h.1) (
      h.0.0,
      h.0.1,
      h.0.2,
      h.0.3,
      within-trans h.0.1 core ls h.0.4 among,
    ))
    (λ h. subst (λ (cs : List (List Lit)). HasCoreWithin cs ls) (sym h.1)
    (Any-push (λ (k : List Lit). IsWithin k ls) before core among))
    way

-- what holds of some item still does in a longer list
pub any-left : {X : Type 0} (P : X → Type 0) (xs ys : List X) → Any P xs → Any P (xs ++ ys)
any-left P xs ys h =
    let n : length (xs ++ ys) ≡ length xs + length ys = length-append xs ys in
    (h.0, h.1, omega (arith, h.2, n), get_or_append_left xs ys h.1 h.0 h.2 ∙ h.3, h.4)

-- what a kept core shows stays shown
pub still-shown : (before after : List (List Lit)) (ls : List Lit) → IsPrefix before after → HasCoreWithin before ls
    → HasCoreWithin after ls
still-shown before after ls more h = subst (λ (cs : List (List Lit)). HasCoreWithin cs ls) (sym more.1)
    (any-left (λ (core : List Lit). IsWithin core ls) before more.0 h)
