-- Choices one after another.
use Rattle.std.proofs.Common.{◌≡◌, ℕ, zero, suc, ◌+◌, ◌<◌, ◌≤◌, List, [], ◌∷◌, ◌++◌, length, get_or, take, drop}
use Rattle.std.proofs.Common.{take_all, refl, sym, ap, ◌∙◌, subst, arith, inl, inr, ⊎_elim, ◌⊎◌, slice_get, Some, None}
use Rattle.std.proofs.lemmas.List.{take_more, drop_more, drop_all}
use Rattle.std.proofs.lemmas.Option.{slice_get_cases, slice_get_within, get_or_from_slice_get}
use Rattle.kb_logic.specs.declared.structures.Literal.{Literal}
use Rattle.kb_logic.specs.Structures.{EachWith}
use Rattle.lit_core.specs.declared.literals.Lit.{Lit}
use Rattle.ground_core.specs.Solving.{IsSublist}
use Rattle.term_values.specs.GroundBases.{GroundBase}
use Rattle.atom_numbers.specs.Numbers.{HasNumber}
pub use Rattle.atom_numbers.proofs.LiteralFacts.{each-push, each-length, each-next}
use Rattle.ground_task.specs.Choices.{AreChosen}

sublist-push : {A : Type 0} (xs ys : List A) (y : A) → IsSublist xs ys → IsSublist (xs ++ y ∷ []) (ys ++ y ∷ [])
sublist-push [] [] y s = inl (refl, tt)
sublist-push [] (z ∷ ys) y s = inr (sublist-push [] ys y tt)
sublist-push (x ∷ xs) [] y s = absurd s
sublist-push (x ∷ xs) (z ∷ ys) y s =
    ⊎_elim (λ a. inl (a.0, sublist-push xs ys y a.1)) (λ b. inr (sublist-push (x ∷ xs) ys y b)) s

sublist-more : {A : Type 0} (xs ys : List A) (y : A) → IsSublist xs ys → IsSublist xs (ys ++ y ∷ [])
sublist-more [] ys y s = tt
sublist-more (x ∷ xs) [] y s = absurd s
sublist-more (x ∷ xs) (z ∷ ys) y s =
    ⊎_elim (λ a. inl (a.0, sublist-more xs ys y a.1)) (λ b. inr (sublist-more (x ∷ xs) ys y b)) s

sublist-next : {X : Type 0} (cs : List X) (j : ℕ) (xs : List X) → j < length cs → IsSublist xs (take j cs)
    → IsSublist xs (take (j + 1) cs)
sublist-next {X = X} cs j xs l s = at (slice_get_cases cs j).1
  where
    at : ((x : X) × (j < length cs) × (slice_get cs j ≡ Some x) × (get_or cs j x ≡ x))
        ⊎ ((length cs ≤ j) × (slice_get cs j ≡ None)) → IsSublist xs (take (j + 1) cs)
    at (inl c) = subst (IsSublist xs) (sym (take_more cs j c.0 l)) (sublist-more xs (take j cs) (get_or cs j c.0) s)
    at (inr c) = absurd (omega (arith, l, c.0))

-- the two items that stand at one place
each-at : {A B : Type 0} (R : A → B → Type 0) (xs : List A) (ys : List B) → EachWith R xs ys → (k : ℕ) (d : A) (e : B)
    → k < length xs → R (get_or xs k d) (get_or ys k e)
each-at R [] ys h k d e lt = absurd (omega (arith, lt))
each-at R (x ∷ xs) [] h k d e lt = absurd h
each-at R (x ∷ xs) (y ∷ ys) h zero d e lt = h.0
each-at R (x ∷ xs) (y ∷ ys) h (suc k) d e lt = each-at R xs ys h.1 k d e (omega (arith, lt))

sublist-tail : {A : Type 0} (x : A) (xs ys : List A) → IsSublist (x ∷ xs) ys → IsSublist xs ys
sublist-tail x [] ys s = tt
sublist-tail x (z ∷ xs) [] s = absurd s
sublist-tail x (z ∷ xs) (y ∷ ys) s =
    ⊎_elim (λ a. inr a.1) (λ b. inr (sublist-tail x (z ∷ xs) ys b)) s

-- what is left of the first list where its first item is found in the second, and where it is not
sublist-found : {A : Type 0} (x y : A) (xs ys : List A) → IsSublist (x ∷ xs) (y ∷ ys) → IsSublist xs ys
sublist-found x y xs ys s = ⊎_elim (λ a. a.1) (λ b. sublist-tail x xs ys b) s

sublist-missed : {A : Type 0} (x y : A) (xs ys : List A) → (x ≡ y → ⊥) → IsSublist (x ∷ xs) (y ∷ ys)
    → IsSublist (x ∷ xs) ys
sublist-missed x y xs ys not s = ⊎_elim (λ a. absurd (not a.0)) (λ b. b) s

-- what holds once the first k choices were passed, with so many literals of the core
pub record IsSoFar (b : GroundBase) (choices : List Literal) (lits core : List Lit) (k at : ℕ) (some : List Literal)
    : Type 0 where
  pub left : IsSublist (drop at core) (drop k lits)
  pub among : IsSublist some (take k choices)
  pub each : EachWith (HasNumber b) some (take at core)

pub so-far-begins : (b : GroundBase) (choices : List Literal) (lits core : List Lit) → IsSublist core lits
    → IsSoFar b choices lits core 0 0 []
so-far-begins b choices lits core s = record { left = s; among = tt; each = tt }

module _ (b : GroundBase) (choices : List Literal) (lits core : List Lit) (k at : ℕ) (some : List Literal)
    (each : EachWith (HasNumber b) choices lits) (h : IsSoFar b choices lits core k at some) where
  same : length choices ≡ length lits
  same = each-length (HasNumber b) choices lits each

  pub so-far-ends : length choices ≤ k → AreChosen b choices core some
  so-far-ends le = record {
    among = subst (IsSublist some) (take_all k choices le) h.among;
    each = subst (EachWith (HasNumber b) some) (take_all at core (none-left (drop at core) refl)) h.each;
  }
    where
      none : IsSublist (drop at core) []
      none = subst (IsSublist (drop at core)) (drop_all k lits (omega (arith, le, same))) h.left

      none-left : (rest : List Lit) → drop at core ≡ rest → length core ≤ at
      none-left rest is = ⊎_elim
          (λ c. absurd (subst (λ (ls : List Lit). IsSublist ls []) (drop_more core at c.0 c.1) none))
          (λ c. c.0)
          (slice_get_cases core at).1

  module _ (lt : k < length choices) (lit : Lit) (is : lit ≡ get_or lits k lit) where
    within : k < length lits
    within = omega (arith, lt, same)

    lits-left : drop k lits ≡ lit ∷ drop (k + 1) lits
    lits-left = drop_more lits k lit within ∙ ap (λ (l : Lit). l ∷ drop (k + 1) lits) (sym is)

    pub so-far-missed : (slice_get core at ≡ Some lit → ⊥) → IsSoFar b choices lits core (k + 1) at some
    so-far-missed not = record {
      left = ⊎_elim
          (λ c. let here : drop at core ≡ c.0 ∷ drop (at + 1) core =
          drop_more core at c.0 c.1 ∙ ap (λ (l : Lit). l ∷ drop (at + 1) core) c.3 in
          subst (λ (ls : List Lit). IsSublist ls (drop (k + 1) lits)) (sym here)
          (sublist-missed c.0 lit (drop (at + 1) core) (drop (k + 1) lits) (λ e. not (c.2 ∙ ap Some e))
          (subst (λ (ls : List Lit). IsSublist ls (lit ∷ drop (k + 1) lits)) here
          (subst (IsSublist (drop at core)) lits-left h.left))))
          (λ c. subst (λ (ls : List Lit). IsSublist ls (drop (k + 1) lits)) (sym (drop_all at core c.0)) tt)
          (slice_get_cases core at).1;
      among = sublist-next choices k some lt h.among;
      each = h.each;
    }

    pub so-far-found : (c : Literal) → c ≡ get_or choices k c → slice_get core at ≡ Some lit
        → IsSoFar b choices lits core (k + 1) (at + 1) (some ++ c ∷ [])
    so-far-found c c_is found = record {
      left = sublist-found lit lit (drop (at + 1) core) (drop (k + 1) lits)
          (subst (λ (ls : List Lit). IsSublist ls (lit ∷ drop (k + 1) lits))
          (drop_more core at lit inside ∙ ap (λ (l : Lit). l ∷ drop (at + 1) core) item)
          (subst (IsSublist (drop at core)) lits-left h.left));
      among = subst (IsSublist (some ++ c ∷ []))
          (sym (take_more choices k c lt ∙ ap (λ (z : Literal). take k choices ++ z ∷ []) (sym c_is)))
          (sublist-push some (take k choices) c h.among);
      each = subst (EachWith (HasNumber b) (some ++ c ∷ []))
          (sym (take_more core at lit inside ∙ ap (λ (l : Lit). take at core ++ l ∷ []) item))
          (each-push (HasNumber b) some (take at core) c lit h.each
          (subst (λ (l : Lit). HasNumber b c l) (sym is) (subst (λ (z : Literal). HasNumber b z (get_or lits k lit))
          (sym c_is) (each-at (HasNumber b) choices lits each k c lit lt))));
    }
      where
        inside : at < length core
        inside = slice_get_within core at lit found

        item : get_or core at lit ≡ lit
        item = get_or_from_slice_get core at lit lit found
