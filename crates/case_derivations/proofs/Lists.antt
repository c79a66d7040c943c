-- Lists of literals and of clauses.
use Rattle.std.proofs.Common.{◌≡◌, ℕ, zero, suc, List, [], ◌∷◌, ◌++◌, map, length}
use Rattle.std.proofs.Common.{refl, sym, ap, ◌∙◌, subst, ⊎_elim, Contains, Some}
use Rattle.std.specs.Prelude.{slice_get}
use Rattle.std.proofs.lemmas.Option.{slice_get_read}
use Rattle.std.proofs.lemmas.List.Elements.{All-contains, All-weaker}
use Rattle.std.proofs.lemmas.List.Elements.{All-contains_itself, All-map}
use Rattle.std.proofs.lemmas.List.Elements.{Contains-push_cases}
use Rattle.lit_core.specs.declared.literals.Lit.{Lit}
use Rattle.lit_core.specs.Literals.{negated}
use Rattle.lit_core.specs.Refutation.{IsFalseUnder, IsOpenUnder}
use Rattle.lit_core.proofs.LiteralFacts.{negated-negated, Contains-cons_cases, Contains-head, Contains-tail}
use Rattle.lit_core.proofs.LiteralFacts.{nothing_in_none, negated-differs}
use Rattle.ground_core.specs.Problems.{IsLitOf, AreLitsOf}
use Rattle.derivation_log.specs.Steps.{HasNoOpposites}

pub get-front : {X : Type 0} (xs ys : List X) (k : ℕ) (x : X) → slice_get xs k ≡ Some x
    → slice_get (xs ++ ys) k ≡ Some x
get-front [] ys k x h = absurd (cc)
get-front (z ∷ xs) ys zero x h = h
get-front (z ∷ xs) ys (suc k) x h = get-front xs ys k x h

pub get-last : {X : Type 0} (xs : List X) (x : X) → slice_get (xs ++ x ∷ []) (length xs) ≡ Some x
get-last [] x = refl
get-last (y ∷ xs) x = get-last xs x

pub get-contained : {X : Type 0} (xs : List X) (x : X) (h : Contains xs x) → slice_get xs h.0 ≡ Some x
get-contained xs x h = slice_get_read xs (length xs) h.0 x refl h.1 (sym h.2)

pub negated-twice : (ls : List Lit) → map negated (map negated ls) ≡ ls
negated-twice [] = refl
negated-twice (l ∷ ls) = ap (λ x. x ∷ map negated (map negated ls)) (negated-negated l)
    ∙ ap (λ xs. l ∷ xs) (negated-twice ls)

-- a negation that is in the list of the negations
pub from-negated : (ls : List Lit) (m : Lit) → Contains (map negated ls) m → Contains ls (negated m)
from-negated [] m h = absurd (nothing_in_none m h)
from-negated (l ∷ ls) m h = ⊎_elim
    (λ e. subst (Contains (l ∷ ls)) (sym (negated-negated l) ∙ ap negated e) (Contains-head l ls))
    (λ k. Contains-tail l ls (negated m) (from-negated ls m k))
    (Contains-cons_cases (negated l) (map negated ls) m h)

pub false-negations : (ls : List Lit) → IsFalseUnder ls (map negated ls)
false-negations ls = All-weaker (Contains (map negated ls)) (λ m. Contains ls (negated m)) (from-negated ls)
    (map negated ls) (All-contains_itself (map negated ls))

pub negations-fine : (ls : List Lit) → HasNoOpposites ls → HasNoOpposites (map negated ls)
negations-fine ls h l a b = h (negated l) (from-negated ls l a) (from-negated ls (negated l) b)

pub negations-within : (n : ℕ) (ls : List Lit) → AreLitsOf n ls → AreLitsOf n (map negated ls)
negations-within n ls h = All-map (IsLitOf n) negated ls h

pub push-fine : (ls : List Lit) (l : Lit) → HasNoOpposites ls → IsOpenUnder ls l → HasNoOpposites (ls ++ l ∷ [])
push-fine ls l h o m a b = ⊎_elim
    (λ x. ⊎_elim (λ y. h m x y)
    (λ e. o.1 (subst (Contains ls) (sym (negated-negated m) ∙ ap negated (sym e)) x))
    (Contains-push_cases ls l (negated m) b))
    (λ e. ⊎_elim (λ y. o.1 (subst (λ k. Contains ls (negated k)) (sym e) y))
    (λ f. negated-apart m (sym e ∙ f))
    (Contains-push_cases ls l (negated m) b))
    (Contains-push_cases ls l m a)
  where
    negated-apart : (k : Lit) → k ≡ negated k → ⊥
    negated-apart k e = negated-differs k e

pub open-negated : (ls : List Lit) (l : Lit) → IsOpenUnder ls l → IsOpenUnder ls (negated l)
open-negated ls l o = (o.1, λ h. o.0 (subst (Contains ls) (negated-negated l) h))

-- a clause that is false under one literal more, without that one's negation
pub false-without : (ls c : List Lit) (l : Lit) → IsFalseUnder (ls ++ l ∷ []) c → (Contains c (negated l) → ⊥)
    → IsFalseUnder ls c
false-without ls c l h never = All-weaker (λ m. Contains c m) (λ m. Contains ls (negated m))
    (λ m has. ⊎_elim (λ x. x) (λ e. absurd (never (subst (Contains c) (turned m e) has)))
    (Contains-push_cases ls l (negated m) (All-contains (λ k. Contains (ls ++ l ∷ []) (negated k)) c m h has)))
    c (All-contains_itself c)
  where
    turned : (m : Lit) → l ≡ negated m → m ≡ negated l
    turned m e = sym (negated-negated m) ∙ ap negated (sym e)
