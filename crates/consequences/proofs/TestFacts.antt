-- A core without the literal whose negation was tested.
use Rattle.std.proofs.Common.{◌≡◌, ℕ, ◌<◌, ◌≤◌, ◌+◌, Bool, true, false, not, List, [], ◌∷◌, ◌++◌, drop, length, get_or}
use Rattle.std.proofs.Common.{All, Contains, refl, sym, ap, ◌∙◌, subst, inl, inr, ◌⊎◌, ⊎_elim, Ok, arith}
use Rattle.std.proofs.lemmas.List.Elements.{All-contains, All-head, All-tail, All-nil, All-cons, Contains-push}
use Rattle.std.proofs.lemmas.List.Elements.{Contains-append_left, All-contains_itself}
use Rattle.std.proofs.Math.Seq.{drop-cons}
use Rattle.std.proofs.Math.ListN.{drop_of_length-le}
use Rattle.std.proofs.Math.Numerals.{add-one}
use Rattle.std.proofs.lemmas.List.{append_assoc, append-nil}
use Rattle.lit_core.specs.declared.literals.Lit.{Lit}
use Rattle.lit_core.specs.Literals.{valuation, literal_value, negated}
use Rattle.lit_core.proofs.Soundness.{value-negated}
use Rattle.ground_core.specs.Problems.{ProblemState}
use Rattle.ground_core.specs.Meaning.{Satisfies, MakesTrue, RefutesAll}
use Rattle.ground_core.specs.Solving.{IsSublist, IsWithin, HasCoreWithin, Answers, KeepsCores}
use Rattle.ground_core.specs.declared.solving.Verdict.TheVariants.{Sat, Unsat}
use Rattle.ground_core.proofs.Fronts.{All-front}
use Rattle.ground_core.proofs.CoreFacts.{within-kept}
use Rattle.ground_core.proofs.Sublists.{sublist-skip}
use Rattle.consequences.specs.Forced.{IsWithout, IsFreeBy, Forces}

empty-sublist : (xs : List Lit) → IsSublist xs [] → xs ≡ []
empty-sublist [] s = refl
empty-sublist (x ∷ xs) s = absurd s

nothing-without : (l : Lit) (xs rest : List Lit) → xs ≡ [] → IsWithout l xs rest → rest ≡ []
nothing-without l [] rest e w = w
nothing-without l (x ∷ xs) rest e w = absurd (cc)

pub without-among : (l : Lit) (ls rest assumed : List Lit) → IsWithout l ls rest → IsSublist ls (assumed ++ l ∷ [])
    → IsSublist rest assumed
without-among l [] rest assumed w s = subst (λ (r : List Lit). IsSublist r assumed) (sym w) tt
without-among l (x ∷ xs) rest [] w s = ⊎_elim
    (λ h. let none : xs ≡ [] = empty-sublist xs h.1 in ⊎_elim
    (λ a. subst (λ (r : List Lit). IsSublist r []) (sym (nothing-without l xs rest none a.1)) tt)
    (λ b. absurd (b.0 h.0))
    w)
    (λ h. absurd h)
    s
without-among l (x ∷ xs) rest (a ∷ more) w s = ⊎_elim
    (λ h. ⊎_elim
    (λ c. sublist-skip a rest more (without-among l xs rest more c.1 h.1))
    (λ d. subst (λ (r : List Lit). IsSublist r (a ∷ more)) (sym d.1.1)
    (inl (h.0, without-among l xs d.1.0 more d.1.2 h.1)))
    w)
    (λ h. sublist-skip a rest more (without-among l (x ∷ xs) rest more w h))
    s

-- what holds of the rest and of the literal holds of all
pub without-all : (P : Lit → Type 0) (l : Lit) (ls rest : List Lit) → IsWithout l ls rest → All P rest → P l → All P ls
without-all P l [] rest w h here = All-nil P
without-all P l (x ∷ xs) rest w h here = ⊎_elim
    (λ a. All-cons P x xs (subst P (sym a.0) here) (without-all P l xs rest a.1 h here))
    (λ b.
    let all : All P (x ∷ b.1.0) = subst (All P) b.1.1 h in
    All-cons P x xs (All-head P x b.1.0 all) (without-all P l xs b.1.0 b.1.2 (All-tail P x b.1.0 all) here))
    w

front-holds : (rest : List Lit) (l : Lit) → All (Contains (rest ++ l ∷ [])) rest
front-holds rest l = λ k d lt. Contains-append_left rest (l ∷ []) (get_or rest k d) (All-contains_itself rest k d lt)

pub without-within : (l : Lit) (ls rest : List Lit) → IsWithout l ls rest → IsWithin ls (rest ++ l ∷ [])
without-within l ls rest w = without-all (Contains (rest ++ l ∷ [])) l ls rest w (front-holds rest l)
    (Contains-push rest l)

pub forces : (p : ProblemState) (l : Lit) (core rest : List Lit) → RefutesAll p core → IsWithout (negated l) core rest
    → Forces p rest l
forces p l core rest none w = λ v s t. step v s t (literal_value v l) refl
  where
    step : (v : ℕ → Bool) → Satisfies p v → MakesTrue v rest → (b : Bool) → literal_value v l ≡ b
        → literal_value v l ≡ true
    step v s t true is = is
    step v s t false is = absurd (none v s (without-all (λ k. literal_value v k ≡ true) (negated l) core rest w t
        (value-negated v l ∙ ap not is)))

-- one literal more
pub next-without : (l : Lit) (lits : List Lit) (i : ℕ) (d : Lit) (list new : List Lit) → i < length lits
    → ((rest : List Lit) → IsWithout l (drop i lits) rest → IsWithout l lits (list ++ rest))
    → ((get_or lits i d ≡ l) × (new ≡ list)) ⊎ ((get_or lits i d ≡ l → ⊥) × (new ≡ list ++ get_or lits i d ∷ []))
    → (rest : List Lit) → IsWithout l (drop (i + 1) lits) rest → IsWithout l lits (new ++ rest)
next-without l lits i d list new lt before way rest w =
    let x : Lit = get_or lits i d in
    let here : drop i lits ≡ x ∷ drop (i + 1) lits = drop-cons lits i d lt
    ∙ ap (λ n. x ∷ drop n lits) (sym (add-one i)) in
    ⊎_elim
    (λ a. subst (λ (ls : List Lit). IsWithout l lits (ls ++ rest)) (sym a.1)
    (before rest (subst (λ (ys : List Lit). IsWithout l ys rest) (sym here) (inl (a.0, w)))))
    (λ b. subst (λ (ls : List Lit). IsWithout l lits ls) (sym (append_assoc list (x ∷ []) rest)
    ∙ ap (λ (ls : List Lit). ls ++ rest) (sym b.1))
    (before (x ∷ rest) (subst (λ (ys : List Lit). IsWithout l ys (x ∷ rest)) (sym here) (inr (b.0, (rest, refl, w))))))
    way

pub end-without : (l : Lit) (lits : List Lit) (i : ℕ) (list : List Lit) → length lits ≤ i
    → ((rest : List Lit) → IsWithout l (drop i lits) rest → IsWithout l lits (list ++ rest)) → IsWithout l lits list
end-without l lits i list le before = subst (λ (ls : List Lit). IsWithout l lits ls) (append-nil list)
    (before [] (subst (λ (ys : List Lit). IsWithout l ys []) (sym (drop_of_length-le lits le)) refl))

pub test-free : (p : ProblemState) (assumed : List Lit) (l : Lit) (values : List Bool)
    → Answers p (assumed ++ negated l ∷ []) (Sat values) → IsFreeBy p assumed l values
test-free p assumed l values h =
    let on : literal_value (valuation values) (negated l) ≡ true =
    All-contains (λ k. literal_value (valuation values) k ≡ true) (assumed ++ negated l ∷ []) (negated l) h.2
    (Contains-push assumed (negated l)) in (
      (
        omega (arith, h.0),
        h.1,
        All-front (λ k. literal_value (valuation values) k ≡ true) assumed
            (negated l ∷ []) h.2,
      ),
      flip (literal_value (valuation values) l) (sym (value-negated (valuation values) l) ∙ on),
    )
  where
    flip : (b : Bool) → not b ≡ true → b ≡ false
    flip true e = sym e
    flip false e = refl

pub test-forced : (p : ProblemState) (assumed : List Lit) (l : Lit) (core : List Lit) (support : List Lit)
    (before after : List (List Lit)) → IsWithout (negated l) core support → Answers p (assumed ++ negated l ∷ [])
    (Unsat core) → KeepsCores before (Ok (Unsat core)) after → IsSublist support assumed × Forces p support l
    × HasCoreWithin after (support ++ negated l ∷ [])
test-forced p assumed l core support before after w h keeps = (
  without-among (negated l) core support assumed w h.0,
  forces p l core support h.1 w,
  within-kept before after core (support ++ negated l ∷ []) (without-within (negated l) core support w) keeps,
)
