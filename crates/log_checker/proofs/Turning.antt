-- What a set of literals is after one was put into it or taken out.
use Rattle.std.proofs.Common.{◌≡◌, ℕ, zero, suc, ◌+◌, ◌<◌, ◌≤◌, Bool, true, false, List, [], ◌∷◌, ◌++◌, All, take, drop}
use Rattle.std.proofs.Common.{length, get_or, refl, sym, ap, ◌∙◌, subst, inl, inr, ⊎_elim, arith, Contains, ◌⊎◌, not}
use Rattle.std.proofs.Common.{◌↔◌, IsTrue}
use Rattle.std.specs.Prelude.{slice_index_or}
use Rattle.std.proofs.lemmas.List.{drop_more, take_more, drop_all}
use Rattle.std.proofs.lemmas.List.Elements.{All-contains, Contains-get_or, Contains-append_left, Contains-push}
use Rattle.std.proofs.lemmas.List.Elements.{Contains-push_cases}
use Rattle.lit_core.specs.declared.literals.Lit.{Lit}
use Rattle.log_checker.specs.declared.literal_sets.LiteralSet.{LiteralSet}
use Rattle.lit_core.specs.Literals.{negated}
use Rattle.derivation_log.specs.Steps.{HasOpposites, HasNoOpposites}
use Rattle.ground_core.specs.Problems.{AreLitsOf}
use Rattle.log_checker.specs.Sets.{has, Turns, OnlyIn, IsMarked}

abbrev pub mk : ℕ → Bool → Lit
mk n b = record { var = record { 0 = n }; positive = b }

-- two literals are one or not
pub same-or-not : (m l : Lit) → (m ≡ l) ⊎ (m ≡ l → ⊥)
same-or-not m l = signs m.positive l.positive refl refl
  where
    nums : (i j : ℕ) → (i ≡ j) ⊎ (i ≡ j → ⊥)
    nums i j = grind arith

    flip : true ≡ false → ⊥
    flip e = cc

    vars : m.positive ≡ l.positive → (m ≡ l) ⊎ (m ≡ l → ⊥)
    vars s = ⊎_elim (λ (e : m.var.0 ≡ l.var.0). inl (ap (λ k. mk k m.positive) e ∙ ap (mk l.var.0) s))
        (λ n. inr (λ e. n (ap (λ (k : Lit). k.var.0) e))) (nums m.var.0 l.var.0)

    signs : (a b : Bool) → m.positive ≡ a → l.positive ≡ b → (m ≡ l) ⊎ (m ≡ l → ⊥)
    signs true true e f = vars (e ∙ sym f)
    signs false false e f = vars (e ∙ sym f)
    signs true false e f = inr (λ g. flip (sym e ∙ ap (λ (k : Lit). k.positive) g ∙ f))
    signs false true e f = inr (λ g. flip (sym f ∙ ap (λ (k : Lit). k.positive) (sym g) ∙ e))

pub put-marked : (s t : LiteralSet) (l : Lit) (ls : List Lit) → Turns s l true t → IsMarked s ls
    → IsMarked t (ls ++ l ∷ [])
put-marked s t l ls turn h = record {
  only = λ m is. ⊎_elim (λ e. subst (Contains (ls ++ l ∷ [])) (sym e) (Contains-push ls l))
      (λ n. Contains-append_left ls (l ∷ []) m (h.only m (sym (turn.1 m n) ∙ is))) (same-or-not m l);
  each = λ m is. ⊎_elim (λ e. ap (has t) e ∙ turn.0) (λ n. turn.1 m n
      ∙ h.each m (⊎_elim (λ x. x) (λ e. absurd (n (sym e))) (Contains-push_cases ls l m is))) (same-or-not m l);
}

none-in : (l : Lit) → Contains [] l → ⊥
none-in l h = let x : h.0 < 0 = h.1 in omega (arith, x)

pub empty-marked : (s : LiteralSet) → OnlyIn s [] → IsMarked s []
empty-marked s h = record { only = h; each = λ l is. absurd (none-in l is) }

contains-tail : (l m : Lit) (ls : List Lit) → Contains (l ∷ ls) m → (m ≡ l → ⊥) → Contains ls m
contains-tail l m ls h n = ⊎_elim (λ x. x) (λ e. absurd (n e)) (cases h)
  where
    cases : Contains (l ∷ ls) m → Contains ls m ⊎ (m ≡ l)
    cases c = at c.0 c.1 c.2
      where
        at : (k : ℕ) → k < length (l ∷ ls) → slice_index_or (l ∷ ls) k m ≡ m → Contains ls m ⊎ (m ≡ l)
        at zero lt e = inr (sym e)
        at (suc k) lt e = inl (k, omega (arith, lt), e)

pub clear-only : (s t : LiteralSet) (l : Lit) (ls : List Lit) → Turns s l false t → OnlyIn s (l ∷ ls) → OnlyIn t ls
clear-only s t l ls turn h = λ m is. ⊎_elim
    (λ e. absurd (let x : true ≡ false = sym is ∙ ap (has t) e ∙ turn.0 in cc))
    (λ n. contains-tail l m ls (h m (sym (turn.1 m n) ∙ is)) n)
    (same-or-not m l)

pub clear-more : (s t : LiteralSet) (lits : List Lit) (i : ℕ) (l : Lit) → i < length lits → l ≡ get_or lits i l
    → Turns s l false t → OnlyIn s (drop i lits) → OnlyIn t (drop (i + 1) lits)
clear-more s t lits i l lt is turn h = clear-only s t l (drop (i + 1) lits) turn
    (subst (OnlyIn s) (drop_more lits i l lt ∙ ap (λ k. k ∷ drop (i + 1) lits) (sym is)) h)

pub put-more : (s t : LiteralSet) (lits : List Lit) (i : ℕ) (d : Lit) → i < length lits
    → Turns s (get_or lits i d) true t → IsMarked s (take i lits) → IsMarked t (take (i + 1) lits)
put-more s t lits i d lt turn h = subst (IsMarked t) (sym (take_more lits i d lt))
    (put-marked s t (get_or lits i d) (take i lits) turn h)

pub clear-all : (s : LiteralSet) (lits : List Lit) (i : ℕ) → length lits ≤ i → OnlyIn s (drop i lits) → OnlyIn s []
clear-all s lits i le h = subst (OnlyIn s) (drop_all i lits le) h

pub opposites-here : (s : LiteralSet) (lits : List Lit) (i : ℕ) (l : Lit) → i < length lits → l ≡ get_or lits i l
    → IsMarked s lits → has s (negated l) ≡ true → HasOpposites lits
opposites-here s lits i l lt is h on =
    (l, subst (Contains lits) (sym is) (Contains-get_or lits i l lt), h.only (negated l) on)

pub no-opposites : (s : LiteralSet) (lits : List Lit) → IsMarked s lits → All (λ m. has s (negated m) ≡ false) lits
    → HasOpposites lits → ⊥
no-opposites s lits h off o = let x : true ≡ false = sym (h.each (negated o.0) o.2)
    ∙ All-contains (λ m. has s (negated m) ≡ false) lits o.0 off o.1 in cc

pub fine : (n : ℕ) (ls : List Lit) (b : Bool) → AreLitsOf n ls → (IsTrue b ↔ HasOpposites ls) → IsTrue (not b)
    ↔ (AreLitsOf n ls × HasNoOpposites ls)
fine n ls true h k = (λ t. absurd (let x : false ≡ true = t in cc), λ r. absurd (let o = k.0 refl in r.1 o.0 o.1 o.2))
fine n ls false h k = (λ t. (h, λ l a b. absurd (let x : false ≡ true = k.1 (l, a, b) in cc)), λ r. refl)
