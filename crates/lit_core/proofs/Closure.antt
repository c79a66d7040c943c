-- Unit propagation over finitely many clauses comes to an end.
use Rattle.std.proofs.Common.{◌≡◌, ℕ, ◌<◌, ◌≤◌, zero, suc, List, [], ◌∷◌, ◌++◌, length, sym, subst, ◌∙◌, ◌⊎◌, inl, inr}
use Rattle.std.proofs.Common.{⊎_elim, Contains, arith}
use Rattle.std.proofs.lemmas.List.{append_assoc, append-nil}
use Rattle.std.proofs.lemmas.List.Elements.{Contains-append_left, Contains-append_right, Contains-push}
use Rattle.lit_core.specs.declared.literals.Lit.{Lit}
use Rattle.lit_core.specs.Literals.{negated}
use Rattle.lit_core.specs.Refutation.{IsOpenUnder, IsUnitUnder}
use Rattle.lit_core.specs.Freshness.{Derives}
use Rattle.lit_core.proofs.LiteralFacts.{decide_literal, decide_member, decide_all, Contains-cons_cases, Contains-head}
use Rattle.lit_core.proofs.LiteralFacts.{Contains-tail, nothing_in_none}

decide_open : (inforce : List Lit) (l : Lit) → IsOpenUnder inforce l ⊎ (IsOpenUnder inforce l → ⊥)
decide_open inforce l =
    ⊎_elim
    (λ h. inr (λ o. o.0 h))
    (λ n. ⊎_elim (λ h. inr (λ o. o.1 h)) (λ m. inl (n, m)) (decide_member inforce (negated l)))
    (decide_member inforce l)

decide_other : (inforce : List Lit) (l m : Lit) → ((m ≡ l) ⊎ Contains inforce (negated m))
    ⊎ ((m ≡ l) ⊎ Contains inforce (negated m) → ⊥)
decide_other inforce l m =
    ⊎_elim
    (λ e. inl (inl e))
    (λ n. ⊎_elim (λ h. inl (inr h)) (λ k. inr (λ either. ⊎_elim n k either)) (decide_member inforce (negated m)))
    (decide_literal m l)

decide_unit : (inforce c : List Lit) (l : Lit) → Contains c l → IsUnitUnder inforce c l ⊎ (IsUnitUnder inforce c l → ⊥)
decide_unit inforce c l has =
    ⊎_elim
    (λ o. ⊎_elim
    (λ a. inl (record { member = has; opened = o; others = a }))
    (λ n. inr (λ u. n u.others))
    (decide_all (λ m. (m ≡ l) ⊎ Contains inforce (negated m)) (decide_other inforce l) c))
    (λ n. inr (λ u. n u.opened))
    (decide_open inforce l)

-- some literal of a part of the clause is the one that is left open, or none is
find_in : (inforce c part : List Lit) → ((l : Lit) → Contains part l → Contains c l)
    → ((l : Lit) × IsUnitUnder inforce c l) ⊎ ((l : Lit) → Contains part l → IsUnitUnder inforce c l → ⊥)
find_in inforce c [] within = inr (λ l h u. nothing_in_none l h)
find_in inforce c (x ∷ part) within =
    ⊎_elim
    (λ u. inl (x, u))
    (λ n. ⊎_elim
    (λ found. inl found)
    (λ none. inr (λ l h u. ⊎_elim (λ e. n (subst (λ (y : Lit). IsUnitUnder inforce c y) (sym e) u))
    (λ rest. none l rest u) (Contains-cons_cases x part l h)))
    (find_in inforce c part (λ l h. within l (Contains-tail x part l h))))
    (decide_unit inforce c x (within x (Contains-head x part)))

-- some clause is unit, or none is
find_unit : (inforce : List Lit) (clauses : List (List Lit))
    → ((c : List Lit) × Contains clauses c × ((l : Lit) × IsUnitUnder inforce c l)) ⊎ ((c : List Lit) (l : Lit)
    → Contains clauses c → IsUnitUnder inforce c l → ⊥)
find_unit inforce [] = inr (λ c l h u. nothing_in_none c h)
find_unit inforce (c ∷ cs) =
    ⊎_elim
    (λ found. inl (c, Contains-head c cs, found))
    (λ none. ⊎_elim
    (λ later. inl (later.0, Contains-tail c cs later.0 later.1, later.2))
    (λ nothing. inr (λ d l h u. ⊎_elim
    (λ e. let v : IsUnitUnder inforce c l = subst (λ (y : List Lit). IsUnitUnder inforce y l) (sym e) u in
    none l v.member v)
    (λ rest. nothing d l rest u)
    (Contains-cons_cases c cs d h)))
    (find_unit inforce cs))
    (find_in inforce c c (λ l h. h))

-- one literal may be struck off a list that has it
strike : (xs : List Lit) (l : Lit) → Contains xs l → (ys : List Lit) × (length ys < length xs)
    × ((m : Lit) → Contains xs m → (m ≡ l) ⊎ Contains ys m)
strike [] l h = absurd (nothing_in_none l h)
strike (x ∷ xs) l h =
    ⊎_elim
    (λ e. (xs, omega arith, λ m has. ⊎_elim (λ f. inl (sym f ∙ e)) (λ rest. inr rest) (Contains-cons_cases x xs m has)))
    (λ later. let r = strike xs l later in (
      x ∷ r.0,
      omega (arith, r.1),
      λ m has. ⊎_elim
          (λ f. inr (subst (λ (y : Lit). Contains (x ∷ r.0) y) f (Contains-head x r.0)))
          (λ rest. ⊎_elim (λ e. inl e) (λ k. inr (Contains-tail x r.0 m k)) (r.2 m rest))
          (Contains-cons_cases x xs m has),
    ))
    (Contains-cons_cases x xs l h)

-- each literal of the clauses is in force or among these
abbrev Covers : List (List Lit) → List Lit → List Lit → Type 0
Covers clauses inforce open_ones = (c : List Lit) (l : Lit) → Contains clauses c → Contains c l → Contains inforce l
    ⊎ Contains open_ones l

abbrev Closes : List (List Lit) → List Lit → Type 0
Closes clauses inforce = (given : List Lit) × Derives clauses inforce given × ((c : List Lit) (l : Lit)
    → Contains clauses c → IsUnitUnder (inforce ++ given) c l → ⊥)

-- where no clause is unit, nothing more is given
ends : (clauses : List (List Lit)) (inforce : List Lit) → ((c : List Lit) (l : Lit) → Contains clauses c
    → IsUnitUnder inforce c l → ⊥) → Closes clauses inforce
ends clauses inforce none = (
  [],
  tt,
  λ c l h u. none c l h (subst (λ (xs : List Lit). IsUnitUnder xs c l)
      (append-nil inforce) u),
)

goes_on : (clauses : List (List Lit)) (inforce : List Lit) (c : List Lit) (l : Lit) → Contains clauses c
    → IsUnitUnder inforce c l → Closes clauses (inforce ++ l ∷ []) → Closes clauses inforce
goes_on clauses inforce c l h u rest = (
  l ∷ rest.0,
  ((c, h, u), rest.1),
  λ d m has v. rest.2 d m has (subst (λ (xs : List Lit). IsUnitUnder xs d m)
      (sym (append_assoc inforce (l ∷ []) rest.0)) v),
)

-- what is still open covers the clauses after one more literal
covers_more : (clauses : List (List Lit)) (inforce : List Lit) (l : Lit) (open_ones fewer : List Lit)
    → Covers clauses inforce open_ones → ((m : Lit) → Contains open_ones m → (m ≡ l) ⊎ Contains fewer m)
    → Covers clauses (inforce ++ l ∷ []) fewer
covers_more clauses inforce l open_ones fewer covers struck c m h has =
    ⊎_elim
    (λ in_force. inl (Contains-append_left inforce (l ∷ []) m in_force))
    (λ among. ⊎_elim (λ e. inl (subst (λ (x : Lit). Contains (inforce ++ l ∷ []) x) (sym e) (Contains-push inforce l)))
    (λ k. inr k) (struck m among))
    (covers c m h has)

still_open : (clauses : List (List Lit)) (inforce open_ones : List Lit) → Covers clauses inforce open_ones
    → (c : List Lit) (l : Lit) → Contains clauses c → IsUnitUnder inforce c l → Contains open_ones l
still_open clauses inforce open_ones covers c l h u = ⊎_elim (λ in_force. absurd (u.opened.0 in_force)) (λ among. among)
    (covers c l h u.member)

closes : (clauses : List (List Lit)) (n : ℕ) (inforce open_ones : List Lit) → length open_ones ≤ n
    → Covers clauses inforce open_ones → Closes clauses inforce
closes clauses zero inforce open_ones small covers =
    ⊎_elim
    (λ found. let among = still_open clauses inforce open_ones covers found.0 found.2.0 found.1 found.2.1 in
    absurd (omega (arith, among.1)))
    (λ none. ends clauses inforce none)
    (find_unit inforce clauses)
closes clauses (suc n) inforce open_ones small covers =
    ⊎_elim
    (λ found.
    let l : Lit = found.2.0 in
    let struck = strike open_ones l (still_open clauses inforce open_ones covers found.0 l found.1 found.2.1) in
    goes_on clauses inforce found.0 l found.1 found.2.1
    (closes clauses n (inforce ++ l ∷ []) struck.0 (omega (arith, struck.1))
    (covers_more clauses inforce l open_ones struck.0 covers struck.2)))
    (λ none. ends clauses inforce none)
    (find_unit inforce clauses)

literals_of : List (List Lit) → List Lit
literals_of [] = []
literals_of (c ∷ cs) = c ++ literals_of cs

all_covered : (clauses : List (List Lit)) (c : List Lit) (l : Lit) → Contains clauses c → Contains c l
    → Contains (literals_of clauses) l
unfolding literals_of
all_covered [] c l h has = absurd (nothing_in_none c h)
all_covered (d ∷ ds) c l h has =
    ⊎_elim
    (λ e. Contains-append_left d (literals_of ds) l (subst (λ (x : List Lit). Contains x l) (sym e) has))
    (λ later. Contains-append_right d (literals_of ds) l (all_covered ds c l later has))
    (Contains-cons_cases d ds c h)

-- unit propagation ends, at literals under which no clause is unit
pub closure : (clauses : List (List Lit)) (inforce : List Lit) → (given : List Lit) × Derives clauses inforce given
    × ((c : List Lit) (l : Lit) → Contains clauses c → IsUnitUnder (inforce ++ given) c l → ⊥)
closure clauses inforce = closes clauses (length (literals_of clauses)) inforce (literals_of clauses) (omega arith)
    (λ c l h has. inr (all_covered clauses c l h has))
