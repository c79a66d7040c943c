-- What the clause of a contradiction does.
use Rattle.std.proofs.Common.{inl, inr, ◌≡◌, ◌⊎◌, ℕ, nat_eq, Bool, true, false, not, Option, Some, None, List, [], ◌∷◌}
use Rattle.std.proofs.Common.{get_or, All, Contains, refl, sym, subst, arith}
use Rattle.std.proofs.lemmas.List.Elements.{All-cons, All-nil, All-head, All-tail, Contains-append_right}
use Rattle.lit_core.specs.declared.literals.Lit.{Lit}
use Rattle.lit_core.specs.Literals.{value_in}
use Rattle.lit_core.specs.Truth.{IsFalsified, IsSatisfied, IsUnitAt}
use Rattle.ground_core.specs.declared.parts.AggCon.{AggCon}
use Rattle.ground_core.specs.Meaning.{SumHolds}
use Rattle.ground_core.specs.Intervals.{known_of, changed, contradicts, refuting}
use Rattle.aggregate_propagators.specs.Implied.{assigned, under, Decides}
use Rattle.aggregate_propagators.specs.Spared.{short_clause_of}
use Rattle.aggregate_propagators.proofs.Bounds.{contradiction-is-sound}
use Rattle.aggregate_propagators.proofs.Units.{by-var}
use Rattle.aggregate_propagators.proofs.Deciding.{other-none}
use Rattle.aggregate_propagators.proofs.Spares.{few-suffice}

-- the clause of a contradiction
pub is-alone : (a : ℕ → Option Bool) (c : AggCon) (cl : List Lit) → cl ≡ short_clause_of a c → contradicts a c ≡ true
    → contradicts (refuting cl) c ≡ true
is-alone a c cl e w = subst (λ ls. contradicts (refuting ls) c ≡ true) (sym e) (few-suffice a c w).1

pub is-held : (a : ℕ → Option Bool) (c : AggCon) (cl : List Lit) → cl ≡ short_clause_of a c → contradicts a c ≡ true
    → (v : ℕ → Bool) → SumHolds v c → IsSatisfied v cl
is-held a c cl e w v h = contradiction-is-sound c cl v (is-alone a c cl e w) h

pub is-false : (xs : List (Option Bool)) (c : AggCon) (cl : List Lit) → cl ≡ short_clause_of (assigned xs) c
    → contradicts (assigned xs) c ≡ true → IsFalsified xs cl
is-false xs c cl e w = subst (λ ls. All (λ l. known_of (assigned xs) l ≡ Some false) ls) (sym e)
    (few-suffice (assigned xs) c w).0

-- where each literal of a list is one certain literal or false, the list has that literal or all are false
found-more : (F : Lit → Type 0) (l m : Lit) (ls : List Lit) → (m ≡ l) ⊎ F m → Contains ls l ⊎ All F ls
    → Contains (m ∷ ls) l ⊎ All F (m ∷ ls)
found-more F l m ls (inl e) rest = inl (subst (λ x. Contains (m ∷ ls) x) e (0, omega arith, refl))
found-more F l m ls (inr f) (inl k) = inl (Contains-append_right (m ∷ []) ls l k)
found-more F l m ls (inr f) (inr h) = inr (All-cons F m ls f h)

found-or : (F : Lit → Type 0) (l : Lit) (ls : List Lit) → All (λ m. (m ≡ l) ⊎ F m) ls → Contains ls l ⊎ All F ls
found-or F l [] h = inr (All-nil F)
found-or F l (m ∷ ls) h =
    found-more F l m ls (All-head (λ m. (m ≡ l) ⊎ F m) m ls h) (found-or F l ls (All-tail (λ m. (m ≡ l) ⊎ F m) m ls h))

unit-or : (xs : List (Option Bool)) (l : Lit) (cl : List Lit) → value_in xs l ≡ None
    → All (λ m. (m ≡ l) ⊎ (value_in xs m ≡ Some false)) cl
    → Contains cl l ⊎ IsFalsified xs cl → IsFalsified xs cl ⊎ ((l : Lit) × IsUnitAt xs cl l)
unit-or xs l cl e h (inl k) = inr (l, record { member = k; unassigned = e; others = h })
unit-or xs l cl e h (inr f) = inl f

pub is-unit : (xs : List (Option Bool)) (c : AggCon) (l : Lit) (cl : List Lit)
    → cl ≡ short_clause_of (under (assigned xs) (Some l)) c → Decides (assigned xs) c l
    → IsFalsified xs cl ⊎ ((l : Lit) × IsUnitAt xs cl l)
is-unit xs c l cl e d =
    let a = assigned xs in
    let s = l.positive in
    let now = changed a l.var.0 s in
    let un : known_of a l ≡ None = d.unassigned in
    let other : Lit = record { var = l.var; positive = not s } in
    let wrong : All (λ m. known_of now m ≡ Some false) cl =
    subst (λ ls. All (λ m. known_of now m ≡ Some false) ls) (sym e) (few-suffice now c d.wrong).0 in
    let all : All (λ m. (m ≡ other) ⊎ (known_of a m ≡ Some false)) cl =
    λ k x lt. by-var a l (get_or cl k x) s (nat_eq l.var.0 (get_or cl k x).var.0) refl (wrong k x lt) in
    unit-or xs other cl (other-none a l un) all (found-or (λ m. value_in xs m ≡ Some false) other cl all)
