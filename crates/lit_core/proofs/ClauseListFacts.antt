-- Clauses whose literals stand side by side.
use Rattle.std.proofs.Common.{◌≡◌, ℕ, zero, suc, ◌<◌, ◌≤◌, ◌+◌, ◌-◌, ◌^◌, Option, Some, None, List, [], ◌∷◌, ◌++◌}
use Rattle.std.proofs.Common.{length, length-append, map, take, drop, refl, sym, ap, ◌∙◌, arith, slice_get, subst, All}
use Rattle.std.specs.Prelude.{slice_index_or}
use Rattle.std.proofs.lemmas.Option.{same_Some}
use Rattle.std.proofs.lemmas.List.{take-append-le, drop-append-le, drop-take, length-drop, length-take, take_all}
use Rattle.std.proofs.lemmas.List.{take-take}
use Rattle.std.proofs.lemmas.List.Elements.{All-nil, All-cons}
use Rattle.std.proofs.Math.Seq.{drop-append_seam}
use Rattle.lit_core.specs.declared.literals.Lit.{Lit}
use Rattle.lit_core.specs.ClauseListFields.{clauses_from, Ascends}

ascends-le : (s : ℕ) (ends : List ℕ) (last : ℕ) → Ascends s ends last → s ≤ last
ascends-le s [] last a = omega (arith, a)
ascends-le s (e ∷ ends) last a =
    let first : s ≤ e = a.0 in
    let rest = ascends-le e ends last a.1 in
    omega arith

-- there are as many clauses as ends
pub length-clauses : (lits : List Lit) (s : ℕ) (ends : List ℕ) → length (clauses_from lits s ends) ≡ length ends
length-clauses lits s [] = refl
length-clauses lits s (e ∷ ends) = ap suc (length-clauses lits e ends)

-- each clause begins where it ends or before, and ends where all end or before
pub bounds : (s : ℕ) (ends : List ℕ) (last i e : ℕ) → Ascends s ends last → slice_get ends i ≡ Some e
    → (slice_index_or (s ∷ ends) i 0 ≤ e) × (e ≤ last)
bounds s [] last i e a h = cc
bounds s (x ∷ ends) last zero e a h =
    let is : x ≡ e = same_Some x e h in
    let first : s ≤ x = a.0 in
    let rest = ascends-le x ends last a.1 in
    (omega arith, omega arith)
bounds s (x ∷ ends) last (suc i) e a h = bounds x ends last i e a.1 h

-- the clause at a place
pub clause-at : (lits : List Lit) (s : ℕ) (ends : List ℕ) (i e : ℕ) → slice_get ends i ≡ Some e
    → slice_get (clauses_from lits s ends) i ≡ Some (take (e - slice_index_or (s ∷ ends) i 0)
    (drop (slice_index_or (s ∷ ends) i 0) lits))
clause-at lits s [] i e h = cc
clause-at lits s (x ∷ ends) zero e h = ap (λ k. Some (take (k - s) (drop s lits))) (same_Some x e h)
clause-at lits s (x ∷ ends) (suc i) e h = clause-at lits x ends i e h

-- a longer list of literals has the same parts
part-longer : (lits more : List Lit) (s e : ℕ) → s ≤ e → e ≤ length lits → take (e - s) (drop s (lits ++ more))
    ≡ take (e - s) (drop s lits)
part-longer lits more s e le within =
    let len : length (drop s lits) ≡ length lits - s = length-drop s lits in
    ap (take (e - s)) (drop-append-le s lits more (omega arith)) ∙ take-append-le (e - s) (drop s lits) more
    (omega arith)

-- and one that was cut behind them
part-shorter : (lits : List Lit) (s e cut : ℕ) → s ≤ e → e ≤ cut → take (e - s) (drop s (take cut lits))
    ≡ take (e - s) (drop s lits)
part-shorter lits s e cut le within =
    let sum : cut ≡ s + (cut - s) = omega arith in
    let dropped : drop s (take cut lits) ≡ take (cut - s) (drop s lits) =
    ap (λ k. drop s (take k lits)) sum ∙ drop-take s (cut - s) lits in
    ap (take (e - s)) dropped ∙ taken (e - s) (cut - s) (drop s lits) (omega arith)
  where
    taken : (n m : ℕ) (xs : List Lit) → n ≤ m → take n (take m xs) ≡ take n xs
    taken zero m xs h = refl
    taken (suc n) zero xs h = absurd (omega (arith, h))
    taken (suc n) (suc m) [] h = refl
    taken (suc n) (suc m) (x ∷ xs) h = ap (λ ys. x ∷ ys) (taken n m xs (omega (arith, h)))

pub clauses-join : (lits more : List Lit) (s : ℕ) (ends others : List ℕ) → Ascends s ends (length lits)
    → clauses_from (lits ++ more) s (ends ++ others) ≡ clauses_from lits s ends
    ++ clauses_from (lits ++ more) (length lits) others
clauses-join lits more s [] others a = ap (λ k. clauses_from (lits ++ more) k others) a
clauses-join lits more s (e ∷ ends) others a =
    let rest : e ≤ length lits = ascends-le e ends (length lits) a.1 in
    rw (part-longer lits more s e a.0 rest, clauses-join lits more e ends others a.1) refl

pub ascends-join : (s : ℕ) (ends others : List ℕ) (mid last : ℕ) → Ascends s ends mid → Ascends mid others last
    → Ascends s (ends ++ others) last
ascends-join s [] others mid last a b = subst (λ k. Ascends k others last) (sym a) b
ascends-join s (e ∷ ends) others mid last a b = (a.0, ascends-join e ends others mid last a.1 b)

-- one clause more
pub clauses-push : (lits more : List Lit) (ends : List ℕ) (e : ℕ) → Ascends 0 ends (length lits)
    → e ≡ length lits + length more → clauses_from (lits ++ more) 0 (ends ++ e ∷ []) ≡ clauses_from lits 0 ends
    ++ more ∷ []
clauses-push lits more ends e a is =
    let last : take (e - length lits) (drop (length lits) (lits ++ more)) ≡ more =
    ap (take (e - length lits)) (drop-append_seam lits more) ∙ take_all (e - length lits) more (omega arith) in
    clauses-join lits more 0 ends (e ∷ []) a ∙ ap (λ c. clauses_from lits 0 ends ++ c ∷ []) last

pub ascends-push : (lits more : List Lit) (ends : List ℕ) (e : ℕ) → Ascends 0 ends (length lits)
    → e ≡ length lits + length more → Ascends 0 (ends ++ e ∷ []) (length (lits ++ more))
ascends-push lits more ends e a is =
    let last : e ≡ length (lits ++ more) = is ∙ sym (length-append lits more) in
    ascends-join 0 ends (e ∷ []) (length lits) (length (lits ++ more)) a (omega arith, last)

drop-behind : (front lits : List Lit) (s : ℕ) → drop (length front + s) (front ++ lits) ≡ drop s lits
drop-behind [] lits s = ap (λ k. drop k lits) (omega arith)
drop-behind (x ∷ front) lits s =
    let e : length (x ∷ front) + s ≡ suc (length front + s) = omega arith in
    ap (λ k. drop k (x ∷ front ++ lits)) e ∙ drop-behind front lits s

-- the same clauses, behind other literals
clauses-moved : (front lits : List Lit) (s : ℕ) (ends : List ℕ) → clauses_from (front ++ lits) (length front + s)
    (map (λ e. length front + e) ends) ≡ clauses_from lits s ends
clauses-moved front lits s [] = refl
clauses-moved front lits s (e ∷ ends) =
    let size : length front + e - (length front + s) ≡ e - s = omega arith in
    rw (size, drop-behind front lits s, clauses-moved front lits e ends) refl

ascends-moved : (f s : ℕ) (ends : List ℕ) (last : ℕ) → Ascends s ends last → Ascends (f + s)
    (map (λ e. f + e) ends) (f + last)
ascends-moved f s [] last a = ap (λ k. f + k) a
ascends-moved f s (e ∷ ends) last a = let le : s ≤ e = a.0 in (omega arith, ascends-moved f e ends last a.1)

-- the clauses of another list behind those of this one
pub clauses-append : (lits more : List Lit) (ends others : List ℕ) → Ascends 0 ends (length lits)
    → clauses_from (lits ++ more) 0 (ends ++ map (λ e. length lits + e) others) ≡ clauses_from lits 0 ends
    ++ clauses_from more 0 others
clauses-append lits more ends others a =
    let seam : length lits ≡ length lits + 0 = omega arith in
    let moved : List ℕ = map (λ e. length lits + e) others in
    clauses-join lits more 0 ends moved a
    ∙ ap (λ k. clauses_from lits 0 ends ++ clauses_from (lits ++ more) k moved) seam
    ∙ ap (λ cs. clauses_from lits 0 ends ++ cs) (clauses-moved lits more 0 others)

pub ascends-append : (lits more : List Lit) (ends others : List ℕ) → Ascends 0 ends (length lits)
    → Ascends 0 others (length more) → Ascends 0 (ends ++ map (λ e. length lits + e) others) (length (lits ++ more))
ascends-append lits more ends others a b =
    let seam : length lits + 0 ≡ length lits = omega arith in
    let moved = ascends-moved (length lits) 0 others (length more) b in
    let there : Ascends (length lits) (map (λ e. length lits + e) others) (length lits + length more) =
    subst (λ k. Ascends k (map (λ e. length lits + e) others) (length lits + length more)) seam moved in
    subst (Ascends 0 (ends ++ map (λ e. length lits + e) others)) (sym (length-append lits more))
    (ascends-join 0 ends (map (λ e. length lits + e) others) (length lits) (length lits + length more) a there)

-- no end is past the last
pub all-within : (s : ℕ) (ends : List ℕ) (last : ℕ) → Ascends s ends last → All (λ e. e ≤ last) ends
all-within s [] last a = All-nil (λ e. e ≤ last)
all-within s (e ∷ ends) last a = All-cons (λ e. e ≤ last) e ends (ascends-le e ends last a.1)
    (all-within e ends last a.1)

-- where the first clauses end
start-within : (s : ℕ) (ends : List ℕ) (last n : ℕ) → Ascends s ends last → n ≤ length ends
    → (s ≤ slice_index_or (s ∷ ends) n 0) × (slice_index_or (s ∷ ends) n 0 ≤ last)
start-within s ends last zero a le = (omega arith, ascends-le s ends last a)
start-within s [] last (suc n) a le = absurd (omega (arith, le))
start-within s (e ∷ ends) last (suc n) a le =
    let rest = start-within e ends last n a.1 (omega (arith, le)) in
    let first : s ≤ e = a.0 in
    (omega (arith, rest.0), rest.1)

pub ascends-cut : (s : ℕ) (ends : List ℕ) (last n : ℕ) → Ascends s ends last → n ≤ length ends → Ascends s
    (take n ends) (slice_index_or (s ∷ ends) n 0)
ascends-cut s ends last zero a le = refl
ascends-cut s [] last (suc n) a le = absurd (omega (arith, le))
ascends-cut s (e ∷ ends) last (suc n) a le = (a.0, ascends-cut e ends last n a.1 (omega (arith, le)))

-- the first clauses, of the literals up to where they end
pub clauses-cut : (lits : List Lit) (s : ℕ) (ends : List ℕ) (n : ℕ) → Ascends s ends (length lits)
    → n ≤ length ends → clauses_from (take (slice_index_or (s ∷ ends) n 0) lits) s (take n ends)
    ≡ take n (clauses_from lits s ends)
clauses-cut lits s ends zero a le = refl
clauses-cut lits s [] (suc n) a le = absurd (omega (arith, le))
clauses-cut lits s (e ∷ ends) (suc n) a le =
    let within = start-within e ends (length lits) n a.1 (omega (arith, le)) in
    let head : take (e - s) (drop s (take (slice_index_or (e ∷ ends) n 0) lits)) ≡ take (e - s) (drop s lits) =
    part-shorter lits s e (slice_index_or (e ∷ ends) n 0) a.0 within.0 in
    rw (head, clauses-cut lits e ends n a.1 (omega (arith, le))) refl

pub length-cut : (lits : List Lit) (ends : List ℕ) (n : ℕ) → Ascends 0 ends (length lits) → n ≤ length ends
    → length (take (slice_index_or (0 ∷ ends) n 0) lits) ≡ slice_index_or (0 ∷ ends) n 0
length-cut lits ends n a le =
    let within = start-within 0 ends (length lits) n a le in
    let e = slice_index_or (0 ∷ ends) n 0 in
    let len = length-take e lits in
    omega (arith, len, within.1)

-- the same in other memory
pub kept-same : (xs ys : List Lit) (es fs : List ℕ) → xs ≡ ys → es ≡ fs → Ascends 0 fs (length ys)
    → Ascends 0 es (length xs)
kept-same xs ys es fs e f h = rw (e, f) h

pub clauses-same : (xs ys : List Lit) (es fs : List ℕ) → xs ≡ ys → es ≡ fs → clauses_from xs 0 es
    ≡ clauses_from ys 0 fs
clauses-same xs ys es fs e f = rw (e, f) refl
