-- Steps over the clauses of functions and over facts.
use Rattle.std.proofs.Common.{◌≡◌, ℕ, zero, suc, ◌+◌, ◌*◌, ◌<◌, ◌≤◌, Bool, true, false, cond, if◌then◌else◌, List, []}
use Rattle.std.proofs.Common.{◌∷◌, ◌++◌}
use Rattle.std.proofs.Common.{filter, length, take, get_or, Option, None, is_some, slice_get, unwrap_or, refl, sym, ap}
use Rattle.std.proofs.Common.{subst, ◌∙◌, arith, append_assoc, map, pos, neg_ℤ}
use Rattle.std.specs.List.{flat_map, enumerate_from}
use Rattle.std.proofs.lemmas.List.{append-nil, take_all}
use Rattle.std.proofs.lemmas.List.Elements.{All-cons, All-map}
use Rattle.std.proofs.lemmas.List.Sums.{sum_by-take-drop}
use Rattle.kb_logic.specs.declared.elements.Elem.{Elem}
use Rattle.kb_logic.specs.declared.vocabularies.Symbol.{Symbol}
use Rattle.lit_core.specs.declared.literals.Lit.{Lit}
use Rattle.ground_core.specs.declared.parts.Part.{Part}
use Rattle.ground_core.specs.declared.parts.AggCon.{AggCon}
use Rattle.ground_core.specs.Atoms.{ground_atoms}
use Rattle.ground_core.specs.Problems.{ProblemState, AreLitsOf, IsLitOf, IsSumOf}
use Rattle.term_values.specs.GroundBases.{GroundBase, atoms_in, first_var, tuples_at, values_at}
use Rattle.term_values.specs.KnownBases.{IsGroundBase}
use Rattle.def_ground.specs.Cases.{with_clauses}
use Rattle.def_ground.specs.Problems.{fact_clause, fact_clauses, open_variables, said_tuples, saying}
use Rattle.def_ground.specs.Problems.{tuple_says, function_says}
use Rattle.def_ground.specs.Problems.{counting, at_most_one_beside}
use Rattle.term_values.proofs.Places.{atoms-count}
use Rattle.def_ground.proofs.WithClauses.{with_none}
use Rattle.def_ground.proofs.StartLaws.{atoms-length, said-fewer, start-room, variables-in}
use Rattle.ground_walk.specs.Groundable.{HasVars}
use Rattle.ground_walk.proofs.LeafSteps.{room-of}

-- clauses and constraints that are said one after the other
pub saying-no-sums : (p : ProblemState) (cs : List (List Lit)) → with_clauses p cs ≡ saying p cs []
saying-no-sums p cs = ap (λ ss. record p { clauses = p.clauses ++ cs; sums = ss }) (sym (append-nil p.sums))

pub saying-none : (p : ProblemState) → p ≡ saying p [] []
saying-none p = sym (with_none p) ∙ saying-no-sums p []

pub saying-more : (p : ProblemState) (cs ds : List (List Lit)) (ss ts : List AggCon)
    → saying (saying p cs ss) ds ts ≡ saying p (cs ++ ds) (ss ++ ts)
saying-more p cs ds ss ts =
    ap (λ xs. record p { clauses = xs; sums = (p.sums ++ ss) ++ ts }) (append_assoc p.clauses cs ds)
    ∙ ap (λ ys. record p { clauses = p.clauses ++ (cs ++ ds); sums = ys }) (append_assoc p.sums ss ts)

-- the variables of the constraint are those of the literals
pub beside-within : (n : ℕ) (l : Lit) (ls : List Lit) → IsLitOf n l → AreLitsOf n ls
    → IsSumOf n (at_most_one_beside l ls)
beside-within n l ls here rest = (
  here,
  All-cons (λ (p : Part). IsLitOf n p.lit) (counting (neg_ℤ (pos 2)) l) (map (counting (neg_ℤ (pos 1))) ls) here
      (All-map (λ (p : Part). IsLitOf n p.lit) (counting (neg_ℤ (pos 1))) ls rest),
)

next-numbered : {X Y : Type 0} (F : ℕ → List Y) (n k : ℕ) (xs : List X) → k < length xs
    → flat_map (λ (r : ℕ × X). F r.0) (take (k + 1) (enumerate_from n xs))
    ≡ flat_map (λ (r : ℕ × X). F r.0) (take k (enumerate_from n xs)) ++ F (n + k)
next-numbered F n k [] h = absurd (omega (arith, h))
next-numbered F n zero (x ∷ xs) h = let number : n ≡ n + 0 = omega arith in append-nil (F n) ∙ ap F number
next-numbered {X} {Y} F n (suc k) (x ∷ xs) h =
    let next : suc k + 1 ≡ suc (k + 1) = omega arith in
    let number : (n + 1) + k ≡ n + suc k = omega arith in
    let T : ℕ × X → List Y = λ r. F r.0 in
    ap (λ m. flat_map T (take m ((n, x) ∷ enumerate_from (n + 1) xs))) next
    ∙ ap (λ cs. F n ++ cs) (next-numbered F (n + 1) k xs (omega (arith, h)))
    ∙ sym (append_assoc (F n) (flat_map T (take k (enumerate_from (n + 1) xs))) (F ((n + 1) + k)))
    ∙ ap (λ m. (F n ++ flat_map T (take k (enumerate_from (n + 1) xs))) ++ F m) number

-- what is said at the first tuples of a function
abbrev pub said-so-far : {Y : Type 0} → (List Lit → List Y) → GroundBase → ℕ → ℕ → List Y
said-so-far say b s k =
    flat_map (λ (r : ℕ × List Elem). tuple_says say b s r.0)
    (take k (enumerate_from 0 (said_tuples (values_at b s) (tuples_at b s))))

pub next-said : {Y : Type 0} (say : List Lit → List Y) (b : GroundBase) (s k : ℕ)
    → k < length (said_tuples (values_at b s) (tuples_at b s))
    → said-so-far say b s (k + 1) ≡ said-so-far say b s k ++ tuple_says say b s k
next-said say b s k h =
    let number : 0 + k ≡ k = omega arith in
    next-numbered (tuple_says say b s) 0 k (said_tuples (values_at b s) (tuples_at b s)) h
    ∙ ap (λ n. said-so-far say b s k ++ tuple_says say b s n) number

length-numbered : {X : Type 0} (n : ℕ) (xs : List X) → length (enumerate_from n xs) ≡ length xs
length-numbered n [] = refl
length-numbered n (x ∷ xs) = ap suc (length-numbered (n + 1) xs)

pub all-said : {Y : Type 0} (say : List Lit → List Y) (b : GroundBase) (s k : ℕ)
    → length (said_tuples (values_at b s) (tuples_at b s)) ≤ k → said-so-far say b s k ≡ function_says say b s
all-said say b s k h =
    let ts = said_tuples (values_at b s) (tuples_at b s) in
    let e = length-numbered 0 ts in
    ap (flat_map (λ (r : ℕ × List Elem). tuple_says say b s r.0))
    (take_all k (enumerate_from 0 ts) (omega (arith, h, e)))

-- the variables of a tuple are those of atoms
module _ (b : GroundBase) (p : ProblemState) (is : IsGroundBase b) (vars : HasVars b p) (s i : ℕ)
    (said : i < length (said_tuples (values_at b s) (tuples_at b s))) where
  within : i < length (tuples_at b s)
  within = let fewer = said-fewer (values_at b s) (tuples_at b s) in omega (arith, said, fewer)

  pub tuple-lits : AreLitsOf p.vars (open_variables b (first_var b s + i * length (values_at b s)) (values_at b s))
  tuple-lits =
      variables-in b p.vars (first_var b s + i * length (values_at b s)) (values_at b s) (omega arith)
      (λ j below. (room-of b p is vars).functions s i j within below)

-- they are at most as many as there are
first-below : (b : GroundBase) (s : ℕ) → first_var b s ≤ length (ground_atoms b.vocabulary.symbols b.domains) + 1
first-below b s =
    let all = atoms-length b.vocabulary.symbols b.domains ∙ atoms-count b in
    let parts = sum_by-take-drop (atoms_in b.domains) b.vocabulary.symbols s in
    omega (arith, all, parts)

pub tuple-below : (b : GroundBase) (is : IsGroundBase b) (s i : ℕ)
    → i < length (said_tuples (values_at b s) (tuples_at b s))
    → first_var b s + i * length (values_at b s) + length (values_at b s)
    ≤ length (ground_atoms b.vocabulary.symbols b.domains) + 1
tuple-below b is s i said = by (values_at b s) refl
  where
    by : (xs : List Elem) → values_at b s ≡ xs → first_var b s + i * length xs + length xs
        ≤ length (ground_atoms b.vocabulary.symbols b.domains) + 1
    by [] e = let low = first-below b s in let none : i * 0 ≡ 0 = omega arith in omega (arith, low, none)
    by (x ∷ xs) e =
        let k : length xs < length (values_at b s) = subst (λ ys. length xs < length ys) (sym e) (omega arith) in
        let fewer = said-fewer (values_at b s) (tuples_at b s) in
        let top = (start-room b is).functions s i (length xs) (omega (arith, said, fewer)) k in
        let top' : first_var b s + i * length (x ∷ xs) + length xs
        ≤ length (ground_atoms b.vocabulary.symbols b.domains) =
        subst (λ (ys : List Elem). first_var b s + i * length ys + length xs
        ≤ length (ground_atoms b.vocabulary.symbols b.domains)) e top in
        omega (arith, top')

-- what is said of the functions among symbols with these numbers
abbrev pub of-functions : {Y : Type 0} → (List Lit → List Y) → GroundBase → ℕ → List Symbol → List Y
of-functions say b n xs =
    flat_map (λ (s : ℕ × Symbol). function_says say b s.0)
    (filter (λ (s : ℕ × Symbol). is_some s.1.value) (enumerate_from n xs))

abbrev pub if-function : {Y : Type 0} → (List Lit → List Y) → GroundBase → Bool → ℕ → List Y
if-function say b t s = if t then function_says say b s else []

one-more : {Y : Type 0} (say : List Lit → List Y) (b : GroundBase) (t : Bool) (n : ℕ) (x : Symbol)
    (rest : List (ℕ × Symbol)) (cs ds : List Y)
    → flat_map (λ (s : ℕ × Symbol). function_says say b s.0) rest ≡ cs ++ ds
    → flat_map (λ (s : ℕ × Symbol). function_says say b s.0) (cond t ((n, x) ∷ rest) rest)
    ≡ (if-function say b t n ++ cs) ++ ds
one-more say b true n x rest cs ds h =
    ap (λ es. function_says say b n ++ es) h ∙ sym (append_assoc (function_says say b n) cs ds)
one-more say b false n x rest cs ds h = h

one-first : {Y : Type 0} (say : List Lit → List Y) (b : GroundBase) (t : Bool) (n : ℕ) (x : Symbol)
    (rest : List (ℕ × Symbol))
    → if-function say b t n ++ flat_map (λ (s : ℕ × Symbol). function_says say b s.0) rest
    ≡ flat_map (λ (s : ℕ × Symbol). function_says say b s.0) (cond t ((n, x) ∷ rest) rest)
one-first say b true n x rest = refl
one-first say b false n x rest = refl

alone : {Y : Type 0} (say : List Lit → List Y) (b : GroundBase) (t : Bool) (n : ℕ) (x : Symbol)
    → flat_map (λ (s : ℕ × Symbol). function_says say b s.0) (cond t ((n, x) ∷ []) []) ≡ if-function say b t n
alone say b true n x = append-nil (function_says say b n)
alone say b false n x = refl

pub next-function : {Y : Type 0} (say : List Lit → List Y) (b : GroundBase) (n k : ℕ) (xs : List Symbol) (x : Symbol)
    → k < length xs → x ≡ get_or xs k x
    → of-functions say b n (take (k + 1) xs)
    ≡ of-functions say b n (take k xs) ++ if-function say b (is_some x.value) (n + k)
next-function say b n k [] x h is = absurd (omega (arith, h))
next-function say b n zero (y ∷ ys) x h is =
    let number : n ≡ n + 0 = omega arith in
    alone say b (is_some y.value) n y ∙ ap (λ (z : Symbol). if-function say b (is_some z.value) n) (sym is)
    ∙ ap (if-function say b (is_some x.value)) number
next-function say b n (suc k) (y ∷ ys) x h is =
    let next : suc k + 1 ≡ suc (k + 1) = omega arith in
    let number : (n + 1) + k ≡ n + suc k = omega arith in
    let T : ℕ × Symbol → Bool = λ s. is_some s.1.value in
    let before = filter T (enumerate_from (n + 1) (take k ys)) in
    let more = filter T (enumerate_from (n + 1) (take (k + 1) ys)) in
    ap (λ m. of-functions say b n (take m (y ∷ ys))) next
    ∙ one-more say b (is_some y.value) n y more (of-functions say b (n + 1) (take k ys))
    (if-function say b (is_some x.value) ((n + 1) + k)) (next-function say b (n + 1) k ys x (omega (arith, h)) is)
    ∙ ap (λ cs. cs ++ if-function say b (is_some x.value) ((n + 1) + k)) (one-first say b (is_some y.value) n y before)
    ∙ ap (λ m. of-functions say b n (y ∷ take k ys) ++ if-function say b (is_some x.value) m) number

-- facts
pub next-fact : (n k : ℕ) (os : List (Option Bool)) → k < length os
    → fact_clauses n (take (k + 1) os)
    ≡ fact_clauses n (take k os) ++ fact_clause (n + k) (unwrap_or (slice_get os k) None)
next-fact n k [] h = absurd (omega (arith, h))
next-fact n zero (o ∷ os) h =
    let number : n ≡ n + 0 = omega arith in append-nil (fact_clause n o) ∙ ap (λ m. fact_clause m o) number
next-fact n (suc k) (o ∷ os) h =
    let next : suc k + 1 ≡ suc (k + 1) = omega arith in
    let number : (n + 1) + k ≡ n + suc k = omega arith in
    let fact = unwrap_or (slice_get os k) None in
    ap (λ m. fact_clauses n (take m (o ∷ os))) next
    ∙ ap (λ cs. fact_clause n o ++ cs) (next-fact (n + 1) k os (omega (arith, h)))
    ∙ sym (append_assoc (fact_clause n o) (fact_clauses (n + 1) (take k os)) (fact_clause ((n + 1) + k) fact))
    ∙ ap (λ m. (fact_clause n o ++ fact_clauses (n + 1) (take k os)) ++ fact_clause m fact) number

pub more-times : (i n : ℕ) → (i + 1) * n ≡ i * n + n
more-times i n = omega arith
