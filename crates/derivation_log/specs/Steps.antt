-- Which entries are steps, and what they leave.
use Rattle.std.specs.Prelude.{◌≡◌, ℕ, ◌+◌, ◌-◌, ◌≤◌, ◌<◌, Bool, true, false, List, [], ◌∷◌, ◌++◌, map, length, All}
use Rattle.std.specs.Prelude.{Contains, ◌⊎◌, Some, slice_get}
use Rattle.kb_logic.specs.declared.elements.ExtInt.{ExtInt}
use Rattle.kb_logic.specs.declared.elements.ExtInt.TheVariants.{NegInf}
use Rattle.kb_logic.specs.declared.syntax.AggKind.{AggKind}
use Rattle.kb_logic.specs.declared.syntax.Cmp.TheVariants as cmp
use Rattle.kb_logic.specs.Denotations.{Denotation, number, aggregate_value, compared}
use Rattle.lit_core.specs.declared.literals.Lit.{Lit}
use Rattle.lit_core.specs.Literals.{negated}
use Rattle.lit_core.specs.Refutation.{FollowsInOrder}
use Rattle.ground_core.specs.declared.parts.Part.{Part}
use Rattle.ground_core.specs.declared.parts.AggCon.{AggCon}
use Rattle.ground_core.specs.declared.parts.GroundTerm.{GroundTerm}
use Rattle.ground_core.specs.declared.parts.TermBound.{TermBound}
use Rattle.ground_core.specs.Problems.{ProblemState, IsLitOf, AreLitsOf}
use Rattle.ground_core.specs.Meaning.{denotation_of_bound, shifted}
use Rattle.ground_core.specs.GateClauses.{clauses_of}
use Rattle.derivation_log.specs.declared.entries.Entry.{Entry}
use Rattle.derivation_log.specs.declared.entries.Entry.TheVariants as entry
use Rattle.derivation_log.specs.declared.claims.Claim.{Claim}
use Rattle.derivation_log.specs.declared.claims.Claim.TheVariants.{Inconsistent, Forced, Least}

-- what the entries so far leave
pub record CheckState : Type 0 where
  -- the greatest variable in use
  pub vars : ℕ
  -- clause number n stands at n - 1
  pub clauses : List (List Lit)
  -- of the `b` entries
  pub bounds : List TermBound
  -- the line of the last `q` entry
  pub line : ℕ
  pub claims : List Claim

abbrev pub start : ProblemState → CheckState
start p = record { vars = p.vars; clauses = clauses_of p; bounds = []; line = 0; claims = [] }

abbrev pub literal : ℕ → Lit
literal n = record { var = record { 0 = n }; positive = true }

abbrev pub with_borne : CheckState → List Lit → CheckState
with_borne st c = record {
  vars = st.vars;
  clauses = st.clauses ++ c ∷ [];
  bounds = st.bounds;
  line = st.line;
  claims = st.claims;
}

abbrev pub with_claim : CheckState → Claim → CheckState
with_claim st c = record {
  vars = st.vars;
  clauses = st.clauses;
  bounds = st.bounds;
  line = st.line;
  claims = st.claims ++ c ∷ [];
}

-- what an entry leaves, where it is a step
abbrev pub after : CheckState → Entry → CheckState
after st (entry.Mark n) = record {
  vars = st.vars;
  clauses = st.clauses;
  bounds = st.bounds;
  line = n;
  claims = st.claims;
}
after st (entry.Learnt lits hints) = with_borne st lits
after st (entry.Sum n lits) = with_borne st lits
after st (entry.Bound s t k) = record {
  vars = st.vars + 1;
  clauses = st.clauses;
  bounds = st.bounds ++ record { out = literal s.0; term = t - 1; below = k } ∷ [];
  line = st.line;
  claims = st.claims;
}
after st (entry.Exclude s lits) = record {
  vars = st.vars + 1;
  clauses = st.clauses ++ (negated (literal s.0) ∷ lits) ∷ [];
  bounds = st.bounds;
  line = st.line;
  claims = st.claims;
}
after st (entry.Inconsistent lits c) = with_claim st (Inconsistent st.line lits)
after st (entry.Forced l lits c) = with_claim st (Forced st.line l lits)
after st (entry.Least t k lits c) = with_claim st (Least st.line t k lits)

-- the numbers are those of these clauses
abbrev pub AreNumbered : List (List Lit) → List ℕ → List (List Lit) → Type 0
AreNumbered clauses [] [] = Unit {0}
AreNumbered clauses [] (c ∷ cs) = ⊥
AreNumbered clauses (h ∷ hs) [] = ⊥
AreNumbered clauses (h ∷ hs) (c ∷ cs) = (1 ≤ h) × (slice_get clauses (h - 1) ≡ Some c) × AreNumbered clauses hs cs

-- no literal stands there together with its negation
abbrev pub HasNoOpposites : List Lit → Type 0
HasNoOpposites ls = (l : Lit) → Contains ls l → Contains ls (negated l) → ⊥

abbrev pub HasOpposites : List Lit → Type 0
HasOpposites ls = (l : Lit) × Contains ls l × Contains ls (negated l)

-- a part may count where its literal is not false, and may be left out where it is not true
abbrev pub may_be : List Lit → Lit → Bool → Type 0
may_be inforce l true = Contains inforce (negated l) → ⊥
may_be inforce l false = Contains inforce l → ⊥

-- each part by itself may count or be left out so
abbrev pub MayCount : List Lit → List Part → List Bool → Type 0
MayCount inforce [] [] = Unit {0}
MayCount inforce [] (d ∷ ds) = ⊥
MayCount inforce (p ∷ ps) [] = ⊥
MayCount inforce (p ∷ ps) (d ∷ ds) = may_be inforce p.lit d × MayCount inforce ps ds

-- the weights of the parts that count
abbrev pub counted_weights : List Part → List Bool → List Denotation
counted_weights (p ∷ ps) (true ∷ ds) = number p.weight ∷ counted_weights ps ds
counted_weights (p ∷ ps) (false ∷ ds) = counted_weights ps ds
counted_weights [] ds = []
counted_weights (p ∷ ps) [] = []

-- every possible value of the parts has this property
abbrev pub EachPossible : List Lit → AggKind → List Part → (Denotation → Type 0) → Type 0
EachPossible inforce kind ps P = (ds : List Bool) → MayCount inforce ps ds
    → P (aggregate_value kind (counted_weights ps ds))

-- the constraint cannot hold: its result is true and no possible value reaches its bound, or false and every one does
abbrev pub SumCannotHold : List Lit → AggCon → Type 0
SumCannotHold inforce s =
    (Contains inforce s.out × EachPossible inforce s.kind s.parts
    (λ d. compared cmp.Ge d (denotation_of_bound s.least) ≡ false))
    ⊎ (Contains inforce (negated s.out) × EachPossible inforce s.kind s.parts
    (λ d. compared cmp.Ge d (denotation_of_bound s.least) ≡ true))

-- the selector is true and no possible value of the term is below the number
abbrev pub BoundCannotHold : List Lit → TermBound → GroundTerm → Type 0
BoundCannotHold inforce b t = Contains inforce b.out × EachPossible inforce t.kind t.parts
    (λ d. compared cmp.Lt (shifted t.base d) (denotation_of_bound b.below) ≡ false)

-- constraint number n + 1: of the problem, then of the `b` entries
abbrev pub CannotHold : ProblemState → CheckState → List Lit → ℕ → Type 0
CannotHold p st inforce n =
    ((s : AggCon) × (slice_get p.sums n ≡ Some s) × SumCannotHold inforce s)
    ⊎ ((k : ℕ) × (n ≡ length p.sums + k) × (b : TermBound) × (slice_get st.bounds k ≡ Some b) × (t : GroundTerm)
    × (slice_get p.terms b.term ≡ Some t) × BoundCannotHold inforce b t)

-- each literal of clause c is the negation of one of them or one of the others, or c is 0 and they have opposites
abbrev pub Cites : CheckState → List Lit → (Lit → Type 0) → ℕ → Type 0
Cites st lits Other c =
    ((c ≡ 0) × HasOpposites lits) ⊎ ((1 ≤ c) × (d : List Lit) × (slice_get st.clauses (c - 1) ≡ Some d)
    × All (λ m. Contains lits (negated m) ⊎ Other m) d)

abbrev pub AreAtoms : ProblemState → List Lit → Type 0
AreAtoms p ls = AreLitsOf (length p.atoms) ls

-- the literal is -s for a `b s t k`
abbrev pub IsBelowSelector : CheckState → ℕ → ExtInt → Lit → Type 0
IsBelowSelector st t k m = (b : TermBound) × Contains st.bounds b × (b.term ≡ t - 1) × (b.below ≡ k)
    × (m ≡ negated b.out)

abbrev pub IsTermNumber : ProblemState → ℕ → Type 0
IsTermNumber p t = (1 ≤ t) × (t ≤ length p.terms)

-- an entry is a step after what came before it
abbrev pub LogStep : ProblemState → CheckState → Entry → Type 0
LogStep p st (entry.Mark n) = st.line < n
LogStep p st (entry.Learnt lits hints) = AreLitsOf st.vars lits × HasNoOpposites lits
    × ((cs : List (List Lit)) × AreNumbered st.clauses hints cs × FollowsInOrder lits cs)
LogStep p st (entry.Sum n lits) = AreLitsOf st.vars lits × HasNoOpposites lits × (1 ≤ n)
    × CannotHold p st (map negated lits) (n - 1)
LogStep p st (entry.Bound s t k) = (s.0 ≡ st.vars + 1) × IsTermNumber p t × (k ≡ NegInf → ⊥)
LogStep p st (entry.Exclude s lits) = (s.0 ≡ st.vars + 1) × AreLitsOf st.vars lits
LogStep p st (entry.Inconsistent lits c) = AreAtoms p lits × Cites st lits (λ m. ⊥) c
LogStep p st (entry.Forced l lits c) = IsLitOf (length p.atoms) l × AreAtoms p lits × Cites st lits (λ m. m ≡ l) c
LogStep p st (entry.Least t k lits c) = IsTermNumber p t × (k ≡ NegInf → ⊥) × AreAtoms p lits
    × Cites st lits (IsBelowSelector st t k) c

-- each entry is a step after those before it
abbrev pub Accepts : ProblemState → CheckState → List Entry → Type 0
Accepts p st [] = Unit {0}
Accepts p st (e ∷ es) = LogStep p st e × Accepts p (after st e) es

abbrev pub after_all : CheckState → List Entry → CheckState
after_all st [] = st
after_all st (e ∷ es) = after_all (after st e) es
