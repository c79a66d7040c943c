-- Moments one after another.
use Rattle.std.proofs.Common.{◌≡◌, ℕ, zero, suc, ◌≤◌, ◌+◌, Bool, List, [], ◌∷◌, ◌++◌, All, length, replicate, get_or}
use Rattle.std.proofs.Common.{sym, ap, ◌∙◌, arith}
use Rattle.std.proofs.lemmas.List.{append_assoc, append-nil, length_push, length-append}
use Rattle.std.proofs.lemmas.List.Elements.{All-nil, All-cons, All-append}
use Rattle.kb_logic.specs.declared.elements.ExtInt.{ExtInt}
use Rattle.lit_core.specs.declared.literals.Lit.{Lit}
use Rattle.lit_core.specs.Literals.{negated}
use Rattle.ground_core.specs.declared.moments.Moment.{Moment}
use Rattle.ground_core.specs.Problems.{ProblemState}
use Rattle.ground_core.specs.Growth.{with_bound, with_exclusion, retiring, next_lit, falsified_by}
use Rattle.ground_core.specs.Moments.{moment_of, IsNoLater, GrowsFrom}

pub no-later-itself : (m : Moment) → IsNoLater m m
no-later-itself m = record {
  vars = omega arith;
  gates = omega arith;
  clauses = omega arith;
  sums = omega arith;
  bounds = omega arith;
  retired = omega arith;
}

pub no-later-twice : (l m n : Moment) → IsNoLater l m → IsNoLater m n → IsNoLater l n
no-later-twice l m n a b = record {
  vars = omega (arith, a.vars, b.vars);
  gates = omega (arith, a.gates, b.gates);
  clauses = omega (arith, a.clauses, b.clauses);
  sums = omega (arith, a.sums, b.sums);
  bounds = omega (arith, a.bounds, b.bounds);
  retired = omega (arith, a.retired, b.retired);
}

-- where nothing was learnt
pub grows-none : (m : Moment) (ms : List Moment) → GrowsFrom m ms ms
grows-none m ms = ([], sym (append-nil ms), All-nil (IsNoLater m))

pub grows-twice : (l m : Moment) (xs ys zs : List Moment) → IsNoLater l m → GrowsFrom l xs ys → GrowsFrom m ys zs
    → GrowsFrom l xs zs
grows-twice l m xs ys zs le a b = (
  a.0 ++ b.0,
  b.1 ∙ ap (λ (ms : List Moment). ms ++ b.0) a.1 ∙ append_assoc xs a.0 b.0,
  All-append (IsNoLater l) a.0 b.0 a.2 (λ k d lt. no-later-twice l m (get_or b.0 k d) le (b.2 k d lt)),
)

all-now : (m : Moment) (k : ℕ) → All (IsNoLater m) (replicate k m)
all-now m zero = All-nil (IsNoLater m)
all-now m (suc k) = All-cons (IsNoLater m) m (replicate k m) (no-later-itself m) (all-now m k)

-- where so many clauses were learnt at this moment
pub grows-now : (m : Moment) (k : ℕ) (old new : List Moment) → new ≡ old ++ replicate k m → GrowsFrom m old new
grows-now m k old new e = (replicate k m, e, all-now m k)

pub moment-bounded : (p : ProblemState) (term : ℕ) (below : ExtInt)
    → IsNoLater (moment_of p) (moment_of (with_bound p term below))
moment-bounded p term below = record {
  vars = omega arith;
  gates = omega arith;
  clauses = omega arith;
  sums = omega arith;
  bounds = let n = length_push p.bounds (record { out = next_lit p; term = term; below = below }) in omega (arith, n);
  retired = omega arith;
}

pub moment-excluded : (p : ProblemState) (values : List Bool)
    → IsNoLater (moment_of p) (moment_of (with_exclusion p values))
moment-excluded p values = record {
  vars = omega arith;
  gates = omega arith;
  clauses = let n = length_push p.clauses (negated (next_lit p) ∷ falsified_by values (length p.atoms)) in
      omega (arith, n);
  sums = omega arith;
  bounds = omega arith;
  retired = omega arith;
}

pub moment-retired : (p : ProblemState) (ls : List Lit)
    → IsNoLater (moment_of p) (moment_of (retiring p (p.retired ++ ls)))
moment-retired p ls = record {
  vars = omega arith;
  gates = omega arith;
  clauses = omega arith;
  sums = omega arith;
  bounds = omega arith;
  retired = let n = length-append p.retired ls in omega (arith, n);
}
