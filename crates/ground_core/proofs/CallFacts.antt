-- What calls keep, one after another.
use Rattle.std.proofs.Common.{◌≡◌, ℕ, ◌+◌, ◌-◌, ◌*◌, ◌^◌, ◌<◌, ◌≤◌, List, [], ◌∷◌, ◌++◌, length, refl, sym, ap, ◌∙◌}
use Rattle.std.proofs.Common.{subst, arith, ⊎_elim}
use Rattle.std.specs.Prelude.{Result, Ok, Err}
use Rattle.std.proofs.lemmas.Int.{clamps}
use Rattle.std.proofs.lemmas.Nat.{pow_pos, mul-le}
use Rattle.std.proofs.Math.Nat.{mul-le-mul_left, pow-le-pow_right}
use Rattle.std.proofs.lemmas.List.{append_assoc, append-nil}
use Rattle.ground_core.specs.declared.solving.Budget.{Budget}
use Rattle.lit_core.specs.declared.literals.Lit.{Lit}
use Rattle.ground_core.specs.declared.solving.Halt.{Halt}
use Rattle.ground_core.specs.declared.solving.Verdict.{Verdict}
use Rattle.ground_core.specs.declared.solving.Verdict.TheVariants.{Sat, Unsat}
use Rattle.ground_core.specs.Problems.{ProblemState}
use Rattle.ground_core.specs.Moments.{moment_of, IsNoLater}
use Rattle.ground_core.specs.Solving.{SolveState, IsPrefix, IsBudgetOf, KeepsCores, Spends, counted}
use Rattle.ground_core.specs.Laws.{CallsAddUp}
use Rattle.ground_core.specs.Calls.{Keeps, Counts, CountsUpTo, Costs, Stays}
use Rattle.ground_core.proofs.MomentFacts.{grows-none, grows-now, grows-twice, no-later-itself, no-later-twice}

pub none-yet : (top : ℕ) (s : SolveState) (b : Budget) → s.searches < 2 ^ 64 → Counts top 0 s s b b
none-yet top s b small = record { searches = omega (arith, small); fewer = omega arith }

-- where nothing was searched
pub none-counted : (top m : ℕ) (s : SolveState) (b : Budget) → s.searches < 2 ^ 64 → CountsUpTo top m s s b b
none-counted top m s b small = (0, omega arith, record { searches = omega (arith, small); fewer = omega arith })

prefix-twice : {A : Type 0} (xs ys zs : List A) → IsPrefix xs ys → IsPrefix ys zs → IsPrefix xs zs
prefix-twice xs ys zs a b = (a.0 ++ b.0, b.1 ∙ ap (λ l. l ++ b.0) a.1 ∙ append_assoc xs a.0 b.0)

pub keeps-twice : (r s t : SolveState) (a b c : Budget) → Keeps r s a b → Keeps s t b c → Keeps r t a c
keeps-twice r s t a b c k l = record {
  limit = l.limit ∙ k.limit;
  rises = let x : a.spent ≤ b.spent = k.rises in let y : b.spent ≤ c.spent = l.rises in omega arith;
  learnt = prefix-twice r.learnt s.learnt t.learnt k.learnt l.learnt;
  growth = let x : a.spent ≤ b.spent = k.rises in let y : b.spent ≤ c.spent = l.rises in
      omega (arith, k.growth, l.growth);
  moments = grows-twice (moment_of r.problem) (moment_of s.problem) r.moments s.moments t.moments k.problem k.moments
      l.moments;
  cores = prefix-twice r.cores s.cores t.cores k.cores l.cores;
  within = l.within;
  problem = no-later-twice (moment_of r.problem) (moment_of s.problem) (moment_of t.problem) k.problem l.problem;
}

counted-twice : (n k j : ℕ) → counted (counted (n + k) + j) ≡ counted (n + (k + j))
counted-twice n k j = omega (arith, clamps)

distrib : (k j x : ℕ) → (k + j) * x ≡ k * x + j * x
distrib k j x = omega arith

pub counts-twice : (top k j : ℕ) (r s t : SolveState) (a b c : Budget) → Counts top k r s a b → Counts top j s t b c
    → Counts top (k + j) r t a c
counts-twice top k j r s t a b c x y = record {
  searches = y.searches ∙ ap (λ (m : ℕ). counted (m + j)) x.searches ∙ counted-twice r.searches k j;
  fewer =
      let f : b.spent + k ≤ a.spent + k * 2 ^ top = x.fewer in
      let g : c.spent + j ≤ b.spent + j * 2 ^ top = y.fewer in
      let d : (k + j) * 2 ^ top ≡ k * 2 ^ top + j * 2 ^ top = distrib k j (2 ^ top) in
      omega (arith, f, g, d);
}

pub keeps-none : (s : SolveState) (b : Budget) → IsBudgetOf s.learnt b → Keeps s s b b
keeps-none s b h = record {
  limit = refl;
  rises = omega arith;
  learnt = ([], sym (append-nil s.learnt));
  growth = omega arith;
  moments = grows-none (moment_of s.problem) s.moments;
  cores = ([], sym (append-nil s.cores));
  within = h.within;
  problem = no-later-itself (moment_of s.problem);
}

kept-cores : (before after : List (List Lit)) (r : Result Verdict Halt) → KeepsCores before r after
    → IsPrefix before after
kept-cores before after (Ok (Sat values)) h = ([], h ∙ sym (append-nil before))
kept-cores before after (Ok (Unsat core)) h = ⊎_elim (λ w. ([], w.1 ∙ sym (append-nil before)))
    (λ w. (core ∷ [], w.1)) h
kept-cores before after (Err halt) h = ([], h ∙ sym (append-nil before))

-- one search
pub keeps-searched : (s t : SolveState) (b c : Budget) (r : Result Verdict Halt) → t.problem ≡ s.problem
    → Spends s t b c → KeepsCores s.cores r t.cores → Keeps s t b c
keeps-searched s t b c r same spends cores = record {
  limit = spends.limit;
  rises = spends.rises;
  learnt = spends.prefix;
  growth = spends.growth;
  moments = grows-now (moment_of s.problem) (c.spent - b.spent) s.moments t.moments spends.moments;
  cores = kept-cores s.cores t.cores r cores;
  within = spends.within;
  problem = subst (λ (p : ProblemState). IsNoLater (moment_of s.problem) (moment_of p)) (sym same)
      (no-later-itself (moment_of s.problem));
}

-- of another problem whose lists are no shorter
pub keeps-grown : (r s : SolveState) (a b : Budget) (t : SolveState) → Keeps r s a b → t.learnt ≡ s.learnt
    → t.moments ≡ s.moments → t.cores ≡ s.cores → IsNoLater (moment_of s.problem) (moment_of t.problem)
    → Keeps r t a b
keeps-grown r s a b t k learnt moments cores more = record {
  limit = k.limit;
  rises = k.rises;
  learnt = (k.learnt.0, learnt ∙ k.learnt.1);
  growth = ap length learnt ∙ k.growth;
  moments = (k.moments.0, moments ∙ k.moments.1, k.moments.2);
  cores = (k.cores.0, cores ∙ k.cores.1);
  within = k.within;
  problem = no-later-twice (moment_of r.problem) (moment_of s.problem) (moment_of t.problem) k.problem more;
}

-- with more free variables
pub counts-more : (low high k : ℕ) (s t : SolveState) (a b : Budget) → low ≤ high → Counts low k s t a b
    → Counts high k s t a b
counts-more low high k s t a b le x = record {
  searches = x.searches;
  fewer =
      let f : b.spent + k ≤ a.spent + k * 2 ^ low = x.fewer in
      let g : k * 2 ^ low ≤ k * 2 ^ high = mul-le-mul_left k (pow-le-pow_right (pow_pos 1) le) in omega (arith, f, g);
}

pub cost : (k m : ℕ) (s t : SolveState) (a b : Budget) → 1 ≤ k → k ≤ m → a.spent ≤ b.spent
    → Counts (s.free + 1) k s t a b → Costs m s t a b
cost k m s t a b one le rises x = record {
  searches = (k, le, x.searches);
  spent =
      let f : b.spent + k ≤ a.spent + k * 2 ^ (s.free + 1) = x.fewer in
      let p : 2 ^ (s.free + 1) ≤ 2 ^ (s.free + m) = pow-le-pow_right (pow_pos 1) (omega (arith, one, le)) in
      let g : k * 2 ^ (s.free + 1) ≤ m * 2 ^ (s.free + m) = mul-le k (2 ^ (s.free + 1)) m (2 ^ (s.free + m)) le p in
      omega (arith, f, g, one, rises);
}

-- one search, and then more
pub cost-after : (n : ℕ) (r s t : SolveState) (a b c : Budget) → s.free ≡ r.free → Counts r.free 1 r s a b
    → CountsUpTo (s.free + 1) (n + 2) s t b c → a.spent ≤ c.spent → Costs (n + 3) r t a c
cost-after n r s t a b c free x y rises =
    let z : Counts (r.free + 1) y.0 s t b c = subst (λ (f : ℕ). Counts (f + 1) y.0 s t b c) free y.2 in
    let w : Counts (r.free + 1) 1 r s a b = counts-more r.free (r.free + 1) 1 r s a b (omega arith) x in
    cost (1 + y.0) (n + 3) r t a c (omega arith) (omega (arith, y.1)) rises
    (counts-twice (r.free + 1) 1 y.0 r s t a b c w z)

-- one search alone
pub cost-once : (n : ℕ) (r s : SolveState) (a b : Budget) → Counts r.free 1 r s a b → a.spent ≤ b.spent
    → Costs (n + 3) r s a b
cost-once n r s a b x rises = cost 1 (n + 3) r s a b (omega arith) (omega arith) rises
    (counts-more r.free (r.free + 1) 1 r s a b (omega arith) x)

pub stays-twice : (r s t : SolveState) → Stays r s → Stays s t → Stays r t
stays-twice r s t a b = record {
  problem = b.problem ∙ a.problem;
  additions = b.additions ∙ a.additions;
  free =
      b.free ∙ a.free;
}

-- one search, and then more
pub costs-after : (m : ℕ) (r s t : SolveState) (a b c : Budget) → s.free ≡ r.free → Counts r.free 1 r s a b
    → CountsUpTo s.free m s t b c → a.spent ≤ c.spent → Costs (m + 1) r t a c
costs-after m r s t a b c free x y rises =
    let z : Counts r.free y.0 s t b c = subst (λ (f : ℕ). Counts f y.0 s t b c) free y.2 in
    let w : Counts r.free (1 + y.0) r t a c = counts-twice r.free 1 y.0 r s t a b c x z in
    cost (1 + y.0) (m + 1) r t a c (omega arith) (omega (arith, y.1)) rises
    (counts-more r.free (r.free + 1) (1 + y.0) r t a c (omega arith) w)

-- one search alone
pub costs-once : (m : ℕ) (r s : SolveState) (a b : Budget) → Counts r.free 1 r s a b → a.spent ≤ b.spent
    → Costs (m + 1) r s a b
costs-once m r s a b x rises = cost 1 (m + 1) r s a b (omega arith) (omega arith) rises
    (counts-more r.free (r.free + 1) 1 r s a b (omega arith) x)

pub calls-add-up : CallsAddUp
calls-add-up r s t a b c = (keeps-twice r s t a b c, λ top k j x y. counts-twice top k j r s t a b c x y)
