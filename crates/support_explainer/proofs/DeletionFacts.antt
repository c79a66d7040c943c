-- Items left out one after another.
use Rattle.std.proofs.Common.{◌≡◌, ℕ, ◌+◌, ◌-◌, ◌<◌, ◌≤◌, Bool, true, false, not, Err, List, [], ◌∷◌, ◌++◌, length}
use Rattle.std.proofs.Common.{get_or, Contains, refl, sym, ap, ◌∙◌, subst, arith, ⊎_elim}
use Rattle.std.proofs.lemmas.Bool.{cases_lt}
use Rattle.std.proofs.lemmas.List.Elements.{All-contains, All-contains_itself, Contains-push, Contains-append_left}
use Rattle.lit_core.specs.declared.literals.Lit.{Lit}
use Rattle.lit_core.specs.Literals.{literal_value, valuation, negated}
use Rattle.lit_core.proofs.Soundness.{value-negated}
use Rattle.ground_core.specs.declared.solving.Halt.{Halt}
use Rattle.ground_core.specs.declared.solving.Halt.TheVariants.{Spent, Memory}
use Rattle.ground_core.proofs.Fronts.{All-front}
use Rattle.ground_core.specs.declared.solving.Budget.{Budget}
use Rattle.ground_core.specs.Problems.{ProblemState, IsLitOf, AreLitsOf}
use Rattle.ground_core.specs.Meaning.{Satisfies, MakesTrue}
use Rattle.ground_core.specs.Solving.{SolveState, IsSublist, IsBudgetOf, AreUnretired, HasCoreWithin, IsKept}
use Rattle.ground_core.specs.Calls.{Keeps, Counts, CountsUpTo, Stays, IsNone}
use Rattle.ground_core.proofs.Sublists.{sublist-refl, sublist-all}
use Rattle.ground_core.proofs.CoreFacts.{sublist-within, still-shown, within-trans}
use Rattle.ground_core.proofs.CallFacts.{none-yet, stays-twice, keeps-none, keeps-twice, counts-twice}
use Rattle.model_search.specs.Models.{IsConsistent, IsRefuted}
use Rattle.support_explainer.specs.Reasons.{without_item, IsIrreducible, IsNoReason}
use Rattle.support_explainer.proofs.ItemFacts.{without-sublist, without-two, length-without, sublist-append}
use Rattle.support_explainer.proofs.ItemFacts.{sublist-trans}

-- what is consistent stays so with fewer literals
consistent-fewer : (p : ProblemState) (xs ys : List Lit) → IsSublist xs ys → IsConsistent p ys → IsConsistent p xs
consistent-fewer p xs ys s h = (h.0, h.1, sublist-all (λ (l : Lit). literal_value h.0 l ≡ true) xs ys s h.2)

pub lits-fewer : (n : ℕ) (xs ys : List Lit) → IsSublist xs ys → AreLitsOf n ys → AreLitsOf n xs
lits-fewer n xs ys s h = sublist-all (IsLitOf n) xs ys s h

pub unretired-fewer : (p : ProblemState) (xs ys : List Lit) → IsSublist xs ys → AreUnretired p ys → AreUnretired p xs
unretired-fewer p xs ys s h = λ l gone has. h l gone (All-contains (Contains ys) xs l (sublist-within xs ys s) has)

pub two-more : (n : ℕ) → n + 1 + 1 ≡ n + 2
two-more n = omega arith

pub counts-wider : (top m n : ℕ) (s t : SolveState) (a b : Budget) → m ≤ n → CountsUpTo top m s t a b
    → CountsUpTo top n s t a b
counts-wider top m n s t a b le h = (h.0, omega (arith, h.1, le), h.2)

-- what is still to be tried falls
pub falls-needed : (items : List Lit) (i : ℕ) → i < length items → length items - (i + 1) < length items - i
falls-needed items i lt = omega (arith, lt)

pub falls-fewer : (items fewer : List Lit) (i : ℕ) → i < length items → fewer ≡ without_item items i
    → length fewer - i < length items - i
falls-fewer items fewer i lt is =
    let n : length (without_item items i) + 1 ≡ length items = length-without items i lt in
    let m : length fewer ≡ length (without_item items i) = ap (λ (l : List Lit). length l) is in omega (arith, lt, n, m)

-- what holds between two items
pub record IsSoFar (first last items : List Lit) (i : ℕ) (r s : SolveState) (a b : Budget) : Type 0 where
  pub kept : IsKept s
  pub stays : Stays r s
  pub keeps : Keeps r s a b
  pub among : IsSublist items first
  pub refuted : IsRefuted r.problem s.cores (items ++ last)
  pub needed : (k : ℕ) → k < i → IsConsistent r.problem (without_item items k ++ last)
  pub within : i ≤ length items
  pub count : ℕ
  pub room : count + length items ≤ length first + i
  pub counts : Counts r.free count r s a b

pub so-far-begins : (first last : List Lit) (r : SolveState) (a : Budget) → IsBudgetOf r.learnt a → IsKept r
    → IsRefuted r.problem r.cores (first ++ last) → IsSoFar first last first 0 r r a a
so-far-begins first last r a budget kept refuted = record {
  kept = kept;
  stays = record { problem = refl; additions = refl; free = refl };
  keeps = keeps-none r a budget;
  among = sublist-refl first;
  refuted = refuted;
  needed = λ k lt. absurd (omega (arith, lt));
  within = omega arith;
  count = 0;
  room = omega arith;
  counts = none-yet r.free r a kept.counted;
}

module _ (first last items : List Lit) (i : ℕ) (r s : SolveState) (a b : Budget)
    (h : IsSoFar first last items i r s a b) where
  pub so-far-budget : IsBudgetOf r.learnt a → IsBudgetOf s.learnt b
  so-far-budget budget = record {
    within = h.keeps.within;
    learned =
        let y : a.spent ≤ length r.learnt = budget.learned in
        let z : a.spent ≤ b.spent = h.keeps.rises in omega (arith, y, z, h.keeps.growth);
  }

  pub so-far-lits : AreLitsOf r.problem.vars (first ++ last) → AreLitsOf r.problem.vars (items ++ last)
  so-far-lits lits = lits-fewer r.problem.vars (items ++ last) (first ++ last)
      (sublist-append items first last h.among) lits

  pub so-far-unretired : AreUnretired r.problem (first ++ last) → AreUnretired r.problem (items ++ last)
  so-far-unretired not = unretired-fewer r.problem (items ++ last) (first ++ last)
      (sublist-append items first last h.among) not

  pub so-far-ends : length items ≤ i → IsIrreducible r.problem s.cores last items
  so-far-ends le = record { refuted = h.refuted; needed = λ k lt. h.needed k (omega (arith, lt, le)) }

  pub so-far-most : CountsUpTo r.free (length first) r s a b
  so-far-most = (h.count, omega (arith, h.room, h.within), h.counts)

  module _ (lt : i < length items) (t : SolveState) (c : Budget) (stays : Stays s t) (keeps : Keeps s t b c)
      (counts : CountsUpTo s.free 1 s t b c) (kept : IsKept t) where
    stays2 : Stays r t
    stays2 = stays-twice r s t h.stays stays

    keeps2 : Keeps r t a c
    keeps2 = keeps-twice r s t a b c h.keeps keeps

    counts2 : Counts r.free (h.count + counts.0) r t a c
    counts2 = counts-twice r.free h.count counts.0 r s t a b c h.counts
        (subst (λ (n : ℕ). Counts n counts.0 s t b c) h.stays.free counts.2)

    pub turn-most : CountsUpTo r.free (length first) r t a c
    turn-most = (h.count + counts.0, omega (arith, h.room, lt, counts.1), counts2)

    -- the item is not needed
    pub turn-fewer : (fewer : List Lit) → fewer ≡ without_item items i → IsRefuted s.problem t.cores (fewer ++ last)
        → IsSoFar first last fewer i r t a c
    turn-fewer fewer is refuted =
        let n : length (without_item items i) + 1 ≡ length items = length-without items i lt in
        let m : length fewer ≡ length (without_item items i) = ap (λ (l : List Lit). length l) is in record {
          kept = kept;
          stays = stays2;
          keeps = keeps2;
          among = subst (λ (l : List Lit). IsSublist l first) (sym is) (sublist-trans (without_item items i) items first
              (without-sublist items i) h.among);
          refuted = subst (λ (p : ProblemState). IsRefuted p t.cores (fewer ++ last)) h.stays.problem refuted;
          needed = λ k less. subst (λ (l : List Lit). IsConsistent r.problem (without_item l k ++ last)) (sym is)
              (consistent-fewer r.problem (without_item (without_item items i) k ++ last) (without_item items k ++ last)
              (sublist-append (without_item (without_item items i) k) (without_item items k) last
              (without-two items k i less)) (h.needed k less));
          within = omega (arith, lt, n, m);
          count = h.count + counts.0;
          room = omega (arith, h.room, n, m, counts.1);
          counts = counts2;
        }

    -- the item is needed
    pub turn-needed : IsConsistent s.problem (without_item items i ++ last) → IsSoFar first last items (i + 1) r t a c
    turn-needed left = record {
      kept = kept;
      stays = stays2;
      keeps = keeps2;
      among = h.among;
      refuted = (h.refuted.0, still-shown s.cores t.cores (items ++ last) keeps.cores h.refuted.1);
      needed = λ k less. ⊎_elim
          (λ below. h.needed k below)
          (λ above. subst (λ (n : ℕ). IsConsistent r.problem (without_item items n ++ last))
          (omega (arith, less, above)) (subst (λ (p : ProblemState). IsConsistent p (without_item items i ++ last))
          h.stays.problem left))
          (cases_lt k i);
      within = omega (arith, lt);
      count = h.count + counts.0;
      room = omega (arith, h.room, counts.1);
      counts = counts2;
    }

-- one search, and then more
pub counts-after : (m : ℕ) (r s t : SolveState) (a b c : Budget) → s.free ≡ r.free → Counts r.free 1 r s a b
    → CountsUpTo s.free m s t b c → CountsUpTo r.free (m + 1) r t a c
counts-after m r s t a b c free x y = (
  1 + y.0,
  omega (arith, y.1),
  counts-twice r.free 1 y.0 r s t a b c x
      (subst (λ (f : ℕ). Counts f y.0 s t b c) free y.2),
)

-- what makes the negation true makes the literal false
pub frees : (p : ProblemState) (assumed : List Lit) (l : Lit) (values : List Bool) → (p.vars < length values)
    × Satisfies p (valuation values) × MakesTrue (valuation values) (assumed ++ negated l ∷ [])
    → (p.vars < length values) × Satisfies p (valuation values) × MakesTrue (valuation values) assumed
    × (literal_value (valuation values) l ≡ false)
frees p assumed l values h =
    let on : literal_value (valuation values) (negated l) ≡ true =
    All-contains (λ k. literal_value (valuation values) k ≡ true) (assumed ++ negated l ∷ []) (negated l) h.2
    (Contains-push assumed (negated l)) in (
      h.0,
      h.1,
      All-front (λ k. literal_value (valuation values) k ≡ true) assumed (negated l ∷ []) h.2,
      flip (literal_value (valuation values) l) (sym (value-negated (valuation values) l) ∙ on),
    )
  where
    flip : (b : Bool) → not b ≡ true → b ≡ false
    flip true e = sym e
    flip false e = refl

-- a core within literals is within more of them
pub core-wider : (cores : List (List Lit)) (ls more : List Lit) → HasCoreWithin cores ls
    → HasCoreWithin cores (ls ++ more)
core-wider cores ls more h = (
  h.0,
  h.1,
  h.2,
  h.3,
  within-trans h.1 ls (ls ++ more) h.4
      (λ k d lt. Contains-append_left ls more (get_or ls k d) (All-contains_itself ls k d lt)),
)

pub no-reason : (h : Halt) → IsNone {T = List Bool} (Err h) → IsNoReason (Err h)
no-reason Spent n = absurd n
no-reason Memory n = tt
