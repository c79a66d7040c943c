-- Rows as weighted literals: what the true ones come to.
use Rattle.std.proofs.Common.{◌≡◌, ℕ, ◌+◌, ◌≤◌, ℤ, pos, ◌+ℤ◌, ◌-ℤ◌, Bool, true, false, List, [], ◌∷◌, ◌++◌}
use Rattle.std.proofs.Common.{map, length, get_or, if◌then◌else◌, refl, ap, ◌∙◌, arith}
use Rattle.std.specs.List.{list_all}
use Rattle.std.proofs.lemmas.Int.{ints}
use Rattle.std.proofs.lemmas.List.Elements.{All-nil, All-push}
use Rattle.kb_logic.specs.Denotations.{Denotation}
use Rattle.kb_logic.specs.Meaning.{signed_of}
use Rattle.lit_core.specs.declared.literals.Lit.{Lit}
use Rattle.lit_core.specs.Literals.{literal_value}
use Rattle.ground_core.specs.declared.parts.Part.{Part}
use Rattle.ground_core.specs.Problems.{ProblemState, IsProblem, IsLitOf, AreLitsOf, ArePartsOf}
use Rattle.ground_core.specs.Meaning.{Satisfies}
use Rattle.ground_core.specs.More.{DefinesMore}
use Rattle.ground_core.proofs.Mores.{more-trans}
use Rattle.term_values.specs.Rows.{selected_values}
use Rattle.def_ground.specs.AskedTerms.{number_of, first_weight, other_weights, WeightedParts, weigh}
use Rattle.def_ground.specs.Guards.{guarded_by}
use Rattle.def_ground.specs.AskedTerms.{weigh_all}
use Rattle.def_ground.proofs.Growing.{more-refl, lit-more, lits-more}
use Rattle.def_ground.proofs.KeepSteps.{Keeps, keeps-all, keeps-on}
use Rattle.def_ground.proofs.Leaves.{RowsIn}
use Rattle.def_ground.proofs.LinearGuards.{guarded-means, guarded-few}
use Rattle.def_ground.proofs.LinearKeeps.{guarded-keeps}
use Rattle.def_ground.proofs.LinearParts.{part_sum}

part-push : (v : ℕ → Bool) (ps : List Part) (q : Part)
    → part_sum v (ps ++ q ∷ []) ≡ part_sum v ps +ℤ (if literal_value v q.lit then q.weight else pos 0)
part-push v [] q = omega (arith, ints)
part-push v (p ∷ ps) q = let e = part-push v ps q in omega (arith, ints, e)

-- what the weights of the rows with true guards come to
abbrev pub row_sum : (ℕ → Bool) → List (List Lit × ℤ) → ℤ
row_sum v [] = pos 0
row_sum v (r ∷ rs) = (if list_all (literal_value v) r.0 then r.1 else pos 0) +ℤ row_sum v rs

pub rows-both : (v : ℕ → Bool) (rs ts : List (List Lit × ℤ)) → row_sum v (rs ++ ts) ≡ row_sum v rs +ℤ row_sum v ts
rows-both v [] ts = omega (arith, ints)
rows-both v (r ∷ rs) ts = let e = rows-both v rs ts in omega (arith, ints, e)

-- ---- the rows of one summand

abbrev sum_of_values : (Denotation → ℤ) → List Denotation → ℤ
sum_of_values D [] = pos 0
sum_of_values D (d ∷ ds) = D d +ℤ sum_of_values D ds

mapped-sum : (v : ℕ → Bool) (D : Denotation → ℤ) (rs : List (List Lit × Denotation))
    → row_sum v (map (λ q. (q.0, D q.1)) rs) ≡ sum_of_values D (selected_values v rs)
mapped-sum v D [] = refl
mapped-sum v D (r ∷ rs) = by_guards (list_all (literal_value v) r.0) (mapped-sum v D rs)
  where
    by_guards : (c : Bool) → row_sum v (map (λ q. (q.0, D q.1)) rs) ≡ sum_of_values D (selected_values v rs)
        → ((if c then D r.1 else pos 0) +ℤ row_sum v (map (λ q. (q.0, D q.1)) rs))
        ≡ sum_of_values D (if c then r.1 ∷ selected_values v rs else selected_values v rs)
    by_guards true e = ap (λ z. D r.1 +ℤ z) e
    by_guards false e = omega (arith, ints, e)

signed-difference : (minus : Bool) (x y : ℤ)
    → signed_of minus y +ℤ (signed_of minus (x -ℤ y) +ℤ pos 0) ≡ signed_of minus x
signed-difference true x y = omega (arith, ints)
signed-difference false x y = omega (arith, ints)

first-alone : (minus : Bool) (y : ℤ) → signed_of minus y +ℤ pos 0 ≡ signed_of minus y
first-alone minus y = omega (arith, ints)

-- the first row's weight, and those of the others that hold, are the one value that is selected
pub summand-sum : (v : ℕ → Bool) (minus : Bool) (rs : List (List Lit × Denotation)) (x : Denotation)
    → selected_values v rs ≡ x ∷ []
    → first_weight minus rs +ℤ row_sum v (other_weights minus rs) ≡ signed_of minus (number_of x)
summand-sum v minus [] x h = absurd cc
summand-sum v minus (r ∷ rs) x h =
    let D : Denotation → ℤ = λ d. signed_of minus (number_of d -ℤ number_of r.1) in
    ap (λ z. signed_of minus (number_of r.1) +ℤ z) (mapped-sum v D rs)
    ∙ by_guards (list_all (literal_value v) r.0) h
  where
    by_guards : (c : Bool) → (if c then r.1 ∷ selected_values v rs else selected_values v rs) ≡ x ∷ []
        → signed_of minus (number_of r.1) +ℤ sum_of_values (λ d. signed_of minus (number_of d -ℤ number_of r.1))
        (selected_values v rs) ≡ signed_of minus (number_of x)
    by_guards true e =
        let none : selected_values v rs ≡ [] = cc in
        let same : r.1 ≡ x = cc in
        ap (λ ds. signed_of minus (number_of r.1) +ℤ sum_of_values
        (λ d. signed_of minus (number_of d -ℤ number_of r.1)) ds) none
        ∙ first-alone minus (number_of r.1) ∙ ap (λ d. signed_of minus (number_of d)) same
    by_guards false e =
        ap (λ ds. signed_of minus (number_of r.1) +ℤ sum_of_values
        (λ d. signed_of minus (number_of d -ℤ number_of r.1)) ds) e
        ∙ signed-difference minus (number_of x) (number_of r.1)

-- q defines more than p, and the parts come to V in each valuation that satisfies it
pub record Weighs (p : ProblemState) (st : WeightedParts) (V : (ℕ → Bool) → ℤ) : Type 0 where
  pub fine : IsProblem st.problem
  pub more : DefinesMore p st.problem
  pub within : ArePartsOf st.problem.vars st.parts
  pub right : (v : ℕ → Bool) → Satisfies st.problem v → part_sum v st.parts ≡ V v

pub weighs-nothing : (p : ProblemState) → IsProblem p → Weighs p (record { parts = []; problem = p }) (λ v. pos 0)
weighs-nothing p fine = record {
  fine = fine;
  more = more-refl p;
  within = All-nil (λ (x : Part). IsLitOf p.vars x.lit);
  right = λ v s. refl;
}

pub weigh-all-keeps : (rs : List (List Lit × ℤ)) (st : WeightedParts) → Keeps st.problem (weigh_all rs st).problem
weigh-all-keeps [] st = keeps-all st.problem
weigh-all-keeps (r ∷ rs) st =
    let next = weigh r.1 r.0 st in
    keeps-on st.problem next.problem (weigh_all rs next).problem (guarded-keeps st.problem r.0)
    (weigh-all-keeps rs next)

weigh-right : (p : ProblemState) (st : WeightedParts) (V : (ℕ → Bool) → ℤ) (h : Weighs p st V) (w : ℤ) (g : List Lit)
    → AreLitsOf st.problem.vars g
    → Weighs p (weigh w g st) (λ v. V v +ℤ (if list_all (literal_value v) g then w else pos 0))
weigh-right p st V h w g within =
    let m = guarded-means st.problem g h.fine within in
    let x = guarded_by g st.problem in
    record {
      fine = m.fine;
      more = more-trans p st.problem x.problem h.more m.more;
      within = All-push (λ (y : Part). IsLitOf x.problem.vars y.lit) st.parts (record { lit = x.lit; weight = w })
          (λ k d lt. lit-more st.problem.vars x.problem.vars m.more.grows (get_or st.parts k d).lit (h.within k d lt))
          m.within;
      right = λ v s.
          let old = h.right v (m.more.restricts v s) in
          part-push v st.parts (record { lit = x.lit; weight = w })
          ∙ ap (λ z. z +ℤ (if literal_value v x.lit then w else pos 0)) old
          ∙ ap (λ (c : Bool). V v +ℤ (if c then w else pos 0)) (m.right v s);
    }

weighs-is : (p : ProblemState) (st : WeightedParts) (V W : (ℕ → Bool) → ℤ) → ((v : ℕ → Bool) → V v ≡ W v)
    → Weighs p st V → Weighs p st W
weighs-is p st V W e h = record {
  fine = h.fine;
  more = h.more;
  within = h.within;
  right = λ v s. h.right v s ∙ e v;
}

pub weigh-all-right : (p : ProblemState) (rs : List (List Lit × ℤ)) (st : WeightedParts) (V : (ℕ → Bool) → ℤ)
    → RowsIn p.vars rs → Weighs p st V → Weighs p (weigh_all rs st) (λ v. V v +ℤ row_sum v rs)
weigh-all-right p [] st V ins h = weighs-is p st V (λ v. V v +ℤ pos 0) (λ v. omega (arith, ints)) h
weigh-all-right p (r ∷ rs) st V ins h =
    let W : (ℕ → Bool) → ℤ = λ v. V v +ℤ (if list_all (literal_value v) r.0 then r.1 else pos 0) in
    let now = weigh-right p st V h r.1 r.0 (lits-more p.vars st.problem.vars h.more.grows r.0 ins.0) in
    weighs-is p (weigh_all rs (weigh r.1 r.0 st)) (λ v. W v +ℤ row_sum v rs) (λ v. V v +ℤ row_sum v (r ∷ rs))
    (λ v. omega (arith, ints)) (weigh-all-right p rs (weigh r.1 r.0 st) W ins.1 now)

-- how many variables they add
pub weigh-all-vars : (rs : List (List Lit × ℤ)) (st : WeightedParts)
    → (weigh_all rs st).problem.vars ≤ st.problem.vars + length rs
weigh-all-vars [] st = omega arith
weigh-all-vars (r ∷ rs) st =
    let one = guarded-few st.problem r.0 in
    let more = weigh-all-vars rs (weigh r.1 r.0 st) in
    omega (arith, one, more)
