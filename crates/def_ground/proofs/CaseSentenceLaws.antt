-- Cases that are asserted, a clause for each.
use Rattle.std.proofs.Common.{◌≡◌, ℕ, Bool, ◌||◌, List, Option, Some, None, refl, ap, subst}
use Rattle.std.specs.List.{AllByRecursion}
use Rattle.lit_core.specs.declared.literals.Lit.{Lit}
use Rattle.ground_core.specs.Problems.{ProblemState, IsProblem, AreLitsOf}
use Rattle.ground_core.specs.Meaning.{Satisfies}
use Rattle.def_ground.specs.declared.answers.Answer.{Answer}
use Rattle.def_ground.specs.Cases.{Case, answer_without, answer_or_cases, clauses_saying}
use Rattle.def_ground.specs.CaseSentences.{answer_or_clauses, assert_cases}
use Rattle.def_ground.specs.Forms.{signed_result}
use Rattle.def_ground.specs.Meanings.{Means, AssertsMore, IsCaseOf, CasesSay}
use Rattle.def_ground.proofs.CaseLaws.{cases-hold}
use Rattle.def_ground.proofs.ShownCases.{cases-shown, clauses-in}
use Rattle.def_ground.proofs.AssertSteps.{any-of, Local, signed-truth, signed-means, clause-right}
use Rattle.def_ground.proofs.AssertSteps.{says-clauses}

module _ (p : ProblemState) (cs : List Case) (V : (ℕ → Bool) → Bool) (fine : IsProblem p)
    (are : AllByRecursion (IsCaseOf p.vars) cs) (local : Local p.vars V)
    (say : (v : ℕ → Bool) → Satisfies p v → CasesSay v cs (V v)) where
  -- what the cases say is asserted, or its opposite, or one of the literals
  pub cases-asserted : (sign : Bool) (ls : List Lit) → AreLitsOf p.vars ls
      → AssertsMore p (assert_cases sign ls cs p) (λ v. any-of ls v || signed-truth sign (V v))
  cases-asserted sign ls within = by (answer_without cs) refl
    where
      signed-local : Local p.vars (λ v. signed-truth sign (V v))
      signed-local v w agree = ap (signed-truth sign) (local v w agree)

      by : (o : Option Answer) → answer_without cs ≡ o
          → AssertsMore p (answer_or_clauses o sign ls cs p) (λ v. any-of ls v || signed-truth sign (V v))
      by (Some a) e =
          let one : Means p p a V = subst (λ (o : Option Answer).
          Means p (answer_or_cases o cs p).problem (answer_or_cases o cs p).answer V) e
          (cases-hold p cs V fine are local say) in
          clause-right p (signed_result sign (record { answer = a; problem = p })) ls (λ v. signed-truth sign (V v))
          within signed-local (signed-means p sign (record { answer = a; problem = p }) V one)
      by None e =
          says-clauses p (clauses_saying sign ls cs) (λ v. any-of ls v || signed-truth sign (V v)) fine
          (clauses-in p.vars sign ls cs within are) (λ v s. cases-shown v sign ls cs (V v) (say v s))
