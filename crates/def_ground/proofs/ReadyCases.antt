-- Cases that stand ready over a problem: what they come to, and what is asserted by them.
use Rattle.std.proofs.Common.{ℕ, Bool, ◌||◌, List, refl, ap, arith}
use Rattle.std.specs.List.{AllByRecursion}
use Rattle.lit_core.specs.declared.literals.Lit.{Lit}
use Rattle.ground_core.specs.Problems.{ProblemState, IsProblem, AreLitsOf}
use Rattle.ground_core.specs.Meaning.{Satisfies}
use Rattle.ground_core.specs.More.{DefinesMore}
use Rattle.def_ground.specs.Cases.{Case, cases_of}
use Rattle.def_ground.specs.CaseSentences.{assert_cases}
use Rattle.def_ground.specs.Meanings.{Means, AssertsMore, IsCaseOf, CasesSay}
use Rattle.def_ground.proofs.Growing.{lits-more}
use Rattle.def_ground.proofs.CaseLaws.{cases-hold}
use Rattle.def_ground.proofs.FormSteps.{means-then}
use Rattle.def_ground.proofs.AssertSteps.{any-of, Local, signed-truth, any-local, or-local, says-after}
use Rattle.def_ground.proofs.CaseSentenceLaws.{cases-asserted}

-- the cases are over q, which defines more than p, and say V
pub record AreReady (p q : ProblemState) (cs : List Case) (V : (ℕ → Bool) → Bool) : Type 0 where
  pub fine : IsProblem q
  pub more : DefinesMore p q
  pub are : AllByRecursion (IsCaseOf q.vars) cs
  pub local : Local p.vars V
  pub say : (v : ℕ → Bool) → Satisfies q v → CasesSay v cs (V v)

later-local : (p q : ProblemState) (V : (ℕ → Bool) → Bool) → DefinesMore p q → Local p.vars V → Local q.vars V
later-local p q V more h v w agree = h v w (λ k low high. agree k low (omega (arith, high, more.grows)))

pub ready-means : (p q : ProblemState) (cs : List Case) (V : (ℕ → Bool) → Bool) → AreReady p q cs V
    → Means p (cases_of cs q).problem (cases_of cs q).answer V
ready-means p q cs V h =
    means-then p q (cases_of cs q).problem (cases_of cs q).answer V V h.more
    (cases-hold q cs V h.fine h.are (later-local p q V h.more h.local) h.say) (λ v s. refl)

pub ready-asserts : (p q : ProblemState) (cs : List Case) (V : (ℕ → Bool) → Bool) (sign : Bool) (ls : List Lit)
    → AreReady p q cs V → AreLitsOf p.vars ls
    → AssertsMore p (assert_cases sign ls cs q) (λ v. any-of ls v || signed-truth sign (V v))
ready-asserts p q cs V sign ls h within =
    let W : (ℕ → Bool) → Bool = λ v. any-of ls v || signed-truth sign (V v) in
    let local : Local p.vars W = or-local p.vars (any-of ls) (λ v. signed-truth sign (V v))
    (any-local p.vars ls within) (λ v w agree. ap (signed-truth sign) (h.local v w agree)) in
    says-after p q (assert_cases sign ls cs q) W W h.more local (λ v s. refl)
    (cases-asserted q cs V h.fine h.are (later-local p q V h.more h.local) h.say sign ls
    (lits-more p.vars q.vars h.more.grows ls within))
