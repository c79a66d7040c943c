-- What the calls that compare aggregates come to.
use Rattle.std.proofs.Common.{◌≡◌, ℕ, ◌+◌, ◌<◌, pos, ◌+ℤ◌, Bool, true, false, List, [], ◌∷◌, ◌++◌, drop, length, get_or}
use Rattle.std.proofs.Common.{ℤ, refl, ap, ◌∙◌, arith}
use Rattle.std.specs.List.{AllByRecursion}
use Rattle.std.proofs.lemmas.Int.{ints}
use Rattle.std.proofs.lemmas.List.{at_drop_more}
use Rattle.ground_core.specs.declared.parts.Part.{Part}
use Rattle.kb_logic.specs.declared.syntax.AggKind.{AggKind}
use Rattle.kb_logic.specs.declared.syntax.Cmp.{Cmp}
use Rattle.kb_logic.specs.Denotations.{Denotation}
use Rattle.lit_core.specs.declared.literals.Lit.{Lit}
use Rattle.ground_core.specs.Problems.{ProblemState}
use Rattle.def_ground.specs.declared.answers.Answer.{Answer}
use Rattle.def_ground.specs.Answers.{Makes}
use Rattle.def_ground.specs.Cases.{Case, case_of}
use Rattle.def_ground.specs.Linear.{Linear, with_problem}
use Rattle.def_ground.specs.LinearViews.{share_of, end_of}
use Rattle.def_ground.specs.Thresholds.{CasesSoFar, compared_with_row, threshold_step}

-- what is read past the end
abbrev pub no_part : Part
no_part = record { lit = record { var = record { 0 = 0 }; positive = false }; weight = pos 0 }

front-share : (high : Bool) (p : Part) (ps : List Part)
    → end_of high (p ∷ ps) ≡ share_of high p.weight +ℤ end_of high ps
front-share true p ps = refl
front-share false p ps = refl

-- a total so far with the rest is the whole, after one part more
pub end-next : (high : Bool) (ps : List Part) (i : ℕ) (d : Part) (r t : ℤ) → i < length ps
    → r +ℤ end_of high (drop i ps) ≡ end_of high ps → t ≡ r +ℤ share_of high (get_or ps i d).weight
    → t +ℤ end_of high (drop (i + 1) ps) ≡ end_of high ps
end-next high ps i d r t lt h more =
    let here : end_of high (drop i ps) ≡ end_of high (get_or ps i d ∷ drop (i + 1) ps) =
    at_drop_more (end_of high) ps i d lt in
    let split = front-share high (get_or ps i d) (drop (i + 1) ps) in
    omega (arith, ints, here, split, h, more)

-- ---- rows

pub all-push : {Y : Type 0} (P : Y → Type 0) (ys : List Y) (y : Y) → AllByRecursion P ys → P y
    → AllByRecursion P (ys ++ y ∷ [])
all-push P [] y h own = (own, tt)
all-push P (z ∷ ys) y h own = (h.0, all-push P ys y h.1 own)

-- one case more
pub next-threshold : (k : AggKind) (c : Cmp) (st : Linear) (g : List Lit) (x : Denotation) (before after : List Case)
    (q t : ProblemState) (a : Answer) (s : Case) → Makes (compared_with_row k c (with_problem q st) x) a t
    → s ≡ case_of g a → after ≡ before ++ s ∷ []
    → (let next : CasesSoFar = record { cases = after; problem = t } in
    next ≡ threshold_step k c st (record { cases = before; problem = q }) (g, x))
next-threshold k c st g x before after q t a s made is pushed =
    ap (λ cs. let next : CasesSoFar = record { cases = cs; problem = t } in next)
    (pushed ∙ ap (λ y. before ++ y ∷ []) (is ∙ ap (case_of g) made.0))
    ∙ ap (λ p. let next : CasesSoFar = record {
      cases = before ++ case_of g (compared_with_row k c (with_problem q st) x).answer ∷ [];
      problem = p;
    } in next) made.1
