-- Steps over cases.
use Rattle.std.proofs.Common.{◌≡◌, ℕ, ◌+◌, ◌<◌, Bool, true, false, not, ◌&&◌, cond, if◌then◌else◌, List, [], ◌∷◌}
use Rattle.std.proofs.Common.{map, filter, length, drop, get_or, Option, Some, None, refl, sym, ap, subst, ◌∙◌, arith}
use Rattle.std.specs.List.{list_all, AllByRecursion}
use Rattle.std.proofs.lemmas.List.{at_drop_more}
use Rattle.ground_core.specs.Problems.{ProblemState}
use Rattle.def_ground.specs.declared.cases.Case.{Case as CaseOfCode}
use Rattle.def_ground.specs.declared.answers.Answer.{Answer}
use Rattle.def_ground.specs.declared.answers.Answer.TheVariants.{Constant, Literal}
use Rattle.def_ground.specs.Answers.{GroundResult, Grows, AnswerWithin, opposite_of}
use Rattle.def_ground.specs.Cases.{Case, is_always, only_literal, only_guard, plain_answer, answer_or_cases}
use Rattle.def_ground.specs.Cases.{answer_without}
use Rattle.def_ground.specs.Cases.{cases_of}
use Rattle.def_ground.specs.CaseViews.{case_view}
use Rattle.def_ground.specs.Meanings.{IsCaseOf}
use Rattle.def_ground.proofs.CaseLaws.{plain-of-within}

module _ (P : Case → Bool) where
  guard-step : (t a : Bool) (x y : Case) (fs : List Case)
      → only_guard (x ∷ fs) ≡ (if a then only_literal x.guards else None)
      → only_guard (x ∷ cond t (y ∷ fs) fs) ≡ (if not t && a then only_literal x.guards else None)
  guard-step true a x y fs h = refl
  guard-step false a x y fs h = h

  guard-first : (x : Case) (xs : List Case)
      → only_guard (x ∷ filter P xs) ≡ (if list_all (λ c. not (P c)) xs then only_literal x.guards else None)
  guard-first x [] = refl
  guard-first x (y ∷ ys) = guard-step (P y) (list_all (λ c. not (P c)) ys) x y (filter P ys) (guard-first x ys)

  -- the first case that passes is the only one exactly where no later one passes
  pub guard-found : (cs : List CaseOfCode) (k : ℕ) (x : CaseOfCode) (a : Bool) → k < length cs → x ≡ get_or cs k x
      → P (case_view x) ≡ true → list_all (λ c. not (P c)) (map case_view (drop (k + 1) cs)) ≡ a
      → (if a then only_literal x.guards.now else None) ≡ only_guard (filter P (map case_view (drop k cs)))
  guard-found cs k x a h is p e =
      let rest = map case_view (drop (k + 1) cs) in
      sym
      (at_drop_more (λ ys. only_guard (filter P (map case_view ys))) cs k x h
      ∙ ap (λ y. only_guard (filter P (case_view y ∷ rest))) (sym is)
      ∙ ap (λ t. only_guard (cond t (case_view x ∷ filter P rest) (filter P rest))) p
      ∙ guard-first (case_view x) rest
      ∙ ap (λ b. if b then only_literal x.guards.now else None) e)

module _ (p : ProblemState) (cs : List Case) (h : AllByRecursion (IsCaseOf p.vars) cs) where
  abbrev made : Bool → Bool → Option Answer → GroundResult
  made a c o =
      answer_or_cases (if a then Some (Constant true) else (if c then Some (Constant false) else o)) cs p

  made-grows : (a c : Bool) (o : Option Answer) → plain_answer cs ≡ o
      → Grows p (made a c o).problem (made a c o).answer
  made-grows true c o e = record { vars = omega arith; within = tt }
  made-grows false true o e = record { vars = omega arith; within = tt }
  made-grows false false (Some x) e = record { vars = omega arith; within = plain-of-within p.vars cs x h e }
  made-grows false false None e = record { vars = omega arith; within = (omega arith, omega arith) }

  -- what cases come to is over the problem's variables
  pub cases-grow : Grows p (cases_of cs p).problem (cases_of cs p).answer
  cases-grow =
      made-grows (list_all (λ (c : Case). is_always c.yes) cs) (list_all (λ (c : Case). is_always c.no) cs)
      (plain_answer cs) refl

-- an answer that needs no variable is over the problem's
pub answer-in : (n : ℕ) (cs : List Case) (a : Answer) → AllByRecursion (IsCaseOf n) cs → answer_without cs ≡ Some a
    → AnswerWithin n a
answer-in n cs a are h =
    by (list_all (λ (c : Case). is_always c.yes) cs) (list_all (λ (c : Case). is_always c.no) cs) (plain_answer cs)
    (plain-of-within n cs a are) h
  where
    by : (t u : Bool) (o : Option Answer) → (o ≡ Some a → AnswerWithin n a)
        → (if t then Some (Constant true) else (if u then Some (Constant false) else o)) ≡ Some a → AnswerWithin n a
    by true u o f e = let is : Constant true ≡ a = cc in subst (AnswerWithin n) is tt
    by false true o f e = let is : Constant false ≡ a = cc in subst (AnswerWithin n) is tt
    by false false o f e = f e

pub signed-in : (n : ℕ) (sign : Bool) (a : Answer) → AnswerWithin n a
    → AnswerWithin n (if sign then a else opposite_of a)
signed-in n true a h = h
signed-in n false (Constant c) h = tt
signed-in n false (Literal l) h = h
