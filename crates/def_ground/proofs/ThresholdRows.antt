-- How an aggregate compares with the rows of a term: a case for each of them.
use Rattle.std.proofs.Common.{◌≡◌, ℕ, ℤ, Bool, true, false, not, if◌then◌else◌, List, [], ◌∷◌, ◌++◌, fold}
use Rattle.std.proofs.Common.{refl, sym, ap, ◌∙◌, subst, arith}
use Rattle.std.specs.List.{list_all, AllByRecursion, AllZip}
use Rattle.std.proofs.lemmas.List.{append-nil, append_assoc}
use Rattle.std.proofs.lemmas.List.Elements.{All-cons, All-nil}
use Rattle.kb_logic.specs.declared.syntax.AggKind.{AggKind}
use Rattle.kb_logic.specs.declared.syntax.Cmp.{Cmp}
use Rattle.kb_logic.specs.Denotations.{Denotation, number, named, minus_infinity, plus_infinity, undefined, compared}
use Rattle.lit_core.specs.declared.literals.Lit.{Lit}
use Rattle.lit_core.specs.Literals.{literal_value, negated}
use Rattle.ground_core.specs.Problems.{ProblemState, IsProblem, IsLitOf, AreLitsOf}
use Rattle.ground_core.specs.Meaning.{Satisfies, shifted}
use Rattle.ground_core.specs.More.{DefinesMore, Agree}
use Rattle.ground_core.proofs.Locals.{joined-local, value-local}
use Rattle.ground_core.proofs.Mores.{more-trans}
use Rattle.term_values.specs.Rows.{selected_values}
use Rattle.def_ground.specs.declared.answers.Answer.{Answer}
use Rattle.def_ground.specs.declared.answers.Answer.TheVariants.{Constant, Literal}
use Rattle.def_ground.specs.Answers.{GroundResult, answer_value, AnswerWithin}
use Rattle.def_ground.specs.Cases.{Case, case_of, cases_of, side_value}
use Rattle.def_ground.specs.Linear.{Linear, with_problem, compared_at}
use Rattle.def_ground.specs.LinearValues.{linear_value, kind_of_parts, IsLinear, Comes}
use Rattle.def_ground.specs.Meanings.{Means, IsCaseOf, CasesSay, selected_cases}
use Rattle.def_ground.specs.Thresholds.{CasesSoFar, compared_with_row, threshold_step, compared_with_rows}
use Rattle.def_ground.proofs.CaseLaws.{side-more, cases-are-right}
use Rattle.def_ground.proofs.FormSteps.{means-then}
use Rattle.def_ground.proofs.Growing.{lits-more, more-refl}
use Rattle.def_ground.proofs.LeafLaws.{case-yes, case-no, case-guards}
use Rattle.def_ground.proofs.LinearSteps.{linear-later}
use Rattle.def_ground.proofs.ThresholdComparisons.{compared-right}

-- ---- the case that an answer is

pub case-within : (n : ℕ) (g : List Lit) (a : Answer) → AreLitsOf n g → AnswerWithin n a → IsCaseOf n (case_of g a)
case-within n g (Constant true) wg wa = record { guards = wg; yes = tt; no = All-nil (IsLitOf n) }
case-within n g (Constant false) wg wa = record { guards = wg; yes = All-nil (IsLitOf n); no = tt }
case-within n g (Literal l) wg wa = record {
  guards = wg;
  yes = All-cons (IsLitOf n) l [] wa (All-nil (IsLitOf n));
  no = All-cons (IsLitOf n) (negated l) [] wa (All-nil (IsLitOf n));
}

-- ---- only the problem's variables matter

-- the number of the one row that is selected
abbrev number_in : List Denotation → Denotation
number_in [] = undefined
number_in (d ∷ ds) = d

select-by : (d : Denotation) (s t : Bool) (xs ys : List Denotation) → s ≡ t → xs ≡ ys
    → (if s then d ∷ xs else xs) ≡ (if t then d ∷ ys else ys)
select-by d s t xs ys e f = ap (λ b. if b then d ∷ xs else xs) e ∙ ap (λ zs. if t then d ∷ zs else zs) f

selected-local : (n : ℕ) (v w : ℕ → Bool) → Agree n v w → (rs : List (List Lit × Denotation))
    → AllByRecursion (λ r. AreLitsOf n r.0) rs → selected_values v rs ≡ selected_values w rs
selected-local n v w agree [] wg = refl
selected-local n v w agree (r ∷ rs) wg =
    select-by r.1 (list_all (literal_value v) r.0) (list_all (literal_value w) r.0) (selected_values v rs)
    (selected_values w rs) (joined-local n v w agree true r.0 wg.0) (selected-local n v w agree rs wg.1)

value-same : (k : AggKind) (st : Linear) → IsLinear k st → (v w : ℕ → Bool) → Agree st.problem.vars v w
    → linear_value k v st ≡ linear_value k w st
value-same k st h v w agree =
    ap (shifted st.base) (value-local st.problem.vars v w agree (kind_of_parts k) st.parts h.within)

module _ (k : AggKind) (c : Cmp) (st : Linear) (h : IsLinear k st) where
  -- how the aggregate compares with a value
  abbrev against : (ℕ → Bool) → Denotation → Bool
  against v d = compared c (linear_value k v st) d

  -- ---- the case of a row

  record IsFor (q : ProblemState) (r : List Lit × Denotation) (s : Case) : Type 0 where
    guards : s.guards ≡ r.0
    within : IsCaseOf q.vars s
    yes : (v : ℕ → Bool) (x : ℤ) → Satisfies q v → r.1 ≡ number x → side_value v s.yes ≡ against v (number x)
    no : (v : ℕ → Bool) (x : ℤ) → Satisfies q v → r.1 ≡ number x → side_value v s.no ≡ not (against v (number x))

  for-later : (q t : ProblemState) (r : List Lit × Denotation) (s : Case) → DefinesMore q t → IsFor q r s → IsFor t r s
  for-later q t r s m f = record {
    guards = f.guards;
    within = record {
      guards = lits-more q.vars t.vars m.grows s.guards f.within.guards;
      yes = side-more q.vars t.vars m.grows s.yes f.within.yes;
      no = side-more q.vars t.vars m.grows s.no f.within.no;
    };
    yes = λ v x u e. f.yes v x (m.restricts v u) e;
    no = λ v x u e. f.no v x (m.restricts v u) e;
  }

  for-answer : (q : ProblemState) (g : List Lit) (d : ℤ) (a : Answer) → AreLitsOf q.vars g → AnswerWithin q.vars a
      → ((v : ℕ → Bool) → Satisfies q v → answer_value v a ≡ against v (number d))
      → IsFor q (g, number d) (case_of g a)
  for-answer q g d a wg wa right = record {
    guards = case-guards g a;
    within = case-within q.vars g a wg wa;
    yes = λ v x s e. case-yes v g a ∙ right v s ∙ ap (against v) e;
    no = λ v x s e. case-no v g a ∙ ap not (right v s ∙ ap (against v) e);
  }

  for-none : (q : ProblemState) (g : List Lit) (d : Denotation) → AreLitsOf q.vars g
      → ((x : ℤ) → d ≡ number x → ⊥) → IsFor q (g, d) (case_of g (Constant false))
  for-none q g d wg no_number = record {
    guards = refl;
    within = case-within q.vars g (Constant false) wg tt;
    yes = λ v x s e. absurd (no_number x e);
    no = λ v x s e. absurd (no_number x e);
  }

  -- the case of a row, and the problem after it
  record IsStep (q : ProblemState) (r : List Lit × Denotation) : Type 0 where
    fine : IsProblem (compared_with_row k c (with_problem q st) r.1).problem
    more : DefinesMore q (compared_with_row k c (with_problem q st) r.1).problem
    fits : (let g = compared_with_row k c (with_problem q st) r.1 in IsFor g.problem r (case_of r.0 g.answer))

  no-row-step : (q : ProblemState) (g : List Lit) (d : Denotation) → IsProblem q → AreLitsOf q.vars g
      → ((x : ℤ) → d ≡ number x → ⊥)
      → compared_with_row k c (with_problem q st) d ≡ record { answer = Constant false; problem = q } → IsStep q (g, d)
  no-row-step q g d fine wg no_number e =
      let P : GroundResult → Type 0 = λ x. IsProblem x.problem × DefinesMore q x.problem
      × IsFor x.problem (g, d) (case_of g x.answer) in
      let all = subst P (sym e) (fine, more-refl q, for-none q g d wg no_number) in
      record { fine = all.0; more = all.1; fits = all.2 }

  row-step : (q : ProblemState) (g : List Lit) (d : Denotation) → IsProblem q → DefinesMore st.problem q
      → AreLitsOf q.vars g → IsStep q (g, d)
  row-step q g (number d) fine more wg =
      let t = compared_at k c (with_problem q st) d in
      let m = compared-right k (with_problem q st) d (linear-later k st q h fine more) c in record {
        fine = m.fine;
        more = m.more;
        fits = for-answer t.problem g d t.answer (lits-more q.vars t.problem.vars m.more.grows g wg) m.within m.right;
      }
  row-step q g (named n) fine more wg = no-row-step q g (named n) fine wg (λ x e. cc) refl
  row-step q g minus_infinity fine more wg = no-row-step q g minus_infinity fine wg (λ x e. cc) refl
  row-step q g plus_infinity fine more wg = no-row-step q g plus_infinity fine wg (λ x e. cc) refl
  row-step q g undefined fine more wg = no-row-step q g undefined fine wg (λ x e. cc) refl

  -- ---- the cases of all rows

  record Made (cs out : CasesSoFar) (rs : List (List Lit × Denotation)) : Type 0 where
    cases : List Case
    made : out.cases ≡ cs.cases ++ cases
    fits : AllZip (IsFor out.problem) rs cases
    fine : IsProblem out.problem
    more : DefinesMore cs.problem out.problem

  all-made : (rs : List (List Lit × Denotation)) (cs : CasesSoFar) → IsProblem cs.problem
      → DefinesMore st.problem cs.problem → AllByRecursion (λ r. AreLitsOf st.problem.vars r.0) rs
      → Made cs (fold (threshold_step k c st) cs rs) rs
  all-made [] cs fine more wg = record {
    cases = [];
    made = sym (append-nil cs.cases);
    fits = tt;
    fine = fine;
    more = more-refl cs.problem;
  }
  all-made (r ∷ rs) cs fine more wg =
      let q = cs.problem in
      let one = row-step q r.0 r.1 fine more (lits-more st.problem.vars q.vars more.grows r.0 wg.0) in
      let next = threshold_step k c st cs r in
      let own = case_of r.0 (compared_with_row k c (with_problem q st) r.1).answer in
      let rest = all-made rs next one.fine (more-trans st.problem q next.problem more one.more) wg.1 in
      let out = fold (threshold_step k c st) next rs in record {
        cases = own ∷ rest.cases;
        made = rest.made ∙ append_assoc cs.cases (own ∷ []) rest.cases;
        fits = (for-later next.problem out.problem r own rest.more one.fits, rest.fits);
        fine = rest.fine;
        more = more-trans q next.problem out.problem one.more rest.more;
      }

  are-cases : (q : ProblemState) (rs : List (List Lit × Denotation)) (ks : List Case) → AllZip (IsFor q) rs ks
      → AllByRecursion (IsCaseOf q.vars) ks
  are-cases q [] [] z = tt
  are-cases q [] (s ∷ ks) z = absurd z
  are-cases q (r ∷ rs) [] z = absurd z
  are-cases q (r ∷ rs) (s ∷ ks) z = (z.0.within, are-cases q rs ks z.1)

  -- ---- the one case whose guards are true

  none-picked : (q : ProblemState) (v : ℕ → Bool) (rs : List (List Lit × Denotation)) (ks : List Case)
      → AllZip (IsFor q) rs ks → selected_values v rs ≡ [] → selected_cases v ks ≡ []
  none-picked q v [] [] z e = refl
  none-picked q v [] (s ∷ ks) z e = absurd z
  none-picked q v (r ∷ rs) [] z e = absurd z
  none-picked q v (r ∷ rs) (s ∷ ks) z e =
      subst (λ gs. (if list_all (literal_value v) gs then s ∷ selected_cases v ks else selected_cases v ks) ≡ [])
      (sym z.0.guards) (by (list_all (literal_value v) r.0) (none-picked q v rs ks z.1) e)
    where
      by : (t : Bool) → (selected_values v rs ≡ [] → selected_cases v ks ≡ [])
          → (if t then r.1 ∷ selected_values v rs else selected_values v rs) ≡ []
          → (if t then s ∷ selected_cases v ks else selected_cases v ks) ≡ []
      by true rest f = cc
      by false rest f = rest f

  picked : (q : ProblemState) (v : ℕ → Bool) (d : ℤ) → Satisfies q v → (rs : List (List Lit × Denotation))
      (ks : List Case) → AllZip (IsFor q) rs ks → selected_values v rs ≡ number d ∷ []
      → CasesSay v ks (against v (number d))
  picked q v d s [] [] z e = absurd (wrong e)
    where
      wrong : [] ≡ number d ∷ [] → ⊥
      wrong e = cc
  picked q v d s [] (t ∷ ks) z e = absurd z
  picked q v d s (r ∷ rs) [] z e = absurd z
  picked q v d s (r ∷ rs) (t ∷ ks) z e = by (list_all (literal_value v) r.0) (picked q v d s rs ks z.1) refl e
    where
      front : (x : Denotation) (xs : List Denotation) → x ∷ xs ≡ number d ∷ [] → (x ≡ number d) × (xs ≡ [])
      front x xs f = (cc, cc)

      by : (b : Bool) → (selected_values v rs ≡ number d ∷ [] → CasesSay v ks (against v (number d)))
          → list_all (literal_value v) r.0 ≡ b
          → (if b then r.1 ∷ selected_values v rs else selected_values v rs) ≡ number d ∷ []
          → CasesSay v (t ∷ ks) (against v (number d))
      by true more g f =
          let p = front r.1 (selected_values v rs) f in record {
            case = t;
            one = ap (λ b. if b then t ∷ selected_cases v ks else selected_cases v ks)
                (ap (list_all (literal_value v)) z.0.guards ∙ g)
                ∙ ap (λ l. t ∷ l) (none-picked q v rs ks z.1 p.1);
            yes = z.0.yes v d s p.0;
            no = z.0.no v d s p.0;
          }
      by false more g f =
          let rest = more f in record {
            case = rest.case;
            one = ap (λ b. if b then t ∷ selected_cases v ks else selected_cases v ks)
                (ap (list_all (literal_value v)) z.0.guards ∙ g) ∙ rest.one;
            yes = rest.yes;
            no = rest.no;
          }

  rows-right : (D : (ℕ → Bool) → ℤ) (rs : List (List Lit × Denotation))
      → AllByRecursion (λ r. AreLitsOf st.problem.vars r.0) rs
      → ((v : ℕ → Bool) → Satisfies st.problem v → selected_values v rs ≡ number (D v) ∷ [])
      → Means st.problem (compared_with_rows k c st rs).problem (compared_with_rows k c st rs).answer
      (λ v. against v (number (D v)))
  rows-right D [] wg one = record {
    fine = h.fine;
    more = more-refl st.problem;
    within = tt;
    right = λ v s. absurd (wrong v (one v s));
  }
    where
      wrong : (v : ℕ → Bool) → [] ≡ number (D v) ∷ [] → ⊥
      wrong v e = cc
  rows-right D (r ∷ rs) wg one =
      let start : CasesSoFar = record { cases = []; problem = st.problem } in
      let out = fold (threshold_step k c st) start (r ∷ rs) in
      let m = all-made (r ∷ rs) start h.fine (more-refl st.problem) wg in
      let C : (ℕ → Bool) → Bool = λ v. against v (number_in (selected_values v (r ∷ rs))) in
      let zip : AllZip (IsFor out.problem) (r ∷ rs) out.cases =
      subst (AllZip (IsFor out.problem) (r ∷ rs)) (sym m.made) m.fits in
      let is : (v : ℕ → Bool) → Satisfies st.problem v → C v ≡ against v (number (D v)) =
      λ v s. ap (λ ds. against v (number_in ds)) (one v s) in
      let right = cases-are-right out.problem out.cases C m.fine (are-cases out.problem (r ∷ rs) out.cases zip)
      (λ v w e. local v w (λ i low high. e i low (omega (arith, high, m.more.grows))))
      (λ v s. subst (CasesSay v out.cases) (sym (is v (m.more.restricts v s)))
      (picked out.problem v (D v) s (r ∷ rs) out.cases zip (one v (m.more.restricts v s)))) in
      let last = cases_of out.cases out.problem in
      means-then st.problem out.problem last.problem last.answer C (λ v. against v (number (D v))) m.more right
      (λ v s. is v (m.more.restricts v s))
    where
      local : (v w : ℕ → Bool) → Agree st.problem.vars v w
          → against v (number_in (selected_values v (r ∷ rs))) ≡ against w (number_in (selected_values w (r ∷ rs)))
      local v w e =
          ap (λ x. compared c x (number_in (selected_values v (r ∷ rs)))) (value-same k st h v w e)
          ∙ ap (λ ds. against w (number_in ds)) (selected-local st.problem.vars v w e (r ∷ rs) wg)

-- what the parts come to compares so with the one row that is selected
pub comes-compared-rows : (k : AggKind) (c : Cmp) (p : ProblemState) (st : Linear) (V : (ℕ → Bool) → Denotation)
    (D : (ℕ → Bool) → ℤ) (rs : List (List Lit × Denotation)) → Comes k p st V
    → AllByRecursion (λ r. AreLitsOf st.problem.vars r.0) rs
    → ((v : ℕ → Bool) → Satisfies st.problem v → selected_values v rs ≡ number (D v) ∷ [])
    → Means p (compared_with_rows k c st rs).problem (compared_with_rows k c st rs).answer
    (λ v. compared c (V v) (number (D v)))
comes-compared-rows k c p st V D rs h wg one =
    let g = compared_with_rows k c st rs in
    means-then p st.problem g.problem g.answer (λ v. compared c (linear_value k v st) (number (D v)))
    (λ v. compared c (V v) (number (D v))) h.more (rows-right k c st h.linear D rs wg one)
    (λ v s. ap (λ x. compared c x (number (D v))) (h.right v s))
