-- Cases, of which one holds.
use Rattle.std.proofs.Common.{◌≡◌, ℕ, ◌+◌, ◌≤◌, Bool, true, false, not, ◌&&◌, ◌||◌, List, [], ◌∷◌, ◌++◌, All}
use Rattle.std.proofs.Common.{if◌then◌else◌, Option, Some, None, refl, sym, ap, ◌∙◌, subst, arith, filter, option_map}
use Rattle.std.specs.List.{list_all, AllByRecursion}
use Rattle.std.proofs.lemmas.List.Elements.{All-append, All-cons, All-nil}
use Rattle.std.proofs.lemmas.List.Folds.{list_all-append}
use Rattle.std.proofs.lemmas.Bool.{and_parts}
use Rattle.lit_core.specs.declared.literals.Lit.{Lit}
use Rattle.lit_core.specs.Literals.{literal_value, negated, by_sign}
use Rattle.lit_core.specs.Truth.{IsSatisfied}
use Rattle.lit_core.proofs.Soundness.{value-negated}
use Rattle.ground_core.specs.Problems.{ProblemState, IsProblem, IsLitOf, AreLitsOf, IsGateOf}
use Rattle.ground_core.specs.Meaning.{Satisfies}
use Rattle.ground_core.specs.More.{Agree}
use Rattle.ground_core.specs.Growth.{next_lit}
use Rattle.ground_core.proofs.Fronts.{All-front, All-back}
use Rattle.ground_core.proofs.Clauses.{clause_value, clauses-true, clauses-hold, same-true, true-same}
use Rattle.ground_core.proofs.Mores.{added}
use Rattle.def_ground.specs.declared.answers.Answer.{Answer}
use Rattle.def_ground.specs.declared.answers.Answer.TheVariants.{Constant, Literal}
use Rattle.def_ground.specs.Answers.{GroundResult, answer_value, AnswerWithin}
use Rattle.def_ground.specs.Cases.{certain_answer, answer_or_cases, Case, side_value, clauses_saying, clauses_of_cases}
use Rattle.def_ground.specs.Cases.{with_cases, is_always, unguarded_answer, plain_answer, single_answer, only_literal}
use Rattle.def_ground.specs.Cases.{only_guard, is_certain, cases_of}
use Rattle.def_ground.specs.Meanings.{Means, IsCaseOf, CasesSay, selected_cases, SideWithin}
use Rattle.def_ground.specs.Laws.{CasesAreRight}
use Rattle.def_ground.proofs.Growing.{more-refl, lits-more, problem-grown}
use Rattle.def_ground.proofs.ShownCases.{cases-shown, clauses-in}

one-clause : (a : Bool) → (a && true) ≡ a
one-clause true = refl
one-clause false = refl

-- the output has the value of the cases
one-said : (o x : Bool) → (((not o || false) || x) && ((o || false) || not x)) ≡ by_sign o x
one-said true true = refl
one-said true false = refl
one-said false true = refl
one-said false false = refl

cases-value : (v : ℕ → Bool) (out : Lit) (cs : List Case) (x : Bool) → CasesSay v cs x
    → list_all (clause_value v) (clauses_of_cases out cs) ≡ by_sign (literal_value v out) x
cases-value v out cs x say =
    list_all-append (clause_value v) (clauses_saying true (negated out ∷ []) cs) (clauses_saying false (out ∷ []) cs)
    ∙ ap (λ c. c && list_all (clause_value v) (clauses_saying false (out ∷ []) cs))
    (cases-shown v true (negated out ∷ []) cs x say
    ∙ ap (λ c. (c || false) || x) (value-negated v out))
    ∙ ap (λ c. ((not (literal_value v out) || false) || x) && c) (cases-shown v false (out ∷ []) cs x say)
    ∙ one-said (literal_value v out) x

-- a property of all cases is one of the selected_values case
kept : (P : Case → Bool) (g : Bool) (c d : Case) (cs ds : List Case) → P c ≡ true → (ds ≡ d ∷ [] → P d ≡ true)
    → (if g then c ∷ ds else ds) ≡ d ∷ [] → P d ≡ true
kept P true c d cs ds h f e = let is : c ≡ d = cc in ap P (sym is) ∙ h
kept P false c d cs ds h f e = f e

selected-passes : (v : ℕ → Bool) (P : Case → Bool) (cs : List Case) (d : Case) → list_all P cs ≡ true
    → selected_cases v cs ≡ d ∷ [] → P d ≡ true
selected-passes v P [] d h e = cc
selected-passes v P (c ∷ cs) d h e =
    let both = and_parts (P c) (list_all P cs) h in
    kept P (list_all (literal_value v) c.guards) c d cs (selected_cases v cs) both.0 (selected-passes v P cs d both.1) e

always-true : (v : ℕ → Bool) (o : Option (List Lit)) → is_always o ≡ true → side_value v o ≡ true
always-true v None h = refl
always-true v (Some ls) h = cc

-- one case without guards
plain-value : (v : ℕ → Bool) (g : List Lit) (o : Option (List Lit)) (a : Answer) → unguarded_answer g o ≡ Some a
    → (list_all (literal_value v) g ≡ true) × (side_value v o ≡ answer_value v a)
plain-value v [] (Some (l ∷ [])) a h =
    let is : Literal l ≡ a = cc in (refl, one-literal (literal_value v l) ∙ ap (answer_value v) is)
  where
    one-literal : (c : Bool) → (c || false) ≡ c
    one-literal true = refl
    one-literal false = refl
plain-value v [] None a h = cc
plain-value v [] (Some []) a h = cc
plain-value v [] (Some (l ∷ m ∷ ls)) a h = cc
plain-value v (x ∷ g) None a h = cc
plain-value v (x ∷ g) (Some []) a h = cc
plain-value v (x ∷ g) (Some (l ∷ ls)) a h = cc

plain-within : (n : ℕ) (g : List Lit) (o : Option (List Lit)) (a : Answer) → SideWithin n o
    → unguarded_answer g o ≡ Some a → AnswerWithin n a
plain-within n [] (Some (l ∷ [])) a w h = let is : Literal l ≡ a = cc in subst (AnswerWithin n) is (w 0 l (omega arith))
plain-within n [] None a w h = cc
plain-within n [] (Some []) a w h = cc
plain-within n [] (Some (l ∷ m ∷ ls)) a w h = cc
plain-within n (x ∷ g) None a w h = cc
plain-within n (x ∷ g) (Some []) a w h = cc
plain-within n (x ∷ g) (Some (l ∷ ls)) a w h = cc

-- the clauses are over the variables
pub side-more : (n m : ℕ) (le : n ≤ m) (o : Option (List Lit)) → SideWithin n o → SideWithin m o
side-more n m le None h = tt
side-more n m le (Some ls) h = lits-more n m le ls h

pub cases-more : (n m : ℕ) (le : n ≤ m) (cs : List Case) → AllByRecursion (IsCaseOf n) cs
    → AllByRecursion (IsCaseOf m) cs
cases-more n m le [] h = tt
cases-more n m le (c ∷ cs) h = (
  record {
    guards = lits-more n m le c.guards h.0.guards;
    yes = side-more n m le c.yes h.0.yes;
    no = side-more n m le c.no h.0.no;
  },
  cases-more n m le cs h.1,
)

lone : (n : ℕ) (l : Lit) → IsLitOf n l → AreLitsOf n (l ∷ [])
lone n l h = All-cons (IsLitOf n) l [] h (All-nil (IsLitOf n))

pub case-clauses : (n m : ℕ) (le : n ≤ m) (out : Lit) (cs : List Case) → IsLitOf m out → AllByRecursion (IsCaseOf n) cs
    → All (AreLitsOf m) (clauses_of_cases out cs)
case-clauses n m le out cs ho h =
    let are = cases-more n m le cs h in
    All-append (AreLitsOf m) (clauses_saying true (negated out ∷ []) cs) (clauses_saying false (out ∷ []) cs)
    (clauses-in m true (negated out ∷ []) cs (lone m (negated out) ho) are)
    (clauses-in m false (out ∷ []) cs (lone m out ho) are)

when-one : (g : Bool) (c d : Case) → g ≡ true → (if g then c ∷ [] else []) ≡ d ∷ [] → c ≡ d
when-one true c d h e = cc
when-one false c d h e = cc

single-right : (v : ℕ → Bool) (cs : List Case) (a : Answer) (x : Bool) → single_answer cs ≡ Some a → CasesSay v cs x
    → answer_value v a ≡ x
single-right v [] a x h say = cc
single-right v (c ∷ []) a x h say =
    let is = plain-value v c.guards c.yes a h in
    sym is.1 ∙ ap (λ (d : Case). side_value v d.yes)
    (when-one (list_all (literal_value v) c.guards) c say.case is.0 say.one) ∙ say.yes
single-right v (c ∷ d ∷ cs) a x h say = cc

filter-if : (T : Case → Bool) (g : Bool) (c : Case) (cs : List Case)
    → filter T (if g then c ∷ cs else cs) ≡ (if g then (if T c then c ∷ filter T cs else filter T cs) else filter T cs)
filter-if T true c cs = refl
filter-if T false c cs = refl

swap-if : (g t : Bool) (c : Case) (xs : List Case)
    → (if g then (if t then c ∷ xs else xs) else xs) ≡ (if t then (if g then c ∷ xs else xs) else xs)
swap-if true true c xs = refl
swap-if true false c xs = refl
swap-if false true c xs = refl
swap-if false false c xs = refl

select-if : (v : ℕ → Bool) (t : Bool) (c : Case) (cs : List Case)
    → (if t then (if list_all (literal_value v) c.guards then c ∷ selected_cases v cs else selected_cases v cs)
    else selected_cases v cs) ≡ selected_cases v (if t then c ∷ cs else cs)
select-if v true c cs = refl
select-if v false c cs = refl

filter-selected : (v : ℕ → Bool) (T : Case → Bool) (cs : List Case)
    → filter T (selected_cases v cs) ≡ selected_cases v (filter T cs)
filter-selected v T [] = refl
filter-selected v T (c ∷ cs) =
    filter-if T (list_all (literal_value v) c.guards) c (selected_cases v cs)
    ∙ ap (λ xs. if list_all (literal_value v) c.guards then (if T c then c ∷ xs else xs) else xs)
    (filter-selected v T cs)
    ∙ swap-if (list_all (literal_value v) c.guards) (T c) c (selected_cases v (filter T cs))
    ∙ select-if v (T c) c (filter T cs)

same-test : (t g : Bool) (c d : Case) → (if t then d ∷ [] else []) ≡ (if g then c ∷ [] else []) → t ≡ g
same-test true true c d e = refl
same-test true false c d e = cc
same-test false true c d e = cc
same-test false false c d e = refl

lone-value : (v : ℕ → Bool) (ls : List Lit) (l : Lit) → only_literal ls ≡ Some l
    → list_all (literal_value v) ls ≡ literal_value v l
lone-value v [] l h = cc
lone-value v (m ∷ []) l h = let is : m ≡ l = cc in one-clause (literal_value v m) ∙ ap (literal_value v) is
lone-value v (m ∷ k ∷ ls) l h = cc

-- of the cases with a test one stands alone: the selected_values case passes exactly where its guard is true
lone-right : (v : ℕ → Bool) (T : Case → Bool) (cs fs : List Case) (d : Case) (l : Lit) → filter T cs ≡ fs
    → only_guard fs ≡ Some l → selected_cases v cs ≡ d ∷ [] → T d ≡ literal_value v l
lone-right v T cs [] d l e h one = cc
lone-right v T cs (c ∷ []) d l e h one =
    same-test (T d) (list_all (literal_value v) c.guards) c d
    (sym (ap (filter T) one) ∙ filter-selected v T cs ∙ ap (selected_cases v) e)
    ∙ lone-value v c.guards l h
lone-right v T cs (c ∷ k ∷ fs) d l e h one = cc

certain-yes : (v : ℕ → Bool) (y n : Option (List Lit)) (x : Bool) → (is_always y || is_always n) ≡ true
    → side_value v y ≡ x → side_value v n ≡ not x → is_always y ≡ x
certain-yes v None n x c e f = e
certain-yes v (Some ls) None true c e f = cc
certain-yes v (Some ls) None false c e f = refl
certain-yes v (Some ls) (Some ms) x c e f = cc

certain-no : (v : ℕ → Bool) (y n : Option (List Lit)) (x : Bool) → (is_always y || is_always n) ≡ true
    → side_value v y ≡ x → side_value v n ≡ not x → is_always n ≡ not x
certain-no v y None x c e f = f
certain-no v None (Some ls) true c e f = refl
certain-no v None (Some ls) false c e f = cc
certain-no v (Some ms) (Some ls) x c e f = cc

not-not : (c x : Bool) → c ≡ not x → not c ≡ x
not-not c true e = ap not e
not-not c false e = ap not e

plain-right : (v : ℕ → Bool) (cs : List Case) (a : Answer) (x : Bool) → plain_answer cs ≡ Some a → CasesSay v cs x
    → answer_value v a ≡ x
plain-right v cs a x h say = by (list_all is_certain cs) refl h
  where
    yes-test : Case → Bool
    yes-test = λ (c : Case). is_always c.yes

    no-test : Case → Bool
    no-test = λ (c : Case). is_always c.no

    second : (o : Option Lit) → only_guard (filter (λ (c : Case). is_always c.no) cs) ≡ o
        → list_all is_certain cs ≡ true → option_map (λ l. Literal (negated l)) o ≡ Some a → answer_value v a ≡ x
    second None e all k = cc
    second (Some l) e all k =
        let is : Literal (negated l) ≡ a = cc in
        let c = selected-passes v is_certain cs say.case all say.one in
        let passes = lone-right v (λ (c : Case). is_always c.no) cs
        (filter (λ (c : Case). is_always c.no) cs) say.case l refl e say.one in
        sym (ap (answer_value v) is) ∙ value-negated v l
        ∙ not-not (literal_value v l) x (sym passes ∙ certain-no v say.case.yes say.case.no x c say.yes say.no)

    first : (o : Option Lit) → only_guard (filter (λ (c : Case). is_always c.yes) cs) ≡ o
        → list_all is_certain cs ≡ true
        → certain_answer o (only_guard (filter (λ (c : Case). is_always c.no) cs)) ≡ Some a → answer_value v a ≡ x
    first None e all k = second (only_guard (filter (λ (c : Case). is_always c.no) cs)) refl all k
    first (Some l) e all k =
        let is : Literal l ≡ a = cc in
        let c = selected-passes v is_certain cs say.case all say.one in
        let passes = lone-right v (λ (c : Case). is_always c.yes) cs
        (filter (λ (c : Case). is_always c.yes) cs) say.case l refl e say.one in
        sym (ap (answer_value v) is) ∙ sym passes ∙ certain-yes v say.case.yes say.case.no x c say.yes say.no

    by : (t : Bool) → list_all is_certain cs ≡ t
        → (if t then certain_answer (only_guard (filter (λ (c : Case). is_always c.yes) cs))
        (only_guard (filter (λ (c : Case). is_always c.no) cs)) else single_answer cs) ≡ Some a → answer_value v a ≡ x
    by true all k = first (only_guard (filter (λ (c : Case). is_always c.yes) cs)) refl all k
    by false all k = single-right v cs a x k say

single-within : (n : ℕ) (cs : List Case) (a : Answer) → AllByRecursion (IsCaseOf n) cs → single_answer cs ≡ Some a
    → AnswerWithin n a
single-within n [] a are h = cc
single-within n (c ∷ []) a are h = plain-within n c.guards c.yes a are.0.yes h
single-within n (c ∷ d ∷ cs) a are h = cc

lone-in : (n : ℕ) (ls : List Lit) (l : Lit) → AreLitsOf n ls → only_literal ls ≡ Some l → IsLitOf n l
lone-in n [] l w h = cc
lone-in n (m ∷ []) l w h = let is : m ≡ l = cc in subst (IsLitOf n) is (w 0 m (omega arith))
lone-in n (m ∷ k ∷ ls) l w h = cc

guard-in : (n : ℕ) (cs : List Case) (l : Lit) → AllByRecursion (IsCaseOf n) cs → only_guard cs ≡ Some l → IsLitOf n l
guard-in n [] l are h = cc
guard-in n (c ∷ []) l are h = lone-in n c.guards l are.0.guards h
guard-in n (c ∷ d ∷ cs) l are h = cc

cond-in : (n : ℕ) (t : Bool) (c : Case) (cs : List Case) → IsCaseOf n c → AllByRecursion (IsCaseOf n) cs
    → AllByRecursion (IsCaseOf n) (if t then c ∷ cs else cs)
cond-in n true c cs h k = (h, k)
cond-in n false c cs h k = k

filter-in : (n : ℕ) (T : Case → Bool) (cs : List Case) → AllByRecursion (IsCaseOf n) cs
    → AllByRecursion (IsCaseOf n) (filter T cs)
filter-in n T [] h = tt
filter-in n T (c ∷ cs) h = cond-in n (T c) c (filter T cs) h.0 (filter-in n T cs h.1)

second-in : (n : ℕ) (o : Option Lit) (a : Answer) → ((l : Lit) → o ≡ Some l → IsLitOf n l)
    → option_map (λ l. Literal (negated l)) o ≡ Some a → AnswerWithin n a
second-in n None a f h = cc
second-in n (Some l) a f h = let is : Literal (negated l) ≡ a = cc in subst (AnswerWithin n) is (f l refl)

first-in : (n : ℕ) (o q : Option Lit) (a : Answer) → ((l : Lit) → o ≡ Some l → IsLitOf n l)
    → ((l : Lit) → q ≡ Some l → IsLitOf n l)
    → certain_answer o q ≡ Some a → AnswerWithin n a
first-in n None q a f g h = second-in n q a g h
first-in n (Some l) q a f g h = let is : Literal l ≡ a = cc in subst (AnswerWithin n) is (f l refl)

certain-in : (n : ℕ) (t : Bool) (o q : Option Lit) (s : Option Answer) (a : Answer)
    → ((l : Lit) → o ≡ Some l → IsLitOf n l) → ((l : Lit) → q ≡ Some l → IsLitOf n l) → (s ≡ Some a → AnswerWithin n a)
    → (if t then certain_answer o q else s) ≡ Some a → AnswerWithin n a
certain-in n true o q s a f g k h = first-in n o q a f g h
certain-in n false o q s a f g k h = k h

pub plain-of-within : (n : ℕ) (cs : List Case) (a : Answer) → AllByRecursion (IsCaseOf n) cs → plain_answer cs ≡ Some a
    → AnswerWithin n a
plain-of-within n cs a are h =
    certain-in n (list_all is_certain cs) (only_guard (filter (λ (c : Case). is_always c.yes) cs))
    (only_guard (filter (λ (c : Case). is_always c.no) cs)) (single_answer cs) a
    (λ l e. guard-in n (filter (λ (c : Case). is_always c.yes) cs) l
    (filter-in n (λ (c : Case). is_always c.yes) cs are) e)
    (λ l e. guard-in n (filter (λ (c : Case). is_always c.no) cs) l
    (filter-in n (λ (c : Case). is_always c.no) cs are) e)
    (single-within n cs a are) h

not-true : (a b : Bool) → a ≡ true → a ≡ not b → false ≡ b
not-true a true h e = cc
not-true a false h e = refl

module _ (p : ProblemState) (cs : List Case) (V : (ℕ → Bool) → Bool) (fine : IsProblem p)
    (are : AllByRecursion (IsCaseOf p.vars) cs)
    (local : (v w : ℕ → Bool) → Agree p.vars v w → V v ≡ V w)
    (say : (v : ℕ → Bool) → Satisfies p v → CasesSay v cs (V v)) where
  new : List (List Lit)
  new = clauses_of_cases (next_lit p) cs

  sat-old : (v : ℕ → Bool) → Satisfies (with_cases p cs) v → Satisfies p v
  sat-old v s =
      record {
        gates = s.gates;
        clauses = All-front (IsSatisfied v) p.clauses
            (clauses_of_cases (next_lit p) cs) s.clauses;
        sums = s.sums;
        bounds = s.bounds;
        retired = s.retired;
      }

  pub with-added : Means p (with_cases p cs) (Literal (next_lit p)) V
  with-added =
      let add = added p (with_cases p cs) V fine refl local
      (λ v s. (
        sat-old v s,
        same-true (v (p.vars + 1)) (V v)
            (sym (cases-value v (next_lit p) cs (V v) (say v (sat-old v s)))
            ∙ clauses-true v (clauses_of_cases (next_lit p) cs)
            (All-back (IsSatisfied v) p.clauses (clauses_of_cases (next_lit p) cs) s.clauses)),
      ))
      (λ v s e. record {
        gates = s.gates;
        clauses =
            All-append (IsSatisfied v) p.clauses (clauses_of_cases (next_lit p) cs) s.clauses
            (clauses-hold v (clauses_of_cases (next_lit p) cs)
            (cases-value v (next_lit p) cs (V v) (say v s) ∙ true-same (v (p.vars + 1)) (V v) e));
        sums = s.sums;
        bounds = s.bounds;
        retired = s.retired;
      }) in
      record {
        fine = record {
          atoms = omega (arith, fine.atoms);
          gates = All-front (IsGateOf (p.vars + 1)) p.gates [] more.gates;
          clauses = more.clauses;
          sums = more.sums;
          terms = more.terms;
          bounds = more.bounds;
          retired = more.retired;
        };
        more = add.more;
        within = add.within;
        right = add.means;
      }
    where
      more : IsProblem (record {
        atoms = p.atoms;
        vars = p.vars + 1;
        gates = p.gates ++ [];
        clauses = p.clauses
            ++ clauses_of_cases (next_lit p) cs;
        sums = p.sums;
        terms = p.terms;
        bounds = p.bounds;
        retired = p.retired;
      })
      more =
          problem-grown p (p.vars + 1) [] (clauses_of_cases (next_lit p) cs) fine (omega arith) (All-nil _)
          (case-clauses p.vars (p.vars + 1) (omega arith) (next_lit p) cs (omega arith, omega arith) are)

  constant : (x : Bool) → ((v : ℕ → Bool) → Satisfies p v → x ≡ V v) → Means p p (Constant x) V
  constant x h = record { fine = fine; more = more-refl p; within = tt; right = h }

  abbrev got : Bool → Bool → Option Answer → GroundResult
  got a c o =
      answer_or_cases (if a then Some (Constant true) else (if c then Some (Constant false) else o)) cs p

  got-right : (a c : Bool) (o : Option Answer) → list_all (λ (d : Case). is_always d.yes) cs ≡ a
      → list_all (λ (d : Case). is_always d.no) cs ≡ c → plain_answer cs ≡ o
      → Means p (got a c o).problem (got a c o).answer V
  got-right true c o ha hc ho = constant true (λ v s.
      let d = say v s in
      sym (always-true v d.case.yes (selected-passes v (λ (k : Case). is_always k.yes) cs d.case ha d.one)) ∙ d.yes)
  got-right false true o ha hc ho = constant false (λ v s.
      let d = say v s in
      not-true (side_value v d.case.no) (V v)
      (always-true v d.case.no (selected-passes v (λ (k : Case). is_always k.no) cs d.case hc d.one)) d.no)
  got-right false false (Some x) ha hc ho =
      record {
        fine = fine;
        more = more-refl p;
        within = plain-of-within p.vars cs x are ho;
        right = λ v s. plain-right v cs x (V v) ho (say v s);
      }
  got-right false false None ha hc ho = with-added

  pub cases-hold : Means p (cases_of cs p).problem (cases_of cs p).answer V
  cases-hold =
      got-right (list_all (λ (d : Case). is_always d.yes) cs) (list_all (λ (d : Case). is_always d.no) cs)
      (plain_answer cs) refl refl refl

pub cases-are-right : CasesAreRight
cases-are-right p cs V fine are local say = cases-hold p cs V fine are local say
