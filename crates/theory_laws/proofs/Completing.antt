-- Completion.
use Rattle.std.proofs.Common.{◌≡◌, ℕ, ◌≤◌, nat_eq, Bool, true, false, not, ◌&&◌, ◌||◌, if◌then◌else◌, Option, Some}
use Rattle.std.proofs.Common.{None, List, [], ◌∷◌, ◌++◌, All, map, filter, fold, refl, sym, ap, subst, ◌∙◌, arith}
use Rattle.std.specs.List.{list_all, list_any, AllByRecursion}
use Rattle.std.proofs.lemmas.List.Elements.{All-cons, All-nil, All-append, All-head, All-tail}
use Rattle.kb_logic.specs.declared.elements.Elem.{Elem}
use Rattle.kb_logic.specs.Trees.{RuleTree, DefinitionTree}
use Rattle.kb_logic.specs.Structures.{choices}
use Rattle.kb_logic.specs.Meaning.{truth_of}
use Rattle.lit_core.specs.declared.literals.Lit.{Lit}
use Rattle.lit_core.specs.Literals.{literal_value, negated, by_sign}
use Rattle.lit_core.proofs.Soundness.{value-negated}
use Rattle.ground_core.specs.declared.parts.Gate.{Gate}
use Rattle.ground_core.specs.Problems.{ProblemState, IsProblem, IsLitOf, AreLitsOf}
use Rattle.ground_core.specs.Meaning.{Satisfies, joined}
use Rattle.ground_core.specs.More.{Agree, DefinesMore}
use Rattle.ground_core.specs.Growth.{with_clause}
use Rattle.ground_core.specs.GateClauses.{clauses_of_join, with_sign}
use Rattle.ground_core.proofs.Clauses.{clause_value, clauses-true, clauses-hold, gate-clauses, same-true, true-same}
use Rattle.ground_core.proofs.Mores.{more-trans}
use Rattle.term_values.specs.GroundBases.{GroundBase, known_of, structure_of}
use Rattle.def_ground.specs.declared.answers.Answer.{Answer}
use Rattle.def_ground.specs.declared.answers.Answer.TheVariants.{Constant, Literal}
use Rattle.def_ground.specs.Answers.{answer_value, AnswerWithin}
use Rattle.def_ground.specs.Cases.{with_clauses}
use Rattle.def_ground.specs.Forms.{form_of, answer_of_atom}
use Rattle.def_ground.specs.Meanings.{AssertsMore, HasAtoms, HasRoom}
use Rattle.def_ground.proofs.Growing.{lit-more, more-refl}
use Rattle.def_ground.proofs.FormLaws.{form-is-right}
use Rattle.def_ground.proofs.FormSteps.{has-atoms, has-room}
use Rattle.def_ground.proofs.AssertSteps.{any-of, Local, or-false, or-true, or-assoc, says-is, says-nothing}
use Rattle.def_ground.proofs.AssertSteps.{says-clause, says-clauses, says-after, says-two}
use Rattle.def_ground.specs.Definitions.{Instances, with_body, instance_step, rule_instances, all_instances, head_var}
use Rattle.def_ground.specs.Definitions.{bodies_of, settled_by, literals_in, complete, complete_atom, defined_vars}
use Rattle.def_ground.specs.Definitions.{define_of}
use Rattle.theory_laws.specs.DefinitionLaws.{is_head_at, is_derived, is_completed}
use Rattle.def_ground.specs.GroundForms.{IsGroundForm}

-- the body can be grounded under each assignment of the rule's variables
abbrev pub IsGroundRule : GroundBase → RuleTree → Type 0
IsGroundRule b r = AllByRecursion (λ e. IsGroundForm b r.body e) (choices b.domains r.vars)

abbrev pub IsGroundDefinition : GroundBase → DefinitionTree → Type 0
IsGroundDefinition b d = AllByRecursion (IsGroundRule b) d.rules

-- one of the answers is true
abbrev any_answer : (ℕ → Bool) → List Answer → Bool
any_answer v as' = list_any (answer_value v) as'

settled-any : (v : ℕ → Bool) (as' : List Answer) → settled_by as' ≡ true → any_answer v as' ≡ true
settled-any v [] e = cc
settled-any v (Constant true ∷ as') e = refl
settled-any v (Constant false ∷ as') e = settled-any v as' e
settled-any v (Literal l ∷ as') e = ap (λ x. literal_value v l || x) (settled-any v as' e) ∙ or-true (literal_value v l)

open-any : (v : ℕ → Bool) (as' : List Answer) → settled_by as' ≡ false → any-of (literals_in as') v ≡ any_answer v as'
open-any v [] e = refl
open-any v (Constant true ∷ as') e = cc
open-any v (Constant false ∷ as') e = open-any v as' e
open-any v (Literal l ∷ as') e = ap (λ x. literal_value v l || x) (open-any v as' e)

abbrev AreWithin : ℕ → List Answer → Type 0
AreWithin n as' = AllByRecursion (AnswerWithin n) as'

pub lits-within : (n : ℕ) (as' : List Answer) → AreWithin n as' → AreLitsOf n (literals_in as')
lits-within n [] h = All-nil (IsLitOf n)
lits-within n (Constant c ∷ as') h = lits-within n as' h.1
lits-within n (Literal l ∷ as') h = All-cons (IsLitOf n) l (literals_in as') h.0 (lits-within n as' h.1)

two-ways : (x y : Bool) → (x ≡ true → y ≡ true) → (y ≡ true → x ≡ true) → x ≡ y
two-ways true true f g = refl
two-ways true false f g = sym (f refl)
two-ways false true f g = g refl
two-ways false false f g = refl

join-value : (v : ℕ → Bool) (o : Lit) (ls : List Lit) → list_all (clause_value v) (clauses_of_join false o ls)
    ≡ by_sign (literal_value v o) (joined false v ls)
join-value v o ls =
    let g : Gate = record { out = o; all = false; parts = ls } in
    two-ways (list_all (clause_value v) (clauses_of_join false o ls)) (by_sign (literal_value v o) (joined false v ls))
    (λ e. true-same (literal_value v o) (joined false v ls)
    ((gate-clauses v g).0 (clauses-hold v (clauses_of_join false o ls) e)))
    (λ e. clauses-true v (clauses_of_join false o ls)
    ((gate-clauses v g).1 (same-true (literal_value v o) (joined false v ls) e)))

none-clauses : (v : ℕ → Bool) (ls : List Lit) → list_all (clause_value v) (map (λ l. negated l ∷ []) ls)
    ≡ not (any-of ls v)
none-clauses v [] = refl
none-clauses v (l ∷ ls) =
    ap (λ x. (x || false) && list_all (clause_value v) (map (λ k. negated k ∷ []) ls)) (value-negated v l)
    ∙ ap (λ x. (not (literal_value v l) || false) && x) (none-clauses v ls) ∙ by (literal_value v l) (any-of ls v)
  where
    by : (x y : Bool) → ((not x || false) && not y) ≡ not (x || y)
    by true y = refl
    by false y = refl

none-lits : (n : ℕ) (ls : List Lit) → AreLitsOf n ls → All (AreLitsOf n) (map (λ l. negated l ∷ []) ls)
none-lits n [] h = All-nil (AreLitsOf n)
none-lits n (l ∷ ls) h = All-cons (AreLitsOf n) (negated l ∷ []) (map (λ k. negated k ∷ []) ls)
    (All-cons (IsLitOf n) (negated l) [] (All-head (IsLitOf n) l ls h) (All-nil (IsLitOf n)))
    (none-lits n ls (All-tail (IsLitOf n) l ls h))

join-lits : (n : ℕ) (o : Lit) (ls : List Lit) → IsLitOf n o → AreLitsOf n ls
    → All (AreLitsOf n) (clauses_of_join false o ls)
join-lits n o ls wo wl =
    All-append (AreLitsOf n) (map (λ (l : Lit). o ∷ negated l ∷ []) ls) ((negated o ∷ map (with_sign true) ls) ∷ [])
    (pairs ls wl) (All-cons (AreLitsOf n) (negated o ∷ map (with_sign true) ls) []
    (All-cons (IsLitOf n) (negated o) (map (with_sign true) ls) wo (same ls wl)) (All-nil (AreLitsOf n)))
  where
    pairs : (ls : List Lit) → AreLitsOf n ls → All (AreLitsOf n) (map (λ (l : Lit). o ∷ negated l ∷ []) ls)
    pairs [] h = All-nil (AreLitsOf n)
    pairs (l ∷ ls) h = All-cons (AreLitsOf n) (o ∷ negated l ∷ []) (map (λ (k : Lit). o ∷ negated k ∷ []) ls)
        (All-cons (IsLitOf n) o (negated l ∷ []) wo
        (All-cons (IsLitOf n) (negated l) [] (All-head (IsLitOf n) l ls h) (All-nil (IsLitOf n))))
        (pairs ls (All-tail (IsLitOf n) l ls h))

    same : (ls : List Lit) → AreLitsOf n ls → AreLitsOf n (map (with_sign true) ls)
    same [] h = All-nil (IsLitOf n)
    same (l ∷ ls) h = All-cons (IsLitOf n) l (map (with_sign true) ls) (All-head (IsLitOf n) l ls h)
        (same ls (All-tail (IsLitOf n) l ls h))

-- one atom
abbrev pub made_by : Bool → Answer → List Answer → ProblemState → ProblemState
made_by t (Constant true) as' p = if t then p else with_clause p (literals_in as')
made_by t (Constant false) as' p =
    if t then with_clause p [] else with_clauses p (map (λ l. negated l ∷ []) (literals_in as'))
made_by t (Literal l) as' p =
    if t then with_clause p (l ∷ []) else with_clauses p (clauses_of_join false l (literals_in as'))

pub made-same : (a : Answer) (as' : List Answer) (p : ProblemState) → made_by (settled_by as') a as' p
    ≡ complete a as' p
made-same (Constant true) as' p = refl
made-same (Constant false) as' p = refl
made-same (Literal l) as' p = refl

complete-right : (p : ProblemState) (a : Answer) (as' : List Answer) → IsProblem p → AnswerWithin p.vars a
    → AreWithin p.vars as'
    → AssertsMore p (complete a as' p) (λ v. by_sign (answer_value v a) (any_answer v as'))
complete-right p a as' fine wa w =
    subst (λ q. AssertsMore p q (λ v. by_sign (answer_value v a) (any_answer v as'))) (made-same a as' p)
    (by a wa (settled_by as') refl)
  where
    lits : AreLitsOf p.vars (literals_in as')
    lits = lits-within p.vars as' w

    by : (a : Answer) → AnswerWithin p.vars a → (t : Bool) → settled_by as' ≡ t
        → AssertsMore p (made_by t a as' p) (λ v. by_sign (answer_value v a) (any_answer v as'))
    by (Constant true) wa true e = says-nothing p (λ v. any_answer v as') fine (λ v. settled-any v as' e)
    by (Constant true) wa false e =
        says-is p (with_clause p (literals_in as')) (any-of (literals_in as')) (λ v. any_answer v as')
        (λ v. open-any v as' e)
        (says-clause p (literals_in as') fine lits)
    by (Constant false) wa true e =
        says-is p (with_clause p []) (any-of []) (λ v. not (any_answer v as')) (λ v. sym (ap not (settled-any v as' e)))
        (says-clause p [] fine (All-nil (IsLitOf p.vars)))
    by (Constant false) wa false e =
        says-clauses p (map (λ l. negated l ∷ []) (literals_in as')) (λ v. not (any_answer v as')) fine
        (none-lits p.vars (literals_in as') lits) (λ v s. none-clauses v (literals_in as') ∙ ap not (open-any v as' e))
    by (Literal l) wa true e =
        says-is p (with_clause p (l ∷ [])) (any-of (l ∷ [])) (λ v. by_sign (literal_value v l) (any_answer v as'))
        (λ v. or-false (literal_value v l) ∙ sym (signed (literal_value v l))
        ∙ ap (by_sign (literal_value v l)) (sym (settled-any v as' e)))
        (says-clause p (l ∷ []) fine (All-cons (IsLitOf p.vars) l [] wa (All-nil (IsLitOf p.vars))))
      where
        signed : (x : Bool) → by_sign x true ≡ x
        signed true = refl
        signed false = refl
    by (Literal l) wa false e =
        says-clauses p (clauses_of_join false l (literals_in as'))
        (λ v. by_sign (literal_value v l) (any_answer v as')) fine
        (join-lits p.vars l (literals_in as') wa lits)
        (λ v s. join-value v l (literals_in as') ∙ ap (by_sign (literal_value v l)) (open-any v as' e))

-- ---- instances
abbrev any_body : (ℕ → Bool) → ℕ → List (ℕ × Answer) → Bool
any_body v n [] = false
any_body v n (x ∷ xs) = (nat_eq x.0 n && answer_value v x.1) || any_body v n xs

body-push : (v : ℕ → Bool) (n : ℕ) (xs : List (ℕ × Answer)) (x : ℕ × Answer) → any_body v n (xs ++ x ∷ [])
    ≡ (any_body v n xs || (nat_eq x.0 n && answer_value v x.1))
body-push v n [] x = or-false (nat_eq x.0 n && answer_value v x.1)
body-push v n (y ∷ ys) x = ap (λ c. (nat_eq y.0 n && answer_value v y.1) || c) (body-push v n ys x)
    ∙ sym (or-assoc (nat_eq y.0 n && answer_value v y.1) (any_body v n ys) (nat_eq x.0 n && answer_value v x.1))

body-of : (v : ℕ → Bool) (n : ℕ) (xs : List (ℕ × Answer)) → any_answer v (bodies_of n xs) ≡ any_body v n xs
body-of v n [] = refl
body-of v n (x ∷ xs) = by (nat_eq x.0 n) (body-of v n xs)
  where
    by : (t : Bool) → any_answer v (bodies_of n xs) ≡ any_body v n xs
        → any_answer v (map (λ (y : ℕ × Answer). y.1)
        (if t then x ∷ filter (λ (y : ℕ × Answer). nat_eq y.0 n) xs
        else filter (λ (y : ℕ × Answer). nat_eq y.0 n) xs))
        ≡ ((t && answer_value v x.1) || any_body v n xs)
    by true e = ap (λ c. answer_value v x.1 || c) e
    by false e = e

bodies-within : (m n : ℕ) (xs : List (ℕ × Answer)) → AllByRecursion (λ x. AnswerWithin m x.1) xs
    → AreWithin m (bodies_of n xs)
bodies-within m n [] h = tt
bodies-within m n (x ∷ xs) h = by (nat_eq x.0 n) (bodies-within m n xs h.1)
  where
    by : (t : Bool) → AreWithin m (bodies_of n xs)
        → AreWithin m (map (λ (y : ℕ × Answer). y.1)
        (if t then x ∷ filter (λ (y : ℕ × Answer). nat_eq y.0 n) xs
        else filter (λ (y : ℕ × Answer). nat_eq y.0 n) xs))
    by true e = (h.0, e)
    by false e = e

answer-later : (n m : ℕ) → n ≤ m → (a : Answer) → AnswerWithin n a → AnswerWithin m a
answer-later n m le (Constant c) w = tt
answer-later n m le (Literal l) w = lit-more n m le l w

within-later : (n m : ℕ) → n ≤ m → (xs : List (ℕ × Answer)) → AllByRecursion (λ x. AnswerWithin n x.1) xs
    → AllByRecursion (λ x. AnswerWithin m x.1) xs
within-later n m le [] h = tt
within-later n m le (x ∷ xs) h = (answer-later n m le x.1 h.0, within-later n m le xs h.1)

within-push : (m : ℕ) (xs : List (ℕ × Answer)) (x : ℕ × Answer) → AllByRecursion (λ y. AnswerWithin m y.1) xs
    → AnswerWithin m x.1
    → AllByRecursion (λ y. AnswerWithin m y.1) (xs ++ x ∷ [])
within-push m [] x h w = (w, tt)
within-push m (y ∷ ys) x h w = (h.0, within-push m ys x h.1 w)

-- the bodies so far are right
record AreInstances (p : ProblemState) (st : Instances) (X : (ℕ → Bool) → ℕ → Bool) : Type 0 where
  fine : IsProblem st.problem
  more : DefinesMore p st.problem
  within : AllByRecursion (λ x. AnswerWithin st.problem.vars x.1) st.bodies
  right : (v : ℕ → Bool) → Satisfies st.problem v → (n : ℕ) → any_body v n st.bodies ≡ X v n

instances-are : (p : ProblemState) (st : Instances) (X Y : (ℕ → Bool) → ℕ → Bool)
    → ((v : ℕ → Bool) (n : ℕ) → X v n ≡ Y v n) → AreInstances p st X → AreInstances p st Y
instances-are p st X Y e h =
    record { fine = h.fine; more = h.more; within = h.within; right = λ v s n. h.right v s n ∙ e v n }

module _ (b : GroundBase) (p : ProblemState) (at : HasAtoms b p) (room : HasRoom b p) where
  abbrev told : RuleTree → (ℕ → Bool) → ℕ → List Elem → Bool
  told r v n e = is_head_at (head_var b r e) n && truth_of (structure_of b v) r.body e

  one-body : (r : RuleTree) (e : List Elem) (st : Instances) (X : (ℕ → Bool) → ℕ → Bool)
      → IsGroundForm b r.body e → AreInstances p st X
      → (o : Option ℕ) → AreInstances p (with_body o (form_of b r.body e st.problem) st)
      (λ v n. X v n || (is_head_at o n && truth_of (structure_of b v) r.body e))
  one-body r e st X ground h None = instances-are p st X (λ v n. X v n || false) (λ v n. sym (or-false (X v n))) h
  one-body r e st X ground h (Some k) =
      let g = form_of b r.body e st.problem in
      let m = form-is-right b r.body e st.problem h.fine (has-atoms b p st.problem h.more at)
      (has-room b p st.problem h.more room) ground in record {
        fine = m.fine;
        more = more-trans p st.problem g.problem h.more m.more;
        within = within-push g.problem.vars st.bodies (k, g.answer)
            (within-later st.problem.vars g.problem.vars m.more.grows st.bodies h.within) m.within;
        right = λ v s n. body-push v n st.bodies (k, g.answer)
            ∙ ap (λ c. c || (nat_eq k n && answer_value v g.answer)) (h.right v (m.more.restricts v s) n)
            ∙ ap (λ c. X v n || (nat_eq k n && c)) (m.right v s);
      }

  each-body : (r : RuleTree) (es : List (List Elem)) → AllByRecursion (λ e. IsGroundForm b r.body e) es
      → (st : Instances) (X : (ℕ → Bool) → ℕ → Bool) → AreInstances p st X
      → AreInstances p (fold (instance_step b r) st es) (λ v n. X v n || list_any (told r v n) es)
  each-body r [] ground st X h = instances-are p st X (λ v n. X v n || false) (λ v n. sym (or-false (X v n))) h
  each-body r (e ∷ es) ground st X h = instances-are p (fold (instance_step b r) (instance_step b r st e) es)
      (λ v n. (X v n || told r v n e) || list_any (told r v n) es) (λ v n. X v n || list_any (told r v n) (e ∷ es))
      (λ v n. or-assoc (X v n) (told r v n e) (list_any (told r v n) es))
      (each-body r es ground.1 (instance_step b r st e) (λ v n. X v n || told r v n e)
      (one-body r e st X ground.0 h (head_var b r e)))

  each-rule : (rs : List RuleTree) → AllByRecursion (IsGroundRule b) rs → (st : Instances) (X : (ℕ → Bool) → ℕ → Bool)
      → AreInstances p st X
      → AreInstances p (fold (rule_instances b) st rs) (λ v n. X v n || is_derived b v rs n)
  each-rule [] ground st X h = instances-are p st X (λ v n. X v n || false) (λ v n. sym (or-false (X v n))) h
  each-rule (r ∷ rs) ground st X h = instances-are p (fold (rule_instances b) (rule_instances b st r) rs)
      (λ v n. (X v n || list_any (told r v n) (choices b.domains r.vars)) || is_derived b v rs n)
      (λ v n. X v n || is_derived b v (r ∷ rs) n)
      (λ v n. or-assoc (X v n) (list_any (told r v n) (choices b.domains r.vars)) (is_derived b v rs n))
      (each-rule rs ground.1 (rule_instances b st r) (λ v n. X v n || list_any (told r v n) (choices b.domains r.vars))
      (each-body r (choices b.domains r.vars) ground.0 st X h))

  all-instances : (d : DefinitionTree) → IsProblem p → IsGroundDefinition b d
      → AreInstances p (all_instances b d p) (λ v n. is_derived b v d.rules n)
  all-instances d fine ground = each-rule d.rules ground (record { bodies = []; problem = p }) (λ v n. false)
      (record { fine = fine; more = more-refl p; within = tt; right = λ v s n. refl })

-- ---- atoms
list-same : (f g : ℕ → Bool) (ns : List ℕ) → ((n : ℕ) → f n ≡ g n) → list_all f ns ≡ list_all g ns
list-same f g [] e = refl
list-same f g (n ∷ ns) e = ap (λ c. c && list_all f ns) (e n) ∙ ap (λ c. g n && c) (list-same f g ns e)

list-same-in : (P : ℕ → Type 0) (f g : ℕ → Bool) (ns : List ℕ) → AllByRecursion P ns → ((n : ℕ) → P n → f n ≡ g n)
    → list_all f ns ≡ list_all g ns
list-same-in P f g [] h e = refl
list-same-in P f g (n ∷ ns) h e =
    ap (λ c. c && list_all f ns) (e n h.0) ∙ ap (λ c. g n && c) (list-same-in P f g ns h.1 e)

answer-local : (n : ℕ) (a : Answer) → AnswerWithin n a → (v w : ℕ → Bool) → Agree n v w → answer_value v a
    ≡ answer_value w a
answer-local n (Constant c) h v w e = refl
answer-local n (Literal l) h v w e = ap (by_sign l.positive) (e l.var.0 h.0 h.1)

answers-local : (n : ℕ) (as' : List Answer) → AreWithin n as' → (v w : ℕ → Bool) → Agree n v w → any_answer v as'
    ≡ any_answer w as'
answers-local n [] h v w e = refl
answers-local n (a ∷ as') h v w e = ap (λ c. c || any_answer v as') (answer-local n a h.0 v w e)
    ∙ ap (λ c. answer_value w a || c) (answers-local n as' h.1 v w e)

abbrev pub InRange : ℕ → ℕ → Type 0
InRange m n = (1 ≤ n) × (n ≤ m)

in-range-later : (m k : ℕ) → m ≤ k → (ns : List ℕ) → AllByRecursion (InRange m) ns → AllByRecursion (InRange k) ns
in-range-later m k le [] h = tt
in-range-later m k le (n ∷ ns) h = ((h.0.0, omega (arith, h.0.1, le)), in-range-later m k le ns h.1)

atom-within : (m n : ℕ) (o : Option Bool) → InRange m n → AnswerWithin m (answer_of_atom o n)
atom-within m n None h = h
atom-within m n (Some c) h = tt

module _ (b : GroundBase) (bs : List (ℕ × Answer)) where
  abbrev says_at : (ℕ → Bool) → ℕ → Bool
  says_at v n = by_sign (answer_value v (answer_of_atom (known_of b n) n)) (any_answer v (bodies_of n bs))

  says-local : (m : ℕ) (ns : List ℕ) → AllByRecursion (InRange m) ns → AllByRecursion (λ x. AnswerWithin m x.1) bs
      → Local m (λ v. list_all (says_at v) ns)
  says-local m ns hn hb v w e = list-same-in (InRange m) (says_at v) (says_at w) ns hn
      (λ n r. ap (λ c. by_sign c (any_answer v (bodies_of n bs)))
      (answer-local m (answer_of_atom (known_of b n) n) (atom-within m n (known_of b n) r) v w e)
      ∙ ap (by_sign (answer_value w (answer_of_atom (known_of b n) n)))
      (answers-local m (bodies_of n bs) (bodies-within m n bs hb) v w e))

  all-atoms : (ns : List ℕ) (q : ProblemState) → IsProblem q → AllByRecursion (InRange q.vars) ns
      → AllByRecursion (λ x. AnswerWithin q.vars x.1) bs
      → AssertsMore q (fold (complete_atom b bs) q ns) (λ v. list_all (says_at v) ns)
  all-atoms [] q fine hn hb = says-nothing q (λ v. true) fine (λ v. refl)
  all-atoms (n ∷ ns) q fine hn hb =
      let one = complete-right q (answer_of_atom (known_of b n) n) (bodies_of n bs) fine
      (atom-within q.vars n (known_of b n) hn.0) (bodies-within q.vars n bs hb) in
      let next = complete_atom b bs q n in
      let rest = all-atoms ns next one.fine (in-range-later q.vars next.vars one.grows ns hn.1)
      (within-later q.vars next.vars one.grows bs hb) in
      says-two q next (fold (complete_atom b bs) next ns) (λ v. says_at v n) (λ v. list_all (says_at v) ns)
      (says-local q.vars ns hn.1 hb) one rest

pub completion : (b : GroundBase) (d : DefinitionTree) (p : ProblemState) → IsProblem p → HasAtoms b p → HasRoom b p
    → IsGroundDefinition b d
    → AllByRecursion (InRange p.vars) (defined_vars b d) → AssertsMore p (define_of b d p) (is_completed b d)
completion b d p fine at room ground range =
    let made = all_instances b d p in
    let m = all-instances b p at room d fine ground in
    let ns = defined_vars b d in
    let atoms = all-atoms b made.bodies ns made.problem m.fine
    (in-range-later p.vars made.problem.vars m.more.grows ns range) m.within in
    says-after p made.problem (define_of b d p) (λ v. list_all (says_at b made.bodies v) ns) (is_completed b d) m.more
    (λ v w e. list-same-in (InRange p.vars)
    (λ n. by_sign (answer_value v (answer_of_atom (known_of b n) n)) (is_derived b v d.rules n))
    (λ n. by_sign (answer_value w (answer_of_atom (known_of b n) n)) (is_derived b w d.rules n)) ns range
    (λ n r. ap (λ c. by_sign c (is_derived b v d.rules n))
    (answer-local p.vars (answer_of_atom (known_of b n) n) (atom-within p.vars n (known_of b n) r) v w e)
    ∙ ap (λ s. by_sign (answer_value w (answer_of_atom (known_of b n) n))
    (list_any (λ (r0 : RuleTree). list_any (λ e0. is_head_at (head_var b r0 e0) n
    && truth_of s r0.body e0) (choices b.domains r0.vars)) d.rules)) (room.same v w e)))
    (λ v s. list-same (says_at b made.bodies v)
    (λ n. by_sign (answer_value v (answer_of_atom (known_of b n) n)) (is_derived b v d.rules n)) ns
    (λ n. ap (by_sign (answer_value v (answer_of_atom (known_of b n) n))) (body-of v n made.bodies ∙ m.right v s n)))
    atoms
