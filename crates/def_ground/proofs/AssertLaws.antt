-- Sentences as clauses.
use Rattle.std.proofs.Common.{◌≡◌, ℕ, ◌≤◌, Bool, true, false, not, ◌&&◌, ◌||◌, List, [], ◌∷◌, ◌++◌, if◌then◌else◌, refl}
use Rattle.std.proofs.Common.{sym, ap, ◌∙◌, arith, inl, inr}
use Rattle.std.specs.List.{list_all, list_any}
use Rattle.kb_logic.specs.declared.elements.Elem.{Elem}
use Rattle.kb_logic.specs.declared.structures.Structure.{Structure}
use Rattle.kb_logic.specs.Trees.{FormulaTree, verum, falsum, atom, comparison, negation, conjunction, disjunction}
use Rattle.kb_logic.specs.Trees.{implication, equivalence, universal, existential, numbered, FormulaTrees, no_formulas}
use Rattle.kb_logic.specs.Trees.{more_formulas}
use Rattle.kb_logic.specs.Structures.{choices}
use Rattle.kb_logic.specs.Meaning.{truth_of}
use Rattle.kb_logic.proofs.Has.{Has}
use Rattle.lit_core.specs.declared.literals.Lit.{Lit}
use Rattle.ground_core.specs.Problems.{ProblemState, IsProblem, AreLitsOf}
use Rattle.ground_core.specs.Meaning.{Satisfies}
use Rattle.ground_core.specs.Growth.{with_clause}
use Rattle.term_values.specs.GroundBases.{GroundBase, structure_of}
use Rattle.term_values.specs.Rows.{rows_of_term}
use Rattle.def_ground.specs.Answers.{GroundResult}
use Rattle.def_ground.specs.CaseSentences.{or_clause, assert_comparison}
use Rattle.def_ground.specs.Counting.{has_aggregate}
use Rattle.def_ground.specs.Disjuncts.{disjuncts_of}
use Rattle.def_ground.specs.Forms.{Parts, with_answer, parts_each, signed_result, form_of}
use Rattle.def_ground.specs.Sentences.{assert_of, assert_all, assert_any, assert_each, parts_clause, unless_settled}
use Rattle.def_ground.specs.Sentences.{are_few}
use Rattle.def_ground.specs.Meanings.{Means, AssertsMore, HasAtoms, HasRoom}
use Rattle.def_ground.specs.Laws.{AssertionIsRight}
use Rattle.def_ground.specs.GroundForms.{IsGroundForm, AreGroundForms}
use Rattle.def_ground.proofs.Growing.{lits-more}
use Rattle.def_ground.proofs.FormSteps.{taken-fine, next-right, none-left, has-room, PartsMean}
use Rattle.def_ground.proofs.FormLaws.{not-both, form-is-right}
use Rattle.def_ground.proofs.Leaves.{atom-says, comparison-says}
use Rattle.def_ground.proofs.SideValues.{all-has}
use Rattle.def_ground.proofs.SplitTerms.{both-false, ground-plain}
use Rattle.def_ground.proofs.AssertSteps.{any-of, Local, or-true, or-false, or-assoc, or-and, says-is, says-nothing}
use Rattle.def_ground.proofs.AssertSteps.{says-clause, says-after, says-two, any-local, or-local, clause-right}
use Rattle.def_ground.proofs.AssertSteps.{signed-truth, signed-means}
use Rattle.def_ground.proofs.SignedTruths.{all-signed, any-signed, all-step, any-step, any-last, all-none, any-none}
use Rattle.def_ground.proofs.SignedTruths.{signed-not}
use Rattle.def_ground.proofs.AlikeLaws.{alike-says}
use Rattle.def_ground.proofs.DisjunctLaws.{disjuncts-right}

not-or : (c d : Bool) → (not c && not d) ≡ not (c || d)
not-or true d = refl
not-or false d = refl

not-and : (c d : Bool) → (not c || not d) ≡ not (c && d)
not-and true d = refl
not-and false d = refl

-- literals of instances
each-any : (b : GroundBase) (G : List Elem → ProblemState → GroundResult) (F : List Elem → (ℕ → Bool) → Bool)
    (as' : List (List Elem)) → ((a : List Elem) → Has as' a → (p : ProblemState) → IsProblem p → HasAtoms b p
    → HasRoom b p → Means p (G a p).problem (G a p).answer (F a))
    → (ls : List Lit) (p : ProblemState) → IsProblem p → HasAtoms b p → HasRoom b p
    → AreLitsOf p.vars ls
    → (let r = parts_each G false as' ls p in
    PartsMean p r.problem false ls r.lits r.settled (λ v. list_any (λ a. F a v) as'))
each-any b G F [] right ls p fine at room within = none-left p false ls (λ v. false) fine within (λ v. refl)
each-any b G F (a ∷ as') right ls p fine at room within =
    let g = G a p in
    let one = right a (inl refl) p fine at room in
    next-right p g false ls (λ xs q. parts_each G false as' xs q) (F a) (λ v. list_any (λ a. F a v) as')
    (λ v. list_any (λ a. F a v) (a ∷ as')) (λ v. refl) within one
    (each-any b G F as' (λ c m. right c (inr m)) (with_answer g.answer ls) g.problem one.fine
    (λ v s. at v (one.more.restricts v s)) (has-room b p g.problem one.more room) (taken-fine p g ls (F a) within one))

-- literals of parts, unless they settle the whole, and then the rest
unless-right : (p : ProblemState) (r : Parts) (ls : List Lit) (rest : List Lit → ProblemState → ProblemState)
    (F G : (ℕ → Bool) → Bool) → AreLitsOf p.vars ls → Local p.vars F → Local p.vars G
    → PartsMean p r.problem false ls r.lits r.settled F
    → AssertsMore r.problem (rest r.lits r.problem) (λ v. any-of r.lits v || G v)
    → AssertsMore p (unless_settled r rest) (λ v. any-of ls v || (F v || G v))
unless-right p r ls rest F G within f-local g-local h k = by r.settled refl
  where
    local : Local p.vars (λ v. any-of ls v || (F v || G v))
    local =
        or-local p.vars (any-of ls) (λ v. F v || G v) (any-local p.vars ls within) (or-local p.vars F G f-local g-local)

    said : (s : Bool) → r.settled ≡ s → (v : ℕ → Bool) → Satisfies r.problem v
        → ((if s then true else any-of r.lits v) || G v) ≡ (any-of ls v || (F v || G v))
    said s e v sat =
        ap (λ c. c || G v) (ap (λ c. if c then true else any-of r.lits v) (sym e) ∙ h.right v sat)
        ∙ or-assoc (any-of ls v) (F v) (G v)

    by : (s : Bool) → r.settled ≡ s
        → AssertsMore p (if s then r.problem else rest r.lits r.problem) (λ v. any-of ls v || (F v || G v))
    by true e =
        says-after p r.problem r.problem (λ v. true) (λ v. any-of ls v || (F v || G v)) h.more local (said true e)
        (says-nothing r.problem (λ v. true) h.fine (λ v. refl))
    by false e =
        says-after p r.problem (rest r.lits r.problem) (λ v. any-of r.lits v || G v)
        (λ v. any-of ls v || (F v || G v)) h.more local (said false e) k

parts-clause : (p : ProblemState) (r : Parts) (ls : List Lit) (F : (ℕ → Bool) → Bool) → AreLitsOf p.vars ls
    → Local p.vars F → PartsMean p r.problem false ls r.lits r.settled F
    → AssertsMore p (parts_clause r) (λ v. any-of ls v || F v)
parts-clause p r ls F within local h =
    says-is p (parts_clause r) (λ v. any-of ls v || (F v || false)) (λ v. any-of ls v || F v)
    (λ v. ap (λ c. any-of ls v || c) (or-false (F v)))
    (unless-right p r ls (λ xs q. with_clause q xs) F (λ v. false) within local (λ v w a. refl) h
    (says-is r.problem (with_clause r.problem r.lits) (any-of r.lits) (λ v. any-of r.lits v || false)
    (λ v. sym (or-false (any-of r.lits v))) (says-clause r.problem r.lits h.fine h.within)))

-- one way or another
either-says : (few : Bool) (p q r : ProblemState) (V : (ℕ → Bool) → Bool) → AssertsMore p q V → AssertsMore p r V
    → AssertsMore p (if few then q else r) V
either-says true p q r V h k = h
either-says false p q r V h k = k

says-if : (p : ProblemState) (c : Bool) (q r : ProblemState) (V : (ℕ → Bool) → Bool) → (c ≡ true → AssertsMore p q V)
    → (c ≡ false → AssertsMore p r V) → AssertsMore p (if c then q else r) V
says-if p true q r V h k = h refl
says-if p false q r V h k = k refl

pub room-grown : (b : GroundBase) (p q : ProblemState) → p.vars ≤ q.vars → HasRoom b p → HasRoom b q
room-grown b p q le h = record {
  same = λ v w e. h.same v w (λ k low high. e k low (omega (arith, high, le)));
  predicates = λ s i n below. let x = h.predicates s i n below in omega (arith, x, le);
  functions = λ s i j bi bj. let x = h.functions s i j bi bj in omega (arith, x, le);
}

signed-if : (sign c : Bool) → signed-truth sign c ≡ (if sign then c else not c)
signed-if true c = refl
signed-if false c = refl

denied : (c d : Bool) → (c && not d) ≡ not (not c || d)
denied true d = refl
denied false d = refl

every-not : (T : List Elem → Bool) (as' : List (List Elem)) → list_all (λ a. not (T a)) as' ≡ not (list_any T as')
every-not T [] = refl
every-not T (a ∷ as') = ap (λ c. not (T a) && c) (every-not T as') ∙ not-or (T a) (list_any T as')

some-not : (T : List Elem → Bool) (as' : List (List Elem)) → list_any (λ a. not (T a)) as' ≡ not (list_all T as')
some-not T [] = refl
some-not T (a ∷ as') = ap (λ c. not (T a) || c) (some-not T as') ∙ not-and (T a) (list_all T as')

module _ (b : GroundBase) where
  pub truth-local : (p : ProblemState) (room : HasRoom b p) (T : Structure → Bool)
      → Local p.vars (λ v. T (structure_of b v))
  truth-local p room T v w agree = ap T (room.same v w agree)

  -- under each assignment
  each-says : (S : List Elem → ProblemState → ProblemState) (T : List Elem → Structure → Bool) (ls : List Lit)
      (as' : List (List Elem)) → ((a : List Elem) → Has as' a → (p : ProblemState) → IsProblem p → HasAtoms b p
      → HasRoom b p → AreLitsOf p.vars ls → AssertsMore p (S a p) (λ v. any-of ls v || T a (structure_of b v)))
      → (p : ProblemState) → IsProblem p → HasAtoms b p → HasRoom b p → AreLitsOf p.vars ls
      → AssertsMore p (assert_each S as' p) (λ v. any-of ls v || list_all (λ a. T a (structure_of b v)) as')
  each-says S T ls [] right p fine at room within =
      says-nothing p (λ v. any-of ls v || true) fine (λ v. or-true (any-of ls v))
  each-says S T ls (a ∷ as') right p fine at room within =
      let q = S a p in
      let one = right a (inl refl) p fine at room within in
      let rest = each-says S T ls as' (λ c m. right c (inr m)) q one.fine (λ v s. at v (one.gives v s).0)
      (room-grown b p q one.grows room) (lits-more p.vars q.vars one.grows ls within) in
      let W : (ℕ → Bool) → Bool = λ v. any-of ls v || list_all (λ a. T a (structure_of b v)) as' in
      says-is p (assert_each S as' q) (λ v. (any-of ls v || T a (structure_of b v)) && W v)
      (λ v. any-of ls v || list_all (λ a. T a (structure_of b v)) (a ∷ as'))
      (λ v. or-and (any-of ls v) (T a (structure_of b v)) (list_all (λ a. T a (structure_of b v)) as'))
      (says-two p q (assert_each S as' q) (λ v. any-of ls v || T a (structure_of b v)) W
      (or-local p.vars (any-of ls) (λ v. list_all (λ a. T a (structure_of b v)) as') (any-local p.vars ls within)
      (truth-local p room (λ m. list_all (λ a. T a m) as'))) one rest)

  leaf-says : (sign : Bool) (f : FormulaTree) (e : List Elem) (ls : List Lit) (p : ProblemState) → IsGroundForm b f e
      → IsProblem p → HasAtoms b p → HasRoom b p → AreLitsOf p.vars ls
      → AssertsMore p (or_clause ls (signed_result sign (form_of b f e p)))
      (λ v. any-of ls v || signed-truth sign (truth_of (structure_of b v) f e))
  leaf-says sign f e ls p h fine at room within =
      clause-right p (signed_result sign (form_of b f e p)) ls
      (λ v. signed-truth sign (truth_of (structure_of b v) f e)) within
      (truth-local p room (λ m. signed-truth sign (truth_of m f e)))
      (signed-means p sign (form_of b f e p) (λ v. truth_of (structure_of b v) f e)
      (form-is-right b f e p fine at room h))

  -- some instance, with the sign
  some-says : (sign : Bool) (f : FormulaTree) (e : List Elem) (as' : List (List Elem)) (ls : List Lit)
      (p : ProblemState) → ((a : List Elem) → Has as' a → IsGroundForm b f (e ++ a)) → IsProblem p → HasAtoms b p
      → HasRoom b p → AreLitsOf p.vars ls
      → AssertsMore p (parts_clause (parts_each (λ a q. signed_result sign (form_of b f (e ++ a) q)) false as' ls p))
      (λ v. any-of ls v || list_any (λ a. signed-truth sign (truth_of (structure_of b v) f (e ++ a))) as')
  some-says sign f e as' ls p h fine at room within =
      let G : List Elem → ProblemState → GroundResult = λ a q. signed_result sign (form_of b f (e ++ a) q) in
      let F : List Elem → (ℕ → Bool) → Bool = λ a v. signed-truth sign (truth_of (structure_of b v) f (e ++ a)) in
      parts-clause p (parts_each G false as' ls p) ls (λ v. list_any (λ a. F a v) as') within
      (truth-local p room (λ m. list_any (λ a. signed-truth sign (truth_of m f (e ++ a))) as'))
      (each-any b G F as' (λ a m q fine at room. signed-means q sign (form_of b f (e ++ a) q)
      (λ v. truth_of (structure_of b v) f (e ++ a))
      (form-is-right b f (e ++ a) q fine at room (h a m))) ls p fine at room within)

  mutual
    pub says-right : (sign : Bool) (f : FormulaTree) (e : List Elem) (ls : List Lit) (p : ProblemState)
        → IsGroundForm b f e → IsProblem p → HasAtoms b p → HasRoom b p → AreLitsOf p.vars ls
        → AssertsMore p (assert_of b sign f e ls p)
        (λ v. any-of ls v || signed-truth sign (truth_of (structure_of b v) f e))
    says-right true verum e ls p h fine at room within =
        says-nothing p (λ v. any-of ls v || true) fine (λ v. or-true (any-of ls v))
    says-right false verum e ls p h fine at room within =
        says-is p (with_clause p ls) (any-of ls) (λ v. any-of ls v || false) (λ v. sym (or-false (any-of ls v)))
        (says-clause p ls fine within)
    says-right true falsum e ls p h fine at room within =
        says-is p (with_clause p ls) (any-of ls) (λ v. any-of ls v || false) (λ v. sym (or-false (any-of ls v)))
        (says-clause p ls fine within)
    says-right false falsum e ls p h fine at room within =
        says-nothing p (λ v. any-of ls v || true) fine (λ v. or-true (any-of ls v))
    says-right sign (atom s ts) e ls p h fine at room within =
        atom-says s ts b e p sign ls fine at room h within
    says-right sign (comparison c x y) e ls p (inl h) fine at room within =
        let plain = both-false (has_aggregate x) (has_aggregate y) (ground-plain b x h.0) (ground-plain b y h.1) in
        says-if p (has_aggregate x || has_aggregate y)
        (or_clause ls (signed_result sign (form_of b (comparison c x y) e p)))
        (assert_comparison sign c (rows_of_term b x e) (rows_of_term b y e) ls p)
        (λ v. any-of ls v || signed-truth sign (truth_of (structure_of b v) (comparison c x y) e))
        (λ is. absurd (not-both (has_aggregate x || has_aggregate y) is plain))
        (λ none. comparison-says c x y b e p sign ls fine at room h within)
    says-right sign (comparison c x y) e ls p (inr h) fine at room within =
        says-if p (has_aggregate x || has_aggregate y)
        (or_clause ls (signed_result sign (form_of b (comparison c x y) e p)))
        (assert_comparison sign c (rows_of_term b x e) (rows_of_term b y e) ls p)
        (λ v. any-of ls v || signed-truth sign (truth_of (structure_of b v) (comparison c x y) e))
        (λ is. leaf-says sign (comparison c x y) e ls p (inr h) fine at room within)
        (λ none. absurd (not-both (has_aggregate x || has_aggregate y) h.0 none))
    says-right sign (equivalence f g) e ls p h fine at room within =
        let x = form_of b f e p in
        let y = form_of b g e x.problem in
        let one = form-is-right b f e p fine at room h.0 in
        let two = form-is-right b g e x.problem one.fine (λ v s. at v (one.more.restricts v s))
        (has-room b p x.problem one.more room) h.1 in
        alike-says p x.problem y.problem ls (λ v. truth_of (structure_of b v) f e)
        (λ v. truth_of (structure_of b v) g e) within (truth-local p room (λ m. truth_of m f e))
        (truth-local p room (λ m. truth_of m g e)) sign x.answer y.answer one two
    says-right sign (numbered c n bs f) e ls p h fine at room within =
        leaf-says sign (numbered c n bs f) e ls p h fine at room within
    says-right sign (negation f) e ls p h fine at room within =
        says-is p (assert_of b (not sign) f e ls p)
        (λ v. any-of ls v || signed-truth (not sign) (truth_of (structure_of b v) f e))
        (λ v. any-of ls v || signed-truth sign (not (truth_of (structure_of b v) f e)))
        (λ v. ap (λ c. any-of ls v || c) (signed-not sign (truth_of (structure_of b v) f e)))
        (says-right (not sign) f e ls p h fine at room within)
    says-right true (conjunction fs) e ls p h fine at room within = all-says true fs e ls p h fine at room within
    says-right false (conjunction fs) e ls p h fine at room within = any-says false fs e ls p h fine at room within
    says-right true (disjunction fs) e ls p h fine at room within = any-says true fs e ls p h fine at room within
    says-right false (disjunction fs) e ls p h fine at room within = all-says false fs e ls p h fine at room within
    says-right true (implication f g) e ls p h fine at room within =
        let r = disjuncts_of b false f e ls p in
        let one = disjuncts-right b false f e ls p h.0 fine at room within in
        let at-r : HasAtoms b r.problem = λ v s. at v (one.more.restricts v s) in
        let room-r = has-room b p r.problem one.more room in
        let G : (ℕ → Bool) → Bool = λ v. truth_of (structure_of b v) g e in
        unless-right p r ls
        (λ xs q. if are_few xs then assert_of b true g e xs q else or_clause xs (signed_result true (form_of b g e q)))
        (λ v. not (truth_of (structure_of b v) f e)) G within (truth-local p room (λ m. not (truth_of m f e)))
        (truth-local p room (λ m. truth_of m g e)) one
        (either-says (are_few r.lits) r.problem (assert_of b true g e r.lits r.problem)
        (or_clause r.lits (signed_result true (form_of b g e r.problem))) (λ v. any-of r.lits v || G v)
        (says-right true g e r.lits r.problem h.1 one.fine at-r room-r one.within)
        (leaf-says true g e r.lits r.problem h.1 one.fine at-r room-r one.within))
    says-right false (implication f g) e ls p h fine at room within =
        let q = assert_of b true f e ls p in
        let one = says-right true f e ls p h.0 fine at room within in
        let two = says-right false g e ls q h.1 one.fine (λ v s. at v (one.gives v s).0)
        (room-grown b p q one.grows room) (lits-more p.vars q.vars one.grows ls within) in
        let W : (ℕ → Bool) → Bool = λ v. any-of ls v || not (truth_of (structure_of b v) g e) in
        says-is p (assert_of b false g e ls q) (λ v. (any-of ls v || truth_of (structure_of b v) f e) && W v)
        (λ v. any-of ls v || not (not (truth_of (structure_of b v) f e) || truth_of (structure_of b v) g e))
        (λ v. or-and (any-of ls v) (truth_of (structure_of b v) f e) (not (truth_of (structure_of b v) g e))
        ∙ ap (λ c. any-of ls v || c) (denied (truth_of (structure_of b v) f e) (truth_of (structure_of b v) g e)))
        (says-two p q (assert_of b false g e ls q) (λ v. any-of ls v || truth_of (structure_of b v) f e) W
        (or-local p.vars (any-of ls) (λ v. not (truth_of (structure_of b v) g e)) (any-local p.vars ls within)
        (truth-local p room (λ m. not (truth_of m g e)))) one two)
    says-right true (universal bs f) e ls p h fine at room within =
        each-says (λ a q. assert_of b true f (e ++ a) ls q) (λ a m. truth_of m f (e ++ a)) ls
        (choices b.domains bs)
        (λ a m q fine at room within. says-right true f (e ++ a) ls q
        (all-has (λ a. IsGroundForm b f (e ++ a)) (choices b.domains bs) a h m) fine at room within) p fine at room
        within
    says-right false (universal bs f) e ls p h fine at room within =
        says-is p (assert_of b false (universal bs f) e ls p)
        (λ v. any-of ls v || list_any (λ a. not (truth_of (structure_of b v) f (e ++ a))) (choices b.domains bs))
        (λ v. any-of ls v || not (list_all (λ a. truth_of (structure_of b v) f (e ++ a)) (choices b.domains bs)))
        (λ v. ap (λ c. any-of ls v || c)
        (some-not (λ a. truth_of (structure_of b v) f (e ++ a)) (choices b.domains bs)))
        (some-says false f e (choices b.domains bs) ls p
        (λ a m. all-has (λ a. IsGroundForm b f (e ++ a)) (choices b.domains bs) a h m) fine at room within)
    says-right true (existential bs f) e ls p h fine at room within =
        some-says true f e (choices b.domains bs) ls p
        (λ a m. all-has (λ a. IsGroundForm b f (e ++ a)) (choices b.domains bs) a h m) fine at room within
    says-right false (existential bs f) e ls p h fine at room within =
        says-is p (assert_of b false (existential bs f) e ls p)
        (λ v. any-of ls v || list_all (λ a. not (truth_of (structure_of b v) f (e ++ a))) (choices b.domains bs))
        (λ v. any-of ls v || not (list_any (λ a. truth_of (structure_of b v) f (e ++ a)) (choices b.domains bs)))
        (λ v. ap (λ c. any-of ls v || c)
        (every-not (λ a. truth_of (structure_of b v) f (e ++ a)) (choices b.domains bs)))
        (each-says (λ a q. assert_of b false f (e ++ a) ls q) (λ a m. not (truth_of m f (e ++ a))) ls
        (choices b.domains bs)
        (λ a m q fine at room within. says-right false f (e ++ a) ls q
        (all-has (λ a. IsGroundForm b f (e ++ a)) (choices b.domains bs) a h m) fine at room within) p fine at room
        within)

    all-says : (sign : Bool) (fs : FormulaTrees) (e : List Elem) (ls : List Lit) (p : ProblemState)
        → AreGroundForms b fs e → IsProblem p → HasAtoms b p → HasRoom b p → AreLitsOf p.vars ls
        → AssertsMore p (assert_all b sign fs e ls p) (λ v. any-of ls v || all-signed sign (structure_of b v) fs e)
    all-says sign no_formulas e ls p h fine at room within =
        says-nothing p (λ v. any-of ls v || all-signed sign (structure_of b v) no_formulas e) fine
        (λ v. ap (λ c. any-of ls v || c) (all-none sign (structure_of b v) e) ∙ or-true (any-of ls v))
    all-says sign (more_formulas f fs) e ls p h fine at room within =
        let q = assert_of b sign f e ls p in
        let one = says-right sign f e ls p h.0 fine at room within in
        let two = all-says sign fs e ls q h.1 one.fine (λ v s. at v (one.gives v s).0)
        (room-grown b p q one.grows room) (lits-more p.vars q.vars one.grows ls within) in
        let W : (ℕ → Bool) → Bool = λ v. any-of ls v || all-signed sign (structure_of b v) fs e in
        says-is p (assert_all b sign fs e ls q)
        (λ v. (any-of ls v || signed-truth sign (truth_of (structure_of b v) f e)) && W v)
        (λ v. any-of ls v || all-signed sign (structure_of b v) (more_formulas f fs) e)
        (λ v. or-and (any-of ls v) (signed-truth sign (truth_of (structure_of b v) f e))
        (all-signed sign (structure_of b v) fs e)
        ∙ ap (λ c. any-of ls v || c) (all-step sign (structure_of b v) f fs e))
        (says-two p q (assert_all b sign fs e ls q)
        (λ v. any-of ls v || signed-truth sign (truth_of (structure_of b v) f e)) W
        (or-local p.vars (any-of ls) (λ v. all-signed sign (structure_of b v) fs e) (any-local p.vars ls within)
        (truth-local p room (λ m. all-signed sign m fs e))) one two)

    any-says : (sign : Bool) (fs : FormulaTrees) (e : List Elem) (ls : List Lit) (p : ProblemState)
        → AreGroundForms b fs e → IsProblem p → HasAtoms b p → HasRoom b p → AreLitsOf p.vars ls
        → AssertsMore p (assert_any b sign fs e ls p) (λ v. any-of ls v || any-signed sign (structure_of b v) fs e)
    any-says sign no_formulas e ls p h fine at room within =
        says-is p (with_clause p ls) (any-of ls) (λ v. any-of ls v || any-signed sign (structure_of b v) no_formulas e)
        (λ v. sym (ap (λ c. any-of ls v || c) (any-none sign (structure_of b v) e) ∙ or-false (any-of ls v)))
        (says-clause p ls fine within)
    any-says sign (more_formulas f no_formulas) e ls p h fine at room within =
        says-is p (assert_any b sign (more_formulas f no_formulas) e ls p)
        (λ v. any-of ls v || signed-truth sign (truth_of (structure_of b v) f e))
        (λ v. any-of ls v || any-signed sign (structure_of b v) (more_formulas f no_formulas) e)
        (λ v. ap (λ c. any-of ls v || c) (any-last sign (structure_of b v) f e))
        (either-says (are_few ls) p (assert_of b sign f e ls p)
        (or_clause ls (signed_result sign (form_of b f e p)))
        (λ v. any-of ls v || signed-truth sign (truth_of (structure_of b v) f e))
        (says-right sign f e ls p h.0 fine at room within) (leaf-says sign f e ls p h.0 fine at room within))
    any-says sign (more_formulas f (more_formulas g fs)) e ls p h fine at room within =
        let r = disjuncts_of b sign f e ls p in
        let F : (ℕ → Bool) → Bool = λ v. signed-truth sign (truth_of (structure_of b v) f e) in
        let G : (ℕ → Bool) → Bool = λ v. any-signed sign (structure_of b v) (more_formulas g fs) e in
        let one = disjuncts-right b sign f e ls p h.0 fine at room within in
        says-is p (assert_any b sign (more_formulas f (more_formulas g fs)) e ls p) (λ v. any-of ls v || (F v || G v))
        (λ v. any-of ls v || any-signed sign (structure_of b v) (more_formulas f (more_formulas g fs)) e)
        (λ v. ap (λ c. any-of ls v || c) (any-step sign (structure_of b v) f (more_formulas g fs) e))
        (unless-right p r ls (λ xs q. assert_any b sign (more_formulas g fs) e xs q) F G within
        (truth-local p room (λ m. signed-truth sign (truth_of m f e)))
        (truth-local p room (λ m. any-signed sign m (more_formulas g fs) e)) one
        (any-says sign (more_formulas g fs) e r.lits r.problem h.1 one.fine (λ v s. at v (one.more.restricts v s))
        (has-room b p r.problem one.more room) one.within))

pub says-is-right : AssertionIsRight
says-is-right b sign f e ls p fine at room h within =
    let q = assert_of b sign f e ls p in
    says-is p q (λ v. any-of ls v || signed-truth sign (truth_of (structure_of b v) f e))
    (λ v. any-of ls v || (if sign then truth_of (structure_of b v) f e else not (truth_of (structure_of b v) f e)))
    (λ v. ap (λ c. any-of ls v || c) (signed-if sign (truth_of (structure_of b v) f e)))
    (says-right b sign f e ls p h fine at room within)
