-- Steps of what formulas come to: parts of conjunctions and disjunctions, gates, opposites and equivalences.
use Rattle.std.proofs.Common.{◌≡◌, ℕ, ◌+◌, Bool, true, false, not, ◌&&◌, ◌||◌, List, [], ◌∷◌, ◌++◌, All, if◌then◌else◌}
use Rattle.std.proofs.Common.{refl, sym, ap, ◌∙◌, arith}
use Rattle.std.specs.Bool.{beq}
use Rattle.std.specs.List.{list_all, list_any}
use Rattle.std.proofs.lemmas.List.Elements.{All-cons, All-nil, All-push}
use Rattle.std.proofs.lemmas.List.Folds.{list_all-append, list_any-append}
use Rattle.kb_logic.specs.declared.elements.Elem.{Elem}
use Rattle.kb_logic.specs.declared.structures.Structure.{Structure}
use Rattle.kb_logic.specs.Trees.{FormulaTree}
use Rattle.kb_logic.specs.Trees.{FormulaTrees, no_formulas, more_formulas}
use Rattle.kb_logic.specs.Meaning.{truth_of, all_true, any_true, same_truth}
use Rattle.lit_core.specs.declared.literals.Lit.{Lit}
use Rattle.lit_core.specs.Literals.{literal_value, negated, by_sign}
use Rattle.lit_core.proofs.Soundness.{value-negated}
use Rattle.ground_core.specs.declared.parts.Gate.{Gate}
use Rattle.ground_core.specs.Problems.{ProblemState, IsProblem, IsLitOf, AreLitsOf, IsGateOf}
use Rattle.ground_core.specs.Meaning.{Satisfies, joined}
use Rattle.ground_core.specs.More.{DefinesMore}
use Rattle.ground_core.specs.Growth.{next_lit, with_same, clauses_of_same}
use Rattle.ground_core.proofs.Fronts.{All-front}
use Rattle.ground_core.proofs.Mores.{more-trans, gate-added, same-added}
use Rattle.def_ground.specs.declared.answers.Answer.{Answer}
use Rattle.def_ground.specs.declared.answers.Answer.TheVariants.{Constant, Literal}
use Rattle.term_values.specs.GroundBases.{GroundBase}
use Rattle.def_ground.specs.Answers.{GroundResult, answer_value, opposite_of, gate_of, AnswerWithin}
use Rattle.def_ground.specs.Forms.{Parts, settles, with_answer, next_parts, close_parts}
use Rattle.def_ground.specs.Forms.{opposite_result, same_of}
use Rattle.def_ground.specs.Meanings.{Means, HasAtoms, HasRoom}
use Rattle.def_ground.proofs.Growing.{more-refl, lit-more, lits-more, problem-grown}

abbrev pub joint : Bool → Bool → Bool → Bool
joint true a b = a && b
joint false a b = a || b

and-true : (c : Bool) → (c && true) ≡ c
and-true true = refl
and-true false = refl

pub or-false : (c : Bool) → (c || false) ≡ c
or-false true = refl
or-false false = refl

joint-assoc : (all x y z : Bool) → joint all (joint all x y) z ≡ joint all x (joint all y z)
joint-assoc true true y z = refl
joint-assoc true false y z = refl
joint-assoc false true y z = refl
joint-assoc false false y z = refl

absorbed : (all c : Bool) → joint all (not all) c ≡ not all
absorbed true c = refl
absorbed false c = refl

neutral : (all c : Bool) → joint all all c ≡ c
neutral true c = refl
neutral false c = refl

neutral-right : (all c : Bool) → joint all c all ≡ c
neutral-right true c = and-true c
neutral-right false c = or-false c

joined-none : (all : Bool) (v : ℕ → Bool) → joined all v [] ≡ all
joined-none true v = refl
joined-none false v = refl

joined-one : (all : Bool) (v : ℕ → Bool) (l : Lit) → literal_value v l ≡ joined all v (l ∷ [])
joined-one true v l = sym (and-true (literal_value v l))
joined-one false v l = sym (or-false (literal_value v l))

joined-push : (all : Bool) (v : ℕ → Bool) (ls : List Lit) (l : Lit)
    → joined all v (ls ++ l ∷ []) ≡ joint all (joined all v ls) (literal_value v l)
joined-push true v ls l =
    list_all-append (literal_value v) ls (l ∷ [])
    ∙ ap (λ c. list_all (literal_value v) ls && c) (and-true (literal_value v l))
joined-push false v ls l =
    list_any-append (literal_value v) ls (l ∷ [])
    ∙ ap (λ c. list_any (literal_value v) ls || c) (or-false (literal_value v l))

constant-again : (all c : Bool) (j : Bool) → (if not (beq c all) then not all else j) ≡ joint all j c
constant-again true true j = sym (and-true j)
constant-again true false j = last j
  where
    last : (k : Bool) → false ≡ (k && false)
    last true = refl
    last false = refl
constant-again false true j = last j
  where
    last : (k : Bool) → true ≡ (k || true)
    last true = refl
    last false = refl
constant-again false false j = sym (or-false j)

pub taken-value : (all : Bool) (a : Answer) (ls : List Lit) (v : ℕ → Bool)
    → (if settles all a then not all else joined all v (with_answer a ls)) ≡ joint all (joined all v ls)
    (answer_value v a)
taken-value all (Constant c) ls v = constant-again all c (joined all v ls)
taken-value all (Literal l) ls v = joined-push all v ls l

taken-within : (n : ℕ) (a : Answer) (ls : List Lit) → AreLitsOf n ls → AnswerWithin n a → AreLitsOf n (with_answer a ls)
taken-within n (Constant c) ls h k = h
taken-within n (Literal l) ls h k = All-push (IsLitOf n) ls l h k

-- what the literals say, with what is left
pub record PartsMean (p q : ProblemState) (all : Bool) (ls ks : List Lit) (s : Bool)
    (F : (ℕ → Bool) → Bool) : Type 0 where
  pub fine : IsProblem q
  pub more : DefinesMore p q
  pub within : AreLitsOf q.vars ks
  pub right : (v : ℕ → Bool) → Satisfies q v
      → (if s then not all else joined all v ks) ≡ joint all (joined all v ls) (F v)

next-by : (s : Bool) (p q : ProblemState) (a : Answer) (all : Bool) (ls : List Lit) (rest : Parts)
    (F G H : (ℕ → Bool) → Bool) → s ≡ settles all a → ((v : ℕ → Bool) → H v ≡ joint all (F v) (G v))
    → AreLitsOf p.vars ls
    → Means p q a F → PartsMean q rest.problem all (with_answer a ls) rest.lits rest.settled G
    → (let r : Parts = (if s then record { settled = true; lits = with_answer a ls; problem = q } else rest) in
    PartsMean p r.problem all ls r.lits r.settled H)
next-by true p q a all ls rest F G H is law within h k = record {
  fine = h.fine;
  more = h.more;
  within = taken-within q.vars a ls (lits-more p.vars q.vars h.more.grows ls within) h.within;
  right = λ v t.
      let J = joined all v ls in
      let here : not all ≡ joint all J (F v) = ap (λ c. if c then not all else joined all v (with_answer a ls)) is
      ∙ taken-value all a ls v ∙ ap (joint all J) (h.right v t) in
      sym (absorbed all (G v)) ∙ ap (λ c. joint all c (G v)) here ∙ joint-assoc all J (F v) (G v)
      ∙ ap (joint all J) (sym (law v));
}
next-by false p q a all ls rest F G H is law within h k = record {
  fine = k.fine;
  more = more-trans p q rest.problem h.more k.more;
  within = k.within;
  right = λ v t.
      let J = joined all v ls in
      let here : joined all v (with_answer a ls) ≡ joint all J (F v) = ap
      (λ c. if c then not all else joined all v (with_answer a ls)) is ∙ taken-value all a ls v
      ∙ ap (joint all J) (h.right v (k.more.restricts v t)) in
      k.right v t ∙ ap (λ c. joint all c (G v)) here ∙ joint-assoc all J (F v) (G v) ∙ ap (joint all J) (sym (law v));
}

pub next-right : (p : ProblemState) (g : GroundResult) (all : Bool) (ls : List Lit)
    (rest : List Lit → ProblemState → Parts) (F G H : (ℕ → Bool) → Bool)
    → ((v : ℕ → Bool) → H v ≡ joint all (F v) (G v)) → AreLitsOf p.vars ls
    → Means p g.problem g.answer F
    → (let t = rest (with_answer g.answer ls) g.problem in
    PartsMean g.problem t.problem all (with_answer g.answer ls) t.lits t.settled G)
    → (let r = next_parts all g ls rest in PartsMean p r.problem all ls r.lits r.settled H)
next-right p g all ls rest F G H law within h k =
    next-by (settles all g.answer) p g.problem g.answer all ls
    (rest (with_answer g.answer ls) g.problem) F G H refl law within h k

pub taken-fine : (p : ProblemState) (g : GroundResult) (ls : List Lit) (F : (ℕ → Bool) → Bool) → AreLitsOf p.vars ls
    → Means p g.problem g.answer F → AreLitsOf g.problem.vars (with_answer g.answer ls)
taken-fine p g ls F within h =
    taken-within g.problem.vars g.answer ls (lits-more p.vars g.problem.vars h.more.grows ls within) h.within

pub none-left : (p : ProblemState) (all : Bool) (ls : List Lit) (F : (ℕ → Bool) → Bool) → IsProblem p
    → AreLitsOf p.vars ls → ((v : ℕ → Bool) → F v ≡ all) → PartsMean p p all ls ls false F
none-left p all ls F fine within e =
    record {
      fine = fine;
      more = more-refl p;
      within = within;
      right = λ v s. sym
          (ap (joint all (joined all v ls)) (e v) ∙ neutral-right all (joined all v ls));
    }

pub gate-right : (p : ProblemState) (all : Bool) (ls : List Lit) → IsProblem p → AreLitsOf p.vars ls
    → Means p (gate_of all ls p).problem (gate_of all ls p).answer (λ v. joined all v ls)
gate-right p all [] fine within =
    record { fine = fine; more = more-refl p; within = tt; right = λ v s. sym (joined-none all v) }
gate-right p all (l ∷ []) fine within =
    record { fine = fine; more = more-refl p; within = within 0 l (omega arith); right = λ v s. joined-one all v l }
gate-right p all (l ∷ m ∷ ls) fine within =
    let add = gate-added p all (l ∷ m ∷ ls) fine within in
    let g : Gate = record { out = next_lit p; all = all; parts = l ∷ m ∷ ls } in
    let grown = problem-grown p (p.vars + 1) (g ∷ []) [] fine (omega arith)
    (All-cons (IsGateOf (p.vars + 1)) g []
    ((omega arith, omega arith), lits-more p.vars (p.vars + 1) (omega arith) (l ∷ m ∷ ls) within)
    (All-nil (IsGateOf (p.vars + 1)))) (All-nil (AreLitsOf (p.vars + 1))) in
    record {
      fine =
          record {
            atoms = grown.atoms;
            gates = grown.gates;
            clauses = All-front
                (AreLitsOf (p.vars + 1)) p.clauses [] grown.clauses;
            sums = grown.sums;
            terms = grown.terms;
            bounds = grown.bounds;
            retired = grown.retired;
          };
      more = add.more;
      within = add.within;
      right = add.means;
    }

pub means-then : (p q r : ProblemState) (a : Answer) (F G : (ℕ → Bool) → Bool) → DefinesMore p q → Means q r a F
    → ((v : ℕ → Bool) → Satisfies q v → F v ≡ G v) → Means p r a G
means-then p q r a F G m h e =
    record {
      fine = h.fine;
      more = more-trans p q r m h.more;
      within = h.within;
      right = λ v s. h.right v s
          ∙ e v (h.more.restricts v s);
    }

pub closed-right : (p : ProblemState) (all : Bool) (r : Parts) (H : (ℕ → Bool) → Bool)
    → PartsMean p r.problem all [] r.lits r.settled H → Means p (close_parts all r).problem (close_parts all r).answer H
closed-right p all r H h = by r.settled refl
  where
    start : (v : ℕ → Bool) → joint all (joined all v []) (H v) ≡ H v
    start v = ap (λ c. joint all c (H v)) (joined-none all v) ∙ neutral all (H v)

    by : (s : Bool) → r.settled ≡ s
        → (let g : GroundResult = (if s then record {
          answer = Constant
              (not all);
          problem = r.problem;
        } else gate_of all r.lits r.problem) in Means p g.problem g.answer H)
    by true e =
        record {
          fine = h.fine;
          more = h.more;
          within = tt;
          right = λ v s. ap
              (λ c. if c then not all else joined all v r.lits) (sym e) ∙ h.right v s ∙ start v;
        }
    by false e =
        means-then p r.problem (gate_of all r.lits r.problem).problem (gate_of all r.lits r.problem).answer
        (λ v. joined all v r.lits) H h.more (gate-right r.problem all r.lits h.fine h.within)
        (λ v s. ap (λ c. if c then not all else joined all v r.lits) (sym e) ∙ h.right v s ∙ start v)

pub means-not : (p : ProblemState) (g : GroundResult) (F : (ℕ → Bool) → Bool) → Means p g.problem g.answer F
    → Means p (opposite_result g).problem (opposite_result g).answer (λ v. not (F v))
means-not p g F h = by g.answer h.within (λ v s. h.right v s)
  where
    by : (a : Answer) → AnswerWithin g.problem.vars a
        → ((v : ℕ → Bool) → Satisfies g.problem v → answer_value v a ≡ F v)
        → Means p g.problem (opposite_of a) (λ v. not (F v))
    by (Constant c) w r = record { fine = h.fine; more = h.more; within = tt; right = λ v s. ap not (r v s) }
    by (Literal l) w r =
        record { fine = h.fine; more = h.more; within = w; right = λ v s. value-negated v l ∙ ap not (r v s) }

same-one : (c d : Bool) → d ≡ same_truth true d
same-one c d = refl

-- whether two answers are the same
pub iff-right : (p q r : ProblemState) (x y : Answer) (F G : (ℕ → Bool) → Bool) → Means p q x F → Means q r y G
    → (let g = same_of x y r in Means p g.problem g.answer (λ v. same_truth (F v) (G v)))
iff-right p q r (Constant true) y F G h k =
    record {
      fine = k.fine;
      more = more-trans p q r h.more k.more;
      within = k.within;
      right = λ v s. k.right v s
          ∙ ap (λ c. same_truth c (G v)) (h.right v (k.more.restricts v s));
    }
iff-right p q r (Constant false) y F G h k =
    let n = means-not q (record { answer = y; problem = r }) G k in
    record {
      fine = k.fine;
      more = more-trans p q r h.more k.more;
      within = n.within;
      right = λ v s. n.right v s
          ∙ ap (λ c. same_truth c (G v)) (h.right v (k.more.restricts v s));
    }
iff-right p q r (Literal l) (Constant true) F G h k = record {
  fine = k.fine;
  more = more-trans p q r h.more k.more;
  within = lit-more q.vars r.vars k.more.grows l h.within;
  right = λ v s. h.right v (k.more.restricts v s) ∙ same-true-right (F v) ∙ ap (same_truth (F v)) (k.right v s);
}
  where
    same-true-right : (c : Bool) → c ≡ same_truth c true
    same-true-right true = refl
    same-true-right false = refl
iff-right p q r (Literal l) (Constant false) F G h k = record {
  fine = k.fine;
  more = more-trans p q r h.more k.more;
  within = lit-more q.vars r.vars k.more.grows l h.within;
  right =
      λ v s. value-negated v l ∙ ap not (h.right v (k.more.restricts v s)) ∙ same-false-right (F v)
      ∙ ap (same_truth (F v)) (k.right v s);
}
  where
    same-false-right : (c : Bool) → not c ≡ same_truth c false
    same-false-right true = refl
    same-false-right false = refl
iff-right p q r (Literal l) (Literal m) F G h k =
    let l_in = lit-more q.vars r.vars k.more.grows l h.within in
    let add = same-added r l m k.fine l_in k.within in
    let n = r.vars + 1 in
    let o : IsLitOf n (next_lit r) = (omega arith, omega arith) in
    let a = lit-more r.vars n (omega arith) l l_in in
    let b = lit-more r.vars n (omega arith) m k.within in
    let three = λ (x y z : Lit) (hx : IsLitOf n x) (hy : IsLitOf n y) (hz : IsLitOf n z).
    All-cons (IsLitOf n) x (y ∷ z ∷ []) hx
    (All-cons (IsLitOf n) y (z ∷ []) hy (All-cons (IsLitOf n) z [] hz (All-nil (IsLitOf n)))) in
    let four : All (AreLitsOf n) (clauses_of_same (next_lit r) l m) =
    let c : Lit = next_lit r in
    let c4 : List Lit = c ∷ negated l ∷ negated m ∷ [] in
    let c3 : List Lit = c ∷ l ∷ m ∷ [] in
    let c2 : List Lit = negated c ∷ l ∷ negated m ∷ [] in
    All-cons (AreLitsOf n) (negated c ∷ negated l ∷ m ∷ []) (c2 ∷ c3 ∷ c4 ∷ []) (three (negated c) (negated l) m o a b)
    (All-cons (AreLitsOf n) c2 (c3 ∷ c4 ∷ []) (three (negated c) l (negated m) o a b)
    (All-cons (AreLitsOf n) c3 (c4 ∷ []) (three c l m o a b)
    (All-cons (AreLitsOf n) c4 [] (three c (negated l) (negated m) o a b) (All-nil (AreLitsOf n))))) in
    let grown = problem-grown r n [] (clauses_of_same (next_lit r) l m) k.fine (omega arith)
    (All-nil (IsGateOf n)) four in
    record {
      fine =
          record {
            atoms = grown.atoms;
            gates = All-front
                (IsGateOf n) r.gates [] grown.gates;
            clauses = grown.clauses;
            sums = grown.sums;
            terms = grown.terms;
            bounds = grown.bounds;
            retired = grown.retired;
          };
      more = more-trans p q (with_same r l m) h.more (more-trans q r (with_same r l m) k.more add.more);
      within = add.within;
      right = λ v s.
          let old = add.more.restricts v s in
          add.means v s ∙ sign-same (literal_value v l) (literal_value v m)
          ∙ ap (λ c. same_truth c (literal_value v m)) (h.right v (k.more.restricts v old))
          ∙ ap (same_truth (F v)) (k.right v old);
    }
  where
    sign-same : (c d : Bool) → by_sign c d ≡ same_truth c d
    sign-same true d = refl
    sign-same false d = refl

pub constant-right : (p : ProblemState) (x : Bool) (F : (ℕ → Bool) → Bool) → ((v : ℕ → Bool) → x ≡ F v) → IsProblem p
    → Means p p (Constant x) F
constant-right p x F is fine = record { fine = fine; more = more-refl p; within = tt; right = λ v s. is v }

-- what holds of the atoms stays so
pub has-atoms : (b : GroundBase) (p q : ProblemState) → DefinesMore p q → HasAtoms b p → HasAtoms b q
has-atoms b p q m h = λ v s. h v (m.restricts v s)

pub has-room : (b : GroundBase) (p q : ProblemState) → DefinesMore p q → HasRoom b p → HasRoom b q
has-room b p q m h = record {
  same = λ v w e. h.same v w (λ k low high. e k low (omega (arith, high, m.grows)));
  predicates = λ s i n below. let x = h.predicates s i n below in omega (arith, x, m.grows);
  functions = λ s i j bi bj. let x = h.functions s i j bi bj in omega (arith, x, m.grows);
}

abbrev pub parts-truth : Bool → Structure → FormulaTrees → List Elem → Bool
parts-truth true m fs e = all_true m fs e
parts-truth false m fs e = any_true m fs e

abbrev pub each-truth : Bool → (List Elem → Bool) → List (List Elem) → Bool
each-truth true T as' = list_all T as'
each-truth false T as' = list_any T as'

pub parts-none : (all : Bool) (m : Structure) (e : List Elem) → parts-truth all m no_formulas e ≡ all
parts-none true m e = refl
parts-none false m e = refl

pub parts-more : (all : Bool) (m : Structure) (f : FormulaTree) (fs : FormulaTrees) (e : List Elem)
    → parts-truth all m (more_formulas f fs) e ≡ joint all (truth_of m f e) (parts-truth all m fs e)
parts-more true m f fs e = refl
parts-more false m f fs e = refl

pub each-none : (all : Bool) (T : List Elem → Bool) → each-truth all T [] ≡ all
each-none true T = refl
each-none false T = refl

pub each-more : (all : Bool) (T : List Elem → Bool) (a : List Elem) (as' : List (List Elem))
    → each-truth all T (a ∷ as') ≡ joint all (T a) (each-truth all T as')
each-more true T a as' = refl
each-more false T a as' = refl
