-- The literals of parts of a disjunction.
use Rattle.std.proofs.Common.{◌≡◌, ℕ, Bool, true, false, not, ◌||◌, List, if◌then◌else◌, refl, sym, ap, ◌∙◌}
use Rattle.kb_logic.specs.declared.elements.Elem.{Elem}
use Rattle.kb_logic.specs.Trees.{FormulaTree, verum, falsum, atom, comparison, negation, conjunction, disjunction}
use Rattle.kb_logic.specs.Trees.{implication, equivalence, universal, existential, numbered, FormulaTrees, no_formulas}
use Rattle.kb_logic.specs.Trees.{more_formulas}
use Rattle.kb_logic.specs.Meaning.{truth_of}
use Rattle.lit_core.specs.declared.literals.Lit.{Lit}
use Rattle.ground_core.specs.Problems.{ProblemState, IsProblem, AreLitsOf}
use Rattle.ground_core.proofs.Mores.{more-trans}
use Rattle.term_values.specs.GroundBases.{GroundBase, structure_of}
use Rattle.def_ground.specs.Forms.{Parts, with_answer, no_more_parts, signed_result, form_of}
use Rattle.def_ground.specs.Disjuncts.{more_parts, own_part, disjuncts_of, all_disjuncts}
use Rattle.def_ground.specs.Meanings.{HasAtoms, HasRoom}
use Rattle.def_ground.specs.GroundForms.{IsGroundForm, AreGroundForms}
use Rattle.def_ground.proofs.FormSteps.{taken-fine, next-right, none-left, has-room, PartsMean}
use Rattle.def_ground.proofs.FormLaws.{form-is-right}
use Rattle.def_ground.proofs.AssertSteps.{any-of, or-false, or-assoc, signed-truth, signed-means}
use Rattle.def_ground.proofs.SignedTruths.{any-signed, any-none, any-step, signed-not}

-- literals of parts, and then of more
more-right : (p : ProblemState) (r : Parts) (ls : List Lit) (rest : List Lit → ProblemState → Parts)
    (F G H : (ℕ → Bool) → Bool) → ((v : ℕ → Bool) → (F v || G v) ≡ H v)
    → PartsMean p r.problem false ls r.lits r.settled F
    → (let t = rest r.lits r.problem in PartsMean r.problem t.problem false r.lits t.lits t.settled G)
    → (let t = more_parts r rest in PartsMean p t.problem false ls t.lits t.settled H)
more-right p r ls rest F G H law h k = by r.settled refl
  where
    whole : (v : ℕ → Bool) → ((any-of ls v || F v) || G v) ≡ (any-of ls v || H v)
    whole v = or-assoc (any-of ls v) (F v) (G v) ∙ ap (λ c. any-of ls v || c) (law v)

    by : (s : Bool) → r.settled ≡ s
        → (let t : Parts = (if s then r else rest r.lits r.problem) in
        PartsMean p t.problem false ls t.lits t.settled H)
    by true e = record {
      fine = h.fine;
      more = h.more;
      within = h.within;
      right = λ v s.
          let is : (if r.settled then true else any-of r.lits v) ≡ true = ap
          (λ c. if c then true else any-of r.lits v) e in
          is ∙ ap (λ c. c || G v) (sym is ∙ h.right v s) ∙ whole v;
    }
    by false e = record {
      fine = k.fine;
      more = more-trans p r.problem (rest r.lits r.problem).problem h.more k.more;
      within = k.within;
      right = λ v s.
          let here : any-of r.lits v ≡ (any-of ls v || F v) = ap
          (λ c. if c then true else any-of r.lits v) (sym e) ∙ h.right v (k.more.restricts v s) in
          k.right v s ∙ ap (λ c. c || G v) here ∙ whole v;
    }

module _ (b : GroundBase) where
  abbrev SaysPart : Bool → FormulaTree → List Elem → List Lit → ProblemState → Parts → Type 0
  SaysPart sign f e ls p r =
      PartsMean p r.problem false ls r.lits r.settled (λ v. signed-truth sign (truth_of (structure_of b v) f e))

  own-right : (sign : Bool) (f : FormulaTree) (e : List Elem) (ls : List Lit) (p : ProblemState) → IsGroundForm b f e
      → IsProblem p → HasAtoms b p → HasRoom b p → AreLitsOf p.vars ls
      → SaysPart sign f e ls p (own_part b sign f e ls p)
  own-right sign f e ls p h fine at room within =
      let F : (ℕ → Bool) → Bool = λ v. signed-truth sign (truth_of (structure_of b v) f e) in
      let g = signed_result sign (form_of b f e p) in
      let one = signed-means p sign (form_of b f e p) (λ v. truth_of (structure_of b v) f e)
      (form-is-right b f e p fine at room h) in
      next-right p g false ls no_more_parts F (λ v. false) F (λ v. sym (or-false (F v))) within one
      (none-left g.problem false (with_answer g.answer ls) (λ v. false) one.fine (taken-fine p g ls F within one)
      (λ v. refl))

  mutual
    pub disjuncts-right : (sign : Bool) (f : FormulaTree) (e : List Elem) (ls : List Lit) (p : ProblemState)
        → IsGroundForm b f e → IsProblem p → HasAtoms b p → HasRoom b p → AreLitsOf p.vars ls
        → (let r = disjuncts_of b sign f e ls p in
        PartsMean p r.problem false ls r.lits r.settled (λ v. signed-truth sign (truth_of (structure_of b v) f e)))
    disjuncts-right sign verum e ls p h fine at room within = own-right sign verum e ls p h fine at room within
    disjuncts-right sign falsum e ls p h fine at room within = own-right sign falsum e ls p h fine at room within
    disjuncts-right sign (atom s ts) e ls p h fine at room within =
        own-right sign (atom s ts) e ls p h fine at room within
    disjuncts-right sign (comparison c x y) e ls p h fine at room within =
        own-right sign (comparison c x y) e ls p h fine at room within
    disjuncts-right sign (equivalence f g) e ls p h fine at room within =
        own-right sign (equivalence f g) e ls p h fine at room within
    disjuncts-right sign (universal bs f) e ls p h fine at room within =
        own-right sign (universal bs f) e ls p h fine at room within
    disjuncts-right sign (existential bs f) e ls p h fine at room within =
        own-right sign (existential bs f) e ls p h fine at room within
    disjuncts-right sign (numbered c n bs f) e ls p h fine at room within =
        own-right sign (numbered c n bs f) e ls p h fine at room within
    disjuncts-right sign (negation f) e ls p h fine at room within =
        let r = disjuncts_of b (not sign) f e ls p in
        let k = disjuncts-right (not sign) f e ls p h fine at room within in
        record {
          fine = k.fine;
          more = k.more;
          within = k.within;
          right = λ v s.
              k.right v s ∙ ap (λ c. any-of ls v || c) (signed-not sign (truth_of (structure_of b v) f e));
        }
    disjuncts-right true (conjunction fs) e ls p h fine at room within =
        own-right true (conjunction fs) e ls p h fine at room within
    disjuncts-right false (conjunction fs) e ls p h fine at room within =
        all-disjuncts-right false fs e ls p h fine at room within
    disjuncts-right true (disjunction fs) e ls p h fine at room within =
        all-disjuncts-right true fs e ls p h fine at room within
    disjuncts-right false (disjunction fs) e ls p h fine at room within =
        own-right false (disjunction fs) e ls p h fine at room within
    disjuncts-right true (implication f g) e ls p h fine at room within =
        let r = disjuncts_of b false f e ls p in
        let one = disjuncts-right false f e ls p h.0 fine at room within in
        more-right p r ls (λ xs q. disjuncts_of b true g e xs q) (λ v. not (truth_of (structure_of b v) f e))
        (λ v. truth_of (structure_of b v) g e)
        (λ v. not (truth_of (structure_of b v) f e) || truth_of (structure_of b v) g e) (λ v. refl) one
        (disjuncts-right true g e r.lits r.problem h.1 one.fine (λ v s. at v (one.more.restricts v s))
        (has-room b p r.problem one.more room) one.within)
    disjuncts-right false (implication f g) e ls p h fine at room within =
        own-right false (implication f g) e ls p h fine at room within

    all-disjuncts-right : (sign : Bool) (fs : FormulaTrees) (e : List Elem) (ls : List Lit) (p : ProblemState)
        → AreGroundForms b fs e → IsProblem p → HasAtoms b p → HasRoom b p → AreLitsOf p.vars ls
        → (let r = all_disjuncts b sign fs e ls p in
        PartsMean p r.problem false ls r.lits r.settled (λ v. any-signed sign (structure_of b v) fs e))
    all-disjuncts-right sign no_formulas e ls p h fine at room within =
        none-left p false ls (λ v. any-signed sign (structure_of b v) no_formulas e) fine within
        (λ v. any-none sign (structure_of b v) e)
    all-disjuncts-right sign (more_formulas f fs) e ls p h fine at room within =
        let r = disjuncts_of b sign f e ls p in
        let one = disjuncts-right sign f e ls p h.0 fine at room within in
        more-right p r ls (λ xs q. all_disjuncts b sign fs e xs q)
        (λ v. signed-truth sign (truth_of (structure_of b v) f e)) (λ v. any-signed sign (structure_of b v) fs e)
        (λ v. any-signed sign (structure_of b v) (more_formulas f fs) e)
        (λ v. any-step sign (structure_of b v) f fs e) one
        (all-disjuncts-right sign fs e r.lits r.problem h.1 one.fine (λ v s. at v (one.more.restricts v s))
        (has-room b p r.problem one.more room) one.within)
