-- Equivalences that are asserted.
use Rattle.std.proofs.Common.{◌≡◌, ℕ, Bool, true, false, not, ◌&&◌, ◌||◌, List, [], ◌∷◌, ◌++◌, All, refl, ap, ◌∙◌}
use Rattle.std.specs.List.{list_all}
use Rattle.std.proofs.lemmas.List.Elements.{All-append, All-cons, All-nil}
use Rattle.std.proofs.lemmas.List.Folds.{list_any-append}
use Rattle.kb_logic.specs.Meaning.{same_truth}
use Rattle.lit_core.specs.declared.literals.Lit.{Lit}
use Rattle.lit_core.specs.Literals.{literal_value, negated}
use Rattle.lit_core.proofs.Soundness.{value-negated}
use Rattle.ground_core.specs.Problems.{ProblemState, IsLitOf, AreLitsOf}
use Rattle.ground_core.specs.Meaning.{Satisfies}
use Rattle.ground_core.proofs.Clauses.{clause_value}
use Rattle.ground_core.proofs.Mores.{more-trans}
use Rattle.def_ground.specs.declared.answers.Answer.{Answer}
use Rattle.def_ground.specs.declared.answers.Answer.TheVariants.{Constant, Literal}
use Rattle.def_ground.specs.CaseSentences.{or_clause, alike_clauses, assert_alike}
use Rattle.def_ground.specs.Cases.{with_clauses}
use Rattle.def_ground.specs.Forms.{signed_result, same_of}
use Rattle.def_ground.specs.Meanings.{Means, AssertsMore}
use Rattle.def_ground.proofs.Growing.{lit-more, lits-more}
use Rattle.def_ground.proofs.FormSteps.{iff-right}
use Rattle.def_ground.proofs.AssertSteps.{any-of, Local, signed-truth, signed-means, any-local, or-local, clause-right}
use Rattle.def_ground.proofs.AssertSteps.{says-after, says-clauses}

-- what the two clauses say
both-alike : (a l m : Bool)
    → ((a || (not l || (m || false))) && ((a || (l || (not m || false))) && true)) ≡ (a || same_truth l m)
both-alike true l m = refl
both-alike false true true = refl
both-alike false true false = refl
both-alike false false true = refl
both-alike false false false = refl

alike-value : (v : ℕ → Bool) (ls : List Lit) (l m : Lit)
    → list_all (clause_value v) (alike_clauses ls l m) ≡
    (any-of ls v || same_truth (literal_value v l) (literal_value v m))
alike-value v ls l m =
    let L = literal_value v l in
    let M = literal_value v m in
    ap (λ c. c && (clause_value v (ls ++ l ∷ negated m ∷ []) && true))
    (list_any-append (literal_value v) ls (negated l ∷ m ∷ [])
    ∙ ap (λ c. any-of ls v || (c || (M || false))) (value-negated v l))
    ∙ ap (λ c. (any-of ls v || (not L || (M || false))) && (c && true))
    (list_any-append (literal_value v) ls (l ∷ negated m ∷ [])
    ∙ ap (λ c. any-of ls v || (L || (c || false))) (value-negated v m))
    ∙ both-alike (any-of ls v) L M

same-denied : (c d : Bool) → same_truth c (not d) ≡ not (same_truth c d)
same-denied true d = refl
same-denied false true = refl
same-denied false false = refl

two-in : (n : ℕ) (ls : List Lit) (l m : Lit) → AreLitsOf n ls → IsLitOf n l → IsLitOf n m
    → AreLitsOf n (ls ++ l ∷ m ∷ [])
two-in n ls l m h hl hm =
    All-append (IsLitOf n) ls (l ∷ m ∷ []) h
    (All-cons (IsLitOf n) l (m ∷ []) hl (All-cons (IsLitOf n) m [] hm (All-nil (IsLitOf n))))

pub alike-in : (n : ℕ) (ls : List Lit) (l m : Lit) → AreLitsOf n ls → IsLitOf n l → IsLitOf n m
    → All (AreLitsOf n) (alike_clauses ls l m)
alike-in n ls l m h hl hm =
    All-cons (AreLitsOf n) (ls ++ negated l ∷ m ∷ []) ((ls ++ l ∷ negated m ∷ []) ∷ [])
    (two-in n ls (negated l) m h hl hm)
    (All-cons (AreLitsOf n) (ls ++ l ∷ negated m ∷ []) [] (two-in n ls l (negated m) h hl hm) (All-nil (AreLitsOf n)))

module _ (p q r : ProblemState) (ls : List Lit) (F G : (ℕ → Bool) → Bool) (within : AreLitsOf p.vars ls)
    (f-local : Local p.vars F) (g-local : Local p.vars G) where
  abbrev alike : Bool → (ℕ → Bool) → Bool
  alike sign v = signed-truth sign (same_truth (F v) (G v))

  alike-local : (sign : Bool) → Local p.vars (alike sign)
  alike-local sign v w agree =
      ap (λ c. signed-truth sign (same_truth c (G v))) (f-local v w agree)
      ∙ ap (λ c. signed-truth sign (same_truth (F w) c)) (g-local v w agree)

  folded : (sign : Bool) (x y : Answer) → Means p q x F → Means q r y G
      → AssertsMore p (or_clause ls (signed_result sign (same_of x y r))) (λ v. any-of ls v || alike sign v)
  folded sign x y h k =
      clause-right p (signed_result sign (same_of x y r)) ls (alike sign) within (alike-local sign)
      (signed-means p sign (same_of x y r) (λ v. same_truth (F v) (G v)) (iff-right p q r x y F G h k))

  clauses-alike : (sign : Bool) (l m n : Lit) → Means p q (Literal l) F → Means q r (Literal m) G
      → IsLitOf r.vars n
      → ((v : ℕ → Bool) → same_truth (literal_value v l) (literal_value v n) ≡
      signed-truth sign (same_truth (literal_value v l) (literal_value v m)))
      → AssertsMore p (with_clauses r (alike_clauses ls l n)) (λ v. any-of ls v || alike sign v)
  clauses-alike sign l m n h k inside turn =
      let W : (ℕ → Bool) → Bool = λ v. any-of ls v || alike sign v in
      let more = more-trans p q r h.more k.more in
      let value : (v : ℕ → Bool) → Satisfies r v → list_all (clause_value v) (alike_clauses ls l n) ≡ W v = λ v s.
      alike-value v ls l n ∙ ap (λ c. any-of ls v || c)
      (turn v ∙ ap (λ c. signed-truth sign (same_truth c (literal_value v m))) (h.right v (k.more.restricts v s))
      ∙ ap (λ c. signed-truth sign (same_truth (F v) c)) (k.right v s)) in
      says-after p r (with_clauses r (alike_clauses ls l n)) W W more
      (or-local p.vars (any-of ls) (alike sign) (any-local p.vars ls within) (alike-local sign)) (λ v s. refl)
      (says-clauses r (alike_clauses ls l n) W k.fine
      (alike-in r.vars ls l n (lits-more p.vars r.vars more.grows ls within)
      (lit-more q.vars r.vars k.more.grows l h.within) inside) value)

  -- that two answers have one value is asserted, or that they have not, or one of the literals
  pub alike-says : (sign : Bool) (x y : Answer) → Means p q x F → Means q r y G
      → AssertsMore p (assert_alike sign x y ls r) (λ v. any-of ls v || signed-truth sign (same_truth (F v) (G v)))
  alike-says sign (Constant c) y h k = folded sign (Constant c) y h k
  alike-says sign (Literal l) (Constant c) h k = folded sign (Literal l) (Constant c) h k
  alike-says true (Literal l) (Literal m) h k = clauses-alike true l m m h k k.within (λ v. refl)
  alike-says false (Literal l) (Literal m) h k =
      clauses-alike false l m (negated m) h k k.within
      (λ v. ap (same_truth (literal_value v l)) (value-negated v m)
      ∙ same-denied (literal_value v l) (literal_value v m))
