-- A formula and its normal form have one truth, and the normal form is normal.
use Rattle.std.proofs.Common.{◌≡◌, Bool, true, false, not, ◌&&◌, ◌||◌, List, [], ◌∷◌, ◌++◌, map, count_by, ◌+◌, pos}
use Rattle.std.proofs.Common.{if◌then◌else◌, refl, sym, ap, ◌∙◌}
use Rattle.std.specs.List.{list_all, list_any}
use Rattle.std.proofs.lemmas.List.Sums.{sum_by-cons}
use Rattle.kb_logic.specs.declared.elements.Elem.{Elem}
use Rattle.kb_logic.specs.declared.vocabularies.Bound.{Bound}
use Rattle.kb_logic.specs.declared.structures.Structure.{Structure}
use Rattle.kb_logic.specs.Trees.{FormulaTree, verum, falsum, atom, comparison, negation, conjunction, disjunction}
use Rattle.kb_logic.specs.Trees.{implication, equivalence, universal, existential, numbered, FormulaTrees, no_formulas}
use Rattle.kb_logic.specs.Trees.{more_formulas, formulas_of}
use Rattle.kb_logic.specs.Denotations.{compared, number}
use Rattle.kb_logic.specs.Meaning.{assignments, same_truth, truth_of, all_true, any_true}
use Rattle.normal_forms.specs.NormalForms.{signed, constant, joined_by, quantified_by, normal_form, normal_forms}
use Rattle.normal_forms.specs.NormalForms.{IsNormal, AreNormal}
use Rattle.normal_forms.specs.Laws.{NormalFormIsTrue, NormalFormIsNormal}

-- the normal forms of a list, one by one
pub forms-of : (sign : Bool) (fs : List FormulaTree) → normal_forms sign (formulas_of fs) ≡ formulas_of
    (map (normal_form sign) fs)
forms-of sign [] = refl
forms-of sign (f ∷ fs) = ap (more_formulas (normal_form sign f)) (forms-of sign fs)

not-both : (s b : Bool) → same_truth (not s) b ≡ same_truth s (not b)
not-both true b = refl
not-both false true = refl
not-both false false = refl

constant-true : (m : Structure) (s : Bool) (e : List Elem) → truth_of m (constant s) e ≡ same_truth s true
constant-true m true e = refl
constant-true m false e = refl

constant-false : (m : Structure) (s : Bool) (e : List Elem) → truth_of m (constant (not s)) e ≡ same_truth s false
constant-false m true e = refl
constant-false m false e = refl

signed-truth : (m : Structure) (s : Bool) (f : FormulaTree) (e : List Elem) → truth_of m (signed s f) e ≡ same_truth s
    (truth_of m f e)
signed-truth m true f e = refl
signed-truth m false f e = refl

not-and : (a b : Bool) → (not a || not b) ≡ not (a && b)
not-and true b = refl
not-and false b = refl

not-or : (a b : Bool) → (not a && not b) ≡ not (a || b)
not-or true b = refl
not-or false b = refl

or-false : (b : Bool) → (b || false) ≡ b
or-false true = refl
or-false false = refl

and-true : (b : Bool) → (b && true) ≡ b
and-true true = refl
and-true false = refl

implied : (a b : Bool) → (a && (not b && true)) ≡ not (not a || b)
implied true true = refl
implied true false = refl
implied false b = refl

equal : (s a b : Bool) → same_truth a (same_truth s b) ≡ same_truth s (same_truth a b)
equal true a b = refl
equal false true b = refl
equal false false true = refl
equal false false false = refl

module _ {X : Type 0} where
  all-alike : (P Q : X → Bool) → ((x : X) → P x ≡ Q x) → (xs : List X) → list_all P xs ≡ list_all Q xs
  all-alike P Q h [] = refl
  all-alike P Q h (x ∷ xs) = let here = h x in let rest = all-alike P Q h xs in cc

  any-alike : (P Q : X → Bool) → ((x : X) → P x ≡ Q x) → (xs : List X) → list_any P xs ≡ list_any Q xs
  any-alike P Q h [] = refl
  any-alike P Q h (x ∷ xs) = let here = h x in let rest = any-alike P Q h xs in cc

  any-not : (P Q : X → Bool) → ((x : X) → P x ≡ not (Q x)) → (xs : List X) → list_any P xs ≡ not (list_all Q xs)
  any-not P Q h [] = refl
  any-not P Q h (x ∷ xs) = let here = h x in let rest = any-not P Q h xs in let turn =
      not-and (Q x) (list_all Q xs) in cc

  all-not : (P Q : X → Bool) → ((x : X) → P x ≡ not (Q x)) → (xs : List X) → list_all P xs ≡ not (list_any Q xs)
  all-not P Q h [] = refl
  all-not P Q h (x ∷ xs) = let here = h x in let rest = all-not P Q h xs in let turn =
      not-or (Q x) (list_any Q xs) in cc

quantified-all : (m : Structure) (s : Bool) (bs : List Bound) (g f : FormulaTree) (e : List Elem)
    → ((a : List Elem) → truth_of m g (e ++ a) ≡ same_truth s (truth_of m f (e ++ a)))
    → truth_of m (quantified_by s bs g) e ≡ same_truth s (truth_of m (universal bs f) e)
quantified-all m true bs g f e h = all-alike (λ a. truth_of m g (e ++ a)) (λ a. truth_of m f (e ++ a)) h
    (assignments m bs)
quantified-all m false bs g f e h = any-not (λ a. truth_of m g (e ++ a)) (λ a. truth_of m f (e ++ a)) h
    (assignments m bs)

quantified-any : (m : Structure) (s : Bool) (bs : List Bound) (g f : FormulaTree) (e : List Elem)
    → ((a : List Elem) → truth_of m g (e ++ a) ≡ same_truth s (truth_of m f (e ++ a)))
    → truth_of m (quantified_by (not s) bs g) e ≡ same_truth s (truth_of m (existential bs f) e)
quantified-any m true bs g f e h = any-alike (λ a. truth_of m g (e ++ a)) (λ a. truth_of m f (e ++ a)) h
    (assignments m bs)
quantified-any m false bs g f e h = all-not (λ a. truth_of m g (e ++ a)) (λ a. truth_of m f (e ++ a)) h
    (assignments m bs)

count-alike : {X : Type 0} (P Q : X → Bool) → ((x : X) → P x ≡ Q x) → (xs : List X) → count_by P xs ≡ count_by Q xs
count-alike P Q h [] = refl
count-alike P Q h (x ∷ xs) =
    sum_by-cons (λ y. if P y then 1 else 0) x xs
    ∙ (let here : P x ≡ Q x = h x in let rest : count_by P xs ≡ count_by Q xs = count-alike P Q h xs in
    ap (λ b. (if b then 1 else 0) + count_by P xs) here ∙ ap (λ n. (if Q x then 1 else 0) + n) rest)
    ∙ sym (sum_by-cons (λ y. if Q y then 1 else 0) x xs)

mutual
  form-truth : (m : Structure) (s : Bool) (f : FormulaTree) (e : List Elem) → truth_of m (normal_form s f) e
      ≡ same_truth s (truth_of m f e)
  form-truth m s verum e = constant-true m s e
  form-truth m s falsum e = constant-false m s e
  form-truth m s (atom p ts) e = signed-truth m s (atom p ts) e
  form-truth m s (comparison c a b) e = signed-truth m s (comparison c a b) e
  form-truth m s (negation f) e = form-truth m (not s) f e ∙ not-both s (truth_of m f e)
  form-truth m true (conjunction fs) e = alls-truth m fs e
  form-truth m false (conjunction fs) e = alls-false m fs e
  form-truth m true (disjunction fs) e = anys-truth m fs e
  form-truth m false (disjunction fs) e = anys-false m fs e
  form-truth m true (implication f g) e =
      let a = form-truth m false f e in
      let b = form-truth m true g e in
      let o = or-false (truth_of m g e) in cc
  form-truth m false (implication f g) e =
      let a = form-truth m true f e in
      let b = form-truth m false g e in
      let o = implied (truth_of m f e) (truth_of m g e) in cc
  form-truth m s (equivalence f g) e =
      let a = form-truth m true f e in
      let b = form-truth m s g e in
      let o = equal s (truth_of m f e) (truth_of m g e) in cc
  form-truth m s (universal bs f) e = quantified-all m s bs (normal_form s f) f e (λ a. form-truth m s f (e ++ a))
  form-truth m s (existential bs f) e = quantified-any m s bs (normal_form s f) f e (λ a. form-truth m s f (e ++ a))
  form-truth m s (numbered c n bs f) e =
      signed-truth m s (numbered c n bs (normal_form true f)) e
      ∙ ap (λ k. same_truth s (compared c (number (pos k)) (number n)))
      (count-alike (λ a. truth_of m (normal_form true f) (e ++ a)) (λ a. truth_of m f (e ++ a))
      (λ a. form-truth m true f (e ++ a)) (assignments m bs))

  alls-truth : (m : Structure) (fs : FormulaTrees) (e : List Elem) → all_true m (normal_forms true fs) e
      ≡ all_true m fs e
  alls-truth m no_formulas e = refl
  alls-truth m (more_formulas f fs) e = let here = form-truth m true f e in let rest = alls-truth m fs e in cc

  anys-truth : (m : Structure) (fs : FormulaTrees) (e : List Elem) → any_true m (normal_forms true fs) e
      ≡ any_true m fs e
  anys-truth m no_formulas e = refl
  anys-truth m (more_formulas f fs) e = let here = form-truth m true f e in let rest = anys-truth m fs e in cc

  alls-false : (m : Structure) (fs : FormulaTrees) (e : List Elem) → any_true m (normal_forms false fs) e
      ≡ not (all_true m fs e)
  alls-false m no_formulas e = refl
  alls-false m (more_formulas f fs) e = let here = form-truth m false f e in let rest = alls-false m fs e in let turn =
      not-and (truth_of m f e) (all_true m fs e) in cc

  anys-false : (m : Structure) (fs : FormulaTrees) (e : List Elem) → all_true m (normal_forms false fs) e
      ≡ not (any_true m fs e)
  anys-false m no_formulas e = refl
  anys-false m (more_formulas f fs) e = let here = form-truth m false f e in let rest = anys-false m fs e in let turn =
      not-or (truth_of m f e) (any_true m fs e) in cc

constant-normal : (s : Bool) → IsNormal (constant s)
constant-normal true = tt
constant-normal false = tt

joined-normal : (all : Bool) (fs : FormulaTrees) → AreNormal fs → IsNormal (joined_by all fs)
joined-normal true fs h = h
joined-normal false fs h = h

quantified-normal : (all : Bool) (bs : List Bound) (f : FormulaTree) → IsNormal f → IsNormal (quantified_by all bs f)
quantified-normal true bs f h = h
quantified-normal false bs f h = h

mutual
  form-normal : (s : Bool) (f : FormulaTree) → IsNormal (normal_form s f)
  form-normal s verum = constant-normal s
  form-normal s falsum = constant-normal (not s)
  form-normal true (atom p ts) = tt
  form-normal false (atom p ts) = tt
  form-normal true (comparison c a b) = tt
  form-normal false (comparison c a b) = tt
  form-normal s (negation f) = form-normal (not s) f
  form-normal s (conjunction fs) = joined-normal s (normal_forms s fs) (forms-normal s fs)
  form-normal s (disjunction fs) = joined-normal (not s) (normal_forms s fs) (forms-normal s fs)
  form-normal s (implication f g) =
      joined-normal (not s) (more_formulas (normal_form (not s) f) (more_formulas (normal_form s g) no_formulas))
      (form-normal (not s) f, (form-normal s g, tt))
  form-normal s (equivalence f g) = (form-normal true f, form-normal s g)
  form-normal s (universal bs f) = quantified-normal s bs (normal_form s f) (form-normal s f)
  form-normal s (existential bs f) = quantified-normal (not s) bs (normal_form s f) (form-normal s f)
  form-normal true (numbered c n bs f) = form-normal true f
  form-normal false (numbered c n bs f) = form-normal true f

  forms-normal : (s : Bool) (fs : FormulaTrees) → AreNormal (normal_forms s fs)
  forms-normal s no_formulas = tt
  forms-normal s (more_formulas f fs) = (form-normal s f, forms-normal s fs)

pub normal-form-true : NormalFormIsTrue
normal-form-true m f e = form-truth m true f e

pub normal-form-normal : NormalFormIsNormal
normal-form-normal f = form-normal true f
