-- One step of an aggregate: what its parts come to, as a function of what they came to before.
use Rattle.std.proofs.Common.{◌≡◌, ℕ, ◌≤◌, ℤ, pos, ◌+ℤ◌, ◌*ℤ◌, Bool, true, false, ◌&&◌, if◌then◌else◌, List, [], ◌∷◌}
use Rattle.std.proofs.Common.{◌++◌}
use Rattle.std.proofs.Common.{map, filter, fold, get_or, refl, sym, ap, ◌∙◌, arith}
use Rattle.std.specs.List.{list_all}
use Rattle.std.proofs.lemmas.Int.{ints}
use Rattle.std.proofs.lemmas.List.Elements.{All-cons, All-push}
use Rattle.kb_logic.specs.declared.syntax.AggKind.{AggKind}
use Rattle.kb_logic.specs.declared.syntax.AggKind.TheVariants as kind
use Rattle.kb_logic.specs.Denotations.{Denotation, number, named, minus_infinity, plus_infinity, undefined}
use Rattle.kb_logic.specs.Denotations.{added, lesser, greater}
use Rattle.lit_core.specs.declared.literals.Lit.{Lit}
use Rattle.lit_core.specs.Literals.{literal_value}
use Rattle.ground_core.specs.declared.parts.Part.{Part}
use Rattle.ground_core.specs.Problems.{ProblemState, IsProblem, IsLitOf, AreLitsOf, ArePartsOf}
use Rattle.ground_core.specs.Meaning.{Satisfies, joined, parts_value, weights_of, shifted}
use Rattle.ground_core.specs.More.{DefinesMore}
use Rattle.ground_core.proofs.Mores.{more-trans}
use Rattle.def_ground.specs.declared.answers.Answer.{Answer}
use Rattle.def_ground.specs.declared.answers.Answer.TheVariants.{Constant, Literal}
use Rattle.def_ground.specs.Answers.{answer_value, AnswerWithin, gate_of}
use Rattle.def_ground.specs.Guards.{guarded_by}
use Rattle.def_ground.specs.Linear.{Linear, part_of, with_problem, weighed, weighed_under}
use Rattle.def_ground.specs.Linear.{summed_row, listed, listed_under, listed_row, row_step}
use Rattle.def_ground.specs.LinearValues.{linear_value, IsBaseOf, IsLinear, Comes}
use Rattle.def_ground.specs.Meanings.{Means}
use Rattle.def_ground.proofs.FormSteps.{gate-right}
use Rattle.def_ground.proofs.Growing.{lit-more, more-refl}
use Rattle.def_ground.proofs.LinearGuards.{guarded-means}
use Rattle.def_ground.proofs.LinearParts.{part_sum, parts-sum, put-value, put-within}

-- the value of the next state, by a function of the value of this one
pub record Steps (k : AggKind) (st next : Linear) (f : (ℕ → Bool) → Denotation → Denotation) : Type 0 where
  pub linear : IsLinear k next
  pub more : DefinesMore st.problem next.problem
  pub right : (v : ℕ → Bool) → Satisfies next.problem v → linear_value k v next ≡ f v (linear_value k v st)

pub steps-is : (k : AggKind) (st next : Linear) (f g : (ℕ → Bool) → Denotation → Denotation)
    → ((v : ℕ → Bool) → Satisfies next.problem v → (x : Denotation) → f v x ≡ g v x) → Steps k st next f
    → Steps k st next g
steps-is k st next f g e h = record {
  linear = h.linear;
  more = h.more;
  right = λ v s. h.right v s ∙ e v s (linear_value k v st);
}

pub steps-on : (k : AggKind) (st mid next : Linear) (f g : (ℕ → Bool) → Denotation → Denotation)
    → Steps k st mid f → Steps k mid next g → Steps k st next (λ v x. g v (f v x))
steps-on k st mid next f g h j = record {
  linear = j.linear;
  more = more-trans st.problem mid.problem next.problem h.more j.more;
  right = λ v s. j.right v s ∙ ap (g v) (h.right v (j.more.restricts v s));
}

pub no-step : (k : AggKind) (st : Linear) → IsLinear k st → Steps k st st (λ v x. x)
no-step k st h = record { linear = h; more = more-refl st.problem; right = λ v s. refl }

pub comes-on : (k : AggKind) (p : ProblemState) (st next : Linear) (V : (ℕ → Bool) → Denotation)
    (f : (ℕ → Bool) → Denotation → Denotation) → Comes k p st V → Steps k st next f → Comes k p next (λ v. f v (V v))
comes-on k p st next V f h j = record {
  linear = j.linear;
  more = more-trans p st.problem next.problem h.more j.more;
  right = λ v s. j.right v s ∙ ap (f v) (h.right v (j.more.restricts v s));
}

-- ---- over more variables

pub parts-later : (n m : ℕ) → n ≤ m → (ps : List Part) → ArePartsOf n ps → ArePartsOf m ps
parts-later n m le ps h = λ i d lt. lit-more n m le (get_or ps i d).lit (h i d lt)

pub linear-later : (k : AggKind) (st : Linear) (q : ProblemState) → IsLinear k st → IsProblem q
    → DefinesMore st.problem q → IsLinear k (with_problem q st)
linear-later k st q h fine more = record {
  fine = fine;
  within = parts-later st.problem.vars q.vars more.grows st.parts h.within;
  plain = h.plain;
}

pub later-steps : (k : AggKind) (st : Linear) (q : ProblemState) → IsLinear k st → IsProblem q
    → DefinesMore st.problem q → Steps k st (with_problem q st) (λ v x. x)
later-steps k st q h fine more = record {
  linear = linear-later k st q h fine more;
  more = more;
  right = λ v s. refl;
}

pub answer-later : (n m : ℕ) → n ≤ m → (a : Answer) → AnswerWithin n a → AnswerWithin m a
answer-later n m le (Constant c) w = tt
answer-later n m le (Literal l) w = lit-more n m le l w

-- ---- sums

-- where the test is true, the weight is added
abbrev added_if : Bool → ℤ → Denotation → Denotation
added_if t w x = if t then added x (number w) else x

base-adds : (c : Bool) (base w t : ℤ)
    → number ((base +ℤ (if c then w else pos 0)) +ℤ t) ≡ added_if c w (number (base +ℤ t))
base-adds true base w t = ap number (omega (arith, ints))
base-adds false base w t = ap number (omega (arith, ints))

weighed-steps : (st : Linear) (w : ℤ) (q : ProblemState) (a : Answer) (U : (ℕ → Bool) → Bool) → IsLinear kind.Sum st
    → Means st.problem q a U
    → Steps kind.Sum st (weighed w (record { answer = a; problem = q }) st) (λ v x. added_if (U v) w x)
weighed-steps st w q (Constant c) U h m = record {
  linear = record {
    fine = m.fine;
    within = parts-later st.problem.vars q.vars m.more.grows st.parts h.within;
    plain = tt;
  };
  more = m.more;
  right = λ v s.
      ap (shifted (st.base +ℤ (if c then w else pos 0))) (parts-sum v st.parts)
      ∙ base-adds c st.base w (part_sum v st.parts)
      ∙ ap (added_if c w) (sym (ap (shifted st.base) (parts-sum v st.parts)))
      ∙ ap (λ t. added_if t w (linear_value kind.Sum v st)) (m.right v s);
}
weighed-steps st w q (Literal l) U h m = record {
  linear = record {
    fine = m.fine;
    within = put-within q.vars (part_of w l) st.parts m.within
        (parts-later st.problem.vars q.vars m.more.grows st.parts h.within);
    plain = tt;
  };
  more = m.more;
  right = λ v s. put-value v st.base (part_of w l) st.parts
      ∙ ap (λ t. added_if t w (linear_value kind.Sum v st)) (m.right v s);
}

-- the answer has the value T, over the state's variables
pub record Says (st : Linear) (a : Answer) (T : (ℕ → Bool) → Bool) : Type 0 where
  pub within : AnswerWithin st.problem.vars a
  pub right : (v : ℕ → Bool) → Satisfies st.problem v → answer_value v a ≡ T v

pub says-later : (k : AggKind) (st next : Linear) (f : (ℕ → Bool) → Denotation → Denotation) (a : Answer)
    (T : (ℕ → Bool) → Bool) → Steps k st next f → Says st a T → Says next a T
says-later k st next f a T h says = record {
  within = answer-later st.problem.vars next.problem.vars h.more.grows a says.within;
  right = λ v s. says.right v (h.more.restricts v s);
}

abbrev guards-true : (ℕ → Bool) → List Lit → Bool
guards-true v guards = list_all (literal_value v) guards

under-steps : (st : Linear) (w : ℤ) (a : Answer) (T : (ℕ → Bool) → Bool) (guards : List Lit) → IsLinear kind.Sum st
    → Says st a T → AreLitsOf st.problem.vars guards
    → Steps kind.Sum st (weighed_under w a guards st) (λ v x. added_if (T v && guards-true v guards) w x)
under-steps st w (Constant false) T guards h says wg = record {
  linear = h;
  more = more-refl st.problem;
  right = λ v s. ap (λ t. added_if (t && guards-true v guards) w (linear_value kind.Sum v st)) (says.right v s);
}
under-steps st w (Constant true) T guards h says wg =
    let g = gate_of true guards st.problem in
    let m = gate-right st.problem true guards h.fine wg in
    let one = weighed-steps st w g.problem g.answer (λ v. joined true v guards) h m in
    steps-is kind.Sum st (weighed w g st) (λ v x. added_if (guards-true v guards) w x)
    (λ v x. added_if (T v && guards-true v guards) w x)
    (λ v s x. ap (λ t. added_if (t && guards-true v guards) w x) (says.right v (one.more.restricts v s))) one
under-steps st w (Literal l) T guards h says wg =
    let g = gate_of true (l ∷ guards) st.problem in
    let m = gate-right st.problem true (l ∷ guards) h.fine
    (All-cons (IsLitOf st.problem.vars) l guards says.within wg) in
    let one = weighed-steps st w g.problem g.answer (λ v. joined true v (l ∷ guards)) h m in
    steps-is kind.Sum st (weighed w g st) (λ v x. added_if (literal_value v l && guards-true v guards) w x)
    (λ v x. added_if (T v && guards-true v guards) w x)
    (λ v s x. ap (λ t. added_if (t && guards-true v guards) w x) (says.right v (one.more.restricts v s))) one

-- ---- minima and maxima

-- where the test is true, the weight is taken with the value
abbrev taken_if : (Denotation → Denotation → Denotation) → Bool → ℤ → Denotation → Denotation
taken_if op t w x = if t then op x (number w) else x

-- the operation of a kind that has one number, or the other
abbrev extreme : AggKind → Denotation → Denotation → Denotation
extreme kind.Count x y = x
extreme kind.Sum x y = x
extreme kind.Min x y = lesser x y
extreme kind.Max x y = greater x y

-- these kinds alone
abbrev IsExtreme : AggKind → Type 0
IsExtreme kind.Count = ⊥
IsExtreme kind.Sum = ⊥
IsExtreme kind.Min = Unit {0}
IsExtreme kind.Max = Unit {0}

abbrev pub true_parts : (ℕ → Bool) → List Part → List Part
true_parts v ps = filter (λ (p : Part). literal_value v p.lit) ps

weights-push : (op : Denotation → Denotation → Denotation) (v : ℕ → Bool) (ps : List Part) (q : Part) (x : Denotation)
    → fold op x (weights_of v (ps ++ q ∷ []))
    ≡ taken_if op (literal_value v q.lit) q.weight (fold op x (weights_of v ps))
weights-push op v [] q x = by (literal_value v q.lit)
  where
    by : (t : Bool) → fold op x (map (λ (p : Part). number p.weight) (if t then q ∷ [] else []))
        ≡ taken_if op t q.weight x
    by true = refl
    by false = refl
weights-push op v (p ∷ ps) q x = by (literal_value v p.lit) (weights-push op v ps q)
  where
    by : (t : Bool) → ((y : Denotation) → fold op y (weights_of v (ps ++ q ∷ []))
        ≡ taken_if op (literal_value v q.lit) q.weight (fold op y (weights_of v ps)))
        → fold op x (map (λ (y : Part). number y.weight)
        (if t then p ∷ true_parts v (ps ++ q ∷ []) else true_parts v (ps ++ q ∷ [])))
        ≡ taken_if op (literal_value v q.lit) q.weight
        (fold op x (map (λ (y : Part). number y.weight) (if t then p ∷ true_parts v ps else true_parts v ps)))
    by true rest = rest (op x (number p.weight))
    by false rest = rest x

zero-shift : (d : Denotation) → shifted (pos 0) d ≡ d
zero-shift (named n) = refl
zero-shift (number z) = ap number (omega (arith, ints))
zero-shift minus_infinity = refl
zero-shift plus_infinity = refl
zero-shift undefined = refl

-- without a number the value is that of the parts
pub bare : (b : ℤ) (d : Denotation) → b ≡ pos 0 → shifted b d ≡ d
bare b d e = ap (λ z. shifted z d) e ∙ zero-shift d

pushed-value : (k : AggKind) → IsExtreme k → (v : ℕ → Bool) (st : Linear) (w : ℤ) (l : Lit) (q : ProblemState)
    → IsBaseOf k st.base
    → linear_value k v (record { base = st.base; parts = st.parts ++ part_of w l ∷ []; problem = q })
    ≡ taken_if (extreme k) (literal_value v l) w (linear_value k v st)
pushed-value kind.Count is v st w l q plain = absurd is
pushed-value kind.Sum is v st w l q plain = absurd is
pushed-value kind.Min is v st w l q plain =
    let ps = st.parts in
    bare st.base (parts_value v kind.Min (ps ++ part_of w l ∷ [])) plain
    ∙ weights-push lesser v ps (part_of w l) plus_infinity
    ∙ ap (taken_if lesser (literal_value v l) w) (sym (bare st.base (parts_value v kind.Min ps) plain))
pushed-value kind.Max is v st w l q plain =
    let ps = st.parts in
    bare st.base (parts_value v kind.Max (ps ++ part_of w l ∷ [])) plain
    ∙ weights-push greater v ps (part_of w l) minus_infinity
    ∙ ap (taken_if greater (literal_value v l) w) (sym (bare st.base (parts_value v kind.Max ps) plain))

listed-steps : (k : AggKind) → IsExtreme k → (st : Linear) (w : ℤ) (guards : List Lit) → IsLinear k st
    → AreLitsOf st.problem.vars guards
    → Steps k st (listed w guards st) (λ v x. taken_if (extreme k) (guards-true v guards) w x)
listed-steps k is st w guards h wg =
    let g = guarded_by guards st.problem in
    let m = guarded-means st.problem guards h.fine wg in record {
      linear = record {
        fine = m.fine;
        within = All-push (λ (x : Part). IsLitOf g.problem.vars x.lit) st.parts (part_of w g.lit)
            (parts-later st.problem.vars g.problem.vars m.more.grows st.parts h.within) m.within;
        plain = h.plain;
      };
      more = m.more;
      right = λ v s. pushed-value k is v st w g.lit g.problem h.plain
          ∙ ap (λ t. taken_if (extreme k) t w (linear_value k v st)) (m.right v s);
    }

listed-under-steps : (k : AggKind) → IsExtreme k → (st : Linear) (w : ℤ) (a : Answer) (T : (ℕ → Bool) → Bool)
    (guards : List Lit) → IsLinear k st → Says st a T → AreLitsOf st.problem.vars guards
    → Steps k st (listed_under w a guards st) (λ v x. taken_if (extreme k) (T v && guards-true v guards) w x)
listed-under-steps k is st w (Constant false) T guards h says wg = record {
  linear = h;
  more = more-refl st.problem;
  right = λ v s. ap (λ t. taken_if (extreme k) (t && guards-true v guards) w (linear_value k v st)) (says.right v s);
}
listed-under-steps k is st w (Constant true) T guards h says wg =
    let one = listed-steps k is st w guards h wg in
    steps-is k st (listed w guards st) (λ v x. taken_if (extreme k) (guards-true v guards) w x)
    (λ v x. taken_if (extreme k) (T v && guards-true v guards) w x)
    (λ v s x. ap (λ t. taken_if (extreme k) (t && guards-true v guards) w x)
    (says.right v (one.more.restricts v s))) one
listed-under-steps k is st w (Literal l) T guards h says wg =
    let one = listed-steps k is st w (l ∷ guards) h (All-cons (IsLitOf st.problem.vars) l guards says.within wg) in
    steps-is k st (listed w (l ∷ guards) st)
    (λ v x. taken_if (extreme k) (literal_value v l && guards-true v guards) w x)
    (λ v x. taken_if (extreme k) (T v && guards-true v guards) w x)
    (λ v s x. ap (λ t. taken_if (extreme k) (t && guards-true v guards) w x)
    (says.right v (one.more.restricts v s))) one

-- ---- a row of any kind

-- what a value of the weight adds, times a factor
abbrev added_row : ℤ → Denotation → Denotation → Denotation
added_row z x (number w) = added x (number (z *ℤ w))
added_row z x (named n) = x
added_row z x minus_infinity = x
added_row z x plus_infinity = x
added_row z x undefined = x

abbrev taken_row : (Denotation → Denotation → Denotation) → Denotation → Denotation → Denotation
taken_row op x (number w) = op x (number w)
taken_row op x (named n) = x
taken_row op x minus_infinity = x
taken_row op x plus_infinity = x
taken_row op x undefined = x

abbrev pub row_value : AggKind → ℤ → Denotation → Denotation → Denotation
row_value kind.Count z x d = added_row z x d
row_value kind.Sum z x d = added_row z x d
row_value kind.Min z x d = taken_row lesser x d
row_value kind.Max z x d = taken_row greater x d

-- where the tests are true
abbrev row_if : AggKind → ℤ → Bool → Denotation → Denotation → Denotation
row_if k z t d x = if t then row_value k z x d else x

same-if : (t : Bool) (x : Denotation) → x ≡ (if t then x else x)
same-if true x = refl
same-if false x = refl

kept-steps : (k : AggKind) (st : Linear) (T : (ℕ → Bool) → Bool) → IsLinear k st
    → Steps k st st (λ v x. if T v then x else x)
kept-steps k st T h =
    steps-is k st st (λ v x. x) (λ v x. if T v then x else x) (λ v s x. same-if (T v) x) (no-step k st h)

module _ (z : ℤ) (a : Answer) (T : (ℕ → Bool) → Bool) (st : Linear) (says : Says st a T) (g : List Lit)
    (wg : AreLitsOf st.problem.vars g) where
  summed-steps : (d : Denotation) → IsLinear kind.Sum st
      → Steps kind.Sum st (summed_row z a st (g, d)) (λ v x. row_if kind.Sum z (T v && guards-true v g) d x)
  summed-steps (number w) h = under-steps st (z *ℤ w) a T g h says wg
  summed-steps (named n) h = kept-steps kind.Sum st (λ v. T v && guards-true v g) h
  summed-steps minus_infinity h = kept-steps kind.Sum st (λ v. T v && guards-true v g) h
  summed-steps plus_infinity h = kept-steps kind.Sum st (λ v. T v && guards-true v g) h
  summed-steps undefined h = kept-steps kind.Sum st (λ v. T v && guards-true v g) h

  listed-row-steps : (k : AggKind) → IsExtreme k → (d : Denotation) → IsLinear k st
      → Steps k st (listed_row a st (g, d)) (λ v x. if T v && guards-true v g then taken_row (extreme k) x d else x)
  listed-row-steps k is (number w) h = listed-under-steps k is st w a T g h says wg
  listed-row-steps k is (named n) h = kept-steps k st (λ v. T v && guards-true v g) h
  listed-row-steps k is minus_infinity h = kept-steps k st (λ v. T v && guards-true v g) h
  listed-row-steps k is plus_infinity h = kept-steps k st (λ v. T v && guards-true v g) h
  listed-row-steps k is undefined h = kept-steps k st (λ v. T v && guards-true v g) h

  pub row-steps : (k : AggKind) (d : Denotation) → IsLinear k st
      → Steps k st (row_step k z a st (g, d))
      (λ v x. if T v && list_all (literal_value v) g then row_value k z x d else x)
  row-steps kind.Count d h =
      let one = summed-steps d (record { fine = h.fine; within = h.within; plain = tt }) in record {
        linear = record { fine = one.linear.fine; within = one.linear.within; plain = tt };
        more = one.more;
        right = one.right;
      }
  row-steps kind.Sum d h = summed-steps d h
  row-steps kind.Min d h = listed-row-steps kind.Min tt d h
  row-steps kind.Max d h = listed-row-steps kind.Max tt d h
