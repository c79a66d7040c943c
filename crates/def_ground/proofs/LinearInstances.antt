-- What the instances of an aggregate come to, one after another.
use Rattle.std.proofs.Common.{◌≡◌, ℕ, ◌≤◌, ℤ, pos, ◌*ℤ◌, Bool, true, false, ◌&&◌, if◌then◌else◌, List, [], ◌∷◌, map}
use Rattle.std.proofs.Common.{filter}
use Rattle.std.proofs.Common.{fold, refl, ap, ◌∙◌, arith, inl, inr}
use Rattle.std.specs.List.{list_all, AllByRecursion}
use Rattle.std.proofs.lemmas.Int.{ints}
use Rattle.std.proofs.lemmas.List.Elements.{All-nil}
use Rattle.kb_logic.specs.declared.elements.Elem.{Elem}
use Rattle.kb_logic.specs.declared.syntax.AggKind.{AggKind}
use Rattle.kb_logic.specs.declared.syntax.AggKind.TheVariants as kind
use Rattle.kb_logic.specs.Denotations.{Denotation, number, added}
use Rattle.kb_logic.proofs.Has.{Has}
use Rattle.lit_core.specs.declared.literals.Lit.{Lit}
use Rattle.lit_core.specs.Literals.{literal_value}
use Rattle.ground_core.specs.Problems.{ProblemState, IsLitOf, AreLitsOf}
use Rattle.ground_core.specs.Meaning.{Satisfies}
use Rattle.ground_core.specs.More.{DefinesMore}
use Rattle.ground_core.proofs.Mores.{more-trans}
use Rattle.term_values.specs.Rows.{selected_values}
use Rattle.def_ground.specs.declared.answers.Answer.{Answer}
use Rattle.def_ground.specs.Answers.{GroundResult}
use Rattle.def_ground.specs.Linear.{Linear, with_problem, row_step, rows_of_kind, instance_step}
use Rattle.def_ground.specs.LinearValues.{IsLinear, Comes, joined_value, joined_values, IsRightAfter}
use Rattle.def_ground.proofs.Growing.{lits-more}
use Rattle.def_ground.proofs.LinearSteps.{Steps, Says, row_value, steps-is, steps-on, comes-on, no-step, later-steps}
use Rattle.def_ground.proofs.LinearSteps.{says-later, row-steps}

-- ---- the rows of a weight

both-rows : (k : AggKind) (z : ℤ) (t g : Bool) (x d : Denotation) (ds : List Denotation)
    → (let y = (if t && g then row_value k z x d else x) in if t then fold (row_value k z) y ds else y)
    ≡ (if t then fold (row_value k z) x (if g then d ∷ ds else ds) else x)
both-rows k z true true x d ds = refl
both-rows k z true false x d ds = refl
both-rows k z false g x d ds = refl

same-if : (t : Bool) (x : Denotation) → x ≡ (if t then x else x)
same-if true x = refl
same-if false x = refl

rows-steps : (k : AggKind) (z : ℤ) (a : Answer) (T : (ℕ → Bool) → Bool) (n : ℕ) (rs : List (List Lit × Denotation))
    → AllByRecursion (λ r. AreLitsOf n r.0) rs → (st : Linear) → n ≤ st.problem.vars → IsLinear k st → Says st a T
    → Steps k st (fold (row_step k z a) st rs)
    (λ v x. if T v then fold (row_value k z) x (selected_values v rs) else x)
rows-steps k z a T n [] wg st le h says =
    steps-is k st st (λ v x. x) (λ v x. if T v then x else x) (λ v s x. same-if (T v) x) (no-step k st h)
rows-steps k z a T n (r ∷ rs) wg st le h says =
    let f : (ℕ → Bool) → Denotation → Denotation =
    λ v x. if T v && list_all (literal_value v) r.0 then row_value k z x r.1 else x in
    let rest : (ℕ → Bool) → Denotation → Denotation =
    λ v x. if T v then fold (row_value k z) x (selected_values v rs) else x in
    let next = row_step k z a st r in
    let last = fold (row_step k z a) next rs in
    let one : Steps k st next f = row-steps z a T st says r.0 (lits-more n st.problem.vars le r.0 wg.0) k r.1 h in
    let grown = one.more.grows in
    let more : Steps k next last rest = rows-steps k z a T n rs wg.1 next (omega (arith, le, grown)) one.linear
    (says-later k st next f a T one says) in
    steps-is k st last (λ v x. rest v (f v x))
    (λ v x. if T v then fold (row_value k z) x (selected_values v (r ∷ rs)) else x)
    (λ v s x. both-rows k z (T v) (list_all (literal_value v) r.0) x r.1 (selected_values v rs))
    (steps-on k st next last f rest one more)

-- ---- one instance

-- the rows are over the problem's literals, and exactly one has true guards: that of this number
pub record WeighsOne (p : ProblemState) (rs : List (List Lit × Denotation)) (W : (ℕ → Bool) → ℤ) : Type 0 where
  pub within : AllByRecursion (λ r. AreLitsOf p.vars r.0) rs
  pub one : (v : ℕ → Bool) → Satisfies p v → selected_values v rs ≡ number (W v) ∷ []

-- a count has no weights
abbrev pub HasWeight : AggKind → ProblemState → List (List Lit × Denotation) → ((ℕ → Bool) → ℤ) → Type 0
HasWeight kind.Count p rs W = Unit {0}
HasWeight kind.Sum p rs W = WeighsOne p rs W
HasWeight kind.Min p rs W = WeighsOne p rs W
HasWeight kind.Max p rs W = WeighsOne p rs W

-- the instance is right, whatever came before, and has this weight
pub record IsInstance (k : AggKind) (p : ProblemState) (F : List Elem → ProblemState → GroundResult)
    (R : List Elem → List (List Lit × Denotation)) (T : (ℕ → Bool) → List Elem → Bool)
    (W : (ℕ → Bool) → List Elem → ℤ) (a : List Elem) : Type 0 where
  pub right : IsRightAfter p (F a) (λ v. T v a)
  pub weight : HasWeight k p (R a) (λ v. W v a)

once : (z : ℤ) (x : Denotation) (w : ℤ) → added x (number (z *ℤ pos 1)) ≡ joined_value kind.Count z x w
once z x w = let e : z *ℤ pos 1 ≡ z = omega (arith, ints) in ap (λ y. added x (number y)) e

-- what the rows of the kind add
selected-weight : (k : AggKind) (z : ℤ) (p : ProblemState) (rs : List (List Lit × Denotation)) (W : (ℕ → Bool) → ℤ)
    → HasWeight k p rs W → (v : ℕ → Bool) → Satisfies p v → (x : Denotation)
    → fold (row_value k z) x (selected_values v (rows_of_kind k rs)) ≡ joined_value k z x (W v)
selected-weight kind.Count z p rs W h v s x = once z x (W v)
selected-weight kind.Sum z p rs W h v s x = ap (fold (row_value kind.Sum z) x) (h.one v s)
selected-weight kind.Min z p rs W h v s x = ap (fold (row_value kind.Min z) x) (h.one v s)
selected-weight kind.Max z p rs W h v s x = ap (fold (row_value kind.Max z) x) (h.one v s)

rows-within : (k : AggKind) (p : ProblemState) (rs : List (List Lit × Denotation)) (W : (ℕ → Bool) → ℤ)
    → HasWeight k p rs W → AllByRecursion (λ r. AreLitsOf p.vars r.0) (rows_of_kind k rs)
rows-within kind.Count p rs W h = (All-nil (IsLitOf p.vars), tt)
rows-within kind.Sum p rs W h = h.within
rows-within kind.Min p rs W h = h.within
rows-within kind.Max p rs W h = h.within

module _ (k : AggKind) (z : ℤ) (p : ProblemState) (F : List Elem → ProblemState → GroundResult)
    (R : List Elem → List (List Lit × Denotation)) (T : (ℕ → Bool) → List Elem → Bool)
    (W : (ℕ → Bool) → List Elem → ℤ) where
  -- with one instance more where it is true
  abbrev joined_if : (ℕ → Bool) → List Elem → Denotation → Denotation
  joined_if v a x = if T v a then joined_value k z x (W v a) else x

  pub instance-steps : (a : List Elem) → IsInstance k p F R T W a → (st : Linear) → IsLinear k st
      → DefinesMore p st.problem → Steps k st (instance_step k z F R st a) (λ v x. joined_if v a x)
  instance-steps a fits st h more =
      let g = F a st.problem in
      let m = fits.right st.problem h.fine more in
      let mid = with_problem g.problem st in
      let rs = rows_of_kind k (R a) in
      let last = fold (row_step k z g.answer) mid rs in
      let t : (ℕ → Bool) → Bool = λ v. T v a in
      let f : (ℕ → Bool) → Denotation → Denotation = λ v x. x in
      let rows : (ℕ → Bool) → Denotation → Denotation =
      λ v x. if T v a then fold (row_value k z) x (selected_values v rs) else x in
      let one : Steps k st mid f = later-steps k st g.problem h m.fine m.more in
      let le : p.vars ≤ g.problem.vars = (more-trans p st.problem g.problem more m.more).grows in
      let two : Steps k mid last rows = rows-steps k z g.answer t p.vars rs
      (rows-within k p (R a) (λ v. W v a) fits.weight)
      mid le one.linear (record { within = m.within; right = m.right }) in
      let both : Steps k st last rows = steps-on k st mid last f rows one two in
      steps-is k st last rows (λ v x. joined_if v a x)
      (λ v s x. ap (λ y. if T v a then y else x) (selected-weight k z p (R a) (λ u. W u a) fits.weight v
      (more.restricts v (both.more.restricts v s)) x)) both

  joined-more : (v : ℕ → Bool) (a : List Elem) (as' : List (List Elem)) (t : Bool) (x : Denotation)
      → joined_values k z (T v) (W v) (if t then joined_value k z x (W v a) else x) as'
      ≡ fold (joined_value k z) x (map (W v) (if t then a ∷ filter (T v) as' else filter (T v) as'))
  joined-more v a as' true x = refl
  joined-more v a as' false x = refl

  comes-is : (st : Linear) (V U : (ℕ → Bool) → Denotation) → ((v : ℕ → Bool) → V v ≡ U v) → Comes k p st V
      → Comes k p st U
  comes-is st V U e h = record { linear = h.linear; more = h.more; right = λ v s. h.right v s ∙ e v }

  -- all of them, one after another
  pub instances-come : (as' : List (List Elem)) → ((a : List Elem) → Has as' a → IsInstance k p F R T W a)
      → (st : Linear) (V : (ℕ → Bool) → Denotation) → Comes k p st V
      → Comes k p (fold (instance_step k z F R) st as') (λ v. joined_values k z (T v) (W v) (V v) as')
  instances-come [] fits st V h = h
  instances-come (a ∷ as') fits st V h =
      let next = instance_step k z F R st a in
      let one = comes-on k p st next V (λ v x. joined_if v a x) h
      (instance-steps a (fits a (inl refl)) st h.linear h.more) in
      comes-is (fold (instance_step k z F R) next as')
      (λ v. joined_values k z (T v) (W v) (joined_if v a (V v)) as')
      (λ v. joined_values k z (T v) (W v) (V v) (a ∷ as'))
      (λ v. joined-more v a as' (T v a) (V v))
      (instances-come as' (λ c has. fits c (inr has)) next (λ v. joined_if v a (V v)) one)
