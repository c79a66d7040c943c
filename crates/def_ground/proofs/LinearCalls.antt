-- What the calls that put parts do to the list of parts.
use Rattle.std.proofs.Common.{◌≡◌, ℕ, zero, suc, ◌+◌, ◌-◌, ◌<◌, ◌≤◌, nat_lt, nat_eq, ℤ, pos, Bool, true, false, List}
use Rattle.std.proofs.Common.{[], ◌∷◌}
use Rattle.std.proofs.Common.{◌++◌, length, take, drop, fold, slice_get, slice_set, IfSome, Some, None}
use Rattle.std.proofs.Common.{if◌then◌else◌, refl, sym, ap, ◌∙◌, subst, arith}
use Rattle.std.proofs.Math.IntN.{+ℤ_idr}
use Rattle.std.specs.Option.{option_map}
use Rattle.std.specs.List.{AllByRecursion, insert}
use Rattle.std.proofs.lemmas.Bool.Decides.{nat_tests}
use Rattle.ground_core.specs.declared.parts.Part.{Part}
use Rattle.ground_core.specs.Problems.{ProblemState, AreLitsOf, ArePartsOf}
use Rattle.lit_core.specs.declared.literals.Lit.{Lit}
use Rattle.def_ground.specs.declared.answers.Answer.{Answer}
use Rattle.def_ground.specs.declared.answers.Answer.TheVariants.{Constant, Literal}
use Rattle.def_ground.specs.Answers.{Makes, Grows}
use Rattle.def_ground.specs.Linear.{Shifted, merged, behind_part, inserted, comes_last, part_of, Linear, weighed}
use Rattle.def_ground.specs.Linear.{weighed_under}
use Rattle.def_ground.specs.LinearViews.{own_part, answer_under, LinearGrows}
use Rattle.def_ground.proofs.LinearParts.{put-within}
use Rattle.def_ground.proofs.LinearSteps.{parts-later}

-- the last part decides whether all parts come before a variable
pub last_decides : (n : ℕ) (ps : List Part) (p : Part) → slice_get ps (length ps - 1) ≡ Some p
    → nat_lt p.lit.var.0 n ≡ comes_last n ps
last_decides n [] p h = absurd cc
last_decides n (q ∷ []) p h = let is : q ≡ p = cc in ap (λ (x : Part). nat_lt x.lit.var.0 n) (sym is)
last_decides n (q ∷ r ∷ ps) p h =
    let e : length (q ∷ r ∷ ps) - 1 ≡ suc (length (r ∷ ps) - 1) = omega arith in
    last_decides n (r ∷ ps) p (subst (λ k. slice_get (q ∷ r ∷ ps) k ≡ Some p) e h)

-- which case of `inserted` it is
abbrev insert_by : Bool → Bool → Part → Part → List Part → Shifted
insert_by s t q p ps =
    if s then record { base = pos 0; parts = q ∷ p ∷ ps } else if t then
    (let m = merged q p in record { base = m.base; parts = m.parts ++ ps }) else behind_part p (inserted q ps)

insert-case : (q p : Part) (ps : List Part) (s t : Bool) → nat_lt q.lit.var.0 p.lit.var.0 ≡ s
    → nat_eq q.lit.var.0 p.lit.var.0 ≡ t → inserted q (p ∷ ps) ≡ insert_by s t q p ps
insert-case q p ps s t e f =
    ap (λ x. insert_by x (nat_eq q.lit.var.0 p.lit.var.0) q p ps) e ∙ ap (λ y. insert_by s y q p ps) f

not-before : (m n : ℕ) → m < n → nat_lt n m ≡ false
not-before m n h = grind (arith, nat_tests)

not-same : (m n : ℕ) → m < n → nat_eq n m ≡ false
not-same m n h = grind (arith, nat_tests)

is-before : (m n : ℕ) → n ≤ m → nat_eq m n ≡ false → nat_lt n m ≡ true
is-before m n h e = grind (arith, nat_tests)

is-same : (m n : ℕ) → nat_eq m n ≡ true → nat_eq n m ≡ true
is-same m n e = grind (arith, nat_tests)

not-less : (m n : ℕ) → nat_eq m n ≡ true → nat_lt n m ≡ false
not-less m n e = grind (arith, nat_tests)

own-is : (p r : Part) (n : ℕ) → own_part (Some p) n ≡ Some r → (p ≡ r) × (nat_eq p.lit.var.0 n ≡ true)
own-is p r n h = by (nat_eq p.lit.var.0 n) h
  where
    by : (t : Bool) → (if t then Some p else None) ≡ Some r → (p ≡ r) × (t ≡ true)
    by true e = (cc, refl)
    by false e = absurd cc

own-none : (p : Part) (n : ℕ) → own_part (Some p) n ≡ None → nat_eq p.lit.var.0 n ≡ false
own-none p n h = by (nat_eq p.lit.var.0 n) h
  where
    by : (t : Bool) → (if t then Some p else None) ≡ None → t ≡ false
    by true e = absurd cc
    by false e = refl

-- with the part at the place, where this is of the same variable
pub merged-there : (q : Part) (ps : List Part) (k : ℕ) (r one : Part)
    → AllByRecursion (λ (p : Part). p.lit.var.0 < q.lit.var.0) (take k ps)
    → own_part (slice_get ps k) q.lit.var.0 ≡ Some r → (merged q r).parts ≡ one ∷ []
    → inserted q ps ≡ record { base = (merged q r).base; parts = slice_set ps k one }
merged-there q [] k r one before own made = absurd cc
merged-there q (p ∷ ps) zero r one before own made =
    let e = own-is p r q.lit.var.0 own in
    insert-case q p ps false true (not-less p.lit.var.0 q.lit.var.0 e.1) (is-same p.lit.var.0 q.lit.var.0 e.1)
    ∙ ap (λ x. insert_by false true q x ps) e.0
    ∙ ap (λ xs. record { base = (merged q r).base; parts = xs ++ ps }) made
merged-there q (p ∷ ps) (suc k) r one before own made =
    insert-case q p ps false false (not-before p.lit.var.0 q.lit.var.0 before.0)
    (not-same p.lit.var.0 q.lit.var.0 before.0)
    ∙ ap (behind_part p) (merged-there q ps k r one before.1 own made)

-- before the part at the place, or behind all parts
pub inserted-there : (q : Part) (ps : List Part) (k : ℕ) → k ≤ length ps
    → AllByRecursion (λ (p : Part). p.lit.var.0 < q.lit.var.0) (take k ps)
    → IfSome (slice_get ps k) (λ p. q.lit.var.0 ≤ p.lit.var.0) → own_part (slice_get ps k) q.lit.var.0 ≡ None
    → inserted q ps ≡ record { base = pos 0; parts = insert ps k q }
inserted-there q [] zero le before here own = refl
inserted-there q [] (suc k) le before here own = absurd (omega (arith, le))
inserted-there q (p ∷ ps) zero le before here own =
    insert-case q p ps true (nat_eq q.lit.var.0 p.lit.var.0)
    (is-before p.lit.var.0 q.lit.var.0 here (own-none p q.lit.var.0 own)) refl
inserted-there q (p ∷ ps) (suc k) le before here own =
    insert-case q p ps false false (not-before p.lit.var.0 q.lit.var.0 before.0)
    (not-same p.lit.var.0 q.lit.var.0 before.0)
    ∙ ap (behind_part p) (inserted-there q ps k (omega (arith, le)) before.1 here own)

-- ---- weights

-- a weight under an answer and guards, by one answer for both
weighed-by : (w : ℤ) (a : Answer) (guards : List Lit) (st : Linear)
    → weighed w (answer_under a guards st.problem) st ≡ weighed_under w a guards st
weighed-by w (Constant true) guards st = refl
weighed-by w (Constant false) guards st =
    ap (λ z. record { base = z; parts = st.parts; problem = st.problem }) (+ℤ_idr st.base)
weighed-by w (Literal l) guards st = refl

pub weighed-made : (w : ℤ) (a b : Answer) (guards : List Lit) (st next : Linear) (q : ProblemState)
    → Makes (answer_under a guards st.problem) b q → next ≡ weighed w (record { answer = b; problem = q }) st
    → next ≡ weighed_under w a guards st
weighed-made w a b guards st next q made is =
    is ∙ ap (λ x. weighed w (record { answer = x; problem = q }) st) made.0
    ∙ ap (λ x. weighed w (record { answer = (answer_under a guards st.problem).answer; problem = x }) st) made.1
    ∙ weighed-by w a guards st

-- the parts stay over the problem's variables
pub weighed-within : (w : ℤ) (b : Answer) (p q : ProblemState) (st next : Linear) → Grows p q b
    → ArePartsOf p.vars st.parts → next ≡ weighed w (record { answer = b; problem = q }) st
    → LinearGrows p q next.parts
weighed-within w (Constant c) p q st next grows within is = record {
  vars = grows.vars;
  within = subst (λ (x : Linear). ArePartsOf q.vars x.parts) (sym is)
      (parts-later p.vars q.vars grows.vars st.parts within);
}
weighed-within w (Literal l) p q st next grows within is = record {
  vars = grows.vars;
  within = subst (λ (x : Linear). ArePartsOf q.vars x.parts) (sym is)
      (put-within q.vars (part_of w l) st.parts grows.within
      (parts-later p.vars q.vars grows.vars st.parts within));
}

-- ---- rows

-- the row that is next of those that are left
pub row-left : {X : Type 0} (rs : List (List Lit × X)) (k : ℕ) (g : List Lit) (x : X)
    → option_map (λ r. r.0) (slice_get rs k) ≡ Some g → option_map (λ r. r.1) (slice_get rs k) ≡ Some x
    → drop k rs ≡ (g, x) ∷ drop (k + 1) rs
row-left [] k g x hg hx = cc
row-left (r ∷ rs) zero g x hg hx =
    let guards : r.0 ≡ g = cc in
    let value : r.1 ≡ x = cc in
    ap (λ l. (l, r.1) ∷ rs) guards ∙ ap (λ y. (g, y) ∷ rs) value
row-left (r ∷ rs) (suc k) g x hg hx =
    let next : suc (k + 1) ≡ suc k + 1 = omega arith in
    row-left rs k g x hg hx ∙ ap (λ n. (g, x) ∷ drop n (r ∷ rs)) next

-- the guards of a row are over the first variables, as those of all rows are
pub guards-at : {X : Type 0} (n : ℕ) (rs : List (List Lit × X)) (k : ℕ) (g : List Lit)
    → AllByRecursion (λ r. AreLitsOf n r.0) rs → option_map (λ r. r.0) (slice_get rs k) ≡ Some g → AreLitsOf n g
guards-at n [] k g h e = absurd cc
guards-at n (r ∷ rs) zero g h e = let is : r.0 ≡ g = cc in subst (AreLitsOf n) is h.0
guards-at n (r ∷ rs) (suc k) g h e = guards-at n rs k g h.1 e

-- the value of one row more of a fold over the values
pub next-valued : {X Y : Type 0} (f : Y → X → Y) (rs : List (List Lit × X)) (k : ℕ) (x : X) (st next all : Y)
    → option_map (λ r. r.1) (slice_get rs k) ≡ Some x → next ≡ f st x
    → fold (λ y r. f y r.1) st (drop k rs) ≡ all → fold (λ y r. f y r.1) next (drop (k + 1) rs) ≡ all
next-valued f [] k x st next all hx is so = absurd cc
next-valued f (r ∷ rs) zero x st next all hx is so =
    let value : r.1 ≡ x = cc in
    ap (λ y. fold (λ z q. f z q.1) y rs) (is ∙ ap (f st) (sym value)) ∙ so
next-valued f (r ∷ rs) (suc k) x st next all hx is so =
    let more : suc k + 1 ≡ suc (k + 1) = omega arith in
    ap (λ n. fold (λ z q. f z q.1) next (drop n (r ∷ rs))) more ∙ next-valued f rs k x st next all hx is so

-- one row more of a fold
pub next-folded : {X Y : Type 0} (f : Y → List Lit × X → Y) (rs : List (List Lit × X)) (k : ℕ) (g : List Lit) (x : X)
    (st next all : Y) → option_map (λ r. r.0) (slice_get rs k) ≡ Some g
    → option_map (λ r. r.1) (slice_get rs k) ≡ Some x → next ≡ f st (g, x) → fold f st (drop k rs) ≡ all
    → fold f next (drop (k + 1) rs) ≡ all
next-folded f rs k g x st next all hg hx is so =
    ap (λ y. fold f y (drop (k + 1) rs)) is ∙ ap (fold f st) (sym (row-left rs k g x hg hx)) ∙ so
