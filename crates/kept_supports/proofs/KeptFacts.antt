-- Literals, and those that are kept.
use Rattle.std.proofs.Common.{◌≡◌, ◌↔◌, ℕ, Bool, true, false, not, List, [], ◌∷◌, ◌++◌, All, eqb, IsTrue, cond, filter}
use Rattle.std.proofs.Common.{refl, sym, ◌∙◌, ap, subst, inl, inr, ◌+◌, ◌<◌, length, get_or, take, Result, Ok, Err}
use Rattle.std.proofs.Common.{IfOk}
use Rattle.std.specs.List.{Any}
use Rattle.std.proofs.lemmas.Bool.{and_parts, and_from, eqb-true, eq-eqb, cases_Bool, false≢true, or_cases}
use Rattle.std.proofs.lemmas.List.Elements.{All-nil, All-cons, All-head, All-tail, filter_more}
use Rattle.std.proofs.lemmas.List.{append-nil}
use Rattle.kb_logic.proofs.Members.{some_one, one_is_some}
use Rattle.lit_core.specs.declared.literals.Lit.{Lit}
use Rattle.lit_core.specs.Literals.{negated}
use Rattle.lit_core.proofs.LiteralFacts.{same_literal}
use Rattle.consequences.specs.declared.kept.Kept.{Kept}
use Rattle.kept_supports.specs.Laws.{SameLitIsEquality}
use Rattle.kept_supports.specs.Supports.{same_sign, same_lit, is_kept, is_decided}

signs : (p q : Bool) → same_sign p q ≡ true → p ≡ q
signs true q e = sym e
signs false true e = absurd (false≢true e)
signs false false e = refl

signs-itself : (p : Bool) → same_sign p p ≡ true
signs-itself true = refl
signs-itself false = refl

pub same-is : (a b : Lit) → same_lit a b ≡ true → a ≡ b
same-is a b e =
    let both = and_parts (eqb a.var.0 b.var.0) (same_sign a.positive b.positive) e in
    same_literal a b (eqb-true a.var.0 b.var.0 both.0) (signs a.positive b.positive both.1)

pub same-itself : (a : Lit) → same_lit a a ≡ true
same-itself a =
    and_from (eqb a.var.0 a.var.0) (same_sign a.positive a.positive) (eq-eqb a.var.0 a.var.0 refl)
    (signs-itself a.positive)

pub same_lit_is_equality : SameLitIsEquality
same_lit_is_equality a b = (same-is a b, λ e. subst (λ (l : Lit). same_lit a l ≡ true) e (same-itself a))

abbrev pub Keeps : List Kept → Lit → Type 0
Keeps ks l = Any (λ (k : Kept). k.lit ≡ l) ks

-- the test tells what is kept
pub kept-there : (ks : List Kept) (l : Lit) → is_kept ks l ≡ true → Keeps ks l
kept-there ks l e =
    let r = some_one (λ (k : Kept). same_lit l k.lit) ks e in
    (r.1.0, r.0, r.1.1, r.1.2, sym (same-is l r.0.lit r.2))

pub there-kept : (ks : List Kept) (l : Lit) → Keeps ks l → is_kept ks l ≡ true
there-kept ks l any =
    one_is_some (λ (k : Kept). same_lit l k.lit) ks any.1 (any.0, any.2, any.3)
    (subst (λ (m : Lit). same_lit l m ≡ true) (sym any.4) (same-itself l))

pub tells : (ks : List Kept) (l : Lit) (b : Bool) → IsTrue b ↔ Keeps ks l → b ≡ is_kept ks l
tells ks l true iff = sym (there-kept ks l (iff.0 refl))
tells ks l false iff = elim (cases_Bool (is_kept ks l)) [
  | inl e ↦ absurd (false≢true (iff.1 (kept-there ks l e)))
  | inr e ↦ sym e
]

kept-one : {A : Type 0} (P Q : A → Type 0) (p : A → Bool) (x : A) (xs : List A) → ((x : A) → P x → p x ≡ true → Q x)
    → P x → All Q (filter p xs) → (b : Bool) → p x ≡ b → All Q (cond b (x ∷ filter p xs) (filter p xs))
kept-one P Q p x xs f h rest true e = All-cons Q x (filter p xs) (f x h e) rest
kept-one P Q p x xs f h rest false e = rest

-- what holds of each of a list, and more of those that pass a test
pub all-filter : {A : Type 0} (P Q : A → Type 0) (p : A → Bool) (xs : List A) → ((x : A) → P x → p x ≡ true → Q x)
    → All P xs → All Q (filter p xs)
all-filter P Q p [] f h = All-nil Q
all-filter P Q p (x ∷ xs) f h =
    kept-one P Q p x xs f (All-head P x xs h) (all-filter P Q p xs f (All-tail P x xs h)) (p x) refl

pub if-ok : {A E : Type 0} {P Q : A → Type 0} (r : Result A E) → ((x : A) → P x → Q x) → IfOk r P → IfOk r Q
if-ok (Ok x) f p = f x p
if-ok (Err e) f p = tt

-- one more of a list that is filtered
module _ (p : Lit → Bool) (xs : List Lit) (i : ℕ) (d : Lit) (lt : i < length xs) where
  pub passed : p (get_or xs i d) ≡ true → filter p (take (i + 1) xs) ≡ filter p (take i xs) ++ get_or xs i d ∷ []
  passed e =
      filter_more p xs i d lt ∙ ap (λ (b : Bool). filter p (take i xs) ++ cond b (get_or xs i d ∷ []) []) e

  pub skipped : p (get_or xs i d) ≡ false → filter p (take (i + 1) xs) ≡ filter p (take i xs)
  skipped e =
      filter_more p xs i d lt ∙ ap (λ (b : Bool). filter p (take i xs) ++ cond b (get_or xs i d ∷ []) []) e
      ∙ append-nil (filter p (take i xs))

  pub pushed : (before after : List Lit) → p (get_or xs i d) ≡ true → before ≡ filter p (take i xs)
      → after ≡ before ++ get_or xs i d ∷ [] → after ≡ filter p (take (i + 1) xs)
  pushed before after e is more =
      more ∙ ap (λ (ls : List Lit). ls ++ get_or xs i d ∷ []) is ∙ sym (passed e)
