-- Sentences one by one, and functions with one value each.
use Rattle.std.proofs.Common.{◌≡◌, ℕ, ◌+◌, Bool, true, false, not, ◌||◌, List, [], ◌∷◌, fold, if◌then◌else◌}
use Rattle.std.proofs.Common.{Option, Some, None, refl, sym, ap, ◌∙◌}
use Rattle.std.specs.List.{list_all, list_any}
use Rattle.std.proofs.lemmas.List.Elements.{All-nil}
use Rattle.kb_logic.specs.declared.elements.Elem.{Elem}
use Rattle.kb_logic.specs.Meaning.{truth_of}
use Rattle.lit_core.specs.declared.literals.Lit.{Lit}
use Rattle.lit_core.specs.Literals.{literal_value}
use Rattle.ground_core.specs.Problems.{IsLitOf}
use Rattle.term_values.specs.GroundBases.{GroundBase, structure_of, true_values, HasKnown, known_of}
use Rattle.def_ground.specs.Sentences.{assert_of}
use Rattle.def_ground.specs.Problems.{are_many, with_open, open_variables}
use Rattle.def_ground.specs.Laws.{SentencesAreAsserted, OneEachByClauses}
use Rattle.def_ground.proofs.AssertSteps.{says-two, says-nothing}
use Rattle.def_ground.proofs.AssertLaws.{says-right, truth-local, room-grown}
use Rattle.def_ground.proofs.ExactlyOne.{one-true, says-one, one-says}

pub sentences-said : SentencesAreAsserted
sentences-said b [] p fine at room h = says-nothing p (λ v. true) fine (λ v. refl)
sentences-said b (f ∷ fs) p fine at room h =
    let q = assert_of b true f [] [] p in
    let one = says-right b true f [] [] p h.0 fine at room (All-nil (IsLitOf p.vars)) in
    let two = sentences-said b fs q one.fine (λ v s. at v (one.gives v s).0) (room-grown b p q one.grows room) h.1 in
    says-two p q (fold (λ r f. assert_of b true f [] [] r) q fs) (λ v. truth_of (structure_of b v) f [])
    (λ v. list_all (λ f. truth_of (structure_of b v) f []) fs)
    (truth-local b p room (λ m. list_all (λ f. truth_of m f []) fs)) one two

abbrev some-value : List Elem → Bool
some-value [] = false
some-value (x ∷ xs) = true

abbrev one-value : List Elem → Bool
one-value [] = false
one-value (x ∷ []) = true
one-value (x ∷ y ∷ xs) = false

some-step : (c a : Bool) (x : Elem) (ys : List Elem) → a ≡ some-value ys
    → (c || a) ≡ some-value (if c then x ∷ ys else ys)
some-step true a x ys e = refl
some-step false a x ys e = e

-- a value whose variable is known to be false is not chosen
denied : (c : Bool) (x : Elem) (ys : List Elem) → c ≡ false → ys ≡ (if c then x ∷ ys else ys)
denied true x ys h = cc
denied false x ys h = refl

some-open : (v : ℕ → Bool) (o : Option Bool) (n : ℕ) (ls : List Lit) (x : Elem) (ys : List Elem)
    → ((c : Bool) → o ≡ Some c → v n ≡ c) → list_any (literal_value v) ls ≡ some-value ys
    → list_any (literal_value v) (with_open o n ls) ≡ some-value (if v n then x ∷ ys else ys)
some-open v None n ls x ys known e = some-step (v n) (list_any (literal_value v) ls) x ys e
some-open v (Some true) n ls x ys known e = some-step (v n) (list_any (literal_value v) ls) x ys e
some-open v (Some false) n ls x ys known e = e ∙ ap some-value (denied (v n) x ys (known false refl))

some-chosen : (b : GroundBase) (v : ℕ → Bool) (n : ℕ) (xs : List Elem) → HasKnown b v
    → list_any (literal_value v) (open_variables b n xs) ≡ some-value (true_values v n xs)
some-chosen b v n [] known = refl
some-chosen b v n (x ∷ xs) known =
    some-open v (known_of b n) n (open_variables b (n + 1) xs) x (true_values v (n + 1) xs) (known n)
    (some-chosen b v (n + 1) xs known)

first-one : (x : Elem) (ys : List Elem) → not (some-value ys) ≡ one-value (x ∷ ys)
first-one x [] = refl
first-one x (y ∷ ys) = refl

chosen-step : (c a o : Bool) (x : Elem) (ys : List Elem) → a ≡ some-value ys → o ≡ one-value ys
    → (if c then not a else o) ≡ one-value (if c then x ∷ ys else ys)
chosen-step true a o x ys e f = ap not e ∙ first-one x ys
chosen-step false a o x ys e f = f

one-open : (v : ℕ → Bool) (o : Option Bool) (n : ℕ) (ls : List Lit) (x : Elem) (ys : List Elem)
    → ((c : Bool) → o ≡ Some c → v n ≡ c) → list_any (literal_value v) ls ≡ some-value ys
    → one-true v ls ≡ one-value ys → one-true v (with_open o n ls) ≡ one-value (if v n then x ∷ ys else ys)
one-open v None n ls x ys known e f = chosen-step (v n) (list_any (literal_value v) ls) (one-true v ls) x ys e f
one-open v (Some true) n ls x ys known e f =
    chosen-step (v n) (list_any (literal_value v) ls) (one-true v ls) x ys e f
one-open v (Some false) n ls x ys known e f = f ∙ ap one-value (denied (v n) x ys (known false refl))

one-chosen : (b : GroundBase) (v : ℕ → Bool) (n : ℕ) (xs : List Elem) → HasKnown b v
    → one-true v (open_variables b n xs) ≡ one-value (true_values v n xs)
one-chosen b v n [] known = refl
one-chosen b v n (x ∷ xs) known =
    one-open v (known_of b n) n (open_variables b (n + 1) xs) x (true_values v (n + 1) xs) (known n)
    (some-chosen b v (n + 1) xs known) (one-chosen b v (n + 1) xs known)

is-one : (ys : List Elem) → one-value ys ≡ true → (x : Elem) × (ys ≡ x ∷ [])
is-one [] h = cc
is-one (x ∷ []) h = (x, refl)
is-one (x ∷ y ∷ ys) h = cc

pub one-each : OneEachByClauses
one-each b v m n xs known = (
  λ h. is-one (true_values v n xs)
      (sym (one-chosen b v n xs known) ∙ says-one v (are_many m (open_variables b n xs)) (open_variables b n xs)
      h.clauses h.sums),
  λ x e.
      let said = one-says v (are_many m (open_variables b n xs)) (open_variables b n xs)
      (one-chosen b v n xs known ∙ ap one-value e) in
      record { clauses = said.0; sums = said.1 },
)
