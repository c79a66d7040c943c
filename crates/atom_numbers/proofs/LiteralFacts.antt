-- Literals of ground atoms, and of their variables, one by one and one after another.
use Rattle.std.proofs.Common.{◌≡◌, ℕ, suc, ◌+◌, ◌<◌, Bool, true, false, not, List, [], ◌∷◌, ◌++◌, length, get_or, take}
use Rattle.std.proofs.Common.{refl, sym, ap, ◌∙◌, subst, arith, inl, inr}
use Rattle.std.specs.List.{AllByRecursion}
use Rattle.std.proofs.lemmas.Bool.{cases_Bool, both_ways}
use Rattle.std.proofs.lemmas.Option.{slice_get_within}
use Rattle.std.proofs.lemmas.List.{take_more}
use Rattle.std.proofs.lemmas.List.Elements.{All-nil, All-cons, All-head, All-tail}
use Rattle.kb_logic.specs.declared.structures.Literal.{Literal}
use Rattle.kb_logic.specs.KnownAtoms.{atoms_over}
use Rattle.kb_logic.specs.Models.{HoldsIn, HoldsWithSign, AtomHolds, atom_of}
use Rattle.kb_logic.specs.Structures.{EachWith}
use Rattle.kb_logic.proofs.DistinctAtoms.{atoms_distinct}
use Rattle.lit_core.specs.declared.literals.Lit.{Lit}
use Rattle.lit_core.specs.Literals.{literal_value, by_sign}
use Rattle.ground_core.specs.Problems.{IsLitOf, AreLitsOf}
use Rattle.ground_core.specs.Meaning.{MakesTrue}
use Rattle.term_values.specs.GroundBases.{GroundBase, structure_of}
use Rattle.term_values.specs.KnownBases.{IsGroundBase}
use Rattle.term_values.proofs.StructureAtoms.{atom-true}
use Rattle.term_values.proofs.Chosen.{index-of}
use Rattle.atom_numbers.specs.Numbers.{HasNumber}
use Rattle.atom_numbers.specs.Laws.{LiteralsHoldByTheirVariables}

pub each-push : {A B : Type 0} (R : A → B → Type 0) (xs : List A) (ys : List B) (x : A) (y : B) → EachWith R xs ys
    → R x y → EachWith R (xs ++ x ∷ []) (ys ++ y ∷ [])
each-push R [] [] x y h r = (r, tt)
each-push R [] (z ∷ ys) x y h r = absurd h
each-push R (w ∷ xs) [] x y h r = absurd h
each-push R (w ∷ xs) (z ∷ ys) x y h r = (h.0, each-push R xs ys x y h.1 r)

pub each-length : {A B : Type 0} (R : A → B → Type 0) (xs : List A) (ys : List B) → EachWith R xs ys
    → length xs ≡ length ys
each-length R [] [] h = refl
each-length R [] (z ∷ ys) h = absurd h
each-length R (w ∷ xs) [] h = absurd h
each-length R (w ∷ xs) (z ∷ ys) h = ap suc (each-length R xs ys h.1)

pub each-next : {A B : Type 0} (R : A → B → Type 0) (xs : List A) (ys : List B) (i : ℕ) (x : A) (y : B) → i < length xs
    → x ≡ get_or xs i x → R x y → EachWith R (take i xs) ys → EachWith R (take (i + 1) xs) (ys ++ y ∷ [])
each-next {A = A} R xs ys i x y lt is r h =
    subst (λ (zs : List A). EachWith R zs (ys ++ y ∷ []))
    (sym (take_more xs i x lt ∙ ap (λ (z : A). take i xs ++ z ∷ []) (sym is)))
    (each-push R (take i xs) ys x y h r)

-- a literal is true in the structure exactly where its variable's literal is
module _ (b : GroundBase) (is : IsGroundBase b) (v : ℕ → Bool) (l : Literal) (lit : Lit) (n : HasNumber b l lit) where
  iff : (AtomHolds (structure_of b v) (atom_of l) → v (suc n.place) ≡ true)
      × (v (suc n.place) ≡ true → AtomHolds (structure_of b v) (atom_of l))
  iff = atom-true b is v n.place (atom_of l) n.atom

  value-is : literal_value v lit ≡ by_sign l.positive (v (suc n.place))
  value-is = ap (λ s. by_sign s (v lit.var.0)) n.sign ∙ ap (λ k. by_sign l.positive (v k)) n.var

  pub holds-true : HoldsIn (structure_of b v) l → literal_value v lit ≡ true
  holds-true h = value-is ∙ at l.positive h
    where
      at : (s : Bool) → HoldsWithSign s (AtomHolds (structure_of b v) (atom_of l)) → by_sign s (v (suc n.place)) ≡ true
      at true holds = iff.0 holds
      at false fails = elim (cases_Bool (v (suc n.place))) [
        | inl e ↦ absurd (fails (iff.1 e))
        | inr e ↦ ap not e
      ]

  pub true-holds : literal_value v lit ≡ true → HoldsIn (structure_of b v) l
  true-holds h = at l.positive (sym value-is ∙ h)
    where
      at : (s : Bool) → by_sign s (v (suc n.place)) ≡ true → HoldsWithSign s (AtomHolds (structure_of b v) (atom_of l))
      at true e = iff.1 e
      at false e = λ holds. both_ways false refl (sym (ap not (iff.0 holds)) ∙ e)

-- the literals are of ground atoms
pub of-atoms : (b : GroundBase) (n : ℕ) → n ≡ length (atoms_over b.vocabulary.symbols b.domains)
    → (choices : List Literal) (lits : List Lit) → EachWith (HasNumber b) choices lits → AreLitsOf n lits
of-atoms b n size [] [] h = All-nil (IsLitOf n)
of-atoms b n size [] (l ∷ lits) h = absurd h
of-atoms b n size (c ∷ choices) [] h = absurd h
of-atoms b n size (c ∷ choices) (l ∷ lits) h =
    let within = slice_get_within (atoms_over b.vocabulary.symbols b.domains) h.0.place (atom_of c) h.0.atom in
    let var : l.var.0 ≡ suc h.0.place = h.0.var in
    All-cons (IsLitOf n) l lits (omega (arith, var), omega (arith, var, within, size))
    (of-atoms b n size choices lits h.1)

-- what the solver's values make true is chosen
pub all-chosen : (b : GroundBase) → IsGroundBase b → (v : ℕ → Bool) (choices : List Literal) (lits : List Lit)
    → EachWith (HasNumber b) choices lits → MakesTrue v lits → AllByRecursion (HoldsIn (structure_of b v)) choices
all-chosen b is v [] [] h t = tt
all-chosen b is v [] (l ∷ lits) h t = absurd h
all-chosen b is v (c ∷ choices) [] h t = absurd h
all-chosen b is v (c ∷ choices) (l ∷ lits) h t = (
  true-holds b is v c l h.0 (All-head (λ k. literal_value v k ≡ true) l lits t),
  all-chosen b is v choices lits h.1 (All-tail (λ k. literal_value v k ≡ true) l lits t),
)

-- and what is chosen is true under them
pub all-true : (b : GroundBase) → IsGroundBase b → (v : ℕ → Bool) (choices : List Literal) (lits : List Lit)
    → EachWith (HasNumber b) choices lits → AllByRecursion (HoldsIn (structure_of b v)) choices → MakesTrue v lits
all-true b is v [] [] h t = All-nil (λ k. literal_value v k ≡ true)
all-true b is v [] (l ∷ lits) h t = absurd h
all-true b is v (c ∷ choices) [] h t = absurd h
all-true b is v (c ∷ choices) (l ∷ lits) h t = All-cons (λ k. literal_value v k ≡ true) l lits
    (holds-true b is v c l h.0 t.0) (all-true b is v choices lits h.1 t.1)

-- a literal has one number
pub one-number : (b : GroundBase) → IsGroundBase b → (l : Literal) (j k : Lit) → HasNumber b l j → HasNumber b l k
    → j ≡ k
one-number b is l j k x y =
    let place : x.place ≡ y.place = index-of (atoms_over b.vocabulary.symbols b.domains) x.place y.place (atom_of l)
    (atoms_distinct b.vocabulary.symbols b.domains is.distinct) x.atom y.atom in
    ap (λ (n : ℕ). record { var = record { 0 = n }; positive = j.positive })
    (x.var ∙ ap suc place ∙ sym y.var)
    ∙ ap (λ (s : Bool). record { var = k.var; positive = s }) (x.sign ∙ sym y.sign)

pub one-list : (b : GroundBase) → IsGroundBase b → (choices : List Literal) (ls ms : List Lit)
    → EachWith (HasNumber b) choices ls → EachWith (HasNumber b) choices ms → ls ≡ ms
one-list b is [] [] [] x y = refl
one-list b is [] [] (m ∷ ms) x y = absurd y
one-list b is [] (l ∷ ls) ms x y = absurd x
one-list b is (c ∷ cs) [] ms x y = absurd x
one-list b is (c ∷ cs) (l ∷ ls) [] x y = absurd y
one-list b is (c ∷ cs) (l ∷ ls) (m ∷ ms) x y =
    ap (λ (k : Lit). k ∷ ls) (one-number b is c l m x.0 y.0)
    ∙ ap (λ (ks : List Lit). m ∷ ks) (one-list b is cs ls ms x.1 y.1)

pub literals-hold : LiteralsHoldByTheirVariables
literals-hold b v l lit is n = (holds-true b is v l lit n, true-holds b is v l lit n)
