-- Literals that are true in all models.
use Rattle.std.specs.Prelude.{◌≡◌, ℕ, ◌<◌, ◌≤◌, Bool, true, false, Option, Some, None, List, [], ◌∷◌, ◌++◌, All, Any}
use Rattle.std.specs.Prelude.{Contains, length, map, ◌⊎◌}
use Rattle.lit_core.specs.declared.literals.Lit.{Lit}
use Rattle.lit_core.specs.Literals.{valuation, literal_value, negated}
use Rattle.ground_core.specs.Problems.{ProblemState}
use Rattle.ground_core.specs.Meaning.{Satisfies, MakesTrue, RefutesAll}
use Rattle.ground_core.specs.More.{Agree}
use Rattle.ground_core.specs.Solving.{IsSublist, HasCoreWithin}
use Rattle.model_search.specs.Models.{IsLeft}
use Rattle.consequences.specs.declared.kept.Kept.{Kept}
use Rattle.consequences.specs.declared.kept.Tested.{Tested}
use Rattle.consequences.specs.declared.kept.Tested.TheVariants.{Forced, Free}

-- the literals force the literal
abbrev pub Forces : ProblemState → List Lit → Lit → Type 0
Forces p ls l = (v : ℕ → Bool) → Satisfies p v → MakesTrue v ls → literal_value v l ≡ true

-- some of what was assumed forces it, which a kept core shows where it is not the literal itself
pub record IsForced (p : ProblemState) (assumed : List Lit) (cores : List (List Lit)) (k : Kept) : Type 0 where
  pub among : IsSublist k.support assumed
  pub forces : Forces p k.support k.lit
  pub shown : HasCoreWithin cores (k.support ++ negated k.lit ∷ []) ⊎ (k.support ≡ k.lit ∷ [])

-- in some valuation that satisfies the problem and makes the literals true it is false
abbrev pub IsFree : ProblemState → List Lit → Lit → Type 0
IsFree p assumed l = (v : ℕ → Bool) × Satisfies p v × MakesTrue v assumed × (literal_value v l ≡ false)

-- the values are left, and make the literal false
abbrev pub IsFreeBy : ProblemState → List Lit → Lit → List Bool → Type 0
IsFreeBy p assumed l values = IsLeft p assumed values × (literal_value (valuation values) l ≡ false)

-- the literal is forced, or the values make it false
abbrev pub Tests : ProblemState → List Lit → Lit → List (List Lit) → Tested → Type 0
Tests p assumed l cores (Forced k) = (k.lit ≡ l) × IsForced p assumed cores k
Tests p assumed l cores (Free values) = IsFreeBy p assumed l values

-- one more literal is kept, which is forced
abbrev pub KeepsOne : ProblemState → List Lit → Lit → List (List Lit) → List Kept → List Kept → Type 0
KeepsOne p assumed l cores ks ks2 = (k : Kept) × (ks2 ≡ ks ++ k ∷ []) × (k.lit ≡ l) × IsForced p assumed cores k

-- or one more valuation is, which makes it false
abbrev pub FindsOne : ProblemState → List Lit → Lit → List (List Bool) → List (List Bool) → Type 0
FindsOne p assumed l found found2 = (values : List Bool) × (found2 ≡ found ++ values ∷ []) × IsFreeBy p assumed l values

abbrev pub Decides : ProblemState → List Lit → Lit → List (List Lit) → List Kept → List Kept → List (List Bool)
    → List (List Bool) → Type 0
Decides p assumed l cores ks ks2 found found2 = (KeepsOne p assumed l cores ks ks2 × (found2 ≡ found))
    ⊎ ((ks2 ≡ ks) × FindsOne p assumed l found found2)

-- one of these valuations makes the literal false
abbrev pub IsFalseInAny : List (List Bool) → Lit → Type 0
IsFalseInAny found l = Any (λ values. literal_value (valuation values) l ≡ false) found

-- the literal is one of the ground atoms, and one of the seen valuations makes it false
abbrev pub IsFalseInSeen : ℕ → List (List Bool) → Lit → Type 0
IsFalseInSeen atoms seen l = (l.var.0 ≤ atoms) × IsFalseInAny seen l

-- the literal is kept, or was found false
abbrev pub IsSettled : List Kept → List (List Bool) → Lit → Type 0
IsSettled ks found l = Any (λ k. k.lit ≡ l) ks ⊎ IsFalseInAny found l

-- only a search tells of the literal
abbrev pub IsOpen : List Kept → List (List Bool) → ℕ → List (List Bool) → Lit → Type 0
IsOpen ks found atoms seen l = (IsSettled ks found l → ⊥) × (IsFalseInSeen atoms seen l → ⊥)

-- the variables of the literals that no seen valuation makes false are among these
abbrev pub Searches : List ℕ → ℕ → List (List Bool) → List Lit → Type 0
Searches vs atoms seen ask = All (λ l. Contains vs l.var.0 ⊎ IsFalseInSeen atoms seen l) ask

-- exactly the asked literals that are true in all valuations left are kept
pub record AreForced (p : ProblemState) (assumed ask : List Lit) (cores : List (List Lit))
    (kept : List Kept) : Type 0 where
  -- a valuation is left
  pub some : (v : ℕ → Bool) × Satisfies p v × MakesTrue v assumed
  -- in the order in which they were asked for
  pub order : IsSublist (map (λ (k : Kept). k.lit) kept) ask
  pub forced : All (IsForced p assumed cores) kept
  pub others : All (λ (l : Lit). Any (λ (k : Kept). k.lit ≡ l) kept ⊎ IsFree p assumed l) ask

abbrev pub FindsForced : ProblemState → List Lit → List Lit → List (List Lit) → Option (List Kept) → Type 0
FindsForced p assumed ask cores None = RefutesAll p assumed × HasCoreWithin cores assumed
FindsForced p assumed ask cores (Some kept) = AreForced p assumed ask cores kept

-- these values of the ground atoms are those of a valuation that is left
pub record IsSeen (p : ProblemState) (assumed : List Lit) (values : List Bool) : Type 0 where
  pub atoms : length p.atoms < length values
  pub left : (v : ℕ → Bool) × Satisfies p v × MakesTrue v assumed × Agree (length p.atoms) (valuation values) v

-- the second list is the first without this literal
abbrev pub IsWithout : Lit → List Lit → List Lit → Type 0
IsWithout l [] rest = rest ≡ []
IsWithout l (x ∷ xs) rest = ((x ≡ l) × IsWithout l xs rest) ⊎
    ((x ≡ l → ⊥) × ((ys : List Lit) × (rest ≡ x ∷ ys) × IsWithout l xs ys))
