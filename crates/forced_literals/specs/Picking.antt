-- Which forced literals are not shown, by their variables.
use Rattle.std.specs.Prelude.{◌≡◌, ℕ, ◌==◌, Bool, true, false, List, Option, Some, None, All, Any, Contains, ◌⊎◌}
use Rattle.std.specs.List.{list_any}
use Rattle.kb_logic.specs.declared.elements.Elem.{Elem}
use Rattle.kb_logic.specs.declared.structures.Literal.{Literal}
use Rattle.kb_logic.specs.Lists.{IsSublist}
use Rattle.kb_logic.specs.Models.{atom_of}
use Rattle.kb_logic.specs.Structures.{EachWith}
use Rattle.lit_core.specs.declared.literals.Lit.{Lit}
use Rattle.term_values.specs.GroundBases.{GroundBase}
use Rattle.atom_numbers.specs.Numbers.{AreAlike, HasNumber, IsApplication}
use Rattle.forced_literals.specs.declared.picking.LeftOut.{LeftOut}

-- the second literal denies a value of a function, and the first affirms one at the same arguments
pub record DeniesBeside (b : GroundBase) (k l : Lit) : Type 0 where
  pub affirmed : Literal
  pub denied : Literal
  pub first : HasNumber b affirmed k
  pub second : HasNumber b denied l
  pub affirms : affirmed.positive ≡ true
  pub denies : denied.positive ≡ false
  pub alike : AreAlike (atom_of affirmed) (atom_of denied)
  pub value : Elem
  pub valued : affirmed.value ≡ Some value
  pub other : Elem
  pub other_valued : denied.value ≡ Some other

-- the literal has a choice's variable, or it denies a value of a function that has one by a forced literal
abbrev pub IsSpared : GroundBase → List Lit → List Lit → Lit → Type 0
IsSpared b chosen forced l = Any (λ c. c.var.0 ≡ l.var.0) chosen ⊎ Any (λ k. DeniesBeside b k l) forced

-- these are the literals of exactly those of the forced ones that are not spared, in their order
pub record ArePicked (b : GroundBase) (chosen forced ks : List Lit) (list : List Literal) : Type 0 where
  pub lits : List Lit
  pub order : IsSublist lits ks
  pub numbers : EachWith (HasNumber b) list lits
  pub kept : All (λ l. IsSpared b chosen forced l → ⊥) lits
  pub others : All (λ l. Contains lits l ⊎ IsSpared b chosen forced l) ks

-- the number is one of these
abbrev pub is_among : List ℕ → ℕ → Bool
is_among ks n = list_any (λ k. n == k) ks

-- it is the number that may be there
abbrev pub is_it : Option ℕ → ℕ → Bool
is_it None n = false
is_it (Some k) n = k == n

-- the literal affirms a value of the function's application whose first atom has the variable n
pub record Settles (b : GroundBase) (k : Lit) (n : ℕ) : Type 0 where
  pub literal : Literal
  pub number : HasNumber b literal k
  pub affirms : literal.positive ≡ true
  pub application : IsApplication b literal n

-- n is the one application that the literal settles
pub record SettlesOnly (b : GroundBase) (k : Lit) (n : ℕ) : Type 0 where
  pub it : Settles b k n
  pub only : (m : ℕ) → Settles b k m → m ≡ n

-- these are the applications of which one of the literals affirms a value
pub record AreSettled (b : GroundBase) (forced : List Lit) (ns : List ℕ) : Type 0 where
  pub sound : (n : ℕ) → is_among ns n ≡ true → Any (λ k. Settles b k n) forced
  pub complete : (n : ℕ) → Any (λ k. Settles b k n) forced → is_among ns n ≡ true

-- what is kept of the choices and of the forced literals
pub record IsLeftOutOf (b : GroundBase) (choices forced : List Lit) (s : LeftOut) : Type 0 where
  pub chosen : (n : ℕ) → is_among s.chosen.keys n ≡ list_any (λ l. l.var.0 == n) choices
  pub settled : AreSettled b forced s.settled.keys
