-- Literals and their variables.
use Rattle.std.proofs.Common.{◌≡◌, ℕ, ◌<◌, ◌-◌, true, not, Some, List, [], ◌∷◌, map, length, slice_get}
use Rattle.std.proofs.Common.{refl, sym, ap, ◌∙◌, arith}
use Rattle.std.specs.List.{flat_map}
use Rattle.std.proofs.lemmas.Option.{slice_get_cases}
use Rattle.std.proofs.Common.{get_or, None, ◌≤◌, inl, inr, ◌⊎◌}
use Rattle.kb_logic.specs.declared.elements.Elem.{Elem}
use Rattle.kb_logic.specs.declared.structures.Literal.{Literal}
use Rattle.kb_logic.specs.InForce.{literal_with, both_literals}
use Rattle.kb_logic.specs.KnownAtoms.{atoms_over}
use Rattle.kb_logic.specs.Models.{GroundAtom, atom_of}
use Rattle.kb_logic.specs.Structures.{EachWith}
use Rattle.kb_logic.proofs.DistinctAtoms.{atoms_distinct}
use Rattle.lit_core.specs.declared.literals.Lit.{Lit}
use Rattle.ground_core.specs.Problems.{IsLitOf}
use Rattle.term_values.specs.GroundBases.{GroundBase}
use Rattle.term_values.specs.KnownBases.{IsGroundBase}
use Rattle.term_values.proofs.Chosen.{index-of}
use Rattle.term_values.proofs.Offsets.{some-same}
use Rattle.atom_numbers.specs.Numbers.{HasNumber, AreAlike, IsApplication}
use Rattle.forced_literals.specs.Searches.{both_signs}

-- literals are equal where their parts are
pub literal-by : (l m : Literal) → l.positive ≡ m.positive → l.symbol ≡ m.symbol → l.args ≡ m.args → l.value ≡ m.value
    → l ≡ m
literal-by l m p s r v = λ i. record { positive = p i; symbol = s i; args = r i; value = v i }

module _ (b : GroundBase) where
  abbrev atoms : List GroundAtom
  atoms = atoms_over b.vocabulary.symbols b.domains

  -- literals of one variable have one atom
  pub one-atom : (l m : Literal) (k j : Lit) → HasNumber b l k → HasNumber b m j → k.var.0 ≡ j.var.0
      → atom_of l ≡ atom_of m
  one-atom l m k j n q e =
      let n-is = n.var in
      let q-is = q.var in
      let same : n.place ≡ q.place = omega (arith, e, n-is, q-is) in
      some-same (atom_of l) (atom_of m) (sym n.atom ∙ ap (slice_get atoms) same ∙ q.atom)

  literal-of-atom : (l m : Literal) → l.positive ≡ m.positive → atom_of l ≡ atom_of m → l ≡ m
  literal-of-atom l m p e =
      literal-by l m p (ap (λ (a : GroundAtom). a.symbol) e) (ap (λ (a : GroundAtom). a.args) e)
      (ap (λ (a : GroundAtom). a.value) e)

  -- a literal of a variable is that of one literal
  pub one-literal : (l m : Literal) (k : Lit) → HasNumber b l k → HasNumber b m k → l ≡ m
  one-literal l m k n q = literal-of-atom l m (sym n.sign ∙ q.sign) (one-atom l m k k n q refl)

  -- of literals with one variable and one sign too
  pub same-literals : (l m : Literal) (k j : Lit) → HasNumber b l k → HasNumber b m j → k.var.0 ≡ j.var.0
      → k.positive ≡ j.positive → l ≡ m
  same-literals l m k j n q e f = literal-of-atom l m (sym n.sign ∙ f ∙ q.sign) (one-atom l m k j n q e)

  -- an atom has one variable
  pub one-variable : IsGroundBase b → (l m : Literal) (k j : Lit) → HasNumber b l k → HasNumber b m j
      → atom_of l ≡ atom_of m → k.var.0 ≡ j.var.0
  one-variable fine l m k j n q e =
      let same : n.place ≡ q.place = index-of atoms n.place q.place (atom_of m)
      (atoms_distinct b.vocabulary.symbols b.domains fine.distinct) (n.atom ∙ ap Some e) q.atom in
      let n-is = n.var in
      let q-is = q.var in
      omega (arith, same, n-is, q-is)

  -- both signs of the literals are both literals of the atoms
  pub both-each : (gs : List GroundAtom) (lits : List Lit) → EachWith (HasNumber b) (map (literal_with true) gs) lits
      → EachWith (HasNumber b) (flat_map both_literals gs) (both_signs lits)
  both-each [] [] h = tt
  both-each [] (l ∷ lits) h = absurd h
  both-each (a ∷ gs) [] h = absurd h
  both-each (a ∷ gs) (l ∷ lits) h = (
    h.0,
    (
      record { place = h.0.place; atom = h.0.atom; var = h.0.var; sign = ap not h.0.sign },
      both-each gs lits
          h.1,
    ),
  )

  -- each literal of a variable is that of some literal
  pub literal-there : (k : Lit) → IsLitOf (length atoms) k → (l : Literal) × HasNumber b l k
  literal-there k is = at (slice_get_cases atoms (k.var.0 - 1)).1
    where
      at : ((a : GroundAtom) × (k.var.0 - 1 < length atoms) × (slice_get atoms (k.var.0 - 1) ≡ Some a)
          × (get_or atoms (k.var.0 - 1) a ≡ a))
          ⊎ ((length atoms ≤ k.var.0 - 1) × (slice_get atoms (k.var.0 - 1) ≡ None))
          → (l : Literal) × HasNumber b l k
      at (inl c) = (
        literal_with k.positive c.0,
        record { place = k.var.0 - 1; atom = c.2; var = omega (arith, is.0); sign = refl },
      )
      at (inr c) = absurd (omega (arith, is.0, is.1, c.0))

  pub alike-twice : (a c d : GroundAtom) → AreAlike a c → AreAlike c d → AreAlike a d
  alike-twice a c d e f = (e.0 ∙ f.0, e.1 ∙ f.1)

  pub alike-back : (a c : GroundAtom) → AreAlike a c → AreAlike c a
  alike-back a c e = (sym e.0, sym e.1)

  -- alike atoms have one application
  pub one-application : (l m : Literal) (i j : ℕ) → AreAlike (atom_of l) (atom_of m) → IsApplication b l i
      → IsApplication b m j → i ≡ j
  one-application l m i j alike p q =
      let low = p.least q.place q.first q.atom (alike-twice q.first (atom_of m) (atom_of l) q.alike
      (alike-back (atom_of l) (atom_of m) alike)) in
      let high = q.least p.place p.first p.atom (alike-twice p.first (atom_of l) (atom_of m) p.alike alike) in
      let p-is = p.number in
      let q-is = q.number in
      omega (arith, low, high, p-is, q-is)

  -- atoms of one application are alike
  pub application-alike : (l m : Literal) (n : ℕ) → IsApplication b l n → IsApplication b m n
      → AreAlike (atom_of l) (atom_of m)
  application-alike l m n p q =
      let p-is = p.number in
      let q-is = q.number in
      let same : p.place ≡ q.place = omega (arith, p-is, q-is) in
      let first : p.first ≡ q.first = some-same p.first q.first (sym p.atom ∙ ap (slice_get atoms) same ∙ q.atom) in (
        sym p.alike.0 ∙ ap (λ (a : GroundAtom). a.symbol) first ∙ q.alike.0,
        sym p.alike.1 ∙ ap (λ (a : GroundAtom). a.args) first ∙ q.alike.1,
      )

  -- an application that an atom has, each alike one with a value has
  pub application-moved : (l m : Literal) (n : ℕ) (x : Elem) → AreAlike (atom_of l) (atom_of m) → l.value ≡ Some x
      → IsApplication b m n → IsApplication b l n
  application-moved l m n x alike valued q = record {
    value = x;
    valued = valued;
    place = q.place;
    number = q.number;
    first = q.first;
    atom = q.atom;
    alike = alike-twice q.first (atom_of m) (atom_of l) q.alike (alike-back (atom_of l) (atom_of m) alike);
    least = λ k c at e. q.least k c at (alike-twice c (atom_of l) (atom_of m) e alike);
  }
