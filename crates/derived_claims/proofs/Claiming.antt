-- Claims of literals that follow, one after another.
use Rattle.std.proofs.Common.{◌≡◌, ◌∙◌, ℕ, ◌+◌, ◌<◌, ◌≤◌, List, [], ◌∷◌, ◌++◌, map, take, get_or, length, All}
use Rattle.std.proofs.Common.{refl, sym, ap, subst, arith}
use Rattle.std.proofs.lemmas.List.{append-nil, take_more, map-append}
use Rattle.std.proofs.lemmas.List.Elements.{All-push, All-weaker}
use Rattle.kb_logic.specs.declared.structures.Literal.{Literal}
use Rattle.kb_logic.specs.Models.{IsAtomOver, atom_of}
use Rattle.kb_logic.specs.Structures.{EachWith}
use Rattle.lit_core.specs.declared.literals.Lit.{Lit}
use Rattle.lit_core.specs.Literals.{negated}
use Rattle.ground_core.specs.Problems.{ProblemState, IsLitOf, AreLitsOf}
use Rattle.derivation_log.specs.declared.entries.Entry.{Entry}
use Rattle.derivation_log.specs.Lines.{entry_text}
use Rattle.derivation_log.specs.Steps.{LogStep, after, Cites}
use Rattle.derivation_log.specs.Texts.{IsLiteral, IsNumber}
use Rattle.log_checker.specs.Growing.{Checking, known}
use Rattle.term_values.specs.GroundBases.{GroundBase}
use Rattle.atom_numbers.specs.Numbers.{HasNumber}
use Rattle.claimed_replies.specs.Claims.{SaysForced}
use Rattle.derived_claims.specs.declared.forcing.Forcing.{Forcing}
use Rattle.derived_claims.specs.Following.{AreOfAtoms, IsForced, IsForcedOver, IsForcing, IsOfLiteral, forced_claim}
use Rattle.derived_claims.specs.Statements.{Derived, Claimed, States}
use Rattle.derived_claims.proofs.Adding.{atoms-kept, claimed-one, claimed-twice, derived-adds, forced-over-kept, stated}
use Rattle.derived_claims.proofs.Citing.{cites-forced, cites-kept}

-- the next literal is still forced, after derivations
module _ (b : GroundBase) (first old : Checking) (x y : List ℕ) (d : Derived first old x y) (lits : List Lit)
    (ls : List Literal) (i : ℕ) (l : Literal) (lt : i < length ls) (is : l ≡ get_or ls i l)
    (all : All (IsForcedOver b first lits) ls) where
  next-over : IsForcedOver b old lits l
  next-over = forced-over-kept first old x y d b lits l (subst (IsForcedOver b first lits) (sym is) (all i l lt))

  pub next-atom : IsAtomOver b.vocabulary.symbols b.domains (atom_of l)
  next-atom = next-over.0

  pub next-forced : (lit : Lit) → HasNumber b l lit → IsForced old lits lit
  next-forced lit number = next-over.1 lit number

  -- the literals with its negation are of variables in use
  pub next-lits : AreOfAtoms first lits → (lit : Lit) → HasNumber b l lit
      → AreLitsOf old.state.vars (lits ++ negated lit ∷ [])
  next-lits of lit number =
      let are = atoms-kept first old x y d lits of in
      let forced = next-forced lit number in
      let vars : length old.problem.atoms ≤ old.state.vars = are.vars in
      All-push (IsLitOf old.state.vars) lits (negated lit)
      (All-weaker (IsLitOf (length old.problem.atoms)) (IsLitOf old.state.vars)
      (λ k within. (within.0, omega (arith, within.1, vars))) lits are.atoms)
      (forced.atom.0, omega (arith, forced.atom.1, vars))

-- a clause was derived by which the literal follows
pub is-forcing : (old new : Checking) (x y : List ℕ) (lits : List Lit) (l : Lit) (clause : ℕ) → Derived old new x y
    → IsForced old lits l → IsLiteral l → IsNumber clause
    → Cites new.state (lits ++ negated l ∷ []) (λ m. ⊥) clause
    → IsForcing new lits (record { lit = l; clause = clause })
is-forcing old new x y lits l clause d is written number cites = record {
  atom = subst (λ (p : ProblemState). IsLitOf (length p.atoms) l) (sym d.1.goes_on.problem) is.atom;
  written = written;
  cites = cites-forced new.state lits l is.new clause cites;
  number = number;
}

-- each of the literals is claimed
pub each-claimed : (b : GroundBase) (lits : List Lit) (ls : List Literal) (fs : List Forcing)
    → EachWith (IsOfLiteral b) ls fs → EachWith (SaysForced b lits) ls (map (forced_claim lits) fs)
each-claimed b lits [] [] each = tt
each-claimed b lits [] (f ∷ fs) each = absurd each
each-claimed b lits (l ∷ ls) [] each = absurd each
each-claimed b lits (l ∷ ls) (f ∷ fs) each = ((f.lit, f.clause, each.0, refl), each-claimed b lits ls fs each.1)

-- the claim of the next one
module _ (first old : Checking) (lits listed : List Lit) (fs : List Forcing) (i : ℕ) (none : Forcing) (x y : List ℕ)
    (lt : i < length fs) (atoms : AreOfAtoms first lits) (cites : All (IsForcing first lits) fs) (same : listed ≡ lits)
    (claimed : Claimed first old (map (forced_claim lits) (take i fs)) x y) where
  abbrev item : Forcing
  item = get_or fs i none

  abbrev claim : Entry
  claim = forced_claim listed item

  forcing : IsForcing first lits item
  forcing = cites i none lt

  same-size : length old.problem.atoms ≡ length first.problem.atoms
  same-size = ap (λ (p : ProblemState). length p.atoms) claimed.problem

  pub forced-step : LogStep old.problem old.state claim
  forced-step =
      subst (λ (ls : List Lit). LogStep old.problem old.state (forced_claim ls item)) (sym same) (
        subst (λ (n : ℕ). IsLitOf n item.lit) (sym same-size) forcing.atom,
        subst (λ (n : ℕ). AreLitsOf n lits) (sym same-size) atoms.atoms,
        cites-kept first.state old.state ([], claimed.clauses ∙ sym (append-nil first.state.clauses)) lits
            (λ m. m ≡ item.lit) item.clause forcing.cites,
      )

  more : map (forced_claim lits) (take (i + 1) fs) ≡ map (forced_claim lits) (take i fs) ++ claim ∷ []
  more =
      ap (map (forced_claim lits)) (take_more fs i none lt)
      ∙ map-append (forced_claim lits) (take i fs) (item ∷ [])
      ∙ ap (λ (ls : List Lit). map (forced_claim lits) (take i fs) ++ forced_claim ls item ∷ []) (sym same)

  pub claimed-next : (new : Checking) (z : List ℕ) → new ≡ known old.problem (after old.state claim)
      → z ≡ y ++ entry_text claim → Claimed first new (map (forced_claim lits) (take (i + 1) fs)) x z
  claimed-next new z added text =
      subst (λ (es : List Entry). Claimed first new es x z) (sym more)
      (claimed-twice first old new (map (forced_claim lits) (take i fs)) (claim ∷ []) x y z claimed
      (claimed-one old new claim y z forced-step
      (forcing.written, subst (All IsLiteral) (sym same) atoms.written, forcing.number) refl refl added text))

-- all of them
pub forced-stated : (b : GroundBase) (old mid new : Checking) (lits : List Lit) (ls : List Literal) (fs : List Forcing)
    (x y z : List ℕ) → x ≡ [] → Derived old mid x y → EachWith (IsOfLiteral b) ls fs
    → Claimed mid new (map (forced_claim lits) fs) y z → States old new (EachWith (SaysForced b lits) ls) z
forced-stated b old mid new lits ls fs x y z begins d each claimed =
    stated old mid new (EachWith (SaysForced b lits) ls) (map (forced_claim lits) fs) x y z begins
    (derived-adds old mid x y d) claimed (each-claimed b lits ls fs each)
