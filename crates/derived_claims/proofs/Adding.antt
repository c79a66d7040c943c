-- Entries that are added to a log and to a text.
use Rattle.std.proofs.Common.{◌≡◌, ◌∙◌, ℕ, List, [], ◌∷◌, ◌++◌, All, flat_map, length, refl, sym, ap, subst}
use Rattle.std.proofs.Common.{append_assoc, arith, Bool}
use Rattle.std.proofs.lemmas.Grind.{flat_map-append}
use Rattle.std.proofs.lemmas.List.{append-nil}
use Rattle.std.proofs.lemmas.List.Elements.{All-nil, All-cons, All-append, All-weaker}
use Rattle.lit_core.specs.declared.literals.Lit.{Lit}
use Rattle.lit_core.specs.Literals.{negated}
use Rattle.lit_core.specs.Truth.{IsSatisfied}
use Rattle.ground_core.specs.declared.parts.TermBound.{TermBound}
use Rattle.ground_core.specs.GateClauses.{clauses_of}
use Rattle.ground_core.specs.Meaning.{SumHolds, BoundHolds}
use Rattle.ground_core.specs.Problems.{ProblemState, IsLitOf, AreLitsOf}
use Rattle.derivation_log.specs.declared.entries.Entry.{Entry}
use Rattle.derivation_log.specs.declared.entries.Entry.TheVariants as entry
use Rattle.derivation_log.specs.Lines.{entry_text}
use Rattle.derivation_log.specs.Steps.{LogStep, after}
use Rattle.derivation_log.specs.Texts.{IsWritten}
use Rattle.derivation_log.proofs.Linking.{linked}
use Rattle.search_log.specs.Entries.{IsOfSearch}
use Rattle.log_checker.specs.Growing.{Checking, GoesOn, known}
use Rattle.log_checker.proofs.Going.{goes-nowhere, goes-on-twice}
use Rattle.kb_logic.specs.declared.structures.Literal.{Literal}
use Rattle.term_values.specs.GroundBases.{GroundBase}
use Rattle.log_checker.specs.Cases.{Admits, IsRefuted, BearsClause}
use Rattle.derived_claims.specs.declared.forcing.Forcing.{Forcing}
use Rattle.derived_claims.specs.Following.{AreOfAtoms, IsForced, IsForcedOver, IsForcing}
use Rattle.derived_claims.specs.Statements.{Derived, Claimed, States}
use Rattle.derived_claims.proofs.Citing.{prefix-itself, prefix-twice, cites-kept}

-- the text of some entries
abbrev texts : List Entry → List ℕ
texts es = flat_map entry_text es

-- one entry that is a step
goes-by : (c : Checking) (e : Entry) → LogStep c.problem c.state e → IsWritten e
    → GoesOn c (texts (e ∷ [])) (known c.problem (after c.state e))
goes-by c e step written = record {
  problem = refl;
  entries = e ∷ [];
  written = All-cons IsWritten e [] written (All-nil IsWritten);
  text = sym (linked e [] written);
  steps = (step, tt);
  leaves = refl;
}

goes-both : (a b c : Checking) (ds es : List Entry) → GoesOn a (texts ds) b → GoesOn b (texts es) c
    → GoesOn a (texts (ds ++ es)) c
goes-both a b c ds es h k =
    subst (λ (bytes : List ℕ). GoesOn a bytes c) (sym (flat_map-append entry_text ds es))
    (goes-on-twice a b c (texts ds) (texts es) h k)

text-both : (ds es : List Entry) (x y z : List ℕ) → y ≡ x ++ texts ds → z ≡ y ++ texts es
    → z ≡ x ++ texts (ds ++ es)
text-both ds es x y z e f =
    f ∙ ap (λ (t : List ℕ). t ++ texts es) e ∙ append_assoc x (texts ds) (texts es)
    ∙ ap (λ (t : List ℕ). x ++ t) (sym (flat_map-append entry_text ds es))

text-one : (e : Entry) (x y : List ℕ) → y ≡ x ++ entry_text e → y ≡ x ++ texts (e ∷ [])
text-one e x y h = h ∙ ap (λ (t : List ℕ). x ++ t) (sym (append-nil (entry_text e)))

-- entries of a search were added to the log, and their texts to these bytes; the last mark stays
pub record Adds (old new : Checking) (before after : List ℕ) : Type 0 where
  pub entries : List Entry
  pub search : All IsOfSearch entries
  pub goes_on : GoesOn old (texts entries) new
  pub text : after ≡ before ++ texts entries
  pub line : new.state.line ≡ old.state.line

of-search : (e : Entry) → BearsClause e → IsOfSearch e
of-search (entry.Mark n) h = absurd h
of-search (entry.Learnt lits hints) h = tt
of-search (entry.Sum n lits) h = tt
of-search (entry.Bound s t k) h = absurd h
of-search (entry.Exclude s lits) h = absurd h
of-search (entry.Inconsistent lits c) h = absurd h
of-search (entry.Forced l lits c) h = absurd h
of-search (entry.Least t k lits c) h = absurd h

pub derived-adds : (old new : Checking) (x y : List ℕ) → Derived old new x y → Adds old new x y
derived-adds old new x y d = record {
  entries = d.0;
  search = All-weaker BearsClause IsOfSearch of-search d.0 d.1.bearing;
  goes_on = d.1.goes_on;
  text = d.2;
  line = d.1.line;
}

pub adds-twice : (a b c : Checking) (x y z : List ℕ) → Adds a b x y → Adds b c y z → Adds a c x z
adds-twice a b c x y z h k = record {
  entries = h.entries ++ k.entries;
  search = All-append IsOfSearch h.entries k.entries h.search k.search;
  goes_on = goes-both a b c h.entries k.entries h.goes_on k.goes_on;
  text = text-both h.entries k.entries x y z h.text k.text;
  line = k.line ∙ h.line;
}

-- one entry of a search, which is no mark
pub adds-one : (c d : Checking) (e : Entry) (x y : List ℕ) → IsOfSearch e → LogStep c.problem c.state e → IsWritten e
    → (after c.state e).line ≡ c.state.line → d ≡ known c.problem (after c.state e) → y ≡ x ++ entry_text e
    → Adds c d x y
adds-one c d e x y of step written line is text =
    subst (λ (new : Checking). Adds c new x y) (sym is) (record {
      entries = e ∷ [];
      search = All-cons IsOfSearch e [] of (All-nil IsOfSearch);
      goes_on = goes-by c e step written;
      text = text-one e x y text;
      line = line;
    })

pub derived-none : (c : Checking) (x : List ℕ) → Derived c c x x
derived-none c x = (
  [],
  record {
    bearing = All-nil BearsClause;
    goes_on = goes-nowhere c;
    clauses = prefix-itself c.state.clauses;
    vars = refl;
    bounds = refl;
    line = refl;
    claims = refl;
  },
  sym (append-nil x),
)

pub derived-twice : (a b c : Checking) (x y z : List ℕ) → Derived a b x y → Derived b c y z → Derived a c x z
derived-twice a b c x y z h k = (
  h.0 ++ k.0,
  record {
    bearing = All-append BearsClause h.0 k.0 h.1.bearing k.1.bearing;
    goes_on = goes-both a b c h.0 k.0 h.1.goes_on k.1.goes_on;
    clauses = prefix-twice a.state.clauses b.state.clauses c.state.clauses h.1.clauses k.1.clauses;
    vars = k.1.vars ∙ h.1.vars;
    bounds = k.1.bounds ∙ h.1.bounds;
    line = k.1.line ∙ h.1.line;
    claims = k.1.claims ∙ h.1.claims;
  },
  text-both h.0 k.0 x y z h.2 k.2,
)

pub claimed-none : (c : Checking) (x : List ℕ) → Claimed c c [] x x
claimed-none c x = record {
  problem = refl;
  clauses = refl;
  line = refl;
  goes_on = goes-nowhere c;
  text = sym (append-nil x);
}

pub claimed-twice : (a b c : Checking) (ds es : List Entry) (x y z : List ℕ) → Claimed a b ds x y → Claimed b c es y z
    → Claimed a c (ds ++ es) x z
claimed-twice a b c ds es x y z h k = record {
  problem = k.problem ∙ h.problem;
  clauses = k.clauses ∙ h.clauses;
  line = k.line ∙ h.line;
  goes_on = goes-both a b c ds es h.goes_on k.goes_on;
  text = text-both ds es x y z h.text k.text;
}

-- one claim
pub claimed-one : (c d : Checking) (e : Entry) (x y : List ℕ) → LogStep c.problem c.state e → IsWritten e
    → (after c.state e).clauses ≡ c.state.clauses → (after c.state e).line ≡ c.state.line
    → d ≡ known c.problem (after c.state e) → y ≡ x ++ entry_text e → Claimed c d (e ∷ []) x y
claimed-one c d e x y step written clauses line is text =
    subst (λ (new : Checking). Claimed c new (e ∷ []) x y) (sym is) (record {
      problem = refl;
      clauses = clauses;
      line = line;
      goes_on = goes-by c e step written;
      text = text-one e x y text;
    })

-- what was derived from nothing on, and then claimed
pub stated : (old mid new : Checking) (AreSo : List Entry → Type 0) (es : List Entry) (x y z : List ℕ) → x ≡ []
    → Adds old mid x y → Claimed mid new es y z → AreSo es → States old new AreSo z
stated old mid new AreSo es x y z begins adds claimed so =
    let here : y ≡ texts adds.entries = adds.text ∙ ap (λ (t : List ℕ). t ++ texts adds.entries) begins in record {
      entries = y;
      are = (adds.entries, adds.search, here);
      claims = es;
      so = so;
      text = claimed.text;
      goes_on = subst (λ (bytes : List ℕ). GoesOn old bytes new)
          (sym (claimed.text ∙ ap (λ (t : List ℕ). t ++ texts es) here))
          (goes-on-twice old mid new (texts adds.entries) (texts es) adds.goes_on claimed.goes_on);
      line = claimed.line ∙ adds.line;
    }

-- nothing is stated
pub states-nothing : (c : Checking) (AreSo : List Entry → Type 0) (x : List ℕ) → x ≡ [] → AreSo []
    → States c c AreSo x
states-nothing c AreSo x none so = stated c c c AreSo [] x x x none
    (derived-adds c c x x (derived-none c x)) (claimed-none c x) so

-- what is admitted rests on the problem and the bounds alone
module _ (old new : Checking) (problem : new.problem ≡ old.problem) (bounds : new.state.bounds ≡ old.state.bounds)
  where
    admits-back : (lits : List Lit) (v : ℕ → Bool) → Admits new lits v → Admits old lits v
    admits-back lits v a = record {
      clauses = subst (λ (p : ProblemState). All (IsSatisfied v) (clauses_of p)) problem a.clauses;
      sums = subst (λ (p : ProblemState). All (SumHolds v) p.sums) problem a.sums;
      bounds = subst (λ (p : ProblemState). All (BoundHolds v p.terms) old.state.bounds) problem
          (subst (λ (bs : List TermBound). All (BoundHolds v new.problem.terms) bs) bounds a.bounds);
      trues = a.trues;
    }

    refuted-kept : (lits : List Lit) → IsRefuted old lits → IsRefuted new lits
    refuted-kept lits none v a = none v (admits-back lits v a)

-- what derivations keep
module _ (old new : Checking) (x y : List ℕ) (d : Derived old new x y) where
  same-problem : new.problem ≡ old.problem
  same-problem = d.1.goes_on.problem

  pub atoms-kept : (lits : List Lit) → AreOfAtoms old lits → AreOfAtoms new lits
  atoms-kept lits are = record {
    atoms = subst (λ (p : ProblemState). AreLitsOf (length p.atoms) lits) (sym same-problem) are.atoms;
    vars = let vars : new.state.vars ≡ old.state.vars = d.1.vars in
        let atoms : length new.problem.atoms ≡ length old.problem.atoms =
        ap (λ (p : ProblemState). length p.atoms) same-problem in
        omega (arith, vars, atoms, are.vars);
    written = are.written;
  }

  forced-kept : (lits : List Lit) (l : Lit) → IsForced old lits l → IsForced new lits l
  forced-kept lits l is = record {
    atom = subst (λ (p : ProblemState). IsLitOf (length p.atoms) l) (sym same-problem) is.atom;
    new = is.new;
    refuted = refuted-kept old new same-problem d.1.bounds (lits ++ negated l ∷ []) is.refuted;
  }

  pub forced-over-kept : (b : GroundBase) (lits : List Lit) (l : Literal) → IsForcedOver b old lits l
      → IsForcedOver b new lits l
  forced-over-kept b lits l is = (is.0, λ lit number. forced-kept lits lit (is.1 lit number))

  pub forcings-kept : (lits : List Lit) (fs : List Forcing) → All (IsForcing old lits) fs → All (IsForcing new lits) fs
  forcings-kept lits = All-weaker (IsForcing old lits) (IsForcing new lits) (λ f is. record {
    atom = subst (λ (p : ProblemState). IsLitOf (length p.atoms) f.lit) (sym same-problem) is.atom;
    written = is.written;
    cites = cites-kept old.state new.state d.1.clauses lits (λ m. m ≡ f.lit) f.clause is.cites;
    number = is.number;
  })
