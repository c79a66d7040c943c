-- Clauses that were derived, one after another.
use Rattle.std.proofs.Common.{◌≡◌, ℕ, List, [], ◌∷◌, ◌++◌, All, refl, sym, ap, ◌∙◌, subst, flat_map}
use Rattle.std.proofs.Common.{Result, Ok, Err, OnOk}
use Rattle.std.proofs.lemmas.List.{append_assoc, append-nil}
use Rattle.std.proofs.lemmas.Grind.{flat_map-append}
use Rattle.std.proofs.lemmas.List.Elements.{All-nil, All-cons, All-append}
use Rattle.lit_core.specs.declared.literals.Lit.{Lit}
use Rattle.lit_core.specs.Truth.{IsSatisfied}
use Rattle.ground_core.specs.Problems.{ProblemState}
use Rattle.ground_core.specs.GateClauses.{clauses_of}
use Rattle.ground_core.specs.Meaning.{SumHolds, BoundHolds}
use Rattle.derivation_log.specs.declared.entries.Entry.{Entry}
use Rattle.derivation_log.specs.Texts.{IsWritten}
use Rattle.derivation_log.specs.Lines.{entry_text}
use Rattle.derivation_log.specs.Steps.{CheckState, LogStep, after, with_borne}
use Rattle.derivation_log.proofs.Linking.{linked}
use Rattle.log_checker.specs.Growing.{Checking, known, GoesOn}
use Rattle.log_checker.specs.Cases.{IsRefuted, BearsClause, Derives}
use Rattle.log_checker.proofs.Going.{goes-nowhere, goes-on-twice}
use Rattle.case_derivations.specs.Adding.{Adds}

derives-none : (c : Checking) → Derives c c []
derives-none c = record {
  bearing = All-nil BearsClause;
  goes_on = goes-nowhere c;
  clauses = ([], sym (append-nil c.state.clauses));
  vars = refl;
  bounds = refl;
  line = refl;
  claims = refl;
}

derives-both : (a b c : Checking) (ds es : List Entry) → Derives a b ds → Derives b c es → Derives a c (ds ++ es)
derives-both a b c ds es h k = record {
  bearing = All-append BearsClause ds es h.bearing k.bearing;
  goes_on = subst (λ t. GoesOn a t c) (sym (flat_map-append entry_text ds es))
      (goes-on-twice a b c (flat_map entry_text ds) (flat_map entry_text es) h.goes_on k.goes_on);
  clauses = (
    h.clauses.0 ++ k.clauses.0,
    k.clauses.1 ∙ ap (λ l. l ++ k.clauses.0) h.clauses.1 ∙ append_assoc a.state.clauses h.clauses.0 k.clauses.0,
  );
  vars = k.vars ∙ h.vars;
  bounds = k.bounds ∙ h.bounds;
  line = k.line ∙ h.line;
  claims = k.claims ∙ h.claims;
}

-- an entry that bears this clause
derives-one : (c : Checking) (e : Entry) (d : List Lit) → BearsClause e → IsWritten e
    → after c.state e ≡ with_borne c.state d
    → LogStep c.problem c.state e → Derives c (known c.problem (after c.state e)) (e ∷ [])
derives-one c e d bears w is step = record {
  bearing = All-cons BearsClause e [] bears (All-nil BearsClause);
  goes_on = record {
    problem = refl;
    entries = e ∷ [];
    written = All-cons IsWritten e [] w (All-nil IsWritten);
    text = sym (linked e [] w);
    steps = (step, tt);
    leaves = refl;
  };
  clauses = (d ∷ [], ap (λ (st : CheckState). st.clauses) is);
  vars = ap (λ (st : CheckState). st.vars) is;
  bounds = ap (λ (st : CheckState). st.bounds) is;
  line = ap (λ (st : CheckState). st.line) is;
  claims = ap (λ (st : CheckState). st.claims) is;
}

pub adds-none : (c : Checking) (text : List ℕ) → Adds c c text text
adds-none c text = ([], derives-none c, sym (append-nil text))

pub adds-both : (a b c : Checking) (x y z : List ℕ) → Adds a b x y → Adds b c y z → Adds a c x z
adds-both a b c x y z h k = (
  h.0 ++ k.0,
  derives-both a b c h.0 k.0 h.1 k.1,
  k.2 ∙ ap (λ t. t ++ flat_map entry_text k.0) h.2
      ∙ append_assoc x (flat_map entry_text h.0) (flat_map entry_text k.0)
      ∙ ap (λ t. x ++ t) (sym (flat_map-append entry_text h.0 k.0)),
)

pub adds-one : (c new : Checking) (e : Entry) (d : List Lit) (x y : List ℕ) → BearsClause e → IsWritten e
    → after c.state e ≡ with_borne c.state d → LogStep c.problem c.state e
    → new ≡ known c.problem (after c.state e) → y ≡ x ++ entry_text e → Adds c new x y
adds-one c new e d x y bears w is step e-new e-text = (
  e ∷ [],
  subst (λ n. Derives c n (e ∷ [])) (sym e-new) (derives-one c e d bears w is step),
  e-text ∙ ap (λ t. x ++ t) (sym (append-nil (entry_text e))),
)

-- what a call adds behind what was added before, if it has a result
pub adds-then : {N E : Type 0} (a b c : Checking) (x y z : List ℕ) (r : Result N E) → Adds a b x y
    → OnOk r (Adds b c y z) → OnOk r (Adds a c x z)
adds-then a b c x y z (Ok n) h k = adds-both a b c x y z h k
adds-then a b c x y z (Err e) h k = tt

-- what nothing admits, nothing admits behind what was derived
pub refuted-behind : (old new : Checking) (x y : List ℕ) (lits : List Lit) → Adds old new x y → IsRefuted old lits
    → IsRefuted new lits
refuted-behind old new x y lits h r v a = r v (record {
  clauses = subst (λ p. All (IsSatisfied v) (clauses_of p)) h.1.goes_on.problem a.clauses;
  sums = subst (λ (p : ProblemState). All (SumHolds v) p.sums) h.1.goes_on.problem a.sums;
  bounds = subst (λ (p : ProblemState). All (BoundHolds v p.terms) old.state.bounds) h.1.goes_on.problem
      (subst (All (BoundHolds v new.problem.terms)) h.1.bounds a.bounds);
  trues = a.trues;
})
