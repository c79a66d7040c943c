-- A state is what a later one is when it is cut back.
use Rattle.std.proofs.Common.{◌≡◌, List, [], ◌∷◌, ◌++◌, take, length, refl, sym, ap, ◌∙◌}
use Rattle.std.proofs.lemmas.List.{append_assoc, append-nil}
use Rattle.std.proofs.Math.Seq.{take-append_seam}
use Rattle.lit_core.specs.declared.literals.Lit.{Lit}
use Rattle.ground_core.specs.declared.parts.TermBound.{TermBound}
use Rattle.derivation_log.specs.declared.claims.Claim.{Claim}
use Rattle.derivation_log.specs.declared.entries.Entry.{Entry}
use Rattle.derivation_log.specs.declared.entries.Entry.TheVariants as entry
use Rattle.derivation_log.specs.Steps.{CheckState, after, after_all}
use Rattle.log_checker.specs.Undoing.{ends_of, cut_back}

-- the lists of the second begin with those of the first
record Adds (old new : CheckState) : Type 0 where
  pub more_clauses : List (List Lit)
  pub more_bounds : List TermBound
  pub more_claims : List Claim
  pub clauses : new.clauses ≡ old.clauses ++ more_clauses
  pub bounds : new.bounds ≡ old.bounds ++ more_bounds
  pub claims : new.claims ≡ old.claims ++ more_claims

adds-none : (st : CheckState) → Adds st st
adds-none st = record {
  more_clauses = [];
  more_bounds = [];
  more_claims = [];
  clauses = sym (append-nil st.clauses);
  bounds = sym (append-nil st.bounds);
  claims = sym (append-nil st.claims);
}

adds-both : (a b c : CheckState) → Adds a b → Adds b c → Adds a c
adds-both a b c h k = record {
  more_clauses = h.more_clauses ++ k.more_clauses;
  more_bounds = h.more_bounds ++ k.more_bounds;
  more_claims = h.more_claims ++ k.more_claims;
  clauses = k.clauses ∙ ap (λ l. l ++ k.more_clauses) h.clauses
      ∙ append_assoc a.clauses h.more_clauses k.more_clauses;
  bounds = k.bounds ∙ ap (λ l. l ++ k.more_bounds) h.bounds ∙ append_assoc a.bounds h.more_bounds k.more_bounds;
  claims = k.claims ∙ ap (λ l. l ++ k.more_claims) h.claims ∙ append_assoc a.claims h.more_claims k.more_claims;
}

module _ (st : CheckState) where
  adds-clause : (n : CheckState) (c : List Lit) → n.clauses ≡ st.clauses ++ c ∷ [] → n.bounds ≡ st.bounds
      → n.claims ≡ st.claims → Adds st n
  adds-clause n c a b d = record {
    more_clauses = c ∷ [];
    more_bounds = [];
    more_claims = [];
    clauses = a;
    bounds = b ∙ sym (append-nil st.bounds);
    claims = d ∙ sym (append-nil st.claims);
  }

  adds-claim : (n : CheckState) (c : Claim) → n.clauses ≡ st.clauses → n.bounds ≡ st.bounds
      → n.claims ≡ st.claims ++ c ∷ [] → Adds st n
  adds-claim n c a b d = record {
    more_clauses = [];
    more_bounds = [];
    more_claims = c ∷ [];
    clauses = a ∙ sym (append-nil st.clauses);
    bounds = b ∙ sym (append-nil st.bounds);
    claims = d;
  }

  adds-one : (e : Entry) → Adds st (after st e)
  adds-one (entry.Mark n) = record {
    more_clauses = [];
    more_bounds = [];
    more_claims = [];
    clauses = sym (append-nil st.clauses);
    bounds = sym (append-nil st.bounds);
    claims = sym (append-nil st.claims);
  }
  adds-one (entry.Learnt lits hints) = adds-clause _ _ refl refl refl
  adds-one (entry.Sum n lits) = adds-clause _ _ refl refl refl
  adds-one (entry.Bound s t k) = record {
    more_clauses = [];
    more_bounds = _;
    more_claims = [];
    clauses = sym (append-nil st.clauses);
    bounds = refl;
    claims = sym (append-nil st.claims);
  }
  adds-one (entry.Exclude s lits) = adds-clause _ _ refl refl refl
  adds-one (entry.Inconsistent lits c) = adds-claim _ _ refl refl refl
  adds-one (entry.Forced l lits c) = adds-claim _ _ refl refl refl
  adds-one (entry.Least t k lits c) = adds-claim _ _ refl refl refl

adds-all : (st : CheckState) (es : List Entry) → Adds st (after_all st es)
adds-all st [] = adds-none st
adds-all st (e ∷ es) = adds-both st (after st e) (after_all (after st e) es) (adds-one st e) (adds-all (after st e) es)

abbrev with_lists : CheckState → List (List Lit) → List TermBound → List Claim → CheckState
with_lists st xs ys zs = record { vars = st.vars; clauses = xs; bounds = ys; line = st.line; claims = zs }

front : {A : Type 0} (xs more all : List A) → all ≡ xs ++ more → take (length xs) all ≡ xs
front xs more all e = ap (take (length xs)) e ∙ take-append_seam xs more

cut : (old new : CheckState) → Adds old new → cut_back new (ends_of old) ≡ old
cut old new h =
    ap (λ l. with_lists old l (take (length old.bounds) new.bounds) (take (length old.claims) new.claims))
    (front old.clauses h.more_clauses new.clauses h.clauses)
    ∙ ap (λ l. with_lists old old.clauses l (take (length old.claims) new.claims))
    (front old.bounds h.more_bounds new.bounds h.bounds)
    ∙ ap (with_lists old old.clauses old.bounds) (front old.claims h.more_claims new.claims h.claims)

pub restored : (st new : CheckState) (es : List Entry) → after_all st es ≡ new → cut_back new (ends_of st) ≡ st
restored st new es e = ap (λ x. cut_back x (ends_of st)) (sym e) ∙ cut st (after_all st es) (adds-all st es)
