-- Each claim of an accepted log is true.
use Rattle.std.proofs.Common.{◌≡◌, ℕ, suc, ◌≤◌, ◌+◌, ◌-◌, Bool, true, false, not, Option, Some, None, IfSome, List, []}
use Rattle.std.proofs.Common.{◌∷◌, map, All, length, get_or, slice_get, refl, sym, ap, ◌∙◌, subst, arith, ⊎_elim, ◌⊎◌}
use Rattle.std.proofs.Common.{inl, inr, Contains}
use Rattle.std.proofs.lemmas.Option.{slice_get_within, get_or_from_slice_get}
use Rattle.std.proofs.lemmas.List.Elements.{All-nil, All-cons, All-contains, All-push, All-weaker}
use Rattle.kb_logic.specs.declared.elements.ExtInt.{ExtInt}
use Rattle.kb_logic.specs.declared.syntax.Cmp.TheVariants as cmp
use Rattle.kb_logic.specs.Denotations.{compared}
use Rattle.lit_core.specs.declared.literals.Lit.{Lit}
use Rattle.lit_core.specs.Literals.{literal_value, negated}
use Rattle.lit_core.specs.Truth.{IsSatisfied}
use Rattle.lit_core.proofs.Soundness.{value-negated, follows-sound}
use Rattle.ground_core.specs.declared.parts.AggCon.{AggCon}
use Rattle.ground_core.specs.declared.parts.GroundTerm.{GroundTerm}
use Rattle.ground_core.specs.declared.parts.TermBound.{TermBound}
use Rattle.ground_core.specs.Problems.{ProblemState, IsProblem, IsLitOf, AreLitsOf, IsTermOf}
use Rattle.ground_core.specs.Meaning.{Satisfies, MakesTrue, term_value, shifted, denotation_of_bound}
use Rattle.ground_core.specs.More.{Agree}
use Rattle.ground_core.proofs.Locals.{literal-local, value-local, satisfies-local}
use Rattle.ground_core.proofs.Whole.{clauses-satisfied, clauses-within}
use Rattle.derivation_log.specs.declared.entries.Entry.{Entry}
use Rattle.derivation_log.specs.declared.entries.Entry.TheVariants as entry
use Rattle.derivation_log.specs.declared.claims.Claim.{Claim}
use Rattle.derivation_log.specs.Steps.{CheckState, start, literal, with_borne, with_claim, after, after_all}
use Rattle.derivation_log.specs.Steps.{AreNumbered, SumCannotHold, BoundCannotHold, CannotHold, Cites, IsBelowSelector}
use Rattle.derivation_log.specs.Steps.{LogStep, Accepts}
use Rattle.derivation_log.specs.Claims.{ClaimHolds}
use Rattle.derivation_log.specs.Laws.{AcceptedLogsClaimTheTruth}
use Rattle.derivation_log.proofs.Valuations.{with_value, with_value-old, with_value-new}
use Rattle.derivation_log.proofs.Possible.{true-of, never-both, possible}

item-of : {X : Type 0} (P : X → Type 0) (xs : List X) (k : ℕ) (x : X) → All P xs → slice_get xs k ≡ Some x → P x
item-of P xs k x h is = All-contains P xs x h (k, slice_get_within xs k x is, get_or_from_slice_get xs k x x is)

-- whether the term is below the number
abbrev below_value : (ℕ → Bool) → Option GroundTerm → ExtInt → Bool
below_value w None k = true
below_value w (Some t) k = compared cmp.Lt (term_value w t) (denotation_of_bound k)

-- a selector is true exactly where its term is below its number
abbrev BoundSays : (ℕ → Bool) → List GroundTerm → TermBound → Type 0
BoundSays w terms b = literal_value w b.out ≡ below_value w (slice_get terms b.term) b.below

-- what the entries have borne holds in the valuation
record Holds (p : ProblemState) (st : CheckState) (w : ℕ → Bool) : Type 0 where
  satisfies : Satisfies p w
  clauses : All (IsSatisfied w) st.clauses
  bounds : All (BoundSays w p.terms) st.bounds

-- what is so after each step
record IsSound (p : ProblemState) (st : CheckState) : Type 0 where
  grows : p.vars ≤ st.vars
  clauses : All (AreLitsOf st.vars) st.clauses
  bounds : All (λ b. IsLitOf st.vars b.out) st.bounds
  extends : (v : ℕ → Bool) → Satisfies p v → (w : ℕ → Bool) × Agree p.vars v w × Holds p st w
  claims : All (ClaimHolds p) st.claims

lit-more : (m n : ℕ) → m ≤ n → (l : Lit) → IsLitOf m l → IsLitOf n l
lit-more m n le l h = let x : l.var.0 ≤ m = h.1 in (h.0, omega arith)

lits-more : (m n : ℕ) → m ≤ n → (ls : List Lit) → AreLitsOf m ls → AreLitsOf n ls
lits-more m n le ls h = All-weaker (IsLitOf m) (IsLitOf n) (lit-more m n le) ls h

clause-local : (n : ℕ) (v w : ℕ → Bool) → Agree n v w → (c : List Lit) → AreLitsOf n c → IsSatisfied v c
    → IsSatisfied w c
clause-local n v w agree c h s =
    let here : IsLitOf n s.1 = subst (IsLitOf n) s.3 (h s.0 s.1 s.2) in
    (s.0, s.1, s.2, s.3, sym (literal-local n v w agree s.1 here) ∙ s.4)

below-local : (n : ℕ) (v w : ℕ → Bool) → Agree n v w → (k : ExtInt) (o : Option GroundTerm)
    → ((t : GroundTerm) → o ≡ Some t → IsTermOf n t) → below_value v o k ≡ below_value w o k
below-local n v w agree k None h = refl
below-local n v w agree k (Some t) h = ap (λ d. compared cmp.Lt (shifted t.base d) (denotation_of_bound k))
    (value-local n v w agree t.kind t.parts (h t refl))

term-local : (p : ProblemState) → IsProblem p → (v w : ℕ → Bool) → Agree p.vars v w → (k : ExtInt) (i : ℕ)
    → below_value v (slice_get p.terms i) k ≡ below_value w (slice_get p.terms i) k
term-local p fine v w agree k i = below-local p.vars v w agree k (slice_get p.terms i)
    (λ t is. item-of (IsTermOf p.vars) p.terms i t fine.terms is)

-- a valuation in which all holds, with another value of the next variable
holds-with : (p : ProblemState) (st : CheckState) → IsProblem p → IsSound p st → (w : ℕ → Bool) (b : Bool)
    → Holds p st w → Agree p.vars w (with_value (st.vars + 1) b w) × Holds p st (with_value (st.vars + 1) b w)
holds-with p st fine is w b h =
    let u : ℕ → Bool = with_value (st.vars + 1) b w in
    let far : Agree st.vars w u = with_value-old st.vars b w in
    let near : Agree p.vars w u = λ k low high. far k low (let g : p.vars ≤ st.vars = is.grows in omega arith) in (
      near,
      record {
        satisfies = satisfies-local p w u fine near h.satisfies;
        clauses = λ k d lt. clause-local st.vars w u far (get_or st.clauses k d) (is.clauses k d lt) (h.clauses k d lt);
        bounds = λ k d lt.
            let x = get_or st.bounds k d in
            sym (literal-local st.vars w u far x.out (is.bounds k d lt)) ∙ h.bounds k d lt
            ∙ term-local p fine w u near x.below x.term;
      },
    )

-- a step that bears a clause which holds wherever all before does
borne : (p : ProblemState) (st : CheckState) (c : List Lit) → IsSound p st → AreLitsOf st.vars c
    → ((w : ℕ → Bool) → Holds p st w → IsSatisfied w c) → IsSound p (with_borne st c)
borne p st c is within so = record {
  grows = is.grows;
  clauses = All-push (AreLitsOf st.vars) st.clauses c is.clauses within;
  bounds = is.bounds;
  extends = λ v s. let x = is.extends v s in (
    x.0,
    x.1,
    record {
      satisfies = x.2.satisfies;
      clauses = All-push (IsSatisfied x.0) st.clauses c x.2.clauses (so x.0 x.2);
      bounds = x.2.bounds;
    },
  );
  claims = is.claims;
}

claimed : (p : ProblemState) (st : CheckState) (c : Claim) → IsSound p st → ClaimHolds p c → IsSound p (with_claim st c)
claimed p st c is so = record {
  grows = is.grows;
  clauses = is.clauses;
  bounds = is.bounds;
  extends = λ v s. let x =
      is.extends v s in (x.0, x.1, record { satisfies = x.2.satisfies; clauses = x.2.clauses; bounds = x.2.bounds });
  claims = All-push (ClaimHolds p) st.claims c is.claims so;
}

numbered : (w : ℕ → Bool) (clauses : List (List Lit)) (hs : List ℕ) (cs : List (List Lit)) → All (IsSatisfied w) clauses
    → AreNumbered clauses hs cs → All (IsSatisfied w) cs
numbered w clauses [] [] h n = All-nil (IsSatisfied w)
numbered w clauses [] (c ∷ cs) h n = absurd n
numbered w clauses (k ∷ hs) [] h n = absurd n
numbered w clauses (k ∷ hs) (c ∷ cs) h n = All-cons (IsSatisfied w) c cs
    (item-of (IsSatisfied w) clauses (k - 1) c h n.1) (numbered w clauses hs cs h n.2)

sum-fails : (w : ℕ → Bool) (s : AggCon) (inforce : List Lit) → MakesTrue w inforce
    → literal_value w s.out ≡ compared cmp.Ge (Rattle.ground_core.specs.Meaning.parts_value w s.kind s.parts)
    (denotation_of_bound s.least) → SumCannotHold inforce s → ⊥
sum-fails w s inforce h holds f = ⊎_elim
    (λ yes.
    let a = true-of w inforce s.out h yes.0 in
    let b = possible w inforce h s.kind s.parts (λ d. compared cmp.Ge d (denotation_of_bound s.least) ≡ false) yes.1 in
    cc)
    (λ no.
    let b = possible w inforce h s.kind s.parts (λ d. compared cmp.Ge d (denotation_of_bound s.least) ≡ true) no.1 in
    never-both w s.out (holds ∙ b) (true-of w inforce (negated s.out) h no.0))
    f

bound-fails : (w : ℕ → Bool) (terms : List GroundTerm) (b : TermBound) (t : GroundTerm) (inforce : List Lit)
    → MakesTrue w inforce → slice_get terms b.term ≡ Some t → BoundSays w terms b → BoundCannotHold inforce b t → ⊥
bound-fails w terms b t inforce h is says f =
    let on : literal_value w b.out ≡ true = true-of w inforce b.out h f.0 in
    let off : compared cmp.Lt (term_value w t) (denotation_of_bound b.below) ≡ false =
    possible w inforce h t.kind t.parts (λ d. compared cmp.Lt (shifted t.base d) (denotation_of_bound b.below)
    ≡ false) f.1 in
    let same : below_value w (slice_get terms b.term) b.below ≡ below_value w (Some t) b.below =
    ap (λ o. below_value w o b.below) is in
    let e : true ≡ false = sym on ∙ says ∙ same ∙ off in
    cc

-- some literal is true, or all negations are
some-or-none : (v : ℕ → Bool) (c : List Lit) → IsSatisfied v c ⊎ All (λ l. literal_value v l ≡ true) (map negated c)
some-or-none v [] = inr (All-nil (λ l. literal_value v l ≡ true))
some-or-none v (l ∷ c) = by_value (some-or-none v c) (literal_value v l) refl
  where
    by_value : (IsSatisfied v c ⊎ All (λ m. literal_value v m ≡ true) (map negated c)) → (b : Bool)
        → literal_value v l ≡ b → IsSatisfied v (l ∷ c) ⊎ All (λ m. literal_value v m ≡ true) (map negated (l ∷ c))
    by_value r true e = inl (0, l, omega arith, refl, e)
    by_value r false e = ⊎_elim
        (λ s. inl (suc s.0, s.1, omega (arith, s.2), s.3, s.4))
        (λ n. inr (All-cons (λ m. literal_value v m ≡ true) (negated l) (map negated c)
        (value-negated v l ∙ ap not e) n))
        r

-- what the entry names cannot hold, so its clause does
unheld : (p : ProblemState) (st : CheckState) (lits : List Lit) (n : ℕ) → CannotHold p st (map negated lits) n
    → (w : ℕ → Bool) → Holds p st w → IsSatisfied w lits
unheld p st lits n f w h = ⊎_elim (λ yes. yes) (λ none. absurd (⊎_elim
    (λ s. sum-fails w s.0 (map negated lits) none (item-of
    (Rattle.ground_core.specs.Meaning.SumHolds w) p.sums n s.0 h.satisfies.sums s.1) s.2)
    (λ s. bound-fails w p.terms s.2 s.4 (map negated lits) none s.5
    (item-of (BoundSays w p.terms) st.bounds s.0 s.2 h.bounds s.3) s.6)
    f)) (some-or-none w lits)

-- a cited clause has one of the other literals, where the literals are true
cited : (st : CheckState) (lits : List Lit) (Other : Lit → Type 0) (c : ℕ) (w : ℕ → Bool) → Cites st lits Other c
    → All (IsSatisfied w) st.clauses → MakesTrue w lits → (m : Lit) × Other m × (literal_value w m ≡ true)
cited st lits Other c w h s t = ⊎_elim
    (λ none. absurd (never-both w none.1.0 (true-of w lits none.1.0 t none.1.1)
    (true-of w lits (negated none.1.0) t none.1.2)))
    (λ some.
    let x = item-of (IsSatisfied w) st.clauses (c - 1) some.1 s some.2 in
    let m : Lit = x.1 in
    let is : Contains lits (negated m) ⊎ Other m = subst (λ (l : Lit). Contains lits (negated l) ⊎ Other l) x.3
    (some.3 x.0 x.1 x.2) in
    ⊎_elim (λ has. absurd (never-both w m x.4 (true-of w lits (negated m) t has))) (λ o. (m, o, x.4)) is)
    h

make-true-local : (n : ℕ) (v w : ℕ → Bool) → Agree n v w → (ls : List Lit) → AreLitsOf n ls → MakesTrue v ls
    → MakesTrue w ls
make-true-local n v w agree ls within h k d lt = sym (literal-local n v w agree (get_or ls k d) (within k d lt))
    ∙ h k d lt

-- what the claims need of a valuation: another in which the cited clause has one of the other literals
module _ (p : ProblemState) (st : CheckState) (fine : IsProblem p) (is : IsSound p st) where
  seen : (lits : List Lit) (Other : Lit → Type 0) (c : ℕ) → AreLitsOf (length p.atoms) lits → Cites st lits Other c
      → (v : ℕ → Bool) → Satisfies p v → MakesTrue v lits → (w : ℕ → Bool) × Agree p.vars v w × Holds p st w
      × ((m : Lit) × Other m × (literal_value w m ≡ true))
  seen lits Other c atoms cites v s t =
      let x = is.extends v s in (
        x.0,
        x.1,
        x.2,
        cited st lits Other c x.0 cites x.2.clauses
            (make-true-local p.vars v x.0 x.1 lits (lits-more (length p.atoms) p.vars fine.atoms lits atoms) t),
      )

  step : (e : Entry) → LogStep p st e → IsSound p (after st e)
  step (entry.Mark n) h = record {
    grows = is.grows;
    clauses = is.clauses;
    bounds = is.bounds;
    extends = λ v s. let x =
        is.extends v s in (x.0, x.1, record { satisfies = x.2.satisfies; clauses = x.2.clauses; bounds = x.2.bounds });
    claims = is.claims;
  }
  step (entry.Learnt lits hints) h = borne p st lits is h.0
      (λ w s. follows-sound w lits h.2.0 (numbered w st.clauses hints h.2.0 s.clauses h.2.1) h.2.2)
  step (entry.Sum n lits) h = borne p st lits is h.0 (unheld p st lits (n - 1) h.3)
  step (entry.Bound s t k) h =
      let out : Lit = literal s.0 in
      let new : TermBound = record { out = out; term = t - 1; below = k } in
      let g : p.vars ≤ st.vars = is.grows in
      let up : st.vars ≤ st.vars + 1 = omega arith in
      record {
        grows = omega arith;
        clauses = All-weaker (AreLitsOf st.vars) (AreLitsOf (st.vars + 1))
            (lits-more st.vars (st.vars + 1) up) st.clauses is.clauses;
        bounds = All-push (λ b. IsLitOf (st.vars + 1) b.out) st.bounds new
            (All-weaker (λ b. IsLitOf st.vars b.out) (λ b. IsLitOf (st.vars + 1) b.out)
            (λ b. lit-more st.vars (st.vars + 1) up b.out) st.bounds is.bounds)
            (omega (arith, h.0), omega (arith, h.0));
        extends = λ v r.
            let x = is.extends v r in
            let b : Bool = below_value x.0 (slice_get p.terms (t - 1)) k in
            let y = holds-with p st fine is x.0 b x.2 in
            let u : ℕ → Bool = with_value (st.vars + 1) b x.0 in
            let says : BoundSays u p.terms new = ap u h.0 ∙ with_value-new (st.vars + 1) b x.0
            ∙ term-local p fine x.0 u y.0 k (t - 1) in (
              u,
              λ i low high. x.1 i low high ∙ y.0 i low high,
              record {
                satisfies = y.1.satisfies;
                clauses = y.1.clauses;
                bounds = All-push (BoundSays u p.terms) st.bounds new y.1.bounds says;
              },
            );
        claims = is.claims;
      }
  step (entry.Exclude s lits) h =
      let out : Lit = negated (literal s.0) in
      let g : p.vars ≤ st.vars = is.grows in
      let up : st.vars ≤ st.vars + 1 = omega arith in
      record {
        grows = omega arith;
        clauses = All-push (AreLitsOf (st.vars + 1)) st.clauses (out ∷ lits)
            (All-weaker (AreLitsOf st.vars) (AreLitsOf (st.vars + 1))
            (lits-more st.vars (st.vars + 1) up) st.clauses is.clauses)
            (All-cons (IsLitOf (st.vars + 1)) out lits (omega (arith, h.0), omega (arith, h.0))
            (lits-more st.vars (st.vars + 1) up lits h.1));
        bounds = All-weaker (λ b. IsLitOf st.vars b.out) (λ b. IsLitOf (st.vars + 1) b.out)
            (λ b. lit-more st.vars (st.vars + 1) up b.out) st.bounds is.bounds;
        extends = λ v r.
            let x = is.extends v r in
            let y = holds-with p st fine is x.0 false x.2 in
            let u : ℕ → Bool = with_value (st.vars + 1) false x.0 in
            let off : literal_value u out ≡ true = ap not (ap u h.0 ∙ with_value-new (st.vars + 1) false x.0) in (
              u,
              λ i low high. x.1 i low high ∙ y.0 i low high,
              record {
                satisfies = y.1.satisfies;
                clauses =
                    All-push (IsSatisfied u) st.clauses (out ∷ lits) y.1.clauses (0, out, omega arith, refl, off);
                bounds = y.1.bounds;
              },
            );
        claims = is.claims;
      }
  step (entry.Inconsistent lits c) h = claimed p st _ is (λ v s t. (seen lits (λ m. ⊥) c h.0 h.1 v s t).3.1)
  step (entry.Forced l lits c) h = claimed p st _ is (λ v s t.
      let x = seen lits (λ m. m ≡ l) c h.1 h.2 v s t in
      literal-local p.vars v x.0 x.1 l (lit-more (length p.atoms) p.vars fine.atoms l h.0)
      ∙ ap (literal_value x.0) (sym x.3.1) ∙ x.3.2)
  step (entry.Least t k lits c) h = claimed p st _ is (λ v s r.
      let x = seen lits (IsBelowSelector st t k) c h.2 h.3 v s r in
      not-below x.0 (slice_get p.terms (t - 1)) v (term-local p fine v x.0 x.1 k (t - 1)) (
      let b = x.3.1 in
      let says : BoundSays x.0 p.terms b.0 = All-contains (BoundSays x.0 p.terms) st.bounds b.0 x.2.bounds b.1 in
      let off : literal_value x.0 b.0.out ≡ false = is-false x.0 b.0.out (ap (literal_value x.0) (sym b.4) ∙ x.3.2) in
      ap (λ i. below_value x.0 (slice_get p.terms i) k) (sym b.2)
      ∙ ap (below_value x.0 (slice_get p.terms b.0.term)) (sym b.3) ∙ sym says ∙ off))
    where
      is-false : (w : ℕ → Bool) (l : Lit) → literal_value w (negated l) ≡ true → literal_value w l ≡ false
      is-false w l e = flip (literal_value w l) (sym (value-negated w l) ∙ e)
        where
          flip : (b : Bool) → not b ≡ true → b ≡ false
          flip true e = cc
          flip false e = refl

      not-below : (w : ℕ → Bool) (o : Option GroundTerm) (v : ℕ → Bool) → below_value v o k ≡ below_value w o k
          → below_value w o k ≡ false → IfSome o (λ x. compared cmp.Lt (term_value v x) (denotation_of_bound k) ≡ false)
      not-below w None v e f = tt
      not-below w (Some x) v e f = e ∙ f

all-steps : (p : ProblemState) (st : CheckState) (log : List Entry) → IsProblem p → IsSound p st → Accepts p st log
    → IsSound p (after_all st log)
all-steps p st [] fine is h = is
all-steps p st (e ∷ es) fine is h = all-steps p (after st e) es fine (step p st fine is e h.0) h.1

start-sound : (p : ProblemState) → IsProblem p → IsSound p (start p)
start-sound p fine = record {
  grows = omega arith;
  clauses = clauses-within p fine;
  bounds = All-nil (λ b. IsLitOf p.vars b.out);
  extends = λ v s. (
    v,
    λ k low high. refl,
    record {
      satisfies = s;
      clauses = clauses-satisfied p v s;
      bounds = All-nil (BoundSays v p.terms);
    },
  );
  claims = All-nil (ClaimHolds p);
}

pub claims-true : AcceptedLogsClaimTheTruth
claims-true p log fine h = (all-steps p (start p) log fine (start-sound p fine) h).claims
