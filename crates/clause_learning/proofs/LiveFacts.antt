-- Valuations in which the outputs of wider bounds are true, too.
use Rattle.std.proofs.Common.{◌≡◌, ℕ, ◌<◌, Bool, true, false, not, Option, Some, None, IfSome, List, [], ◌∷◌}
use Rattle.std.proofs.Common.{◌++◌}
use Rattle.std.proofs.Common.{if◌then◌else◌, All, Contains, get_or, length, map, filter, slice_get, refl, sym, ap}
use Rattle.std.proofs.Common.{◌∙◌, subst, ◌⊎◌, inl, inr, ⊎_elim, arith}
use Rattle.std.specs.List.{list_all, list_any}
use Rattle.std.proofs.lemmas.Bool.{cases_eq, ne_eqb}
use Rattle.std.proofs.lemmas.List.{get_or_default}
use Rattle.std.proofs.lemmas.Option.{get_or_from_slice_get, slice_get_within}
use Rattle.std.proofs.lemmas.List.Elements.{All-contains, All-head, All-tail}
use Rattle.std.proofs.lemmas.List.Elements.{Contains-append_cases}
use Rattle.kb_logic.specs.declared.syntax.Cmp.TheVariants as cmp
use Rattle.kb_logic.specs.Denotations.{compared, number}
use Rattle.lit_core.specs.declared.literals.Lit.{Lit}
use Rattle.lit_core.specs.Literals.{by_sign, literal_value, negated, valuation}
use Rattle.lit_core.specs.Truth.{IsSatisfied}
use Rattle.lit_core.proofs.LiteralFacts.{Contains-cons_cases, Contains-tail, nothing_in_none, same_literal}
use Rattle.ground_core.specs.declared.parts.AggCon.{AggCon}
use Rattle.ground_core.specs.declared.parts.Gate.{Gate}
use Rattle.ground_core.specs.declared.parts.GroundTerm.{GroundTerm}
use Rattle.ground_core.specs.declared.parts.Part.{Part}
use Rattle.ground_core.specs.declared.parts.TermBound.{TermBound}
use Rattle.ground_core.specs.declared.solving.Verdict.TheVariants.{Sat, Unsat}
use Rattle.ground_core.specs.Problems.{ProblemState}
use Rattle.ground_core.specs.Meaning.{BoundHolds, GateHolds, MakesTrue, RefutesAll, Satisfies, SumHolds}
use Rattle.ground_core.specs.Meaning.{joined, denotation_of_bound, parts_value, shifted, term_value, weights_of}
use Rattle.ground_core.specs.Growing.{IsApart}
use Rattle.ground_core.specs.Solving.{Answers, IsSublist}
use Rattle.ground_core.proofs.Valuations.{with_value, with_value-new}
use Rattle.ground_core.proofs.CoreFacts.{sublist-within}
use Rattle.ground_core.proofs.Fronts.{All-front}
use Rattle.std.specs.Prelude.{Result, Ok, Err, IfOk}
use Rattle.search_engine.specs.declared.lit_sets.LitSet.{LitSet}
use Rattle.search_engine.specs.LitSets.{HasLit}
use Rattle.search_engine.specs.Cores.{IsCoreOf}
use Rattle.term_bounds.specs.Amounts.{is_under}
use Rattle.clause_learning.specs.LiveBounds.{IsLive, IsNarrowed, IsOutputOfWider}

get_or_itself : {X : Type 0} (xs : List X) (k : ℕ) (d : X) → k < length xs → get_or xs k (get_or xs k d) ≡ get_or xs k d
get_or_itself xs k d lt = get_or_default xs k (get_or xs k d) d lt

-- only the values of the literals that stand there matter
module _ (v w : ℕ → Bool) (Here : Lit → Type 0) (same : (l : Lit) → Here l
    → literal_value v l ≡ literal_value w l) where
  all-same : (ls : List Lit) → All Here ls → list_all (literal_value v) ls ≡ list_all (literal_value w) ls
  all-same [] h = refl
  all-same (l ∷ ls) h =
      let here = same l (All-head Here l ls h) in
      let rest = all-same ls (All-tail Here l ls h) in cc

  any-same : (ls : List Lit) → All Here ls → list_any (literal_value v) ls ≡ list_any (literal_value w) ls
  any-same [] h = refl
  any-same (l ∷ ls) h =
      let here = same l (All-head Here l ls h) in
      let rest = any-same ls (All-tail Here l ls h) in cc

  joined-same : (all : Bool) (ls : List Lit) → All Here ls → joined all v ls ≡ joined all w ls
  joined-same true ls h = all-same ls h
  joined-same false ls h = any-same ls h

  gate-same : (g : Gate) → Here g.out → All Here g.parts → GateHolds v g → GateHolds w g
  gate-same g out parts s = sym (same g.out out) ∙ s ∙ joined-same g.all g.parts parts

  clause-same : (c : List Lit) → All Here c → IsSatisfied v c → IsSatisfied w c
  clause-same c h s =
      let here : Here s.1 = subst Here s.3 (h s.0 s.1 s.2) in
      (s.0, s.1, s.2, s.3, sym (same s.1 here) ∙ s.4)

  weights-more : (p : Part) (ps : List Part) (a b : Bool) → a ≡ b → weights_of v ps ≡ weights_of w ps
      → map (λ (q : Part). number q.weight) (if a then p ∷ filter (λ (q : Part). literal_value v q.lit) ps else
      filter (λ (q : Part). literal_value v q.lit) ps) ≡ map (λ (q : Part). number q.weight) (if b then
      p ∷ filter (λ (q : Part). literal_value w q.lit) ps else filter (λ (q : Part). literal_value w q.lit) ps)
  weights-more p ps true true e r = ap (λ ds. number p.weight ∷ ds) r
  weights-more p ps true false e r = cc
  weights-more p ps false true e r = cc
  weights-more p ps false false e r = r

  weights-same : (ps : List Part) → All (λ (u : Part). Here u.lit) ps → weights_of v ps ≡ weights_of w ps
  weights-same [] h = refl
  weights-same (p ∷ ps) h = weights-more p ps (literal_value v p.lit) (literal_value w p.lit)
      (same p.lit (All-head (λ (u : Part). Here u.lit) p ps h))
      (weights-same ps (All-tail (λ (u : Part). Here u.lit) p ps h))

  sum-same : (s : AggCon) → Here s.out → All (λ (u : Part). Here u.lit) s.parts → SumHolds v s → SumHolds w s
  sum-same s out parts h =
      let e = weights-same s.parts parts in
      let f : parts_value v s.kind s.parts ≡ parts_value w s.kind s.parts = cc in
      sym (same s.out out) ∙ h ∙ ap (λ d. compared cmp.Ge d (denotation_of_bound s.least)) f

  term-same : (t : GroundTerm) → All (λ (u : Part). Here u.lit) t.parts → term_value v t ≡ term_value w t
  term-same t h = let e = weights-same t.parts h in
      let f : parts_value v t.kind t.parts ≡ parts_value w t.kind t.parts = cc in ap (shifted t.base) f

-- the valuation with these literals' variables true
abbrev pub raised : List Lit → (ℕ → Bool) → ℕ → Bool
raised [] v = v
raised (l ∷ ls) v = with_value l.var.0 true (raised ls v)

value-other : (n : ℕ) (v : ℕ → Bool) (k : ℕ) → (k ≡ n → ⊥) → with_value n true v k ≡ v k
value-other n v k not_same = ap (λ (c : Bool). if c then true else v k) (ne_eqb k n not_same)

-- a variable is that of one of them, and true, or has its value
raised-cases : (ls : List Lit) (v : ℕ → Bool) (k : ℕ) → ((l : Lit) × Contains ls l × (l.var.0 ≡ k)
    × (raised ls v k ≡ true)) ⊎ (raised ls v k ≡ v k)
raised-cases [] v k = inr refl
raised-cases (l ∷ ls) v k = ⊎_elim
    (λ (e : k ≡ l.var.0). inl (
      l,
      (0, omega arith, refl),
      sym e,
      ap (with_value l.var.0 true (raised ls v)) e ∙ with_value-new l.var.0 true (raised ls v),
    ))
    (λ (n : k ≡ l.var.0 → ⊥).
    let other : with_value l.var.0 true (raised ls v) k ≡ raised ls v k = value-other l.var.0 (raised ls v) k n in
    ⊎_elim
    (λ (w : (m : Lit) × Contains ls m × (m.var.0 ≡ k) × (raised ls v k ≡ true)).
    inl (w.0, Contains-tail l ls w.0 w.1, w.2, other ∙ w.3))
    (λ e. inr (other ∙ e))
    (raised-cases ls v k))
    (cases_eq k l.var.0)

raised-in : (ls : List Lit) (v : ℕ → Bool) (m : Lit) → Contains ls m → raised ls v m.var.0 ≡ true
raised-in [] v m has = absurd (nothing_in_none m has)
raised-in (l ∷ ls) v m has = ⊎_elim
    (λ (e : m.var.0 ≡ l.var.0). ap (with_value l.var.0 true (raised ls v)) e ∙ with_value-new l.var.0 true
    (raised ls v))
    (λ (n : m.var.0 ≡ l.var.0 → ⊥). value-other l.var.0 (raised ls v) m.var.0 n ∙ ⊎_elim
    (λ (e : l ≡ m). absurd (n (ap (λ (x : Lit). x.var.0) (sym e))))
    (λ more. raised-in ls v m more)
    (Contains-cons_cases l ls m has))
    (cases_eq m.var.0 l.var.0)

-- where the outputs of some live bounds are made true, and the tighter bounds are true
module _ (p : ProblemState) (more : List Lit) (v : ℕ → Bool)
    (outs : (l : Lit) → Contains more l → (b : TermBound) × (b.out ≡ l) × IsLive p b × ((tight : TermBound)
    × Contains p.bounds tight × (literal_value v tight.out ≡ true) × (tight.term ≡ b.term) × ((t : GroundTerm)
    → is_under tight.below (term_value v t) ≡ true → is_under b.below (term_value v t) ≡ true))) where
  abbrev w : ℕ → Bool
  w = raised more v

  abbrev Far : Lit → Type 0
  Far m = (l : Lit) → Contains more l → IsApart l m

  same-far : (m : Lit) → Far m → literal_value v m ≡ literal_value w m
  same-far m far = ⊎_elim
      (λ (x : (l : Lit) × Contains more l × (l.var.0 ≡ m.var.0) × (w m.var.0 ≡ true)).
      absurd (far x.0 x.1 (sym x.2)))
      (λ e. ap (by_sign m.positive) (sym e))
      (raised-cases more v m.var.0)

  apart-from : (l m : Lit) (b : TermBound) → b.out ≡ l → IsApart b.out m → IsApart l m
  apart-from l m b e h = subst (λ (x : Lit). IsApart x m) e h

  terms-far : All (λ (t : GroundTerm). All (λ (u : Part). Far u.lit) t.parts) p.terms
  terms-far k d lt j e less l has = let b = outs l has in
      apart-from l (get_or (get_or p.terms k d).parts j e).lit b.0 b.1 (b.2.terms k d lt j e less)

  under-same : (o : Option GroundTerm) (b : TermBound) → ((t : GroundTerm) → o ≡ Some t → Contains p.terms t)
      → IfSome o (λ t. is_under b.below (term_value v t) ≡ true)
      → IfSome o (λ t. is_under b.below (term_value w t) ≡ true)
  under-same None b h s = s
  under-same (Some t) b h s =
      let far : All (λ (u : Part). Far u.lit) t.parts = All-contains (λ (x : GroundTerm). All (λ (u : Part). Far u.lit)
      x.parts) p.terms t terms-far (h t refl) in
      ap (is_under b.below) (sym (term-same v w Far same-far t far)) ∙ s

  lower : (o : Option GroundTerm) (b tight : TermBound) → ((t : GroundTerm) → is_under tight.below (term_value v t)
      ≡ true → is_under b.below (term_value v t) ≡ true) → IfSome o (λ t. is_under tight.below (term_value v t) ≡ true)
      → IfSome o (λ t. is_under b.below (term_value v t) ≡ true)
  lower None b tight less s = s
  lower (Some t) b tight less s = less t s

  in-terms : (k : ℕ) (t : GroundTerm) → slice_get p.terms k ≡ Some t → Contains p.terms t
  in-terms k t is = (k, slice_get_within p.terms k t is, get_or_from_slice_get p.terms k t t is)

  bound-raised : Satisfies p v → (c : TermBound) → Contains p.bounds c → BoundHolds w p.terms c
  bound-raised s c has on = under-same (slice_get p.terms c.term) c (in-terms c.term) (⊎_elim
      (λ (x : (l : Lit) × Contains more l × (l.var.0 ≡ c.out.var.0) × (w c.out.var.0 ≡ true)).
      let o = outs x.0 x.1 in
      let b : TermBound = o.0 in
      let is : c ≡ b = All-contains (λ (d : TermBound). d.out.var.0 ≡ b.out.var.0 → d ≡ b) p.bounds c o.2.bounds has
      (sym x.2 ∙ ap (λ (y : Lit). y.var.0) (sym o.1)) in
      let held : BoundHolds v p.terms o.3.0 = All-contains (BoundHolds v p.terms) p.bounds o.3.0 s.bounds o.3.1 in
      let under : IfSome (slice_get p.terms b.term) (λ t. is_under o.3.0.below (term_value v t) ≡ true) =
      subst (λ (n : ℕ). IfSome (slice_get p.terms n) (λ t. is_under o.3.0.below (term_value v t) ≡ true)) o.3.3
      (held o.3.2) in
      subst (λ (d : TermBound). IfSome (slice_get p.terms d.term) (λ t. is_under d.below (term_value v t) ≡ true))
      (sym is) (lower (slice_get p.terms b.term) b o.3.0 o.3.4 under))
      (λ e. All-contains (BoundHolds v p.terms) p.bounds c s.bounds has (ap (by_sign c.out.positive) (sym e) ∙ on))
      (raised-cases more v c.out.var.0))

  pub raised-satisfies : Satisfies p v → Satisfies p w
  raised-satisfies s = record {
    gates = λ k d lt. gate-same v w Far same-far (get_or p.gates k d)
        (λ l has. let b = outs l has in apart-from l (get_or p.gates k d).out b.0 b.1 (b.2.gates k d lt).0)
        (λ j e less l has. let b = outs l has in
        apart-from l (get_or (get_or p.gates k d).parts j e) b.0 b.1 ((b.2.gates k d lt).1 j e less))
        (s.gates k d lt);
    clauses = λ k d lt. clause-same v w Far same-far (get_or p.clauses k d)
        (λ j e less l has. let b = outs l has in
        apart-from l (get_or (get_or p.clauses k d) j e) b.0 b.1 (b.2.clauses k d lt j e less))
        (s.clauses k d lt);
    sums = λ k d lt. sum-same v w Far same-far (get_or p.sums k d)
        (λ l has. let b = outs l has in apart-from l (get_or p.sums k d).out b.0 b.1 (b.2.sums k d lt).0)
        (λ j e less l has. let b = outs l has in
        apart-from l (get_or (get_or p.sums k d).parts j e).lit b.0 b.1 ((b.2.sums k d lt).1 j e less))
        (s.sums k d lt);
    bounds = λ k d lt. bound-raised s (get_or p.bounds k d) (k, lt, get_or_itself p.bounds k d lt);
    retired = λ k d lt. sym (same-far (get_or p.retired k d) (λ l has. let b = outs l has in
        apart-from l (get_or p.retired k d) b.0 b.1 (b.2.retired k d lt))) ∙ s.retired k d lt;
  }

positive-or : (l m : Lit) (b : Bool) → m.positive ≡ b → l.positive ≡ true → l.var.0 ≡ m.var.0 → (m ≡ l)
    ⊎ (m ≡ negated l)
positive-or l m true e f same = inl (same_literal m l (sym same) (e ∙ sym f))
positive-or l m false e f same = inr (same_literal m (negated l) (sym same) (e ∙ ap not (sym f)))

-- what is left of a core where the outputs of wider bounds are left out
module _ (p : ProblemState) (live : List TermBound) (assumed more core narrow : List Lit)
    (fine : All (IsLive p) live) (wider : All (IsOutputOfWider live assumed) more)
    (is : IsNarrowed live assumed core narrow) (sub : IsSublist core (assumed ++ more)) where
  pub narrow-refuted : RefutesAll p core → RefutesAll p narrow
  narrow-refuted refuted v s make = refuted (raised more v) (raised-satisfies p more v outs s) all-true
    where
      of : (l : Lit) → Contains more l → IsOutputOfWider live assumed l
      of l has = All-contains (IsOutputOfWider live assumed) more l wider has

      on : (l : Lit) → Contains narrow l → literal_value v l ≡ true
      on l has = All-contains (λ m. literal_value v m ≡ true) narrow l make has

      outs : (l : Lit) → Contains more l → (b : TermBound) × (b.out ≡ l) × IsLive p b × ((tight : TermBound)
          × Contains p.bounds tight × (literal_value v tight.out ≡ true) × (tight.term ≡ b.term) × ((t : GroundTerm)
          → is_under tight.below (term_value v t) ≡ true → is_under b.below (term_value v t) ≡ true))
      outs l has =
          let b = of l has in (
            b.0,
            b.1,
            All-contains (IsLive p) live b.0 fine b.2.among,
            (
              b.2.tight,
              (All-contains (IsLive p) live b.2.tight fine b.2.tight_among).there,
              on b.2.tight.out (is.outputs b.2.tight b.2.tight_among b.2.tight_assumed),
              b.2.follows.0,
              λ t. b.2.follows.1 (term_value v t),
            ),
          )

      of-more : (m : Lit) → Contains more m → literal_value (raised more v) m ≡ true
      of-more m has =
          let b = of m has in
          let up : m.positive ≡ true = ap (λ (x : Lit). x.positive) (sym b.1)
          ∙ (All-contains (IsLive p) live b.0 fine b.2.among).positive in
          ap (λ (s : Bool). by_sign s (raised more v m.var.0)) up ∙ raised-in more v m has

      of-assumed : (m : Lit) → Contains assumed m → literal_value v m ≡ true
          → literal_value (raised more v) m ≡ true
      of-assumed m has is_true = ⊎_elim
          (λ (x : (l : Lit) × Contains more l × (l.var.0 ≡ m.var.0) × (raised more v m.var.0 ≡ true)).
          let b = of x.0 x.1 in
          let same : b.0.out.var.0 ≡ m.var.0 = ap (λ (y : Lit). y.var.0) b.1 ∙ x.2 in
          ⊎_elim
          (λ (e : m ≡ b.0.out). of-more m (subst (Contains more) (sym (e ∙ b.1)) x.1))
          (λ (e : m ≡ negated b.0.out). absurd (b.2.open_yet (subst (Contains assumed) e has)))
          (positive-or b.0.out m m.positive refl (All-contains (IsLive p) live b.0 fine b.2.among).positive same))
          (λ e. ap (by_sign m.positive) e ∙ is_true)
          (raised-cases more v m.var.0)

      all-true : MakesTrue (raised more v) core
      all-true k d lt =
          let m : Lit = get_or core k d in
          let here : Contains core m = (k, lt, get_or_itself core k d lt) in
          ⊎_elim
          (λ has. of-assumed m has (on m (is.covers m has here)))
          (λ has. of-more m has)
          (Contains-append_cases assumed more m (All-contains (Contains (assumed ++ more)) core m
          (sublist-within core (assumed ++ more) sub) here))

-- the answer on what is assumed, from one on more
pub sat-narrow : (p : ProblemState) (assumed more : List Lit) (values : List Bool) → Answers p (assumed ++ more)
    (Sat values) → Answers p assumed (Sat values)
sat-narrow p assumed more values h = (
  h.0,
  h.1,
  All-front (λ l. literal_value (valuation values) l ≡ true) assumed more h.2,
)

pub unsat-narrow : (p : ProblemState) (live : List TermBound) (assumed more core narrow : List Lit)
    → All (IsLive p) live → All (IsOutputOfWider live assumed) more → IsNarrowed live assumed core narrow
    → Answers p (assumed ++ more) (Unsat core) → Answers p assumed (Unsat narrow)
unsat-narrow p live assumed more core narrow fine wider is h = (
  is.sublist,
  narrow-refuted p live assumed more core narrow fine wider is h.0 h.1,
)

-- the assumptions that are in a set with the core and all outputs
pub narrowed-if-ok : {E : Type 0} (live : List TermBound) (assumed core : List Lit) (blamed : LitSet)
    (r : Result (List Lit) E) → ((m : Lit) → Contains core m → HasLit blamed m)
    → All (λ (b : TermBound). HasLit blamed b.out) live → IfOk r (IsCoreOf assumed blamed)
    → IfOk r (IsNarrowed live assumed core)
narrowed-if-ok live assumed core blamed (Err e) has outs h = tt
narrowed-if-ok live assumed core blamed (Ok narrow) has outs h = record {
  sublist = h.sublist;
  covers = λ l among in_core. h.covers l among (has l in_core);
  outputs = λ b among in_assumed. h.covers b.out in_assumed (All-contains
      (λ (c : TermBound). HasLit blamed c.out) live b
      outs among);
}
