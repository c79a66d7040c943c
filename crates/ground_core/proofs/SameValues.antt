-- Only the literals that are there matter.
use Rattle.std.proofs.Common.{◌≡◌, ℕ, Bool, true, false, List, [], ◌∷◌, if◌then◌else◌, All, map}
use Rattle.std.proofs.Common.{filter, Option, Some, None, IfSome, refl, sym, ap, ◌∙◌, subst}
use Rattle.std.specs.List.{list_all, list_any}
use Rattle.std.proofs.lemmas.List.Elements.{All-head, All-tail}
use Rattle.kb_logic.specs.Denotations.{number, compared}
use Rattle.kb_logic.specs.declared.syntax.AggKind.{AggKind}
use Rattle.kb_logic.specs.declared.syntax.Cmp.TheVariants as cmp
use Rattle.lit_core.specs.declared.literals.Lit.{Lit}
use Rattle.lit_core.specs.Literals.{literal_value}
use Rattle.lit_core.specs.Truth.{IsSatisfied}
use Rattle.ground_core.specs.declared.parts.Gate.{Gate}
use Rattle.ground_core.specs.declared.parts.Part.{Part}
use Rattle.ground_core.specs.declared.parts.AggCon.{AggCon}
use Rattle.ground_core.specs.declared.parts.GroundTerm.{GroundTerm}
use Rattle.ground_core.specs.declared.parts.TermBound.{TermBound}
use Rattle.ground_core.specs.Meaning.{joined, weights_of, parts_value, denotation_of_bound, shifted, term_value}
use Rattle.ground_core.specs.Meaning.{GateHolds}
use Rattle.ground_core.specs.Meaning.{SumHolds}

module _ (P : Lit → Type 0) (v w : ℕ → Bool) (same : (l : Lit) → P l → literal_value v l ≡ literal_value w l) where
  all-same : (ls : List Lit) → All P ls → list_all (literal_value v) ls ≡ list_all (literal_value w) ls
  all-same [] h = refl
  all-same (l ∷ ls) h =
      let here = same l (All-head P l ls h) in
      let rest = all-same ls (All-tail P l ls h) in cc

  any-same : (ls : List Lit) → All P ls → list_any (literal_value v) ls ≡ list_any (literal_value w) ls
  any-same [] h = refl
  any-same (l ∷ ls) h =
      let here = same l (All-head P l ls h) in
      let rest = any-same ls (All-tail P l ls h) in cc

  pub joined-same : (all : Bool) (ls : List Lit) → All P ls → joined all v ls ≡ joined all w ls
  joined-same true ls h = all-same ls h
  joined-same false ls h = any-same ls h

  pub clause-same : (c : List Lit) → All P c → IsSatisfied v c → IsSatisfied w c
  clause-same c h s =
      let here : P s.1 = subst P s.3 (h s.0 s.1 s.2) in
      (s.0, s.1, s.2, s.3, sym (same s.1 here) ∙ s.4)

  weights-more : (p : Part) (ps : List Part) (a b : Bool) → a ≡ b → weights_of v ps ≡ weights_of w ps
      → map (λ (q : Part). number q.weight) (if a then p ∷ filter (λ (q : Part). literal_value v q.lit) ps else
      filter (λ (q : Part). literal_value v q.lit) ps) ≡ map (λ (q : Part). number q.weight) (if b then
      p ∷ filter (λ (q : Part). literal_value w q.lit) ps else filter (λ (q : Part). literal_value w q.lit) ps)
  weights-more p ps true true e r = ap (λ ds. number p.weight ∷ ds) r
  weights-more p ps true false e r = cc
  weights-more p ps false true e r = cc
  weights-more p ps false false e r = r

  weights-same : (ps : List Part) → All (λ (p : Part). P p.lit) ps → weights_of v ps ≡ weights_of w ps
  weights-same [] h = refl
  weights-same (p ∷ ps) h =
      let Q : Part → Type 0 = λ (q : Part). P q.lit in
      weights-more p ps (literal_value v p.lit) (literal_value w p.lit) (same p.lit (All-head Q p ps h))
      (weights-same ps (All-tail Q p ps h))

  pub value-same : (kind : AggKind) (ps : List Part) → All (λ (p : Part). P p.lit) ps → parts_value v kind ps
      ≡ parts_value w kind ps
  value-same kind ps h = let e = weights-same ps h in cc

  pub gate-same : (g : Gate) → P g.out → All P g.parts → GateHolds v g → GateHolds w g
  gate-same g out parts s = sym (same g.out out) ∙ s ∙ joined-same g.all g.parts parts

  pub sum-same : (s : AggCon) → P s.out → All (λ (p : Part). P p.lit) s.parts → SumHolds v s → SumHolds w s
  sum-same s out parts t =
      sym (same s.out out) ∙ t ∙ ap (λ d. compared cmp.Ge d (denotation_of_bound s.least))
      (value-same s.kind s.parts parts)

  pub below-same : (b : TermBound) (o : Option GroundTerm)
      → ((t : GroundTerm) → o ≡ Some t → All (λ (p : Part). P p.lit) t.parts)
      → IfSome o (λ t. compared cmp.Lt (term_value v t) (denotation_of_bound b.below) ≡ true)
      → IfSome o (λ t. compared cmp.Lt (term_value w t) (denotation_of_bound b.below) ≡ true)
  below-same b None h s = s
  below-same b (Some t) h s =
      let e : parts_value v t.kind t.parts ≡ parts_value w t.kind t.parts = value-same t.kind t.parts (h t refl) in
      ap (λ d. compared cmp.Lt (shifted t.base d) (denotation_of_bound b.below)) (sym e) ∙ s
