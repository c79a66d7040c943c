-- The value that a valuation gives is one of the possible ones.
use Rattle.std.proofs.Common.{◌≡◌, ℕ, Bool, true, false, not, List, [], ◌∷◌, map, filter, if◌then◌else◌, refl, sym, ap}
use Rattle.std.proofs.Common.{◌∙◌, subst, Contains}
use Rattle.std.proofs.lemmas.List.Elements.{All-contains}
use Rattle.kb_logic.specs.declared.syntax.AggKind.{AggKind}
use Rattle.kb_logic.specs.Denotations.{Denotation, number, aggregate_value}
use Rattle.lit_core.specs.declared.literals.Lit.{Lit}
use Rattle.lit_core.specs.Literals.{literal_value, negated}
use Rattle.lit_core.proofs.Soundness.{value-negated}
use Rattle.ground_core.specs.declared.parts.Part.{Part}
use Rattle.ground_core.specs.Meaning.{weights_of, parts_value, MakesTrue}
use Rattle.derivation_log.specs.Steps.{may_be, MayCount, counted_weights, EachPossible}

pub true-of : (v : ℕ → Bool) (ls : List Lit) (l : Lit) → MakesTrue v ls → Contains ls l → literal_value v l ≡ true
true-of v ls l h has = All-contains (λ x. literal_value v x ≡ true) ls l h has

pub never-both : (v : ℕ → Bool) (l : Lit) → literal_value v l ≡ true → literal_value v (negated l) ≡ true → ⊥
never-both v l a b = let c : true ≡ not true = sym b ∙ value-negated v l ∙ ap not a in cc

module _ (w : ℕ → Bool) (inforce : List Lit) (h : MakesTrue w inforce) where
  may : (l : Lit) (b : Bool) → literal_value w l ≡ b → may_be inforce l b
  may l true e = λ has. never-both w l e (true-of w inforce (negated l) h has)
  may l false e = λ has. let t = true-of w inforce l h has in cc

  abbrev taken : List Part → List Bool
  taken ps = map (λ (p : Part). literal_value w p.lit) ps

  may-count : (ps : List Part) → MayCount inforce ps (taken ps)
  may-count [] = tt
  may-count (p ∷ ps) = (may p.lit (literal_value w p.lit) refl, may-count ps)

  weights-more : (p : Part) (ps : List Part) (ds : List Bool) (b : Bool) → counted_weights ps ds ≡ weights_of w ps
      → counted_weights (p ∷ ps) (b ∷ ds) ≡ map (λ (q : Part). number q.weight)
      (if b then p ∷ filter (λ (q : Part). literal_value w q.lit) ps else filter
      (λ (q : Part). literal_value w q.lit) ps)
  weights-more p ps ds true e = ap (λ xs. number p.weight ∷ xs) e
  weights-more p ps ds false e = e

  weights : (ps : List Part) → counted_weights ps (taken ps) ≡ weights_of w ps
  weights [] = refl
  weights (p ∷ ps) = weights-more p ps (taken ps) (literal_value w p.lit) (weights ps)

  pub possible : (kind : AggKind) (ps : List Part) (P : Denotation → Type 0) → EachPossible inforce kind ps P
      → P (parts_value w kind ps)
  possible kind ps P each = subst (λ ws. P (aggregate_value kind ws)) (weights ps) (each (taken ps) (may-count ps))
