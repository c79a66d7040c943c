-- Where every literal has a value, the interval is the value.
use Rattle.std.proofs.Common.{◌≡◌, ℕ, Bool, true, false, if◌then◌else◌, Option, Some, None, List, [], ◌∷◌, map, filter}
use Rattle.std.proofs.Common.{All, refl, sym, ap, ◌∙◌}
use Rattle.std.proofs.lemmas.List.Elements.{All-head, All-tail}
use Rattle.kb_logic.specs.declared.syntax.AggKind.{AggKind}
use Rattle.kb_logic.specs.Denotations.{number, aggregate_value}
use Rattle.lit_core.specs.Literals.{literal_value}
use Rattle.ground_core.specs.declared.parts.Part.{Part}
use Rattle.ground_core.specs.Meaning.{parts_value}
use Rattle.ground_core.specs.Intervals.{known_of, in_least, in_greatest, least_choice, greatest_choice}
use Rattle.ground_core.specs.Intervals.{least_possible, greatest_possible, reaches, refuted_by}
use Rattle.aggregate_propagators.specs.Laws.{QuietIsEnough}

module _ (a : ℕ → Option Bool) (v : ℕ → Bool) where
  abbrev IsDecided : Part → Type 0
  IsDecided p = known_of a p.lit ≡ Some (literal_value v p.lit)

  both : (t u : Bool) (p : Part) (xs ys : List Part) → t ≡ u → xs ≡ ys
      → (if t then p ∷ xs else xs) ≡ (if u then p ∷ ys else ys)
  both t u p xs ys e f = cc

  least-all : (k : AggKind) (ps : List Part) → All IsDecided ps → filter (least_choice a k) ps ≡ filter
      (λ (p : Part). literal_value v p.lit) ps
  least-all k [] h = refl
  least-all k (p ∷ ps) h = both (least_choice a k p) (literal_value v p.lit) p _ _
      (ap (in_least k p.weight) (All-head IsDecided p ps h)) (least-all k ps (All-tail IsDecided p ps h))

  greatest-all : (k : AggKind) (ps : List Part) → All IsDecided ps → filter (greatest_choice a k) ps ≡ filter
      (λ (p : Part). literal_value v p.lit) ps
  greatest-all k [] h = refl
  greatest-all k (p ∷ ps) h = both (greatest_choice a k p) (literal_value v p.lit) p _ _
      (ap (in_greatest k p.weight) (All-head IsDecided p ps h)) (greatest-all k ps (All-tail IsDecided p ps h))

by-result : (o : Option Bool) (x l h r : Bool) → o ≡ Some x → l ≡ r → h ≡ r → refuted_by o l h ≡ false → x ≡ r
by-result None x l h r e f g q = cc
by-result (Some true) true l true r e f g q = g
by-result (Some true) true l false r e f g q = cc
by-result (Some true) false l h r e f g q = cc
by-result (Some false) true l h r e f g q = cc
by-result (Some false) false l h r e f g q = sym q ∙ f

pub quiet-is-enough : QuietIsEnough
quiet-is-enough a v c all q =
    by-result (known_of a c.out) (literal_value v c.out) (reaches c.least (least_possible a c.kind c.parts))
    (reaches c.least (greatest_possible a c.kind c.parts)) (reaches c.least (parts_value v c.kind c.parts))
    all.0
    (ap (λ ps. reaches c.least (aggregate_value c.kind (map (λ (p : Part). number p.weight) ps)))
    (least-all a v c.kind c.parts all.1))
    (ap (λ ps. reaches c.least (aggregate_value c.kind (map (λ (p : Part). number p.weight) ps)))
    (greatest-all a v c.kind c.parts all.1))
    q
