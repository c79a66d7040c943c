-- Where each variable stands in one part, some valuation makes just the parts true that an end of the interval counts.
use Rattle.std.proofs.Common.{◌≡◌, ℕ, ℤ, nat_eq, Bool, true, false, if◌then◌else◌, Option, Some, None, List, [], ◌∷◌}
use Rattle.std.proofs.Common.{map, filter, refl, sym, ap, ◌∙◌, arith}
use Rattle.std.specs.List.{AllByRecursion}
use Rattle.std.proofs.lemmas.Bool.Decides.{nat_tests}
use Rattle.kb_logic.specs.declared.syntax.AggKind.{AggKind}
use Rattle.kb_logic.specs.Denotations.{number, aggregate_value}
use Rattle.lit_core.specs.Literals.{by_sign, by_sign_if_any, literal_value}
use Rattle.ground_core.specs.declared.parts.Part.{Part}
use Rattle.ground_core.specs.Intervals.{known_of, in_least, in_greatest, least_choice, greatest_choice}
use Rattle.ground_core.specs.Intervals.{Extends}
use Rattle.aggregate_propagators.specs.Laws.{HasVarsOnce, EndsAreAttained}

abbrev or_else : Option Bool → Bool → Bool
or_else (Some b) x = b
or_else None x = x

-- the part's literal is as the choice says, where the assignment leaves it
abbrev made : (ℕ → Option Bool) → (Part → Bool) → List Part → ℕ → Bool
made a f [] n = or_else (a n) false
made a f (p ∷ ps) n = if nat_eq p.lit.var.0 n then or_else (a n) (by_sign p.lit.positive (f p)) else made a f ps n

none-some : (x : Bool) → None ≡ Some x → ⊥
none-some x e = cc

some-same : (x y : Bool) → Some x ≡ Some y → x ≡ y
some-same x y e = cc

has-it : (o : Option Bool) (x b : Bool) → o ≡ Some b → or_else o x ≡ b
has-it None x b e = absurd (none-some b e)
has-it (Some y) x b e = some-same y b e

either : (t x y b : Bool) → x ≡ b → y ≡ b → (if t then x else y) ≡ b
either true x y b e f = e
either false x y b e f = f

made-extends : (a : ℕ → Option Bool) (f : Part → Bool) (ps : List Part) → Extends a (made a f ps)
made-extends a f [] n b e = has-it (a n) false b e
made-extends a f (p ∷ ps) n b e =
    either (nat_eq p.lit.var.0 n) (or_else (a n) (by_sign p.lit.positive (f p))) (made a f ps n) b
    (has-it (a n) (by_sign p.lit.positive (f p)) b e) (made-extends a f ps n b e)

eq-itself : (n : ℕ) → nat_eq n n ≡ true
eq-itself n = grind (arith, nat_tests)

twice : (s x : Bool) → by_sign s (by_sign s x) ≡ x
twice true x = refl
twice false true = refl
twice false false = refl

-- a choice that keeps what is known
Keeps : (ℕ → Option Bool) → (Part → Bool) → Type 0
Keeps a f = (p : Part) (b : Bool) → known_of a p.lit ≡ Some b → f p ≡ b

own : (s : Bool) (o : Option Bool) (x : Bool) → ((b : Bool) → by_sign_if_any s o ≡ Some b → x ≡ b)
    → by_sign s (or_else o (by_sign s x)) ≡ x
own s None x h = twice s x
own s (Some b) x h = sym (h (by_sign s b) refl)

choose : (t x y : Bool) → t ≡ true → (if t then x else y) ≡ x
choose true x y e = refl
choose false x y e = cc

skip : (t x y : Bool) → t ≡ false → (if t then x else y) ≡ y
skip false x y e = refl
skip true x y e = cc

first-made : (a : ℕ → Option Bool) (f : Part → Bool) (p : Part) (ps : List Part)
    → ((b : Bool) → known_of a p.lit ≡ Some b → f p ≡ b) → literal_value (made a f (p ∷ ps)) p.lit ≡ f p
first-made a f p ps h =
    ap (by_sign p.lit.positive) (choose (nat_eq p.lit.var.0 p.lit.var.0)
    (or_else (a p.lit.var.0) (by_sign p.lit.positive (f p))) (made a f ps p.lit.var.0) (eq-itself p.lit.var.0))
    ∙ own p.lit.positive (a p.lit.var.0) (f p) h

later-made : (a : ℕ → Option Bool) (f : Part → Bool) (p : Part) (ps qs : List Part)
    → AllByRecursion (λ (q : Part). nat_eq p.lit.var.0 q.lit.var.0 ≡ false) qs
    → filter (λ (q : Part). literal_value (made a f (p ∷ ps)) q.lit) qs ≡ filter
    (λ (q : Part). literal_value (made a f ps) q.lit) qs
later-made a f p ps [] h = refl
later-made a f p ps (q ∷ qs) h =
    let here : literal_value (made a f (p ∷ ps)) q.lit ≡ literal_value (made a f ps) q.lit =
    ap (by_sign q.lit.positive) (skip (nat_eq p.lit.var.0 q.lit.var.0)
    (or_else (a q.lit.var.0) (by_sign p.lit.positive (f p))) (made a f ps q.lit.var.0) h.0) in
    let rest = later-made a f p ps qs h.1 in cc

both : (t u : Bool) (p : Part) (xs ys : List Part) → t ≡ u → xs ≡ ys
    → (if t then p ∷ xs else xs) ≡ (if u then p ∷ ys else ys)
both t u p xs ys e f = cc

made-chosen : (a : ℕ → Option Bool) (f : Part → Bool) → ((p : Part) (b : Bool) → known_of a p.lit ≡ Some b → f p ≡ b)
    → (ps : List Part) → HasVarsOnce ps
    → filter (λ (q : Part). literal_value (made a f ps) q.lit) ps ≡ filter f ps
made-chosen a f keeps [] once = refl
made-chosen a f keeps (p ∷ ps) once =
    both (literal_value (made a f (p ∷ ps)) p.lit) (f p) p _ _ (first-made a f p ps (keeps p))
    (later-made a f p ps ps once.0 ∙ made-chosen a f keeps ps once.1)

least-keeps : (k : AggKind) (w : ℤ) (o : Option Bool) (b : Bool) → o ≡ Some b → in_least k w o ≡ b
least-keeps k w o b e = ap (in_least k w) e

greatest-keeps : (k : AggKind) (w : ℤ) (o : Option Bool) (b : Bool) → o ≡ Some b → in_greatest k w o ≡ b
greatest-keeps k w o b e = ap (in_greatest k w) e

pub ends-are-attained : EndsAreAttained
ends-are-attained a k ps once =
    let low = least_choice a k in
    let high = greatest_choice a k in (
      (
        made a low ps,
        made-extends a low ps,
        ap (λ qs. aggregate_value k (map (λ (p : Part). number p.weight) qs))
            (made-chosen a low (λ p b e. least-keeps k p.weight (known_of a p.lit) b e) ps once),
      ),
      (
        made a high ps,
        made-extends a high ps,
        ap (λ qs. aggregate_value k (map (λ (p : Part). number p.weight) qs))
            (made-chosen a high (λ p b e. greatest-keeps k p.weight (known_of a p.lit) b e) ps once),
      ),
    )
