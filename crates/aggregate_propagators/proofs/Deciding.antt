-- What contradictions say of the constraint's literals.
use Rattle.std.proofs.Common.{◌≡◌, ℕ, ℤ, Bool, true, false, not, Option, Some, None, get_or, refl, sym, ap, ◌∙◌}
use Rattle.std.proofs.lemmas.List.Elements.{Contains-get_or}
use Rattle.lit_core.specs.declared.literals.Lit.{Lit}
use Rattle.lit_core.specs.Literals.{by_sign, by_sign_if_any, negated}
use Rattle.ground_core.specs.declared.parts.Part.{Part}
use Rattle.ground_core.specs.declared.parts.AggCon.{AggCon}
use Rattle.ground_core.specs.Intervals.{known_of, changed, contradicts, reaches, refuted_by, least_possible}
use Rattle.ground_core.specs.Intervals.{greatest_possible, least_choice, greatest_choice, IsOpenAt, IsQuiet}
use Rattle.aggregate_propagators.specs.Reasons.{differ, in_end}
use Rattle.aggregate_propagators.specs.Totals.{goal_of, met, total, with_side}
use Rattle.aggregate_propagators.specs.Implied.{under, AreOpen, Decides}
use Rattle.aggregate_propagators.proofs.Sums.{reaches-by-totals}

-- the end that the result asks for, as a total, decides whether it is contradicted
abbrev asked_total : (ℕ → Option Bool) → AggCon → Bool → ℤ
asked_total a c high = total (λ (p : Part). in_end high c.kind p.weight (known_of a p.lit)) c.kind c.least c.parts

pub by-total : (a : ℕ → Option Bool) (c : AggCon) (high : Bool) → known_of a c.out ≡ Some high
    → differ high (with_side c.kind (met (goal_of c.kind c.least) (asked_total a c high))) ≡ contradicts a c
by-total a c true e =
    ap not (sym (reaches-by-totals (greatest_choice a c.kind) c.kind c.least c.parts))
    ∙ ap (λ o. refuted_by o (reaches c.least (least_possible a c.kind c.parts))
    (reaches c.least (greatest_possible a c.kind c.parts))) (sym e)
by-total a c false e =
    sym (reaches-by-totals (least_choice a c.kind) c.kind c.least c.parts)
    ∙ ap (λ o. refuted_by o (reaches c.least (least_possible a c.kind c.parts))
    (reaches c.least (greatest_possible a c.kind c.parts))) (sym e)

pub apart : (x : Bool) → x ≡ true → x ≡ false → ⊥
apart x e f = cc

none-of : (s : Bool) (o : Option Bool) → by_sign_if_any s o ≡ None → o ≡ None
none-of s None e = refl
none-of s (Some b) e = absurd (wrong (by_sign s b) e)
  where
    wrong : (x : Bool) → Some x ≡ None → ⊥
    wrong x e = cc

pub other-none : (a : ℕ → Option Bool) (l : Lit) → known_of a l ≡ None → known_of a (negated l) ≡ None
other-none a l e = ap (by_sign_if_any (not l.positive)) (none-of l.positive (a l.var.0) e)

-- a literal that is decided, of either sign, is not open
pub decided-here : (a : ℕ → Option Bool) (c : AggCon) (l : Lit) → known_of a l ≡ None
    → contradicts (under a (Some l)) c ≡ true
    → Decides a c l × (IsOpenAt a c l → ⊥)
decided-here a c l e w =
    (record { unassigned = e; wrong = w }, λ h. apart (contradicts (changed a l.var.0 l.positive) c) w (h e l.positive))

pub decided-other : (a : ℕ → Option Bool) (c : AggCon) (l : Lit) → known_of a l ≡ None
    → contradicts (under a (Some (negated l))) c ≡ true
    → Decides a c (negated l) × (IsOpenAt a c l → ⊥)
decided-other a c l e w = (
  record { unassigned = other-none a l e; wrong = w },
  λ h. apart (contradicts (changed a l.var.0 (not l.positive)) c) w (h e (not l.positive)),
)

pub either-sign : (P : Bool → Type 0) (s b : Bool) → P s → P (not s) → P b
either-sign P true true p q = p
either-sign P true false p q = q
either-sign P false true p q = q
either-sign P false false p q = p

pub open-here : (a : ℕ → Option Bool) (c : AggCon) (l : Lit) → contradicts (under a (Some l)) c ≡ false
    → contradicts (under a (Some (negated l))) c ≡ false → IsOpenAt a c l
open-here a c l e f none b = either-sign (λ s. contradicts (changed a l.var.0 s) c ≡ false) l.positive b e f

-- a quiet constraint has all its literals open
pub quiet-open : (a : ℕ → Option Bool) (c : AggCon) → IsQuiet a c → AreOpen a c
quiet-open a c q = (q.out, λ k d lt. q.parts (get_or c.parts k d) (Contains-get_or c.parts k d lt))
