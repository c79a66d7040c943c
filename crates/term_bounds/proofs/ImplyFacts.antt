-- What a bound implies.
use Rattle.std.proofs.Common.{◌≡◌, ℕ, ◌<◌, ℤ, pos, ◌+ℤ◌, ◌≤ℤ◌, Bool, true, false, Option, Some, None, List, [], ◌∷◌}
use Rattle.std.proofs.Common.{◌++◌, length, get_or, refl, sym, ap, ◌∙◌, subst, ◌⊎◌, ⊎_elim, arith}
use Rattle.std.proofs.Common.{All, Any}
use Rattle.std.proofs.lemmas.Bool.{both_ways}
use Rattle.std.proofs.lemmas.Int.{ints}
use Rattle.std.proofs.lemmas.List.Elements.{All-contains, All-head, All-push, All-tail, All-weaker}
use Rattle.kb_logic.specs.declared.elements.ExtInt.{ExtInt}
use Rattle.kb_logic.specs.declared.syntax.AggKind.{AggKind}
use Rattle.kb_logic.specs.Denotations.{number}
use Rattle.lit_core.specs.declared.literals.Lit.{Lit}
use Rattle.lit_core.specs.Literals.{by_sign_if_any, literal_value, negated, value_in}
use Rattle.ground_core.specs.declared.parts.GroundTerm.{GroundTerm}
use Rattle.ground_core.specs.declared.parts.Part.{Part}
use Rattle.ground_core.specs.declared.parts.TermBound.{TermBound}
use Rattle.ground_core.specs.Meaning.{AreAllFalse, term_value}
use Rattle.term_bounds.specs.Amounts.{is_under, lessened}
use Rattle.term_bounds.specs.Breaking.{Holds}
use Rattle.term_bounds.specs.Implying.{IsForced, IsImpliedBy, IsRaisedBy}
use Rattle.term_bounds.specs.Reasons.{IsReason, differ}
use Rattle.term_bounds.specs.Shares.{least_total, opened_total, raised}
use Rattle.term_bounds.specs.Totals.{counted_as, total, total_bound}
use Rattle.term_bounds.proofs.BreakFacts.{negated-off, some-or-none}
use Rattle.term_bounds.proofs.ReasonFacts.{get_or-itself, was-value}
use Rattle.term_bounds.proofs.ShareFacts.{opened-one}
use Rattle.term_bounds.proofs.TotalFacts.{bounds-by-totals}

-- a literal of a variable without a value has none
open-either : (s t : Bool) (o : Option Bool) → by_sign_if_any s o ≡ None → by_sign_if_any t o ≡ None
open-either s t None e = refl
open-either s t (Some b) e = cc

-- one literal more
pub raised-push : (a : List (Option Bool)) (k : AggKind) (bound : ExtInt) (low : ℤ) (ps : List Part) (ls : List Lit)
    (l : Lit) (i : ℕ) (d : Part) → i < length ps → All (λ (x : Lit). Any (IsRaisedBy a k bound low x) ps) ls
    → IsRaisedBy a k bound low l (get_or ps i d) → All (λ (x : Lit). Any (IsRaisedBy a k bound low x) ps) (ls ++ l ∷ [])
raised-push a k bound low ps ls l i d lt h one = All-push (λ (x : Lit). Any (IsRaisedBy a k bound low x) ps) ls l h
    (i, get_or ps i d, lt, get_or-itself ps i d lt, one)

module _ (t : GroundTerm) (b : TermBound) (a : List (Option Bool)) (k : AggKind) (bound : ExtInt) (ps : List Part)
    (kind : k ≡ t.kind) (is : bound ≡ lessened t.base b.below) (parts : ps ≡ t.parts) where
  by-total : (v : ℕ → Bool) → is_under b.below (term_value v t) ≡ is_under (total_bound k bound)
      (number (total v k bound ps))
  by-total v = rw (kind, is, parts) (bounds-by-totals v t b.below)

  module _ (gap : ℤ) (c : List Lit) (r : IsReason a k bound b.out ps (pos 0) c)
      (above : (z : ℤ) → (least_total a k bound ps +ℤ gap) ≤ℤ z → is_under (total_bound k bound) (number z) ≡ false) where
    within-parts : All (λ (l : Lit). (b.out.var.0 ≡ l.var.0) ⊎ Any (λ (u : Part). u.lit.var.0 ≡ l.var.0) t.parts) c
    within-parts = subst (λ (qs : List Part). All (λ (l : Lit). (b.out.var.0 ≡ l.var.0)
        ⊎ Any (λ (u : Part). u.lit.var.0 ≡ l.var.0) qs) c) parts r.within

    -- where the literal and the reasons are false the parts count too much
    too-much : (l : Lit) (w : Any (IsRaisedBy a k bound gap l) ps) (v : ℕ → Bool) → AreAllFalse v (l ∷ c)
        → Holds v t b → ⊥
    too-much l w v off holds =
        let before : AreAllFalse v c = All-tail (λ x. literal_value v x ≡ false) l c off in
        let last : literal_value v l ≡ false = All-head (λ x. literal_value v x ≡ false) l c off in
        let p : Part = w.1 in
        let has : literal_value v p.lit ≡ w.4.value = was-value v p.lit w.4.value
        (subst (λ x. literal_value v x ≡ false) w.4.is last) in
        let rise : raised (Some w.4.value) (counted_as k bound p.weight) ≤ℤ opened_total a v k bound ps =
        opened-one a v k bound ps w.0 p w.2 w.3 w.4.none w.4.value has in
        let enough : gap ≤ℤ raised (Some w.4.value) (counted_as k bound p.weight) = w.4.raise in
        let counted : (least_total a k bound ps +ℤ opened_total a v k bound ps) ≤ℤ (total v k bound ps +ℤ pos 0) =
        r.total v before in
        let out-off : literal_value v (negated b.out) ≡ false = All-contains (λ x. literal_value v x ≡ false) c
        (negated b.out) before r.output in
        let on : literal_value v b.out ≡ true = negated-off b.out.positive (v b.out.var.0) out-off in
        let under : is_under (total_bound k bound) (number (total v k bound ps)) ≡ true = sym (by-total v) ∙ holds on in
        both_ways false refl (sym (above (total v k bound ps) (omega (arith, ints, rise, enough, counted))) ∙ under)

    forced-by : (l : Lit) → Any (IsRaisedBy a k bound gap l) ps → IsForced t b a c l
    forced-by l w = record {
      none = subst (λ x. value_in a x ≡ None) (sym w.4.is) (open-either w.1.lit.positive
          (differ w.1.lit.positive w.4.value) (get_or a w.1.lit.var.0 None) w.4.none);
      implied = λ v holds. ⊎_elim (λ s. s) (λ off. absurd (too-much l w v off holds)) (some-or-none v (l ∷ c));
      within = subst (λ (qs : List Part). Any (λ (u : Part). u.lit.var.0 ≡ l.var.0) qs) parts
          (w.0, w.1, w.2, w.3, sym (ap (λ (x : Lit). x.var.0) w.4.is));
    }

    -- each of the literals that raise the sum too much is forced
    pub implied-where-not : (ls : List Lit) → All (λ l. Any (IsRaisedBy a k bound gap l) ps) ls
        → IsImpliedBy t b a c ls
    implied-where-not ls all = record {
      falsified = r.falsified;
      within = within-parts;
      forced = All-weaker (λ l. Any (IsRaisedBy a k bound gap l) ps) (IsForced t b a c) forced-by ls all;
    }
