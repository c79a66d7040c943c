-- Where the decisions stand.
use Rattle.std.proofs.Common.{◌≡◌, ℕ, ◌<◌, ◌≤◌, Some, None, List, length, sym, ap, ◌∙◌, ⊎_elim, arith, slice_get}
use Rattle.std.proofs.lemmas.Option.{same_Some}
use Rattle.std.proofs.lemmas.Bool.{cases_order}
use Rattle.clause_base.proofs.ListFacts.{slice_get-take-below}
use Rattle.clause_base.specs.declared.trail.Step.{Step}
use Rattle.clause_base.specs.TrailState.{TrailState}
use Rattle.clause_base.specs.TrailLaws.{IsTrail, CutsAt}

-- a step of a level above 0, before which no step is of that level, is a decision
pub first-is-decision : (s : TrailState) → IsTrail s → (k : ℕ) (t : Step) → slice_get s.steps k ≡ Some t → 0 < t.level
    → ((i : ℕ) (u : Step) → i < k → slice_get s.steps i ≡ Some u → u.level < t.level) → t.reason ≡ None
first-is-decision s h k t e pos before =
    let top : t.level ≤ s.level = h.top k t e in
    let w = h.decisions t.level pos top in
    let at : w.1.level ≡ t.level = w.3 in
    ⊎_elim
    (λ same. let tu : t ≡ w.1 = same_Some t w.1 (sym e ∙ ap (slice_get s.steps) same ∙ w.2) in
    ap (λ (x : Step). x.reason) tu ∙ w.4)
    (λ order. ⊎_elim
    (λ lt. absurd (⊎_elim (λ z. let z2 : w.1.level ≡ 0 = z in omega arith) (λ below. let b2 : t.level < w.1.level =
    below in omega arith) (h.coherent.opens k w.0 t w.1 lt e w.2 w.4)))
    (λ gt. let b : w.1.level < t.level = before w.0 w.1 gt w.2 in absurd (omega arith))
    order)
    (cases_order k w.0)

-- the first step that backtracking takes off is a decision
pub cut-at-decision : (old new : TrailState) (level : ℕ) → IsTrail old → CutsAt level old new → (t : Step)
    → slice_get old.steps (length new.steps) ≡ Some t → t.reason ≡ None
cut-at-decision old new level h cut t e =
    let up : level < t.level = cut.above (length new.steps) t (omega arith) e in
    first-is-decision old h (length new.steps) t e (omega arith) (λ i u lt eu.
    let kept : slice_get new.steps i ≡ Some u = ap (λ (xs : List Step). slice_get xs i) cut.kept
    ∙ slice_get-take-below (length new.steps) old.steps i lt ∙ eu in
    let low : u.level ≤ level = cut.below i u kept in omega arith)
