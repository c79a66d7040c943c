use Rattle.std.proofs.Common.{◌≡◌, ◌∙◌, ℕ, List, [], Option, Some, None, IfNone, take, ap, sym, subst, refl}
use Rattle.memchr.specs.Find.{IsLastByte, is_byte}
use Rattle.conflict_analysis.specs.Marked.{PopsLast}
use Rattle.conflict_analysis.proofs.MarkFacts.{marked, marked-cut, marked-none}
use Rattle.conflict_analysis.proofs.near_sets.NearSet.pop_last.Goals as goal

pub returns-in_err-place-clause-none : goal.returns-in_err-place-clause-none
returns-in_err-place-clause-none c =
    let none : IsLastByte (is_byte 1) c.deref.result.now None = subst (IsLastByte (is_byte 1) c.deref.result.now)
    c.in_err-place.was c.memrchr.ensures in
    subst (λ (o : Option ℕ). IfNone o ((c.args.self.now ≡ []) × (c.args.self.now ≡ c.args.self.now)))
    (sym c.from_residual.ensures)
    (sym (ap marked c.deref.ensures.value ∙ c.self.view_is) ∙ marked-none c.deref.result.now none, refl)

pub returns-clause-some : goal.returns-clause-some
returns-clause-some c =
    let bs : List ℕ = c.self.inside.marks.items in
    let p : ℕ = c.in_ok-place.place in
    let last : IsLastByte (is_byte 1) bs (Some p) = subst (λ (xs : List ℕ). IsLastByte (is_byte 1) xs (Some p))
    c.deref.ensures.value (subst (IsLastByte (is_byte 1) c.deref.result.now) c.in_ok-place.was c.memrchr.ensures) in
    subst (λ (xs : List ℕ). PopsLast c.args.self.now p (marked xs)) (sym c.truncate.ensures.items)
    (subst (λ (ks : List ℕ). PopsLast ks p (marked (take p bs))) c.self.view_is (marked-cut bs p last))
