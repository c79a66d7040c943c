use Rattle.std.proofs.Common.{◌≡◌, ◌+◌, ◌<◌, ◌++◌, ◌∷◌, [], List, Any, length, get_or, take, ap, sym, ◌∙◌, subst, rules}
use Rattle.std.proofs.lemmas.List.{take_all, take_more}
use Rattle.lit_core.specs.declared.literals.Lit.{Lit}
use Rattle.search_decisions.specs.Phases.{Notes}
use Rattle.search_decisions.proofs.PhaseFacts.{notes-literal}
use Rattle.search_decisions.proofs.phases.Phases.note_choice.Goals as goal

pub loop-lit-preserved : goal.loop-lit-preserved
loop-lit-preserved c =
    let lt : c.loop-lit.lit-index < length c.args.clause.now = search rules in
    let d : Lit = c.lit-item.result in
    let x : Lit = c.lit.result in
    let is : x ≡ get_or c.args.clause.now c.loop-lit.lit-index d = c.lit.ensures.value ∙ c.lit-item.is in
    let front : List Lit = take c.loop-lit.lit-index c.args.clause.now in
    let next : take (c.loop-lit.lit-index + 1) c.args.clause.now ≡ front ++ x ∷ [] =
    take_more c.args.clause.now c.loop-lit.lit-index d lt ∙ ap (λ l. front ++ l ∷ []) (sym is) in
    record {
      same = search rules;
      notes = rw next (notes-literal c.args.place front x c.loop-lit.invariant.notes c.note_place.ensures.notes);
    }

pub returns-clause-notes : goal.returns-clause-notes
returns-clause-notes c =
    let whole : take c.loop-lit.lit-index c.args.clause.now ≡ c.args.clause.now =
    take_all c.loop-lit.lit-index c.args.clause.now (search rules) in
    subst (λ ls. Notes (λ v k. Any (λ m. m.var.0 ≡ v) ls × (k ≡ c.args.place)) c.args.self.now c.loop-lit.self) whole
    c.loop-lit.invariant.notes
