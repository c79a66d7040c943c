use Rattle.std.proofs.Common.{◌≡◌, ◌<◌, ◌+◌, ◌++◌, ◌∷◌, [], ℕ, List, length, take, ap, ◌∙◌, sym, subst, arith, rules}
use Rattle.std.proofs.Common.{get_or}
use Rattle.std.proofs.lemmas.List.{take_more}
use Rattle.clause_store.specs.StoreState.{StoreState}
use Rattle.search_engine.specs.Knowledge.{RemovesAll}
use Rattle.search_engine.proofs.Removed.{removes-id}
use Rattle.search_engine.proofs.pushing.remove_all.Goals as goal

pub loop-id-preserved : goal.loop-id-preserved
loop-id-preserved c =
    let lt : c.loop-id.id-index < length c.args.ids.now = search rules in
    let i : ℕ = get_or c.args.ids.now c.loop-id.id-index 0 in
    let front : List ℕ = take c.loop-id.id-index c.args.ids.now in
    let next : take (c.loop-id.id-index + 1) c.args.ids.now ≡ front ++ i ∷ [] =
    take_more c.args.ids.now c.loop-id.id-index 0 lt in
    let within : i < length c.args.store.now.clauses = c.requires.within c.loop-id.id-index 0 lt in
    let size : length c.loop-id.store.clauses ≡ length c.args.store.now.clauses = c.loop-id.invariant.removed.size in
    let more : RemovesAll (front ++ i ∷ []) c.args.store.now.clauses c.remove.new.self.clauses =
    removes-id front i c.args.store.now.clauses c.loop-id.store.clauses c.remove.new.self.clauses
    (omega (arith, within, size)) (ap (λ (s : StoreState). s.clauses) c.remove.ensures.removed)
    c.loop-id.invariant.removed in
    record {
      trail = ap (λ (s : StoreState). s.trail) c.remove.ensures.removed ∙ c.loop-id.invariant.trail;
      removed = subst (λ (xs : List ℕ). RemovesAll xs c.args.store.now.clauses c.remove.new.self.clauses)
          (sym next) more;
      laws = c.remove.ensures.laws;
    }
