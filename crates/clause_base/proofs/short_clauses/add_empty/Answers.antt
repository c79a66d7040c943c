use Rattle.std.proofs.Common.{◌≡◌, ◌++◌, ◌∷◌, ◌∙◌, [], List, ap, map}
use Rattle.std.specs.Global.{Vec}
use Rattle.std.proofs.lemmas.List.{map_push}
use Rattle.clause_base.specs.declared.occurrences.Occurrence.{Occurrence}
use Rattle.clause_base.specs.ShortFields.{lists_of}
use Rattle.clause_base.proofs.ShortFacts.{longer-push}
use Rattle.clause_base.proofs.short_clauses.add_empty.Goals as goal

pub loop-alloc-preserved : goal.loop-alloc-preserved
loop-alloc-preserved c =
    let items = λ (os : Vec Occurrence). os.items in
    let old : List (List Occurrence) = lists_of c.loop-alloc.lists in
    let empty : c.new.result.items ≡ [] = c.new.ensures.items in
    let new : lists_of c.push.new.self ≡ old ++ [] ∷ [] =
    ap (λ (xs : List (Vec Occurrence)). map items xs) c.in_ok-push.ensures.items
    ∙ map_push items c.loop-alloc.lists.items c.new.result ∙ ap (λ (xs : List Occurrence). old ++ xs ∷ []) empty in
    rw new (longer-push _ old c.loop-alloc.invariant)
