use Rattle.std.proofs.Common.{◌≡◌, ◌<◌, ◌+◌, ◌++◌, ◌∷◌, [], false, true, refl, ap, get_or, List, length, take, sym}
use Rattle.std.proofs.Common.{subst, rules, ◌∙◌}
use Rattle.std.proofs.lemmas.List.{take_more}
use Rattle.lit_core.specs.declared.literals.Lit.{Lit}
use Rattle.search_engine.specs.Cores.{IsCoreOf}
use Rattle.search_engine.proofs.CoreFacts.{core-taken, core-left}
use Rattle.search_engine.proofs.cores.chosen.Goals as goal
use Rattle.search_engine.proofs.cores.chosen.Goals.{then-has+in_ok-push, else-has}

pub loop-assumed-preserved : goal.loop-assumed-preserved
loop-assumed-preserved c =
    let lt : c.loop-assumed.assumed-index < length c.args.assume.now = search rules in
    let d : Lit = record { var = record { 0 = 0 }; positive = false } in
    let a : Lit = get_or c.args.assume.now c.loop-assumed.assumed-index d in
    let next : take (c.loop-assumed.assumed-index + 1) c.args.assume.now ≡ take c.loop-assumed.assumed-index
    c.args.assume.now ++ a ∷ [] = take_more c.args.assume.now c.loop-assumed.assumed-index d lt in
    let front : List Lit = take c.loop-assumed.assumed-index c.args.assume.now in
    let whole = λ (core : List Lit) (h : IsCoreOf (front ++ a ∷ []) c.args.blamed.now core).
    subst (λ (xs : List Lit). IsCoreOf xs c.args.blamed.now core) (sym next) h in
    elim c.if-has.branch [
      | then-has+in_ok-push w ↦
          let items : c.if-has.core.items ≡ c.loop-assumed.core.items ++ a ∷ [] = ap (λ v. v.items) w.core-is
          ∙ w.in_ok-push.ensures.items in
          rw items (whole (c.loop-assumed.core.items ++ a ∷ []) (core-taken front c.args.blamed.now
          c.loop-assumed.core.items a c.loop-assumed.invariant (w.if-has.ensures.0 refl)))
      | else-has w ↦
          let items : c.if-has.core.items ≡ c.loop-assumed.core.items = ap (λ v. v.items) w.core-is in
          rw items (whole c.loop-assumed.core.items (core-left front c.args.blamed.now c.loop-assumed.core.items a
          c.loop-assumed.invariant (λ why. let t : false ≡ true = w.if-has.ensures.1 why in cc)))
    ]
