use Rattle.std.proofs.Common.{◌≡◌, ◌<◌, [], ◌∷◌, ◌++◌, ◌+◌, ◌∙◌, ℕ, List, drop, get_or, length, map, refl, sym, ap}
use Rattle.std.proofs.Common.{subst}
use Rattle.kb_logic.specs.declared.elements.Elem.TheVariants.{Named}
use Rattle.stage_definitions.specs.Elements.{one}
use Rattle.structure_entries.proofs.Dropped.{front}
use Rattle.data_domains.specs.Shares.{Takes}
use Rattle.data_domains.proofs.Filled.{taken_next, takes_nothing}
use Rattle.data_domains.proofs.filling.add_declared.Goals as goal

pub loop-name-init : goal.loop-name-init
loop-name-init c = ([], takes_nothing c.args.data.now, refl)

pub loop-name-preserved : goal.loop-name-preserved
loop-name-preserved c =
    let names = c.args.decl.now.made in
    let i = c.loop-name.name-index in
    let n = c.name-item.result in
    let same = c.as_slice-name-items.ensures in
    let within = subst (λ (xs : List (List ℕ)). i < length xs) same c.loop-name-test.true in
    let at : n ≡ get_or names i n = c.name-item.is ∙ ap (λ (xs : List (List ℕ)). get_or xs i n) same in
    let cells = map (λ (m : List ℕ). one (Named m)) in
    let before = c.loop-name.invariant in
    taken_next c.args.data.now c.loop-name.data c.add.new.self before.0 (one (Named n) ∷ [])
    (cells (drop (i + 1) names)) _ before.1
    (subst (λ m. Takes c.loop-name.data c.add.new.self (one (Named m) ∷ [])) c.text.ensures c.in_ok-add.ensures)
    (ap (λ ns. before.0 ++ cells ns) (sym (front names i n within at)) ∙ before.2)
