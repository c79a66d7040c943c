use Rattle.std.proofs.Common.{◌≡◌, ◌++◌, drop, map}
use Rattle.kb_logic.specs.declared.elements.Elem.TheVariants as elem
use Rattle.stage_definitions.specs.Elements.{one}
use Rattle.structure_entries.specs.EntryViews.{fact_view}
use Rattle.data_filling.specs.Together.{facts_over}
use Rattle.data_filling.proofs.together.push_words.Given as goal

abbrev pub invariant-loop-word : goal.invariant-loop-word
invariant-loop-word l =
    map fact_view l.facts.items
    ++ facts_over l.symbol l.holds (map (λ w. one (elem.Named w.now)) (drop l.word-index l.words))
    ≡ map fact_view l.fn.facts.items
    ++ facts_over l.symbol l.holds (map (λ w. one (elem.Named w.now)) l.words)
