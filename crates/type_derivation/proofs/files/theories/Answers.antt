use Rattle.std.proofs.Common.{◌≡◌, ◌++◌, ◌∷◌, [], arith, map}
use Rattle.std.specs.List.{flat_map}
use Rattle.std.proofs.lemmas.Grind.{common_steps}
use Rattle.stage_definitions.specs.Numbering.{NamedTheoryTree}
use Rattle.stage_definitions.specs.TypedFiles.{theory_begins, typed_theory}
use Rattle.stage_definitions.specs.TypesStage as stage
use Rattle.stage_definitions.specs.TypesStage.{type_noted}
use Rattle.stage_definitions.specs.FileViews as named_view
use Rattle.type_derivation.specs.TypedViews.{named_theory_view}
use Rattle.type_derivation.proofs.Listed.{made_next, listed_next, noted_next}
use Rattle.type_derivation.proofs.files.theories.Goals as goal

pub loop-item-preserved : goal.loop-item-preserved
loop-item-preserved c =
    let pushed : map named_theory_view c.push.new.self.items ≡ map named_theory_view c.loop-item.theories.items
    ++ named_theory_view c.in_ok-theory.field-0 ∷ [] = grind (arith, common_steps) in
    record {
      theories = made_next named_view.theory_view c.args.named.now c.loop-item.item-index c.item-item.result
          c.loop-item-test.true c.item-item.is (typed_theory c.args.vocab.now)
          (map named_theory_view c.loop-item.theories.items) (map named_theory_view c.push.new.self.items)
          (named_theory_view c.in_ok-theory.field-0) c.loop-item.invariant.theories
          c.in_ok-theory.ensures.theory pushed;
      terms = listed_next named_view.theory_view c.args.named.now c.loop-item.item-index c.item-item.result
          c.loop-item-test.true c.item-item.is theory_begins
          c.args.terms.now.items c.loop-item.terms.items c.theory.new.terms.items c.loop-item.invariant.terms
          c.in_ok-theory.ensures.terms;
      noted = noted_next named_view.theory_view c.args.named.now c.loop-item.item-index c.item-item.result
          c.loop-item-test.true c.item-item.is (type_noted c.args.vocab.now.types)
          (λ (t : NamedTheoryTree). flat_map (stage.sentence_type_uses c.args.vocab.now) t.sentences
          ++ flat_map (flat_map (stage.rule_type_uses c.args.vocab.now)) t.definitions)
          c.args.earliest.now.first c.loop-item.earliest.first c.theory.new.earliest.first c.loop-item.invariant.noted
          c.in_ok-theory.ensures.noted;
    }
