use Rattle.std.proofs.Common.{◌∙◌, fold, sym, ap, subst, take, Contains, List}
use Rattle.std.proofs.lemmas.List.{drop_all}
use Rattle.stage_definitions.specs.DataFacts as stated
use Rattle.stage_definitions.specs.DataStage as stage
use Rattle.structure_entries.specs.EntryViews.{fact_view}
use Rattle.data_clashes.specs.SinglesViews.{AreSinglesOf}
use Rattle.data_clashes.proofs.NextFact.{next_fact, taken_more, views}
use Rattle.data_clashes.proofs.Kept.{one_more_kept}
use Rattle.data_clashes.proofs.notes.note_clashes.Goals as goal

pub loop-i-preserved : goal.loop-i-preserved
loop-i-preserved c =
    let more = taken_more c.args.facts.now c.loop-i.i c.index-facts-i.result c.loop-i-test.true c.index-facts-i.is in
    record {
      noted = λ all es. next_fact (stage.data_noted all es) c.args.facts.now c.loop-i.i c.index-facts-i.result
          c.loop-i.earliest.first _ _ c.loop-i-test.true c.index-facts-i.is (c.in_ok-note_next.ensures.noted all es)
          (c.loop-i.invariant.noted all es);
      kept = λ f m. one_more_kept c.note_next.new.table (views (take c.loop-i.i c.args.facts.now))
          (fact_view c.index-facts-i.result)
          (λ e n. c.in_ok-note_next.ensures.kept e (c.loop-i.invariant.kept e n)) c.in_ok-note_next.ensures.own f
          (subst (λ (xs : List stated.Fact). Contains xs f) more m);
      singles = subst (λ (xs : List stated.Fact). AreSinglesOf xs c.note_next.new.singles)
          (sym more) c.in_ok-note_next.ensures.singles;
    }

pub returns : goal.returns
returns c = λ all es.
    sym (ap (λ fs. fold (stage.data_noted all es) c.loop-i.earliest.first
    (stage.uses_of_facts (views (take c.loop-i.i c.args.facts.now)) (views fs)))
    (drop_all c.loop-i.i c.args.facts.now c.loop-i-test.false))
    ∙ c.loop-i.invariant.noted all es
