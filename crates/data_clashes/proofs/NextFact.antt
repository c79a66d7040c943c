-- One fact more.
use Rattle.std.proofs.Common.{◌≡◌, ◌<◌, ◌+◌, ℕ, List, [], ◌∷◌, ◌++◌, Option, drop, take, fold, get_or, length, map}
use Rattle.std.proofs.Common.{refl, sym, ap, ◌∙◌}
use Rattle.std.proofs.lemmas.List.{map-append, take_more}
use Rattle.kb_text.specs.declared.fault.KbFault.{KbFault}
use Rattle.stage_definitions.specs.DataFacts as stated
use Rattle.stage_definitions.specs.DataStage.{DataUse, fact, uses_of_facts}
use Rattle.structure_entries.specs.EntryViews.{fact_view}
use Rattle.structure_entries.specs.declared.facts.Fact.{Fact}
use Rattle.structure_entries.proofs.Dropped.{front}

abbrev pub views : List Fact → List stated.Fact
views fs = map fact_view fs

pub taken_more : (fs : List Fact) (i : ℕ) (f : Fact) → i < length fs → f ≡ get_or fs i f → views (take (i + 1) fs)
    ≡ views (take i fs) ++ fact_view f ∷ []
taken_more fs i f lt is = ap views (take_more fs i f lt ∙ ap (λ x. take i fs ++ x ∷ []) (sym is))
    ∙ map-append fact_view (take i fs) (f ∷ [])

pub next_fact : (note : Option KbFault → DataUse → Option KbFault) (fs : List Fact) (i : ℕ) (f : Fact)
    (old new whole : Option KbFault) → i < length fs → f ≡ get_or fs i f
    → new ≡ note old (fact (views (take i fs)) (fact_view f))
    → fold note old (uses_of_facts (views (take i fs)) (views (drop i fs))) ≡ whole
    → fold note new (uses_of_facts (views (take (i + 1) fs)) (views (drop (i + 1) fs))) ≡ whole
next_fact note fs i f old new whole lt is noted inv =
    let before = views (take i fs) in
    let rest = views (drop (i + 1) fs) in
    ap (λ bs. fold note new (uses_of_facts bs rest)) (taken_more fs i f lt is)
    ∙ ap (λ o. fold note o (uses_of_facts (before ++ fact_view f ∷ []) rest)) noted
    ∙ sym (ap (λ xs. fold note old (uses_of_facts before (views xs))) (front fs i f lt is)) ∙ inv
