-- Where each term of a sentence and of a rule has its place, so has each term of a theory.
use Rattle.std.proofs.Common.{◌≡◌, ◌+◌, List, [], ◌∷◌, ◌++◌, length, map, refl, sym, ap, ◌∙◌, length-append}
use Rattle.std.specs.List.{flat_map}
use Rattle.std.proofs.lemmas.List.Concat.{flat_map-append}
use Rattle.kb_logic.specs.declared.vocabularies.Vocabulary.{Vocabulary}
use Rattle.kb_logic.specs.Trees.{DefinitionTree}
use Rattle.stage_definitions.specs.NamedTrees.{NamedFormula, NamedRule}
use Rattle.stage_definitions.specs.Numbering.{NamedTheoryTree}
use Rattle.stage_definitions.specs.TermPlaces.{terms_begin, rule_begins}
use Rattle.stage_definitions.specs.TheoryItems.{TheoryItem, sentence, rule, items_of}
use Rattle.stage_definitions.specs.TypedTrees.{typed_sentence, typed_rule}
use Rattle.stage_definitions.specs.TypedFiles.{typed_definition, typed_theory, theory_begins}

-- two lists after one another, as long as two others
pub lengths : {X Y : Type 0} (xs ys : List X) (us vs : List Y) → length xs ≡ length us → length ys ≡ length vs
    → length (xs ++ ys) ≡ length (us ++ vs)
lengths xs ys us vs h k = length-append xs ys ∙ ap (λ n. n + length ys) h ∙ ap (λ n. length us + n) k
    ∙ sym (length-append us vs)

abbrev rules_of : DefinitionTree → List TheoryItem
rules_of d = map (λ r. rule r) d.rules

-- what is found of each term of an item
module _ {B : Type 0} (v : Vocabulary) (found : TheoryItem → List B)
    (in_sentence : (f : NamedFormula) → length (found (sentence (typed_sentence v f))) ≡ length (terms_begin f))
    (in_rule : (r : NamedRule) → length (found (rule (typed_rule v r))) ≡ length (rule_begins r)) where
  in_sentences : (fs : List NamedFormula)
      → length (flat_map found (map (λ f. sentence f) (map (typed_sentence v) fs))) ≡ length (flat_map terms_begin fs)
  in_sentences [] = refl
  in_sentences (f ∷ fs) =
      lengths (found (sentence (typed_sentence v f)))
      (flat_map found (map (λ f. sentence f) (map (typed_sentence v) fs))) (terms_begin f) (flat_map terms_begin fs)
      (in_sentence f) (in_sentences fs)

  in_rules : (rs : List NamedRule) → length (flat_map found (map (λ r. rule r) (map (typed_rule v) rs)))
      ≡ length (flat_map rule_begins rs)
  in_rules [] = refl
  in_rules (r ∷ rs) =
      lengths (found (rule (typed_rule v r))) (flat_map found (map (λ r. rule r) (map (typed_rule v) rs)))
      (rule_begins r) (flat_map rule_begins rs) (in_rule r) (in_rules rs)

  in_definitions : (ds : List (List NamedRule)) → length (flat_map found
      (flat_map rules_of (map (typed_definition v) ds))) ≡ length (flat_map (flat_map rule_begins) ds)
  in_definitions [] = refl
  in_definitions (rs ∷ ds) =
      let own = rules_of (typed_definition v rs) in
      let others = flat_map rules_of (map (typed_definition v) ds) in
      ap length (flat_map-append found own others)
      ∙ lengths (flat_map found own) (flat_map found others) (flat_map rule_begins rs)
      (flat_map (flat_map rule_begins) ds) (in_rules rs) (in_definitions ds)

  pub in_theory : (t : NamedTheoryTree) → length (flat_map found (items_of (typed_theory v t).theory))
      ≡ length (theory_begins t)
  in_theory t =
      let own = map (λ f. sentence f) (map (typed_sentence v) t.sentences) in
      let others = flat_map rules_of (map (typed_definition v) t.definitions) in
      ap length (flat_map-append found own others)
      ∙ lengths (flat_map found own) (flat_map found others) (flat_map terms_begin t.sentences)
      (flat_map (flat_map rule_begins) t.definitions) (in_sentences t.sentences) (in_definitions t.definitions)
