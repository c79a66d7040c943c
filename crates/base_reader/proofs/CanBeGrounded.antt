-- What the stages of names, types and data accept can be grounded.
use Rattle.std.proofs.Common.{◌≡◌, ℕ, false, zero, suc, List, [], ◌∷◌, map, Option, None, Some, slice_get, is_some}
use Rattle.std.proofs.Common.{IfSome}
use Rattle.std.proofs.Common.{refl, sym, ap, subst, ◌∙◌}
use Rattle.std.specs.Option.{option_and_then}
use Rattle.std.specs.List.{AllByRecursion}
use Rattle.kb_text.specs.declared.fault.KbFault.{KbFault}
use Rattle.kb_logic.specs.declared.vocabularies.Vocabulary.{Vocabulary}
use Rattle.kb_logic.specs.Bases.{Base, NamedTerm}
use Rattle.kb_logic.specs.Domains.{AreDomainsOf}
use Rattle.kb_logic.specs.KnownAtoms.{KnownAtoms}
use Rattle.kb_logic.specs.declared.elements.Elem.{Elem}
use Rattle.kb_logic.specs.declared.vocabularies.Symbol.{Symbol}
use Rattle.kb_logic.specs.Bounds.{value_type_of}
use Rattle.kb_logic.specs.Trees.{TermTree, variable, integer, constructed, application, summation, product, aggregate}
use Rattle.kb_logic.specs.Trees.{RuleTree, DefinitionTree, TheoryTree}
use Rattle.kb_logic.specs.Typing.{IsIntegerIn}
use Rattle.grammar.specs.BlockTrees as raw
use Rattle.stage_definitions.specs.NamedTrees.{NamedFormula, NamedRule}
use Rattle.stage_definitions.specs.Numbering.{NamedTheoryTree, NamedTermTree}
use Rattle.stage_definitions.specs.FileBases.{base_of_file, theory_at, named_term}
use Rattle.stage_definitions.specs.TypedFiles.{TypedTheoryTree, TypedFile, typed_definition, typed_theory, typed_block}
use Rattle.stage_definitions.specs.TypedTrees.{rule_types, typed_sentence, typed_rule}
use Rattle.stage_definitions.specs.DataEntries.{said_in}
use Rattle.stage_definitions.specs.DataDomains.{domains_of}
use Rattle.stage_definitions.specs.DataFacts.{is_said_false}
use Rattle.stage_definitions.specs.DataStage.{EntriesRefuse}
use Rattle.stage_definitions.specs.DataAnswer.{given_by}
use Rattle.reading_laws.specs.DataLaws.{AcceptedHaveDomains, GivenIsConsistent, AcceptedIsGiven}
use Rattle.term_values.specs.KnownBases.{AreDataOf}
use Rattle.def_ground.specs.GroundForms.{IsPlaced, IsSide}
use Rattle.def_ground.specs.Groundings.{IsGroundNumber}
use Rattle.def_ground.specs.Rules.{IsHeadTerm, IsTypedRule, IsTypedDefinition}
use Rattle.reading_laws.specs.WellTyped as promised
use Rattle.reading_laws.specs.WellTyped.{AcceptedIsTypedOver, IsNumberOver}
use Rattle.base_reader.specs.Groundable.{AcceptedCanBeGrounded}
use Rattle.base_reader.proofs.Placed.{IsWellPlaced, IsPlacedTheory, IsAskable, named_is_placed}
use Rattle.base_reader.proofs.Consistent.{are_over, given_consistent}

-- ---- sentences whose aggregates stand where they may

sentences_placed : (v : Vocabulary) (fs : List NamedFormula) → AllByRecursion (IsWellPlaced v) fs
    → AllByRecursion IsPlaced (map (typed_sentence v) fs)
sentences_placed v [] h = tt
sentences_placed v (f ∷ fs) h = (h.0 [], sentences_placed v fs h.1)

-- what a theory says, where there is one
abbrev said_by : Option TypedTheoryTree → TheoryTree
said_by o = elim o [
  | None ↦ record { sentences = []; definitions = [] }
  | Some t ↦ t.theory
]

theory_placed : (v : Vocabulary) (ts : List NamedTheoryTree) (theory : ℕ) → AllByRecursion (IsPlacedTheory v) ts
    → AllByRecursion IsPlaced (said_by (slice_get (map (typed_theory v) ts) theory)).sentences
theory_placed v [] theory h = tt
theory_placed v (t ∷ ts) zero h = sentences_placed v t.sentences h.0.sentences
theory_placed v (t ∷ ts) (suc i) h = theory_placed v ts i h.1

-- ---- rules

abbrev ArePlacedRules : DefinitionTree → Type 0
ArePlacedRules d = AllByRecursion (λ (r : RuleTree). IsPlaced r.body) d.rules

rules_placed : (v : Vocabulary) (rs : List NamedRule) → AllByRecursion (λ r. IsWellPlaced v r.body) rs
    → AllByRecursion (λ (r : RuleTree). IsPlaced r.body) (map (typed_rule v) rs)
rules_placed v [] h = tt
rules_placed v (r ∷ rs) h = (h.0 (rule_types v r), rules_placed v rs h.1)

definitions_placed : (v : Vocabulary) (ds : List (List NamedRule))
    → AllByRecursion (λ rs. AllByRecursion (λ r. IsWellPlaced v r.body) rs) ds
    → AllByRecursion ArePlacedRules (map (typed_definition v) ds)
definitions_placed v [] h = tt
definitions_placed v (rs ∷ ds) h = (rules_placed v rs h.0, definitions_placed v ds h.1)

theory_rules_placed : (v : Vocabulary) (ts : List NamedTheoryTree) (theory : ℕ) → AllByRecursion (IsPlacedTheory v) ts
    → AllByRecursion ArePlacedRules (said_by (slice_get (map (typed_theory v) ts) theory)).definitions
theory_rules_placed v [] theory h = tt
theory_rules_placed v (t ∷ ts) zero h = definitions_placed v t.definitions h.0.definitions
theory_rules_placed v (t ∷ ts) (suc i) h = theory_rules_placed v ts i h.1

head_term : (t : TermTree) → promised.IsHeadTerm t → IsHeadTerm t
head_term (variable n) h = tt
head_term (integer z) h = tt
head_term (constructed ty n) h = tt
head_term (application s ts) h = absurd h
head_term (summation ss) h = h
head_term (product ts) h = absurd h
head_term (aggregate k bs f t) h = absurd h

head_terms : (ts : List TermTree) → AllByRecursion promised.IsHeadTerm ts → AllByRecursion IsHeadTerm ts
head_terms [] h = tt
head_terms (t ∷ ts) h = (head_term t h.0, head_terms ts h.1)

head_value : (o : Option TermTree) → IfSome o promised.IsHeadTerm → IfSome o IsHeadTerm
head_value None h = tt
head_value (Some t) h = head_term t h

rule_typed : (v : Vocabulary) (domains : List (List Elem)) (r : RuleTree)
    → promised.RuleIsTyped v (IsIntegerIn domains) r → IsPlaced r.body → IsTypedRule v domains r
rule_typed v domains r h placed =
    let d = h.head.0 in
    let head = h.head.1 in
    let type : value_type_of v r.symbol ≡ d.value = ap (option_and_then (λ (t : Symbol). t.value)) head.symbol in
    record {
      args = head_terms r.args head.plain_args;
      value = head_value r.value head.plain_value;
      kind = head.kind ∙ ap is_some (sym type);
      typed = h.body;
      placed = placed;
      unwritten = h.unwritten;
    }

rules_typed : (v : Vocabulary) (domains : List (List Elem)) (rs : List RuleTree)
    → AllByRecursion (promised.RuleIsTyped v (IsIntegerIn domains)) rs
    → AllByRecursion (λ (r : RuleTree). IsPlaced r.body) rs → AllByRecursion (IsTypedRule v domains) rs
rules_typed v domains [] h k = tt
rules_typed v domains (r ∷ rs) h k = (rule_typed v domains r h.0 k.0, rules_typed v domains rs h.1 k.1)

definitions_typed : (v : Vocabulary) (domains : List (List Elem)) (ds : List DefinitionTree)
    → AllByRecursion (promised.IsDefinitionOver v domains) ds → AllByRecursion ArePlacedRules ds
    → AllByRecursion (IsTypedDefinition v domains) ds
definitions_typed v domains [] h k = tt
definitions_typed v domains (d ∷ ds) h k =
    (rules_typed v domains d.rules h.0 k.0, definitions_typed v domains ds h.1 k.1)

-- ---- terms that may be asked for

terms_placed : (v : Vocabulary) (bs : List NamedTermTree) → AllByRecursion (λ b. IsAskable v b.term) bs
    → AllByRecursion (λ (t : NamedTerm). IsSide false t.term) (map named_term (map (typed_block v) bs))
terms_placed v [] h = tt
terms_placed v (b ∷ bs) h = (h.0 [], terms_placed v bs h.1)

numbers : (base : Base) (ts : List NamedTerm)
    → AllByRecursion (λ (t : NamedTerm). IsNumberOver base.vocabulary base.known.domains t.term) ts
    → AllByRecursion (λ (t : NamedTerm). IsSide false t.term) ts → AllByRecursion (IsGroundNumber base) ts
numbers base [] h k = tt
numbers base (t ∷ ts) h k =
    (record { typed = h.0.0; numeric = h.0.1; placed = k.0 }, numbers base ts h.1 k.1)

-- ---- data

are_data : GivenIsConsistent → (v : Vocabulary) (places : List ℕ) (s : raw.Structure)
    → ((q : KbFault) → EntriesRefuse v places s q → ⊥)
    → AreDomainsOf v (given_by v (said_in v s)).domains → AreDataOf v (given_by v (said_in v s))
are_data law v places s accepted domains = record {
  symbols = refl;
  domains = domains;
  consistent = given_consistent law v places s accepted;
  false_over = are_over v.symbols (domains_of v.types (said_in v s)) (is_said_false (said_in v s));
}

pub accepted_can_be_grounded : AcceptedIsTypedOver → AcceptedHaveDomains → AcceptedIsGiven → GivenIsConsistent
    → AcceptedCanBeGrounded
accepted_can_be_grounded typing have_domains is_given consistent file n typed named_of typed_of theory s answer data_of
    =
    let v = typed.vocabulary in
    let well = typing file n typed named_of typed_of theory s answer data_of in
    let placed = named_is_placed file n named_of in
    let given = is_given typed theory s answer data_of in
    let domains = have_domains file n typed named_of typed_of theory s answer data_of in
    let data_are : AreDataOf v answer =
    subst (AreDataOf v) (sym given.given)
    (are_data consistent v typed.places.types s given.accepted
    (subst (λ (k : KnownAtoms). AreDomainsOf v k.domains) given.given domains)) in
    let terms = subst (λ (g : TypedFile). AllByRecursion (λ (t : NamedTerm). IsSide false t.term)
    (map named_term g.terms)) (sym typed_of.tree) (terms_placed n.vocabulary n.terms placed.terms) in
    record {
      known = data_are;
      typed = well.sentences;
      placed = subst (λ (g : TypedFile). AllByRecursion IsPlaced (theory_at g theory).sentences)
          (sym typed_of.tree)
          (theory_placed n.vocabulary n.theories theory placed.theories);
      definitions =
          definitions_typed v answer.domains (theory_at typed theory).definitions well.definitions
          (subst (λ (g : TypedFile). AllByRecursion ArePlacedRules (theory_at g theory).definitions)
          (sym typed_of.tree) (theory_rules_placed n.vocabulary n.theories theory placed.theories));
      terms = numbers (base_of_file typed theory answer) (map named_term typed.terms) well.terms terms;
    }
