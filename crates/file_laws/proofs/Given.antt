-- What a structure gives is consistent, and listed as a partial structure lists what it knows.
use Rattle.std.proofs.Common.{◌≡◌, ℕ, List, ◌&&◌, ◌||◌, ◌==◌, not, true, false, map, filter, sym, ap, subst, ◌∙◌, inl}
use Rattle.std.proofs.Common.{inr, option_map, Contains}
use Rattle.std.specs.List.{AllByRecursion, list_any}
use Rattle.std.proofs.lemmas.Bool.{cases_Bool, true≢false, and_parts, and_from, eqb-true, false_from_ne_true}
use Rattle.kb_text.specs.declared.fault.KbFault.{KbFault}
use Rattle.kb_logic.specs.declared.vocabularies.Vocabulary.{Vocabulary}
use Rattle.kb_logic.specs.Denotations.{denotation_of}
use Rattle.kb_logic.specs.Models.{GroundAtom, IsAtomOver}
use Rattle.kb_logic.specs.Structures.{IsDistinct}
use Rattle.kb_logic.specs.KnownAtoms.{KnownAtoms, atoms_over}
use Rattle.kb_logic.proofs.AllAtoms.{atom_listed, listed_over}
use Rattle.kb_logic.proofs.Has.{has_from, contains_from, filter-same}
use Rattle.partial_structures.specs.KnownAtoms.{same_atom, same_row, same_option, both_values, is_rival}
use Rattle.partial_structures.specs.Consistency.{IsConsistent, IsListed}
use Rattle.partial_structures.proofs.Listed.{listed}
use Rattle.partial_structures.proofs.Sames.{atom_by, row_is, option_itself}
use Rattle.grammar.specs.BlockTrees.{Structure}
use Rattle.stage_definitions.specs.DataEntries.{said_in}
use Rattle.stage_definitions.specs.DataDomains.{domains_of}
use Rattle.stage_definitions.specs.DataFacts.{Fact, facts_in, same_value_of, are_opposed, are_in, is_about, says_true}
use Rattle.stage_definitions.specs.DataFacts.{says_false, is_whole, is_said_true, is_said_false}
use Rattle.stage_definitions.specs.DataStage.{EntriesRefuse}
use Rattle.stage_definitions.specs.DataAnswer.{given_by}
use Rattle.reading_laws.proofs.Consistent.{given_is_consistent}
use Rattle.reading_laws.proofs.Same.{same_value_is, value_itself}
use Rattle.printed_texts.proofs.Each.{has_all, has_kept, kept_has, any_has, has_any}
use Rattle.file_laws.specs.Accepted.{AcceptedAreListed}

-- a fact about a function at its arguments, whatever the value
moved : (a b : GroundAtom) (f : Fact) → b.symbol ≡ a.symbol → b.args ≡ a.args → is_about a f ≡ true
    → is_about b f ≡ true
moved a b f e g h =
    ap (λ n. (f.symbol == n) && are_in b.args f.args) e ∙ ap (λ xs. (f.symbol == a.symbol) && are_in xs f.args) g ∙ h

module _ (v : Vocabulary) (places : List ℕ) (s : Structure) (accepted : (q : KbFault) → EntriesRefuse v places s q → ⊥)
    (distinct : AllByRecursion IsDistinct (domains_of v.types (said_in v s))) where
  abbrev all : List GroundAtom
  all = atoms_over v.symbols (domains_of v.types (said_in v s))

  never_both : (a : GroundAtom) → is_said_true (said_in v s) a ≡ true → is_said_false (said_in v s) a ≡ true → ⊥
  never_both a t f = true≢false (sym f ∙ given_is_consistent v places s accepted a t)

  -- where a value is said, another one is said to be false
  rival_said : (a b : GroundAtom) → is_said_true (said_in v s) a ≡ true → b.symbol ≡ a.symbol → b.args ≡ a.args
      → (a.value ≡ b.value → ⊥) → is_said_false (said_in v s) b ≡ true
  rival_said a b t e g differ =
      let r = any_has (says_true a) (facts_in (said_in v s)) t in
      let f : Fact = r.0 in
      let parts = and_parts (is_about a f) (f.holds && same_value_of f.value a.value) r.2 in
      let said = and_parts f.holds (same_value_of f.value a.value) parts.1 in
      let other : same_value_of f.value b.value ≡ false =
      false_from_ne_true (same_value_of f.value b.value)
      (λ h. differ (sym (same_value_is f.value a.value said.1) ∙ same_value_is f.value b.value h)) in
      let opposed : are_opposed true f.holds (same_value_of f.value b.value) ≡ true =
      ap (λ h. are_opposed true h (same_value_of f.value b.value)) said.0 ∙ ap not other in
      let says : says_false b f ≡ true =
      and_from (is_about b f) (are_opposed true f.holds (same_value_of f.value b.value))
      (moved a b f e g parts.0) opposed in
      ap (λ x. x || (is_whole (said_in v s) b.symbol && not (is_said_true (said_in v s) b)))
      (has_any (says_false b) (facts_in (said_in v s)) f r.1 says)

  true_of : (a : GroundAtom) → Contains (given_by v (said_in v s)).true_atoms a → is_said_true (said_in v s) a ≡ true
  true_of a c = (kept_has (is_said_true (said_in v s)) all a (has_from (filter (is_said_true (said_in v s)) all) a c)).1

  false_of : (a : GroundAtom) → Contains (given_by v (said_in v s)).false_atoms a → is_said_false (said_in v s) a ≡ true
  false_of a c = (kept_has (is_said_false (said_in v s)) all a
      (has_from (filter (is_said_false (said_in v s)) all) a c)).1

  one_value : (a b : GroundAtom) → is_said_true (said_in v s) a ≡ true → is_said_true (said_in v s) b ≡ true
      → a.symbol ≡ b.symbol → a.args ≡ b.args → a ≡ b
  one_value a b t u e g = elim (cases_Bool (same_value_of a.value b.value)) [
    | inl h ↦ atom_by a b e g (same_value_is a.value b.value h)
    | inr h ↦ absurd (never_both b u
        (rival_said a b t (sym e) (sym g)
        (λ same. true≢false (sym (ap (λ o. same_value_of o b.value) same ∙ value_itself b.value) ∙ h))))
  ]

  over : (test : GroundAtom → _)
      → AllByRecursion (IsAtomOver v.symbols (domains_of v.types (said_in v s))) (filter test all)
  over test = has_all (IsAtomOver v.symbols (domains_of v.types (said_in v s))) (filter test all)
      (λ a m. listed_over v.symbols (domains_of v.types (said_in v s)) a (kept_has test all a m).0)

  is_consistent : IsConsistent (given_by v (said_in v s))
  is_consistent = record {
    over = over (is_said_true (said_in v s));
    single = λ a b c d e g. one_value a b (true_of a c) (true_of b d) e g;
    apart = λ a c d. never_both a (true_of a c) (false_of a d);
  }

  rivals : (a b : GroundAtom) → is_said_true (said_in v s) a ≡ true
      → IsAtomOver v.symbols (domains_of v.types (said_in v s)) b → is_rival a b ≡ true
      → Contains (given_by v (said_in v s)).false_atoms b
  rivals a b t within h =
      let first = and_parts (b.symbol == a.symbol)
      (same_row b.args (map denotation_of a.args)
      && (both_values a.value b.value && not (same_option b.value (option_map denotation_of a.value)))) h in
      let second = and_parts (same_row b.args (map denotation_of a.args))
      (both_values a.value b.value && not (same_option b.value (option_map denotation_of a.value))) first.1 in
      let third = and_parts (both_values a.value b.value)
      (not (same_option b.value (option_map denotation_of a.value))) second.1 in
      let differ : a.value ≡ b.value
      → ⊥ = λ same. true≢false (sym third.1
      ∙ ap not (ap (λ o. same_option b.value (option_map denotation_of o)) same ∙ option_itself b.value)) in
      contains_from (filter (is_said_false (said_in v s)) all) b
      (has_kept (is_said_false (said_in v s)) all b (atom_listed v.symbols (domains_of v.types (said_in v s)) b within)
      (rival_said a b t (eqb-true b.symbol a.symbol first.0) (row_is b.args a.args second.0) differ))

  same_list : (test : GroundAtom → _) → filter test all ≡ filter (λ a. list_any (same_atom a) (filter test all)) all
  same_list test = filter-same test (λ a. list_any (same_atom a) (filter test all)) all
      (λ a m. sym (listed all test a m))

  is_listed : IsListed (given_by v (said_in v s))
  is_listed = record {
    distinct = distinct;
    false_over = over (is_said_false (said_in v s));
    true_listed = same_list (is_said_true (said_in v s));
    false_listed = same_list (is_said_false (said_in v s));
    rivals = λ a b c within h. rivals a b (true_of a c) within h;
  }

pub accepted_are_listed : AcceptedAreListed
accepted_are_listed v places s k g distinct =
    let domains : AllByRecursion IsDistinct (domains_of v.types (said_in v s)) =
    subst (λ (j : KnownAtoms). AllByRecursion IsDistinct j.domains) g.given distinct in
    subst (λ (j : KnownAtoms). IsConsistent j × IsListed j) (sym g.given)
    (is_consistent v places s g.accepted domains, is_listed v places s g.accepted domains)
