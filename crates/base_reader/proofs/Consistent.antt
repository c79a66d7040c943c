-- What an accepted structure gives is consistent.
use Rattle.std.proofs.Common.{◌≡◌, inl, inr, ◌==◌, ◌&&◌, ℕ, Bool, true, false, not, List, filter, Option, None, Some}
use Rattle.std.proofs.Common.{refl, sym, ap, ◌∙◌, Contains}
use Rattle.std.specs.List.{AllByRecursion, list_any}
use Rattle.std.proofs.lemmas.Bool.{true≢false, and_parts, and_from, or_left, cases_Bool}
use Rattle.std.proofs.lemmas.Bool.Decides.{Decides-int_eq}
use Rattle.std.proofs.lemmas.Slice.Eq.{bytes_eq-Decides}
use Rattle.kb_text.specs.declared.fault.KbFault.{KbFault}
use Rattle.kb_logic.specs.declared.elements.Elem.{Elem}
use Rattle.kb_logic.specs.declared.elements.Elem.TheVariants.{Named, Num}
use Rattle.kb_logic.specs.declared.vocabularies.Symbol.{Symbol}
use Rattle.kb_logic.specs.declared.vocabularies.Vocabulary.{Vocabulary}
use Rattle.kb_logic.specs.KnownAtoms.{atoms_over}
use Rattle.kb_logic.specs.Models.{GroundAtom, IsAtomOver}
use Rattle.kb_logic.proofs.AllAtoms.{listed_over}
use Rattle.kb_logic.proofs.Has.{has_from}
use Rattle.kb_logic.proofs.Members.{in_all, from_filter, some_one, one_is_some}
use Rattle.kb_logic.proofs.Tables.{passes_filter}
use Rattle.grammar.specs.BlockTrees as raw
use Rattle.partial_structures.specs.Consistency.{IsConsistent}
use Rattle.stage_definitions.specs.Elements.{same_element}
use Rattle.stage_definitions.specs.DataAnswer.{given_by}
use Rattle.stage_definitions.specs.DataDomains.{domains_of}
use Rattle.stage_definitions.specs.DataEntries.{Said, said_in}
use Rattle.stage_definitions.specs.DataFacts.{Fact, facts_in, same_value_of, are_opposed, are_in, is_about, says_true}
use Rattle.stage_definitions.specs.DataFacts.{says_false, is_whole, is_said_true, is_said_false}
use Rattle.stage_definitions.specs.DataStage.{EntriesRefuse}
use Rattle.reading_laws.specs.DataLaws.{GivenIsConsistent}

-- ---- one value

is_same : (x y : Elem) → same_element x y ≡ true → x ≡ y
is_same (Named q) (Named r) h = ap Named ((bytes_eq-Decides q r).0 h)
is_same (Named q) (Num z) h = absurd (cc)
is_same (Num y) (Named r) h = absurd (cc)
is_same (Num y) (Num z) h = ap Num ((Decides-int_eq y z).0 h)

value_is : (o u : Option Elem) → same_value_of o u ≡ true → o ≡ u
value_is None None h = refl
value_is None (Some y) h = absurd (cc)
value_is (Some x) None h = absurd (cc)
value_is (Some x) (Some y) h = ap Some (is_same x y h)

abbrev make : ℕ → List Elem → Option Elem → GroundAtom
make s xs o = record { symbol = s; args = xs; value = o }

same_atom : (a b : GroundAtom) → a.symbol ≡ b.symbol → a.args ≡ b.args → a.value ≡ b.value → a ≡ b
same_atom a b e f g = ap (λ s. make s a.args a.value) e ∙ ap (λ xs. make b.symbol xs a.value) f
    ∙ ap (λ o. make b.symbol b.args o) g

abbrev IsOneWay : List Said → Type 0
IsOneWay es = (a : GroundAtom) → is_said_true es a ≡ true → is_said_false es a ≡ false

module _ (es : List Said) (one_way : IsOneWay es) where
  not_false : (a : GroundAtom) (f : Fact) → is_said_true es a ≡ true → Contains (facts_in es) f → says_false a f ≡ true
      → ⊥
  not_false a f h c k =
      true≢false (sym (or_left (list_any (says_false a) (facts_in es)) (is_whole es a.symbol && not (is_said_true es a))
      (one_is_some (says_false a) (facts_in es) f c k)) ∙ one_way a h)

  -- a fact that is true, and about the atom, gives its value
  value_by : (a : GroundAtom) (f : Fact) → is_said_true es a ≡ true → Contains (facts_in es) f → is_about a f ≡ true
      → f.holds ≡ true → f.value ≡ a.value
  value_by a f h c about holds = elim (cases_Bool (same_value_of f.value a.value)) [
    | inl e ↦ value_is f.value a.value e
    | inr e ↦
        let opposed : are_opposed true f.holds (same_value_of f.value a.value) ≡ true =
        ap (λ b. are_opposed true b (same_value_of f.value a.value)) holds ∙ ap not e in
        absurd (not_false a f h c (and_from (is_about a f) (are_opposed true f.holds (same_value_of f.value a.value))
        about opposed))
  ]

  about_same : (a b : GroundAtom) (f : Fact) → a.symbol ≡ b.symbol → a.args ≡ b.args → is_about b f ≡ true
      → is_about a f ≡ true
  about_same a b f e g h =
      ap (λ s. (f.symbol == s) && are_in a.args f.args) e ∙ ap (λ xs. (f.symbol == b.symbol) && are_in xs f.args) g ∙ h

  one_value : (a b : GroundAtom) → is_said_true es a ≡ true → is_said_true es b ≡ true → a.symbol ≡ b.symbol → a.args
      ≡ b.args → a ≡ b
  one_value a b h g e f =
      let fact = some_one (says_true b) (facts_in es) g in
      let outer = and_parts (is_about b fact.0) (fact.0.holds && same_value_of fact.0.value b.value) fact.2 in
      let inner = and_parts fact.0.holds (same_value_of fact.0.value b.value) outer.1 in
      let first = value_by a fact.0 h fact.1 (about_same a b fact.0 e f outer.0) inner.0 in
      same_atom a b e f (sym first ∙ value_is fact.0.value b.value inner.1)

-- ---- a structure

module _ (symbols : List Symbol) (domains : List (List Elem)) (test : GroundAtom → Bool) where
  abbrev such : List GroundAtom
  such = filter test (atoms_over symbols domains)

  passes : (a : GroundAtom) → Contains such a → test a ≡ true
  passes a c = passes_filter test (atoms_over symbols domains) a (has_from such a c)

  pub are_over : AllByRecursion (IsAtomOver symbols domains) such
  are_over = in_all (IsAtomOver symbols domains) such (λ a c. listed_over symbols domains a
      (has_from (atoms_over symbols domains) a (from_filter test (atoms_over symbols domains) a c)))

pub given_consistent : GivenIsConsistent → (v : Vocabulary) (places : List ℕ) (s : raw.Structure)
    → ((q : KbFault) → EntriesRefuse v places s q → ⊥)
    → IsConsistent (given_by v (said_in v s))
given_consistent law v places s accepted =
    let es = said_in v s in
    let domains = domains_of v.types es in
    let one_way : IsOneWay es = law v places s accepted in
    record {
      over = are_over v.symbols domains (is_said_true es);
      single = λ a b c d e f. one_value es one_way a b (passes v.symbols domains (is_said_true es) a c)
          (passes v.symbols domains (is_said_true es) b d) e f;
      apart = λ a c d.
          true≢false (sym (passes v.symbols domains (is_said_false es) a d)
          ∙ one_way a (passes v.symbols domains (is_said_true es) a c));
    }
