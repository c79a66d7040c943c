-- What the stage of data reads in a printed block of atoms is what is known of them.
use Rattle.std.proofs.Common.{◌≡◌, ℕ, ◌+◌, Bool, true, false, not, ◌&&◌, ◌||◌, ◌==◌, List, [], ◌∷◌, map, filter, Option}
use Rattle.std.proofs.Common.{None, Some, slice_get, option_map, refl, sym, ap, subst, ◌∙◌, arith, ◌⊎◌, inl, inr}
use Rattle.std.specs.Prelude.{codes, is_none}
use Rattle.std.specs.List.{enumerate_from, list_any, list_all}
use Rattle.std.proofs.lemmas.Bool.{true≢false, and_parts, and_from, or_cases, cases_Bool, eq-eqb, eqb-true}
use Rattle.std.proofs.lemmas.Bool.{false_from_ne_true}
use Rattle.kb_logic.specs.declared.elements.Elem.{Elem}
use Rattle.kb_logic.specs.declared.vocabularies.Symbol.{Symbol}
use Rattle.kb_logic.specs.declared.vocabularies.Vocabulary.{Vocabulary}
use Rattle.kb_logic.specs.Denotations.{denotation_of}
use Rattle.kb_logic.specs.Models.{GroundAtom, HasValueIn, IsAtomOver}
use Rattle.kb_logic.specs.Structures.{EachWith, tuples_of}
use Rattle.kb_logic.specs.KnownAtoms.{KnownAtoms, atoms_over}
use Rattle.kb_logic.proofs.AllAtoms.{listed_over}
use Rattle.kb_logic.proofs.Has.{Has, has_flat_map, flat_map_has, has_enumerated, enumerated_has, has_from}
use Rattle.kb_logic.proofs.Has.{contains_from, filter-same}
use Rattle.grammar.specs.BlockTrees as raw
use Rattle.partial_structures.specs.KnownAtoms.{value_at, same_atom, same_row, same_option, both_values}
use Rattle.partial_structures.specs.Status.{is_yes, is_no}
use Rattle.partial_structures.specs.Consistency.{IsConsistent, IsListed}
use Rattle.partial_structures.specs.declared.truths.Truth.{Truth}
use Rattle.partial_structures.specs.declared.truths.Truth.TheVariants as truth
use Rattle.partial_structures.proofs.Sames.{atom_by, row_itself, option_is, option_itself}
use Rattle.stage_definitions.specs.Names.{text_of}
use Rattle.stage_definitions.specs.Elements.{one, same_element}
use Rattle.stage_definitions.specs.DataEntries.{Said, said}
use Rattle.stage_definitions.specs.DataDomains.{domains_of}
use Rattle.stage_definitions.specs.DataFacts.{Fact, signs_of, facts_of, facts_in, same_value_of, are_opposed, are_in}
use Rattle.stage_definitions.specs.DataFacts.{is_about, says_true, says_false, gives_whole, is_said_true, is_said_false}
use Rattle.stage_definitions.specs.DataFacts as facts
use Rattle.stage_definitions.specs.DataAnswer.{known_over}
use Rattle.reading_laws.proofs.Same.{is_same, itself, same_value_is, value_itself}
use Rattle.reading_laws.proofs.Listing.{same_tests}
use Rattle.printed_texts.specs.Entries.{PlainRow, row_of, is_known_as, rows_at, is_some_row, is_settled, tuples_for}
use Rattle.printed_texts.specs.Entries.{is_whole, true_rows, false_rows, whole_value, entries_of}
use Rattle.printed_texts.specs.Saying.{SaysEntry, rows_said}
use Rattle.printed_texts.specs.ReadBlocks.{IsWritable}
use Rattle.printed_texts.proofs.Each.{any_has, has_any, all_has}
use Rattle.printed_texts.proofs.KnownRows.{yes_listed, no_listed, yes_true, true_yes, no_false, false_no, not_both}
use Rattle.printed_texts.proofs.KnownRows.{one_value, IsAtomAt, IsKnownRow, row_known, IsRowOf, true_row, false_row}
use Rattle.printed_texts.proofs.KnownRows.{row_true, row_false, some_row, no_row, row_some}
use Rattle.printed_texts.proofs.RightEntries.{whole_of, certain_of, denied_of, right_whole, right_certain, right_denied}
use Rattle.printed_texts.proofs.RightEntries.{said_alone}
use Rattle.printed_texts.proofs.SaidFacts.{IsFactOf, facts_back, facts_forth, facts_none}
use Rattle.printed_texts.proofs.Reading.{ReadAs, as_listing, as_whole, as_certain, as_denied, read_as, whole_read}
use Rattle.printed_texts.proofs.Reading.{certain_read, denied_read}
use Rattle.printed_texts.proofs.ReadDomains.{domains_are}

-- ---- the rows of a symbol of which all is known

whole_said : (args : List ℕ) (rows : List PlainRow) → (args ≡ [] → (r : PlainRow) → Has rows r → r.args ≡ [])
    → (r : PlainRow) → Has (rows_said (whole_value args rows)) r → Has rows r
whole_said (t ∷ ts) rows bare r h = h
whole_said [] [] bare r h = absurd h
whole_said [] (q ∷ rs) bare r h = by (subst (λ (l : List PlainRow). Has l r) (said_alone q.value) h)
  where
    by : Has (record { args = []; value = q.value } ∷ []) r → Has (q ∷ rs) r
    by (inl e) = inl ((λ i. record { args = bare refl q (inl refl) i; value = q.value }) ∙ e)
    by (inr f) = absurd f

pub said_whole : (args : List ℕ) (rows : List PlainRow) (r : PlainRow)
    → (args ≡ [] → (q : PlainRow) → Has rows q → q ≡ r) → (args ≡ [] → r.args ≡ []) → Has rows r
    → Has (rows_said (whole_value args rows)) r
said_whole (t ∷ ts) rows r same bare h = h
said_whole [] [] r same bare h = absurd h
said_whole [] (q ∷ rs) r same bare h =
    let first : q ≡ r = same refl q (inl refl) in
    subst (λ (l : List PlainRow). Has l r) (sym (said_alone q.value))
    (inl ((λ i. record { args = sym (bare refl) i; value = (first i).value })))

-- ---- tests of facts

args_in : (xs ys : List Elem) → are_in xs (map one ys) ≡ true → xs ≡ ys
args_in [] [] h = refl
args_in [] (y ∷ ys) h = absurd (true≢false (sym h))
args_in (x ∷ xs) [] h = absurd (true≢false (sym h))
args_in (x ∷ xs) (y ∷ ys) h =
    let parts = and_parts (same_element x y) (are_in xs (map one ys)) h in
    let first = is_same x y parts.0 in
    let rest = args_in xs ys parts.1 in
    cc

in_args : (xs : List Elem) → are_in xs (map one xs) ≡ true
in_args [] = refl
in_args (x ∷ xs) = and_from (same_element x x) (are_in xs (map one xs)) (itself x) (in_args xs)

-- a fact about an atom, whether it says that it is true or false
pub record IsFactAbout (a : GroundAtom) (sign : Bool) (f : Fact) : Type 0 where
  pub symbol : f.symbol ≡ a.symbol
  pub holds : f.holds ≡ sign
  pub args : f.args ≡ map one a.args
  pub value : f.value ≡ a.value

abbrev pub IsKnown : KnownAtoms → Bool → GroundAtom → Type 0
IsKnown k true a = Has k.true_atoms a
IsKnown k false a = Has k.false_atoms a

-- what a fact says is known
pub record IsRightFact (k : KnownAtoms) (f : Fact) : Type 0 where
  pub atom : GroundAtom
  pub about : IsFactAbout atom f.holds f
  pub known : IsKnown k f.holds atom

about_atom : (a b : GroundAtom) (sign : Bool) (f : Fact) → IsFactAbout b sign f → is_about a f ≡ true
    → (b.symbol ≡ a.symbol) × (b.args ≡ a.args)
about_atom a b sign f h e =
    let parts = and_parts (f.symbol == a.symbol) (are_in a.args f.args) e in (
      sym h.symbol ∙ eqb-true f.symbol a.symbol parts.0,
      sym
          (args_in a.args b.args (ap (are_in a.args) (sym h.args) ∙ parts.1)),
    )

is_about_atom : (a b : GroundAtom) (sign : Bool) (f : Fact) → IsFactAbout b sign f → b.symbol ≡ a.symbol
    → b.args ≡ a.args → is_about a f ≡ true
is_about_atom a b sign f h e g =
    and_from (f.symbol == a.symbol) (are_in a.args f.args) (eq-eqb f.symbol a.symbol (h.symbol ∙ e))
    (ap (are_in a.args) (h.args ∙ ap (map one) g) ∙ in_args a.args)

yes_not_no : (t : Truth) → is_no t ≡ true → is_yes t ≡ false
yes_not_no truth.Yes e = absurd (true≢false (sym e))
yes_not_no truth.No e = refl
yes_not_no truth.Unknown e = refl

not_true : (b : Bool) → not b ≡ true → b ≡ false
not_true true e = absurd (true≢false (sym e))
not_true false e = refl

pub all_item : {X : Type 0} (test : X → Bool) (xs : List X) (x : X) → list_all test xs ≡ true → Has xs x → test x ≡ true
all_item test [] x h m = absurd m
all_item test (y ∷ ys) x h (inl e) = ap test (sym e) ∙ (and_parts (test y) (list_all test ys) h).0
all_item test (y ∷ ys) x h (inr m) = all_item test ys x (and_parts (test y) (list_all test ys) h).1 m

pub none_mark : (o : Option _) → option_map text_of o ≡ None → is_none o ≡ true
none_mark None e = refl
none_mark (Some m) e = absurd (cc)

pub some_mark : (o : Option _) (m : List ℕ) → option_map text_of o ≡ Some m → is_none o ≡ false
some_mark None m e = absurd (cc)
some_mark (Some n) m e = refl

module _ (v : Vocabulary) (title : List ℕ) (k : KnownAtoms) (w : IsWritable v title k) (c : IsConsistent k)
    (l : IsListed k) where
  -- another value than one that is true is false
  rival_false : (a b : GroundAtom) → Has k.true_atoms b → IsAtomOver k.symbols k.domains a → b.symbol ≡ a.symbol
      → b.args ≡ a.args → both_values b.value a.value ≡ true → (a.value ≡ b.value → ⊥) → Has k.false_atoms a
  rival_false a b m over e g both differ =
      has_from k.false_atoms a
      (l.rivals b a (contains_from k.true_atoms b m) over
      (and_from (a.symbol == b.symbol) _ (eq-eqb a.symbol b.symbol (sym e))
      (and_from (same_row a.args (map denotation_of b.args)) _ (ap (λ xs. same_row a.args (map denotation_of xs)) g
      ∙ row_itself a.args)
      (and_from (both_values b.value a.value) _ both
      (ap not (false_from_ne_true (same_option a.value (option_map denotation_of b.value))
      (λ s. differ (option_is a.value b.value s))))))))

  module _ (s : ℕ × Symbol) (args : List Elem) (a b : GroundAtom) (at : IsAtomAt k s args a)
      (at' : IsAtomAt k s args b) where
    -- two atoms of one symbol at the same arguments are the same atom of a predicate, or have two values of a function
    two_values : (value : Option ℕ) → s.1.value ≡ value → (both_values b.value a.value ≡ true) ⊎ (a.value ≡ b.value)
    two_values value e = by value (subst (λ o. HasValueIn k.domains o a.value) e at.value)
        (subst (λ o. HasValueIn k.domains o b.value) e at'.value) a.value refl b.value refl
      where
        by : (o : Option ℕ) → HasValueIn k.domains o a.value → HasValueIn k.domains o b.value → (x : Option Elem)
            → a.value ≡ x → (y : Option Elem) → b.value ≡ y → (both_values b.value a.value ≡ true) ⊎ (a.value ≡ b.value)
        by o h j None f None g = inr (f ∙ sym g)
        by o h j (Some x) f (Some y) g = inl (rw (f, g) refl)
        by None h j (Some x) f None g = absurd (subst (λ z. HasValueIn k.domains None z) f h)
        by (Some ty) h j (Some x) f None g = absurd (subst (λ z. HasValueIn k.domains (Some ty) z) g j)
        by None h j None f (Some y) g = absurd (subst (λ z. HasValueIn k.domains None z) g j)
        by (Some ty) h j None f (Some y) g = absurd (subst (λ z. HasValueIn k.domains (Some ty) z) f h)

    pub at_same : a.value ≡ b.value → b ≡ a
    at_same e = atom_by b a (at'.symbol ∙ sym at.symbol) (at'.args ∙ sym at.args) (sym e)

    -- where one is true, the other is it or is false
    pub true_or_false : Has k.true_atoms b → IsAtomOver k.symbols k.domains a → (b ≡ a) ⊎ Has k.false_atoms a
    true_or_false m over = elim (two_values s.1.value refl) [
      | inr e ↦ inl (at_same e)
      | inl both ↦ elim (cases_Bool (same_option a.value (option_map denotation_of b.value))) [
        | inl e ↦ inl (at_same (option_is a.value b.value e))
        | inr n ↦ inr (rival_false a b m over (at'.symbol ∙ sym at.symbol) (at'.args ∙ sym at.args) both
            (λ e. true≢false (sym (itself_option e) ∙ n)))
      ]
    ]
      where
        itself_option : a.value ≡ b.value → same_option a.value (option_map denotation_of b.value) ≡ true
        itself_option e = ap (λ o. same_option a.value (option_map denotation_of o)) (sym e) ∙ option_itself a.value

  module _ (xs : List raw.Entry) (says : EachWith SaysEntry (entries_of v k) xs) where
    right_fact : (s : ℕ × Symbol) (sign : Bool) (r : PlainRow) (f : Fact) → IsRowOf k s sign r → IsFactOf s.0 sign r f
        → IsRightFact k f
    right_fact s sign r f h j =
        let a = h.known.atom in
        record {
          atom = a;
          about = record {
            symbol = j.symbol ∙ sym h.known.at.symbol;
            holds = refl;
            args = j.args ∙ ap (λ (q : PlainRow). map one q.args) (sym h.known.row);
            value = j.value ∙ ap (λ (q : PlainRow). q.value) (sym h.known.row);
          };
          known = subst (λ b. IsKnown k b a) (sym j.holds) (by sign h.known.known);
        }
      where
        by : (b : Bool) → is_known_as b k h.known.atom ≡ true → IsKnown k b h.known.atom
        by true e = yes_true k h.known.atom e
        by false e = no_false k h.known.atom e

    -- a row of a symbol without arguments has none
    bare_row : (s : ℕ × Symbol) → s.1.args ≡ [] → (r : PlainRow) → Has (true_rows k s) r → r.args ≡ []
    bare_row s e r m =
        let h = true_row k s r m in
        let tuple : Has ([] ∷ []) h.args = subst (λ types. Has (tuples_of k.domains types) h.args) e h.tuple in
        ap (λ (q : PlainRow). q.args) (sym h.known.row) ∙ h.known.at.args ∙ only tuple
      where
        only : {xs : List Elem} → Has ([] ∷ []) xs → xs ≡ []
        only (inl e) = sym e
        only (inr f) = absurd f

    only_true : (b : Bool) → Has (true ∷ []) b → b ≡ true
    only_true b (inl e) = sym e
    only_true b (inr f) = absurd f

    only_false : (b : Bool) → Has (false ∷ []) b → b ≡ false
    only_false b (inl e) = sym e
    only_false b (inr f) = absurd f

    read_fact : (e : Said) → ReadAs v k e → (f : Fact) → Has (facts_of e) f → IsRightFact k f
    read_fact e (as_listing t m made h) f n = absurd (facts_none _ t e h f n)
    read_fact e (as_whole s m whole h) f n =
        let b = facts_back k.domains (whole_of k s) s e (right_whole k s whole) h f n in
        let r = whole_said s.1.args (true_rows k s) (bare_row s) b.2.0 b.2.1 in
        right_fact s true b.2.0 f (true_row k s b.2.0 r)
        (subst (λ sign. IsFactOf s.0 sign b.2.0 f) (only_true b.0 b.1) b.2.2)
    read_fact e (as_certain s m open_ some h) f n =
        let b = facts_back k.domains (certain_of k s) s e (right_certain k s open_ some) h f n in
        right_fact s true b.2.0 f (true_row k s b.2.0 b.2.1)
        (subst (λ sign. IsFactOf s.0 sign b.2.0 f) (only_true b.0 b.1) b.2.2)
    read_fact e (as_denied s m open_ some h) f n =
        let b = facts_back k.domains (denied_of k s) s e (right_denied k s open_ some) h f n in
        right_fact s false b.2.0 f (false_row k s b.2.0 b.2.1)
        (subst (λ sign. IsFactOf s.0 sign b.2.0 f) (only_false b.0 b.1) b.2.2)

    pub facts_right : (f : Fact) → Has (facts_in (map (said v) xs)) f → IsRightFact k f
    facts_right f m = let r = flat_map_has facts_of (map (said v) xs) f m in
        read_fact r.0 (read_as v title k w xs says r.0 r.1) f r.2

    -- ---- each atom that is known is said

    atom_fact : (a : GroundAtom) (s : ℕ × Symbol) (args : List Elem) (sign : Bool) (f : Fact) → IsAtomAt k s args a
        → IsFactOf s.0 sign (row_of a) f → IsFactAbout a sign f
    atom_fact a s args sign f at h =
        record { symbol = h.symbol ∙ sym at.symbol; holds = h.holds; args = h.args; value = h.value }

    pub one_row : (s : ℕ × Symbol) (a : GroundAtom) (args : List Elem) → IsAtomAt k s args a → Has k.true_atoms a
        → args ≡ [] → s.1.args ≡ [] → (q : PlainRow) → Has (true_rows k s) q → q ≡ row_of a
    one_row s a args at m bare e q n =
        let h = true_row k s q n in
        let q_bare : h.known.atom.args ≡ [] = ap (λ (r : PlainRow). r.args) h.known.row ∙ bare_row s e q n in
        let same : h.known.atom ≡ a = one_value k c h.known.atom a (yes_true k h.known.atom h.known.known) m
        (h.known.at.symbol ∙ sym at.symbol) (q_bare ∙ sym (at.args ∙ bare)) in
        sym h.known.row ∙ ap row_of same

    pub bare_tuple : (s : ℕ × Symbol) (args : List Elem) → Has (tuples_for k s) args → s.1.args ≡ [] → args ≡ []
    bare_tuple s args t e = only (subst (λ types. Has (tuples_of k.domains types) args) e t)
      where
        only : Has ([] ∷ []) args → args ≡ []
        only (inl f) = sym f
        only (inr f) = absurd f

    true_fact : (s : ℕ × Symbol) → Has (enumerate_from 0 k.symbols) s → (args : List Elem) → Has (tuples_for k s) args
        → (a : GroundAtom) → IsAtomAt k s args a → Has k.true_atoms a → (f : Fact) × Has (facts_in (map (said v) xs)) f
        × IsFactAbout a true f
    true_fact s m args t a at known = by (is_whole k s) refl
      where
        row : Has (true_rows k s) (row_of a)
        row = row_true k s args a t at (true_yes k a known)

        by : (b : Bool) → is_whole k s ≡ b → (f : Fact) × Has (facts_in (map (said v) xs)) f × IsFactAbout a true f
        by true e =
            let r = whole_read v title k w xs says s m e in
            let f = facts_forth k.domains (whole_of k s) s r.0 (right_whole k s e) r.2 true (inl refl) (row_of a)
            (said_whole s.1.args (true_rows k s) (row_of a)
            (λ b q n. one_row s a args at known (bare_tuple s args t b) b q n) (λ b. at.args
            ∙ bare_tuple s args t b) (row_true k s args a t at (true_yes k a known))) in
            (f.0, has_flat_map facts_of (map (said v) xs) r.0 f.0 r.1 f.1, atom_fact a s args true f.0 at f.2)
        by false e =
            let some = row_some (true_rows k s) (row_of a) (row_true k s args a t at (true_yes k a known)) in
            let r = certain_read v title k w xs says s m e some in
            let f = facts_forth k.domains (certain_of k s) s r.0 (right_certain k s e some) r.2 true (inl refl)
            (row_of a) (row_true k s args a t at (true_yes k a known)) in
            (f.0, has_flat_map facts_of (map (said v) xs) r.0 f.0 r.1 f.1, atom_fact a s args true f.0 at f.2)

    false_fact : (s : ℕ × Symbol) → Has (enumerate_from 0 k.symbols) s → is_whole k s ≡ false → (args : List Elem)
        → Has (tuples_for k s) args → rows_at true k s args ≡ [] → (a : GroundAtom) → IsAtomAt k s args a
        → is_no (value_at k a) ≡ true → (f : Fact) × Has (facts_in (map (said v) xs)) f × IsFactAbout a false f
    false_fact s m e args t none a at known =
        let row = row_false k s args a t at none known in
        let some = row_some (false_rows k s) (row_of a) row in
        let r = denied_read v title k w xs says s m e some in
        let f = facts_forth k.domains (denied_of k s) s r.0 (right_denied k s e some) r.2 false (inl refl)
        (row_of a) row in
        (f.0, has_flat_map facts_of (map (said v) xs) r.0 f.0 r.1 f.1, atom_fact a s args false f.0 at f.2)

    -- ---- symbols that are given whole

    abbrev gives : ℕ → Said → Bool
    gives n e = gives_whole n e.subject && is_none e.mark

    whole_given : (s : ℕ × Symbol) → Has (enumerate_from 0 k.symbols) s → is_whole k s ≡ true
        → facts.is_whole (map (said v) xs) s.0 ≡ true
    whole_given s m e =
        let r = whole_read v title k w xs says s m e in
        has_any (gives s.0) (map (said v) xs) r.0 r.1
        (and_from (gives_whole s.0 r.0.subject) (is_none r.0.mark) (ap (gives_whole s.0) r.2.subject
        ∙ eq-eqb s.0 s.0 refl) (none_mark r.0.mark r.2.mark))

    given_kind : (n : ℕ) (e : Said) → ReadAs v k e → gives_whole n e.subject ≡ true → is_none e.mark ≡ true
        → (s : ℕ × Symbol) × Has (enumerate_from 0 k.symbols) s × (s.0 ≡ n) × (is_whole k s ≡ true)
    given_kind n e (as_listing t m made h) g o = absurd (true≢false (sym g ∙ ap (gives_whole n) h.subject))
    given_kind n e (as_whole s m whole h) g o = (s, m, eqb-true s.0 n (sym (ap (gives_whole n) h.subject) ∙ g), whole)
    given_kind n e (as_certain s m open_ some h) g o =
        absurd (true≢false (sym o ∙ some_mark e.mark (codes "ct") h.mark))
    given_kind n e (as_denied s m open_ some h) g o = absurd (true≢false (sym o ∙ some_mark e.mark (codes "cf") h.mark))

    given_whole : (n : ℕ) → facts.is_whole (map (said v) xs) n ≡ true
        → (s : ℕ × Symbol) × Has (enumerate_from 0 k.symbols) s × (s.0 ≡ n) × (is_whole k s ≡ true)
    given_whole n h =
        let r = any_has (gives n) (map (said v) xs) h in
        let parts = and_parts (gives_whole n r.0.subject) (is_none r.0.mark) r.2 in
        given_kind n r.0 (read_as v title k w xs says r.0 r.1) parts.0 parts.1

    -- ---- atom by atom

    module _ (a : GroundAtom) (in_all : Has (atoms_over k.symbols k.domains) a) where
      abbrev over : IsAtomOver k.symbols k.domains a
      over = listed_over k.symbols k.domains a in_all

      abbrev symbol : ℕ × Symbol
      symbol = (a.symbol, (listed_over k.symbols k.domains a in_all).0)

      declared : Has (enumerate_from 0 k.symbols) symbol
      declared =
          let plus : 0 + a.symbol ≡ a.symbol = omega arith in
          subst (λ n. Has (enumerate_from 0 k.symbols) (n, symbol.1)) plus
          (has_enumerated 0 a.symbol k.symbols symbol.1 over.1)

      tuple : Has (tuples_for k symbol) a.args
      tuple = has_from (tuples_of k.domains symbol.1.args) a.args over.2

      at : IsAtomAt k symbol a.args a
      at = record { symbol = refl; args = refl; value = over.3 }

      -- an atom that is known, of the same symbol at the same arguments
      other_at : (b : GroundAtom) → IsAtomOver k.symbols k.domains b → b.symbol ≡ a.symbol → b.args ≡ a.args
          → IsAtomAt k symbol a.args b
      other_at b bo e g =
          let both : Some bo.0 ≡ Some symbol.1 = sym bo.1 ∙ ap (λ n. slice_get k.symbols n) e ∙ over.1 in
          let same : bo.0 ≡ symbol.1 = cc in
          record {
            symbol = e;
            args = g;
            value = subst (λ (d : Symbol). HasValueIn k.domains d.value b.value) same bo.3;
          }

      true_over : (b : GroundAtom) → Has k.true_atoms b → IsAtomOver k.symbols k.domains b
      true_over b m = all_has (IsAtomOver k.symbols k.domains) k.true_atoms c.over b m

      pub said_true : is_said_true (map (said v) xs) a ≡ is_yes (value_at k a)
      said_true = same_tests (is_said_true (map (said v) xs) a) (is_yes (value_at k a)) forth back
        where
          from_fact : (f : Fact) → IsRightFact k f → says_true a f ≡ true → is_yes (value_at k a) ≡ true
          from_fact f h e =
              let outer = and_parts (is_about a f) (f.holds && same_value_of f.value a.value) e in
              let inner = and_parts f.holds (same_value_of f.value a.value) outer.1 in
              let about = about_atom a h.atom f.holds f h.about outer.0 in
              let same : h.atom ≡ a =
              atom_by h.atom a about.0 about.1 (sym h.about.value ∙ same_value_is f.value a.value inner.1) in
              true_yes k a (subst (λ b. Has k.true_atoms b) same (subst (λ b. IsKnown k b h.atom) inner.0 h.known))

          forth : is_said_true (map (said v) xs) a ≡ true → is_yes (value_at k a) ≡ true
          forth e = let r = any_has (says_true a) (facts_in (map (said v) xs)) e in
              from_fact r.0 (facts_right r.0 r.1) r.2

          back : is_yes (value_at k a) ≡ true → is_said_true (map (said v) xs) a ≡ true
          back e =
              let r = true_fact symbol declared a.args tuple a at (yes_true k a e) in
              has_any (says_true a) (facts_in (map (said v) xs)) r.0 r.1
              (and_from (is_about a r.0) (r.0.holds && same_value_of r.0.value a.value)
              (is_about_atom a a true r.0 r.2 refl refl)
              (and_from r.0.holds (same_value_of r.0.value a.value) r.2.holds
              (ap (λ o. same_value_of o a.value) r.2.value ∙ value_itself a.value)))

      -- where all is known of the symbol, and the atom is not true
      whole_false : is_whole k symbol ≡ true → is_yes (value_at k a) ≡ false → is_no (value_at k a) ≡ true
      whole_false e n = by symbol.1.value refl (all_item _ (tuples_for k symbol) a.args e tuple)
        where
          same_row : (sign : Bool) (r : PlainRow) (h : IsKnownRow k symbol sign a.args r)
              → (h.atom ≡ a) ⊎ (a.value ≡ h.atom.value → ⊥)
          same_row sign r h = elim (cases_Bool (same_value_of a.value h.atom.value)) [
            | inl s ↦ inl (at_same symbol a.args a h.atom at h.at (same_value_is a.value h.atom.value s))
            | inr s ↦ inr (λ f. true≢false (sym (ap (λ o. same_value_of a.value o) (sym f) ∙ value_itself a.value) ∙ s))
          ]

          from_true : is_some_row (rows_at true k symbol a.args) ≡ true → is_no (value_at k a) ≡ true
          from_true some =
              let r = some_row (rows_at true k symbol a.args) some in
              let h = row_known k symbol true a.args r.0 r.1 in
              elim (true_or_false symbol a.args a h.atom at h.at (yes_true k h.atom h.known) over) [
                | inl same ↦ absurd (true≢false (sym (ap (λ b. is_yes (value_at k b)) (sym same) ∙ h.known) ∙ n))
                | inr f ↦ false_no k c a f
              ]

          from_false : symbol.1.value ≡ None → is_some_row (rows_at false k symbol a.args) ≡ true
              → is_no (value_at k a) ≡ true
          from_false none some =
              let r = some_row (rows_at false k symbol a.args) some in
              let h = row_known k symbol false a.args r.0 r.1 in
              let a_none = no_value a.value (subst (λ o. HasValueIn k.domains o a.value) none at.value) in
              let b_none = no_value h.atom.value (subst (λ o. HasValueIn k.domains o h.atom.value) none h.at.value) in
              ap (λ b. is_no (value_at k b)) (sym (at_same symbol a.args a h.atom at h.at (a_none ∙ sym b_none)))
              ∙ h.known
            where
              no_value : (o : Option Elem) → HasValueIn k.domains None o → o ≡ None
              no_value None z = refl
              no_value (Some x) z = absurd z

          by : (o : Option ℕ) → symbol.1.value ≡ o
              → is_settled symbol.1.value (rows_at true k symbol a.args) (rows_at false k symbol a.args) ≡ true
              → is_no (value_at k a) ≡ true
          by None f s = elim (or_cases (is_some_row (rows_at true k symbol a.args))
              (is_some_row (rows_at false k symbol a.args))
              (ap (λ q. is_settled q (rows_at true k symbol a.args) (rows_at false k symbol a.args)) (sym f) ∙ s)) [
                | inl t ↦ from_true t
                | inr t ↦ from_false f t
              ]
          by (Some ty) f s = from_true
              (ap (λ q. is_settled q (rows_at true k symbol a.args) (rows_at false k symbol a.args)) (sym f) ∙ s)

      pub said_false : is_said_false (map (said v) xs) a ≡ is_no (value_at k a)
      said_false = same_tests (is_said_false (map (said v) xs) a) (is_no (value_at k a)) forth back
        where
          from_fact : (f : Fact) → IsRightFact k f → says_false a f ≡ true → is_no (value_at k a) ≡ true
          from_fact f h e = by f.holds refl
            where
              outer : (is_about a f ≡ true) × (are_opposed true f.holds (same_value_of f.value a.value) ≡ true)
              outer = and_parts (is_about a f) (are_opposed true f.holds (same_value_of f.value a.value)) e

              about : (h.atom.symbol ≡ a.symbol) × (h.atom.args ≡ a.args)
              about = about_atom a h.atom f.holds f h.about
                  (and_parts (is_about a f) (are_opposed true f.holds (same_value_of f.value a.value)) e).0

              by : (b : Bool) → f.holds ≡ b → is_no (value_at k a) ≡ true
              by true g =
                  let known : Has k.true_atoms h.atom = subst (λ b. IsKnown k b h.atom) g h.known in
                  let differ : same_value_of f.value a.value ≡ false =
                  not_true (same_value_of f.value a.value)
                  (sym (ap (λ b. are_opposed true b (same_value_of f.value a.value)) g) ∙ outer.1) in
                  elim (true_or_false symbol a.args a h.atom
                  at (other_at h.atom (true_over h.atom known) about.0 about.1) known over) [
                    | inl same ↦ absurd (true≢false
                        (sym (ap (λ o. same_value_of o a.value) (h.about.value ∙ ap (λ b. b.value) same)
                        ∙ value_itself a.value) ∙ differ))
                    | inr n ↦ false_no k c a n
                  ]
              by false g =
                  let known : Has k.false_atoms h.atom = subst (λ b. IsKnown k b h.atom) g h.known in
                  let value : same_value_of f.value a.value ≡ true =
                  sym (ap (λ b. are_opposed true b (same_value_of f.value a.value)) g) ∙ outer.1 in
                  let same : h.atom ≡ a =
                  atom_by h.atom a about.0 about.1 (sym h.about.value ∙ same_value_is f.value a.value value) in
                  false_no k c a (subst (λ b. Has k.false_atoms b) same known)

          from_whole : (facts.is_whole (map (said v) xs) a.symbol && not (is_said_true (map (said v) xs) a)) ≡ true
              → is_no (value_at k a) ≡ true
          from_whole e =
              let parts = and_parts (facts.is_whole (map (said v) xs) a.symbol)
              (not (is_said_true (map (said v) xs) a)) e in
              let s = given_whole a.symbol parts.0 in
              let r = enumerated_has 0 k.symbols s.0.0 s.0.1 s.1 in
              let place : r.0 ≡ a.symbol = omega (arith, r.1, s.2) in
              let both : Some s.0.1 ≡ Some symbol.1 = sym r.2 ∙ ap (λ n. slice_get k.symbols n) place ∙ over.1 in
              let decl : s.0.1 ≡ symbol.1 = cc in
              let same : s.0 ≡ symbol = λ i. (s.2 i, decl i) in
              whole_false (ap (is_whole k) (sym same) ∙ s.3) (sym said_true
              ∙ not_true (is_said_true (map (said v) xs) a) parts.1)

          forth : is_said_false (map (said v) xs) a ≡ true → is_no (value_at k a) ≡ true
          forth e = elim (or_cases (list_any (says_false a) (facts_in (map (said v) xs)))
              (facts.is_whole (map (said v) xs) a.symbol && not (is_said_true (map (said v) xs) a)) e) [
                | inl h ↦ let r = any_has (says_false a) (facts_in (map (said v) xs)) h in
                    from_fact r.0 (facts_right r.0 r.1) r.2
                | inr h ↦ from_whole h
              ]

          by_fact : (f : Fact) → Has (facts_in (map (said v) xs)) f → says_false a f ≡ true
              → is_said_false (map (said v) xs) a ≡ true
          by_fact f m e = ap (λ b. b
              || (facts.is_whole (map (said v) xs) a.symbol && not (is_said_true (map (said v) xs) a)))
              (has_any (says_false a) (facts_in (map (said v) xs)) f m e)

          or_true : (b : Bool) → (b || true) ≡ true
          or_true true = refl
          or_true false = refl

          back : is_no (value_at k a) ≡ true → is_said_false (map (said v) xs) a ≡ true
          back e = by (is_whole k symbol) refl
            where
              open_ : is_whole k symbol ≡ false → (b : Bool) → is_some_row (rows_at true k symbol a.args) ≡ b
                  → is_said_false (map (said v) xs) a ≡ true
              open_ g true some =
                  let r = some_row (rows_at true k symbol a.args) some in
                  let h = row_known k symbol true a.args r.0 r.1 in
                  let known = yes_true k h.atom h.known in
                  let f = true_fact symbol declared a.args tuple h.atom h.at known in
                  let differ : same_value_of f.0.value a.value ≡ false =
                  false_from_ne_true (same_value_of f.0.value a.value)
                  (λ s. let same : h.atom ≡ a =
                  at_same symbol a.args a h.atom
                  at h.at (sym (sym f.2.value ∙ same_value_is f.0.value a.value s)) in
                  not_both k c a (subst (λ b. Has k.true_atoms b) same known) (no_false k a e)) in
                  by_fact f.0 f.1
                  (and_from (is_about a f.0) (are_opposed true f.0.holds (same_value_of f.0.value a.value))
                  (is_about_atom a h.atom true f.0 f.2 h.at.symbol h.at.args)
                  (ap (λ b. are_opposed true b (same_value_of f.0.value a.value)) f.2.holds ∙ ap not differ))
              open_ g false none =
                  let f = false_fact symbol declared g a.args tuple
                  (no_row (rows_at true k symbol a.args) none) a at e in
                  by_fact f.0 f.1
                  (and_from (is_about a f.0) (are_opposed true f.0.holds (same_value_of f.0.value a.value))
                  (is_about_atom a a false f.0 f.2 refl refl)
                  (ap (λ b. are_opposed true b (same_value_of f.0.value a.value)) f.2.holds
                  ∙ ap (λ o. same_value_of o a.value) f.2.value ∙ value_itself a.value))

              by : (b : Bool) → is_whole k symbol ≡ b → is_said_false (map (said v) xs) a ≡ true
              by true g =
                  let given = whole_given symbol declared g in
                  let not_said : is_said_true (map (said v) xs) a ≡ false = said_true ∙ yes_not_no (value_at k a) e in
                  ap (λ b. list_any (says_false a) (facts_in (map (said v) xs)) || b)
                  (and_from (facts.is_whole (map (said v) xs) a.symbol) (not (is_said_true (map (said v) xs) a))
                  given (ap not not_said))
                  ∙ or_true (list_any (says_false a) (facts_in (map (said v) xs)))
              by false g = open_ g (is_some_row (rows_at true k symbol a.args)) refl

    pub true_atoms_are : filter (is_said_true (map (said v) xs)) (atoms_over k.symbols k.domains) ≡ k.true_atoms
    true_atoms_are =
        filter-same (is_said_true (map (said v) xs)) (λ a. list_any (same_atom a) k.true_atoms)
        (atoms_over k.symbols k.domains) (λ a m. said_true a m ∙ yes_listed k a)
        ∙ sym l.true_listed

    pub false_atoms_are : filter (is_said_false (map (said v) xs)) (atoms_over k.symbols k.domains) ≡ k.false_atoms
    false_atoms_are =
        filter-same (is_said_false (map (said v) xs)) (λ a. list_any (same_atom a) k.false_atoms)
        (atoms_over k.symbols k.domains) (λ a m. said_false a m ∙ no_listed k c a)
        ∙ sym l.false_listed

    pub known_are : k ≡ known_over v.symbols (map (said v) xs) (domains_of v.types (map (said v) xs))
    known_are =
        (λ i. record {
          symbols = k.symbols;
          domains = k.domains;
          true_atoms = sym true_atoms_are i;
          false_atoms =
              sym false_atoms_are i;
        })
        ∙ ap (λ ss. known_over ss (map (said v) xs) k.domains) w.symbols
        ∙ ap (λ ds. known_over v.symbols (map (said v) xs) ds) (sym (domains_are v title k w xs says))
