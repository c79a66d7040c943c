-- What the stage of sizes accepts is bounded.
use Rattle.std.proofs.Common.{◌≡◌, ℕ, Bool, true, false, not, ◌||◌, List, [], ◌∷◌, ◌++◌, length, map, Option, None}
use Rattle.std.proofs.Common.{Some, option_map, slice_get, refl, sym, ap, subst, ◌∙◌, arith, Contains}
use Rattle.std.specs.Prelude.{option_to_list, zip, IfSome}
use Rattle.std.specs.List.{list_any, list_all, flat_map, AllByRecursion}
use Rattle.std.proofs.lemmas.Bool.{true≢false, and_parts, and_from, false_from_ne_true}
use Rattle.std.proofs.lemmas.Option.{slice_get-map}
use Rattle.std.proofs.lemmas.List.Elements.{Contains-append_left, Contains-append_right}
use Rattle.std.proofs.lemmas.List.Folds.{list_all-append}
use Rattle.std.proofs.lemmas.List.Concat.{flat_map-append}
use Rattle.kb_text.specs.declared.fault.K.TheVariants as k
use Rattle.kb_logic.specs.declared.elements.Elem.{Elem}
use Rattle.kb_logic.specs.declared.vocabularies.Vocabulary.{Vocabulary}
use Rattle.kb_logic.specs.Trees.{TermTree, FormulaTree, RuleTree, DefinitionTree}
use Rattle.kb_logic.specs.Bounds.{Interval, types_of, IsBounded, TermIsBounded, RuleIsBounded, TheoryIsBounded}
use Rattle.stage_definitions.specs.Earliest.{refusal, row}
use Rattle.stage_definitions.specs.Numbering.{NamedTheoryTree, NamedTermTree, NamedFile}
use Rattle.stage_definitions.specs.TermPlaces.{term_begins}
use Rattle.stage_definitions.specs.TypedTrees.{typed_block_term}
use Rattle.stage_definitions.specs.TypedFiles.{TypedTheoryTree, TypedTermTree, TypedFile, typed_theory, typed_block}
use Rattle.stage_definitions.specs.TypedFiles.{typed_file, theory_begins}
use Rattle.stage_definitions.specs.TheoryItems.{TheoryItem, sentence, rule, head_terms, items_of}
use Rattle.stage_definitions.specs.Sizes.{is_small, item_bounds, formula_bounds, term_bounds}
use Rattle.stage_definitions.specs.SizesStage.{SizeUse, terms_at, place_of_size_use, term_use, uses_of_theory}
use Rattle.stage_definitions.specs.SizesStage.{uses_of_block, uses_of_symbols, weight_uses, chosen_of, size_uses}
use Rattle.stage_definitions.specs.SizesStage.{is_unbounded, size_causes, Sizes, AreSizesOf}
use Rattle.reading_laws.specs.SizeLaws.{AcceptedAreBounded}
use Rattle.reading_laws.proofs.Members.{here, there, some_in, image_in}
use Rattle.reading_laws.proofs.BoundPlaces.{theories_have_bounds, blocks_have_bounds}
use Rattle.reading_laws.proofs.Bounded.{formula_bounded, term_is_bounded}

-- ---- lists that go together

pairs : {X A B : Type 0} (f : X → A) (g : X → B) (xs : List X) → zip (map f xs) (map g xs) ≡ map (λ x. (f x, g x)) xs
pairs f g [] = refl
pairs f g (x ∷ xs) = ap (λ ps. (f x, g x) ∷ ps) (pairs f g xs)

-- ---- bounds at places

first_small : (b r : Bool) → (not b || r) ≡ false → (b ≡ true) × (r ≡ false)
first_small true r h = (refl, h)
first_small false r h = absurd (true≢false h)

is_each_small : (is : List Interval) → list_any (λ i. not (is_small i)) is ≡ false → list_all is_small is ≡ true
is_each_small [] h = refl
is_each_small (i ∷ is) h =
    let parts = first_small (is_small i) (list_any (λ j. not (is_small j)) is) h in
    and_from (is_small i) (list_all is_small is) parts.0 (is_each_small is parts.1)

abbrev AreSmall : List SizeUse → Type 0
AreSmall us = (u : SizeUse) → Contains us u → is_unbounded u ≡ false

are_all_small : (ps : List ℕ) (bs : List (List Interval)) → length bs ≡ length ps → AreSmall (map term_use (zip ps bs))
    → list_all (list_all is_small) bs ≡ true
are_all_small ps [] e h = refl
are_all_small [] (b ∷ bs) e h = absurd (omega (arith, e))
are_all_small (p ∷ ps) (b ∷ bs) e h =
    let same : length bs ≡ length ps = omega (arith, e) in
    and_from (list_all is_small b) (list_all (list_all is_small) bs)
    (is_each_small b (h (terms_at p b) (here (terms_at p b) (map term_use (zip ps bs)))))
    (are_all_small ps bs same (λ u c. h u (there (terms_at p b) u (map term_use (zip ps bs)) c)))

-- ---- a term block

block_bounded : (v : Vocabulary) (domains : List (List Elem)) (b : NamedTermTree)
    → AreSmall (uses_of_block v domains (typed_block v b, term_begins b.term))
    → TermIsBounded v domains (typed_block v b).term []
block_bounded v domains b h =
    term_is_bounded v domains (typed_block_term v b.term) []
    (are_all_small (term_begins b.term) (term_bounds v domains (typed_block_term v b.term) [])
    (blocks_have_bounds v domains b.term) h)

each_block : (v : Vocabulary) (domains : List (List Elem)) (bs : List NamedTermTree)
    → ((b : NamedTermTree) → Contains bs b → TermIsBounded v domains (typed_block v b).term [])
    → AllByRecursion (λ b. TermIsBounded v domains b.term []) (map (typed_block v) bs)
each_block v domains [] h = tt
each_block v domains (b ∷ bs) h = (h b (here b bs), each_block v domains bs (λ d c. h d (there b d bs c)))

-- ---- a theory

module _ (v : Vocabulary) (domains : List (List Elem)) where
  abbrev PassAll : List (List Interval) → Type 0
  PassAll bs = list_all (list_all is_small) bs ≡ true

  passes_both : (xs ys : List (List Interval)) → PassAll (xs ++ ys) → PassAll xs × PassAll ys
  passes_both xs ys h = and_parts (list_all (list_all is_small) xs) (list_all (list_all is_small) ys)
      (sym (list_all-append (list_all is_small) xs ys) ∙ h)

  abbrev bounds_in : List TheoryItem → List (List Interval)
  bounds_in is = flat_map (item_bounds v domains) is

  items_both : (is js : List TheoryItem) → PassAll (bounds_in (is ++ js)) → PassAll (bounds_in is)
      × PassAll (bounds_in js)
  items_both is js h = passes_both (bounds_in is) (bounds_in js)
      (ap (list_all (list_all is_small)) (sym (flat_map-append (item_bounds v domains) is js)) ∙ h)

  each_sentence : (fs : List FormulaTree) → PassAll (bounds_in (map (λ f. sentence f) fs))
      → AllByRecursion (λ f. IsBounded v domains f []) fs
  each_sentence [] h = tt
  each_sentence (f ∷ fs) h =
      let parts = passes_both (formula_bounds v domains f []) (bounds_in (map (λ f. sentence f) fs)) h in
      (formula_bounded v domains f [] parts.0, each_sentence fs parts.1)

  -- ---- a rule

  module _ (scope : List ℕ) where
    abbrev bounds_of_terms : List TermTree → List (List Interval)
    bounds_of_terms ts = flat_map (λ t. term_bounds v domains t scope) ts

    value_bounded : (o : Option TermTree) → PassAll (bounds_of_terms (option_to_list o))
        → IfSome o (λ t. TermIsBounded v domains t scope)
    value_bounded None h = tt
    value_bounded (Some t) h = term_is_bounded v domains t scope (passes_both (term_bounds v domains t scope) [] h).0

    head_bounded : (ts : List TermTree) (o : Option TermTree) → PassAll (bounds_of_terms (ts ++ option_to_list o))
        → AllByRecursion (λ t. TermIsBounded v domains t scope) ts × IfSome o (λ t. TermIsBounded v domains t scope)
    head_bounded [] o h = (tt, value_bounded o h)
    head_bounded (t ∷ ts) o h =
        let parts = passes_both (term_bounds v domains t scope) (bounds_of_terms (ts ++ option_to_list o)) h in
        let rest = head_bounded ts o parts.1 in
        ((term_is_bounded v domains t scope parts.0, rest.0), rest.1)

  rule_bounded : (r : RuleTree) → PassAll (item_bounds v domains (rule r)) → RuleIsBounded v domains r
  rule_bounded r h =
      let scope = types_of r.vars in
      let parts = passes_both (bounds_of_terms scope (head_terms r)) (formula_bounds v domains r.body scope) h in
      let head = head_bounded scope r.args r.value parts.0 in
      record { args = head.0; value = head.1; body = formula_bounded v domains r.body scope parts.1 }

  each_rule : (rs : List RuleTree) → PassAll (bounds_in (map (λ r. rule r) rs))
      → AllByRecursion (RuleIsBounded v domains) rs
  each_rule [] h = tt
  each_rule (r ∷ rs) h =
      let parts = passes_both (item_bounds v domains (rule r)) (bounds_in (map (λ r. rule r) rs)) h in
      (rule_bounded r parts.0, each_rule rs parts.1)

  abbrev rules_of : DefinitionTree → List TheoryItem
  rules_of d = map (λ r. rule r) d.rules

  each_definition : (ds : List DefinitionTree) → PassAll (bounds_in (flat_map rules_of ds))
      → AllByRecursion (λ d. AllByRecursion (RuleIsBounded v domains) d.rules) ds
  each_definition [] h = tt
  each_definition (d ∷ ds) h =
      let parts = items_both (rules_of d) (flat_map rules_of ds) h in
      (each_rule d.rules parts.0, each_definition ds parts.1)

  theory_bounded : (t : NamedTheoryTree) → AreSmall (uses_of_theory v domains (typed_theory v t, theory_begins t))
      → TheoryIsBounded v domains (typed_theory v t).theory
  theory_bounded t h =
      let said = (typed_theory v t).theory in
      let parts = items_both (map (λ f. sentence f) said.sentences) (flat_map rules_of said.definitions)
      (are_all_small (theory_begins t) (bounds_in (items_of said)) (theories_have_bounds v domains t) h) in
      record {
        sentences = each_sentence said.sentences parts.0;
        definitions = each_definition said.definitions parts.1;
      }

-- ---- a file

out_of_range : Contains size_causes k.OutOfRange
out_of_range = here k.OutOfRange (k.TooLarge ∷ [])

abbrev theory_pair : NamedFile → NamedTheoryTree → TypedTheoryTree × List ℕ
theory_pair n t = (typed_theory n.vocabulary t, theory_begins t)

abbrev block_pair : NamedFile → NamedTermTree → TypedTermTree × List ℕ
block_pair n b = (typed_block n.vocabulary b, term_begins b.term)

abbrev IsAccepted : NamedFile → ℕ → List (List Elem) → Type 0
IsAccepted n theory domains = AreSmall (size_uses (typed_file n) theory domains)

among_blocks : (n : NamedFile) (theory : ℕ) (domains : List (List Elem)) (u : SizeUse)
    → Contains (flat_map (uses_of_block n.vocabulary domains) (zip (typed_file n).terms
    (typed_file n).places.block_terms)) u → Contains (size_uses (typed_file n) theory domains) u
among_blocks n theory domains u c =
    let f = typed_file n in
    let symbols = uses_of_symbols domains 0 (zip f.places.symbols f.vocabulary.symbols) in
    let chosen = flat_map (uses_of_theory f.vocabulary domains) (chosen_of f.theories f.places.theory_terms theory) in
    let blocks = flat_map (uses_of_block f.vocabulary domains) (zip f.terms f.places.block_terms) in
    let weight = flat_map (weight_uses f domains) (chosen_of f.theories f.places.theories theory) in
    Contains-append_right symbols (chosen ++ (blocks ++ weight)) u (Contains-append_right chosen (blocks ++ weight) u
    (Contains-append_left blocks weight u c))

among_theories : (n : NamedFile) (theory : ℕ) (domains : List (List Elem)) (u : SizeUse)
    → Contains (flat_map (uses_of_theory n.vocabulary domains)
    (chosen_of (typed_file n).theories (typed_file n).places.theory_terms theory)) u
    → Contains (size_uses (typed_file n) theory domains) u
among_theories n theory domains u c =
    let f = typed_file n in
    let symbols = uses_of_symbols domains 0 (zip f.places.symbols f.vocabulary.symbols) in
    let chosen = flat_map (uses_of_theory f.vocabulary domains) (chosen_of f.theories f.places.theory_terms theory) in
    let blocks = flat_map (uses_of_block f.vocabulary domains) (zip f.terms f.places.block_terms) in
    let weight = flat_map (weight_uses f domains) (chosen_of f.theories f.places.theories theory) in
    Contains-append_right symbols (chosen ++ (blocks ++ weight)) u (Contains-append_left chosen (blocks ++ weight) u c)

blocks_bounded : (n : NamedFile) (theory : ℕ) (domains : List (List Elem)) → IsAccepted n theory domains
    → AllByRecursion (λ b. TermIsBounded n.vocabulary domains b.term []) (typed_file n).terms
blocks_bounded n theory domains h = each_block n.vocabulary domains n.terms (λ b c. block_bounded n.vocabulary domains b
    (λ u d. h u (among_blocks n theory domains u (found b c u d))))
  where
    found : (b : NamedTermTree) → Contains n.terms b → (u : SizeUse)
        → Contains (uses_of_block n.vocabulary domains (block_pair n b)) u
        → Contains (flat_map (uses_of_block n.vocabulary domains)
        (zip (typed_file n).terms (typed_file n).places.block_terms)) u
    found b c u d =
        subst (λ ps. Contains (flat_map (uses_of_block n.vocabulary domains) ps) u)
        (sym (pairs (typed_block n.vocabulary) (λ t. term_begins t.term) n.terms))
        (some_in (uses_of_block n.vocabulary domains) (map (block_pair n) n.terms) (block_pair n b) u
        (image_in (block_pair n) n.terms b c) d)

chosen_is : (n : NamedFile) (theory : ℕ) → chosen_of (typed_file n).theories (typed_file n).places.theory_terms theory
    ≡ option_to_list (option_map (theory_pair n) (slice_get n.theories theory))
chosen_is n theory =
    ap (λ ps. option_to_list (slice_get ps theory)) (pairs (typed_theory n.vocabulary)
    theory_begins n.theories)
    ∙ ap (λ (o : Option (TypedTheoryTree × List ℕ)). option_to_list o) (slice_get-map (theory_pair n) n.theories theory)

theories_bounded : (n : NamedFile) (theory : ℕ) (domains : List (List Elem)) → IsAccepted n theory domains
    → (t : TypedTheoryTree) → slice_get (typed_file n).theories theory ≡ Some t
    → TheoryIsBounded n.vocabulary domains t.theory
theories_bounded n theory domains h t e = by (slice_get n.theories theory) refl
  where
    same : option_map (typed_theory n.vocabulary) (slice_get n.theories theory) ≡ Some t
    same = sym (slice_get-map (typed_theory n.vocabulary) n.theories theory) ∙ e

    by : (o : Option NamedTheoryTree) → slice_get n.theories theory ≡ o → TheoryIsBounded n.vocabulary domains t.theory
    by None f = let n : Some t ≡ None = sym same ∙ ap (option_map (typed_theory n.vocabulary)) f in absurd (cc)
    by (Some s) f =
        let is : Some t ≡ Some (typed_theory n.vocabulary s) = sym same
        ∙ ap (option_map (typed_theory n.vocabulary)) f in
        let one : t ≡ typed_theory n.vocabulary s = cc in
        let chosen : chosen_of (typed_file n).theories (typed_file n).places.theory_terms theory ≡ theory_pair n s ∷
        [] = chosen_is n theory ∙ ap (λ o. option_to_list (option_map (theory_pair n) o)) f in
        subst (λ (x : TypedTheoryTree). TheoryIsBounded n.vocabulary domains x.theory) (sym one)
        (theory_bounded n.vocabulary domains s
        (λ u d. h u (among_theories n theory domains u (subst (λ ps.
        Contains (flat_map (uses_of_theory n.vocabulary domains) ps) u) (sym chosen)
        (some_in (uses_of_theory n.vocabulary domains) (theory_pair n s ∷ []) (theory_pair n s) u
        (here (theory_pair n s) []) d)))))

of_file : (n : NamedFile) (theory : ℕ) (domains : List (List Elem)) (answer : Sizes)
    → AreSizesOf (typed_file n) theory domains answer
    → ((t : TypedTheoryTree) → slice_get (typed_file n).theories theory ≡ Some t
    → TheoryIsBounded n.vocabulary domains t.theory)
    × AllByRecursion (λ b. TermIsBounded n.vocabulary domains b.term []) (typed_file n).terms
of_file n theory domains answer a =
    let small : IsAccepted n theory domains = λ u c. false_from_ne_true (is_unbounded u)
    (λ h. a.accepted (refusal k.OutOfRange (place_of_size_use u)) (row u k.OutOfRange c out_of_range h)) in
    (theories_bounded n theory domains small, blocks_bounded n theory domains small)

pub accepted_are_bounded : AcceptedAreBounded
accepted_are_bounded n f typed theory domains answer a =
    subst (λ (g : TypedFile). ((t : TypedTheoryTree) → slice_get g.theories theory ≡ Some t
    → TheoryIsBounded g.vocabulary domains t.theory) × AllByRecursion
    (λ b. TermIsBounded g.vocabulary domains b.term []) g.terms) (sym typed.tree)
    (of_file n theory domains answer (subst (λ g. AreSizesOf g theory domains answer) typed.tree a))
