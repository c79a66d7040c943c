-- Where no fact clashes with one before it, no atom is said to be true and false.
use Rattle.std.proofs.Common.{◌≡◌, ℕ, ℤ, pos, negsuc, ◌-ℤ◌, ◌≤ℤ◌, Bool, true, false, not, ◌&&◌, ◌||◌, ◌==◌, nat_lt}
use Rattle.std.proofs.Common.{int_lt, List, [], ◌∷◌, ◌++◌, refl, sym, ap, ◌∙◌, arith, inl, inr}
use Rattle.std.specs.Prelude.{⊤}
use Rattle.std.specs.Int.{int_min, int_max}
use Rattle.std.specs.List.{list_any, list_all, Contains}
use Rattle.std.proofs.lemmas.Bool.{eqb-true, eq-eqb, and_parts, and_from, or_cases, true≢false, false_from_ne_true}
use Rattle.std.proofs.lemmas.Int.{ints, clamps}
use Rattle.std.proofs.lemmas.Bool.Decides.{nat_tests}
use Rattle.std.proofs.lemmas.List.Elements.{Contains-append_right, Contains-push, Contains-append_left}
use Rattle.std.proofs.lemmas.List.Folds.{list_all-append}
use Rattle.kb_text.specs.declared.fault.K.TheVariants as k
use Rattle.kb_logic.specs.declared.elements.Elem.{Elem}
use Rattle.kb_logic.specs.declared.elements.Elem.TheVariants.{Named, Num}
use Rattle.kb_logic.specs.declared.vocabularies.TypeDecl.{TypeDecl}
use Rattle.kb_logic.specs.Models.{GroundAtom}
use Rattle.stage_definitions.specs.Elements.{Cell, one, span, is_between, is_in, as_interval, one_more, common, size_of}
use Rattle.stage_definitions.specs.Elements.{do_share}
use Rattle.stage_definitions.specs.DataEntries.{Said, said_in}
use Rattle.stage_definitions.specs.DataFacts.{Fact, facts_in, same_value_of, all_share, are_opposed, do_clash}
use Rattle.stage_definitions.specs.DataFacts.{clashes_with, are_in, is_about, says_true, says_false, is_whole}
use Rattle.stage_definitions.specs.DataFacts.{is_said_true, is_said_false}
use Rattle.stage_definitions.specs.DataStage.{DataUse, fact, uses_of_types, uses_of_entries, uses_of_facts}
use Rattle.stage_definitions.specs.DataStage.{structure_uses}
use Rattle.stage_definitions.specs.DataStage.{is_clash}
use Rattle.reading_laws.specs.DataLaws.{GivenIsConsistent}
use Rattle.reading_laws.proofs.Same.{is_same, same_value_is, value_itself, value_back}
use Rattle.reading_laws.proofs.Bounded.{not_lower}
use Rattle.reading_laws.proofs.Rows.{fine, data_clash}

-- ---- an element of two cells

more_than_none : (y : ℤ) → pos 0 ≤ℤ y → nat_lt 0 (one_more y) ≡ true
more_than_none (pos n) h = grind (arith, nat_tests)
more_than_none (negsuc n) h = absurd (omega (arith, ints, h))

pub meets : (a b c d z : ℤ) → is_between a b z ≡ true → is_between c d z ≡ true
    → nat_lt 0 (size_of (common (as_interval a b) (as_interval c d))) ≡ true
meets a b c d z h k =
    let first = and_parts (not (int_lt z a)) (not (int_lt b z)) h in
    let second = and_parts (not (int_lt z c)) (not (int_lt d z)) k in
    let above_a : a ≤ℤ z = not_lower z a first.0 in
    let below_b : z ≤ℤ b = not_lower b z first.1 in
    let above_c : c ≤ℤ z = not_lower z c second.0 in
    let below_d : z ≤ℤ d = not_lower d z second.1 in
    let low : int_max a c ≤ℤ z = omega (arith, ints, clamps, above_a, above_c) in
    let high : z ≤ℤ int_min b d = omega (arith, ints, clamps, below_b, below_d) in
    let order : int_max a c ≤ℤ int_min b d = omega (arith, ints, low, high) in
    more_than_none (int_min b d -ℤ int_max a c) (omega (arith, ints, order))

pub share : (x : Elem) (c d : Cell) → is_in x c ≡ true → is_in x d ≡ true → do_share c d ≡ true
share x (one y) d h k = ap (λ z. is_in z d) (sym (is_same x y h)) ∙ k
share x (span a b) (one y) h k = ap (λ z. is_in z (span a b)) (sym (is_same x y k)) ∙ h
share (Named n) (span a b) (span c d) h k = absurd (cc)
share (Num z) (span a b) (span c d) h k = meets a b c d z h k

rows_share : (xs : List Elem) (cs ds : List Cell) → are_in xs cs ≡ true → are_in xs ds ≡ true → all_share cs ds ≡ true
rows_share [] [] [] h k = refl
rows_share [] [] (d ∷ ds) h k = absurd (cc)
rows_share [] (c ∷ cs) ds h k = absurd (cc)
rows_share (x ∷ xs) [] ds h k = absurd (cc)
rows_share (x ∷ xs) (c ∷ cs) [] h k = absurd (cc)
rows_share (x ∷ xs) (c ∷ cs) (d ∷ ds) h k =
    let first = and_parts (is_in x c) (are_in xs cs) h in
    let second = and_parts (is_in x d) (are_in xs ds) k in
    and_from (do_share c d) (all_share cs ds) (share x c d first.0 second.0) (rows_share xs cs ds first.1 second.1)

-- ---- a true fact and a false one about one atom

both_about : (a : GroundAtom) (f g : Fact) → is_about a f ≡ true → is_about a g ≡ true → ((f.symbol == g.symbol) ≡ true)
    × (all_share f.args g.args ≡ true)
both_about a f g h k =
    let first = and_parts (f.symbol == a.symbol) (are_in a.args f.args) h in
    let second = and_parts (g.symbol == a.symbol) (are_in a.args g.args) k in (
      eq-eqb f.symbol g.symbol (eqb-true f.symbol a.symbol first.0 ∙ sym (eqb-true g.symbol a.symbol second.0)),
      rows_share a.args f.args g.args first.1 second.1,
    )

back_opposed : (b same : Bool) → are_opposed b true same ≡ are_opposed true b same
back_opposed true same = refl
back_opposed false same = refl

clash_from : (f g : Fact) → (f.symbol == g.symbol) ≡ true → all_share f.args g.args ≡ true
    → are_opposed f.holds g.holds (same_value_of f.value g.value) ≡ true → do_clash f g ≡ true
clash_from f g h k o =
    and_from (f.symbol == g.symbol) (all_share f.args g.args && are_opposed f.holds g.holds
    (same_value_of f.value g.value)) h
    (and_from (all_share f.args g.args) (are_opposed f.holds g.holds (same_value_of f.value g.value)) k o)

true_parts : (a : GroundAtom) (f : Fact) → says_true a f ≡ true → (is_about a f ≡ true) × (f.holds ≡ true)
    × (f.value ≡ a.value)
true_parts a f h =
    let outer = and_parts (is_about a f) (f.holds && same_value_of f.value a.value) h in
    let inner = and_parts f.holds (same_value_of f.value a.value) outer.1 in
    (outer.0, inner.0, same_value_is f.value a.value inner.1)

false_parts : (a : GroundAtom) (g : Fact) → says_false a g ≡ true → (is_about a g ≡ true)
    × (are_opposed true g.holds (same_value_of g.value a.value) ≡ true)
false_parts a g h = and_parts (is_about a g) (are_opposed true g.holds (same_value_of g.value a.value)) h

true_before_false : (a : GroundAtom) (f g : Fact) → says_true a f ≡ true → says_false a g ≡ true → do_clash f g ≡ true
true_before_false a f g h k =
    let t = true_parts a f h in
    let s = false_parts a g k in
    let about = both_about a f g t.0 s.0 in
    clash_from f g about.0 about.1
    (ap (λ b. are_opposed b g.holds (same_value_of f.value g.value)) t.1
    ∙ ap (are_opposed true g.holds) (ap (λ o. same_value_of o g.value) t.2 ∙ value_back a.value g.value)
    ∙ s.1)

false_before_true : (a : GroundAtom) (f g : Fact) → says_false a f ≡ true → says_true a g ≡ true → do_clash f g ≡ true
false_before_true a f g h k =
    let s = false_parts a f h in
    let t = true_parts a g k in
    let about = both_about a f g s.0 t.0 in
    clash_from f g about.0 about.1
    (ap (λ b. are_opposed f.holds b (same_value_of f.value g.value)) t.1
    ∙ back_opposed f.holds (same_value_of f.value g.value)
    ∙ ap (are_opposed true f.holds) (ap (λ o. same_value_of f.value o) t.2)
    ∙ s.1)

not_both : (a : GroundAtom) (f : Fact) → says_true a f ≡ true → says_false a f ≡ true → ⊥
not_both a f h k =
    let t = true_parts a f h in
    let s = false_parts a f k in
    let same : same_value_of f.value a.value ≡ true = ap (λ o. same_value_of o a.value) t.2 ∙ value_itself a.value in
    true≢false (sym s.1 ∙ ap (λ b. are_opposed true b (same_value_of f.value a.value)) t.1 ∙ ap not same)

-- ---- facts of which none clashes with one after it

abbrev keeps_apart : Fact → List Fact → Bool
keeps_apart f fs = list_all (λ g. not (do_clash f g)) fs

abbrev Apart : List Fact → Type 0
Apart [] = ⊤
Apart (f ∷ fs) = (keeps_apart f fs ≡ true) × Apart fs

none_among : (f : Fact) (gs : List Fact) (test : Fact → Bool) → ((g : Fact) → test g ≡ true → do_clash f g ≡ true)
    → list_any test gs ≡ true → keeps_apart f gs ≡ true → ⊥
none_among f [] test clash h k = absurd (cc)
none_among f (g ∷ gs) test clash h k =
    let parts = and_parts (not (do_clash f g)) (keeps_apart f gs) k in
    elim (or_cases (test g) (list_any test gs) h) [
      | inl e ↦ true≢false (sym parts.0 ∙ ap not (clash g e))
      | inr e ↦ none_among f gs test clash e parts.1
    ]

one_way : (a : GroundAtom) (fs : List Fact) → Apart fs → list_any (says_true a) fs ≡ true
    → list_any (says_false a) fs ≡ true → ⊥
one_way a [] apart h k = absurd (cc)
one_way a (f ∷ fs) apart h k = elim (or_cases (says_true a f) (list_any (says_true a) fs) h) [
  | inl t ↦ elim (or_cases (says_false a f) (list_any (says_false a) fs) k) [
    | inl s ↦ not_both a f t s
    | inr s ↦ none_among f fs (says_false a) (λ g e. true_before_false a f g t e) s apart.0
  ]
  | inr t ↦ elim (or_cases (says_false a f) (list_any (says_false a) fs) k) [
    | inl s ↦ none_among f fs (says_true a) (λ g e. false_before_true a f g s e) t apart.0
    | inr s ↦ one_way a fs apart.1 t s
  ]
]

-- ---- none clashes with one before it

abbrev Clear : List Fact → List Fact → Type 0
Clear before [] = ⊤
Clear before (f ∷ fs) = (clashes_with before f ≡ false) × Clear (before ++ f ∷ []) fs

nothing_behind : (before : List Fact) → list_all (λ p. keeps_apart p []) before ≡ true
nothing_behind [] = refl
nothing_behind (p ∷ ps) = nothing_behind ps

one_behind : (before fs : List Fact) (f : Fact) → clashes_with before f ≡ false
    → list_all (λ p. keeps_apart p fs) before ≡ true → list_all (λ p. keeps_apart p (f ∷ fs)) before ≡ true
one_behind [] fs f h k = refl
one_behind (p ∷ ps) fs f h k =
    let parts = and_parts (keeps_apart p fs) (list_all (λ q. keeps_apart q fs) ps) k in
    let first : do_clash p f ≡ false = false_from_ne_true (do_clash p f)
    (λ e. true≢false (sym (ap (λ b. b || clashes_with ps f) e) ∙ h)) in
    let rest : clashes_with ps f ≡ false = ap (λ b. b || clashes_with ps f) (sym first) ∙ h in
    and_from (keeps_apart p (f ∷ fs)) (list_all (λ q. keeps_apart q (f ∷ fs)) ps)
    (and_from (not (do_clash p f)) (keeps_apart p fs) (ap not first) parts.0)
    (one_behind ps fs f rest parts.1)

apart_from : (before fs : List Fact) → Clear before fs → (list_all (λ p. keeps_apart p fs) before ≡ true) × Apart fs
apart_from before [] clear = (nothing_behind before, tt)
apart_from before (f ∷ fs) clear =
    let rest = apart_from (before ++ f ∷ []) fs clear.1 in
    let split = and_parts (list_all (λ p. keeps_apart p fs) before) (list_all (λ p. keeps_apart p fs) (f ∷ []))
    (sym (list_all-append (λ p. keeps_apart p fs) before (f ∷ [])) ∙ rest.0) in
    (one_behind before fs f clear.0 split.0, ((and_parts (keeps_apart f fs) true split.1).0, rest.1))

clear_of : (types : List TypeDecl) (es : List Said) (before fs : List Fact)
    → ((u : DataUse) → Contains (uses_of_facts before fs) u → is_clash types es u ≡ true → ⊥) → Clear before fs
clear_of types es before [] fine = tt
clear_of types es before (f ∷ fs) fine = (
  false_from_ne_true (clashes_with before f) (λ e. fine (fact before f) (Contains-append_left (fact before f ∷ [])
      (uses_of_facts (before ++ f ∷ []) fs) (fact before f) (Contains-push [] (fact before f))) e),
  clear_of types es (before ++ f ∷ []) fs (λ u c e. fine u (Contains-append_right (fact before f ∷ [])
      (uses_of_facts (before ++ f ∷ []) fs) u c) e),
)

-- ---- a structure in which nothing is refused

among_uses : (types : List TypeDecl) (places : List ℕ) (es : List Said) (u : DataUse)
    → Contains (uses_of_facts [] (facts_in es)) u → Contains (structure_uses types places es) u
among_uses types places es u c =
    let facts = uses_of_facts [] (facts_in es) in
    let entries = uses_of_entries [] es in
    Contains-append_right (uses_of_types types places) (entries ++ facts) u (Contains-append_right entries facts u c)

not_false : (es : List Said) (a : GroundAtom) → (list_any (says_true a) (facts_in es) ≡ true
    → list_any (says_false a) (facts_in es) ≡ true → ⊥) → is_said_true es a ≡ true → is_said_false es a ≡ false
not_false es a apart h =
    let first : list_any (says_false a) (facts_in es) ≡ false =
    false_from_ne_true (list_any (says_false a) (facts_in es)) (apart h) in
    ap (λ b. b || (is_whole es a.symbol && not (is_said_true es a))) first ∙ ap (λ b. is_whole es a.symbol && not b) h
    ∙ nothing (is_whole es a.symbol)
  where
    nothing : (b : Bool) → (b && not true) ≡ false
    nothing true = refl
    nothing false = refl

pub given_is_consistent : GivenIsConsistent
given_is_consistent v places s accepted a h =
    let es = said_in v s in
    let all = fine v.types es (structure_uses v.types places es) accepted in
    let clear = clear_of v.types es [] (facts_in es) (λ u c e.
    true≢false (sym e ∙ all u (among_uses v.types places es u c) k.DataClash data_clash)) in
    not_false es a (one_way a (facts_in es) (apart_from [] (facts_in es) clear).1) h
