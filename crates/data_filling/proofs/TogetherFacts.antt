-- Facts that differ in their only argument alone say what the facts of the set of their arguments say.
use Rattle.std.proofs.Common.{◌≡◌, ◌==◌, ◌<◌, ℕ, ℤ, Bool, true, false, ◌&&◌, ◌||◌, List, [], ◌∷◌, ◌++◌, map, length}
use Rattle.std.proofs.Common.{None}
use Rattle.std.proofs.Common.{Some, Bor, slice_get, refl, sym, ap, subst, ◌∙◌, arith, Contains, inl, inr}
use Rattle.std.specs.List.{list_any, AllByRecursion}
use Rattle.std.proofs.lemmas.Bool.{true≢false, or_cases, or_left, or_right}
use Rattle.std.proofs.lemmas.List.{map-append}
use Rattle.std.proofs.lemmas.List.Folds.{list_any-append}
use Rattle.indexmap.proofs.CallerLemmas.{Contains-list_any}
use Rattle.kb_logic.specs.declared.elements.Elem.{Elem}
use Rattle.kb_logic.specs.declared.elements.Elem.TheVariants.{Named, Num}
use Rattle.kb_logic.specs.declared.vocabularies.Symbol.{Symbol}
use Rattle.kb_logic.specs.Bounds.{Interval}
use Rattle.kb_logic.specs.KnownAtoms.{KnownAtoms}
use Rattle.kb_logic.specs.Models.{GroundAtom}
use Rattle.kb_logic.specs.Structures.{domain_at, EachWith}
use Rattle.stage_definitions.specs.Scopes.{Text}
use Rattle.stage_definitions.specs.Elements.{Cell, one, span, is_in, is_among, members, same_element}
use Rattle.stage_definitions.specs.DataFacts.{Fact, are_in, are_opposed, same_value_of, says_true, says_false}
use Rattle.reading_laws.proofs.Listing.{in_members}
use Rattle.reading_laws.proofs.Members.{item_some}
use Rattle.reading_laws.proofs.Same.{is_same, itself}
use Rattle.data_domains.specs.Sets.{interval_view, runs_in, words_in, IsSetOf}
use Rattle.data_domains.specs.declared.intervals.Interval.{Interval as RunInterval}
use Rattle.data_domains.specs.declared.sets.ElementSet.{ElementSet}
use Rattle.data_domains.proofs.WordSets.{words_among}
use Rattle.structure_entries.specs.EntryViews.{cell_view}
use Rattle.structure_entries.specs.declared.elements.Cell.{Cell as ACell}
use Rattle.data_filling.specs.Filling.{Adds, IsCellOver, IsFactOver, IsOpenTo}
use Rattle.data_filling.specs.Together.{cells_in, fact_over, facts_over, placeless}
use Rattle.data_filling.proofs.Lists.{any_and, and_any}
use Rattle.data_filling.proofs.Steps.{SaySame, adds_same}
use Rattle.data_filling.proofs.Unopposed.{open_less}

-- ---- what facts say of an atom

any_mapped : {X Y : Type 0} (test : Y → Bool) (f : X → Y) (xs : List X) → list_any test (map f xs)
    ≡ list_any (λ x. test (f x)) xs
any_mapped test f [] = refl
any_mapped test f (x ∷ xs) = ap (λ b. test (f x) || b) (any_mapped test f xs)

none_of : {X : Type 0} (xs : List X) → list_any (λ x. false) xs ≡ false
none_of [] = refl
none_of (x ∷ xs) = none_of xs

-- the elements are one, and it is among the cells
abbrev are_among : List Cell → List Elem → Bool
are_among cells xs = list_any (λ c. are_in xs (c ∷ [])) cells

among_as : (cells : List Cell) (x : Elem) (xs : List Elem) → are_among cells (x ∷ xs)
    ≡ (is_among cells x && are_in xs [])
among_as cells x xs = any_and (is_in x) (are_in xs []) cells

module _ (symbol : ℕ) (holds : Bool) (cs ds : List Cell) (same : (x : Elem) → is_among cs x ≡ is_among ds x) where
  among_same : (xs : List Elem) → are_among cs xs ≡ are_among ds xs
  among_same [] = none_of cs ∙ sym (none_of ds)
  among_same (x ∷ xs) = among_as cs x xs ∙ ap (λ b. b && are_in xs []) (same x) ∙ sym (among_as ds x xs)

  about : (a : GroundAtom) (r : Bool) (cells : List Cell)
      → list_any (λ c. ((symbol == a.symbol) && are_in a.args (c ∷ [])) && r) cells
      ≡ (((symbol == a.symbol) && are_among cells a.args) && r)
  about a r cells =
      any_and (λ c. (symbol == a.symbol) && are_in a.args (c ∷ [])) r cells
      ∙ ap (λ b. b && r) (and_any (symbol == a.symbol) (λ c. are_in a.args (c ∷ [])) cells)

  alike : (a : GroundAtom) (r : Bool) (test : Fact → Bool)
      → ((c : Cell) → test (fact_over symbol holds c) ≡ (((symbol == a.symbol) && are_in a.args (c ∷ [])) && r))
      → (cells : List Cell) → list_any test (facts_over symbol holds cells)
      ≡ (((symbol == a.symbol) && are_among cells a.args) && r)
  alike a r test is cells =
      any_mapped test (fact_over symbol holds) cells
      ∙ any_alike (λ c. test (fact_over symbol holds c)) (λ c. ((symbol == a.symbol) && are_in a.args (c ∷ [])) && r) is
      cells
      ∙ about a r cells
    where
      any_alike : (p q : Cell → Bool) → ((c : Cell) → p c ≡ q c) → (xs : List Cell) → list_any p xs ≡ list_any q xs
      any_alike p q h [] = refl
      any_alike p q h (x ∷ xs) = ap (λ b. b || list_any p xs) (h x) ∙ ap (λ b. q x || b) (any_alike p q h xs)

  turned : (a : GroundAtom) (r : Bool) (test : Fact → Bool)
      → ((c : Cell) → test (fact_over symbol holds c) ≡ (((symbol == a.symbol) && are_in a.args (c ∷ [])) && r))
      → list_any test (facts_over symbol holds cs) ≡ list_any test (facts_over symbol holds ds)
  turned a r test is =
      alike a r test is cs
      ∙ ap (λ b. ((symbol == a.symbol) && b) && r) (among_same a.args)
      ∙ sym (alike a r test is ds)

  pub over_same : SaySame (facts_over symbol holds cs) (facts_over symbol holds ds)
  over_same = record {
    true_too = λ a. turned a (holds && same_value_of None a.value) (says_true a) (λ c. refl);
    false_too = λ a. turned a (are_opposed true holds (same_value_of None a.value)) (says_false a) (λ c. refl);
  }

any_placeless : (test : Fact → Bool) → ((f : Fact) → test (placeless f) ≡ test f) → (fs : List Fact)
    → list_any test (map placeless fs) ≡ list_any test fs
any_placeless test h [] = refl
any_placeless test h (f ∷ fs) = ap (λ b. b || list_any test (map placeless fs)) (h f)
    ∙ ap (λ b. test f || b) (any_placeless test h fs)

same_anywhere : (fs gs : List Fact) → map placeless fs ≡ gs → SaySame gs fs
same_anywhere fs gs e = record {
  true_too = λ a. ap (list_any (says_true a)) (sym e) ∙ any_placeless (says_true a) (λ f. refl) fs;
  false_too = λ a. ap (list_any (says_false a)) (sym e) ∙ any_placeless (says_false a) (λ f. refl) fs;
}

same_back : (fs gs : List Fact) → SaySame fs gs → SaySame gs fs
same_back fs gs s = record { true_too = λ a. sym (s.true_too a); false_too = λ a. sym (s.false_too a) }

pub open_same : (k : KnownAtoms) (ms ns : List Fact) → SaySame ms ns → IsOpenTo k ns → IsOpenTo k ms
open_same k ms ns s o = open_less k ms ns (record {
  true_too = λ a h. sym (s.true_too a) ∙ h;
  false_too = λ a h. sym (s.false_too a) ∙ h;
}) o

-- ---- the elements of a set

no_words : (w : Text) (is : List Interval) → list_any (is_in (Named w)) (map (λ i. span i.low i.high) is) ≡ false
no_words w [] = refl
no_words w (i ∷ is) = no_words w is

no_numbers : (z : ℤ) (ws : List Text) → list_any (is_in (Num z)) (map (λ w. one (Named w)) ws) ≡ false
no_numbers z [] = refl
no_numbers z (w ∷ ws) = no_numbers z ws

or_none : (b : Bool) → (b || false) ≡ b
or_none true = refl
or_none false = refl

pub set_same : (cells : List Cell) (s : ElementSet) → IsSetOf cells s → (x : Elem)
    → is_among (cells_in s) x ≡ is_among cells x
set_same cells s h (Named w) =
    list_any-append (is_in (Named w)) (map (λ v. one (Named v)) (words_in s)) (map (λ i. span i.low i.high) (runs_in s))
    ∙ ap (λ b. list_any (is_in (Named w)) (map (λ v. one (Named v)) (words_in s)) || b) (no_words w (runs_in s))
    ∙ or_none (list_any (is_in (Named w)) (map (λ v. one (Named v)) (words_in s)))
    ∙ any_mapped (is_in (Named w)) (λ v. one (Named v)) (words_in s)
    ∙ h.words.among w ∙ words_among w cells
set_same cells s h (Num z) =
    list_any-append (is_in (Num z)) (map (λ v. one (Named v)) (words_in s)) (map (λ i. span i.low i.high) (runs_in s))
    ∙ ap (λ b. b || list_any (is_in (Num z)) (map (λ i. span i.low i.high) (runs_in s))) (no_numbers z (words_in s))
    ∙ any_mapped (is_in (Num z)) (λ i. span i.low i.high) (runs_in s)
    ∙ h.integers z

-- ---- facts over the domains

module _ (symbols : List Symbol) (domains : List (List Elem)) (symbol : ℕ) (holds : Bool) where
  in_domain : (d : Symbol) (t : ℕ) (cells : List Cell)
      → AllByRecursion (IsFactOver symbols domains) (facts_over symbol holds cells)
      → slice_get symbols symbol ≡ Some d → d.args ≡ t ∷ [] → (x : Elem) → is_among cells x ≡ true
      → Contains (domain_at domains t) x
  in_domain d t [] all at alone x h = absurd (true≢false (sym h))
  in_domain d t (c ∷ cs) all at alone x h = elim (or_cases (is_in x c) (is_among cs x) h) [
    | inl e ↦
        let is : Some all.0.declared ≡ Some d = sym all.0.at ∙ at in
        let same : all.0.declared ≡ d = cc in
        let each : EachWith (IsCellOver domains) (t ∷ []) (c ∷ []) =
        subst (λ (ts : List ℕ). EachWith (IsCellOver domains) ts (c ∷ [])) (ap (λ (y : Symbol). y.args) same ∙ alone)
        all.0.args in
        each.0 x (Contains-list_any same_element is_same (members c) x (sym (in_members x c) ∙ e))
    | inr e ↦ in_domain d t cs all.1 at alone x e
  ]

  one_over : (first c : Cell) → IsFactOver symbols domains (fact_over symbol holds first)
      → ((d : Symbol) (t : ℕ) → slice_get symbols symbol ≡ Some d → d.args ≡ t ∷ [] → IsCellOver domains t c)
      → IsFactOver symbols domains (fact_over symbol holds c)
  one_over first c over within = record {
    declared = over.declared;
    at = over.at;
    args = by over.declared.args refl over.args;
    value = over.value;
  }
    where
      by : (types : List ℕ) → over.declared.args ≡ types → EachWith (IsCellOver domains) types (first ∷ [])
          → EachWith (IsCellOver domains) types (c ∷ [])
      by [] e h = h
      by (t ∷ []) e h = (within over.declared t over.at e, h.1)
      by (t ∷ u ∷ ts) e h = absurd h.1

  each_over : (first : Cell) (cells part : List Cell)
      → AllByRecursion (IsFactOver symbols domains) (facts_over symbol holds (first ∷ cells))
      → ((x : Elem) → is_among part x ≡ true → is_among (first ∷ cells) x ≡ true)
      → AllByRecursion (IsFactOver symbols domains) (facts_over symbol holds part)
  each_over first cells [] all h = tt
  each_over first cells (c ∷ cs) all h = (
    one_over first c all.0 (λ d t at alone x m.
        in_domain d t (first ∷ cells) all at alone x
        (h x (or_left (is_in x c) (is_among cs x)
        (in_members x c ∙ item_some (same_element x) (members c) x m (itself x))))),
    each_over first cells cs all (λ x e. h x (or_right (is_in x c) (is_among cs x) e)),
  )

  pub set_over : (cells part : List Cell) → 0 < length cells
      → AllByRecursion (IsFactOver symbols domains) (facts_over symbol holds cells)
      → ((x : Elem) → is_among part x ≡ is_among cells x)
      → AllByRecursion (IsFactOver symbols domains) (facts_over symbol holds part)
  set_over [] part some all same = absurd (omega (arith, some))
  set_over (c ∷ cs) part some all same = each_over c cs part all (λ x e. sym (same x) ∙ e)

  placed : (f : Fact) → IsFactOver symbols domains f → IsFactOver symbols domains (placeless f)
  placed f h = record { declared = h.declared; at = h.at; args = h.args; value = h.value }

  all_placed : (fs : List Fact) → AllByRecursion (IsFactOver symbols domains) fs
      → AllByRecursion (IsFactOver symbols domains) (map placeless fs)
  all_placed [] h = tt
  all_placed (f ∷ fs) h = (placed f h.0, all_placed fs h.1)

  pub over_anywhere : (fs gs : List Fact) → map placeless fs ≡ gs → AllByRecursion (IsFactOver symbols domains) fs
      → AllByRecursion (IsFactOver symbols domains) gs
  over_anywhere fs gs e h = subst (AllByRecursion (IsFactOver symbols domains)) e (all_placed fs h)

-- ---- what the code asks

mapped_twice : {X Y Z : Type 0} (f : Y → Z) (g : X → Y) (xs : List X) → map f (map g xs) ≡ map (λ x. f (g x)) xs
mapped_twice f g [] = refl
mapped_twice f g (x ∷ xs) = ap (λ ys. f (g x) ∷ ys) (mapped_twice f g xs)

-- the facts of the words, and then those of the intervals, are those of the set
pub set_facts : (symbol : ℕ) (holds : Bool) (s : ElementSet) (ws : List (Bor (List ℕ))) (is : List RunInterval)
    (none some all : List Fact) → none ≡ [] → ws ≡ s.words.keys → is ≡ s.intervals.items
    → some ≡ none ++ facts_over symbol holds (map (λ w. one (Named w.now)) ws)
    → all ≡ some ++ facts_over symbol holds (map (λ i. span (interval_view i).low (interval_view i).high) is)
    → all ≡ facts_over symbol holds (cells_in s)
set_facts symbol holds s ws is none some all e f g h k =
    let F = facts_over symbol holds in
    let W = λ (w : Bor (List ℕ)). one (Named w.now) in
    let I = λ (i : RunInterval). span (interval_view i).low (interval_view i).high in
    k ∙ ap (λ fs. fs ++ F (map I is)) (h ∙ ap (λ ns. ns ++ F (map W ws)) e ∙ ap (λ us. F (map W us)) f)
    ∙ ap (λ js. F (map W s.words.keys) ++ F (map I js)) g
    ∙ sym (map-append (fact_over symbol holds) (map W s.words.keys) (map I s.intervals.items))
    ∙ ap (λ cs. F (cs ++ map I s.intervals.items))
    (sym (mapped_twice (λ (v : List ℕ). one (Named v)) (λ (w : Bor (List ℕ)). w.now) s.words.keys))
    ∙ ap (λ cs. F (map (λ (v : List ℕ). one (Named v)) (words_in s) ++ cs))
    (sym (mapped_twice (λ (i : Interval). span i.low i.high) interval_view s.intervals.items))

pub open_anywhere : (k : KnownAtoms) (fs gs : List Fact) → map placeless fs ≡ gs → IsOpenTo k fs → IsOpenTo k gs
open_anywhere k fs gs e o = open_same k gs fs (same_anywhere fs gs e) o

pub adds_anywhere : (a b : KnownAtoms) (fs gs : List Fact) → map placeless fs ≡ gs → Adds a b gs → Adds a b fs
adds_anywhere a b fs gs e h = adds_same a b gs fs h (same_anywhere fs gs e)

pub some_cells : (xs : List ACell) → 0 < length xs → 0 < length (map cell_view xs)
some_cells [] h = absurd (omega (arith, h))
some_cells (x ∷ xs) h = omega arith

pub cells_some : {X : Type 0} (view : X → Fact) (symbol : ℕ) (holds : Bool) (fs : List X) (xs : List ACell)
    → map placeless (map view fs) ≡ facts_over symbol holds (map cell_view xs) → 0 < length fs → 0 < length xs
cells_some view symbol holds [] xs e h = absurd (omega (arith, h))
cells_some view symbol holds (f ∷ fs) [] e h = absurd (cc)
cells_some view symbol holds (f ∷ fs) (x ∷ xs) e h = omega arith
