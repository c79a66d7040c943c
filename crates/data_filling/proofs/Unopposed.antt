-- No fact of an accepted structure says the opposite of what others said before.
use Rattle.std.proofs.Common.{◌≡◌, inl, inr, ℕ, suc, ℤ, pos, ◌+ℤ◌, Bool, true, false, not, ◌&&◌, ◌||◌, List, [], ◌∷◌}
use Rattle.std.proofs.Common.{◌++◌, map, filter, if◌then◌else◌, refl, sym, ap, subst, ◌∙◌, append_assoc, arith, ◌<◌}
use Rattle.std.proofs.Common.{◌≤◌, zero, length, take, get_or}
use Rattle.std.specs.List.{list_any}
use Rattle.std.proofs.lemmas.Bool.{true≢false, or_cases, or_parts, or_left, or_right, false_from_ne_true}
use Rattle.std.proofs.lemmas.List.Folds.{list_any-append}
use Rattle.kb_logic.specs.declared.elements.Elem.{Elem}
use Rattle.kb_logic.specs.declared.elements.Elem.TheVariants.{Num}
use Rattle.kb_logic.specs.declared.vocabularies.Symbol.{Symbol}
use Rattle.kb_logic.specs.KnownAtoms.{KnownAtoms, atoms_over}
use Rattle.kb_logic.specs.Models.{GroundAtom}
use Rattle.kb_logic.proofs.AllAtoms.{atom_listed}
use Rattle.partial_structures.specs.KnownAtoms.{same_atom, value_at}
use Rattle.partial_structures.specs.declared.truths.Truth.TheVariants as truth
use Rattle.partial_structures.proofs.Listed.{listed}
use Rattle.partial_structures.proofs.Sames.{atom_itself}
use Rattle.kb_logic.specs.declared.vocabularies.Vocabulary.{Vocabulary}
use Rattle.partial_structures.specs.KnownAtoms.{nothing_known}
use Rattle.std.proofs.lemmas.List.{map-append}
use Rattle.stage_definitions.specs.Elements.{span, as_interval, size_of, integers_from, members}
use Rattle.stage_definitions.specs.DataEntries.{Said, said_in}
use Rattle.stage_definitions.specs.DataFacts.{Fact, facts_of, facts_in, says_true, says_false, is_whole, is_said_true}
use Rattle.reading_laws.proofs.Consistent.{given_is_consistent}
use Rattle.data_filling.specs.Filling.{AreAccepted, known_from, IsFactOver, Adds, IsOpenTo, fact_with, atom_with}
use Rattle.data_filling.proofs.RangeFacts.{facts_with, range_same, integers_more}
use Rattle.data_filling.proofs.Singles.{true_is, false_is, atom_over}
use Rattle.data_filling.proofs.Steps.{moved, nothing_is}

-- ---- more facts say more

any_left : (test : Fact → Bool) (ms ns : List Fact) → list_any test ms ≡ true → list_any test (ms ++ ns) ≡ true
any_left test ms ns h = list_any-append test ms ns ∙ or_left (list_any test ms) (list_any test ns) h

any_right : (test : Fact → Bool) (ms ns : List Fact) → list_any test ns ≡ true → list_any test (ms ++ ns) ≡ true
any_right test ms ns h = list_any-append test ms ns ∙ or_right (list_any test ms) (list_any test ns) h

less : (test : Fact → Bool) (ms ns : List Fact) → (list_any test ms ≡ true → list_any test ns ≡ true) → list_any test ns
    ≡ false → list_any test ms ≡ false
less test ms ns h e = false_from_ne_true (list_any test ms) (λ t. true≢false (sym (h t) ∙ e))

-- facts that say no more than others
pub record SayLess (ms ns : List Fact) : Type 0 where
  pub true_too : (a : GroundAtom) → list_any (says_true a) ms ≡ true → list_any (says_true a) ns ≡ true
  pub false_too : (a : GroundAtom) → list_any (says_false a) ms ≡ true → list_any (says_false a) ns ≡ true

after : (test : Fact → Bool) (fs ms ns : List Fact) → (list_any test ms ≡ true → list_any test ns ≡ true)
    → list_any test (fs ++ ms) ≡ true → list_any test (fs ++ ns) ≡ true
after test fs ms ns h t = elim (or_cases (list_any test fs) (list_any test ms) (sym (list_any-append test fs ms) ∙ t)) [
  | inl e ↦ any_left test fs ns e
  | inr e ↦ any_right test fs ns (h e)
]

pub open_less : (k : KnownAtoms) (ms ns : List Fact) → SayLess ms ns → IsOpenTo k ns → IsOpenTo k ms
open_less k ms ns s o = record {
  facts = o.facts;
  known = o.known;
  apart = λ a t. less (says_false a) (o.facts ++ ms) (o.facts ++ ns)
      (after (says_false a) o.facts ms ns (s.false_too a)) (o.apart a
      (after (says_true a) o.facts ms ns (s.true_too a) t));
}

pub open_first : (k : KnownAtoms) (ms ns : List Fact) → IsOpenTo k (ms ++ ns) → IsOpenTo k ms
open_first k ms ns = open_less k ms (ms ++ ns) (record {
  true_too = λ a. any_left (says_true a) ms ns;
  false_too =
      λ a. any_left (says_false a) ms ns;
})

pub open_then : (old new : KnownAtoms) (ms ns : List Fact) → Adds old new ms → IsOpenTo old (ms ++ ns) → IsOpenTo new ns
open_then old new ms ns h o = record {
  facts = o.facts ++ ms;
  known = h.known o.facts o.known ∙ sym (moved old new (o.facts ++ ms) [] h.symbols h.domains);
  apart = λ a t.
      ap (λ (fs : List Fact). list_any (says_false a) fs) (append_assoc o.facts ms ns)
      ∙ o.apart a (ap (λ (fs : List Fact). list_any (says_true a) fs) (sym (append_assoc o.facts ms ns)) ∙ t);
}

-- ---- one tuple

value_of_tests : (symbols : List Symbol) (domains : List (List Elem)) (fs : List Fact) (f : Fact) (xs : List Elem)
    → IsFactOver symbols domains (fact_with f xs)
    → value_at (known_from symbols domains fs []) (atom_with f xs)
    ≡ (if list_any (says_true (atom_with f xs)) fs then truth.Yes else
    (if list_any (says_false (atom_with f xs)) fs || false then truth.No else truth.Unknown))
value_of_tests symbols domains fs f xs over =
    let atoms = atoms_over symbols domains in
    let a = atom_with f xs in
    let among = atom_listed symbols domains a (atom_over f xs symbols domains over) in
    ap (λ b. if b then truth.Yes else (if list_any (same_atom a)
    (filter (λ c. list_any (says_false c) fs || false) atoms) then truth.No else truth.Unknown))
    (listed atoms (λ c. list_any (says_true c) fs) a among)
    ∙ ap (λ b. if list_any (says_true a) fs then truth.Yes else (if b then truth.No else truth.Unknown))
    (listed atoms (λ c. list_any (says_false c) fs || false) a among)

no_yes : (b : Bool) → (if b then truth.Yes else (if false || false then truth.No else truth.Unknown)) ≡ truth.No → ⊥
no_yes true e = cc
no_yes false e = cc

no_no : (b : Bool) → (if false then truth.Yes else (if b then truth.No else truth.Unknown)) ≡ truth.Yes → ⊥
no_no true e = cc
no_no false e = cc

module _ (k : KnownAtoms) (f : Fact) (xs : List Elem) (over : IsFactOver k.symbols k.domains (fact_with f xs))
    (o : IsOpenTo k (fact_with f xs ∷ [])) where
  abbrev here : GroundAtom
  here = atom_with f xs

  value : value_at k here ≡ (if list_any (says_true here) o.facts then truth.Yes else
      (if list_any (says_false here) o.facts || false then truth.No else truth.Unknown))
  value = ap (λ (j : KnownAtoms). value_at j here) o.known ∙ value_of_tests k.symbols k.domains o.facts f xs over

  last : (test : Fact → Bool) → test (fact_with f xs) ≡ true → list_any test (o.facts ++ fact_with f xs ∷ []) ≡ true
  last test h = any_right test o.facts (fact_with f xs ∷ []) (or_left (test (fact_with f xs)) false h)

  pub not_false_yet : f.holds ≡ true → value_at k here ≡ truth.No → ⊥
  not_false_yet h e =
      let says : says_true here (fact_with f xs) ≡ true = true_is f xs here h ∙ atom_itself here in
      let none : list_any (says_false here) o.facts ≡ false =
      less (says_false here) o.facts (o.facts ++ fact_with f xs ∷ [])
      (any_left (says_false here) o.facts (fact_with f xs ∷ [])) (o.apart here (last (says_true here) says)) in
      no_yes (list_any (says_true here) o.facts)
      (ap (λ b. if list_any (says_true here) o.facts then truth.Yes else
      (if b || false then truth.No else truth.Unknown)) (sym none) ∙ sym value ∙ e)

  pub not_true_yet : f.holds ≡ false → value_at k here ≡ truth.Yes → ⊥
  not_true_yet h e =
      let says : says_false here (fact_with f xs) ≡ true = false_is f xs here h ∙ atom_itself here in
      let none : list_any (says_true here) o.facts ≡ false =
      false_from_ne_true (list_any (says_true here) o.facts)
      (λ t. true≢false (sym (last (says_false here) says) ∙ o.apart here
      (any_left (says_true here) o.facts (fact_with f xs ∷ []) t))) in
      no_no (list_any (says_false here) o.facts || false)
      (ap (λ b. if b then truth.Yes else (if list_any (says_false here) o.facts || false then truth.No else
      truth.Unknown)) (sym none) ∙ sym value ∙ e)

-- ---- the items of a list

item_between : {X : Type 0} (view : X → Fact) (xs : List X) (i : ℕ) (x : X) → i < length xs → x ≡ get_or xs i x
    → (rest : List Fact) × (map view xs ≡ map view (take i xs) ++ (view x ∷ rest))
item_between view [] i x lt e = absurd (omega (arith, lt))
item_between view (y ∷ ys) zero x lt e = (map view ys, ap (λ z. view z ∷ map view ys) (sym e))
item_between view (y ∷ ys) (suc i) x lt e =
    let more = item_between view ys i x (omega (arith, lt)) e in
    (more.0, ap (λ (fs : List Fact). view y ∷ fs) more.1)

pub open_at : {X : Type 0} (view : X → Fact) (old new : KnownAtoms) (xs : List X) (i : ℕ) (x : X) → i < length xs → x
    ≡ get_or xs i x
    → Adds old new (map view (take i xs)) → IsOpenTo old (map view xs) → IsOpenTo new (view x ∷ [])
open_at view old new xs i x lt e h o =
    let split = item_between view xs i x lt e in
    open_first new (view x ∷ []) split.0 (open_then old new (map view (take i xs)) (view x ∷ split.0) h
    (subst (λ (fs : List Fact). IsOpenTo old fs) split.1 o))

parts_between : {X : Type 0} (view : X → Said) (xs : List X) (i : ℕ) (x : X) → i < length xs → x ≡ get_or xs i x
    → (rest : List Fact) × (facts_in (map view xs) ≡ facts_in (map view (take i xs)) ++ (facts_of (view x) ++ rest))
parts_between view [] i x lt e = absurd (omega (arith, lt))
parts_between view (y ∷ ys) zero x lt e = (
  facts_in (map view ys),
  ap (λ z. facts_of (view z) ++ facts_in (map view ys))
      (sym e),
)
parts_between view (y ∷ ys) (suc i) x lt e =
    let more = parts_between view ys i x (omega (arith, lt)) e in (
      more.0,
      ap (λ (fs : List Fact). facts_of (view y) ++ fs) more.1
          ∙ sym (append_assoc (facts_of (view y)) (facts_in (map view (take i ys))) (facts_of (view x) ++ more.0)),
    )

pub open_within : {X : Type 0} (view : X → Said) (old new : KnownAtoms) (xs : List X) (i : ℕ) (x : X) → i < length xs
    → x ≡ get_or xs i x
    → Adds old new (facts_in (map view (take i xs))) → IsOpenTo old (facts_in (map view xs))
    → IsOpenTo new (facts_of (view x))
open_within view old new xs i x lt e h o =
    let split = parts_between view xs i x lt e in
    open_first new (facts_of (view x)) split.0
    (open_then old new (facts_in (map view (take i xs))) (facts_of (view x) ++ split.0) h
    (subst (λ (fs : List Fact). IsOpenTo old fs) split.1 o))

-- some of what is left, after what was added before it
pub open_part : (old now : KnownAtoms) (done one rest whole : List Fact) → Adds old now done
    → done ++ (one ++ rest) ≡ whole → IsOpenTo old whole → IsOpenTo now one
open_part old now done one rest whole a e o =
    open_first now one rest (open_then old now done (one ++ rest) a
    (subst (λ (fs : List Fact). IsOpenTo old fs) (sym e) o))

-- ---- ranges

first_integers : (z : ℤ) (k n : ℕ) → k ≤ n → (rest : List Elem) × (integers_from z n ≡ integers_from z k ++ rest)
first_integers z zero n le = (integers_from z n, refl)
first_integers z (suc k) zero le = absurd (omega (arith, le))
first_integers z (suc k) (suc n) le =
    let more = first_integers (z +ℤ pos 1) k n (omega (arith, le)) in
    (more.0, ap (λ (xs : List Elem). Num z ∷ xs) more.1)

some_say_less : (f : Fact) (a b : ℤ) (args : f.args ≡ span a b ∷ []) (n k : ℕ) → n ≡ size_of (as_interval a b) → k < n
    → SayLess (facts_with f (integers_from a (suc k))) (f ∷ [])
some_say_less f a b args n k e lt =
    let split = first_integers a (suc k) (size_of (as_interval a b)) (omega (arith, e, lt)) in
    let same = range_same f (span a b) args in
    let apart : facts_with f (members (span a b)) ≡ facts_with f (integers_from a (suc k)) ++ facts_with f split.0 =
    ap (facts_with f) split.1 ∙ map-append (λ x. fact_with f (x ∷ [])) (integers_from a (suc k)) split.0 in
    record {
      true_too = λ c t. sym (same.true_too c) ∙ ap (list_any (says_true c)) apart
          ∙ any_left (says_true c) (facts_with f (integers_from a (suc k))) (facts_with f split.0) t;
      false_too = λ c t. sym (same.false_too c) ∙ ap (list_any (says_false c)) apart
          ∙ any_left (says_false c) (facts_with f (integers_from a (suc k))) (facts_with f split.0) t;
    }

pub open_number : (f : Fact) (a b : ℤ) (args : f.args ≡ span a b ∷ []) (old new : KnownAtoms) (n k : ℕ) → n
    ≡ size_of (as_interval a b) → k < n
    → Adds old new (facts_with f (integers_from a k)) → IsOpenTo old (f ∷ [])
    → IsOpenTo new (fact_with f (Num (a +ℤ pos k) ∷ []) ∷ [])
open_number f a b args old new n k e lt h o =
    let more : facts_with f (integers_from a (suc k)) ≡ facts_with f (integers_from a k)
    ++ fact_with f (Num (a +ℤ pos k) ∷ []) ∷ [] =
    ap (facts_with f) (integers_more a k) ∙ map-append (λ x. fact_with f (x ∷ [])) (integers_from a k)
    (Num (a +ℤ pos k) ∷ []) in
    open_then old new (facts_with f (integers_from a k)) (fact_with f (Num (a +ℤ pos k) ∷ []) ∷ []) h
    (subst (λ (fs : List Fact). IsOpenTo old fs) more (open_less old (facts_with f (integers_from a (suc k))) (f ∷ [])
    (some_say_less f a b args n k e lt) o))

-- ---- an accepted structure

pub open_at_first : (v : Vocabulary) (es : List Said) → AreAccepted v es → (domains : List (List Elem)) (k : KnownAtoms)
    → k ≡ nothing_known v.symbols domains → IsOpenTo k (facts_in es)
open_at_first v es a domains k h = subst (λ (j : KnownAtoms). IsOpenTo j (facts_in es)) (sym h) start
  where
    apart : (b : GroundAtom) → list_any (says_true b) (facts_in es) ≡ true → list_any (says_false b) (facts_in es)
        ≡ false
    apart =
        subst (λ (ds : List Said). (b : GroundAtom) → list_any (says_true b) (facts_in ds) ≡ true
        → list_any (says_false b) (facts_in ds) ≡ false) (sym a.said)
        (λ b t. (or_parts (list_any (says_false b) (facts_in (said_in v a.structure)))
        (is_whole (said_in v a.structure) b.symbol && not (is_said_true (said_in v a.structure) b))
        (given_is_consistent v a.places a.structure a.accepted b t)).0)

    start : IsOpenTo (nothing_known v.symbols domains) (facts_in es)
    start = record { facts = []; known = nothing_is v.symbols domains; apart = apart }
