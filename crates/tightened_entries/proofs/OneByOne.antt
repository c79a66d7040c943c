-- Entries one by one, and all of them.
use Rattle.std.proofs.Common.{◌≡◌, ℕ, Bool, true, false, not, List, [], ◌∷◌, ◌++◌, All, map, length, sym, ap, ◌∙◌}
use Rattle.std.proofs.Common.{arith, ◌≤◌, if◌then◌else◌}
use Rattle.std.specs.Prelude.{flat_map, nat_lt}
use Rattle.std.proofs.lemmas.List.{append_assoc, map-append}
use Rattle.std.proofs.lemmas.Grind.{flat_map-append}
use Rattle.std.proofs.lemmas.List.Elements.{All-nil, All-cons, All-head, All-tail, All-append, All-filter}
use Rattle.std.proofs.lemmas.List.Elements.{filter-append}
use Rattle.derivation_log.specs.declared.entries.Entry.{Entry}
use Rattle.derivation_log.specs.declared.entries.Entry.TheVariants.{Mark, Learnt, Sum, Bound, Exclude, Inconsistent}
use Rattle.derivation_log.specs.declared.entries.Entry.TheVariants.{Forced, Least}
use Rattle.derivation_log.specs.Lines.{entry_text}
use Rattle.search_log.specs.Entries.{AreEntries, IsOfSearch}
use Rattle.tightened_entries.specs.LastBounds.{is_bound, selector, bounds_of, others, selectors_of, under, tightened}
use Rattle.tightened_entries.specs.Readings.{Reads}
use Rattle.tightened_entries.proofs.Reading.{one-list}

-- what is added for each entry in turn is added for all of them
added : {A : Type 0} (start old new front back all : List A) → old ≡ start ++ front → new ≡ old ++ back
    → all ≡ front ++ back → new ≡ start ++ all
added start old new front back all h k e = k ∙ ap (λ (t : List _). t ++ back) h ∙ append_assoc start front back
    ∙ ap (λ (t : List _). start ++ t) (sym e)

module _ (es : List Entry) (e : Entry) where
  pub one-selector : (old new : List ℕ) → old ≡ selectors_of es → new ≡ old ++ selectors_of (e ∷ [])
      → new ≡ selectors_of (es ++ e ∷ [])
  one-selector old new h k = k ∙ ap (λ (t : List ℕ). t ++ selectors_of (e ∷ [])) h
      ∙ sym (ap (map selector) (filter-append is_bound es (e ∷ []))
      ∙ map-append selector (bounds_of es) (bounds_of (e ∷ [])))

  pub one-bound : (start old new : List ℕ) → old ≡ start ++ flat_map entry_text (bounds_of es)
      → new ≡ old ++ flat_map entry_text (bounds_of (e ∷ []))
      → new ≡ start ++ flat_map entry_text (bounds_of (es ++ e ∷ []))
  one-bound start old new h k =
      added start old new (flat_map entry_text (bounds_of es)) (flat_map entry_text (bounds_of (e ∷ []))) _ h k
      (ap (flat_map entry_text) (filter-append is_bound es (e ∷ []))
      ∙ flat_map-append entry_text (bounds_of es) (bounds_of (e ∷ [])))

  pub one-other : (before : ℕ) (ss start old new : List ℕ)
      → old ≡ start ++ flat_map entry_text (map (under before ss) (others es))
      → new ≡ old ++ flat_map entry_text (map (under before ss) (others (e ∷ [])))
      → new ≡ start ++ flat_map entry_text (map (under before ss) (others (es ++ e ∷ [])))
  one-other before ss start old new h k =
      added start old new (flat_map entry_text (map (under before ss) (others es)))
      (flat_map entry_text (map (under before ss) (others (e ∷ [])))) _ h k
      (ap (λ (t : List Entry). flat_map entry_text (map (under before ss) t))
      (filter-append (λ (f : Entry). not (is_bound f)) es (e ∷ []))
      ∙ ap (flat_map entry_text) (map-append (under before ss) (others es) (others (e ∷ [])))
      ∙ flat_map-append entry_text (map (under before ss) (others es)) (map (under before ss) (others (e ∷ []))))

-- an entry of a search is one under the last bound, too
under-search : (before : ℕ) (ss : List ℕ) (e : Entry) → IsOfSearch e → IsOfSearch (under before ss e)
under-search before ss (Mark n) h = h
under-search before ss (Learnt lits hints) h = h
under-search before ss (Sum n lits) h = h
under-search before ss (Bound s t k) h = h
under-search before ss (Exclude s lits) h = h
under-search before ss (Inconsistent lits c) h = h
under-search before ss (Forced l lits c) h = h
under-search before ss (Least t k lits c) h = h

all-under : (before : ℕ) (ss : List ℕ) (es : List Entry) → All IsOfSearch es
    → All IsOfSearch (map (under before ss) es)
all-under before ss [] h = All-nil IsOfSearch
all-under before ss (e ∷ es) h = All-cons IsOfSearch (under before ss e) (map (under before ss) es)
    (under-search before ss e (All-head IsOfSearch e es h)) (all-under before ss es (All-tail IsOfSearch e es h))

-- entries of a search are such under the last bound, too
tightened-search : (before : ℕ) (es : List Entry) → All IsOfSearch es → All IsOfSearch (tightened before es)
tightened-search before es h = by-few (nat_lt (length (selectors_of es)) 2)
  where
    by-few : (few : Bool) → All IsOfSearch (if few then es
        else bounds_of es ++ map (under before (selectors_of es)) (others es))
    by-few true = h
    by-few false = All-append IsOfSearch (bounds_of es) (map (under before (selectors_of es)) (others es))
        (All-filter is_bound IsOfSearch es h)
        (all-under before (selectors_of es) (others es) (All-filter (λ (f : Entry). not (is_bound f)) IsOfSearch es h))

pub tightened-entries : (before : ℕ) (es : List Entry) (text : List ℕ) → All IsOfSearch es
    → text ≡ flat_map entry_text (tightened before es) → AreEntries text
tightened-entries before es text h e = (tightened before es, tightened-search before es h, e)

module _ (before : ℕ) (entries : List ℕ) (es ds : List Entry) (ss front text : List ℕ) where
  pub many-bounds : Reads entries es → Reads entries ds → ss ≡ selectors_of es → 2 ≤ length ss
      → front ≡ flat_map entry_text (bounds_of es)
      → text ≡ front ++ flat_map entry_text (map (under before ss) (others ds))
      → text ≡ flat_map entry_text (tightened before es)
  many-bounds first second are many bounds rest =
      let few : nat_lt (length (selectors_of es)) 2 ≡ false =
      let x = ap length are in let y : 2 ≤ length (selectors_of es) = omega (arith, x, many) in grind (arith, y) in
      rw few (rest
      ∙ ap (λ (t : List ℕ). t ++ flat_map entry_text (map (under before ss) (others ds))) bounds
      ∙ ap (λ (fs : List Entry). flat_map entry_text (bounds_of es)
      ++ flat_map entry_text (map (under before ss) (others fs))) (one-list entries ds es second first)
      ∙ ap (λ (ts : List ℕ). flat_map entry_text (bounds_of es)
      ++ flat_map entry_text (map (under before ts) (others es))) are
      ∙ sym (flat_map-append entry_text (bounds_of es) (map (under before (selectors_of es)) (others es))))
