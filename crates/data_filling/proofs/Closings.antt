-- What entries give whole is closed.
use Rattle.std.proofs.Common.{◌≡◌, ◌==◌, ℕ, Bool, true, false, not, ◌&&◌, ◌||◌, is_none, List, [], ◌∷◌, ◌++◌, filter}
use Rattle.std.proofs.Common.{refl, sym, ap, subst, ◌∙◌, append_assoc, append-nil}
use Rattle.std.specs.List.{list_any}
use Rattle.std.proofs.lemmas.List.Folds.{list_any-append}
use Rattle.kb_logic.specs.declared.elements.Elem.{Elem}
use Rattle.kb_logic.specs.declared.vocabularies.Symbol.{Symbol}
use Rattle.kb_logic.specs.KnownAtoms.{KnownAtoms, atoms_over}
use Rattle.kb_logic.specs.Models.{GroundAtom}
use Rattle.partial_structures.specs.KnownAtoms.{same_atom, with_closed}
use Rattle.partial_structures.proofs.Listed.{listed}
use Rattle.stage_definitions.specs.DataEntries.{Said, Subject, nothing_named, an_element, a_type, a_symbol}
use Rattle.stage_definitions.specs.DataFacts.{Fact, says_true, says_false, gives_whole, is_whole}
use Rattle.data_filling.specs.Filling.{known_from, Closes, ClosesSubject}
use Rattle.data_filling.proofs.Lists.{filter_same, same_turned}
use Rattle.data_filling.proofs.Steps.{same_known}

abbrev gives : ℕ → Said → Bool
gives n e = gives_whole n e.subject && is_none e.mark

whole_more : (es : List Said) (e : Said) (n : ℕ) → is_whole (es ++ e ∷ []) n ≡ (is_whole es n || (gives n e || false))
whole_more es e n = list_any-append (λ d. gives n d) es (e ∷ [])

none_more : (w : Bool) → w ≡ (w || (false || false))
none_more true = refl
none_more false = refl

one_more : (e t l w : Bool) → ((e && not t) || (l || (w && not t))) ≡ (l || ((w || ((e && true) || false)) && not t))
one_more true true true true = refl
one_more true true true false = refl
one_more true true false true = refl
one_more true true false false = refl
one_more true false true true = refl
one_more true false true false = refl
one_more true false false true = refl
one_more true false false false = refl
one_more false true true true = refl
one_more false true true false = refl
one_more false true false true = refl
one_more false true false false = refl
one_more false false true true = refl
one_more false false true false = refl
one_more false false false true = refl
one_more false false false false = refl

module _ (symbols : List Symbol) (domains : List (List Elem)) (fs : List Fact) (es : List Said) (e : Said) where
  abbrev atoms : List GroundAtom
  atoms = atoms_over symbols domains

  abbrev are_true : GroundAtom → Bool
  are_true b = list_any (says_true b) fs

  abbrev are_false : GroundAtom → Bool
  are_false b = list_any (says_false b) fs || (is_whole es b.symbol && not (are_true b))

  same_whole : ((n : ℕ) → gives n e ≡ false) → known_from symbols domains fs es
      ≡ known_from symbols domains fs (es ++ e ∷ [])
  same_whole h =
      same_known symbols domains _ _ _ _ refl
      (filter_same are_false (λ b. list_any (says_false b) fs || (is_whole (es ++ e ∷ []) b.symbol && not (are_true b)))
      atoms
      (λ b m. ap (λ c. list_any (says_false b) fs || (c && not (are_true b)))
      (none_more (is_whole es b.symbol) ∙ ap (λ c. is_whole es b.symbol || (c || false)) (sym (h b.symbol))
      ∙ sym (whole_more es e b.symbol))))

  more_whole : (s : ℕ) → ((n : ℕ) → gives n e ≡ ((s == n) && true)) → with_closed (known_from symbols domains fs es) s
      ≡ known_from symbols domains fs (es ++ e ∷ [])
  more_whole s h =
      same_known symbols domains _ _ _ _ refl
      (filter_same (λ b. ((b.symbol == s) && not (list_any (same_atom b) (filter are_true atoms))) || list_any
      (same_atom b) (filter are_false atoms))
      (λ b. list_any (says_false b) fs || (is_whole (es ++ e ∷ []) b.symbol && not (are_true b))) atoms
      (λ b m. ap (λ c. ((b.symbol == s) && not c) || list_any (same_atom b) (filter are_false atoms))
      (listed atoms are_true b m)
      ∙ ap (λ c. ((b.symbol == s) && not (are_true b)) || c) (listed atoms are_false b m)
      ∙ ap (λ c. (c && not (are_true b)) || are_false b) (same_turned b.symbol s)
      ∙ one_more (s == b.symbol) (are_true b) (list_any (says_false b) fs) (is_whole es b.symbol)
      ∙ ap (λ c. list_any (says_false b) fs || ((is_whole es b.symbol || (c || false)) && not (are_true b)))
      (sym (h b.symbol))
      ∙ ap (λ c. list_any (says_false b) fs || (c && not (are_true b))) (sym (whole_more es e b.symbol))))

-- ---- one entry

nowhere : (b : Bool) → (b && false) ≡ false
nowhere true = refl
nowhere false = refl

-- an entry with a mark gives nothing whole
pub marked : (k : KnownAtoms) (e : Said) → is_none e.mark ≡ false → Closes k k (e ∷ [])
marked k e h = record {
  symbols = refl;
  domains = refl;
  known = λ fs es g. g ∙ same_whole k.symbols k.domains fs es e
      (λ n. ap (λ b. gives_whole n e.subject && b) h ∙ nowhere (gives_whole n e.subject));
}

-- nor one whose word names no symbol
pub names_none : (k : KnownAtoms) (e : Said) → ((n : ℕ) → gives_whole n e.subject ≡ false) → Closes k k (e ∷ [])
names_none k e h = record {
  symbols = refl;
  domains = refl;
  known = λ fs es g. g ∙ same_whole k.symbols k.domains fs es e (λ n. ap (λ b. b && is_none e.mark) (h n));
}

pub closes_one : (old new : KnownAtoms) (e : Said) (s : ℕ) → ((n : ℕ) → gives_whole n e.subject ≡ (s == n))
    → is_none e.mark ≡ true → new ≡ with_closed old s → Closes old new (e ∷ [])
closes_one old new e s h m g = record {
  symbols = ap (λ (k : KnownAtoms). k.symbols) g;
  domains = ap (λ (k : KnownAtoms). k.domains) g;
  known = λ fs es f. g ∙ ap (λ (k : KnownAtoms). with_closed k s) f
      ∙ more_whole old.symbols old.domains fs es e s (λ n. ap (λ b. b && is_none e.mark) (h n)
      ∙ ap (λ b. (s == n) && b) m);
}

-- ---- entries one after another

moved : (old new : KnownAtoms) (fs : List Fact) (es : List Said) → new.symbols ≡ old.symbols → new.domains ≡ old.domains
    → known_from new.symbols new.domains fs es ≡ known_from old.symbols old.domains fs es
moved old new fs es e f = ap (λ (ss : List Symbol). known_from ss new.domains fs es) e
    ∙ ap (λ (ds : List (List Elem)). known_from old.symbols ds fs es) f

pub closes_nothing : (k : KnownAtoms) → Closes k k []
closes_nothing k = record {
  symbols = refl;
  domains = refl;
  known = λ fs es e. e ∙ ap (λ (ds : List Said). known_from k.symbols k.domains fs ds) (sym (append-nil es));
}

pub closes_then : (a b c : KnownAtoms) (ms ns : List Said) → Closes a b ms → Closes b c ns → Closes a c (ms ++ ns)
closes_then a b c ms ns h k = record {
  symbols = k.symbols ∙ h.symbols;
  domains = k.domains ∙ h.domains;
  known = λ fs es e.
      k.known fs (es ++ ms) (h.known fs es e ∙ sym (moved a b fs (es ++ ms) h.symbols h.domains))
      ∙ moved a b fs ((es ++ ms) ++ ns) h.symbols h.domains
      ∙ ap (λ (ds : List Said). known_from a.symbols a.domains fs ds) (append_assoc es ms ns);
}

pub closes_entry : (old new : KnownAtoms) (e : Said) → is_none e.mark ≡ true → ClosesSubject old new e.subject
    → Closes old new (e ∷ [])
closes_entry old new e m h = by e.subject refl h
  where
    unchanged : new ≡ old → ((n : ℕ) → gives_whole n e.subject ≡ false) → Closes old new (e ∷ [])
    unchanged g none = subst (λ (k : KnownAtoms). Closes old k (e ∷ [])) (sym g) (names_none old e none)

    by : (x : Subject) → e.subject ≡ x → ClosesSubject old new x → Closes old new (e ∷ [])
    by nothing_named f g = unchanged g (λ n. ap (gives_whole n) f)
    by an_element f g = unchanged g (λ n. ap (gives_whole n) f)
    by (a_type t d) f g = unchanged g (λ n. ap (gives_whole n) f)
    by (a_symbol s d) f g = closes_one old new e s (λ n. ap (gives_whole n) f) m g
