-- Facts that are added to what is known.
use Rattle.std.proofs.Common.{◌≡◌, Bool, true, false, not, ◌&&◌, ◌||◌, List, [], ◌∷◌, ◌++◌, filter, if◌then◌else◌, refl}
use Rattle.std.proofs.Common.{sym, ap, ◌∙◌, append_assoc, append-nil}
use Rattle.std.specs.List.{list_any}
use Rattle.std.proofs.lemmas.List.Folds.{list_any-append}
use Rattle.kb_logic.specs.declared.elements.Elem.{Elem}
use Rattle.kb_logic.specs.declared.vocabularies.Symbol.{Symbol}
use Rattle.kb_logic.specs.KnownAtoms.{KnownAtoms, atoms_over}
use Rattle.kb_logic.specs.Models.{GroundAtom}
use Rattle.kb_logic.proofs.AllAtoms.{listed_over}
use Rattle.partial_structures.specs.KnownAtoms.{same_atom, is_rival, with_true, with_false, nothing_known}
use Rattle.partial_structures.proofs.Listed.{listed}
use Rattle.stage_definitions.specs.DataEntries.{Said}
use Rattle.stage_definitions.specs.DataFacts.{Fact, says_true, says_false, is_whole}
use Rattle.data_filling.specs.Filling.{known_from, IsFactOver, Adds, fact_with, atom_with}
use Rattle.data_filling.proofs.Lists.{filter_same, none_kept}
use Rattle.data_filling.proofs.Singles.{true_is, true_is_not, false_is, rival_is}

abbrev pub known_as : List Symbol → List (List Elem) → List GroundAtom → List GroundAtom → KnownAtoms
known_as symbols domains ts fs = record { symbols = symbols; domains = domains; true_atoms = ts; false_atoms = fs }

pub same_known : (symbols : List Symbol) (domains : List (List Elem)) (ts us fs gs : List GroundAtom) → ts ≡ us → fs
    ≡ gs
    → known_as symbols domains ts fs ≡ known_as symbols domains us gs
same_known symbols domains ts us fs gs e f = ap (λ xs. known_as symbols domains xs fs) e
    ∙ ap (known_as symbols domains us) f

-- nothing is known without facts
pub nothing_is : (symbols : List Symbol) (domains : List (List Elem)) → nothing_known symbols domains
    ≡ known_from symbols domains [] []
nothing_is symbols domains =
    let atoms = atoms_over symbols domains in
    same_known symbols domains [] (filter (λ a. false) atoms) [] (filter (λ a. false) atoms) (sym (none_kept atoms))
    (sym (none_kept atoms))

-- ---- one fact

last_or : (s t : Bool) → (s || t) ≡ (t || (s || false))
last_or true true = refl
last_or true false = refl
last_or false true = refl
last_or false false = refl

last_or_none : (s t : Bool) → (s || (t || false)) ≡ ((t || (s || false)) || false)
last_or_none true true = refl
last_or_none true false = refl
last_or_none false true = refl
last_or_none false false = refl

or_none : (t : Bool) → t ≡ (t || (false || false))
or_none true = refl
or_none false = refl

module _ (symbols : List Symbol) (domains : List (List Elem)) (f : Fact) (xs : List Elem)
    (over : IsFactOver symbols domains (fact_with f xs)) (fs : List Fact) where
  abbrev atoms : List GroundAtom
  atoms = atoms_over symbols domains

  abbrev here : GroundAtom
  here = atom_with f xs

  abbrev fact : Fact
  fact = fact_with f xs

  abbrev are_true : GroundAtom → Bool
  are_true b = list_any (says_true b) fs

  abbrev are_false : GroundAtom → Bool
  are_false b = list_any (says_false b) fs || (is_whole [] b.symbol && not (list_any (says_true b) fs))

  true_more : (b : GroundAtom) → list_any (says_true b) (fs ++ fact ∷ []) ≡ (are_true b || (says_true b fact || false))
  true_more b = list_any-append (says_true b) fs (fact ∷ [])

  false_more : (b : GroundAtom) → (list_any (says_false b) (fs ++ fact ∷ []) || false)
      ≡ ((list_any (says_false b) fs || (says_false b fact || false)) || false)
  false_more b = ap (λ c. c || false) (list_any-append (says_false b) fs (fact ∷ []))

  made_true : f.holds ≡ true → with_true (known_from symbols domains fs []) here
      ≡ known_from symbols domains (fs ++ fact ∷ []) []
  made_true h =
      same_known symbols domains _ _ _ _
      (filter_same (λ b. same_atom here b || list_any (same_atom b) (filter are_true atoms))
      (λ b. list_any (says_true b) (fs ++ fact ∷ [])) atoms
      (λ b m. ap (λ c. same_atom here b || c) (listed atoms are_true b m)
      ∙ ap (λ c. c || are_true b) (sym (true_is f xs b h)) ∙ last_or (says_true b fact) (are_true b)
      ∙ sym (true_more b)))
      (filter_same (λ b. is_rival here b || list_any (same_atom b) (filter are_false atoms))
      (λ b. list_any (says_false b) (fs ++ fact ∷ []) || false) atoms
      (λ b m. ap (λ c. is_rival here b || c) (listed atoms are_false b m)
      ∙ ap (λ c. c || are_false b) (sym (rival_is f xs symbols domains over b h (listed_over symbols domains b m)))
      ∙ last_or_none (says_false b fact) (list_any (says_false b) fs) ∙ sym (false_more b)))

  made_false : f.holds ≡ false → with_false (known_from symbols domains fs []) here
      ≡ known_from symbols domains (fs ++ fact ∷ []) []
  made_false h =
      same_known symbols domains _ _ _ _
      (filter_same are_true (λ b. list_any (says_true b) (fs ++ fact ∷ [])) atoms
      (λ b m. or_none (are_true b) ∙ ap (λ c. are_true b || (c || false)) (sym (true_is_not f xs b h))
      ∙ sym (true_more b)))
      (filter_same (λ b. same_atom here b || list_any (same_atom b) (filter are_false atoms))
      (λ b. list_any (says_false b) (fs ++ fact ∷ []) || false) atoms
      (λ b m. ap (λ c. same_atom here b || c) (listed atoms are_false b m)
      ∙ ap (λ c. c || are_false b) (sym (false_is f xs b h))
      ∙ last_or_none (says_false b fact) (list_any (says_false b) fs) ∙ sym (false_more b)))

abbrev pub stated : Bool → KnownAtoms → GroundAtom → KnownAtoms
stated h k a = if h then with_true k a else with_false k a

same_symbols : (h : Bool) (k : KnownAtoms) (a : GroundAtom) → (stated h k a).symbols ≡ k.symbols
same_symbols true k a = refl
same_symbols false k a = refl

same_domains : (h : Bool) (k : KnownAtoms) (a : GroundAtom) → (stated h k a).domains ≡ k.domains
same_domains true k a = refl
same_domains false k a = refl

one_more : (symbols : List Symbol) (domains : List (List Elem)) (f : Fact) (xs : List Elem)
    → IsFactOver symbols domains (fact_with f xs) → (fs : List Fact)
    → (h : Bool) → f.holds ≡ h → stated h (known_from symbols domains fs []) (atom_with f xs)
    ≡ known_from symbols domains (fs ++ fact_with f xs ∷ []) []
one_more symbols domains f xs over fs true e = made_true symbols domains f xs over fs e
one_more symbols domains f xs over fs false e = made_false symbols domains f xs over fs e

pub adds_one : (old new : KnownAtoms) (f : Fact) (xs : List Elem) → IsFactOver old.symbols old.domains (fact_with f xs)
    → new ≡ stated f.holds old (atom_with f xs) → Adds old new (fact_with f xs ∷ [])
adds_one old new f xs over e = record {
  symbols = ap (λ (k : KnownAtoms). k.symbols) e ∙ same_symbols f.holds old (atom_with f xs);
  domains = ap (λ (k : KnownAtoms). k.domains) e ∙ same_domains f.holds old (atom_with f xs);
  known = λ fs g. e ∙ ap (λ (k : KnownAtoms). stated f.holds k (atom_with f xs)) g
      ∙ one_more old.symbols old.domains f xs over fs f.holds refl;
}

-- ---- facts one after another

pub moved : (old new : KnownAtoms) (fs : List Fact) (es : List Said) → new.symbols ≡ old.symbols → new.domains
    ≡ old.domains
    → known_from new.symbols new.domains fs es ≡ known_from old.symbols old.domains fs es
moved old new fs es e f = ap (λ (ss : List Symbol). known_from ss new.domains fs es) e
    ∙ ap (λ (ds : List (List Elem)). known_from old.symbols ds fs es) f

pub adds_nothing : (k : KnownAtoms) → Adds k k []
adds_nothing k = record {
  symbols = refl;
  domains = refl;
  known = λ fs e. e ∙ ap (λ (gs : List Fact). known_from k.symbols k.domains gs []) (sym (append-nil fs));
}

pub adds_then : (a b c : KnownAtoms) (ms ns : List Fact) → Adds a b ms → Adds b c ns → Adds a c (ms ++ ns)
adds_then a b c ms ns h k = record {
  symbols = k.symbols ∙ h.symbols;
  domains = k.domains ∙ h.domains;
  known = λ fs e.
      k.known (fs ++ ms) (h.known fs e ∙ sym (moved a b (fs ++ ms) [] h.symbols h.domains))
      ∙ moved a b ((fs ++ ms) ++ ns) [] h.symbols h.domains
      ∙ ap (λ (gs : List Fact). known_from a.symbols a.domains gs []) (append_assoc fs ms ns);
}

-- facts that say the same of each atom
pub record SaySame (ms ns : List Fact) : Type 0 where
  pub true_too : (a : GroundAtom) → list_any (says_true a) ms ≡ list_any (says_true a) ns
  pub false_too : (a : GroundAtom) → list_any (says_false a) ms ≡ list_any (says_false a) ns

same_from : (symbols : List Symbol) (domains : List (List Elem)) (fs ms ns : List Fact) → SaySame ms ns
    → known_from symbols domains (fs ++ ms) [] ≡ known_from symbols domains (fs ++ ns) []
same_from symbols domains fs ms ns h =
    let atoms = atoms_over symbols domains in
    same_known symbols domains _ _ _ _
    (filter_same (λ b. list_any (says_true b) (fs ++ ms)) (λ b. list_any (says_true b) (fs ++ ns)) atoms
    (λ b m. list_any-append (says_true b) fs ms ∙ ap (λ c. list_any (says_true b) fs || c) (h.true_too b)
    ∙ sym (list_any-append (says_true b) fs ns)))
    (filter_same (λ b. list_any (says_false b) (fs ++ ms) || false)
    (λ b. list_any (says_false b) (fs ++ ns) || false) atoms
    (λ b m. ap (λ c. c || false) (list_any-append (says_false b) fs ms
    ∙ ap (λ c. list_any (says_false b) fs || c) (h.false_too b) ∙ sym (list_any-append (says_false b) fs ns))))

pub adds_same : (a b : KnownAtoms) (ms ns : List Fact) → Adds a b ms → SaySame ms ns → Adds a b ns
adds_same a b ms ns h s = record {
  symbols = h.symbols;
  domains = h.domains;
  known = λ fs e. h.known fs e ∙ same_from a.symbols a.domains fs ms ns s;
}
