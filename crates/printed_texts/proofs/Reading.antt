-- The entries that the stage of data reads in a printed block, one by one.
use Rattle.std.proofs.Common.{◌≡◌, ℕ, ◌+◌, Bool, true, false, ◌&&◌, List, [], ◌∷◌, ◌++◌, map, Option, None, Some}
use Rattle.std.proofs.Common.{flat_map, option_map, refl, sym, ap, subst, ◌∙◌, inl, inr, if◌then◌else◌}
use Rattle.std.specs.Prelude.{codes}
use Rattle.std.specs.List.{enumerate_from}
use Rattle.std.specs.Str.{bytes_eq}
use Rattle.std.proofs.lemmas.Slice.Eq.{bytes_eq-Decides}
use Rattle.kb_logic.specs.declared.elements.Elem.{Elem}
use Rattle.kb_logic.specs.declared.vocabularies.TypeDecl.{TypeDecl}
use Rattle.kb_logic.specs.declared.vocabularies.Symbol.{Symbol}
use Rattle.kb_logic.specs.declared.vocabularies.Vocabulary.{Vocabulary}
use Rattle.kb_logic.specs.Structures.{EachWith, IsDistinct}
use Rattle.kb_logic.specs.KnownAtoms.{KnownAtoms}
use Rattle.kb_logic.proofs.Has.{Has, has_map, flat_map_has, has_either, contains_from}
use Rattle.grammar.specs.BlockTrees as raw
use Rattle.grammar.specs.Trees.{Name}
use Rattle.stage_definitions.specs.Names.{text_of}
use Rattle.stage_definitions.specs.DataEntries.{a_type, a_symbol, subject_of, Said, said}
use Rattle.stage_definitions.specs.DataStage.{same_marks}
use Rattle.printed_texts.specs.Entries.{PlainEntry, type_entries, list_of, symbol_entries, entries_of, marked, is_whole}
use Rattle.printed_texts.specs.Entries.{true_rows, false_rows, is_some_row}
use Rattle.printed_texts.specs.Saying.{SaysEntry}
use Rattle.printed_texts.specs.ReadBlocks.{IsWritable}
use Rattle.printed_texts.proofs.Each.{each_forth, each_back, each_map, AllPairs, distinct_left, distinct_right}
use Rattle.printed_texts.proofs.Each.{distinct_apart, numbered_item}
use Rattle.printed_texts.proofs.Subjects.{type_subject, symbol_subject}
use Rattle.printed_texts.proofs.RightEntries.{listing_of, whole_of, certain_of, denied_of, EntryOf, listing, whole}
use Rattle.printed_texts.proofs.RightEntries.{certain, denied, entry_kind, has_listing, has_symbol_entry, has_whole}
use Rattle.printed_texts.proofs.RightEntries.{has_certain, has_denied, RightEntry, right_listing, right_whole}
use Rattle.printed_texts.proofs.RightEntries.{right_certain, right_denied}
use Rattle.printed_texts.proofs.SaidEntries.{IsSaid, said_entry}

-- an entry that is read, and what was written
pub data ReadAs (v : Vocabulary) (k : KnownAtoms) (e : Said) : Type 0 where
  as_listing : (t : ℕ × TypeDecl) → Has (enumerate_from 0 v.types) t → t.1.made ≡ []
      → IsSaid (listing_of k t) (a_type t.0 t.1) e → ReadAs v k e
  as_whole : (s : ℕ × Symbol) → Has (enumerate_from 0 k.symbols) s → is_whole k s ≡ true
      → IsSaid (whole_of k s) (a_symbol s.0 s.1) e → ReadAs v k e
  as_certain : (s : ℕ × Symbol) → Has (enumerate_from 0 k.symbols) s → is_whole k s ≡ false
      → is_some_row (true_rows k s) ≡ true → IsSaid (certain_of k s) (a_symbol s.0 s.1) e → ReadAs v k e
  as_denied : (s : ℕ × Symbol) → Has (enumerate_from 0 k.symbols) s → is_whole k s ≡ false
      → is_some_row (false_rows k s) ≡ true → IsSaid (denied_of k s) (a_symbol s.0 s.1) e → ReadAs v k e

module _ (v : Vocabulary) (title : List ℕ) (k : KnownAtoms) (w : IsWritable v title k) where
  pub symbol_named : (s : ℕ × Symbol) → Has (enumerate_from 0 k.symbols) s → subject_of v s.1.name ≡ a_symbol s.0 s.1
  symbol_named s m = symbol_subject v w.apart s (subst (λ (ss : List Symbol). Has (enumerate_from 0 ss) s) w.symbols m)

  module _ (xs : List raw.Entry) (says : EachWith SaysEntry (entries_of v k) xs) where
    read_kind : (p : PlainEntry) (t : raw.Entry) → SaysEntry p t → EntryOf v k p → ReadAs v k (said v t)
    read_kind p t s (listing u m e) =
        as_listing u m e (said_entry k.domains v (listing_of k u) (a_type u.0 u.1) (right_listing k u)
        (type_subject v w.apart u m) t s)
    read_kind p t s (whole u m e) =
        as_whole u m e (said_entry k.domains v (whole_of k u) (a_symbol u.0 u.1) (right_whole k u e)
        (symbol_named u m) t s)
    read_kind p t s (certain u m e f) =
        as_certain u m e f (said_entry k.domains v (certain_of k u) (a_symbol u.0 u.1) (right_certain k u e f)
        (symbol_named u m) t s)
    read_kind p t s (denied u m e f) =
        as_denied u m e f (said_entry k.domains v (denied_of k u) (a_symbol u.0 u.1) (right_denied k u e f)
        (symbol_named u m) t s)

    pub read_as : (e : Said) → Has (map (said v) xs) e → ReadAs v k e
    read_as e m =
        let each : EachWith (λ p f. ReadAs v k f) (entries_of v k) (map (said v) xs) =
        each_map SaysEntry (λ p f. ReadAs v k f) (said v) (entries_of v k) xs
        (λ p t n s. read_kind p t s (entry_kind v k p n)) says in
        (each_back (λ p f. ReadAs v k f) (entries_of v k) (map (said v) xs) each e m).2

    -- each entry that was written is read
    found : (p : PlainEntry) → Has (entries_of v k) p → (t : raw.Entry) × Has xs t × SaysEntry p t
    found p m = each_forth SaysEntry (entries_of v k) xs says p m

    pub listing_read : (t : ℕ × TypeDecl) → Has (enumerate_from 0 v.types) t → t.1.made ≡ []
        → (e : Said) × Has (map (said v) xs) e × IsSaid (listing_of k t) (a_type t.0 t.1) e
    listing_read t m e =
        let r = found (listing_of k t) (has_listing v k t m e) in (
          said v r.0,
          has_map (said v) xs r.0 r.1,
          said_entry k.domains v (listing_of k t) (a_type t.0 t.1)
              (right_listing k t) (type_subject v w.apart t m) r.0 r.2,
        )

    symbol_read : (s : ℕ × Symbol) → Has (enumerate_from 0 k.symbols) s → (p : PlainEntry) → p.word ≡ s.1.name
        → Has (symbol_entries k s) p → RightEntry k.domains (a_symbol s.0 s.1) p → (e : Said) × Has (map (said v) xs) e
        × IsSaid p (a_symbol s.0 s.1) e
    symbol_read s m p word h right =
        let r = found p (has_symbol_entry v k s m p h) in (
          said v r.0,
          has_map (said v) xs r.0 r.1,
          said_entry k.domains v p (a_symbol s.0 s.1) right
              (ap (subject_of v) word ∙ symbol_named s m) r.0 r.2,
        )

    pub whole_read : (s : ℕ × Symbol) → Has (enumerate_from 0 k.symbols) s → is_whole k s ≡ true
        → (e : Said) × Has (map (said v) xs) e × IsSaid (whole_of k s) (a_symbol s.0 s.1) e
    whole_read s m e = symbol_read s m (whole_of k s) refl (has_whole k s e) (right_whole k s e)

    pub certain_read : (s : ℕ × Symbol) → Has (enumerate_from 0 k.symbols) s → is_whole k s ≡ false
        → is_some_row (true_rows k s) ≡ true → (e : Said) × Has (map (said v) xs) e
        × IsSaid (certain_of k s) (a_symbol s.0 s.1) e
    certain_read s m e f = symbol_read s m (certain_of k s) refl (has_certain k s e f) (right_certain k s e f)

    pub denied_read : (s : ℕ × Symbol) → Has (enumerate_from 0 k.symbols) s → is_whole k s ≡ false
        → is_some_row (false_rows k s) ≡ true → (e : Said) × Has (map (said v) xs) e
        × IsSaid (denied_of k s) (a_symbol s.0 s.1) e
    denied_read s m e f = symbol_read s m (denied_of k s) refl (has_denied k s e f) (right_denied k s e f)

-- ---- no two entries of one word and mark

abbrev same_plain : Option (List ℕ) → Option (List ℕ) → Bool
same_plain None n = true
same_plain (Some m) None = true
same_plain (Some m) (Some n) = bytes_eq m n

abbrev Apart : PlainEntry → PlainEntry → Type 0
Apart p q = p.word ≡ q.word → same_plain p.mark q.mark ≡ false

pairs_joined : {X : Type 0} (R : X → X → Type 0) (xs ys : List X) → AllPairs R xs → AllPairs R ys
    → ((x : X) → Has xs x → (y : X) → Has ys y → R x y) → AllPairs R (xs ++ ys)
pairs_joined R [] ys h j across = j
pairs_joined R (x ∷ xs) ys h j across = (
  λ y m. elim (has_either xs ys y m) [ inl a ↦ h.0 y a | inr b ↦ across x (inl refl) y b ],
  pairs_joined R xs ys h.1 j (λ z m y n. across z (inr m) y n),
)

pairs_flat : {A : Type 0} (f : A → List PlainEntry) (name : A → List ℕ)
    → ((x : A) (p : PlainEntry) → Has (f x) p → p.word ≡ name x) → ((x : A) → AllPairs Apart (f x)) → (xs : List A)
    → IsDistinct (map name xs) → AllPairs Apart (flat_map f xs)
pairs_flat f name word own [] d = tt
pairs_flat f name word own (x ∷ xs) d =
    pairs_joined Apart (f x) (flat_map f xs) (own x) (pairs_flat f name word own xs d.1)
    (λ p m q n e. let y = flat_map_has f xs q n in
    absurd (d.0 (contains_from (map name xs) (name x)
    (subst (λ u. Has (map name xs) u) (sym (word y.0 q y.2) ∙ sym e ∙ word x p m) (has_map name xs y.0 y.1)))))

numbered_names : {A : Type 0} (name : A → List ℕ) (n : ℕ) (xs : List A)
    → map (λ t. name t.1) (enumerate_from n xs) ≡ map name xs
numbered_names name n [] = refl
numbered_names name n (x ∷ xs) = ap (λ l. name x ∷ l) (numbered_names name (n + 1) xs)

abbrev type_word : ℕ × TypeDecl → List ℕ
type_word t = t.1.name

abbrev symbol_word : ℕ × Symbol → List ℕ
symbol_word s = s.1.name

list_word : (name : List ℕ) (made : List (List ℕ)) (domain : List Elem) (p : PlainEntry)
    → Has (list_of name made domain) p → p.word ≡ name
list_word name [] domain p (inl e) = ap (λ q. q.word) (sym e)
list_word name [] domain p (inr h) = absurd h
list_word name (n ∷ ns) domain p h = absurd h

list_own : (name : List ℕ) (made : List (List ℕ)) (domain : List Elem) → AllPairs Apart (list_of name made domain)
list_own name [] domain = (λ y m. absurd m, tt)
list_own name (n ∷ ns) domain = tt

marked_word : (name mark : List ℕ) (rows : List _) (p : PlainEntry) → Has (marked name mark rows) p
    → (p.word ≡ name) × (p.mark ≡ Some mark)
marked_word name mark [] p h = absurd h
marked_word name mark (r ∷ rs) p (inl e) = (ap (λ q. q.word) (sym e), ap (λ q. q.mark) (sym e))
marked_word name mark (r ∷ rs) p (inr h) = absurd h

marked_own : (name mark : List ℕ) (rows : List _) → AllPairs Apart (marked name mark rows)
marked_own name mark [] = tt
marked_own name mark (r ∷ rs) = (λ y m. absurd m, tt)

module _ (k : KnownAtoms) (s : ℕ × Symbol) where
  ct : List PlainEntry
  ct = marked s.1.name (codes "ct") (true_rows k s)

  cf : List PlainEntry
  cf = marked s.1.name (codes "cf") (false_rows k s)

  entry_word : (p : PlainEntry) → Has (symbol_entries k s) p → p.word ≡ s.1.name
  entry_word p h = by (is_whole k s) h
    where
      by : (b : Bool) → Has (if b then whole_of k s ∷ [] else marked s.1.name (codes "ct") (true_rows k s)
          ++ marked s.1.name (codes "cf") (false_rows k s)) p → p.word ≡ s.1.name
      by true (inl e) = ap (λ q. q.word) (sym e)
      by true (inr f) = absurd f
      by false f = elim (has_either (marked s.1.name (codes "ct") (true_rows k s))
          (marked s.1.name (codes "cf") (false_rows k s)) p f) [
            | inl a ↦ (marked_word s.1.name (codes "ct") (true_rows k s) p a).0
            | inr b ↦ (marked_word s.1.name (codes "cf") (false_rows k s) p b).0
          ]

  entry_own : AllPairs Apart (symbol_entries k s)
  entry_own = by (is_whole k s)
    where
      by : (b : Bool) → AllPairs Apart (if b then whole_of k s ∷ [] else marked s.1.name (codes "ct") (true_rows k s)
          ++ marked s.1.name (codes "cf") (false_rows k s))
      by true = (λ y m. absurd m, tt)
      by false =
          pairs_joined Apart (marked s.1.name (codes "ct") (true_rows k s))
          (marked s.1.name (codes "cf") (false_rows k s))
          (marked_own s.1.name (codes "ct") (true_rows k s)) (marked_own s.1.name (codes "cf") (false_rows k s))
          (λ p m q n e. rw (
            (marked_word s.1.name (codes "ct") (true_rows k s) p m).1,
            (marked_word s.1.name (codes "cf") (false_rows k s) q n).1,
          ) refl)

pub entries_apart : (v : Vocabulary) (title : List ℕ) (k : KnownAtoms) → IsWritable v title k
    → AllPairs Apart (entries_of v k)
entries_apart v title k w =
    let types : IsDistinct (map type_word (enumerate_from 0 v.types)) =
    rw (numbered_names (λ (d : TypeDecl). d.name) 0 v.types)
    (distinct_left (map (λ d. d.name) v.types) (map (λ s. s.name) v.symbols) w.apart) in
    let symbols : IsDistinct (map symbol_word (enumerate_from 0 k.symbols)) =
    rw (numbered_names (λ (d : Symbol). d.name) 0 k.symbols, w.symbols)
    (distinct_right (map (λ d. d.name) v.types) (map (λ s. s.name) v.symbols) w.apart) in
    pairs_joined Apart (flat_map (type_entries k.domains) (enumerate_from 0 v.types))
    (flat_map (symbol_entries k) (enumerate_from 0 k.symbols))
    (pairs_flat (type_entries k.domains) type_word (λ t p m. list_word t.1.name t.1.made _ p m)
    (λ t. list_own t.1.name t.1.made _) (enumerate_from 0 v.types) types)
    (pairs_flat (symbol_entries k) symbol_word (λ s p m. entry_word k s p m) (λ s. entry_own k s)
    (enumerate_from 0 k.symbols) symbols)
    (λ p m q n e.
    let t = flat_map_has (type_entries k.domains) (enumerate_from 0 v.types) p m in
    let s = flat_map_has (symbol_entries k) (enumerate_from 0 k.symbols) q n in
    let one : p.word ≡ t.0.1.name = list_word t.0.1.name t.0.1.made _ p t.2 in
    let other : q.word ≡ s.0.1.name = entry_word k s.0 q s.2 in
    let named : Has v.symbols s.0.1 =
    subst (λ (ss : List Symbol). Has ss s.0.1) w.symbols (numbered_item 0 k.symbols s.0 s.1) in
    absurd (distinct_apart (map (λ d. d.name) v.types) (map (λ s. s.name) v.symbols) w.apart t.0.1.name
    (has_map (λ d. d.name) v.types t.0.1 (numbered_item 0 v.types t.0 t.1))
    (subst (λ u. Has (map (λ (d : Symbol). d.name) v.symbols) u) (sym other ∙ sym e ∙ one)
    (has_map (λ d. d.name) v.symbols s.0.1 named))))

-- the same of the entries that are read
abbrev pub Differs : Said → Said → Type 0
Differs q e = (bytes_eq (text_of q.word) (text_of e.word) && same_marks q.mark e.mark) ≡ false

marks_are : (m n : Option Name) → same_marks m n ≡ same_plain (option_map text_of m) (option_map text_of n)
marks_are None n = refl
marks_are (Some m) None = refl
marks_are (Some m) (Some n) = refl

abbrev IsWritten : PlainEntry → Said → Type 0
IsWritten p e = (text_of e.word ≡ p.word) × (option_map text_of e.mark ≡ p.mark)

differ : (p q : PlainEntry) (a b : Said) → IsWritten p a → IsWritten q b → Apart p q → Differs a b
differ p q a b h j apart = by (bytes_eq (text_of a.word) (text_of b.word)) refl
  where
    by : (x : Bool) → bytes_eq (text_of a.word) (text_of b.word) ≡ x
        → (bytes_eq (text_of a.word) (text_of b.word) && same_marks a.mark b.mark) ≡ false
    by true e =
        let same : p.word ≡ q.word = sym h.0 ∙ (bytes_eq-Decides (text_of a.word) (text_of b.word)).0 e ∙ j.0 in
        let marks : same_marks a.mark b.mark ≡ false = marks_are a.mark b.mark ∙ rw (h.1, j.1) (apart same) in
        rw (e, marks) refl
    by false e = rw e refl

pairs_each : (ps : List PlainEntry) (es : List Said) → AllPairs Apart ps → EachWith IsWritten ps es
    → AllPairs Differs es
pairs_each [] [] h e = tt
pairs_each [] (x ∷ es) h e = absurd e
pairs_each (p ∷ ps) [] h e = absurd e
pairs_each (p ∷ ps) (x ∷ es) h e = (
  λ y m. let q = each_back IsWritten ps es e.1 y m in differ p q.0 x y e.0 q.2 (h.0 q.0 q.1),
  pairs_each ps es h.1 e.1,
)

said_words : (v : Vocabulary) (p : PlainEntry) (t : raw.Entry) → SaysEntry p t → IsWritten p (said v t)
said_words v p (raw.entry word mark q value) s = (s.word, s.mark)

pub read_apart : (v : Vocabulary) (title : List ℕ) (k : KnownAtoms) → IsWritable v title k → (xs : List raw.Entry)
    → EachWith SaysEntry (entries_of v k) xs → AllPairs Differs (map (said v) xs)
read_apart v title k w xs says =
    pairs_each (entries_of v k) (map (said v) xs) (entries_apart v title k w)
    (each_map SaysEntry IsWritten (said v) (entries_of v k) xs (λ p t m s. said_words v p t s) says)
