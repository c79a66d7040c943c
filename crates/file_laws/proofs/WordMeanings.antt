-- A word's number has that word for its name; and the name of a type means the type.
use Rattle.std.proofs.Common.{◌≡◌, ◌<◌, ◌≤◌, ◌==◌, ℕ, zero, suc, ◌+◌, Bool, true, false, is_some, List, [], ◌∷◌, ◌++◌}
use Rattle.std.proofs.Common.{length, map, if◌then◌else◌, Option, None, Some, unwrap_or, slice_get, refl, sym, ap}
use Rattle.std.proofs.Common.{subst, ◌∙◌, arith}
use Rattle.std.specs.Prelude.{⊤}
use Rattle.std.specs.List.{AllByRecursion}
use Rattle.std.specs.Str.{bytes_eq}
use Rattle.std.proofs.lemmas.Bool.{eqb-true}
use Rattle.std.proofs.lemmas.Option.{none-some, same_Some}
use Rattle.std.proofs.lemmas.Slice.Eq.{bytes_eq-Decides}
use Rattle.kb_logic.specs.declared.vocabularies.TypeDecl.{TypeDecl}
use Rattle.kb_logic.specs.declared.vocabularies.Symbol.{Symbol}
use Rattle.kb_logic.specs.declared.vocabularies.Vocabulary.{Vocabulary}
use Rattle.grammar.specs.Trees.{Name}
use Rattle.stage_definitions.specs.Scopes.{Text, further, last_position}
use Rattle.stage_definitions.specs.Files.{Declaration, type_under, constructed_type, symbol}
use Rattle.stage_definitions.specs.Names.{Meaning, undeclared, integers, naturals, a_type, predicate, function, made}
use Rattle.stage_definitions.specs.Names.{variable, Names, meaning_in, meaning_of, meaning_at, variable_or, declared}
use Rattle.stage_definitions.specs.Names.{number_types, symbol_meaning, made_names, declared_names, with_names}
use Rattle.stage_definitions.specs.Names.{names_of}
use Rattle.stage_definitions.specs.Names.{text_of}
use Rattle.stage_definitions.specs.Uses.{declared_uses}
use Rattle.stage_definitions.specs.Numbering.{type_number, types_in, symbols_in}
use Rattle.literal_printer.specs.Texts.{name_of}
use Rattle.printed_texts.specs.FormulaPrints.{word_or_none, symbol_word, type_name, type_word, made_in, scope_word}
use Rattle.reading_laws.proofs.Alls.{all_right, all_append}
use Rattle.reading_laws.proofs.Meanings.{IsMeaning, IsRest, rest_head, rest_tail, rest_whole, AreSuch, with_such}
use Rattle.reading_laws.proofs.Meanings.{such_word, kept}
use Rattle.reading_laws.proofs.Names.{AreNew, unknown_is}

-- ---- a word's number has the word for its name

abbrev pub IsCalled : Vocabulary → Text → Meaning → Type 0
IsCalled v w undeclared = ⊤
IsCalled v w integers = ⊤
IsCalled v w naturals = ⊤
IsCalled v w (a_type t) = type_word v t ≡ w
IsCalled v w (predicate s n) = symbol_word v s ≡ w
IsCalled v w (function s n) = symbol_word v s ≡ w
IsCalled v w (made t i) = made_in (slice_get v.types t) i ≡ w
IsCalled v w (variable level) = ⊤

module _ (v : Vocabulary) where
  abbrev AreCalled : List (Name × Meaning) → Type 0
  AreCalled es = AllByRecursion (λ e. IsCalled v (text_of e.0) e.1) es

  made_called : (t i : ℕ) (ns : List Name) (d : TypeDecl) → slice_get v.types t ≡ Some d
      → IsRest d.made i (map text_of ns)
      → AreCalled (made_names t i ns)
  made_called t i [] d at h = tt
  made_called t i (n ∷ ns) d at h = (
    ap (λ (o : Option TypeDecl). made_in o i) at
        ∙ ap word_or_none (rest_head d.made i (text_of n) (map text_of ns) h),
    made_called t (i + 1) ns d at (rest_tail d.made i (text_of n) (map text_of ns) h),
  )

  symbol_called : (names : Names) (s : ℕ) (n : Name) (args : List Name) (to : Option Name) (ds : List Declaration)
      → IsRest v.symbols s (symbols_in names (symbol n args to ∷ ds))
      → IsCalled v (text_of n) (symbol_meaning s (length args) to)
  symbol_called names s n args None ds h = ap name_of (rest_head v.symbols s _ (symbols_in names ds) h)
  symbol_called names s n args (Some to) ds h = ap name_of (rest_head v.symbols s _ (symbols_in names ds) h)

  each_called : (names : Names) (t s : ℕ) (ds : List Declaration) → IsRest v.types t (types_in names ds)
      → IsRest v.symbols s (symbols_in names ds) → AreCalled (declared_names t s ds)
  each_called names t s [] h g = tt
  each_called names t s (type_under n p ∷ ds) h g = (
    ap type_name (rest_head v.types t _ (types_in names ds) h),
    each_called names (t + 1) s ds (rest_tail v.types t _ (types_in names ds) h) g,
  )
  each_called names t s (constructed_type n ns ∷ ds) h g =
      let at = rest_head v.types t _ (types_in names ds) h in (
        ap type_name at,
        all_append (λ (e : Name × Meaning). IsCalled v (text_of e.0) e.1) (made_names t 0 ns)
            (declared_names (t + 1) s ds)
            (made_called t 0 ns _ at (rest_whole (map text_of ns)))
            (each_called names (t + 1) s ds (rest_tail v.types t _ (types_in names ds) h) g),
      )
  each_called names t s (symbol n args to ∷ ds) h g = (
    symbol_called names s n args to ds g,
    each_called names t (s + 1) ds h (rest_tail v.symbols s _ (symbols_in names ds) g),
  )

pub words_called : (v : Vocabulary) (ds : List Declaration) → v.types ≡ types_in (names_of ds) ds
    → v.symbols ≡ symbols_in (names_of ds) ds → (w : Text) → IsCalled v w (meaning_of (names_of ds) w)
words_called v ds types symbols w =
    let names = names_of ds in
    let called = IsCalled v in
    let all : AreSuch called names =
    with_such called number_types (declared_names 0 0 ds) (tt, (tt, tt))
    (each_called v names 0 0 ds
    (subst (λ (ts : List TypeDecl). IsRest v.types 0 ts) types (rest_whole v.types))
    (subst (λ (ss : List Symbol). IsRest v.symbols 0 ss) symbols (rest_whole v.symbols))) in
    such_word called (λ a. tt) names all w

-- ---- where no name is declared twice, each declared name means what it is declared as

module _ (w : Text) where
  still_means : (names : Names) (x : Text × Meaning) (m : Meaning) → meaning_in names w ≡ Some m
      → meaning_in (names ++ x ∷ []) w ≡ Some m
  still_means [] x m h = absurd (none-some m h)
  still_means (e ∷ es) x m h = by (bytes_eq w e.0) (still_means es x m) h
    where
      by : (b : Bool) → (meaning_in es w ≡ Some m → meaning_in (es ++ x ∷ []) w ≡ Some m)
          → (if b then Some e.1 else meaning_in es w) ≡ Some m
          → (if b then Some e.1 else meaning_in (es ++ x ∷ []) w) ≡ Some m
      by true go k = k
      by false go k = go k

  declared_keeps : (b : Bool) (names : Names) (x : Text × Meaning) (m : Meaning) → meaning_in names w ≡ Some m
      → meaning_in (if b then names else names ++ x ∷ []) w ≡ Some m
  declared_keeps true names x m h = h
  declared_keeps false names x m h = still_means names x m h

  all_keep : (names : Names) (es : List (Name × Meaning)) (m : Meaning) → meaning_in names w ≡ Some m
      → meaning_in (with_names names es) w ≡ Some m
  all_keep names [] m h = h
  all_keep names (e ∷ es) m h =
      all_keep (declared names (text_of e.0) e.1) es m
      (declared_keeps (is_some (meaning_in names (text_of e.0))) names (text_of e.0, e.1) m h)

  last_means : (names : Names) (m : Meaning) → meaning_in names w ≡ None
      → meaning_in (names ++ (w, m) ∷ []) w ≡ Some m
  last_means [] m h =
      ap (λ (b : Bool). if b then Some m else None) ((bytes_eq-Decides w w).1 refl)
  last_means (e ∷ es) m h = by (bytes_eq w e.0) (last_means es m) h
    where
      by : (b : Bool) → (meaning_in es w ≡ None → meaning_in (es ++ (w, m) ∷ []) w ≡ Some m)
          → (if b then Some e.1 else meaning_in es w) ≡ None
          → (if b then Some e.1 else meaning_in (es ++ (w, m) ∷ []) w) ≡ Some m
      by true go k = absurd (none-some e.1 (sym k))
      by false go k = go k

  declared_means : (names : Names) (m : Meaning) → meaning_in names w ≡ None
      → meaning_in (declared names w m) w ≡ Some m
  declared_means names m h =
      ap (λ (o : Option Meaning). meaning_in (if is_some o then names else names ++ (w, m) ∷ []) w) h
      ∙ last_means names m h

abbrev Mean : Names → List (Name × Meaning) → Type 0
Mean names es = AllByRecursion (λ e. meaning_in names (text_of e.0) ≡ Some e.1) es

each_means : (names : Names) (es : List (Name × Meaning)) → AreNew (declared_uses names es)
    → Mean (with_names names es) es
each_means names [] new = tt
each_means names (e ∷ es) new =
    let w = text_of e.0 in (
      all_keep w (declared names w e.1) es e.1
          (declared_means w names e.1 (unknown_is (meaning_in names w) new.0)),
      each_means (declared names w e.1) es new.1,
    )

type_means : (names all : Names) (t s : ℕ) (ds : List Declaration) → Mean all (declared_names t s ds)
    → (i : ℕ) (d : TypeDecl) → slice_get (types_in names ds) i ≡ Some d → meaning_in all d.name ≡ Some (a_type (t + i))
type_means names all t s [] h i d e = absurd (none-some d e)
type_means names all t s (type_under n p ∷ ds) h zero d e =
    let same = same_Some _ d e in
    let here : t ≡ t + 0 = omega arith in
    subst (λ (x : TypeDecl). meaning_in all x.name ≡ Some (a_type (t + 0))) same
    (h.0 ∙ ap (λ (k : ℕ). Some (a_type k)) here)
type_means names all t s (type_under n p ∷ ds) h (suc i) d e =
    let there : t + 1 + i ≡ t + suc i = omega arith in
    type_means names all (t + 1) s ds h.1 i d e ∙ ap (λ (k : ℕ). Some (a_type k)) there
type_means names all t s (constructed_type n ns ∷ ds) h zero d e =
    let same = same_Some _ d e in
    let here : t ≡ t + 0 = omega arith in
    subst (λ (x : TypeDecl). meaning_in all x.name ≡ Some (a_type (t + 0))) same
    (h.0 ∙ ap (λ (k : ℕ). Some (a_type k)) here)
type_means names all t s (constructed_type n ns ∷ ds) h (suc i) d e =
    let there : t + 1 + i ≡ t + suc i = omega arith in
    let rest = all_right (λ (x : Name × Meaning). meaning_in all (text_of x.0) ≡ Some x.1) (made_names t 0 ns)
    (declared_names (t + 1) s ds) h.1 in
    type_means names all (t + 1) s ds rest i d e ∙ ap (λ (k : ℕ). Some (a_type k)) there
type_means names all t s (symbol n args to ∷ ds) h i d e = type_means names all t (s + 1) ds h.1 i d e

-- ---- the type with a number

pub found : {X : Type 0} (xs : List X) (i : ℕ) → i < length xs → (x : X) × (slice_get xs i ≡ Some x)
found [] i h = absurd (omega (arith, h))
found (x ∷ xs) zero h = (x, refl)
found (x ∷ xs) (suc i) h = found xs i (omega (arith, h))

-- its name means it again
pub type_again : (v : Vocabulary) (ds : List Declaration) → v.types ≡ types_in (names_of ds) ds
    → length v.types ≤ 256 → AreNew (declared_uses number_types (declared_names 0 0 ds))
    → (t : ℕ) → t < length v.types → type_number (meaning_of (names_of ds) (type_word v t)) ≡ t
type_again v ds types few new t h =
    let names = names_of ds in
    let d = found v.types t h in
    let at : slice_get (types_in names ds) t ≡ Some d.0 =
    subst (λ (ts : List TypeDecl). slice_get ts t ≡ Some d.0) types d.1 in
    let means : meaning_in names d.0.name ≡ Some (a_type (0 + t)) =
    type_means names names 0 0 ds (each_means number_types (declared_names 0 0 ds) new) t d.0 at in
    let small : t < 256 = omega (arith, few, h) in
    let same : 0 + t ≡ t = omega arith in
    ap (λ (o : Option TypeDecl). type_number (meaning_of names (type_name o))) d.1
    ∙ ap (λ (o : Option Meaning). type_number (unwrap_or o undeclared)) means
    ∙ ap (λ (k : ℕ). type_number (a_type k)) same ∙ kept t 256 small

-- ---- a word in a scope

further_says : (w s : Text) (scope : List Text) (o : Option ℕ) (b : Bool)
    → ((i : ℕ) → o ≡ Some i → scope_word scope i ≡ w) → bytes_eq w s ≡ b
    → (i : ℕ) → further o b ≡ Some i → scope_word (s ∷ scope) i ≡ w
further_says w s scope (Some j) b says eq i e =
    let same : j + 1 ≡ i = same_Some (j + 1) i e in
    let next : suc j ≡ i = omega (arith, same) in
    subst (λ (k : ℕ). scope_word (s ∷ scope) k ≡ w) next (says j refl)
further_says w s scope None true says eq i e =
    let same : 0 ≡ i = same_Some 0 i e in
    subst (λ (k : ℕ). scope_word (s ∷ scope) k ≡ w) same (sym ((bytes_eq-Decides w s).0 eq))
further_says w s scope None false says eq i e = absurd (none-some i e)

scope_says : (w : Text) (scope : List Text) (i : ℕ) → last_position w scope ≡ Some i → scope_word scope i ≡ w
scope_says w [] i e = absurd (none-some i e)
scope_says w (s ∷ scope) i e =
    further_says w s scope (last_position w scope) (bytes_eq w s) (scope_says w scope) refl i e

-- ---- a word where it stands

-- its number stands for the word there, and is within its count; a variable has no arguments
abbrev pub IsCalledAt : Vocabulary → List Text → Text → ℕ → Meaning → Type 0
IsCalledAt v scope w n undeclared = ⊤
IsCalledAt v scope w n integers = ⊤
IsCalledAt v scope w n naturals = ⊤
IsCalledAt v scope w n (a_type t) = ⊤
IsCalledAt v scope w n (predicate s j) = (symbol_word v s ≡ w) × (s < 1024)
IsCalledAt v scope w n (function s j) = (symbol_word v s ≡ w) × (s < 1024)
IsCalledAt v scope w n (made t i) = (made_in (slice_get v.types t) i ≡ w) × (t < 256) × (i < 65536)
IsCalledAt v scope w n (variable level) = (scope_word scope level ≡ w) × (n ≡ 0)

module _ (v : Vocabulary) (scope : List Text) (w : Text) (n : ℕ) where
  declared_at : (m : Meaning) → IsMeaning v.types v.symbols 0 m → IsCalled v w m → IsCalledAt v scope w n m
  declared_at undeclared h k = tt
  declared_at integers h k = tt
  declared_at naturals h k = tt
  declared_at (a_type t) h k = tt
  declared_at (predicate s j) h k = (k, h.4)
  declared_at (function s j) h k = (k, h.4)
  declared_at (made t i) h k = (k, h.3, h.4)
  declared_at (variable level) h k = absurd (omega (arith, h))

  called_or : (o : Option ℕ) (m : Meaning) → ((i : ℕ) → o ≡ Some i → (scope_word scope i ≡ w) × (n ≡ 0))
      → IsCalledAt v scope w n m → IsCalledAt v scope w n (variable_or o m)
  called_or None m says h = h
  called_or (Some i) m says h = says i refl

  by_count : (b : Bool) → (n == 0) ≡ b → (i : ℕ) → (if b then last_position w scope else None) ≡ Some i
      → (scope_word scope i ≡ w) × (n ≡ 0)
  by_count true none i e = (scope_says w scope i e, eqb-true n 0 none)
  by_count false some i e = absurd (none-some i e)

pub called_at : (v : Vocabulary) (names : Names) → ((w : Text) → IsMeaning v.types v.symbols 0 (meaning_of names w))
    → ((w : Text) → IsCalled v w (meaning_of names w)) → (scope : List Text) (x : Name) (n : ℕ)
    → IsCalledAt v scope (text_of x) n (meaning_at names scope x n)
called_at v names means called scope x n =
    let w = text_of x in
    called_or v scope w n (if n == 0 then last_position w scope else None) (meaning_of names w)
    (by_count v scope w n (n == 0) refl) (declared_at v scope w n (meaning_of names w) (means w) (called w))
