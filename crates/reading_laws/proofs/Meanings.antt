-- What each word of a vocabulary means is something of the vocabulary.
use Rattle.std.proofs.Common.{◌≡◌, ◌<◌, ◌≤◌, ◌==◌, ◌||◌, ℕ, suc, ◌+◌, Bool, true, false, nat_lt, is_some, List, [], ◌∷◌}
use Rattle.std.proofs.Common.{◌++◌}
use Rattle.std.proofs.Common.{length, map, if◌then◌else◌, Option, None, Some, unwrap_or, slice_get, refl, sym, subst}
use Rattle.std.proofs.Common.{arith}
use Rattle.std.specs.Prelude.{⊤}
use Rattle.std.specs.List.{AllByRecursion}
use Rattle.std.specs.Str.{bytes_eq}
use Rattle.std.proofs.lemmas.Bool.{true≢false}
use Rattle.std.proofs.lemmas.Bool.Decides.{nat_tests}
use Rattle.std.proofs.lemmas.List.{length-map}
use Rattle.std.proofs.lemmas.Option.{slice_get_within}
use Rattle.std.proofs.lemmas.Slice.Eq.{bytes_eq-Decides}
use Rattle.kb_logic.specs.declared.vocabularies.TypeDecl.{TypeDecl}
use Rattle.kb_logic.specs.declared.vocabularies.Symbol.{Symbol}
use Rattle.grammar.specs.Trees.{Name}
use Rattle.stage_definitions.specs.Scopes.{Text, further, last_position}
use Rattle.stage_definitions.specs.Files.{Declaration, type_under, constructed_type, symbol}
use Rattle.stage_definitions.specs.Names.{Meaning, undeclared, integers, naturals, a_type, predicate, function, made}
use Rattle.stage_definitions.specs.Names.{variable, Names, meaning_in, meaning_of, meaning_at, variable_or, declared}
use Rattle.stage_definitions.specs.Names.{number_types, symbol_meaning, made_names, declared_names, with_names}
use Rattle.stage_definitions.specs.Names.{names_of}
use Rattle.stage_definitions.specs.Names.{text_of}
use Rattle.stage_definitions.specs.Uses.{Use, counted, parent_uses, position, position_uses, uses_in_declarations}
use Rattle.stage_definitions.specs.NamesStage.{is_undeclared, is_type, is_number_type, is_no_type, is_unknown, is_wrong}
use Rattle.stage_definitions.specs.NamesStage.{is_unsupported, is_bad_head, is_too_many}
use Rattle.stage_definitions.specs.Numbering.{within_count, type_number, type_number_of, types_in, symbols_in}
use Rattle.reading_laws.proofs.Alls.{all_right, all_append}

-- ---- uses at which no row of the stage of names stands

pub record IsFine (names : Names) (u : Use) : Type 0 where
  pub known : is_unknown names u ≡ false
  pub right : is_wrong names u ≡ false
  pub supported : is_unsupported names u ≡ false
  pub few : is_too_many u ≡ false
  pub plain : is_bad_head names u ≡ false

abbrev pub AreFine : Names → List Use → Type 0
AreFine names us = AllByRecursion (IsFine names) us

-- a word that is not refused as unsupported names no type
pub no_type : (m : Meaning) (b : Bool) → (is_type m || b) ≡ false → is_type m ≡ false
no_type m b h = by (is_type m) h
  where
    by : (a : Bool) → (a || b) ≡ false → a ≡ false
    by true g = g
    by false g = refl

-- ---- meanings by numbers, where so many variables are in scope

abbrev pub IsMeaning : List TypeDecl → List Symbol → ℕ → Meaning → Type 0
IsMeaning types symbols k undeclared = ⊤
IsMeaning types symbols k integers = ⊤
IsMeaning types symbols k naturals = ⊤
IsMeaning types symbols k (a_type t) = (t < length types) × (t < 256)
IsMeaning types symbols k (predicate s n) =
    (d : Symbol) × (slice_get symbols s ≡ Some d) × (d.value ≡ None) × (length d.args ≡ n) × (s < 1024)
IsMeaning types symbols k (function s n) =
    (d : Symbol) × (slice_get symbols s ≡ Some d) × (is_some d.value ≡ true) × (length d.args ≡ n) × (s < 1024)
IsMeaning types symbols k (made t i) =
    (d : TypeDecl) × (slice_get types t ≡ Some d) × (i < length d.made) × (t < 256) × (i < 65536)
IsMeaning types symbols k (variable level) = level < k

-- ---- a list from a place of another on

abbrev pub IsRest : {X : Type 0} → List X → ℕ → List X → Type 0
IsRest {X} whole n xs = (i : ℕ) (x : X) → slice_get xs i ≡ Some x → slice_get whole (n + i) ≡ Some x

pub rest_head : {X : Type 0} (whole : List X) (n : ℕ) (x : X) (xs : List X) → IsRest whole n (x ∷ xs)
    → slice_get whole n
    ≡ Some x
rest_head whole n x xs h = let same : n + 0 ≡ n = omega arith in
    subst (λ (k : ℕ). slice_get whole k ≡ Some x) same (h 0 x refl)

pub rest_tail : {X : Type 0} (whole : List X) (n : ℕ) (x : X) (xs : List X) → IsRest whole n (x ∷ xs)
    → IsRest whole (n + 1) xs
rest_tail whole n x xs h i y e = let same : n + suc i ≡ n + 1 + i = omega arith in
    subst (λ (k : ℕ). slice_get whole k ≡ Some y) same (h (suc i) y e)

pub rest_whole : {X : Type 0} (whole : List X) → IsRest whole 0 whole
rest_whole whole i x e = let same : i ≡ 0 + i = omega arith in subst (λ (k : ℕ). slice_get whole k ≡ Some x) same e

-- ---- the words that are declared

pub at_most : (t n : ℕ) → nat_lt n (t + 1) ≡ false → t < n
at_most t n h = grind (arith, nat_tests)

pub no_more : (t n : ℕ) → nat_lt n t ≡ false → t ≤ n
no_more t n h = grind (arith, nat_tests)

module _ (types : List TypeDecl) (symbols : List Symbol) (k : ℕ) where
  abbrev AreMeanings : List (Name × Meaning) → Type 0
  AreMeanings es = AllByRecursion (λ e. IsMeaning types symbols k e.1) es

  made_mean : (t i : ℕ) (ns : List Name) (d : TypeDecl) → slice_get types t ≡ Some d → t < 256 → i + length ns
      ≡ length d.made → length d.made ≤ 65536
      → AreMeanings (made_names t i ns)
  made_mean t i [] d at small long few = tt
  made_mean t i (n ∷ ns) d at small long few = (
    (d, at, omega (arith, long), small, omega (arith, long, few)),
    made_mean t (i + 1) ns d at small
        (omega (arith, long)) few,
  )

  symbol_means : (names : Names) (s : ℕ) (n : Name) (args : List Name) (to : Option Name) (ds : List Declaration)
      → IsRest symbols s (symbols_in names (symbol n args to ∷ ds)) → s < 1024
      → IsMeaning types symbols k (symbol_meaning s (length args) to)
  symbol_means names s n args None ds h small =
      (_, rest_head symbols s _ (symbols_in names ds) h, refl, length-map args (type_number_of names), small)
  symbol_means names s n args (Some to) ds h small =
      (_, rest_head symbols s _ (symbols_in names ds) h, refl, length-map args (type_number_of names), small)

  each_means : (names : Names) (t s : ℕ) (ds : List Declaration) → AreFine names (uses_in_declarations t s ds)
      → IsRest types t (types_in names ds) → IsRest symbols s (symbols_in names ds)
      → AreMeanings (declared_names t s ds)
  each_means names t s [] fine h g = tt
  each_means names t s (type_under n p ∷ ds) fine h g =
      let small : t < 256 = at_most t 256 fine.0.few in (
        (slice_get_within types t _ (rest_head types t _ (types_in names ds) h), small),
        each_means names (t + 1) s ds (all_right (IsFine names) (counted 256 (t + 1) n ∷ parent_uses p)
            (uses_in_declarations (t + 1) s ds) fine)
            (rest_tail types t _ (types_in names ds) h) g,
      )
  each_means names t s (constructed_type n ns ∷ ds) fine h g =
      let small : t < 256 = at_most t 256 fine.0.few in
      let few : length ns ≤ 65536 = no_more (length ns) 65536 fine.1.0.few in
      let at = rest_head types t _ (types_in names ds) h in
      let long : length (map text_of ns) ≡ length ns = length-map ns text_of in (
        (slice_get_within types t _ at, small),
        all_append (λ (e : Name × Meaning). IsMeaning types symbols k e.1) (made_names t 0 ns)
            (declared_names (t + 1) s ds)
            (made_mean t 0 ns _ at small (omega (arith, long)) (omega (arith, long, few)))
            (each_means names (t + 1) s ds fine.1.1 (rest_tail types t _ (types_in names ds) h) g),
      )
  each_means names t s (symbol n args to ∷ ds) fine h g = (
    symbol_means names s n args to ds g (at_most s 1024 fine.0.few),
    each_means names t (s + 1) ds
        (all_right (IsFine names) (counted 1024 (s + 1) n ∷ counted 8 (length args) n ∷
        (map position args ++ position_uses to)) (uses_in_declarations t (s + 1) ds) fine)
        h (rest_tail symbols s _ (symbols_in names ds) g),
  )

-- ---- what a word means

module _ (P : Text → Meaning → Type 0) where
  abbrev pub AreSuch : Names → Type 0
  AreSuch names = AllByRecursion (λ e. P e.0 e.1) names

  pushed : (b : Bool) (names : Names) (w : Text) (m : Meaning) → AreSuch names → P w m
      → AreSuch (if b then names else names ++ (w, m) ∷ [])
  pushed true names w m h p = h
  pushed false names w m h p = all_append (λ (e : Text × Meaning). P e.0 e.1) names ((w, m) ∷ []) h (p, tt)

  pub with_such : (names : Names) (es : List (Name × Meaning)) → AreSuch names
      → AllByRecursion (λ e. P (text_of e.0) e.1) es → AreSuch (with_names names es)
  with_such names [] h k = h
  with_such names (e ∷ es) h k =
      with_such (declared names (text_of e.0) e.1) es (pushed (is_some (meaning_in names (text_of e.0))) names
      (text_of e.0) e.1 h k.0) k.1

  chosen : (w a : Text) (m : Meaning) (o : Option Meaning) → P a m → P w (unwrap_or o undeclared)
      → (b : Bool) → bytes_eq w a ≡ b → P w (unwrap_or (if b then Some m else o) undeclared)
  chosen w a m o p q true e = subst (λ (x : Text). P x m) (sym ((bytes_eq-Decides w a).0 e)) p
  chosen w a m o p q false e = q

  pub such_word : ((w : Text) → P w undeclared) → (names : Names) → AreSuch names → (w : Text)
      → P w (meaning_of names w)
  such_word p [] h w = p w
  such_word p (e ∷ es) h w = chosen w e.0 e.1 (meaning_in es w) h.0 (such_word p es h.1 w) (bytes_eq w e.0) refl

pub words_mean : (names : Names) (ds : List Declaration) (k : ℕ) → names ≡ names_of ds
    → AreFine names (uses_in_declarations 0 0 ds)
    → (w : Text) → IsMeaning (types_in names ds) (symbols_in names ds) k (meaning_of names w)
words_mean names ds k same fine w =
    let types = types_in names ds in
    let symbols = symbols_in names ds in
    let such = λ (a : Text) (m : Meaning). IsMeaning types symbols k m in
    let all : AreSuch such (names_of ds) =
    with_such such number_types (declared_names 0 0 ds) (tt, (tt, tt))
    (each_means types symbols k names 0 0 ds fine (rest_whole types) (rest_whole symbols)) in
    such_word such (λ a. tt) names (subst (λ (ns : Names). AreSuch such ns) (sym same) all) w

-- ---- a word in a scope

further_low : (o : Option ℕ) (b : Bool) (n : ℕ) → ((i : ℕ) → o ≡ Some i → i < n) → (i : ℕ) → further o b ≡ Some i
    → i < suc n
further_low (Some j) b n low i e =
    let less : j < n = low j refl in
    let same : j + 1 ≡ i = cc in
    omega (arith, less, same)
further_low None true n low i e = let same : 0 ≡ i = cc in omega (arith, same)
further_low None false n low i e = let none : None ≡ Some i = e in absurd (cc)

last_low : (w : Text) (scope : List Text) (i : ℕ) → last_position w scope ≡ Some i → i < length scope
last_low w [] i e = let none : None ≡ Some i = e in absurd (cc)
last_low w (s ∷ scope) i e = further_low (last_position w scope) (bytes_eq w s) (length scope)
    (λ j f. last_low w scope j f) i e

module _ (types : List TypeDecl) (symbols : List Symbol) where
  in_scope_or : (k : ℕ) (o : Option ℕ) (m : Meaning) → ((i : ℕ) → o ≡ Some i → i < k) → IsMeaning types symbols k m
      → IsMeaning types symbols k (variable_or o m)
  in_scope_or k None m low h = h
  in_scope_or k (Some i) m low h = low i refl

  by_count : (b : Bool) (w : Text) (scope : List Text) (i : ℕ) → (if b then last_position w scope else None) ≡ Some i
      → i < length scope
  by_count true w scope i e = last_low w scope i e
  by_count false w scope i e = let none : None ≡ Some i = e in absurd (cc)

  pub word_means : (names : Names) (scope : List Text) (w : Name) (n : ℕ)
      → IsMeaning types symbols (length scope) (meaning_of names (text_of w))
      → IsMeaning types symbols (length scope) (meaning_at names scope w n)
  word_means names scope w n h =
      in_scope_or (length scope) (if n == 0 then last_position (text_of w) scope else None)
      (meaning_of names (text_of w)) (by_count (n == 0) (text_of w) scope) h

-- ---- a type at a position

pub kept : (n count : ℕ) → n < count → within_count count n ≡ n
kept n count lt = let less : nat_lt n count ≡ true = grind (arith, nat_tests) in rw less refl

pub position_is : (types : List TypeDecl) (symbols : List Symbol) (k : ℕ) (m : Meaning) → IsMeaning types symbols k m
    → is_undeclared m ≡ false → is_no_type m ≡ false → is_number_type m ≡ false → type_number m < length types
position_is types symbols k undeclared h known right supported = absurd (true≢false known)
position_is types symbols k integers h known right supported = absurd (true≢false supported)
position_is types symbols k naturals h known right supported = absurd (true≢false supported)
position_is types symbols k (a_type t) h known right supported =
    subst (λ (n : ℕ). n < length types) (sym (kept t 256 h.1)) h.0
position_is types symbols k (predicate s n) h known right supported = absurd (true≢false right)
position_is types symbols k (function s n) h known right supported = absurd (true≢false right)
position_is types symbols k (made t i) h known right supported = absurd (true≢false right)
position_is types symbols k (variable level) h known right supported = absurd (true≢false right)
