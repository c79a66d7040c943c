-- Where no name is declared twice, all names of a vocabulary differ.
use Rattle.std.proofs.Common.{◌≡◌, ◌⊎◌, inl, inr, ℕ, ◌+◌, Bool, true, false, is_some, List, [], ◌∷◌, ◌++◌, map}
use Rattle.std.proofs.Common.{if◌then◌else◌, Option, None, Some, refl, sym, ap, subst, ◌∙◌, Contains, append_assoc}
use Rattle.std.specs.Prelude.{flat_map}
use Rattle.std.specs.List.{AllByRecursion}
use Rattle.std.specs.Str.{bytes_eq}
use Rattle.std.proofs.lemmas.Bool.{true≢false}
use Rattle.std.proofs.lemmas.List.{map-append}
use Rattle.std.proofs.lemmas.List.Elements.{Contains-append_left, Contains-append_right, Contains-append_cases}
use Rattle.std.proofs.lemmas.Slice.Eq.{bytes_eq-Decides}
use Rattle.kb_logic.specs.declared.vocabularies.TypeDecl.{TypeDecl}
use Rattle.kb_logic.specs.declared.vocabularies.Symbol.{Symbol}
use Rattle.kb_logic.specs.Structures.{IsDistinct}
use Rattle.kb_logic.proofs.Members.{first, later, none_in, member_cases}
use Rattle.grammar.specs.Trees.{Name}
use Rattle.stage_definitions.specs.Scopes.{Text}
use Rattle.stage_definitions.specs.Files.{Declaration, type_under, constructed_type, symbol}
use Rattle.stage_definitions.specs.Names.{Meaning, Names, meaning_in, declared, made_names, declared_names, text_of}
use Rattle.stage_definitions.specs.NamesStage.{is_redeclared}
use Rattle.stage_definitions.specs.Uses.{Use, declared_uses}
use Rattle.stage_definitions.specs.Numbering.{types_in, symbols_in}

-- ---- a name more, or some, in the midst of others

module _ {X : Type 0} where
  one_within : (xs ys : List X) (w z : X) → Contains (xs ++ w ∷ ys) z → (w ≡ z) ⊎ Contains (xs ++ ys) z
  one_within xs ys w z c = elim (Contains-append_cases xs (w ∷ ys) z c) [
    | inl h ↦ inr (Contains-append_left xs ys z h)
    | inr h ↦ elim (member_cases w z ys h) [ inl e ↦ inl e | inr k ↦ inr (Contains-append_right xs ys z k) ]
  ]

  one_more : (xs ys : List X) (w : X) → IsDistinct (xs ++ ys) → (Contains (xs ++ ys) w → ⊥) → IsDistinct (xs ++ w ∷ ys)
  one_more [] ys w h new = (new, h)
  one_more (x ∷ xs) ys w h new = (
    λ c. elim (one_within xs ys w x c) [
      | inl e ↦ new (subst (λ (y : X). Contains (y ∷ (xs ++ ys)) w) e (first w (xs ++ ys)))
      | inr k ↦ h.0 k
    ],
    one_more xs ys w h.1 (λ c. new (later x w (xs ++ ys) c)),
  )

  some_within : (xs ns ys : List X) (z : X) → Contains (xs ++ (ns ++ ys)) z → Contains ns z ⊎ Contains (xs ++ ys) z
  some_within xs ns ys z c = elim (Contains-append_cases xs (ns ++ ys) z c) [
    | inl h ↦ inr (Contains-append_left xs ys z h)
    | inr h ↦ elim (Contains-append_cases ns ys z h) [ inl k ↦ inl k | inr k ↦ inr (Contains-append_right xs ys z k) ]
  ]

  some_more : (xs ns ys : List X) → IsDistinct ns → IsDistinct (xs ++ ys)
      → ((z : X) → Contains ns z → Contains (xs ++ ys) z → ⊥)
      → IsDistinct (xs ++ (ns ++ ys))
  some_more xs [] ys d h apart = h
  some_more xs (n ∷ ns) ys d h apart =
      one_more xs (ns ++ ys) n (some_more xs ns ys d.1 h (λ z c k. apart z (later n z ns c) k))
      (λ c. elim (some_within xs ns ys n c) [ inl k ↦ d.0 k | inr k ↦ apart n (first n ns) k ])

  front_distinct : (xs ys : List X) → IsDistinct (xs ++ ys) → IsDistinct xs
  front_distinct [] ys h = tt
  front_distinct (x ∷ xs) ys h = (λ c. h.0 (Contains-append_left xs ys x c), front_distinct xs ys h.1)

  back_distinct : (xs ys : List X) → IsDistinct (xs ++ ys) → IsDistinct ys
  back_distinct [] ys h = h
  back_distinct (x ∷ xs) ys h = back_distinct xs ys h.1

  both_apart : (xs ys : List X) → IsDistinct (xs ++ ys) → (z : X) → Contains xs z → Contains ys z → ⊥
  both_apart [] ys h z c k = none_in z c
  both_apart (x ∷ xs) ys h z c k = elim (member_cases x z xs c) [
    | inl e ↦ h.0 (Contains-append_right xs ys x (subst (λ (y : X). Contains ys y) (sym e) k))
    | inr d ↦ both_apart xs ys h.1 z d k
  ]

-- ---- names in the order of the text

abbrev pub texts : List (Name × Meaning) → List Text
texts es = map (λ e. text_of e.0) es

abbrev pub AreNew : List Use → Type 0
AreNew us = AllByRecursion (λ u. is_redeclared u ≡ false) us

pub unknown_is : (o : Option Meaning) → is_some o ≡ false → o ≡ None
unknown_is None h = refl
unknown_is (Some m) h = absurd (true≢false h)

new_by : (b c : Bool) (m : Meaning) (o : Option Meaning) → (if b then Some m else o) ≡ None → (b ≡ false) × (o ≡ None)
new_by true c m o h = let n : Some m ≡ None = h in absurd (cc)
new_by false c m o h = (refl, h)

still_new : (names : Names) (a : Text) (m : Meaning) (w : Text) → meaning_in (names ++ (a, m) ∷ []) w ≡ None
    → (meaning_in names w ≡ None) × (bytes_eq w a ≡ false)
still_new [] a m w h = (refl, (new_by (bytes_eq w a) true m None h).0)
still_new (e ∷ es) a m w h =
    let parts = new_by (bytes_eq w e.0) true e.1 (meaning_in (es ++ (a, m) ∷ []) w) h in
    let rest = still_new es a m w parts.1 in
    (ap (λ b. if b then Some e.1 else meaning_in es w) parts.0 ∙ rest.0, rest.1)

pub texts_differ : (names : Names) (es : List (Name × Meaning)) → AreNew (declared_uses names es)
    → IsDistinct (texts es) × ((w : Text) → Contains (texts es) w → meaning_in names w ≡ None)
texts_differ names [] new = (tt, λ w c. absurd (none_in w c))
texts_differ names (e ∷ es) new =
    let a = text_of e.0 in
    let unknown : meaning_in names a ≡ None = unknown_is (meaning_in names a) new.0 in
    let longer : declared names a e.1 ≡ names ++ (a, e.1) ∷ [] =
    ap (λ (o : Option Meaning). if is_some o then names else names ++ (a, e.1) ∷ []) unknown in
    let rest = texts_differ (declared names a e.1) es new.1 in
    let still : (w : Text) → Contains (texts es) w → (meaning_in names w ≡ None) × (bytes_eq w a ≡ false) =
    λ w c. still_new names a e.1 w (subst (λ (ns : Names). meaning_in ns w ≡ None) longer (rest.1 w c)) in (
      (λ c. true≢false (sym ((bytes_eq-Decides a a).1 refl) ∙ (still a c).1), rest.0),
      λ w c. elim (member_cases a w (texts es) c) [
        | inl same ↦ subst (λ (x : Text). meaning_in names x ≡ None) same unknown
        | inr k ↦ (still w k).0
      ],
    )

-- ---- names of types, of symbols and of elements

abbrev pub names_among : List TypeDecl → List Symbol → List Text
names_among types symbols = map (λ (d : TypeDecl). d.name) types ++ map (λ (s : Symbol). s.name) symbols
    ++ flat_map (λ (d : TypeDecl). d.made) types

made_texts : (t i : ℕ) (ns : List Name) → texts (made_names t i ns) ≡ map text_of ns
made_texts t i [] = refl
made_texts t i (n ∷ ns) = ap (λ (ws : List Text). text_of n ∷ ws) (made_texts t (i + 1) ns)

module _ (names : Names) where
  abbrev declared_in : List Declaration → List Text
  declared_in ds = names_among (types_in names ds) (symbols_in names ds)

  abbrev IsApart : List Declaration → List Text → Type 0
  IsApart ds ws = IsDistinct (declared_in ds) × ((w : Text) → Contains (declared_in ds) w → Contains ws w)

  one_type : (ds : List Declaration) (n : Text) (ws : List Text) → (Contains ws n → ⊥) → IsApart ds ws
      → IsDistinct (n ∷ declared_in ds) × ((w : Text) → Contains (n ∷ declared_in ds) w → Contains (n ∷ ws) w)
  one_type ds n ws new h = (
    (λ c. new (h.1 n c), h.0),
    λ w c. elim (member_cases n w (declared_in ds) c) [
      | inl e ↦ subst (λ (x : Text). Contains (x ∷ ws) w) (sym e) (first w ws)
      | inr k ↦ later n w ws (h.1 w k)
    ],
  )

  one_symbol : (types : List Text) (symbols elements : List Text) (n : Text) (ws : List Text) → (Contains ws n → ⊥)
      → IsDistinct (types ++ symbols ++ elements) → ((w : Text) → Contains (types ++ symbols ++ elements) w
      → Contains ws w)
      → IsDistinct (types ++ (n ∷ symbols) ++ elements) × ((w : Text) → Contains (types ++ (n ∷ symbols) ++ elements) w
      → Contains (n ∷ ws) w)
  one_symbol types symbols elements n ws new h among =
      let old = append_assoc types symbols elements in
      let longer = append_assoc types (n ∷ symbols) elements in
      let last = symbols ++ elements in (
        subst (λ (xs : List Text). IsDistinct xs) (sym longer)
            (one_more types last n (subst (λ (xs : List Text). IsDistinct xs) old h)
            (λ c. new (among n (subst (λ (xs : List Text). Contains xs n) (sym old) c)))),
        λ w c. elim (one_within types last n w (subst (λ (xs : List Text). Contains xs w) longer c)) [
          | inl e ↦ subst (λ (x : Text). Contains (x ∷ ws) w) (sym e) (first w ws)
          | inr k ↦ later n w ws (among w (subst (λ (xs : List Text). Contains xs w) (sym old) k))
        ],
      )

  some_elements : (front elements made ws : List Text) → IsDistinct (made ++ ws) → IsDistinct (front ++ elements)
      → ((w : Text) → Contains (front ++ elements) w → Contains ws w)
      → IsDistinct (front ++ (made ++ elements)) × ((w : Text) → Contains (front ++ (made ++ elements)) w
      → Contains (made ++ ws) w)
  some_elements front elements made ws d h among = (
    some_more front made elements (front_distinct made ws d) h (λ z c k. both_apart made ws d z c (among z k)),
    λ w c. elim (some_within front made elements w c) [
      | inl k ↦ Contains-append_left made ws w k
      | inr k ↦ Contains-append_right made ws w (among w k)
    ],
  )

  pub names_apart : (t s : ℕ) (ds : List Declaration) → IsDistinct (texts (declared_names t s ds))
      → IsApart ds (texts (declared_names t s ds))
  names_apart t s [] d = (tt, λ w c. c)
  names_apart t s (type_under n p ∷ ds) d =
      one_type ds (text_of n) (texts (declared_names (t + 1) s ds)) d.0 (names_apart (t + 1) s ds d.1)
  names_apart t s (constructed_type n ns ∷ ds) d =
      let ws = texts (declared_names (t + 1) s ds) in
      let types = map (λ (e : TypeDecl). e.name) (types_in names ds) in
      let symbols = map (λ (e : Symbol). e.name) (symbols_in names ds) in
      let elements = flat_map (λ (e : TypeDecl). e.made) (types_in names ds) in
      let made = map text_of ns in
      let spelt : texts (made_names t 0 ns ++ declared_names (t + 1) s ds) ≡ made ++ ws =
      map-append (λ (e : Name × Meaning). text_of e.0) (made_names t 0 ns) (declared_names (t + 1) s ds)
      ∙ ap (λ (xs : List Text). xs ++ ws) (made_texts t 0 ns) in
      let all : IsDistinct (made ++ ws) = subst (λ (xs : List Text). IsDistinct xs) spelt d.1 in
      let rest = names_apart (t + 1) s ds (back_distinct made ws all) in
      let inner = some_elements (types ++ symbols) elements made ws all rest.0 rest.1 in (
        (λ c. d.0 (subst (λ (xs : List Text). Contains xs (text_of n)) (sym spelt) (inner.1 (text_of n) c)), inner.0),
        λ w c. elim (member_cases (text_of n) w (types ++ symbols ++ (made ++ elements)) c) [
          | inl e ↦ subst (λ (x : Text). Contains (x ∷ texts (made_names t 0 ns ++ declared_names (t + 1) s ds)) w)
              (sym e) (first w (texts (made_names t 0 ns ++ declared_names (t + 1) s ds)))
          | inr k ↦ later (text_of n) w (texts (made_names t 0 ns ++ declared_names (t + 1) s ds))
              (subst (λ (xs : List Text). Contains xs w) (sym spelt) (inner.1 w k))
        ],
      )
  names_apart t s (symbol n args to ∷ ds) d =
      let rest = names_apart t (s + 1) ds d.1 in
      one_symbol (map (λ (e : TypeDecl). e.name) (types_in names ds))
      (map (λ (e : Symbol). e.name) (symbols_in names ds)) (flat_map (λ (e : TypeDecl). e.made) (types_in names ds))
      (text_of n) (texts (declared_names t (s + 1) ds)) d.0 rest.0 rest.1
