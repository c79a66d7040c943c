-- A type has one list, where no entry is refused.
use Rattle.std.proofs.Common.{◌≡◌, ℕ, suc, ◌+◌, Bool, true, false, ◌&&◌, ◌||◌, List, [], ◌∷◌, ◌++◌, map, filter, cond}
use Rattle.std.proofs.Common.{if◌then◌else◌, Option, None, Some, slice_get, refl, sym, ap, subst, ◌∙◌, arith, ◌⊎◌, inl}
use Rattle.std.proofs.Common.{inr, Contains}
use Rattle.std.specs.List.{list_any, enumerate_from, flat_map}
use Rattle.std.specs.Str.{bytes_eq}
use Rattle.std.proofs.lemmas.Bool.{true≢false, false_from_ne_true, and_parts, and_from, eqb-true, cases_Bool}
use Rattle.std.proofs.lemmas.Slice.Eq.{bytes_eq-Decides}
use Rattle.std.proofs.lemmas.List.Elements.{Contains-append_left, Contains-append_right, Contains-push_cases}
use Rattle.std.proofs.lemmas.List.Folds.{list_any-append}
use Rattle.kb_text.specs.declared.fault.K.TheVariants as k
use Rattle.kb_logic.specs.declared.vocabularies.TypeDecl.{TypeDecl}
use Rattle.kb_logic.specs.declared.vocabularies.Symbol.{Symbol}
use Rattle.kb_logic.specs.declared.vocabularies.Vocabulary.{Vocabulary}
use Rattle.grammar.specs.Trees.{Name}
use Rattle.grammar.specs.BlockTrees as raw
use Rattle.stage_definitions.specs.Scopes.{Text}
use Rattle.stage_definitions.specs.Names.{text_of}
use Rattle.stage_definitions.specs.DataEntries.{Subject, nothing_named, an_element, a_type, a_symbol, named_in_types}
use Rattle.stage_definitions.specs.DataEntries.{named_in_symbols, named_in_elements, subject_of, Said, said, Spot}
use Rattle.stage_definitions.specs.DataEntries.{spots_of}
use Rattle.stage_definitions.specs.DataDomains.{names_type, is_list_of}
use Rattle.stage_definitions.specs.DataStage.{DataUse, entry, mark, row, spot, mark_uses, uses_of_entry}
use Rattle.stage_definitions.specs.DataStage.{uses_of_entries}
use Rattle.stage_definitions.specs.DataStage.{is_again, same_marks, is_unsupported}
use Rattle.reading_laws.proofs.Members.{here, there, first_or_later, some_item, item_some, of_image, image_in}
use Rattle.reading_laws.proofs.Rows.{AreFine, redeclared, unsupported}

-- ---- what an entry's word names

named_by : (b : Bool) (x y z : Subject) → (if b then x else y) ≡ z → ((b ≡ true) × (x ≡ z)) ⊎ (y ≡ z)
named_by true x y z h = inl (refl, h)
named_by false x y z h = inr h

-- a word that names a type is its name
type_found : (w : Text) (i : ℕ) (ds : List TypeDecl) (other : Subject) (t : ℕ) (d : TypeDecl)
    → named_in_types w (enumerate_from i ds) other ≡ a_type t d
    → ((j : ℕ) × (i + j ≡ t) × (slice_get ds j ≡ Some d) × (bytes_eq w d.name ≡ true)) ⊎ (other ≡ a_type t d)
type_found w i [] other t d h = inr h
type_found w i (c ∷ cs) other t d h = elim (named_by (bytes_eq w c.name) (a_type i c)
    (named_in_types w (enumerate_from (i + 1) cs) other) (a_type t d) h) [
      | inl e ↦
          let number : i ≡ t = cc in
          let type : c ≡ d = cc in
          inl (0, omega (arith, number), ap Some type, subst (λ (x : TypeDecl). bytes_eq w x.name ≡ true) type e.0)
      | inr e ↦ elim (type_found w (i + 1) cs other t d e) [
        | inl f ↦ let number = f.1 in inl (suc f.0, omega (arith, number), f.2, f.3)
        | inr f ↦ inr f
      ]
    ]

no_symbol : (w : Text) (ss : List (ℕ × Symbol)) (other : Subject) (t : ℕ) (d : TypeDecl) → named_in_symbols w ss other
    ≡ a_type t d → other ≡ a_type t d
no_symbol w [] other t d h = h
no_symbol w (s ∷ ss) other t d h = elim (named_by (bytes_eq w s.1.name) (a_symbol s.0 s.1) (named_in_symbols w ss other)
    (a_type t d) h) [
      | inl e ↦ let n = e.1 in absurd (cc)
      | inr e ↦ no_symbol w ss other t d e
    ]

no_element : (w : Text) (ns : List Text) (t : ℕ) (d : TypeDecl) → named_in_elements w ns ≡ a_type t d → ⊥
no_element w [] t d h = cc
no_element w (n ∷ ns) t d h = elim (named_by (bytes_eq w n) an_element (named_in_elements w ns) (a_type t d) h) [
  | inl e ↦ let m = e.1 in cc
  | inr e ↦ no_element w ns t d e
]

pub type_of_word : (v : Vocabulary) (w : Text) (t : ℕ) (d : TypeDecl) → subject_of v w ≡ a_type t d
    → (slice_get v.types t ≡ Some d) × (bytes_eq w d.name ≡ true)
type_of_word v w t d h =
    let others = named_in_symbols w (enumerate_from 0 v.symbols)
    (named_in_elements w (flat_map (λ (c : TypeDecl). c.made) v.types)) in
    elim (type_found w 0 v.types others t d h) [
      | inl f ↦ let number : f.0 ≡ t = from_zero f.0 t f.1 in (
        subst (λ n. slice_get v.types n ≡ Some d) number f.2,
        f.3,
      )
      | inr f ↦ absurd (no_element w (flat_map (λ (c : TypeDecl). c.made) v.types) t d
          (no_symbol w (enumerate_from 0 v.symbols) (named_in_elements w (flat_map (λ (c : TypeDecl). c.made) v.types))
          t d f))
    ]
  where
    from_zero : (j n : ℕ) → 0 + j ≡ n → j ≡ n
    from_zero j n e = omega (arith, e)

-- the entry says what its word names
abbrev pub IsSaid : Vocabulary → Said → Type 0
IsSaid v e = e.subject ≡ subject_of v (text_of e.word)

pub is_said : (v : Vocabulary) (xs : List raw.Entry) (e : Said) → Contains (map (said v) xs) e → IsSaid v e
is_said v xs e c = let found = of_image (said v) xs e c in subst (IsSaid v) found.2 (by found.0)
  where
    by : (x : raw.Entry) → IsSaid v (said v x)
    by (raw.entry word m p value) = refl

list_subject : (t : ℕ) (x : Subject) → names_type t x ≡ true → (d : TypeDecl) × (x ≡ a_type t d)
list_subject t nothing_named h = absurd (true≢false (sym h))
list_subject t an_element h = absurd (true≢false (sym h))
list_subject t (a_type u d) h = let same : u ≡ t = eqb-true u t h in (d, ap (λ n. a_type n d) same)
list_subject t (a_symbol s d) h = absurd (true≢false (sym h))

pub subject_of_list : (t : ℕ) (e : Said) → is_list_of t e ≡ true → (d : TypeDecl) × (e.subject ≡ a_type t d)
subject_of_list t e h = list_subject t e.subject (and_parts (names_type t e.subject) e.fits h).0

-- ---- the uses of an entry

pub in_entries : (u : DataUse) (before es : List Said) (e : Said) → Contains es e
    → ((b : List Said) → Contains (uses_of_entry b e) u) → Contains (uses_of_entries before es) u
in_entries u before [] e c h = let l = c.1 in absurd (omega arith)
in_entries u before (d ∷ ds) e c h = elim (first_or_later d e ds c) [
  | inl s ↦ Contains-append_left (uses_of_entry before d) (uses_of_entries (before ++ d ∷ []) ds) u
      (subst (λ x. Contains (uses_of_entry before x) u) (sym s) (h before))
  | inr s ↦ Contains-append_right (uses_of_entry before d) (uses_of_entries (before ++ d ∷ []) ds) u
      (in_entries u (before ++ d ∷ []) ds e s h)
]

pub entry_in : (before es : List Said) (e : Said) → Contains es e
    → (b : List Said) × Contains (uses_of_entries before es) (entry b e)
entry_in before [] e c = let l = c.1 in absurd (omega arith)
entry_in before (d ∷ ds) e c = elim (first_or_later d e ds c) [
  | inl s ↦
      let first : Contains (uses_of_entry before e) (entry before e) =
      here (entry before e) (mark_uses e.subject e.mark ++ (map (row e.subject) e.rows ++ map spot (spots_of e))) in (
        before,
        Contains-append_left (uses_of_entry before d) (uses_of_entries (before ++ d ∷ []) ds) (entry before e)
            (subst (λ x. Contains (uses_of_entry before x) (entry before e)) (sym s) first),
      )
  | inr s ↦ let rest = entry_in (before ++ d ∷ []) ds e s in (
    rest.0,
    Contains-append_right (uses_of_entry before d)
        (uses_of_entries (before ++ d ∷ []) ds) (entry rest.0 e) rest.1,
  )
]

pub spot_in : (before es : List Said) (e : Said) (s : Spot) → Contains es e → Contains (spots_of e) s
    → Contains (uses_of_entries before es) (spot s)
spot_in before es e s c d =
    in_entries (spot s) before es e c
    (λ b. there (entry b e) (spot s) (mark_uses e.subject e.mark ++
    (map (row e.subject) e.rows ++ map spot (spots_of e)))
    (Contains-append_right (mark_uses e.subject e.mark) (map (row e.subject) e.rows ++ map spot (spots_of e)) (spot s)
    (Contains-append_right (map (row e.subject) e.rows) (map spot (spots_of e)) (spot s)
    (image_in spot (spots_of e) s d))))

mark_in : (before es : List Said) (e : Said) (m : Name) → Contains es e → e.mark ≡ Some m
    → Contains (uses_of_entries before es) (mark e.subject m)
mark_in before es e m c h =
    in_entries (mark e.subject m) before es e c
    (λ b. there (entry b e) (mark e.subject m) (mark_uses e.subject e.mark ++
    (map (row e.subject) e.rows ++ map spot (spots_of e)))
    (Contains-append_left (mark_uses e.subject e.mark) (map (row e.subject) e.rows ++ map spot (spots_of e))
    (mark e.subject m)
    (subst (λ o. Contains (mark_uses e.subject o) (mark e.subject m)) (sym h) (here (mark e.subject m) []))))

-- ---- marks and second lists

no_mark : (x : Subject) (m : Name) (t : ℕ) (d : TypeDecl) → x ≡ a_type t d → is_unsupported (mark x m) ≡ true
no_mark x m t d h = subst (λ y. is_unsupported (mark y m) ≡ true) (sym h) refl

-- a list of a type has no mark
unmarked : (types : List TypeDecl) (all before es : List Said) → AreFine types all (uses_of_entries before es)
    → (t : ℕ) (e : Said) → Contains es e → is_list_of t e ≡ true → e.mark ≡ None
unmarked types all before es fine t e c h = by e.mark refl
  where
    by : (o : Option Name) → e.mark ≡ o → o ≡ None
    by None f = refl
    by (Some m) f =
        let x = subject_of_list t e h in
        absurd (true≢false (sym (no_mark e.subject m t x.0 x.1) ∙ fine (mark e.subject m) (mark_in before es e m c f)
        k.Unsupported unsupported))

same_word : (v : Vocabulary) (t : ℕ) (q e : Said) → IsSaid v q → IsSaid v e → is_list_of t q ≡ true
    → is_list_of t e ≡ true → bytes_eq (text_of q.word) (text_of e.word) ≡ true
same_word v t q e sq se hq he =
    let xq = subject_of_list t q hq in
    let xe = subject_of_list t e he in
    let tq = type_of_word v (text_of q.word) t xq.0 (sym sq ∙ xq.1) in
    let te = type_of_word v (text_of e.word) t xe.0 (sym se ∙ xe.1) in
    let type : xq.0 ≡ xe.0 = one_type xq.0 xe.0 (sym tq.0 ∙ te.0) in
    let first : text_of q.word ≡ xq.0.name = (bytes_eq-Decides (text_of q.word) xq.0.name).0 tq.1 in
    let second : text_of e.word ≡ xe.0.name = (bytes_eq-Decides (text_of e.word) xe.0.name).0 te.1 in
    (bytes_eq-Decides (text_of q.word) (text_of e.word)).1 (first ∙ ap (λ (x : TypeDecl). x.name) type ∙ sym second)
  where
    one_type : (x y : TypeDecl) → Some x ≡ Some y → x ≡ y
    one_type x y h = cc

abbrev AreLists : Vocabulary → ℕ → List Said → Type 0
AreLists v t es = (e : Said) → Contains es e → IsSaid v e × (is_list_of t e ≡ true → e.mark ≡ None)

-- an entry that is a list after a list of the same type is a second one
second_list : (v : Vocabulary) (t : ℕ) (before : List Said) (e : Said) → AreLists v t before → IsSaid v e
    → list_any (is_list_of t) before ≡ true → is_list_of t e ≡ true → is_again (entry before e) ≡ true
second_list v t before e lists se h he =
    let q = some_item (is_list_of t) before h in
    let qs = lists q.0 q.1 in
    item_some (λ q. bytes_eq (text_of q.word) (text_of e.word) && same_marks q.mark e.mark) before q.0 q.1
    (and_from (bytes_eq (text_of q.0.word) (text_of e.word)) (same_marks q.0.mark e.mark)
    (same_word v t q.0 e qs.0 se q.2 he) (ap (λ o. same_marks o e.mark) (qs.1 q.2)))

or_left : (a b : Bool) → a ≡ true → (a || b) ≡ true
or_left a b h = ap (λ x. x || b) h

more_lists : (v : Vocabulary) (t : ℕ) (before : List Said) (e : Said) → AreLists v t before
    → IsSaid v e × (is_list_of t e ≡ true → e.mark ≡ None) → AreLists v t (before ++ e ∷ [])
more_lists v t before e lists one d c = elim (last_or before e d c) [
  | inl h ↦ lists d h
  | inr h ↦ subst (λ x. IsSaid v x × (is_list_of t x ≡ true → x.mark ≡ None)) h one
]
  where
    last_or : (xs : List Said) (y x : Said) → Contains (xs ++ y ∷ []) x → Contains xs x ⊎ (y ≡ x)
    last_or xs y x h = Contains-push_cases xs y x h

abbrev AreFresh : List DataUse → Type 0
AreFresh us = (u : DataUse) → Contains us u → is_again u ≡ false

no_more : (v : Vocabulary) (t : ℕ) (before es : List Said) → AreLists v t before → AreLists v t es
    → AreFresh (uses_of_entries before es) → list_any (is_list_of t) before ≡ true → filter (is_list_of t) es ≡ []
no_more v t before [] lists others fresh h = refl
no_more v t before (e ∷ es) lists others fresh h =
    let one = others e (here e es) in
    let none : is_list_of t e ≡ false = false_from_ne_true (is_list_of t e)
    (λ he. true≢false (sym (second_list v t before e lists one.0 h he)
    ∙ fresh (entry before e) (Contains-append_left (uses_of_entry before e) (uses_of_entries (before ++ e ∷ []) es)
    (entry before e) (here (entry before e) (mark_uses e.subject e.mark ++
    (map (row e.subject) e.rows ++ map spot (spots_of e))))))) in
    ap (λ b. cond b (e ∷ filter (is_list_of t) es) (filter (is_list_of t) es)) none
    ∙ no_more v t (before ++ e ∷ []) es (more_lists v t before e lists one) (λ d c. others d (there e d es c))
    (λ u c. fresh u (Contains-append_right (uses_of_entry before e) (uses_of_entries (before ++ e ∷ []) es) u c))
    (any_left (is_list_of t) before (e ∷ []) h)
  where
    any_left : (test : Said → Bool) (xs ys : List Said) → list_any test xs ≡ true → list_any test (xs ++ ys) ≡ true
    any_left test xs ys k = list_any-append test xs ys ∙ or_left (list_any test xs) (list_any test ys) k

abbrev pub OneList : ℕ → List Said → Type 0
OneList t es = (filter (is_list_of t) es ≡ []) ⊎ ((e : Said) × Contains es e × (is_list_of t e ≡ true)
    × (filter (is_list_of t) es ≡ e ∷ []))

one_list_by : (v : Vocabulary) (t : ℕ) (before es : List Said) → AreLists v t before → AreLists v t es
    → AreFresh (uses_of_entries before es) → OneList t es
one_list_by v t before [] lists others fresh = inl refl
one_list_by v t before (e ∷ es) lists others fresh =
    let later = before ++ e ∷ [] in
    let rest_lists : AreLists v t es = λ d c. others d (there e d es c) in
    let rest_fresh : AreFresh (uses_of_entries later es) = λ u c.
    fresh u (Contains-append_right (uses_of_entry before e) (uses_of_entries later es) u c) in
    let so_far : AreLists v t later = more_lists v t before e lists (others e (here e es)) in
    elim (cases_Bool (is_list_of t e)) [
      | inl h ↦
          let here_list : list_any (is_list_of t) later ≡ true = list_any-append (is_list_of t) before (e ∷ [])
          ∙ ap (λ b. list_any (is_list_of t) before || (b || false)) h
          ∙ or_right (list_any (is_list_of t) before) in
          inr (
            e,
            here e es,
            h,
            ap (λ b. cond b (e ∷ filter (is_list_of t) es) (filter (is_list_of t) es)) h
                ∙ ap (λ xs. e ∷ xs) (no_more v t later es so_far rest_lists rest_fresh here_list),
          )
      | inr h ↦
          let skip : filter (is_list_of t) (e ∷ es) ≡ filter (is_list_of t) es =
          ap (λ b. cond b (e ∷ filter (is_list_of t) es) (filter (is_list_of t) es)) h in
          elim (one_list_by v t later es so_far rest_lists rest_fresh) [
            | inl r ↦ inl (skip ∙ r)
            | inr r ↦ inr (r.0, there e r.0 es r.1, r.2, skip ∙ r.3)
          ]
    ]
  where
    or_right : (a : Bool) → (a || (true || false)) ≡ true
    or_right true = refl
    or_right false = refl

-- of each type one entry at most is a list
pub one_list : (v : Vocabulary) (all : List Said) (xs : List raw.Entry)
    → AreFine v.types all (uses_of_entries [] (map (said v) xs)) → (t : ℕ) → OneList t (map (said v) xs)
one_list v all xs fine t =
    let es = map (said v) xs in
    one_list_by v t [] es (λ e c. let l = c.1 in absurd (omega arith))
    (λ e c. (is_said v xs e c, λ h. unmarked v.types all [] es fine t e c h))
    (λ u c. fine u c k.Redeclared redeclared)
