-- What is noted, item by item.
use Rattle.std.proofs.Common.{◌≡◌, ◌<◌, ◌≤◌, ◌+◌, ℕ, zero, suc, Bool, false, ◌&&◌, ◌==◌, ◌-◌, leb, List, [], ◌∷◌, ◌++◌}
use Rattle.std.proofs.Common.{Option, None, Some, drop, fold, get_or, length, map, slice_get, refl, sym, ap, ◌∙◌}
use Rattle.std.proofs.Common.{append-nil, arith}
use Rattle.std.specs.Prelude.{zip, option_to_list}
use Rattle.std.specs.List.{enumerate_from, filter_map, flat_map, list_any}
use Rattle.std.proofs.lemmas.List.Elements.{filter_map-append}
use Rattle.stage_definitions.specs.IntegerArguments.{Argument, arguments_at, with_place}
use Rattle.stage_definitions.specs.DataStage.{DataUse, argument, declared, type_use}
use Rattle.data_refusals.specs.PlacedViews.{placed_view, placed_views}
use Rattle.data_refusals.specs.declared.placed.Placed.{Placed}
use Rattle.std.specs.Option.{option_map}
use Rattle.std.proofs.lemmas.Grind.{fold-append}
use Rattle.std.proofs.lemmas.List.{drop_all, drop_more, length-drop, length-map, map-append}
use Rattle.std.proofs.lemmas.Bool.Decides.{nat_tests}
use Rattle.std.proofs.lemmas.Option.{slice_get-map}
use Rattle.kb_text.specs.declared.fault.KbFault.{KbFault}
use Rattle.kb_logic.specs.declared.elements.Elem.{Elem}
use Rattle.kb_logic.specs.declared.elements.Elem.TheVariants.{Num}
use Rattle.kb_logic.specs.declared.vocabularies.TypeDecl.{TypeDecl}
use Rattle.std.proofs.Common.{ℤ}
use Rattle.kb_logic.specs.Structures.{domain_at}
use Rattle.stage_definitions.specs.Elements.{is_among, same_element}
use Rattle.stage_definitions.specs.DataEntries.{Said}
use Rattle.stage_definitions.specs.DataDomains.{cells_of, domains_of}
use Rattle.stage_definitions.specs.DataFacts.{is_over}
use Rattle.structure_entries.specs.EntryViews.{elem_view}
use Rattle.structure_entries.specs.declared.elements.Element.{Element}
use Rattle.reading_laws.proofs.Listing.{listed_are_among}
use Rattle.reading_laws.proofs.Missing.{domain_is}
use Rattle.structure_entries.proofs.Dropped.{front}

-- one use more
pub next_by : {X U : Type 0} (note : Option KbFault → U → Option KbFault) (F : List X → List U) (xs : List X) (i : ℕ)
    (x : X) (us : List U) (old new whole : Option KbFault)
    → i < length xs → x ≡ get_or xs i x → F (x ∷ drop (i + 1) xs) ≡ us ++ F (drop (i + 1) xs) → new ≡ fold note old us
    → fold note old (F (drop i xs)) ≡ whole → fold note new (F (drop (i + 1) xs)) ≡ whole
next_by note F xs i x us old new whole lt is cons noted inv =
    ap (λ o. fold note o (F (drop (i + 1) xs))) noted
    ∙ sym (ap (λ ys. fold note old (F ys)) (front xs i x lt is) ∙ ap (fold note old) cons
    ∙ fold-append note old us (F (drop (i + 1) xs)))
    ∙ inv

-- ---- lists that go together

zip_none : {A B : Type 0} (xs : List A) (ys : List B) → ys ≡ [] → zip xs ys ≡ []
zip_none [] ys h = refl
zip_none (x ∷ xs) [] h = refl
zip_none (x ∷ xs) (y ∷ ys) h = absurd (cc)

pub nothing_right : {A B : Type 0} (xs : List A) (ys : List B) (i : ℕ) → length ys ≤ i → zip xs (drop i ys) ≡ []
nothing_right xs ys i h = zip_none xs (drop i ys) (drop_all i ys h)

pub zip_step : {A B : Type 0} (xs : List A) (ys : List B) (i : ℕ) (x : A) (y : B) → i < length xs → i < length ys
    → x ≡ get_or xs i x → y ≡ get_or ys i y
    → zip (drop i xs) (drop i ys) ≡ (x, y) ∷ zip (drop (i + 1) xs) (drop (i + 1) ys)
zip_step xs ys i x y h k at to = ap (λ zs. zip zs (drop i ys)) (front xs i x h at) ∙ ap (zip (x ∷ drop (i + 1) xs))
    (front ys i y k to)

pair_none_left : {A B : Type 0} (xs : List A) (ys : List B) (n : ℕ) → slice_get xs n ≡ None
    → slice_get (zip xs ys) n ≡ None
pair_none_left [] ys n h = refl
pair_none_left (x ∷ xs) [] n h = refl
pair_none_left (x ∷ xs) (y ∷ ys) zero h = let no : Some x ≡ None = h in absurd (cc)
pair_none_left (x ∷ xs) (y ∷ ys) (suc n) h = pair_none_left xs ys n h

pair_none_right : {A B : Type 0} (xs : List A) (ys : List B) (n : ℕ) → slice_get ys n ≡ None
    → slice_get (zip xs ys) n ≡ None
pair_none_right [] ys n h = refl
pair_none_right (x ∷ xs) [] n h = refl
pair_none_right (x ∷ xs) (y ∷ ys) zero h = let no : Some y ≡ None = h in absurd (cc)
pair_none_right (x ∷ xs) (y ∷ ys) (suc n) h = pair_none_right xs ys n h

pair_some : {A B : Type 0} (xs : List A) (ys : List B) (n : ℕ) (x : A) (y : B) → slice_get xs n ≡ Some x
    → slice_get ys n ≡ Some y → slice_get (zip xs ys) n ≡ Some (x, y)
pair_some [] ys n x y h k = let no : None ≡ Some x = h in absurd (cc)
pair_some (a ∷ as') [] n x y h k = let no : None ≡ Some y = k in absurd (cc)
pair_some (a ∷ as') (b ∷ bs) zero x y h k = let first : a ≡ x = cc in let second : b ≡ y = cc in
    ap (λ z. Some (z, b)) first ∙ ap (λ z. Some (x, z)) second
pair_some (a ∷ as') (b ∷ bs) (suc n) x y h k = pair_some as' bs n x y h k

module _ {T A B : Type 0} (view : T → A) (xs : List T) (ys : List B) (n : ℕ) where
  abbrev chosen : List (A × B)
  chosen = option_to_list (slice_get (zip (map view xs) ys) n)

  pub no_first : slice_get xs n ≡ None → [] ≡ chosen
  no_first h = sym (ap option_to_list (pair_none_left (map view xs) ys n (slice_get-map view xs n
      ∙ ap (option_map view) h)))

  pub no_second : slice_get ys n ≡ None → [] ≡ chosen
  no_second h = sym (ap option_to_list (pair_none_right (map view xs) ys n h))

  pub both_chosen : (x : T) (y : B) → slice_get xs n ≡ Some x → slice_get ys n ≡ Some y → (view x, y) ∷ [] ≡ chosen
  both_chosen x y h k = sym (ap option_to_list (pair_some (map view xs) ys n (view x) y (slice_get-map view xs n
      ∙ ap (option_map view) h) k))

pub flat_one : {X Y : Type 0} (f : X → List Y) (x : X) → f x ≡ flat_map f (x ∷ [])
flat_one f x = sym (append-nil (f x))

-- an integer of a domain
pub in_domain : (types : List TypeDecl) (es : List Said) (t : ℕ) (z : ℤ) → is_among (cells_of types es t) (Num z)
    ≡ list_any (same_element (Num z)) (domain_at (domains_of types es) t)
in_domain types es t z = listed_are_among (cells_of types es t) (Num z) ∙ ap (list_any (same_element (Num z)))
    (sym (domain_is types es t))

-- ---- elements at positions

module _ (all : List TypeDecl) (es : List Said) (args : List ℕ) (xs : List Element) (i : ℕ) where
  abbrev pub over : ℕ → Bool
  over n = is_over all es (drop n args) (map elem_view (drop n xs))

  pub over_next : (d : ℕ) (e : Element) → i < length args → i < length xs
      → over i ≡ (is_among (cells_of all es (get_or args i d)) (elem_view (get_or xs i e)) && over (i + 1))
  over_next d e h k = ap (λ ts. is_over all es ts (map elem_view (drop i xs))) (drop_more args i d h)
      ∙ ap (λ ys. is_over all es (get_or args i d ∷ drop (i + 1) args) (map elem_view ys)) (drop_more xs i e k)

  pub over_short : (d : ℕ) → i < length args → length xs ≤ i → false ≡ over i
  over_short d h k = sym (ap (λ ts. is_over all es ts (map elem_view (drop i xs))) (drop_more args i d h)
      ∙ ap (λ ys. is_over all es (get_or args i d ∷ drop (i + 1) args) (map elem_view ys)) (drop_all i xs k))

  not_zero : (n : ℕ) → (suc n == 0) ≡ false
  not_zero n = grind (arith, nat_tests)

  over_nothing : (ys : List Elem) → is_over all es [] ys ≡ (length ys == 0)
  over_nothing [] = refl
  over_nothing (y ∷ ys) = sym (not_zero (length ys))

  leaves : (m n : ℕ) → leb m n ≡ (m - n == 0)
  leaves m n = grind (arith, nat_tests)

  pub over_end : length args ≡ i → leb (length xs) (length args) ≡ over i
  over_end h =
      let none : drop i args ≡ [] = drop_all i args (omega (arith, h)) in
      let left : length (map elem_view (drop i xs)) ≡ length xs - i = length-map (drop i xs) elem_view
      ∙ length-drop i xs in
      leaves (length xs) (length args) ∙ ap (λ n. length xs - n == 0) h ∙ ap (λ n. n == 0) (sym left)
      ∙ sym (over_nothing (map elem_view (drop i xs)))
      ∙ ap (λ ts. is_over all es ts (map elem_view (drop i xs))) (sym none)

-- ---- integers at positions

split_first : {X Y : Type 0} (f : X → Option Y) (x : X) (xs : List X) → filter_map f (x ∷ xs) ≡ filter_map f (x ∷ [])
    ++ filter_map f xs
split_first f x xs = filter_map-append f (x ∷ []) xs

pub no_integers : (places : List ℕ) (found : List (Option Placed)) (i : ℕ) → length found ≤ i
    → arguments_at places (placed_views (drop i found)) ≡ []
no_integers places found i h = ap (λ qs. arguments_at places (placed_views qs)) (drop_all i found h)
    ∙ ap (filter_map with_place) (zip_none places [] refl)

pub next_argument : (note : Option KbFault → DataUse → Option KbFault) (places : List ℕ) (found : List (Option Placed))
    (i d : ℕ) (e : Option Placed) (old new whole : Option KbFault)
    → i < length places → i < length found
    → new ≡ fold note old (map argument (arguments_at (get_or places i d ∷ [])
    (option_map placed_view (get_or found i e) ∷ [])))
    → fold note old (map argument (arguments_at (drop i places) (placed_views (drop i found)))) ≡ whole
    → fold note new (map argument (arguments_at (drop (i + 1) places) (placed_views (drop (i + 1) found)))) ≡ whole
next_argument note places found i d e old new whole h k noted inv =
    let own = arguments_at (get_or places i d ∷ []) (option_map placed_view (get_or found i e) ∷ []) in
    let rest = arguments_at (drop (i + 1) places) (placed_views (drop (i + 1) found)) in
    let split : arguments_at (drop i places) (placed_views (drop i found)) ≡ own ++ rest =
    ap (λ ps. arguments_at ps (placed_views (drop i found))) (drop_more places i d h)
    ∙ ap (λ qs. arguments_at (get_or places i d ∷ drop (i + 1) places) (placed_views qs)) (drop_more found i e k)
    ∙ split_first with_place (get_or places i d, option_map placed_view (get_or found i e))
    (zip (drop (i + 1) places) (placed_views (drop (i + 1) found))) in
    ap (λ o. fold note o (map argument rest)) noted
    ∙ sym (fold-append note old (map argument own) (map argument rest))
    ∙ ap (fold note old) (sym (ap (map argument) split ∙ map-append argument own rest)) ∙ inv

pub next_block : {T A B : Type 0} (note : Option KbFault → DataUse → Option KbFault) (view : T → A) (F : A × B
    → List Argument) (ts : List T) (ps : List B) (i : ℕ) (t : T) (p : B) (old new whole : Option KbFault)
    → i < length ts → i < length ps → t ≡ get_or ts i t → p ≡ get_or ps i p
    → new ≡ fold note old (map argument (F (view t, p)))
    → fold note old (map argument (flat_map F (zip (map view (drop i ts)) (drop i ps)))) ≡ whole
    → fold note new (map argument (flat_map F (zip (map view (drop (i + 1) ts)) (drop (i + 1) ps)))) ≡ whole
next_block note view F ts ps i t p old new whole h k at to noted inv =
    let own = F (view t, p) in
    let rest = flat_map F (zip (map view (drop (i + 1) ts)) (drop (i + 1) ps)) in
    let split : flat_map F (zip (map view (drop i ts)) (drop i ps)) ≡ own ++ rest =
    ap (λ xs. flat_map F (zip (map view xs) (drop i ps))) (front ts i t h at)
    ∙ ap (λ ys. flat_map F (zip (view t ∷ map view (drop (i + 1) ts)) ys)) (front ps i p k to) in
    ap (λ o. fold note o (map argument rest)) noted
    ∙ sym (fold-append note old (map argument own) (map argument rest))
    ∙ ap (fold note old) (sym (ap (map argument) split ∙ map-append argument own rest)) ∙ inv

pub both_lists : (note : Option KbFault → DataUse → Option KbFault) (xs ys : List Argument)
    (old middle new : Option KbFault)
    → middle ≡ fold note old (map argument xs) → new ≡ fold note middle (map argument ys)
    → new ≡ fold note old (map argument (xs ++ ys))
both_lists note xs ys old middle new first second =
    second ∙ ap (λ o. fold note o (map argument ys)) first ∙ sym
    (fold-append note old (map argument xs) (map argument ys))
    ∙ ap (fold note old) (sym (map-append argument xs ys))

-- ---- types

pub next_type : (note : Option KbFault → DataUse → Option KbFault) (decls : List TypeDecl) (places : List ℕ) (t d : ℕ)
    (x : TypeDecl) (old new whole : Option KbFault)
    → t < length decls → t < length places → x ≡ get_or decls t x → new ≡ note old (declared t x (get_or places t d))
    → fold note old (map type_use (zip (enumerate_from t (drop t decls)) (drop t places))) ≡ whole
    → fold note new (map type_use (zip (enumerate_from (t + 1) (drop (t + 1) decls)) (drop (t + 1) places))) ≡ whole
next_type note decls places t d x old new whole h k at noted inv =
    ap (λ o. fold note o (map type_use (zip (enumerate_from (t + 1) (drop (t + 1) decls)) (drop (t + 1) places)))) noted
    ∙ sym (ap (λ xs. fold note old (map type_use (zip (enumerate_from t xs) (drop t places)))) (front decls t x h at)
    ∙ ap (λ ps. fold note old (map type_use (zip ((t, x) ∷ enumerate_from (t + 1) (drop (t + 1) decls)) ps)))
    (drop_more places t d k))
    ∙ inv

-- ---- an entry, its mark, its rows and what stands in these

pub four_parts : (note : Option KbFault → DataUse → Option KbFault) (u : DataUse) (ms rs ss : List DataUse)
    (old first second third last : Option KbFault)
    → first ≡ note old u → second ≡ fold note first ms → third ≡ fold note second rs → last ≡ fold note third ss
    → last ≡ fold note old (u ∷ (ms ++ (rs ++ ss)))
four_parts note u ms rs ss old first second third last a b c d =
    d ∙ ap (λ o. fold note o ss) (c ∙ ap (λ o. fold note o rs) (b ∙ ap (λ o. fold note o ms) a))
    ∙ sym (fold-append note (note old u) ms (rs ++ ss) ∙ fold-append note (fold note (note old u) ms) rs ss)
