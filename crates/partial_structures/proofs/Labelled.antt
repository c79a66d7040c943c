-- The elements of the domains have labels.
use Rattle.std.proofs.Common.{suc, ◌≡◌, ℕ, List, [], ◌∷◌, ◌++◌, map, fold, Bool, true, false, ◌||◌, Option, None, Some}
use Rattle.std.proofs.Common.{if◌then◌else◌, refl, sym, ap, ◌∙◌, slice_get, inl, inr, is_some, subst, unwrap_or, IsTrue}
use Rattle.std.proofs.Common.{All, IfSome}
use Rattle.std.specs.List.{list_any}
use Rattle.std.specs.Option.{option_map}
use Rattle.std.specs.Str.{bytes_eq}
use Rattle.std.proofs.lemmas.List.Folds.{list_any-append}
use Rattle.std.proofs.lemmas.List.Elements.{All-nil, All-cons, All-head, All-tail}
use Rattle.std.proofs.lemmas.Slice.Eq.{bytes_eq-Decides}
use Rattle.std.proofs.lemmas.Bool.{or_left, or_right}
use Rattle.kb_logic.specs.declared.elements.Elem.{Elem}
use Rattle.kb_logic.specs.declared.elements.Elem.TheVariants.{Named, Num}
use Rattle.kb_logic.specs.declared.vocabularies.Symbol.{Symbol}
use Rattle.kb_logic.specs.Structures.{domain_at, tuples_of}
use Rattle.kb_logic.specs.Models.{GroundAtom, HasValueIn}
use Rattle.partial_structures.specs.KnownAtoms.{IsAtomOver}
use Rattle.row_tries.specs.Words.{place, with_element, words_of}
use Rattle.row_tries.specs.Rows.{has_label}
use Rattle.row_tries.specs.declared.rows.Label.TheVariants.{Word}
use Rattle.kb_logic.proofs.Has.{Has, has_from, has_get, flat_map_has, map_has}

abbrev knows : List (List ℕ) → List ℕ → Bool
knows ws q = list_any (bytes_eq q) ws

known_still : (b : Bool) (ws : List (List ℕ)) (q r : List ℕ) → knows ws q ≡ true
    → knows (if b then ws else ws ++ r ∷ []) q ≡ true
known_still true ws q r h = h
known_still false ws q r h = list_any-append (bytes_eq q) ws (r ∷ []) ∙ or_left (knows ws q) (knows (r ∷ []) q) h

known_now : (b : Bool) (ws : List (List ℕ)) (q : List ℕ) → knows ws q ≡ b
    → knows (if b then ws else ws ++ q ∷ []) q ≡ true
known_now true ws q h = h
known_now false ws q h = list_any-append (bytes_eq q) ws (q ∷ []) ∙ or_right (knows ws q) (knows (q ∷ []) q)
    (or_left (bytes_eq q q) false ((bytes_eq-Decides q q).1 refl))

element_still : (ws : List (List ℕ)) (x : Elem) (q : List ℕ) → knows ws q ≡ true → knows (with_element ws x) q ≡ true
element_still ws (Named r) q h = known_still (knows ws r) ws q r h
element_still ws (Num z) q h = h

domain_still : (d : List Elem) (ws : List (List ℕ)) (q : List ℕ) → knows ws q ≡ true
    → knows (fold with_element ws d) q ≡ true
domain_still [] ws q h = h
domain_still (x ∷ d) ws q h = domain_still d (with_element ws x) q (element_still ws x q h)

domains_still : (ds : List (List Elem)) (ws : List (List ℕ)) (q : List ℕ) → knows ws q ≡ true
    → knows (fold (λ v d. fold with_element v d) ws ds) q ≡ true
domains_still [] ws q h = h
domains_still (d ∷ ds) ws q h = domains_still ds (fold with_element ws d) q (domain_still d ws q h)

in_domain : (d : List Elem) (ws : List (List ℕ)) (q : List ℕ) → Has d (Named q)
    → knows (fold with_element ws d) q ≡ true
in_domain [] ws q m = absurd m
in_domain (x ∷ d) ws q (inl e) =
    domain_still d (with_element ws x) q (subst (λ y. knows (with_element ws y) q ≡ true) (sym e)
    (known_now (knows ws q) ws q refl))
in_domain (x ∷ d) ws q (inr m) = in_domain d (with_element ws x) q m

in_domains : (ds : List (List Elem)) (ws : List (List ℕ)) (d : List Elem) (q : List ℕ) → Has ds d → Has d (Named q)
    → knows (fold (λ v e. fold with_element v e) ws ds) q ≡ true
in_domains [] ws d q m h = absurd m
in_domains (e ∷ ds) ws d q (inl is) h = domains_still ds (fold with_element ws e) q
    (in_domain e ws q (subst (λ f. Has f (Named q)) (sym is) h))
in_domains (e ∷ ds) ws d q (inr m) h = in_domains ds (fold with_element ws e) d q m h

placed : {X : Type 0} (t : X → Bool) (xs : List X) → list_any t xs ≡ true → is_some (place t xs) ≡ true
placed t [] h = absurd (cc)
placed t (x ∷ xs) h = first (t x) refl (placed t xs)
  where
    later : (o : Option ℕ) → is_some o ≡ true → is_some (option_map (λ n. suc n) o) ≡ true
    later None h = h
    later (Some n) h = refl

    first : (b : Bool) → t x ≡ b → (list_any t xs ≡ true → is_some (place t xs) ≡ true)
        → is_some (if b then Some 0 else option_map (λ n. suc n) (place t xs)) ≡ true
    first true e go = refl
    first false e go = later (place t xs) (go (ap (λ b. b || list_any t xs) (sym e) ∙ h))

word_label : (o : Option ℕ) → is_some o ≡ true → is_some (option_map Word o) ≡ true
word_label None h = h
word_label (Some n) h = refl

-- an element of one of the domains
pub element_labelled : (ds : List (List Elem)) (d : List Elem) (x : Elem) → Has ds d → Has d x
    → has_label (words_of ds) x ≡ true
element_labelled ds d (Named q) m h = word_label (place (bytes_eq q) (words_of ds))
    (placed (bytes_eq q) (words_of ds) (in_domains ds [] d q m h))
element_labelled ds d (Num z) m h = refl

of_domain : (ds : List (List Elem)) (o : Option (List Elem)) (x : Elem) → ((d : List Elem) → o ≡ Some d → Has ds d)
    → Has (unwrap_or o []) x → has_label (words_of ds) x ≡ true
of_domain ds None x m h = absurd h
of_domain ds (Some d) x m h = element_labelled ds d x (m d refl) h

pub typed_labelled : (ds : List (List Elem)) (ty : ℕ) (x : Elem) → Has (domain_at ds ty) x
    → has_label (words_of ds) x ≡ true
typed_labelled ds ty x h = of_domain ds (slice_get ds ty) x (λ d e. has_get ds ty d e) h

tuple_labelled : (ds : List (List Elem)) (types : List ℕ) (xs : List Elem) → Has (tuples_of ds types) xs
    → All (λ x. IsTrue (has_label (words_of ds) x)) xs
tuple_labelled ds [] xs (inl e) = subst (All (λ x. IsTrue (has_label (words_of ds) x))) e
    (All-nil (λ x. IsTrue (has_label (words_of ds) x)))
tuple_labelled ds [] xs (inr m) = absurd m
tuple_labelled ds (ty ∷ types) xs m =
    let r = flat_map_has (λ x. map (λ a. x ∷ a) (tuples_of ds types)) (domain_at ds ty) xs m in
    let q = map_has (λ a. r.0 ∷ a) (tuples_of ds types) xs r.2 in
    subst (All (λ x. IsTrue (has_label (words_of ds) x))) q.2
    (All-cons (λ x. IsTrue (has_label (words_of ds) x)) r.0 q.0 (typed_labelled ds ty r.0 r.1)
    (tuple_labelled ds types q.0 q.1))

value_labelled : (ds : List (List Elem)) (ty : Option ℕ) (v : Option Elem) → HasValueIn ds ty v
    → IfSome v (λ x. IsTrue (has_label (words_of ds) x))
value_labelled ds None None h = h
value_labelled ds None (Some x) h = absurd h
value_labelled ds (Some ty) None h = absurd h
value_labelled ds (Some ty) (Some x) h = typed_labelled ds ty x (has_from (domain_at ds ty) x h)

pub args_labelled : (symbols : List Symbol) (ds : List (List Elem)) (a : GroundAtom) → IsAtomOver symbols ds a
    → All (λ x. IsTrue (has_label (words_of ds) x)) a.args
args_labelled symbols ds a is = tuple_labelled ds is.0.args a.args (has_from (tuples_of ds is.0.args) a.args is.2)

pub atom_labelled : (symbols : List Symbol) (ds : List (List Elem)) (a : GroundAtom) → IsAtomOver symbols ds a
    → IfSome a.value (λ x. IsTrue (has_label (words_of ds) x))
atom_labelled symbols ds a is = value_labelled ds is.0.value a.value is.3

-- what holds of what is seen of each item
pub each_seen : {X Y : Type 0} (P : Y → Type 0) (f : X → Y) (xs : List X) → All P (map f xs) → All (λ x. P (f x)) xs
each_seen P f [] h = All-nil (λ x. P (f x))
each_seen P f (x ∷ xs) h = All-cons (λ y. P (f y)) x xs (All-head P (f x) (map f xs) h)
    (each_seen P f xs (All-tail P (f x) (map f xs) h))
