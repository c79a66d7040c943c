-- The domains that the stage of data reads in a printed block are those that were printed.
use Rattle.std.proofs.Common.{inl, inr, ◌≡◌, ℕ, zero, suc, ◌+◌, nat_lt, true, false, List, [], ◌∷◌, ◌++◌, length, map}
use Rattle.std.proofs.Common.{fold, Option, None, Some, slice_get, unwrap_or, flat_map, option_map, refl, sym, ap}
use Rattle.std.proofs.Common.{subst, ◌∙◌, arith, append_assoc, if◌then◌else◌}
use Rattle.std.specs.List.{enumerate_from, list_any}
use Rattle.std.specs.Str.{bytes_eq}
use Rattle.std.proofs.lemmas.Bool.{true≢false, and_parts, and_from, eq-eqb, eqb-true, false_from_ne_true}
use Rattle.std.proofs.lemmas.Bool.Decides.{nat_tests}
use Rattle.std.proofs.lemmas.List.{append-nil}
use Rattle.kb_logic.specs.declared.elements.Elem.{Elem}
use Rattle.kb_logic.specs.declared.elements.Elem.TheVariants.{Named}
use Rattle.kb_logic.specs.declared.vocabularies.TypeDecl.{TypeDecl}
use Rattle.kb_logic.specs.declared.vocabularies.Vocabulary.{Vocabulary}
use Rattle.kb_logic.specs.Structures.{EachWith, IsDistinct, domain_at}
use Rattle.kb_logic.specs.Domains.{IsDomainOf}
use Rattle.kb_logic.specs.KnownAtoms.{KnownAtoms}
use Rattle.kb_logic.proofs.Has.{Has, has_enumerated, enumerated_has, contains_from, has_either}
use Rattle.grammar.specs.BlockTrees as raw
use Rattle.stage_definitions.specs.Names.{text_of}
use Rattle.stage_definitions.specs.Elements.{one, same_element, members, with_element, listed}
use Rattle.stage_definitions.specs.DataEntries.{a_type, Said, said}
use Rattle.stage_definitions.specs.DataDomains.{names_type, is_list_of, is_listed, cells_given, listed_cells}
use Rattle.stage_definitions.specs.DataDomains.{is_constructed, cells_by, cells_if, cells_of, domains_of}
use Rattle.stage_definitions.specs.DataStage.{same_marks}
use Rattle.reading_laws.proofs.Same.{is_same}
use Rattle.printed_texts.specs.Entries.{entries_of}
use Rattle.printed_texts.specs.Saying.{SaysEntry}
use Rattle.printed_texts.specs.ReadBlocks.{IsWritable}
use Rattle.printed_texts.proofs.Each.{AllPairs, filter_one, has_any, any_none}
use Rattle.printed_texts.proofs.Subjects.{same_bytes}
use Rattle.printed_texts.proofs.RightEntries.{listing_of, right_listing}
use Rattle.printed_texts.proofs.SaidEntries.{IsSaid}
use Rattle.printed_texts.proofs.SaidFacts.{listed_given}
use Rattle.printed_texts.proofs.Reading.{ReadAs, as_listing, as_whole, as_certain, as_denied, read_as, listing_read}
use Rattle.printed_texts.proofs.Reading.{Differs, read_apart}

-- ---- lists by places

pub each_at : {X Y : Type 0} (R : X → Y → Type 0) (xs : List X) (ys : List Y) → EachWith R xs ys
    → (i : ℕ) (x : X) (d : Y) → slice_get xs i ≡ Some x → R x (unwrap_or (slice_get ys i) d)
each_at R [] [] h i x d e = absurd (cc)
each_at R [] (y ∷ ys) h i x d e = absurd h
each_at R (z ∷ xs) [] h i x d e = absurd h
each_at R (z ∷ xs) (y ∷ ys) h zero x d e = let same : z ≡ x = cc in subst (λ u. R u y) same h.0
each_at R (z ∷ xs) (y ∷ ys) h (suc i) x d e = each_at R xs ys h.1 i x d e

pub each_none : {X Y : Type 0} (R : X → Y → Type 0) (xs : List X) (ys : List Y) → EachWith R xs ys → (i : ℕ) (d : Y)
    → slice_get xs i ≡ None → unwrap_or (slice_get ys i) d ≡ d
each_none R [] [] h i d e = refl
each_none R [] (y ∷ ys) h i d e = absurd h
each_none R (z ∷ xs) [] h i d e = absurd h
each_none R (z ∷ xs) (y ∷ ys) h zero d e = absurd (cc)
each_none R (z ∷ xs) (y ∷ ys) h (suc i) d e = each_none R xs ys h.1 i d e

by_places : (R : TypeDecl → List Elem → Type 0) (F : ℕ × TypeDecl → List Elem) (types : List TypeDecl) (n : ℕ)
    (ds : List (List Elem)) → EachWith R types ds
    → ((i : ℕ) (d : TypeDecl) → slice_get types i ≡ Some d → F (n + i, d) ≡ domain_at ds i)
    → map F (enumerate_from n types) ≡ ds
by_places R F [] n [] h same = refl
by_places R F [] n (x ∷ ds) h same = absurd h
by_places R F (d ∷ types) n [] h same = absurd h
by_places R F (d ∷ types) n (x ∷ ds) h same =
    let here : n + 0 ≡ n = omega arith in
    ap (λ l. l ∷ map F (enumerate_from (n + 1) types)) (ap (λ m. F (m, d)) (sym here) ∙ same 0 d refl)
    ∙ ap (λ l. x ∷ l) (by_places R F types (n + 1) ds h.1 (λ i e f. let there : (n + 1) + i ≡ n + suc i = omega arith in
    ap (λ m. F (m, e)) there ∙ same (suc i) e f))

-- ---- distinct elements are listed as they stand

not_same : (acc : List Elem) (x : Elem) → (Has acc x → ⊥) → list_any (same_element x) acc ≡ false
not_same acc x none = any_none (same_element x) acc
    (λ y m. false_from_ne_true (same_element x y) (λ s. none (subst (λ z. Has acc z) (sym (is_same x y s)) m)))

one_at_end : (acc : List Elem) (x y : Elem) → Has (acc ++ x ∷ []) y → (Has acc y → ⊥) → x ≡ y
one_at_end acc x y m none = elim (has_either acc (x ∷ []) y m) [
  | inl a ↦ absurd (none a)
  | inr b ↦ last b
]
  where
    last : Has (x ∷ []) y → x ≡ y
    last (inl e) = e
    last (inr e) = absurd e

folded : (acc xs : List Elem) → IsDistinct xs → ((x : Elem) → Has xs x → Has acc x → ⊥)
    → fold with_element acc xs ≡ acc ++ xs
folded acc [] d apart = sym (append-nil acc)
folded acc (x ∷ xs) d apart =
    ap (λ l. fold with_element l xs) (ap (λ b. if b then acc else acc ++ x ∷ []) (not_same acc x (apart x (inl refl))))
    ∙ folded (acc ++ x ∷ []) xs d.1
    (λ y m n. d.0 (contains_from xs x (subst (λ z. Has xs z) (sym (one_at_end acc x y n (apart y (inr m)))) m)))
    ∙ append_assoc acc (x ∷ []) xs

each_one : (xs : List Elem) → flat_map members (map one xs) ≡ xs
each_one [] = refl
each_one (x ∷ xs) = ap (λ l. x ∷ l) (each_one xs)

pub listed_one : (xs : List Elem) → IsDistinct xs → listed (map one xs) ≡ xs
listed_one xs d = ap (λ l. fold with_element [] l) (each_one xs) ∙ folded [] xs d (λ x m n. n)

named_cells : (names : List (List ℕ)) → map (λ n. one (Named n)) names ≡ map one (map Named names)
named_cells [] = refl
named_cells (n ∷ ns) = ap (λ l. one (Named n) ∷ l) (named_cells ns)

same_numbered : (xs : List TypeDecl) (t u : ℕ × TypeDecl) → Has (enumerate_from 0 xs) t → Has (enumerate_from 0 xs) u
    → t.0 ≡ u.0 → t.1 ≡ u.1
same_numbered xs t u m n e =
    let a = enumerated_has 0 xs t.0 t.1 m in
    let b = enumerated_has 0 xs u.0 u.1 n in
    let same : a.0 ≡ b.0 = omega (arith, a.1, b.1, e) in
    let both : Some t.1 ≡ Some u.1 = sym a.2 ∙ ap (λ i. slice_get xs i) same ∙ b.2 in
    cc

module _ (v : Vocabulary) (title : List ℕ) (k : KnownAtoms) (w : IsWritable v title k) where
  pub domain_of : (i : ℕ) (d : TypeDecl) → slice_get v.types i ≡ Some d → IsDomainOf k.domains d (domain_at k.domains i)
  domain_of i d e = each_at (IsDomainOf k.domains) v.types k.domains w.domains i d [] e

  pub numbered_domain : (t : ℕ × TypeDecl) → Has (enumerate_from 0 v.types) t
      → IsDomainOf k.domains t.1 (domain_at k.domains t.0)
  numbered_domain t m =
      let r = enumerated_has 0 v.types t.0 t.1 m in
      let same : t.0 ≡ r.0 = omega (arith, r.1) in
      subst (λ i. IsDomainOf k.domains t.1 (domain_at k.domains i)) (sym same) (domain_of r.0 t.1 r.2)

  module _ (xs : List raw.Entry) (says : EachWith SaysEntry (entries_of v k) xs) where
    -- an entry that lists a type
    list_kind : (n : ℕ) (e : Said) → ReadAs v k e → is_list_of n e ≡ true
        → (t : ℕ × TypeDecl) × Has (enumerate_from 0 v.types) t × (t.0 ≡ n) × IsSaid (listing_of k t) (a_type t.0 t.1) e
    list_kind n e (as_listing t m made h) l =
        let parts = and_parts (names_type n e.subject) e.fits l in
        (t, m, eqb-true t.0 n (sym (ap (names_type n) h.subject) ∙ parts.0), h)
    list_kind n e (as_whole s m made h) l = absurd (let parts = and_parts (names_type n e.subject) e.fits l in
        true≢false (sym parts.0 ∙ ap (names_type n) h.subject))
    list_kind n e (as_certain s m made some h) l = absurd (let parts = and_parts (names_type n e.subject) e.fits l in
        true≢false (sym parts.0 ∙ ap (names_type n) h.subject))
    list_kind n e (as_denied s m made some h) l = absurd (let parts = and_parts (names_type n e.subject) e.fits l in
        true≢false (sym parts.0 ∙ ap (names_type n) h.subject))

    no_mark : (e : Said) (t : ℕ × TypeDecl) → IsSaid (listing_of k t) (a_type t.0 t.1) e → (f : Said)
        → same_marks e.mark f.mark ≡ true
    no_mark e t h f = by e.mark h.mark
      where
        by : (o : Option _) → option_map text_of o ≡ None → same_marks o f.mark ≡ true
        by None g = refl
        by (Some m) g = absurd (cc)

    one_list : (n : ℕ) (q e : Said) → Has (map (said v) xs) q → Has (map (said v) xs) e → Differs q e
        → is_list_of n q ≡ true → is_list_of n e ≡ true → ⊥
    one_list n q e mq me d lq le =
        let a = list_kind n q (read_as v title k w xs says q mq) lq in
        let b = list_kind n e (read_as v title k w xs says e me) le in
        let names : a.0.1 ≡ b.0.1 = same_numbered v.types a.0 b.0 a.1 b.1 (a.2 ∙ sym b.2) in
        let words : text_of q.word ≡ text_of e.word = a.3.word ∙ ap (λ (d : TypeDecl). d.name) names ∙ sym b.3.word in
        true≢false (sym (and_from (bytes_eq (text_of q.word) (text_of e.word)) (same_marks q.mark e.mark)
        (ap (λ u. bytes_eq u (text_of e.word)) words ∙ same_bytes (text_of e.word)) (no_mark q a.0 a.3 e)) ∙ d)

    lists_apart : (n : ℕ) (es : List Said) → ((e : Said) → Has es e → Has (map (said v) xs) e) → AllPairs Differs es
        → AllPairs (λ x y. is_list_of n x ≡ true → is_list_of n y ≡ true → ⊥) es
    lists_apart n [] within h = tt
    lists_apart n (e ∷ es) within h = (
      λ y m. one_list n e y (within e (inl refl)) (within y (inr m)) (h.0 y m),
      lists_apart n es
          (λ f m. within f (inr m)) h.1,
    )

    is_list : (t : ℕ × TypeDecl) (e : Said) → IsSaid (listing_of k t) (a_type t.0 t.1) e → is_list_of t.0 e ≡ true
    is_list t e h = and_from (names_type t.0 e.subject) e.fits (ap (names_type t.0) h.subject
        ∙ eq-eqb t.0 t.0 refl) h.fits

    pub has_list : (t : ℕ × TypeDecl) → Has (enumerate_from 0 v.types) t → t.1.made ≡ []
        → is_listed (map (said v) xs) t.0 ≡ true
    has_list t m e = let r = listing_read v title k w xs says t m e in
        has_any (is_list_of t.0) (map (said v) xs) r.0 r.1 (is_list t r.0 r.2)

    pub list_is : (t : ℕ × TypeDecl) → Has (enumerate_from 0 v.types) t → t.1.made ≡ []
        → listed_cells (map (said v) xs) t.0 ≡ map one (domain_at k.domains t.0)
    list_is t m e =
        let r = listing_read v title k w xs says t m e in
        ap (λ es. flat_map cells_given es)
        (filter_one (is_list_of t.0) (map (said v) xs)
        (lists_apart t.0 (map (said v) xs) (λ f n. n) (read_apart v title k w xs says)) r.0 r.1 (is_list t r.0 r.2))
        ∙ append-nil (cells_given r.0)
        ∙ listed_given k.domains (listing_of k t) t r.0 (domain_at k.domains t.0) refl (right_listing k t) r.2

    cells_made : (t : ℕ × TypeDecl) → Has (enumerate_from 0 v.types) t → (made : List (List ℕ)) → t.1.made ≡ made
        → cells_by v.types (map (said v) xs) t.0 t.1 ≡ map one (domain_at k.domains t.0)
    cells_made t m [] e = rw (e, has_list t m e) (list_is t m e)
    cells_made t m (n ∷ ns) e =
        let some : is_constructed t.1 ≡ true = rw e (positive (length ns)) in
        let names : domain_at k.domains t.0 ≡ map Named t.1.made =
        (numbered_domain t m).names (λ none. absurd (let f = sym e ∙ none in cc)) in
        rw some (named_cells t.1.made ∙ ap (map one) (sym names))
      where
        positive : (n : ℕ) → nat_lt 0 (suc n) ≡ true
        positive n = grind (arith, nat_tests)

    pub cells_at : (t : ℕ × TypeDecl) → Has (enumerate_from 0 v.types) t
        → cells_by v.types (map (said v) xs) t.0 t.1 ≡ map one (domain_at k.domains t.0)
    cells_at t m = cells_made t m t.1.made refl

    pub cells_are : (n : ℕ) → cells_of v.types (map (said v) xs) n ≡ map one (domain_at k.domains n)
    cells_are n = by (slice_get v.types n) refl
      where
        by : (o : Option TypeDecl) → slice_get v.types n ≡ o
            → cells_if v.types (map (said v) xs) n o ≡ map one (domain_at k.domains n)
        by None e = ap (map one) (sym (each_none (IsDomainOf k.domains) v.types k.domains w.domains n [] e))
        by (Some d) e =
            let zero_plus : 0 + n ≡ n = omega arith in
            cells_at (n, d) (subst (λ i. Has (enumerate_from 0 v.types) (i, d)) zero_plus
            (has_enumerated 0 n v.types d e))

    pub domains_are : domains_of v.types (map (said v) xs) ≡ k.domains
    domains_are =
        by_places (IsDomainOf k.domains) (λ t. listed (cells_by v.types (map (said v) xs) t.0 t.1)) v.types 0
        k.domains w.domains
        (λ i d e.
        let plus : 0 + i ≡ i = omega arith in
        ap listed (cells_at (0 + i, d) (has_enumerated 0 i v.types d e))
        ∙ ap (λ n. listed (map one (domain_at k.domains n))) plus
        ∙ listed_one (domain_at k.domains i) (domain_of i d e).distinct)
