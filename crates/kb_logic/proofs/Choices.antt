-- The laws of the quantifiers.
use Rattle.std.proofs.Common.{◌≡◌, ℕ, zero, suc, List, [], ◌∷◌, ◌++◌, map, pos, sym, ap, ◌∙◌, subst, inl, inr}
use Rattle.std.specs.List.{Contains, filter, AllByRecursion}
use Rattle.std.proofs.lemmas.List.Sums.{length-filter}
use Rattle.std.proofs.lemmas.List.{length-map}
use Rattle.kb_logic.specs.declared.elements.Elem.{Elem}
use Rattle.kb_logic.specs.declared.vocabularies.Bound.{Bound}
use Rattle.kb_logic.specs.declared.structures.Structure.{Structure}
use Rattle.kb_logic.specs.Structures.{domain_at, IsDistinct}
use Rattle.kb_logic.specs.Denotations.{number, compared, as_number}
use Rattle.kb_logic.specs.Meaning.{assignments, truth_of, value_of}
use Rattle.kb_logic.specs.Laws.{IsChoice, AssignmentsAreChoices, AssignmentsAreDistinct, EveryIsForAll, SomeIsThereIs}
use Rattle.kb_logic.specs.Laws.{NumberComparesCount, CountIsLength}
use Rattle.kb_logic.proofs.Pairs.{pairs}
use Rattle.kb_logic.proofs.Assignments.{before}
use Rattle.kb_logic.proofs.Members.{first, member_cases, none_in, in_pairs, from_pairs, from_map, distinct-append}
use Rattle.kb_logic.proofs.Members.{distinct-map, every_one, one_and_all, some_one, one_is_some}

sole : {X : Type 0} (x a : X) → Contains (x ∷ []) a → x ≡ a
sole x a at = elim (member_cases x a [] at) [ inl e ↦ e | inr more ↦ absurd (none_in a more) ]

pub is_choice : (m : Structure) (bs : List Bound) (a : List Elem) → Contains (assignments m bs) a → IsChoice m bs a
is_choice m [] a at = subst (IsChoice m []) (sole [] a at) tt
is_choice m (b ∷ bs) a at =
    let r = from_pairs before (assignments m bs) (domain_at m.domains b.ty) a at in
    subst (IsChoice m (b ∷ bs)) r.4 (r.2, is_choice m bs r.1 r.3)

choice_is : (m : Structure) (bs : List Bound) (a : List Elem) → IsChoice m bs a → Contains (assignments m bs) a
choice_is m [] [] h = first [] []
choice_is m [] (x ∷ a) h = absurd h
choice_is m (b ∷ bs) [] h = absurd h
choice_is m (b ∷ bs) (x ∷ a) h = in_pairs before (assignments m bs) (domain_at m.domains b.ty) x a h.0
    (choice_is m bs a h.1)

pub assignments_are_choices : AssignmentsAreChoices
assignments_are_choices m bs a = (is_choice m bs a, choice_is m bs a)

pub domain_is_distinct : (domains : List (List Elem)) (ty : ℕ) → AllByRecursion IsDistinct domains
    → IsDistinct (domain_at domains ty)
domain_is_distinct [] ty h = tt
domain_is_distinct (d ∷ domains) zero h = h.0
domain_is_distinct (d ∷ domains) (suc ty) h = domain_is_distinct domains ty h.1

head_same : (x y : Elem) (a b : List Elem) → x ∷ a ≡ y ∷ b → x ≡ y
head_same x y a b h = cc

tail_same : (x : Elem) (a b : List Elem) → x ∷ a ≡ x ∷ b → a ≡ b
tail_same x a b h = cc

distinct_before : (more : List (List Elem)) (d : List Elem) → IsDistinct more → IsDistinct d
    → IsDistinct (pairs before more d)
distinct_before more [] h k = tt
distinct_before more (x ∷ d) h k =
    distinct-append (map (before x) more) (pairs before more d) (distinct-map (before x) (tail_same x) more h)
    (distinct_before more d h k.1)
    (λ z here there.
    let p = from_map (before x) more z here in
    let q = from_pairs before more d z there in
    k.0 (subst (λ y. Contains d y) (sym (head_same x q.0 p.0 q.1 (p.2 ∙ sym q.4))) q.2))

pub assignments_are_distinct : AssignmentsAreDistinct
assignments_are_distinct m [] h = (λ at. none_in [] at, tt)
assignments_are_distinct m (b ∷ bs) h = distinct_before (assignments m bs) (domain_at m.domains b.ty)
    (assignments_are_distinct m bs h) (domain_is_distinct m.domains b.ty h)

pub every_is_for_all : EveryIsForAll
every_is_for_all m bs f e =
    let P = λ (a : List Elem). truth_of m f (e ++ a) in (
      λ h a choice. every_one P (assignments m bs) h a (choice_is m bs a choice),
      λ h. one_and_all P (assignments m bs) (λ a at. h a (is_choice m bs a at)),
    )

pub some_is_there_is : SomeIsThereIs
some_is_there_is m bs f e =
    let P = λ (a : List Elem). truth_of m f (e ++ a) in (
      λ h. let r = some_one P (assignments m bs) h in (r.0, is_choice m bs r.0 r.1, r.2),
      λ h. one_is_some P (assignments m bs) h.0 (choice_is m bs h.0 h.1) h.2,
    )

pub number_compares_count : NumberComparesCount
number_compares_count m c n bs f e = ap (λ k. compared c (number (pos k)) (number n))
    (sym (length-filter (λ a. truth_of m f (e ++ a)) (assignments m bs)))

pub count_is_length : CountIsLength
count_is_length m bs f t e =
    ap (λ k. number (pos k)) (length-map (filter (λ a. truth_of m f (e ++ a)) (assignments m bs))
    (λ a. as_number (value_of m t (e ++ a))))
