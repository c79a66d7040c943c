-- All assignments of some variables, by those of the first of the variables, and by their numbers.
use Rattle.std.proofs.Common.{◌≡◌, ℕ, suc, ◌+◌, ◌*◌, ◌<◌, List, [], ◌∷◌, ◌++◌, map, length, get_or, take, refl, sym, ap}
use Rattle.std.proofs.Common.{◌∙◌, arith}
use Rattle.std.specs.List.{AllByRecursion}
use Rattle.std.proofs.lemmas.List.{map-append, map-id, append-nil, length-map, take_more}
use Rattle.std.proofs.lemmas.List.Concat.{flat_map-append}
use Rattle.kb_logic.specs.declared.elements.Elem.{Elem}
use Rattle.kb_logic.specs.declared.vocabularies.Bound.{Bound}
use Rattle.kb_logic.specs.Structures.{domain_at, tuples_over, tuples_of, choices}
use Rattle.kb_logic.proofs.Pairs.{pairs, length-pairs, pairs-all, all_at}

abbrev pub joined : List Elem → List Elem → List Elem
joined a b = a ++ b

abbrev pub before : Elem → List Elem → List Elem
before x a = x ∷ a

map-twice : (x : Elem) (a : List Elem) (bs : List (List Elem)) → map (before x) (map (joined a) bs)
    ≡ map (joined (x ∷ a)) bs
map-twice x a [] = refl
map-twice x a (b ∷ bs) = ap (λ r. (x ∷ (a ++ b)) ∷ r) (map-twice x a bs)

map-joined : (x : Elem) (bs xs : List (List Elem)) → map (before x) (pairs joined bs xs) ≡ pairs joined bs
    (map (before x) xs)
map-joined x bs [] = refl
map-joined x bs (a ∷ xs) = map-append (before x) (map (joined a) bs) (pairs joined bs xs)
    ∙ rw (map-twice x a bs, map-joined x bs xs)

pairs-joined : (bs xs : List (List Elem)) (d : List Elem) → pairs before (pairs joined bs xs) d ≡ pairs joined bs
    (pairs before xs d)
pairs-joined bs xs [] = refl
pairs-joined bs xs (x ∷ d) = rw (map-joined x bs xs, pairs-joined bs xs d)
    (sym (flat_map-append (λ a. map (joined a) bs) (map (before x) xs) (pairs before xs d)))

tuples-append : (ds es : List (List Elem)) → tuples_over (ds ++ es) ≡ pairs joined (tuples_over es) (tuples_over ds)
tuples-append [] es = sym (append-nil (map (joined []) (tuples_over es)) ∙ map-id (tuples_over es))
tuples-append (d ∷ ds) es = ap (λ T. pairs before T d) (tuples-append ds es) ∙ pairs-joined (tuples_over es)
    (tuples_over ds) d

-- an assignment of all variables is one of the first variables with one of the rest
pub choices-append : (domains : List (List Elem)) (xs ys : List Bound) → choices domains (xs ++ ys) ≡ pairs joined
    (choices domains ys) (choices domains xs)
choices-append domains xs ys =
    ap (tuples_of domains) (map-append (λ (b : Bound). b.ty) xs ys)
    ∙ ap tuples_over (map-append (domain_at domains) (map (λ (b : Bound). b.ty) xs) (map (λ (b : Bound). b.ty) ys))
    ∙ tuples-append (map (domain_at domains) (map (λ (b : Bound). b.ty) xs))
    (map (domain_at domains) (map (λ (b : Bound). b.ty) ys))

one_longer : (x : Elem) (n : ℕ) (xs : List (List Elem)) → AllByRecursion (λ a. length a ≡ n) xs
    → AllByRecursion (λ a. length (x ∷ a) ≡ suc n) xs
one_longer x n [] h = tt
one_longer x n (a ∷ xs) h = (ap suc h.0, one_longer x n xs h.1)

tuple_lengths : (ds : List (List Elem)) → AllByRecursion (λ a. length a ≡ length ds) (tuples_over ds)
tuple_lengths [] = (refl, tt)
tuple_lengths (d ∷ ds) = pairs-all (λ (a : List Elem). length a ≡ suc (length ds)) before (tuples_over ds) d
    (λ x. one_longer x (length ds) (tuples_over ds) (tuple_lengths ds))

pub choice_length : (domains : List (List Elem)) (bs : List Bound) (k : ℕ) → k < length (choices domains bs)
    → length (get_or (choices domains bs) k []) ≡ length bs
choice_length domains bs k h =
    let types = map (λ (b : Bound). b.ty) bs in
    let ds = map (domain_at domains) types in
    all_at (λ (a : List Elem). length a ≡ length ds) (tuples_over ds) k [] h (tuple_lengths ds)
    ∙ length-map types (domain_at domains) ∙ length-map bs (λ (b : Bound). b.ty)

-- one variable more at the end of the first ones
pub count_more : (domains : List (List Elem)) (bs : List Bound) (i : ℕ) (b : Bound) → i < length bs → b ≡ get_or bs i b
    → length (choices domains (take (i + 1) bs)) ≡ length (choices domains (take i bs)) * length
    (domain_at domains b.ty)
count_more domains bs i b h at =
    let one : length (choices domains (b ∷ [])) ≡ length (domain_at domains b.ty) =
    length-pairs before ([] ∷ []) (domain_at domains b.ty) ∙ omega arith in
    ap (λ xs. length (choices domains xs)) (take_more bs i b h ∙ ap (λ x. take i bs ++ x ∷ []) (sym at))
    ∙ ap length (choices-append domains (take i bs) (b ∷ []))
    ∙ length-pairs joined (choices domains (b ∷ [])) (choices domains (take i bs))
    ∙ ap (λ n. length (choices domains (take i bs)) * n) one
