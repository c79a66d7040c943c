-- The product of the sizes of domains counts their tuples.
use Rattle.std.proofs.Common.{◌≡◌, ℕ, ◌*◌, List, [], ◌∷◌, map, length, sym, ◌∙◌, arith, length-append, fold}
use Rattle.std.specs.List.{flat_map}
use Rattle.std.proofs.lemmas.List.{length-map}
use Rattle.kb_logic.specs.declared.elements.Elem.{Elem}
use Rattle.kb_logic.specs.Structures.{domain_at, tuples_of}
use Rattle.reading_laws.specs.SizeLaws.{ProductCountsTuples}

length-next : (more : List (List Elem)) (xs : List Elem) → length (flat_map (λ x. map (λ a. x ∷ a) more) xs)
    ≡ length xs * length more
length-next more [] = omega arith
length-next more (x ∷ xs) =
    length-append (map (λ a. x ∷ a) more) (flat_map (λ x. map (λ a. x ∷ a) more) xs)
    ∙ rw (length-map more (λ a. x ∷ a), length-next more xs) (omega arith)

product_from : (domains : List (List Elem)) (n : ℕ) (types : List ℕ) → fold (λ m t. m * length (domain_at domains t)) n
    types ≡ n * length (tuples_of domains types)
product_from domains n [] = omega arith
product_from domains n (t ∷ ts) =
    let next = length-next (tuples_of domains ts) (domain_at domains t) in
    product_from domains (n * length (domain_at domains t)) ts ∙ rw next (omega arith)

pub product_counts_tuples : ProductCountsTuples
product_counts_tuples domains types = sym (product_from domains 1 types ∙ omega arith)
