-- How many ground atoms there are.
use Rattle.std.proofs.Common.{◌≡◌, ℕ, suc, ◌+◌, ◌*◌, ◌<◌, Option, Some, None, List, [], ◌∷◌, ◌++◌, flat_map, length}
use Rattle.std.proofs.Common.{get_or, drop, sym, ap, ◌∙◌, arith, length-append, refl}
use Rattle.std.proofs.lemmas.List.{at_drop_more, length-map}
use Rattle.kb_logic.specs.declared.elements.Elem.{Elem}
use Rattle.kb_logic.specs.declared.vocabularies.Symbol.{Symbol}
use Rattle.kb_logic.specs.Structures.{domain_at, tuples_of}
use Rattle.kb_logic.specs.Weights.{value_count}
use Rattle.kb_logic.proofs.TupleCounts.{length-tuples_over}
use Rattle.ground_core.specs.Atoms.{atom_of, atoms_at, atoms_of_symbol, ground_atoms}
use Rattle.ground_core.proofs.AtomFacts.{atoms_from, one-symbol}

assoc : (a b c : ℕ) → a * b * c ≡ a * (b * c)
assoc a b c = omega arith

-- a type more is a factor more
pub next-factor : (domains : List (List Elem)) (types : List ℕ) (i count product n : ℕ) → i < length types
    → count * length (tuples_of domains (drop i types)) ≡ n
    → product ≡ count * length (domain_at domains (get_or types i 0))
    → product * length (tuples_of domains (drop (i + 1) types)) ≡ n
next-factor domains types i count product n lt all is =
    let more : ℕ = length (tuples_of domains (drop (i + 1) types)) in
    let size : ℕ = length (domain_at domains (get_or types i 0)) in
    let split : length (tuples_of domains (drop i types)) ≡ size * more =
    at_drop_more (λ ts. length (tuples_of domains ts)) types i 0 lt
    ∙ length-tuples_over (tuples_of domains (drop (i + 1) types)) (domain_at domains (get_or types i 0)) in
    ap (λ c. c * more) is ∙ assoc count size more ∙ ap (λ m. count * m) (sym split) ∙ all

atoms-there : (domains : List (List Elem)) (number : ℕ) (value : Option ℕ) (args : List Elem)
    → length (atoms_at domains number value args) ≡ value_count domains value
atoms-there domains number None args = refl
atoms-there domains number (Some ty) args =
    length-map (domain_at domains ty) (λ x. atom_of number args (Some x))

more-there : (n size : ℕ) → size + n * size ≡ suc n * size
more-there n size = omega arith

-- a symbol has an atom for each tuple of arguments and each value
pub symbol-atoms : (domains : List (List Elem)) (number : ℕ) (value : Option ℕ) (tuples : List (List Elem))
    → length (flat_map (atoms_at domains number value) tuples) ≡ length tuples * value_count domains value
symbol-atoms domains number value [] = omega arith
symbol-atoms domains number value (t ∷ ts) =
    length-append (atoms_at domains number value t) (flat_map (atoms_at domains number value) ts)
    ∙ ap (λ n. n + length (flat_map (atoms_at domains number value) ts)) (atoms-there domains number value t)
    ∙ ap (λ n. value_count domains value + n) (symbol-atoms domains number value ts)
    ∙ more-there (length ts) (value_count domains value)

-- the atoms of one symbol more
pub next-symbol : (symbols : List Symbol) (domains : List (List Elem)) (k : ℕ) (s : Symbol) (count more sum : ℕ)
    → k < length symbols → s ≡ get_or symbols k s
    → more ≡ length (tuples_of domains s.args) * value_count domains s.value → sum ≡ count + more
    → count + length (atoms_from symbols domains k) ≡ length (ground_atoms symbols domains)
    → sum + length (atoms_from symbols domains (k + 1)) ≡ length (ground_atoms symbols domains)
next-symbol symbols domains k s count more sum lt at is plus all =
    let here = atoms_of_symbol domains k s in
    let rest = atoms_from symbols domains (k + 1) in
    let front : here ++ rest ≡ atoms_from symbols domains k = one-symbol symbols domains k s [] here lt at refl in
    let both : length (atoms_from symbols domains k) ≡ length here + length rest =
    ap length (sym front) ∙ length-append here rest in
    let has : more ≡ length here = is ∙ sym (symbol-atoms domains k s.value (tuples_of domains s.args)) in
    ap (λ n. n + length rest) plus ∙ ap (λ n. count + n + length rest) has
    ∙ three count (length here) (length rest)
    ∙ ap (λ n. count + n) (sym both) ∙ all
  where
    three : (a b c : ℕ) → a + b + c ≡ a + (b + c)
    three a b c = omega arith
