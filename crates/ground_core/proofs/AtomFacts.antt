-- The ground atoms, symbol by symbol.
use Rattle.std.proofs.Common.{◌≡◌, ℕ, ◌+◌, ◌<◌, Option, Some, None, List, [], ◌∷◌, ◌++◌, map, flat_map, length, get_or}
use Rattle.std.proofs.Common.{drop, sym, ◌∙◌, ap, append_assoc, IfSome, IsSome}
use Rattle.std.specs.List.{enumerate_from}
use Rattle.std.proofs.lemmas.List.{drop_more}
use Rattle.kb_logic.specs.declared.elements.Elem.{Elem}
use Rattle.kb_logic.specs.declared.structures.Literal.{Literal}
use Rattle.kb_logic.specs.declared.vocabularies.Symbol.{Symbol}
use Rattle.kb_logic.specs.Structures.{domain_at, tuples_of}
use Rattle.ground_core.specs.Atoms.{atom_of, atoms_at, atoms_of_symbol}
use Rattle.ground_core.proofs.ListFacts.{flat_map_nothing}

no-atom : (domains : List (List Elem)) (number : ℕ) (value : Option ℕ) → IfSome value (λ ty. domain_at domains ty ≡ [])
    → IsSome value → (args : List Elem) → atoms_at domains number value args ≡ []
no-atom domains number None empty some args = cc
no-atom domains number (Some ty) empty some args = ap (λ (d : List Elem).
    map (λ x. atom_of number args (Some x)) d) empty

-- a function without values has no atom
pub no-atoms : (domains : List (List Elem)) (number : ℕ) (s : Symbol) → IfSome s.value (λ ty. domain_at domains ty ≡ [])
    → IsSome s.value → atoms_of_symbol domains number s ≡ []
no-atoms domains number s empty some = flat_map_nothing (atoms_at domains number s.value)
    (no-atom domains number s.value empty some) (tuples_of domains s.args)

-- the atoms of the symbols from this number on
abbrev pub atoms_from : List Symbol → List (List Elem) → ℕ → List Literal
atoms_from symbols domains n = flat_map (λ s. atoms_of_symbol domains s.0 s.1) (enumerate_from n (drop n symbols))

-- they begin with those of the symbol with this number
pub one-symbol : (symbols : List Symbol) (domains : List (List Elem)) (n : ℕ) (s : Symbol) (old new : List Literal)
    → n < length symbols → s ≡ get_or symbols n s
    → new ≡ old ++ atoms_of_symbol domains n s → new ++ atoms_from symbols domains (n + 1)
    ≡ old ++ atoms_from symbols domains n
one-symbol symbols domains n s old new inside is grown =
    let next : drop n symbols ≡ s ∷ drop (n + 1) symbols = drop_more symbols n s inside
    ∙ ap (λ (x : Symbol). x ∷ drop (n + 1) symbols) (sym is) in
    ap (λ (l : List Literal). l ++ atoms_from symbols domains (n + 1)) grown
    ∙ (append_assoc old (atoms_of_symbol domains n s) (atoms_from symbols domains (n + 1))
    ∙ sym (ap (λ (l : List Symbol). old ++ flat_map (λ s. atoms_of_symbol domains s.0 s.1) (enumerate_from n l)) next))
