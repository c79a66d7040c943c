-- Choices over the knowledge base, and their atoms.
use Rattle.std.proofs.Common.{◌≡◌, List, [], ◌∷◌, ◌++◌, sym, subst, Bool, true, false, cond}
use Rattle.std.specs.List.{AllByRecursion, filter}
use Rattle.kb_logic.specs.declared.structures.Literal.{Literal}
use Rattle.kb_logic.specs.declared.vocabularies.Symbol.{Symbol}
use Rattle.kb_logic.specs.KnownAtoms.{KnownAtoms}
use Rattle.kb_logic.specs.Models.{IsAtomOver, atom_of}
use Rattle.kb_logic.proofs.Atoms.{elements_tuple}
use Rattle.consult_base.specs.Opened.{Opened, base_of, IsKnowledgeBase}
use Rattle.consult_text.specs.Literals.{IsLiteralOver}

-- the atom of a literal over the knowledge base is one of its data
pub known_over : (kb : Opened) (known : KnownAtoms) (l : Literal) → known ≡ kb.known → IsKnowledgeBase kb
    → IsLiteralOver (base_of kb) l
    → IsAtomOver known.symbols known.domains (atom_of l)
known_over kb known l same is over =
    let here : IsAtomOver kb.typed.vocab.symbols kb.known.domains (atom_of l) =
    (over.symbol, over.declared, elements_tuple kb.known.domains over.symbol.args l.args over.args, over.value) in
    let there : IsAtomOver kb.known.symbols kb.known.domains (atom_of l) =
    subst (λ (ss : List Symbol). IsAtomOver ss kb.known.domains (atom_of l)) (sym is.ground.known.symbols) here in
    subst (λ (k : KnownAtoms). IsAtomOver k.symbols k.domains (atom_of l)) (sym same) there

-- what holds of each of a list holds of each that passes a test
pub all_filter : {T : Type 0} (W : T → Type 0) (passes : T → Bool) (xs : List T) → AllByRecursion W xs
    → AllByRecursion W (filter passes xs)
all_filter W passes [] all = tt
all_filter {T} W passes (x ∷ xs) all =
    elim (passes x) as (λ (b : Bool). AllByRecursion W (cond b (x ∷ filter passes xs) (filter passes xs)))
    [ true ↦ (all.0, all_filter W passes xs all.1) | false ↦ all_filter W passes xs all.1 ]

pub all_append : {T : Type 0} (W : T → Type 0) (xs ys : List T) → AllByRecursion W xs → AllByRecursion W ys
    → AllByRecursion W (xs ++ ys)
all_append W [] ys front back = back
all_append W (x ∷ xs) ys front back = (front.0, all_append W xs ys front.1 back)
