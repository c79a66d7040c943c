-- The terms of a file that may be asked for.
use Rattle.std.proofs.Common.{◌≡◌, List, [], ◌∷◌, map, refl, ap}
use Rattle.kb_logic.specs.Bases.{NamedTerm}
use Rattle.stage_definitions.specs.FileBases.{named_term}
use Rattle.stage_definitions.specs.TypedFiles.{TypedTermTree}

pub terms-are : (ts : List TypedTermTree)
    → map (λ (t : TypedTermTree). t.term) ts ≡ map (λ (t : NamedTerm). t.term) (map named_term ts)
terms-are [] = refl
terms-are (t ∷ ts) = ap (λ us. t.term ∷ us) (terms-are ts)
