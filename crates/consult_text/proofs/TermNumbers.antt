-- The number of a term block in a knowledge base.
use Rattle.std.proofs.Common.{◌≡◌, ℕ, ◌+◌, List, [], ◌∷◌, map, Bool, not, cond, refl, sym, ap, ◌∙◌}
use Rattle.std.specs.List.{position, prefix_len}
use Rattle.std.specs.Str.{bytes_eq}
use Rattle.std.proofs.lemmas.List.{length-map}
use Rattle.kb_logic.specs.declared.syntax.Term.{Term}
use Rattle.kb_logic.specs.Bases.{NamedTerm}
use Rattle.stage_definitions.specs.TypedFiles.{TypedTermTree}
use Rattle.stage_definitions.specs.FileBases.{named_term}
use Rattle.type_derivation.specs.declared.typed.Named.{Named}
use Rattle.type_derivation.specs.TypedViews.{named_term_view}
use Rattle.consult_base.specs.Opened.{Opened, base_of}
use Rattle.consult_text.specs.Lines.{term_number}

prefix_map : {X Y : Type 0} (f : X → Y) (p : Y → Bool) (xs : List X)
    → prefix_len p (map f xs) ≡ prefix_len (λ x. p (f x)) xs
prefix_map f p [] = refl
prefix_map f p (x ∷ xs) = ap (λ (n : ℕ). cond (p (f x)) (1 + n) 0) (prefix_map f p xs)

position_map : {X Y : Type 0} (f : X → Y) (p : Y → Bool) (xs : List X)
    → position p (map f xs) ≡ position (λ x. p (f x)) xs
position_map f p xs = rw (prefix_map f (λ y. not (p y)) xs, length-map xs f) refl

-- it is the number among the file's blocks
pub number_among : (kb : Opened) (blocks : List (Named Term)) (name : List ℕ) → blocks ≡ kb.typed.terms
    → term_number (base_of kb) name ≡ position (λ b. bytes_eq name b.name) blocks
number_among kb blocks name same =
    let called : NamedTerm → Bool = λ t. bytes_eq name t.name in
    position_map named_term called (map named_term_view kb.typed.terms)
    ∙ position_map named_term_view (λ (t : TypedTermTree). called (named_term t)) kb.typed.terms
    ∙ ap (position (λ (b : Named Term). bytes_eq name b.name)) (sym same)
