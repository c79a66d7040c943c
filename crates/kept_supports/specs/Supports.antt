-- Literals that were found to be forced, each with choices that alone force it.
use Rattle.std.specs.Prelude.{◌==◌, ◌&&◌, ◌||◌, not, ℕ, Bool, true, false, List, Any, filter}
use Rattle.std.specs.Prelude.{◌≡◌, length}
use Rattle.std.specs.List.{list_any}
use Rattle.kb_logic.specs.declared.structures.Literal.{Literal}
use Rattle.kb_logic.specs.Bases.{Base}
use Rattle.kb_logic.specs.InForce.{InForce, Forces}
use Rattle.kb_logic.specs.Models.{atom_of}
use Rattle.lit_core.specs.declared.literals.Lit.{Lit}
use Rattle.lit_core.specs.Literals.{negated}
use Rattle.partial_structures.specs.KnownAtoms.{value_at}
use Rattle.term_values.specs.GroundBases.{GroundBase}
use Rattle.atom_numbers.specs.Numbers.{HasNumber}
use Rattle.atom_numbers.specs.Unknown.{is_unknown}
use Rattle.consequences.specs.declared.kept.Kept.{Kept}
use Rattle.ground_task.specs.Choices.{AreChosen}
use Rattle.ground_task.specs.Tasks.{atom_base}

abbrev pub same_sign : Bool → Bool → Bool
same_sign true b = b
same_sign false b = not b

-- the literals are of the same variable, with the same sign
abbrev pub same_lit : Lit → Lit → Bool
same_lit a b = (a.var.0 == b.var.0) && same_sign a.positive b.positive

-- the literal is one of these
abbrev pub has_lit : Lit → List Lit → Bool
has_lit l ls = list_any (same_lit l) ls

-- the literal is kept
abbrev pub is_kept : List Kept → Lit → Bool
is_kept ks l = list_any (λ k. same_lit l k.lit) ks

-- it is kept, or its negation is
abbrev pub is_decided : List Kept → Lit → Bool
is_decided ks l = is_kept ks l || is_kept ks (negated l)

-- those of the literals of which neither they nor their negations are kept
abbrev pub undecided : List Kept → List Lit → List Lit
undecided ks ls = filter (λ l. not (is_decided ks l)) ls

-- those of the literals that are kept
abbrev pub kept_of : List Kept → List Lit → List Lit
kept_of ks ls = filter (is_kept ks) ls

-- those whose support lacks the literal
abbrev pub without_support : Lit → List Kept → List Kept
without_support l ks = filter (λ k. not (has_lit l k.support)) ks

-- those that need no support
abbrev pub unsupported : List Kept → List Kept
unsupported ks = filter (λ k. length k.support == 0) ks

-- the literal is true in all models under some of the choices, which are its support
pub record IsSupported (kb : Base) (choices : List Literal) (k : Kept) : Type 0 where
  pub literal : Literal
  pub number : HasNumber (atom_base kb) literal k.lit
  pub some : List Literal
  pub chosen : AreChosen (atom_base kb) choices k.support some
  pub forces : Forces kb (record { choices = some }) literal

-- every literal of an atom that the data leave unknown that is true in all models under the choices is kept
abbrev pub Covers : Base → InForce → List Kept → Type 0
Covers kb p ks = (l : Literal) (lit : Lit) → HasNumber (atom_base kb) l lit
    → is_unknown (value_at kb.known (atom_of l)) ≡ true → Forces kb p l → Any (λ k. k.lit ≡ lit) ks
