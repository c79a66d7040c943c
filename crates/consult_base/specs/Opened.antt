-- Knowledge bases that are consulted.
use Rattle.std.specs.Prelude.{◌<◌, ◌≤◌, ℕ, List, length}
use Rattle.kb_logic.specs.Bases.{Base}
use Rattle.kb_logic.specs.Bounds.{TheoryIsBounded}
use Rattle.kb_logic.specs.KnownAtoms.{KnownAtoms}
use Rattle.kb_text.specs.declared.fault.KbFault.{KbFault}
use Rattle.stage_definitions.specs.FileBases.{base_of_file, theory_at}
use Rattle.stage_definitions.specs.Scopes.{Text}
use Rattle.stage_definitions.specs.SizesStage.{SizesRefuse, size_uses}
use Rattle.type_derivation.specs.TypedViews.{typed_view}
use Rattle.type_derivation.specs.declared.typed.TypedKb.{TypedKb}
use Rattle.def_ground.specs.Groundings.{IsGroundTheory, TermsAreBounded}
use Rattle.narrowed_bases.specs.Narrowings.{IsNarrowing}
use Rattle.narrowed_bases.specs.declared.narrowings.Narrowing.{Narrowing}

-- a file, the number of the chosen theory, the name of the chosen structure, what that structure makes known, and what
-- this is narrowed to
pub record Opened : Type 0 where
  pub typed : TypedKb
  pub theory : ℕ
  pub structure : Text
  pub known : KnownAtoms
  pub narrowing : Narrowing

abbrev pub opened : TypedKb → ℕ → Text → KnownAtoms → Narrowing → Opened
opened typed theory structure known narrowing = record {
  typed = typed;
  theory = theory;
  structure = structure;
  known = known;
  narrowing = narrowing;
}

-- the knowledge base that it is
abbrev pub base_of : Opened → Base
base_of k = base_of_file (typed_view k.typed) k.theory k.known

-- the theory is one of the file's; theory, terms and data are well typed; all terms are bounded, and no size is refused;
-- what the data are narrowed to is found; and there are few symbols
pub record IsKnowledgeBase (k : Opened) : Type 0 where
  pub theory : k.theory < length k.typed.theories
  pub ground : IsGroundTheory (base_of k)
  pub bounded : TheoryIsBounded k.typed.vocab k.known.domains (theory_at (typed_view k.typed) k.theory)
  pub asked : TermsAreBounded (base_of k)
  pub sized : (q : KbFault) → SizesRefuse (size_uses (typed_view k.typed) k.theory k.known.domains) q → ⊥
  pub narrowing : IsNarrowing (base_of k) k.narrowing
  pub numbered : length k.typed.vocab.symbols ≤ 1024
