-- What a session opens with: its unknown atoms and its kept models.
use Rattle.std.proofs.Common.{◌≡◌, ◌∙◌, ℕ, ◌≤◌, List, [], sym, ap, subst, arith, min, ◌-◌, ◌^◌}
use Rattle.std.proofs.lemmas.List.Elements.{All-nil}
use Rattle.kb_logic.specs.declared.elements.Elem.{Elem}
use Rattle.kb_logic.specs.declared.vocabularies.Vocabulary.{Vocabulary}
use Rattle.kb_logic.specs.Weights.{atom_count}
use Rattle.stage_definitions.specs.SizesStage.{capped}
use Rattle.term_values.proofs.Places.{atoms-count}
use Rattle.found_models.specs.Found.{FoundState}
use Rattle.found_models.specs.Models.{atoms_of, IsFoundModel, AreFoundModels}
use Rattle.kb_logic.specs.Bases.{Base}
use Rattle.lit_core.specs.declared.literals.Lit.{Lit}
use Rattle.ground_core.specs.Problems.{ProblemState}
use Rattle.term_values.specs.GroundBases.{GroundBase}
use Rattle.atom_numbers.specs.Unknown.{AreOpen}
use Rattle.forced_literals.specs.OpenTasks.{IsOpenTaskOf}
use Rattle.ground_task.specs.Tasks.{IsTaskOf, atom_base}
use Rattle.session_queries.specs.Solvers.{AreUnknownOf}

-- a session's task and the unknown atoms
pub open-task : (kb : Base) (b : GroundBase) (p : ProblemState) (lits : List Lit) → IsTaskOf kb b p
    → AreUnknownOf kb lits → IsOpenTaskOf kb b p lits
open-task kb b p lits task is = record {
  task = task;
  data_of = is.data_of;
  listed = is.listed;
  unknown = subst (λ (x : GroundBase). AreOpen x kb.known lits) (sym task.numbers) is.unknown;
}

-- the count of the ground atoms, as far as 64 bits go
pub enough-kept : (kb : Base) (v : Vocabulary) (domains : List (List Elem)) (n : ℕ) → v ≡ kb.vocabulary
    → domains ≡ kb.known.domains → n ≡ capped (atom_count v domains) → min (atoms_of kb) (2 ^ 64 - 1) ≤ n
enough-kept kb v domains n same over is =
    let count : atoms_of kb ≡ atom_count kb.vocabulary kb.known.domains = atoms-count (atom_base kb) in
    let here : n ≡ capped (atom_count kb.vocabulary kb.known.domains) =
    is ∙ ap (λ (x : Vocabulary). capped (atom_count x domains)) same
    ∙ ap (λ (ds : List (List Elem)). capped (atom_count kb.vocabulary ds)) over in
    omega (arith, count, here)

-- where none was found, all that were are models
pub none-found : (kb : Base) (f : FoundState) (last : ℕ) → f ≡ record { last = last; models = [] }
    → min (atoms_of kb) (2 ^ 64 - 1) ≤ last → AreFoundModels kb f
none-found kb f last is enough =
    subst (AreFoundModels kb) (sym is) (record { last = enough; models = All-nil (IsFoundModel kb) })
