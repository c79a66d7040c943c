use Rattle.std.proofs.Common.{◌≡◌, ℕ, Some, length, map, slice_get}
use Rattle.kb_logic.specs.declared.vocabularies.TypeDecl.{TypeDecl}
use Rattle.structure_entries.specs.SaidViews.{said_view}
use Rattle.data_domains.specs.Shares.{IsDeclaredSo}
use Rattle.data_domains.specs.declared.types.TypeData.{TypeData}
use Rattle.data_domains.proofs.types.declared_types.Given as goal

abbrev pub invariant-loop-ty : goal.invariant-loop-ty
invariant-loop-ty l = record {
  count : length l.all.items ≡ l.ty;
  each : (t : ℕ) (d : TypeDecl) (x : TypeData) → slice_get l.types t ≡ Some d → slice_get l.all.items t ≡ Some x
      → IsDeclaredSo l.types (map said_view l.entries) t d x;
}
