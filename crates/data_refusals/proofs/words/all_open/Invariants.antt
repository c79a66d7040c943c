use Rattle.std.proofs.Common.{◌≡◌, List, drop}
use Rattle.std.specs.List.{list_all}
use Rattle.kb_logic.specs.declared.vocabularies.TypeDecl.{TypeDecl}
use Rattle.stage_definitions.specs.DataEntries.{Said}
use Rattle.data_domains.specs.TypeSets.{AreTypesOf}
use Rattle.data_refusals.specs.Words.{is_open}
use Rattle.data_refusals.proofs.words.all_open.Given as goal

abbrev pub invariant-loop-ty : goal.invariant-loop-ty
invariant-loop-ty l = (all : List TypeDecl) (es : List Said) → AreTypesOf all es l.types
    → list_all (is_open all es) (drop l.ty-index l.args) ≡ list_all (is_open all es) l.args
