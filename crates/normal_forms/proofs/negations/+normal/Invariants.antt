use Rattle.std.proofs.Common.{◌≡◌, map, take}
use Rattle.kb_logic.specs.Views.{formula_view}
use Rattle.normal_forms.specs.NormalForms.{normal_form}
use Rattle.normal_forms.proofs.negations.+normal.Given as goal

abbrev pub invariant-normal_list-loop-part : goal.invariant-normal_list-loop-part
invariant-normal_list-loop-part l = map formula_view l.normals.items ≡ map (normal_form l.sign)
    (map formula_view (take l.part-index l.parts))
