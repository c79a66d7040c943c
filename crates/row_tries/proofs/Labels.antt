-- Equality of labels and rows.
use Rattle.std.proofs.Common.{◌≡◌, ◌&&◌, refl, ap, ◌==◌}
use Rattle.row_tries.specs.Rows.{same_label, same_edge}
use Rattle.row_tries.specs.declared.rows.Edge.{Edge}
use Rattle.row_tries.specs.declared.rows.Label.{Label}
use Rattle.row_tries.specs.declared.rows.Label.TheVariants.{Symbol, Word, Number}
use Rattle.row_tries.specs.contracts.rows.LabelPartialEq.TheImpl.{ghosts as label_equality}
use Rattle.row_tries.specs.contracts.rows.EdgePartialEq.TheImpl.{ghosts as edge_equality}

pub label_test : (a b : Label) → label_equality.eq a b ≡ same_label a b
label_test (Symbol a) (Symbol b) = refl
label_test (Symbol a) (Word b) = refl
label_test (Symbol a) (Number b) = refl
label_test (Word a) (Symbol b) = refl
label_test (Word a) (Word b) = refl
label_test (Word a) (Number b) = refl
label_test (Number a) (Symbol b) = refl
label_test (Number a) (Word b) = refl
label_test (Number a) (Number b) = refl

pub edge_test : (a b : Edge) → edge_equality.eq a b ≡ same_edge a.parent a.label b
edge_test a b = ap (λ t. (a.parent == b.parent) && t) (label_test a.label b.label)
