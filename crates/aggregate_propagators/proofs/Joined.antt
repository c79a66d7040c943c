-- A constraint is its threshold on its parts.
use Rattle.std.proofs.Common.{◌≡◌, List, ap, ◌∙◌}
use Rattle.kb_logic.specs.declared.elements.ExtInt.{ExtInt}
use Rattle.kb_logic.specs.declared.syntax.AggKind.{AggKind}
use Rattle.lit_core.specs.declared.literals.Lit.{Lit}
use Rattle.ground_core.specs.declared.parts.Part.{Part}
use Rattle.ground_core.specs.declared.parts.AggCon.{AggCon}
use Rattle.aggregate_propagators.specs.declared.thresholds.Threshold.{Threshold}
use Rattle.aggregate_propagators.specs.Thresholds.{amount_of, constraint_of}

abbrev constraint : Lit → AggKind → List Part → ExtInt → AggCon
constraint out kind ps least = record { out = out; kind = kind; parts = ps; least = least }

pub joined : (t : Threshold) (ps : List Part) (c : AggCon) → t.out ≡ c.out → t.kind ≡ c.kind
    → amount_of t.least ≡ c.least → ps ≡ c.parts → constraint_of t ps ≡ c
joined t ps c out kind least parts =
    ap (λ x. constraint x t.kind ps (amount_of t.least)) out ∙ ap (λ x. constraint c.out x ps (amount_of t.least)) kind
    ∙ ap (λ x. constraint c.out c.kind x (amount_of t.least)) parts ∙ ap (constraint c.out c.kind c.parts) least
