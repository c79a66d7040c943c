-- The rows of the stage of names, by constructors and by causes.
use Rattle.std.proofs.Common.{◌≡◌, IsTrue, false, List, None, Some, fold, refl, arith, Contains}
use Rattle.kb_text.specs.declared.fault.K.TheVariants as k
use Rattle.kb_text.specs.declared.fault.KbFault.{KbFault}
use Rattle.stage_definitions.specs.Earliest.{IsEarliest, IsRowOf, row}
use Rattle.stage_definitions.specs.Names.{Names}
use Rattle.stage_definitions.specs.Uses.{Use, place_of_use}
use Rattle.stage_definitions.specs.NamesStage.{Refuses, unknown_name, redeclared, wrong_arity, unsupported, bad_head}
use Rattle.stage_definitions.specs.NamesStage.{too_large, is_refused, name_causes, name_noted}
use Rattle.stage_definitions.proofs.EarliestLaws.{nothing_noted, earliest_noted}
use Rattle.stage_definitions.proofs.EarliestLaws.{earliest_of_same}

abbrev Row : Names → List Use → KbFault → Type 0
Row names us = IsRowOf (is_refused names) place_of_use name_causes us

no_row : {Q : Type 0} → IsTrue false → Q
no_row h = absurd (let n : ⊥ = cc in n)

to_rows : (names : Names) (us : List Use) (q : KbFault) → Row names us q → Refuses names us q
to_rows names us _ (row u k.Syntax there among holds) = no_row holds
to_rows names us _ (row u k.UnknownName there among holds) = unknown_name u there holds
to_rows names us _ (row u k.Redeclared there among holds) = redeclared u there holds
to_rows names us _ (row u k.WrongArity there among holds) = wrong_arity u there holds
to_rows names us _ (row u k.TypeClash there among holds) = no_row holds
to_rows names us _ (row u k.Untyped there among holds) = no_row holds
to_rows names us _ (row u k.TypeNotGiven there among holds) = no_row holds
to_rows names us _ (row u k.NotAnElement there among holds) = no_row holds
to_rows names us _ (row u k.DataClash there among holds) = no_row holds
to_rows names us _ (row u k.Unsupported there among holds) = unsupported u there holds
to_rows names us _ (row u k.BadHead there among holds) = bad_head u there holds
to_rows names us _ (row u k.OutOfRange there among holds) = no_row holds
to_rows names us _ (row u k.TooLarge there among holds) = too_large u there holds
to_rows names us _ (row u k.TooLong there among holds) = no_row holds
to_rows names us _ (row u k.TooDeep there among holds) = no_row holds
to_rows names us _ (row u k.BlockChoice there among holds) = no_row holds

first : Contains name_causes k.UnknownName
first = (0, omega arith, refl)

second : Contains name_causes k.Redeclared
second = (1, omega arith, refl)

third : Contains name_causes k.WrongArity
third = (2, omega arith, refl)

fourth : Contains name_causes k.Unsupported
fourth = (3, omega arith, refl)

fifth : Contains name_causes k.BadHead
fifth = (4, omega arith, refl)

sixth : Contains name_causes k.TooLarge
sixth = (5, omega arith, refl)

from_rows : (names : Names) (us : List Use) (q : KbFault) → Refuses names us q → Row names us q
from_rows names us _ (unknown_name u there holds) = row u k.UnknownName there first holds
from_rows names us _ (redeclared u there holds) = row u k.Redeclared there second holds
from_rows names us _ (wrong_arity u there holds) = row u k.WrongArity there third holds
from_rows names us _ (unsupported u there holds) = row u k.Unsupported there fourth holds
from_rows names us _ (bad_head u there holds) = row u k.BadHead there fifth holds
from_rows names us _ (too_large u there holds) = row u k.TooLarge there sixth holds

-- where nothing was noted nothing is refused
pub nothing_refused : (names : Names) (us : List Use) → fold (name_noted names) None us ≡ None → (q : KbFault)
    → Refuses names us q → ⊥
nothing_refused names us e q h = nothing_noted (is_refused names) place_of_use name_causes us e q
    (from_rows names us q h)

-- what was noted is the earliest refusal
pub earliest_refused : (names : Names) (us : List Use) (r : KbFault) → fold (name_noted names) None us ≡ Some r
    → IsEarliest (Refuses names us) r
earliest_refused names us r e =
    earliest_of_same (Row names us) (Refuses names us) r (to_rows names us) (from_rows names us)
    (earliest_noted (is_refused names) place_of_use name_causes us r e)
