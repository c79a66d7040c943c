-- The rows of the stage of types, by constructors and by causes.
use Rattle.std.proofs.Common.{◌≡◌, IsTrue, false, [], ◌∷◌, None, Some, fold, refl, Contains}
use Rattle.kb_text.specs.declared.fault.K.TheVariants as k
use Rattle.kb_text.specs.declared.fault.KbFault.{KbFault}
use Rattle.stage_definitions.specs.Earliest.{IsEarliest, IsRowOf, row}
use Rattle.stage_definitions.specs.Numbering.{NamedFile}
use Rattle.stage_definitions.specs.TypesStage.{place_of_type_use, type_uses_of_file, TypesRefuse, type_clash, no_type}
use Rattle.stage_definitions.specs.TypesStage.{is_type_refused, type_causes, type_noted}
use Rattle.stage_definitions.proofs.EarliestLaws.{contains_head, contains_tail, nothing_noted, earliest_noted}
use Rattle.stage_definitions.proofs.EarliestLaws.{earliest_of_same}

abbrev Row : NamedFile → KbFault → Type 0
Row f = IsRowOf (is_type_refused f.vocabulary.types) place_of_type_use type_causes (type_uses_of_file f)

no_row : {Q : Type 0} → IsTrue false → Q
no_row h = absurd (let n : ⊥ = cc in n)

to_rows : (f : NamedFile) (q : KbFault) → Row f q → TypesRefuse f q
to_rows f _ (row u k.Syntax there among holds) = no_row holds
to_rows f _ (row u k.UnknownName there among holds) = no_row holds
to_rows f _ (row u k.Redeclared there among holds) = no_row holds
to_rows f _ (row u k.WrongArity there among holds) = no_row holds
to_rows f _ (row u k.TypeClash there among holds) = type_clash u there holds
to_rows f _ (row u k.Untyped there among holds) = no_type u there holds
to_rows f _ (row u k.TypeNotGiven there among holds) = no_row holds
to_rows f _ (row u k.NotAnElement there among holds) = no_row holds
to_rows f _ (row u k.DataClash there among holds) = no_row holds
to_rows f _ (row u k.Unsupported there among holds) = no_row holds
to_rows f _ (row u k.BadHead there among holds) = no_row holds
to_rows f _ (row u k.OutOfRange there among holds) = no_row holds
to_rows f _ (row u k.TooLarge there among holds) = no_row holds
to_rows f _ (row u k.TooLong there among holds) = no_row holds
to_rows f _ (row u k.TooDeep there among holds) = no_row holds
to_rows f _ (row u k.BlockChoice there among holds) = no_row holds

first : Contains type_causes k.TypeClash
first = contains_head k.TypeClash (k.Untyped ∷ []) k.TypeClash refl

second : Contains type_causes k.Untyped
second = contains_tail k.TypeClash (k.Untyped ∷ []) k.Untyped (contains_head k.Untyped [] k.Untyped refl)

from_rows : (f : NamedFile) (q : KbFault) → TypesRefuse f q → Row f q
from_rows f _ (type_clash u there holds) = row u k.TypeClash there first holds
from_rows f _ (no_type u there holds) = row u k.Untyped there second holds

-- where nothing was noted nothing is refused
pub nothing_refused : (f : NamedFile) → fold (type_noted f.vocabulary.types) None (type_uses_of_file f) ≡ None
    → (q : KbFault) → TypesRefuse f q → ⊥
nothing_refused f e q h = nothing_noted (is_type_refused f.vocabulary.types) place_of_type_use type_causes
    (type_uses_of_file f) e q (from_rows f q h)

-- what was noted is the earliest refusal
pub earliest_refused : (f : NamedFile) (r : KbFault) → fold (type_noted f.vocabulary.types) None (type_uses_of_file f)
    ≡ Some r → IsEarliest (TypesRefuse f) r
earliest_refused f r e =
    earliest_of_same (Row f) (TypesRefuse f) r (to_rows f) (from_rows f)
    (earliest_noted (is_type_refused f.vocabulary.types) place_of_type_use type_causes (type_uses_of_file f) r e)
