-- The rows of the tables of data and sizes, at uses of which none is refused.
use Rattle.std.proofs.Common.{◌≡◌, ℕ, Bool, false, List, length, refl, arith, Contains, ◌++◌, ◌⊎◌, inl, inr}
use Rattle.std.proofs.lemmas.Bool.{false_from_ne_true}
use Rattle.std.proofs.lemmas.List.Elements.{Contains-append_left, Contains-append_right, Contains-append_cases}
use Rattle.kb_text.specs.declared.fault.K.{K}
use Rattle.kb_text.specs.declared.fault.K.TheVariants as k
use Rattle.kb_text.specs.declared.fault.KbFault.{KbFault}
use Rattle.kb_logic.specs.declared.vocabularies.TypeDecl.{TypeDecl}
use Rattle.stage_definitions.specs.Earliest.{refusal, IsRowOf, row}
use Rattle.stage_definitions.specs.DataEntries.{Said, said_in}
use Rattle.stage_definitions.specs.DataStage.{DataUse, place_of_data_use, structure_uses, argument_uses}
use Rattle.stage_definitions.specs.DataStage.{is_data_refused}
use Rattle.stage_definitions.specs.DataStage.{data_causes, DataRefuse}
use Rattle.reading_laws.specs.DataLaws.{AcceptedIsGiven, RefusalsAreParted}

-- ---- the causes

long : length data_causes ≡ 9
long = refl

pub redeclared : Contains data_causes k.Redeclared
redeclared = (1, omega (arith, long), refl)

pub not_given : Contains data_causes k.TypeNotGiven
not_given = (3, omega (arith, long), refl)

pub no_element : Contains data_causes k.NotAnElement
no_element = (4, omega (arith, long), refl)

pub data_clash : Contains data_causes k.DataClash
data_clash = (5, omega (arith, long), refl)

pub unsupported : Contains data_causes k.Unsupported
unsupported = (6, omega (arith, long), refl)

pub out_of_range : Contains data_causes k.OutOfRange
out_of_range = (7, omega (arith, long), refl)

pub too_large : Contains data_causes k.TooLarge
too_large = (8, omega (arith, long), refl)

-- ---- uses of which none is refused

-- no row for a cause holds of any of these uses
abbrev pub AreFine : List TypeDecl → List Said → List DataUse → Type 0
AreFine types es us = (u : DataUse) → Contains us u → (cause : K) → Contains data_causes cause
    → is_data_refused types es u cause ≡ false

pub fine : (types : List TypeDecl) (es : List Said) (us : List DataUse) → ((q : KbFault) → DataRefuse types es us q → ⊥)
    → AreFine types es us
fine types es us accepted u among cause of =
    false_from_ne_true (is_data_refused types es u cause) (λ h. accepted (refusal cause (place_of_data_use u))
    (row u cause among of h))

-- ---- two lists of uses

module _ {U : Type 0} (test : U → K → Bool) (place : U → ℕ) (causes : List K) where
  pub in_either : (us vs : List U) (q : KbFault) → IsRowOf test place causes (us ++ vs) q
      → IsRowOf test place causes us q ⊎ IsRowOf test place causes vs q
  in_either us vs _ (row u cause among of h) = elim (Contains-append_cases us vs u among) [
    | inl c ↦ inl (row u cause c of h)
    | inr c ↦ inr (row u cause c of h)
  ]

  pub from_first : (us vs : List U) (q : KbFault) → IsRowOf test place causes us q
      → IsRowOf test place causes (us ++ vs) q
  from_first us vs _ (row u cause among of h) = row u cause (Contains-append_left us vs u among) of h

  pub from_second : (us vs : List U) (q : KbFault) → IsRowOf test place causes vs q
      → IsRowOf test place causes (us ++ vs) q
  from_second us vs _ (row u cause among of h) = row u cause (Contains-append_right us vs u among) of h

pub refusals_are_parted : RefusalsAreParted
refusals_are_parted f theory s q =
    let types = f.vocabulary.types in
    let es = said_in f.vocabulary s in
    let own = structure_uses types f.places.types es in
    let beside = argument_uses f theory in (
      in_either (is_data_refused types es) place_of_data_use data_causes own beside q,
      λ h. elim h [
        | inl r ↦ from_first (is_data_refused types es) place_of_data_use data_causes own beside q r
        | inr r ↦ from_second (is_data_refused types es) place_of_data_use data_causes own beside q r
      ],
    )

pub accepted_is_given : AcceptedIsGiven
accepted_is_given f theory s answer given_data =
    let types = f.vocabulary.types in
    let es = said_in f.vocabulary s in
    record {
      accepted = λ q h. given_data.accepted q (from_first (is_data_refused types es) place_of_data_use data_causes
          (structure_uses types f.places.types es) (argument_uses f theory) q h);
      given = given_data.given;
    }
