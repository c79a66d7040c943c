-- What commands do to the choices.
use Rattle.std.proofs.Common.{◌≡◌, List, [], ◌∷◌, ◌++◌, refl, sym, ◌∙◌, subst, Bool, true, false, cond, not, Option}
use Rattle.std.proofs.Common.{None, Some, inl, inr}
use Rattle.std.specs.Bool.{Decides}
use Rattle.std.specs.List.{list_any, filter, Contains}
use Rattle.std.proofs.lemmas.Bool.{false≢true}
use Rattle.std.proofs.lemmas.Bool.Decides.{Decides-not}
use Rattle.std.proofs.lemmas.Map.Views.{Contains-from_any}
use Rattle.kb_logic.specs.declared.structures.Literal.{Literal}
use Rattle.kb_logic.specs.Bases.{Base}
use Rattle.kb_logic.specs.Structures.{IsDistinct}
use Rattle.kb_logic.proofs.Members.{member_cases, from_filter, none_in, distinct-append, one_is_some}
use Rattle.consult_text.specs.declared.commands.Command.TheVariants as command
use Rattle.consult_text.specs.declared.refusals.F.{F}
use Rattle.consult_text.specs.declared.refusals.F.TheVariants as refusal
use Rattle.consult_text.specs.States.{State, same_literal, is_chosen, is_known, refused_where, command_refusal}
use Rattle.consult_text.specs.States.{carried_out, unless_refused, state_after}
use Rattle.consultant_session.specs.Laws.{SameLiteralIsEquality, ChosenIsMembership, WithoutRemovesOne}
use Rattle.consultant_session.specs.Laws.{ChoicesStayDistinct, BudgetStays, OppositeChoicesHaveNoModel, opposite}
use Rattle.kb_logic.specs.Models.{HoldsIn}
use Rattle.consultant_session.proofs.MemberLemmas.{all_at, contains_filter, filter_contains}
use Rattle.kept_answers.proofs.LiteralLemmas.{same_literal_decides, opposites_clash}

pub same_literal_is_equality : SameLiteralIsEquality
same_literal_is_equality a b = same_literal_decides a b

among_contains : (l : Literal) (choices : List Literal) → list_any (same_literal l) choices ≡ true → Contains choices l
among_contains l choices = Contains-from_any (λ a b. (same_literal_decides a b).0) l choices

contains_among : (l : Literal) (choices : List Literal) → Contains choices l → list_any (same_literal l) choices ≡ true
contains_among l choices contains = one_is_some (same_literal l) choices l contains ((same_literal_decides l l).1 refl)

pub chosen_is_membership : ChosenIsMembership
chosen_is_membership s l = (among_contains l s.choices, contains_among l s.choices)

other_decides : (l c : Literal) → Decides (not (same_literal l c)) (l ≡ c → ⊥)
other_decides l c = Decides-not (same_literal l c) (same_literal_decides l c)

pub without_removes_one : WithoutRemovesOne
without_removes_one l c choices = (
  (λ contains. (
    from_filter (λ d. not (same_literal l d)) choices c contains,
    (λ same. (other_decides l c).0 (filter_contains (λ d. not (same_literal l d)) choices c contains) (sym same)),
  )),
  (λ other. contains_filter (λ d. not (same_literal l d)) choices c
      ((other_decides l c).1 (λ same. other.1 (sym same))) other.0),
)

distinct_push : (choices : List Literal) (l : Literal) → IsDistinct choices → (Contains choices l → ⊥)
    → IsDistinct (choices ++ l ∷ [])
distinct_push choices l distinct absent =
    distinct-append choices (l ∷ []) distinct (none_in l, tt) (λ z before last.
    elim (member_cases l z [] last) [
      | inl same ↦ absent (subst (λ (d : Literal). Contains choices d) (sym same) before)
      | inr none ↦ none_in z none
    ])

distinct_filter : (passes : Literal → Bool) (choices : List Literal) → IsDistinct choices
    → IsDistinct (filter passes choices)
distinct_filter passes [] distinct = tt
distinct_filter passes (c ∷ choices) distinct =
    let rest : IsDistinct (filter passes choices) = distinct_filter passes choices distinct.1 in
    elim (passes c) as (λ (b : Bool). IsDistinct (cond b (c ∷ filter passes choices) (filter passes choices)))
    [ true ↦ ((λ contains. distinct.0 (from_filter passes choices c contains)), rest) | false ↦ rest ]

asserted_distinct : (kb : Base) (s : State) (l : Literal) → IsDistinct s.choices
    → IsDistinct (state_after kb s (command.Assert l)).choices
asserted_distinct kb s l distinct =
    let after : Option F → State = λ refused. unless_refused refused s (carried_out s (command.Assert l)) in
    let added : (b : Bool) → is_chosen s l ≡ b
    → IsDistinct (after (refused_where b refusal.AlreadyChosen None)).choices =
    λ b. elim b as (λ (b : Bool). is_chosen s l ≡ b
    → IsDistinct (after (refused_where b refusal.AlreadyChosen None)).choices) [
      | true ↦ (λ chosen. distinct)
      | false ↦ (λ new. distinct_push s.choices l distinct
          (λ contains. false≢true (sym new ∙ contains_among l s.choices contains)))
    ] in
    elim (is_known kb l) as (λ (b : Bool).
    IsDistinct (after (refused_where b refusal.GivenByData
    (refused_where (is_chosen s l) refusal.AlreadyChosen None))).choices)
    [ true ↦ distinct | false ↦ added (is_chosen s l) refl ]

pub choices_stay_distinct : ChoicesStayDistinct
choices_stay_distinct kb s (command.Assert l) distinct = asserted_distinct kb s l distinct
choices_stay_distinct kb s (command.Retract l) distinct =
    elim (is_chosen s l) as (λ (b : Bool).
    IsDistinct (unless_refused (refused_where (not b) refusal.NotChosen None) s
    (carried_out s (command.Retract l))).choices)
    [ true ↦ distinct_filter (λ d. not (same_literal l d)) s.choices distinct | false ↦ distinct ]
choices_stay_distinct kb s command.Reset distinct = tt
choices_stay_distinct kb s command.Choices distinct = distinct
choices_stay_distinct kb s command.Model distinct = distinct
choices_stay_distinct kb s (command.Models n) distinct = distinct
choices_stay_distinct kb s command.Propagate distinct = distinct
choices_stay_distinct kb s (command.Minimize t) distinct = distinct
choices_stay_distinct kb s (command.Explain l) distinct = distinct
choices_stay_distinct kb s command.Why distinct = distinct
choices_stay_distinct kb s (command.Budget b) distinct = distinct
choices_stay_distinct kb s command.Forget distinct = distinct

stays_where_kept : (refused : Option F) (s t : State) → t.budget ≡ s.budget
    → (unless_refused refused s t).budget ≡ s.budget
stays_where_kept None s t kept = kept
stays_where_kept (Some f) s t kept = refl

pub budget_stays : BudgetStays
budget_stays kb s (command.Assert l) other = stays_where_kept (command_refusal kb s (command.Assert l)) s
    (carried_out s (command.Assert l)) refl
budget_stays kb s (command.Retract l) other = stays_where_kept (command_refusal kb s (command.Retract l)) s
    (carried_out s (command.Retract l)) refl
budget_stays kb s command.Reset other = refl
budget_stays kb s command.Choices other = refl
budget_stays kb s command.Model other = refl
budget_stays kb s (command.Models n) other = refl
budget_stays kb s command.Propagate other = refl
budget_stays kb s (command.Minimize t) other = refl
budget_stays kb s (command.Explain l) other = refl
budget_stays kb s command.Why other = refl
budget_stays kb s (command.Budget b) other = absurd (other b refl)
budget_stays kb s command.Forget other = refl

pub opposite_choices_have_no_model : OppositeChoicesHaveNoModel
opposite_choices_have_no_model kb s l m chosen opposite_chosen model =
    opposites_clash m l (all_at (HoldsIn m) s.choices l model.chosen chosen)
    (all_at (HoldsIn m) s.choices (opposite l) model.chosen opposite_chosen)
