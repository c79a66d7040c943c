-- Marks of symbols.
use Rattle.std.proofs.Common.{◌-◌}
use Rattle.std.proofs.Common.{◌≡◌, ◌<◌, ℕ, zero, suc, ◌+◌, List, [], ◌∷◌, ◌++◌, map, length, set, slice_get, Bool, true}
use Rattle.std.proofs.Common.{false, ◌||◌, Some, nat_eq, refl, sym, ap, ◌∙◌, arith, inl, inr, eq-eqb, get_or, take}
use Rattle.std.proofs.lemmas.Bool.{cases_Bool, eqb-true}
use Rattle.std.proofs.lemmas.List.{length-set}
use Rattle.clause_base.proofs.ListFacts.{slice_get-set_same, slice_get-set_other}
use Rattle.std.proofs.lemmas.Option.{slice_get-get_or}
use Rattle.kb_logic.specs.declared.syntax.Rule.{Rule}
use Rattle.kb_logic.specs.Trees.{DefinitionTree}
use Rattle.kb_logic.specs.Views.{rule_view}
use Rattle.term_values.specs.GroundBases.{GroundBase}
use Rattle.term_values.proofs.Offsets.{some-same}
use Rattle.def_ground.specs.Definitions.{is_defined}
use Rattle.definition_walk.specs.declared.bodies.Bodies.{Bodies}
use Rattle.definition_walk.specs.declared.symbols.Span.{Span}
use Rattle.definition_walk.specs.Marks.{HaveMarks, Spans}
use Rattle.definition_walk.specs.Steps.{HasLists}
use Rattle.definition_walk.proofs.SymbolSteps.{vars-rise, item-at}

or-one : (t : Bool) → (t || false) ≡ t
or-one true = refl
or-one false = refl

or-all : (t : Bool) → (t || true) ≡ true
or-all true = refl
or-all false = refl

or-parts : (a c e : Bool) → (a || (c || e)) ≡ ((a || c) || e)
or-parts true c e = refl
or-parts false c e = refl

abbrev pub rules_defined : List Rule → DefinitionTree
rules_defined rs = record { rules = map rule_view rs }

-- one rule more defines its symbol
defined-next : (rs : List Rule) (k : ℕ) (r : Rule) (s : ℕ) → k < length rs → r ≡ get_or rs k r
    → is_defined (rules_defined (take (k + 1) rs)) s ≡ (is_defined (rules_defined (take k rs)) s || nat_eq r.symbol s)
defined-next [] k r s h is = absurd (omega (arith, h))
defined-next (q ∷ rs) zero r s h is =
    or-one (nat_eq q.symbol s) ∙ ap (λ (x : Rule). nat_eq x.symbol s) (sym is)
defined-next (q ∷ rs) (suc k) r s h is =
    let next : suc k + 1 ≡ suc (k + 1) = omega arith in
    ap (λ m. is_defined (rules_defined (take m (q ∷ rs))) s) next
    ∙ ap (λ t. nat_eq q.symbol s || t) (defined-next rs k r s (omega (arith, h)) is)
    ∙ or-parts (nat_eq q.symbol s) (is_defined (rules_defined (take k rs)) s) (nat_eq r.symbol s)

-- no mark more
pub unmarked-next : (marks : List Bool) → HaveMarks (record { rules = [] }) marks
    → HaveMarks (record { rules = [] }) (marks ++ false ∷ [])
unmarked-next marks h s within = by marks h s within
  where
    by : (xs : List Bool) → ((s : ℕ) → s < length xs → slice_get xs s ≡ Some false)
        → (s : ℕ) → s < length (xs ++ false ∷ []) → slice_get (xs ++ false ∷ []) s ≡ Some false
    by [] h zero w = refl
    by [] h (suc n) w = absurd (omega (arith, w))
    by (x ∷ xs) h zero w = h zero (omega arith)
    by (x ∷ xs) h (suc n) w = by xs (λ k b. h (suc k) (omega (arith, b))) n (omega (arith, w))

module _ (rs : List Rule) (k : ℕ) (r : Rule) (within : k < length rs) (is : r ≡ get_or rs k r) (marks : List Bool)
    (have : HaveMarks (rules_defined (take k rs)) marks) where
  -- the rule's symbol is marked
  pub marked-next : r.symbol < length marks → HaveMarks (rules_defined (take (k + 1) rs)) (set marks r.symbol true)
  marked-next inside s below =
      let size = length-set marks r.symbol true in
      let before = have s (omega (arith, below, size)) in
      let next = defined-next rs k r s within is in
      elim (cases_Bool (nat_eq r.symbol s)) [
        | inl e ↦
            let same : r.symbol ≡ s = eqb-true r.symbol s e in
            ap (slice_get (set marks r.symbol true)) (sym same) ∙ slice_get-set_same marks r.symbol true inside
            ∙ ap Some (sym (next ∙ ap (λ t. is_defined (rules_defined (take k rs)) s || t) e
            ∙ or-all (is_defined (rules_defined (take k rs)) s)))
        | inr e ↦
            slice_get-set_other marks r.symbol s true
            (λ q. absurd (let c : nat_eq r.symbol s ≡ true = eq-eqb r.symbol s (sym q) in
            let f : true ≡ false = sym c ∙ e in cc))
            ∙ before
            ∙ ap Some (sym (next ∙ ap (λ t. is_defined (rules_defined (take k rs)) s || t) e
            ∙ or-one (is_defined (rules_defined (take k rs)) s)))
      ]

  -- it is beyond all marks
  pub unmarked-rule : (length marks < r.symbol + 1) → HaveMarks (rules_defined (take (k + 1) rs)) marks
  unmarked-rule past s below =
      let before = have s below in
      let next = defined-next rs k r s within is in
      elim (cases_Bool (nat_eq r.symbol s)) [
        | inl e ↦ let same : r.symbol ≡ s = eqb-true r.symbol s e in absurd (omega (arith, same, past, below))
        | inr e ↦
            before ∙ ap Some (sym (next ∙ ap (λ t. is_defined (rules_defined (take k rs)) s || t) e
            ∙ or-one (is_defined (rules_defined (take k rs)) s)))
      ]

-- a symbol's mark says whether it is defined
pub mark-is : (d : DefinitionTree) (marks : List Bool) → HaveMarks d marks → (k : ℕ) (t : Bool) → k < length marks
    → get_or marks k false ≡ t → t ≡ is_defined d k
mark-is d marks have k t inside h =
    sym h ∙ some-same (get_or marks k false) (is_defined d k)
    (sym (slice_get-get_or marks k false inside) ∙ have k inside)

-- a rule defines its symbol
pub defined-at : (rs : List Rule) (k : ℕ) (r : Rule) → k < length rs
    → is_defined (rules_defined rs) (get_or rs k r).symbol ≡ true
defined-at [] k r h = absurd (omega (arith, h))
defined-at (q ∷ rs) zero r h =
    ap (λ t. t || is_defined (rules_defined rs) q.symbol) (eq-eqb q.symbol q.symbol refl)
defined-at (q ∷ rs) (suc k) r h =
    let s = (get_or rs k r).symbol in
    ap (λ t. nat_eq q.symbol s || t) (defined-at rs k r (omega (arith, h))) ∙ or-all (nat_eq q.symbol s)

-- the atoms of each rule's symbol have lists, from the first of the span on
pub span-lists : (b : GroundBase) (rs xs : List Rule) (marks ms : List Bool) (span : Span) (kept : Bodies) → xs ≡ rs
    → HaveMarks (rules_defined xs) marks → ms ≡ marks → length marks ≡ length b.vocabulary.symbols
    → Spans b ms (length ms) span → kept.first ≡ span.first
    → length kept.lists.items ≡ span.past - span.first → (k : ℕ) (r : Rule) → k < length xs
    → HasLists b (get_or xs k r).symbol kept
span-lists b rs xs marks ms span kept same have is size spans first count k r h =
    let s = (get_or xs k r).symbol in
    let at : s < length b.vocabulary.symbols → slice_get ms s ≡ Some true =
    λ d. ap (λ m. slice_get m s) is ∙ have s (omega (arith, d, size)) ∙ ap Some (defined-at xs k r h) in
    let among : s < length b.vocabulary.symbols → s < length ms =
    λ d. let e = ap length is in omega (arith, d, size, e) in
    record {
      low = λ d. let x = (spans s (among d) (at d)).0 in omega (arith, x, first);
      high = λ d. let x = spans s (among d) (at d) in
          let low = x.0 in
          let high = x.1 in
          let rise = vars-rise b s (item-at b.vocabulary.symbols s d) d in
          omega (arith, low, high, rise, first, count);
    }
