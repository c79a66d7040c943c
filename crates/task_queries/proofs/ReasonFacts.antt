-- What conflicts and supports of valuations say of models.
use Rattle.std.proofs.Common.{◌≡◌, ℕ, zero, suc, ◌+◌, Bool, true, false, not, List, [], ◌∷◌, ◌++◌}
use Rattle.std.proofs.Common.{length, refl, sym, ap, ◌∙◌, subst, arith}
use Rattle.std.proofs.lemmas.Bool.{both_ways}
use Rattle.std.proofs.lemmas.List.{append-nil}
use Rattle.std.proofs.lemmas.List.Elements.{All-contains, All-push, Contains-push}
use Rattle.kb_logic.specs.declared.structures.Literal.{Literal}
use Rattle.kb_logic.specs.declared.structures.Structure.{Structure}
use Rattle.kb_logic.specs.Bases.{Base}
use Rattle.kb_logic.specs.InForce.{HasModel, HasNoModel, Forces, LeavesFalse}
use Rattle.kb_logic.specs.Answers.{IsConflict, IsSupport}
use Rattle.kb_logic.specs.Lists.{without_item}
use Rattle.kb_logic.specs.Models.{HoldsIn}
use Rattle.kb_logic.specs.Structures.{EachWith}
use Rattle.lit_core.specs.declared.literals.Lit.{Lit}
use Rattle.lit_core.specs.Literals.{literal_value, negated}
use Rattle.lit_core.proofs.Soundness.{value-negated}
use Rattle.ground_core.specs.declared.solving.Budget.{Budget}
use Rattle.ground_core.specs.Problems.{ProblemState}
use Rattle.ground_core.specs.Meaning.{Satisfies, MakesTrue, RefutesAll}
use Rattle.ground_core.specs.Solving.{SolveState, IsKept}
use Rattle.ground_core.specs.Calls.{CallEnds, Costs, Keeps, Stays}
use Rattle.ground_core.proofs.Fronts.{All-front}
use Rattle.term_values.specs.GroundBases.{GroundBase, structure_of}
use Rattle.atom_numbers.specs.Numbers.{HasNumber}
use Rattle.model_search.specs.Models.{IsConsistent}
use Rattle.support_explainer.specs.Reasons.{IsIrreducible}
use Rattle.ground_task.specs.Tasks.{IsTaskOf}
use Rattle.ground_task.specs.Choices.{AreChosen}
use Rattle.ground_task.proofs.ChoiceFacts.{each-push, each-length}
use Rattle.ground_task.proofs.TaskFacts.{fine, is-model, has-none, valued, holds-true, true-holds}
use Rattle.task_queries.specs.Queries.{under}

-- how a call ends that asks for a reason
pub reason-ends : (b : GroundBase) (choices : List Literal) (lits ls : List Lit) → EachWith (HasNumber b) choices lits
    → ls ≡ lits → (s t : SolveState) (a c : Budget) → Stays s t → Keeps s t a c → Costs (length ls + 2) s t a c
    → IsKept t → CallEnds (length choices + 2) s t a c
reason-ends b choices lits ls each is s t a c stays keeps costs kept =
    let same : length ls ≡ length choices =
    ap (λ (xs : List Lit). length xs) is ∙ sym (each-length (HasNumber b) choices lits each) in record {
      keeps = keeps;
      costs = subst (λ (n : ℕ). Costs (n + 2) s t a c) same costs;
      kept = kept;
      free = stays.free;
    }

each-without : {A B : Type 0} (R : A → B → Type 0) (xs : List A) (ys : List B) (k : ℕ) → EachWith R xs ys
    → EachWith R (without_item xs k) (without_item ys k)
each-without R [] [] k h = tt
each-without R [] (y ∷ ys) k h = absurd h
each-without R (x ∷ xs) [] k h = absurd h
each-without R (x ∷ xs) (y ∷ ys) zero h = h.1
each-without R (x ∷ xs) (y ∷ ys) (suc k) h = (h.0, each-without R xs ys k h.1)

-- the literal that says the opposite has the negated literal
abbrev pub opposite : Literal → Literal
opposite l = record { positive = not l.positive; symbol = l.symbol; args = l.args; value = l.value }

pub opposed : (b : GroundBase) (choices : List Literal) (lits : List Lit) (l : Literal) (target : Lit)
    → EachWith (HasNumber b) choices lits → HasNumber b l target
    → EachWith (HasNumber b) (choices ++ opposite l ∷ []) (lits ++ negated target ∷ [])
opposed b choices lits l target each n = each-push (HasNumber b) choices lits (opposite l) (negated target) each
    (record { place = n.place; atom = n.atom; var = n.var; sign = ap not n.sign })

not-true : (x : Bool) → not x ≡ true → x ≡ false
not-true true e = sym e
not-true false e = refl

module _ (base : Base) (b : GroundBase) (p : ProblemState) (h : IsTaskOf base b p) where
  pub some-model : (choices : List Literal) (lits : List Lit) → EachWith (HasNumber b) choices lits
      → IsConsistent p lits → HasModel base (under choices)
  some-model choices lits each c = (structure_of b c.0, is-model base b p h choices lits each c.0 c.1 c.2)

  pub no-model : (choices : List Literal) (lits : List Lit) → EachWith (HasNumber b) choices lits → RefutesAll p lits
      → HasNoModel base (under choices)
  no-model choices lits each refuted = has-none base b p h lits choices each refuted

  pub conflicts : (choices some : List Literal) (core : List Lit) (cores : List (List Lit))
      → AreChosen b choices core some → IsIrreducible p cores [] core → IsConflict base (under choices) (under some)
  conflicts choices some core cores chosen told =
      let same : length some ≡ length core = each-length (HasNumber b) some core chosen.each in record {
        among = record { choices = chosen.among };
        none = no-model some core chosen.each (subst (RefutesAll p) (append-nil core) told.refuted.0);
        needed = record {
          choice = λ k lt. some-model (without_item some k) (without_item core k)
              (each-without (HasNumber b) some core k chosen.each)
              (subst (IsConsistent p) (append-nil (without_item core k)) (told.needed k (omega (arith, lt, same))));
        };
      }

  module _ (l : Literal) (target : Lit) (n : HasNumber b l target) where
    -- values that make the literal false
    pub is-false : (choices : List Literal) (lits : List Lit) → EachWith (HasNumber b) choices lits → (v : ℕ → Bool)
        → Satisfies p v → MakesTrue v lits → literal_value v target ≡ false → LeavesFalse base (under choices) l
    is-false choices lits each v s t off = (
      structure_of b v,
      is-model base b p h choices lits each v s t,
      λ holds. both_ways false refl (sym off ∙ holds-true b (fine base b p h) v l target n holds),
    )

    -- what refutes its negation forces it
    forces : (some : List Literal) (core : List Lit) → EachWith (HasNumber b) some core
        → RefutesAll p (core ++ negated target ∷ []) → Forces base (under some) l
    forces some core each refuted m model = at (literal_value e.0 target) refl
      where
        e : (v : ℕ → Bool) × Satisfies p v × MakesTrue v core × (structure_of b v ≡ m)
        e = valued base b p h some core each m model

        at : (x : Bool) → literal_value e.0 target ≡ x → HoldsIn m l
        at true on = subst (λ (x : Structure). HoldsIn x l) e.3 (true-holds b (fine base b p h) e.0 l target n on)
        at false off = absurd (refuted e.0 e.1 (All-push (λ k. literal_value e.0 k ≡ true) core (negated target) e.2
            (value-negated e.0 target ∙ ap not off)))

    pub supports : (choices some : List Literal) (lits core : List Lit) (cores : List (List Lit))
        → EachWith (HasNumber b) choices lits → AreChosen b choices core some → IsConsistent p lits
        → IsIrreducible p cores (negated target ∷ []) core → IsSupport base (under choices) l (under some)
    supports choices some lits core cores each chosen consistent told =
        let same : length some ≡ length core = each-length (HasNumber b) some core chosen.each in record {
          some = some-model choices lits each consistent;
          among = record { choices = chosen.among };
          forces = forces some core chosen.each told.refuted.0;
          needed = record {
            choice = λ k lt.
                let c = told.needed k (omega (arith, lt, same)) in
                let off : literal_value c.0 (negated target) ≡ true =
                All-contains (λ j. literal_value c.0 j ≡ true) (without_item core k ++ negated target ∷ [])
                (negated target) c.2 (Contains-push (without_item core k) (negated target)) in
                is-false (without_item some k) (without_item core k)
                (each-without (HasNumber b) some core k chosen.each) c.0 c.1
                (All-front (λ j. literal_value c.0 j ≡ true) (without_item core k) (negated target ∷ []) c.2)
                (not-true (literal_value c.0 target) (sym (value-negated c.0 target) ∙ off));
          };
        }
