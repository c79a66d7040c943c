-- Adding literals with reasons, one after another.
use Rattle.std.proofs.Common.{◌≡◌, ◌<◌, ◌≤◌, min, Some, List, [], ◌∷◌, length, take, refl, sym, ap, ◌∙◌, ⊎_elim, arith}
use Rattle.std.proofs.Common.{slice_get}
use Rattle.std.specs.Prelude.{IsSome}
use Rattle.std.proofs.lemmas.Option.{slice_get_within}
use Rattle.std.proofs.lemmas.List.{length-set, length-take, take_all, take-take, take-append-le}
use Rattle.std.proofs.lemmas.Bool.{cases_lt}
use Rattle.std.proofs.lemmas.List.Sums.{count_by-le-length}
use Rattle.std.specs.Prelude.{is_some}
use Rattle.clause_base.specs.declared.trail.Step.{Step}
use Rattle.clause_base.specs.TrailLaws.{with_step}
use Rattle.clause_base.specs.StoreState.{StoreState, IsStore, Propagates, with_trail}
use Rattle.clause_base.proofs.ListFacts.{slice_get-push_cases, slice_get-take-below}

-- a prefix is no longer than the list
pub front-le : {X : Type 0} (xs ys : List X) → xs ≡ take (length xs) ys → length xs ≤ length ys
front-le xs ys h = let e : length xs ≡ min (length xs) (length ys) = ap length h
    ∙ length-take (length xs) ys in omega arith

pub propagates-refl : (s : StoreState) → Propagates s s
propagates-refl s = record {
  clauses = refl;
  spare = refl;
  level = refl;
  size = refl;
  kept = sym (take_all (length s.trail.steps) s.trail.steps (omega arith));
  reasoned = λ k t past e. let lt : k < length s.trail.steps = slice_get_within s.trail.steps k t e in
      absurd (omega arith);
}

pub propagates-step : (old s : StoreState) (t : Step) → Propagates old s → t.level ≡ s.trail.level → IsSome t.reason
    → Propagates old (with_trail s (with_step s.trail t))
propagates-step old s t h level some =
    let le : length old.trail.steps ≤ length s.trail.steps = front-le old.trail.steps s.trail.steps h.kept in
    record {
      clauses = h.clauses;
      spare = h.spare;
      level = level ∙ h.level;
      size = length-set s.trail.values t.lit.var.0 (Some t.lit.positive) ∙ h.size;
      kept = h.kept ∙ sym (take-append-le (length old.trail.steps) s.trail.steps (t ∷ []) le);
      reasoned = λ k u past e. ⊎_elim (λ o. h.reasoned k u past o) (λ n. rw n.1 (some, level ∙ h.level))
          (slice_get-push_cases s.trail.steps t k u e);
    }

pub propagates-trans : (a b c : StoreState) → Propagates a b → Propagates b c → Propagates a c
propagates-trans a b c f g =
    let le : length a.trail.steps ≤ length b.trail.steps = front-le a.trail.steps b.trail.steps f.kept in
    record {
      clauses = g.clauses ∙ f.clauses;
      spare = g.spare ∙ f.spare;
      level = g.level ∙ f.level;
      size = g.size ∙ f.size;
      kept = f.kept ∙ ap (take (length a.trail.steps)) g.kept ∙ take-take (length a.trail.steps) (length b.trail.steps)
          c.trail.steps le;
      reasoned = λ k t past e. ⊎_elim
          (λ lt. f.reasoned k t past (ap (λ (xs : List Step). slice_get xs k) g.kept
          ∙ slice_get-take-below (length b.trail.steps) c.trail.steps k lt ∙ e))
          (λ ge. let r = g.reasoned k t ge e in (r.0, r.1 ∙ f.level))
          (cases_lt k (length b.trail.steps));
    }

-- the trail is no longer than there are variables
pub steps-le-values : (s : StoreState) → IsStore s → length s.trail.steps ≤ length s.trail.values
steps-le-values s h = let le : _ = count_by-le-length is_some s.trail.values in let e =
    h.trail.coherent.once in rw (← e) le
