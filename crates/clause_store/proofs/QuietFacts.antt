-- When all steps are propagated, no clause is false or unit.
use Rattle.std.proofs.Common.{◌≡◌, ◌<◌, ◌≤◌, Bool, true, false, Option, Some, None, List, length, refl, sym, ap, ◌∙◌}
use Rattle.std.proofs.Common.{◌⊎◌, ⊎_elim, arith, Contains}
use Rattle.std.proofs.lemmas.Option.{slice_get_within}
use Rattle.std.proofs.lemmas.List.Elements.{All-contains}
use Rattle.lit_core.specs.declared.literals.Lit.{Lit}
use Rattle.lit_core.specs.Literals.{value_in, negated, HasEachOnce}
use Rattle.lit_core.specs.Truth.{IsSettled}
use Rattle.clause_base.specs.ShortState.{IsShort}
use Rattle.clause_base.specs.TrailLaws.{IsCoherent, IsMade}
use Rattle.clause_base.specs.StoreState.{IsQuiet, Propagates}
use Rattle.clause_store.specs.declared.watched.Watcher.{Watcher}
use Rattle.clause_store.specs.Watching.{store_of, Guards, IsClosed, IsPair, IsWatcher}
use Rattle.clause_base.proofs.StoreFacts.{negated-true}
use Rattle.clause_store.proofs.ClosedFacts.{decide_long, other_member}

pub record Drains (old e : Watcher) : Type 0 where
  pub watcher : IsWatcher e
  pub same : Propagates (store_of old) (store_of e)
  pub checked : e.checked ≡ length e.held.clauses

pub record Attaches (old e : Watcher) : Type 0 where
  pub watcher : IsWatcher e
  pub same : Propagates (store_of old) (store_of e)

-- a clause with a true literal is settled
pub settled-true : (a : List (Option Bool)) (c : List Lit) (l : Lit) → Contains c l → value_in a l ≡ Some true
    → IsSettled a c
settled-true a c l has t = record {
  not_false = λ f. let x : value_in a l ≡ Some false = All-contains (λ m. value_in a m ≡ Some false) c l f has in
      let y : Some true ≡ Some false = sym t ∙ x in cc;
  not_unit = λ m u. ⊎_elim
      (λ is. let y : Some true ≡ None = sym t ∙ ap (value_in a) is ∙ u.unassigned in cc)
      (λ x. let y : Some true ≡ Some false = sym t ∙ x in cc)
      (All-contains (λ n. (n ≡ m) ⊎ (value_in a n ≡ Some false)) c l u.others has);
}

-- a clause with two unassigned literals is settled
pub settled-two : (a : List (Option Bool)) (c : List Lit) (l k : Lit) → Contains c l → Contains c k → (l ≡ k → ⊥)
    → value_in a l ≡ None → value_in a k ≡ None → IsSettled a c
settled-two a c l k hl hk ne nl nk = record {
  not_false = λ f. let x : value_in a l ≡ Some false = All-contains (λ m. value_in a m ≡ Some false) c l f hl in
      let y : None ≡ Some false = sym nl ∙ x in cc;
  not_unit = λ m u.
      let P : Lit → Type 0 = λ n. (n ≡ m) ⊎ (value_in a n ≡ Some false) in
      let pl : P l = All-contains P c l u.others hl in
      let pk : P k = All-contains P c k u.others hk in
      ⊎_elim
      (λ il. ⊎_elim (λ ik. ne (il ∙ sym ik)) (λ x. let y : None ≡ Some false = sym nk ∙ x in cc) pk)
      (λ x. let y : None ≡ Some false = sym nl ∙ x in cc) pl;
}

-- with every step propagated, if one watched literal is false then the other is true
module _ (e : Watcher) (h : IsWatcher e) (done : length e.trail.steps ≤ e.queue) where
  coherent : IsCoherent e.trail.values e.trail.steps
  coherent = h.store.trail.coherent

  guarded-true : (a b : Lit) → Guards e.trail.steps e.queue e.stale a b → value_in e.trail.values a ≡ Some false
      → value_in e.trail.values b ≡ Some true
  guarded-true a b g f =
      let m : IsMade e.trail.steps (negated a) = coherent.was_made (negated a) (negated-true e.trail.values a f) in
      let lt : m.0 < length e.trail.steps = slice_get_within e.trail.steps m.0 m.1 m.2 in
      let w = g m.0 m.1 (omega arith) m.2 m.3 in
      ap (value_in e.trail.values) (sym w.3) ∙ coherent.are_true w.0 w.1 w.2

  pair-settled : (c : List Lit) (a b : Lit) → Contains c a → Contains c b → IsPair e.trail.steps e.queue e.stale a b
      → IsSettled e.trail.values c
  pair-settled c a b ha hb p = by_values (value_in e.trail.values a) (value_in e.trail.values b) refl refl
    where
      by_values : (x y : Option Bool) → value_in e.trail.values a ≡ x → value_in e.trail.values b ≡ y
          → IsSettled e.trail.values c
      by_values (Some true) y ea eb = settled-true e.trail.values c a ha ea
      by_values (Some false) y ea eb = settled-true e.trail.values c b hb (guarded-true a b p.first ea)
      by_values None (Some true) ea eb = settled-true e.trail.values c b hb eb
      by_values None (Some false) ea eb = let x : Some true ≡ None = sym (guarded-true b a p.second eb) ∙ ea in cc
      by_values None None ea eb = settled-two e.trail.values c a b ha hb p.distinct ea eb

  -- a literal of a short clause is true where the others are false
  follows : (c : List Lit) → IsClosed e.trail.steps e.queue e.stale c → (m : Lit) → Contains c m
      → ((l : Lit) → Contains c l → (l ≡ m → ⊥) → value_in e.trail.values l ≡ Some false)
      → value_in e.trail.values m ≡ Some true
  follows c closed m has others =
      let w = closed m has e.trail.level (λ l member ne.
      let k : IsMade e.trail.steps (negated l) = coherent.was_made (negated l)
      (negated-true e.trail.values l (others l member ne)) in
      let lt : k.0 < length e.trail.steps = slice_get_within e.trail.steps k.0 k.1 k.2 in
      (k.0, k.1, omega arith, k.2, k.3, h.store.trail.top k.0 k.1 k.2)) in
      ap (value_in e.trail.values) (sym w.3) ∙ coherent.are_true w.0 w.1 w.2

  short-settled : (c : List Lit) → IsShort c → HasEachOnce c → IsClosed e.trail.steps e.queue e.stale c
      → IsSettled e.trail.values c
  short-settled c short once closed = record {
    not_false = λ f.
        let all : (l : Lit) → Contains c l → value_in e.trail.values l ≡ Some false =
        λ l member. All-contains (λ m. value_in e.trail.values m ≡ Some false) c l f member in
        let o = other_member c nowhere short.0 once in
        let y : Some true ≡ Some false = sym (follows c closed o.0 o.1 (λ l member ne. all l member)) ∙ all o.0 o.1 in
        cc;
    not_unit = λ m u.
        let t = follows c closed m u.member (λ l member ne. ⊎_elim
        (λ is. absurd (ne is))
        (λ x. x)
        (All-contains (λ n. (n ≡ m) ⊎ (value_in e.trail.values n ≡ Some false)) c l u.others member)) in
        let y : Some true ≡ None = sym t ∙ u.unassigned in
        cc;
  }
    where
      nowhere : Lit
      nowhere = record { var = record { 0 = 0 }; positive = true }

  pub watcher-quiet : e.checked ≡ length e.held.clauses → IsQuiet (store_of e)
  watcher-quiet all id c held =
      let lt : id < length e.held.clauses = slice_get_within e.held.clauses id (Some c) held in
      ⊎_elim
      (λ long. let g = h.guarded id c (omega arith) held long in
      ⊎_elim
      (λ good. settled-true e.trail.values c good.1.lit good.3 (coherent.are_true good.0 good.1 good.2))
      (λ p. pair-settled c g.0.first g.0.second g.2.has_first g.2.has_second p)
      g.2.ways)
      (λ other. ⊎_elim
      (λ short. short-settled c short.1 (h.store.once id c held) (h.closed id c short.0 held short.1))
      (λ few. let good = h.single id c (omega arith) held few in
      settled-true e.trail.values c good.1.lit good.3 (coherent.are_true good.0 good.1 good.2))
      other)
      (decide_long e id c)
