use Rattle.std.proofs.Common.{◌≡◌, ℕ, ◌-◌, ◌<◌, ◌≤◌, false, true, length, slice_get, get_or, refl, sym, ap, ◌∙◌, subst}
use Rattle.std.proofs.Common.{⊎_elim, arith, All}
use Rattle.std.proofs.lemmas.Bool.{cases_eq}
use Rattle.std.proofs.lemmas.Option.{same_Some}
use Rattle.search_engine.specs.LitSets.{HasLit}
use Rattle.clause_learning.specs.CoreIndexes.{EndsWith}
use Rattle.clause_learning.proofs.CoreIndexFacts.{ends-within, read-is, number-is}
use Rattle.clause_learning.proofs.core_index.CoreIndex.find_ending.Goals as goal

pub loop-at-init : goal.loop-at-init
loop-at-init c = record {
  ends = λ j e. c.requires.indexed.ends c.args.lit j (sym c.newest-at.ensures ∙ e);
  rest = λ j d at e all. subst (λ (n : ℕ). j < n) (sym c.newest-at.ensures) (c.requires.indexed.newest c.args.lit j e);
}

pub index-requires : goal.index-requires
index-requires c =
    let here : EndsWith c.args.self.now (c.loop-at.at - 1) c.args.lit = c.loop-at.invariant.ends (c.loop-at.at - 1)
    (omega (arith, c.loop-at-test.true)) in
    let within : c.loop-at.at - 1 < length c.args.self.now.cores.items =
    ends-within c.args.self.now (c.loop-at.at - 1) c.args.lit here in
    omega (arith, within, c.args.self.now.cores.ok.0)

pub returns-then-has_all-clause-some : goal.returns-then-has_all-clause-some
returns-then-has_all-clause-some c =
    let here : EndsWith c.args.self.now (c.loop-at.at - 1) c.args.lit = c.loop-at.invariant.ends (c.loop-at.at - 1)
    (omega (arith, c.loop-at-test.true)) in
    let read : c.index.result.now ≡ here.0 = read-is c.args.self.now.cores.items (c.loop-at.at - 1) c.index.result.now
    here.0 c.index.ensures here.1 in
    (here.0, here.1, subst (All (HasLit c.args.set.now)) (c.as_slice.ensures ∙ read) (c.if-has_all.ensures.0 refl))

pub index-at-requires : goal.index-at-requires
index-at-requires c =
    let here : EndsWith c.args.self.now (c.loop-at.at - 1) c.args.lit = c.loop-at.invariant.ends (c.loop-at.at - 1)
    (omega (arith, c.loop-at-test.true)) in
    let within : c.loop-at.at - 1 < length c.args.self.now.cores.items =
    ends-within c.args.self.now (c.loop-at.at - 1) c.args.lit here in
    omega (arith, within, c.requires.indexed.sized, c.args.self.now.older.ok.0)

pub loop-at-smaller : goal.loop-at-smaller
loop-at-smaller c =
    let here : EndsWith c.args.self.now (c.loop-at.at - 1) c.args.lit = c.loop-at.invariant.ends (c.loop-at.at - 1)
    (omega (arith, c.loop-at-test.true)) in
    let within : c.loop-at.at - 1 < length c.args.self.now.cores.items =
    ends-within c.args.self.now (c.loop-at.at - 1) c.args.lit here in
    let is : c.index-at.result.now ≡ get_or c.args.self.now.older.items (c.loop-at.at - 1) 0 =
    number-is c.args.self.now.older.items (c.loop-at.at - 1) c.index-at.result.now
    (omega (arith, within, c.requires.indexed.sized)) c.index-at.ensures in
    let falls : get_or c.args.self.now.older.items (c.loop-at.at - 1) 0 ≤ c.loop-at.at - 1 =
    c.requires.indexed.falls c.args.lit (c.loop-at.at - 1) here in
    omega (arith, is, falls, c.loop-at-test.true)

pub loop-at-preserved : goal.loop-at-preserved
loop-at-preserved c =
    let here : EndsWith c.args.self.now (c.loop-at.at - 1) c.args.lit = c.loop-at.invariant.ends (c.loop-at.at - 1)
    (omega (arith, c.loop-at-test.true)) in
    let within : c.loop-at.at - 1 < length c.args.self.now.cores.items =
    ends-within c.args.self.now (c.loop-at.at - 1) c.args.lit here in
    let is : c.index-at.result.now ≡ get_or c.args.self.now.older.items (c.loop-at.at - 1) 0 =
    number-is c.args.self.now.older.items (c.loop-at.at - 1) c.index-at.result.now
    (omega (arith, within, c.requires.indexed.sized)) c.index-at.ensures in
    let read : c.index.result.now ≡ here.0 = read-is c.args.self.now.cores.items (c.loop-at.at - 1) c.index.result.now
    here.0 c.index.ensures here.1 in
    record {
      ends = λ j e. c.requires.indexed.links c.args.lit (c.loop-at.at - 1) j here (sym is ∙ e);
      rest = λ j d at e all. ⊎_elim
          (λ (same : j ≡ c.loop-at.at - 1).
          let one : d ≡ here.0 = same_Some d here.0 (sym at ∙ (ap (slice_get c.args.self.now.cores.items) same
          ∙ here.1)) in
          let every : All (HasLit c.args.set.now) c.as_slice.result.now = subst (All (HasLit c.args.set.now))
          (one ∙ sym (c.as_slice.ensures ∙ read)) all in
          absurd (let x : false ≡ true = c.if-has_all.ensures.1 every in cc))
          (λ other.
          let lt : j < c.loop-at.at = c.loop-at.invariant.rest j d at e all in
          let less : j < get_or c.args.self.now.older.items (c.loop-at.at - 1) 0 = c.requires.indexed.older c.args.lit
          (c.loop-at.at - 1) j here e (omega (arith, lt, other)) in
          subst (λ (n : ℕ). j < n) (sym is) less)
          (cases_eq j (c.loop-at.at - 1));
    }
