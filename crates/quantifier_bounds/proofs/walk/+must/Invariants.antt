use Rattle.std.proofs.Common.{◌≡◌, ◌+◌, ◌*◌, ◌^◌, ◌++◌, map, drop, max, IfSome, length, ◌<◌, slice_index_or}
use Rattle.std.specs.Option.{option_map}
use Rattle.std.specs.List.{AllByRecursion}
use Rattle.plain_evaluation.specs.Environments.{env_view}
use Rattle.kb_logic.specs.declared.syntax.Formula.{size-Formula}
use Rattle.kb_logic.specs.declared.syntax.Formula.TheVariants.{True}
use Rattle.kb_logic.specs.Structures.{choices}
use Rattle.kb_logic.specs.Trees.{formulas_of}
use Rattle.kb_logic.specs.Views.{formula_view}
use Rattle.bound_laws.specs.Closures.{AllObey}
use Rattle.quantifier_bounds.specs.Fits.{AllFit, Fits}
use Rattle.quantifier_bounds.proofs.Steps.{SoFar}
use Rattle.quantifier_bounds.proofs.Orders.{ordered}
use Rattle.quantifier_bounds.proofs.Turns.{Instances, Blocks}
use Rattle.quantifier_bounds.proofs.Lasts.{Left}
use Rattle.quantifier_bounds.proofs.walk.+must.Given as goal

-- those that are left stand for all
abbrev pub invariant-all-loop-formula : goal.invariant-all-loop-formula
invariant-all-loop-formula l =
    let rest = formulas_of (map formula_view (drop l.formula-index l.formulas)) in
    let whole = formulas_of (map formula_view l.formulas) in
    record {
      domains : l.setting.domains.now ≡ l.known.domains;
      fits : AllFit l.known.symbols l.known.domains rest (env_view l.env);
      so_far : SoFar l.fn.known l.known l.changed (λ q. AllObey q l.v whole (env_view l.env))
          (λ q. AllObey q l.v rest (env_view l.env));
    }

-- none of those before is left, or one alone
abbrev pub invariant-last-loop-at : goal.invariant-last-loop-at
invariant-last-loop-at l =
    let rest = formulas_of (map formula_view (drop l.at l.formulas)) in
    let whole = formulas_of (map formula_view l.formulas) in
    record {
      fits : AllFit l.known.symbols l.known.domains rest (env_view l.env);
      within : IfSome l.lone (λ i. i < length l.formulas);
      lone : IfSome l.lone (λ i. Fits l.known.symbols l.known.domains (formula_view (slice_index_or l.formulas i True))
          (env_view l.env));
      left : Left l.known l.v whole rest (option_map (λ i. formula_view (slice_index_or l.formulas i True)) l.lone)
          (env_view l.env);
    }

-- the instances that are left stand for all
abbrev pub invariant-each-loop-turn : goal.invariant-each-loop-turn
invariant-each-loop-turn l =
    let d = l.setting.domains.now in
    let f = formula_view l.formula in
    let e = env_view l.env in
    record {
      domains : d ≡ l.known.domains;
      fits : AllByRecursion (λ a. Fits l.known.symbols l.known.domains f (e ++ a)) (choices d l.bounds);
      so_far : SoFar l.fn.known l.known l.changed
          (Instances l.want.left_only l.want.value f e l.fn.known (choices d l.bounds))
          (Blocks l.want.left_only l.want.value f e l.fn.known (choices d l.others)
          (drop l.turn (ordered l.setting.falling (choices d l.block.bounds.now))));
    }

abbrev pub decreases-must : goal.decreases-must
decreases-must l = 2 ^ 65 * goal.size-must l

abbrev pub decreases-parts : goal.decreases-parts
decreases-parts l = 2 ^ 65 * goal.size-parts l + 2

abbrev pub decreases-all : goal.decreases-all
decreases-all l = 2 ^ 65 * goal.size-all l + 1

abbrev pub decreases-last : goal.decreases-last
decreases-last l = 2 ^ 65 * goal.size-last l + 1

abbrev pub decreases-when : goal.decreases-when
decreases-when l = 2 ^ 65 * goal.size-when l + 1

abbrev pub decreases-follow : goal.decreases-follow
decreases-follow l = 2 ^ 65 * goal.size-follow l + 1

abbrev pub decreases-implied : goal.decreases-implied
decreases-implied l = 2 ^ 65 * max (size-Formula l.left.now) (size-Formula l.right.now) + 2

abbrev pub decreases-alike : goal.decreases-alike
decreases-alike l = 2 ^ 65 * max (size-Formula l.left.now) (size-Formula l.right.now) + 2

abbrev pub decreases-instance : goal.decreases-instance
decreases-instance l = 2 ^ 65 * goal.size-instance l + 1

abbrev pub decreases-each : goal.decreases-each
decreases-each l = 2 ^ 65 * goal.size-each l + length l.bounds.now + 2

abbrev pub decreases-all_instances : goal.decreases-all_instances
decreases-all_instances l = 2 ^ 65 * goal.size-all_instances l + length l.bounds.now + 3

abbrev pub decreases-lone : goal.decreases-lone
decreases-lone l = 2 ^ 65 * goal.size-lone l + length l.bounds.now + 3
