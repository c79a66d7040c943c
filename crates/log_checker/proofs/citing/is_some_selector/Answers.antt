use Rattle.std.proofs.Common.{◌≡◌, true, false}
use Rattle.log_checker.proofs.Covering.{found-selector, no-selector}
use Rattle.log_checker.proofs.citing.is_some_selector.Goals as goal

pub returns-in-Some : goal.returns-in-Some
returns-in-Some c =
    found-selector c.args.bounds.now c.args.t c.args.k c.args.lit c.in-Some.b c.is_selector.result c.in-Some.ensures
    c.is_selector.ensures

pub returns-in-None : goal.returns-in-None
returns-in-None c = (
  λ t. absurd (let x : false ≡ true = t in cc),
  λ h. absurd
      (no-selector c.args.bounds.now c.args.t c.args.k c.args.lit c.in-None.ensures h),
)
