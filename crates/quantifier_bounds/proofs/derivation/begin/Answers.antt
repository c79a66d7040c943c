use Rattle.std.proofs.Common.{◌≡◌, ◌≤◌, ◌-◌, ◌+◌, length, arith}
use Rattle.kb_logic.specs.Views.{rule_view}
use Rattle.partial_structures.specs.KnownAtoms.{atom_of}
use Rattle.quantifier_bounds.proofs.Fixed.{start_nowhere}
use Rattle.quantifier_bounds.proofs.derivation.begin.Goals as goal

pub returns-in-None-place_of : goal.returns-in-None-place_of
returns-in-None-place_of c =
    let r = rule_view c.args.asked.rule.now in
    let bounds = c.args.bounds.now in
    let n = c.len.result - length bounds in
    let within : length bounds ≤ length r.vars = c.requires.within in
    let all : c.len.result ≡ length r.vars = c.len.ensures in
    let long : n + length bounds ≡ length r.vars = omega (arith, within, all) in
    start_nowhere c.args.domains.now r (atom_of c.args.asked.atom.now) c.index-bounds-0.result
    c.domain_in-domain.result.now bounds n c.in-Some.elem.now
    c.domain_in-domain.ensures long c.in-Some.ensures c.in-None-place_of.ensures
