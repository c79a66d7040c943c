use Rattle.std.proofs.Common.{◌∙◌, ◌≡◌, length, true, refl, ap, arith}
use Rattle.std.specs.Vec.{with_item}
use Rattle.std.proofs.lemmas.List.{length-set}
use Rattle.partial_structures.specs.KnownAtoms.{with_closed}
use Rattle.partial_structures.specs.Status.{known_atoms}
use Rattle.partial_structures.proofs.Views.{closed_after, same_count}
use Rattle.partial_structures.proofs.partial.Partial.close.Goals as goal

pub returns : goal.returns
returns c =
    let p = c.self.inside in
    let same : length p.symbols ≡ length c.args.self.now.symbols = ap (λ k. length k.symbols) c.self.view_is in
    closed_after p (record p { closed = with_item p.closed c.args.symbol true }) c.args.self.now c.args.symbol
    c.self.view_is refl refl refl refl (omega (arith, same, c.self.invariant.flags, c.requires))

pub invariant_of-self : goal.invariant_of-self
invariant_of-self c =
    let p = c.self.inside in
    let q = record p { closed = with_item p.closed c.args.symbol true } in
    let same : length p.symbols ≡ length c.args.self.now.symbols = ap (λ k. length k.symbols) c.self.view_is in
    record {
      distinct = c.self.invariant.distinct;
      flags = length-set p.closed.items c.args.symbol true ∙ c.self.invariant.flags;
      words = c.self.invariant.words;
      elements = c.self.invariant.elements;
      counted = same_count p q (with_closed (known_atoms p) c.args.symbol) c.self.invariant.counted
          (closed_after p q (known_atoms p) c.args.symbol refl refl refl refl refl
          (omega (arith, same, c.self.invariant.flags, c.requires))) refl;
    }
