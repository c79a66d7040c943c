use Rattle.std.proofs.Common.{◌≡◌, ◌++◌, ℕ, flat_map, codes, take}
use Rattle.std.specs.Fmt.{decimal}
use Rattle.derivation_log.proofs.writing.push_numbers.Given as goal

abbrev pub invariant-loop-n : goal.invariant-loop-n
invariant-loop-n l = l.out.items ≡ l.fn.out.items ++ flat_map (λ (x : ℕ). decimal x ++ codes " ")
    (take l.n-index l.numbers)
