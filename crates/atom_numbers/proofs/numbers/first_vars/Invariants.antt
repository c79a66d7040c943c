use Rattle.std.proofs.Common.{◌≡◌, ℕ, ◌<◌, ◌^◌, length, get_or}
use Rattle.atom_numbers.specs.Numbers.{first_of}
use Rattle.atom_numbers.proofs.numbers.first_vars.Given as goal

abbrev pub invariant-loop-symbol : goal.invariant-loop-symbol
invariant-loop-symbol l =
    (length l.firsts.items ≡ l.symbol-index)
    × ((k d : ℕ) → k < l.symbol-index → get_or l.firsts.items k d ≡ first_of l.domains l.symbols k)
    × (l.next ≡ first_of l.domains l.symbols l.symbol-index) × (l.next < 2 ^ 64)
