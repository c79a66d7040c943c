-- What the items after the first one are, wherever they stand.
use Rattle.std.specs.Prelude.{List, [], ◌∷◌}
use Rattle.grammar.specs.declared.raw_blocks.RawItemTail.{RawItemTail}
use Rattle.grammar.specs.declared.item_tails.Tails.{Tails}
use Rattle.grammar.specs.declared.item_tails.Tails.TheVariants as held

abbrev pub tails_in : Tails → List RawItemTail
tails_in held.None = []
tails_in (held.One one) = one ∷ []
tails_in (held.More more) = more
