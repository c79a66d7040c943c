use Rattle.std.proofs.Common.{◌≡◌, ℕ, Option, None, Some, refl}
use Rattle.grammar.specs.Trees.{Name}
use Rattle.grammar.specs.BlockView.{mark_of}
use Rattle.stage_definitions.specs.DataEntries.{mark_name}
use Rattle.structure_entries.proofs.senses.mark_name.Goals as goal

the_name : (p : ℕ) (n : Name) (q : Option ℕ) → n ≡ mark_name (mark_of p n q)
the_name p n None = refl
the_name p n (Some q) = refl

pub returns : goal.returns
returns c = the_name _ _ c.args.raw.now.close
