-- What is missing, as where a part is stuck.
use Rattle.std.proofs.Common.{ℕ, List, Option, ◌⊎◌, inl, inr}
use Rattle.grammar.specs.declared.stops.ReadError.{ReadError}
use Rattle.grammar.specs.declared.stops.ReadError.TheVariants.{Memory, Stuck}
use Rattle.grammar.specs.Terminals.{Symbol, Tok}
use Rattle.token_reader.specs.Signs.{next, Absent}
use Rattle.block_reader.specs.BlockParts.{StuckAt}
use Rattle.block_reader.proofs.Formats.{Format, Here}

pub absent_at : {A : Type 0} (P : Option Symbol → Type 0) (F : Format A) (ts us : List Tok) (len : ℕ) (e : ReadError)
    → ((P (next us) → ⊥) → Here F ts us) → Absent P us len e → StuckAt F.put F.Fine F.Next ts len e
absent_at P F ts us len Memory f h = tt
absent_at P F ts us len (Stuck place) f h = (us, f h.0, h.1)

pub neither : {P Q : Type 0} → (P → ⊥) → (Q → ⊥) → P ⊎ Q → ⊥
neither f g (inl p) = f p
neither f g (inr q) = g q
