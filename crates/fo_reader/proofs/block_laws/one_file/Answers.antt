use Rattle.std.proofs.Common.{[], refl, sym, ◌∙◌}
use Rattle.fo_reader.proofs.TheoryFormats.{file_law}
use Rattle.fo_reader.proofs.block_laws.one_file.Goals as goal

pub returns : goal.returns
returns c = λ ts f g h k. (file_law.only f g [] [] h.1 k.1 refl refl (sym h.0 ∙ k.0)).0
