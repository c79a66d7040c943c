use Rattle.std.proofs.Common.{refl}
use Rattle.std.specs.Str.{bytes_eq}
use Rattle.row_tries.proofs.Places.{found_word}
use Rattle.row_tries.proofs.words.Words.number.Goals as goal

pub returns : goal.returns
returns c = found_word (λ k. k.items) _ (bytes_eq c.args.word.now) c.args.self.now.words.keys _
    c.get_index_of.ensures.index (λ k. refl)
