use Rattle.std.proofs.Common.{◌∙◌, refl, sym, Bor, List, ℕ}
use Rattle.std.specs.Str.{bytes_eq}
use Rattle.data_domains.proofs.Keys.{list_any-map}
use Rattle.data_domains.proofs.WordSets.{words_among}
use Rattle.data_domains.proofs.sets.ElementSet.contains.Goals as goal

pub returns-in-Word : goal.returns-in-Word
returns-in-Word c = λ cells s.
    let w = c.in-Word.word.now in
    rw c.in-Word.is
    (c.contains.ensures ∙ sym (list_any-map (λ (k : Bor (List ℕ)). k.now) (bytes_eq w) (λ k. bytes_eq w k.now)
    (λ k. refl) c.args.self.now.words.keys)
    ∙ s.words.among w ∙ words_among w cells)

pub returns-in-Number : goal.returns-in-Number
returns-in-Number c = λ cells s. rw c.in-Number.is (c.has_number.ensures cells s)
