use Rattle.std.proofs.Common.{refl}
use Rattle.std.specs.Str.{bytes_eq}
use Rattle.row_tries.proofs.WordLemmas.{added_word, present_word}
use Rattle.row_tries.proofs.words.Words.add.Goals as goal

pub returns-in_ok-insert_full : goal.returns-in_ok-insert_full
returns-in_ok-insert_full c = added_word (λ k. k.items) (λ a b. bytes_eq a.items b.items) c.in_ok-from_slice.field-0
    c.args.self.now.words.keys c.insert_full.new.self.keys c.args.word.now c.in_ok-insert_full.ensures.keys
    c.in_ok-from_slice.ensures.items (λ d. refl)

pub returns-else-not-contains : goal.returns-else-not-contains
returns-else-not-contains c = present_word (λ k. k.items) _ c.args.self.now.words.keys c.args.word.now c.contains.result
    c.contains.ensures c.if-not-contains.false (λ d. refl)
