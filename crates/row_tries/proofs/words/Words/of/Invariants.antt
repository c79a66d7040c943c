use Rattle.std.proofs.Common.{◌≡◌, [], take, fold}
use Rattle.row_tries.specs.Words.{words_in, with_element}
use Rattle.row_tries.proofs.words.Words.of.Given as goal

abbrev pub invariant-loop-domain : goal.invariant-loop-domain
invariant-loop-domain l = words_in l.words ≡ fold (λ ws d. fold with_element ws d) []
    (take l.domain-index l.domain-items)

abbrev pub invariant-loop-elem : goal.invariant-loop-elem
invariant-loop-elem l = words_in l.words ≡ fold with_element (words_in l.initial.words) (take l.elem-index l.elem-items)
