use Rattle.std.proofs.Common.{◌≡◌, ℕ, List, ◌∙◌, ◌+◌, ◌-◌, ap, sym, take, drop, arith}
use Rattle.std.proofs.lemmas.List.{drop_all}
use Rattle.std.proofs.lemmas.Grind.{common_steps}
use Rattle.kb_io.specs.Memory.{SourceState}
use Rattle.kb_io.proofs.Pieces.{piece_taken, piece_none}
use Rattle.kb_io.proofs.source.MemSourceSource.read.Goals as goal

pub returns-clause-bytes : goal.returns-clause-bytes
returns-clause-bytes c =
    let from = c.self.inside.at in
    let count = c.piece_of-count.result in (
      sym (ap (λ (s : SourceState). s.left) c.self.view_is)
          ∙ piece_taken c.self.inside.bytes.items _ _ from count (from + count - from) (c.copy_from_slice.ensures.after
          ∙ ap (λ (l : List ℕ). take (from + count - from) (drop from l)) c.deref-3.ensures.value) (omega arith)
          (grind (arith, common_steps)),
      λ none room.
          let nothing : c.min-room.result ≡ 0 = piece_none _ _ (sym c.piece_of-count.ensures ∙ none) in
          drop_all (from + count) c.self.inside.bytes.items (grind (arith, common_steps, nothing, room, none)),
    )
