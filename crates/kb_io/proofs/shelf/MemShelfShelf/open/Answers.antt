use Rattle.std.proofs.Common.{◌∙◌, ap}
use Rattle.kb_io.specs.Files.{ShelfState, file_named}
use Rattle.kb_io.proofs.Named.{still_kept, file_others_stay, source_gone, source_is_fresh}
use Rattle.kb_io.proofs.shelf.MemShelfShelf.open.Goals as goal

pub invariant_of-self : goal.invariant_of-self
invariant_of-self c = still_kept _ _ _ c.take_named.ensures.rest c.self.invariant

pub invariant_of-self-in-None : goal.invariant_of-self-in-None
invariant_of-self-in-None c = still_kept _ _ _ c.take_named.ensures.rest c.self.invariant

pub returns-in-Some-clause-fresh : goal.returns-in-Some-clause-fresh
returns-in-Some-clause-fresh c = source_is_fresh _ _ _ c.in-Some.ensures.found c.self.invariant.1

pub returns-in-Some-clause-others : goal.returns-in-Some-clause-others
returns-in-Some-clause-others c = λ other ne. file_others_stay _ _ _ other (c.take_named.ensures.rest) ne
    ∙ ap (λ (s : ShelfState). file_named s.files other) c.self.view_is

pub returns-in-Some-clause-once : goal.returns-in-Some-clause-once
returns-in-Some-clause-once c = source_gone _ _ _ c.take_named.ensures.rest c.self.invariant.0

pub returns-in-None-clause-others : goal.returns-in-None-clause-others
returns-in-None-clause-others c = λ other ne. file_others_stay _ _ _ other (c.take_named.ensures.rest) ne
    ∙ ap (λ (s : ShelfState). file_named s.files other) c.self.view_is

pub returns-in-None-clause-once : goal.returns-in-None-clause-once
returns-in-None-clause-once c = source_gone _ _ _ c.take_named.ensures.rest c.self.invariant.0
