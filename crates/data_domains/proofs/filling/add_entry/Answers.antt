use Rattle.std.proofs.Common.{◌++◌, subst, append_assoc}
use Rattle.std.proofs.lemmas.Result.{on_ok_weaker}
use Rattle.stage_definitions.specs.DataEntries.{spots_of}
use Rattle.structure_entries.specs.SaidViews.{said_view}
use Rattle.data_domains.specs.Shares.{listed_share, occurring_share, IsGiven}
use Rattle.data_domains.proofs.filling.add_entry.Goals as goal

pub returns-clause-given : goal.returns-clause-given
returns-clause-given c =
    let e = said_view c.args.entry.now in
    let types = c.args.types.now in
    on_ok_weaker c.add_occurring.result (λ more t x cs h.
    subst (IsGiven c.add_occurring.new.all.items t x)
    (append_assoc cs (listed_share t x e) (occurring_share types t x (spots_of e)))
    (more t x (cs ++ listed_share t x e) (c.in_ok-add_list.ensures.given t x cs h)))
    c.add_occurring.ensures.given
