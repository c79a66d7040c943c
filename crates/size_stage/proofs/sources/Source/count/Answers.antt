use Rattle.std.proofs.Common.{◌≡◌, ◌∙◌, length, map, slice_get, unwrap_or, ap, sym, subst}
use Rattle.kb_logic.specs.Structures.{domain_at}
use Rattle.size_stage.specs.Counted.{count_in, domains_in, AreCounted}
use Rattle.size_stage.proofs.Counting.{count_there}
use Rattle.size_stage.proofs.sources.Source.count.Goals as goal

pub returns-in-Counted : goal.returns-in-Counted
returns-in-Counted c =
    let types = c.in-Counted.field-0.now in
    let known : c.in-Counted.counts.items ≡ map count_in types = subst AreCounted c.in-Counted.is c.requires in
    c.count_at.ensures ∙ ap (λ ns. unwrap_or (slice_get ns c.args.ty) 0) (c.deref.ensures.value ∙ known)
    ∙ count_there types c.args.ty ∙ ap (λ s. length (domain_at (domains_in s) c.args.ty)) (sym c.in-Counted.is)
