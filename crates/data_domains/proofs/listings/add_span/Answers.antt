use Rattle.std.proofs.Common.{◌∙◌, ap, fold}
use Rattle.std.proofs.lemmas.Result.{on_ok_weaker}
use Rattle.stage_definitions.specs.Elements as set
use Rattle.structure_entries.specs.WholeViews.{whole_view}
use Rattle.data_domains.proofs.Aheads.{span_places}
use Rattle.data_domains.proofs.listings.add_span.Goals as goal

pub returns-clause-elems : goal.returns-clause-elems
returns-clause-elems c =
    on_ok_weaker c.add_integers.result
    (λ e. e ∙ ap (fold set.with_element c.args.listing.now.elems) (span_places c.args.listing.now.base
    (whole_view c.args.low) (whole_view c.args.high) c.place_of-from.result c.place_of-last.result
    c.place_of-from.ensures c.place_of-last.ensures c.requires.order)) c.add_integers.ensures.elems
