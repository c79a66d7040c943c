use Rattle.std.proofs.Common.{◌∙◌, ◌+◌, get_or, ap}
use Rattle.data_domains.proofs.Aheads.{joined_ahead, joined_missing}
use Rattle.data_domains.proofs.listing.Listing.join.Goals as goal

pub returns-clause-listing : goal.returns-clause-listing
returns-clause-listing c =
    let s = c.args.self.now in
    let ahead = s.ahead.items in
    let old = c.requires.listing in
    let behind = c.number_at-further.ensures
    ∙ ap (λ xs. get_or xs (c.args.place + c.args.step) 0) c.deref.ensures.value in
    record {
      words = old.words;
      ahead = joined_ahead s.elems s.base ahead c.args.place c.requires.within c.args.step c.number_at-further.result
          c.sum.result c.requires.step behind c.sum.ensures.low c.sum.ensures.high c.requires.some old.ahead;
      missing = joined_missing s.elems s.base ahead c.args.place c.requires.within c.args.step
          c.number_at-further.result
          c.sum.result c.requires.step behind c.sum.ensures.low c.sum.ensures.high c.requires.some old.missing;
    }
