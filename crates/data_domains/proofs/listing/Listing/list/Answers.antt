use Rattle.std.proofs.Common.{◌≡◌, ◌+ℤ◌, ◌++◌, ◌∷◌, [], pos, set, sym, ◌∙◌, ap, subst}
use Rattle.kb_logic.specs.declared.elements.Elem.TheVariants as elem
use Rattle.data_domains.specs.Listings.{is_listed}
use Rattle.data_domains.proofs.Aheads.{listed_ahead, listed_missing, word_kept, IsAhead, IsMissing}
use Rattle.data_domains.proofs.listing.Listing.list.Goals as goal

pub returns-clause-listing : goal.returns-clause-listing
returns-clause-listing c =
    let s = c.args.self.now in
    let ahead = s.ahead.items in
    let old = c.requires.listing in
    let more : c.push.new.self ≡ s.elems ++ elem.Num (s.base +ℤ pos c.args.place) ∷ [] =
    c.in_ok-push.ensures.ok ∙ ap (λ x. s.elems ++ x ∷ []) c.elem_at-elem.ensures in
    record {
      words = λ w. old.words w ∙ word_kept s.elems w (s.base +ℤ pos c.args.place)
          ∙ ap (λ xs. is_listed xs (elem.Named w)) (sym more);
      ahead = subst (λ xs. IsAhead xs s.base (set ahead c.args.place 1)) (sym more)
          (listed_ahead s.elems s.base ahead c.args.place c.requires.within old.ahead);
      missing = subst (λ xs. IsMissing xs s.base (set ahead c.args.place 1)) (sym more)
          (listed_missing s.elems s.base ahead c.args.place c.requires.within old.missing);
    }
