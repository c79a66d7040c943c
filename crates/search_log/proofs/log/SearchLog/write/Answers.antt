use Rattle.std.proofs.Common.{subst}
use Rattle.search_log.specs.Entries.{Grows, grown-entries}
use Rattle.search_log.specs.Logs.{LogState}
use Rattle.search_log.proofs.Writing.{written}
use Rattle.search_log.proofs.log.SearchLog.write.Goals as goal

pub invariant_of-self : goal.invariant_of-self
invariant_of-self c = record {
  texts = grown-entries c.self.inside.text.items c.write_entry.new.out.items c.self.invariant.texts
      (written c.write_entry.result c.self.inside.text.items c.write_entry.new.out.items c.args.entry.now c.requires
      c.write_entry.ensures.ok c.write_entry.ensures.err);
}

pub returns-clause-grows : goal.returns-clause-grows
returns-clause-grows c = subst (λ (s : LogState). Grows s.entries c.write_entry.new.out.items) c.self.view_is
    (written c.write_entry.result c.self.inside.text.items c.write_entry.new.out.items c.args.entry.now c.requires
    c.write_entry.ensures.ok c.write_entry.ensures.err)
