use Rattle.std.proofs.Common.{Option, Bor, ap, is_none, option_map}
use Rattle.std.proofs.lemmas.Result.{on_ok_weaker}
use Rattle.grammar.specs.View.{name_view}
use Rattle.grammar.specs.declared.raw.RawName.{RawName}
use Rattle.structure_entries.specs.SaidViews.{said_view}
use Rattle.data_filling.proofs.Closings.{marked, closes_entry}
use Rattle.data_filling.proofs.closing.close_entry.Goals as goal

pub returns-in-Some : goal.returns-in-Some
returns-in-Some c =
    marked c.args.partial.now (said_view c.args.entry.now) (ap
    (λ (o : Option (Bor RawName)). is_none (option_map (λ (m : Bor RawName). name_view m.now) o)) c.in-Some.is)

pub returns-in-None : goal.returns-in-None
returns-in-None c =
    on_ok_weaker c.close_subject.result
    (λ e. closes_entry c.args.partial.now c.close_subject.new.partial (said_view c.args.entry.now)
    (ap (λ (o : Option (Bor RawName)). is_none (option_map (λ (m : Bor RawName). name_view m.now) o)) c.in-None.is)
    e)
    c.close_subject.ensures
