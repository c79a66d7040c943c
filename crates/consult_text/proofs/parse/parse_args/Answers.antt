use Rattle.consult_text.specs.Parse.{toks}
use Rattle.consult_text.proofs.Cut.{args_cut}
use Rattle.consult_text.proofs.parse.parse_args.Goals as goal

pub returns-in-Some-2 : goal.returns-in-Some-2
returns-in-Some-2 c =
    let cut = c.in-Some-parse_elem.ensures.cut in
    args_cut (toks c.args.tokens.now) c.new-args.result.items c.push.new.self.items c.parse_further.new.args.items
    c.in-Some-parse_elem.first (toks c.in-Some.behind.now) (toks c.in-Some-parse_elem.behind.now)
    c.in_ok-rest.field-0 c.in-Some-2.rest c.in-Some.ensures.behind cut.0 cut.1 c.new-args.ensures.items
    c.in_ok-push.ensures.items c.in_ok-rest.ensures c.in-Some-2.is
