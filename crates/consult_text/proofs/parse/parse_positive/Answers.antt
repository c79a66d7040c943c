use Rattle.consult_text.specs.Parse.{toks, elem_views, elem_view, ParsesHead}
use Rattle.consult_text.proofs.Cut.{no_positive}
use Rattle.consult_text.proofs.parse.parse_positive.Goals as goal

pub returns : goal.returns
returns c =
    let head : ParsesHead (toks c.args.tokens.now) c.in-Some.head.name.now (elem_views c.in-Some.head.args.items)
    (toks c.in-Some.rest.now) = rw c.in-Some.is at c.in_ok-head.ensures in
    let cut = c.in-Some-parse_elem.ensures.cut in
    no_positive (toks c.args.tokens.now) c.in-Some.head.name.now (elem_views c.in-Some.head.args.items)
    (toks c.in-Some.rest.now) (toks c.in-Some-parse_equality.behind.now) (toks c.in-Some-parse_elem.rest.now)
    c.in-Some-parse_equality.positive (elem_view c.in-Some-parse_elem.value) head c.if-is_dot.ensures
    c.in-Some-parse_equality.ensures cut.0 c.if-is_dot-2.ensures
