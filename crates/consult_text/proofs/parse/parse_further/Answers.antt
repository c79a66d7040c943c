use Rattle.consult_text.specs.Parse.{toks}
use Rattle.consult_text.proofs.Cut.{cut_more, none_behind, none_elem}
use Rattle.consult_text.proofs.parse.parse_further.Goals as goal

pub returns-in_default-behind_sign : goal.returns-in_default-behind_sign
returns-in_default-behind_sign c =
    none_behind c.loop-behind.invariant c.in_default.ensures.behind c.in_default-behind_sign.ensures.behind

pub returns-in_default-parse_elem : goal.returns-in_default-parse_elem
returns-in_default-parse_elem c =
    none_elem (toks c.in-Some-behind_sign.behind.now) c.loop-behind.invariant c.in-Some-behind_sign.ensures.behind
    c.in_default-parse_elem.ensures.cut

pub loop-behind-preserved : goal.loop-behind-preserved
loop-behind-preserved c =
    let cut = c.in-Some-parse_elem.ensures.cut in
    cut_more c.in-Some-parse_elem.elem c.push.new.self.items (toks c.in-Some-behind_sign.behind.now)
    (toks c.in-Some-parse_elem.behind.now) c.loop-behind.invariant c.in-Some-behind_sign.ensures.behind cut.0 cut.1
    c.in_ok-push.ensures.items
