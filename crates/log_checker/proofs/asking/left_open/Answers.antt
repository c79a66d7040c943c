use Rattle.log_checker.proofs.asking.left_open.Goals as goal

pub returns-in-One : goal.returns-in-One
returns-in-One c = λ ls h. (c.in-One.ensures ls h).opened
