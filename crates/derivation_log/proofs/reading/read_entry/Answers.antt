use Rattle.std.proofs.Common.{rules, ◌≡◌, ◌+◌, subst, length}
use Rattle.derivation_log.proofs.Scanning.{unwritten, other, there}
use Rattle.derivation_log.specs.Lines.{entry_text}
use Rattle.derivation_log.specs.Readings.{IsEntryAt}
use Rattle.derivation_log.proofs.reading.read_entry.Goals as goal

pub returns-then-not-is_written-clause-err : goal.returns-then-not-is_written-clause-err
returns-then-not-is_written-clause-err c = unwritten c.args.bytes.now c.args.at c.in-Ok-entry_of.e (search rules)
    (search rules)

pub returns-then-not-begins_with-clause-err : goal.returns-then-not-begins_with-clause-err
returns-then-not-begins_with-clause-err c = other c.args.bytes.now c.args.at c.in-Ok-entry_of.e (search rules)
    (search rules)

pub returns-clause-ok : goal.returns-clause-ok
returns-clause-ok c =
    let e = c.in-Ok-entry_of.e in
    let len : length (entry_text e) ≡ c.len.result = search rules in
    subst (λ n. IsEntryAt c.args.bytes.now c.args.at e (c.args.at + n)) len
    (there c.args.bytes.now c.args.at e (search rules) (search rules) (search rules) (search rules))
