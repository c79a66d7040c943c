use Rattle.std.proofs.Common.{◌≡◌, List, All, length, map, sym, ap, ◌∙◌, subst}
use Rattle.kb_logic.specs.declared.structures.Literal.{Literal}
use Rattle.kb_logic.specs.Structures.{EachWith}
use Rattle.lit_core.specs.declared.literals.Lit.{Lit}
use Rattle.ground_core.specs.Meaning.{RefutesAll}
use Rattle.ground_core.specs.Problems.{ProblemState, AreLitsOf}
use Rattle.ground_core.specs.Solving.{SolveState, HasCoreWithin}
use Rattle.atom_numbers.specs.Numbers.{HasNumber}
use Rattle.consequences.specs.declared.kept.Kept.{Kept}
use Rattle.consequences.specs.Forced.{Forces, IsSeen}
use Rattle.kept_supports.specs.Supports.{kept_of, undecided}
use Rattle.ground_task.proofs.TaskFacts.{shown-of}
use Rattle.forced_literals.specs.Searches.{AddsForced, AreForcedOf, Finds, ListsKept, both_signs}
use Rattle.forced_literals.proofs.AnswerFacts.{no-model, shown}
use Rattle.forced_literals.proofs.AskFacts.{choice-lits, unknown-lits, found-slice, picked-slices}
use Rattle.forced_literals.proofs.SearchFacts.{signed-are, undecided-are}
use Rattle.forced_literals.proofs.SupportLemmas.{all-force, all-supported, covered}
use Rattle.forced_literals.proofs.forcing.forced.Goals as goal

pub forced_lits-requires-clause-literals : goal.forced_lits-requires-clause-literals
forced_lits-requires-clause-literals g c =
    let p : ProblemState = (g.S.Solve.state c.args.task.now.solver).problem in
    subst (AreLitsOf (length p.atoms)) (sym c.as_slice.ensures.value)
    (choice-lits c.requires.task.0 c.args.task.now.numbers p c.args.unknown.now.lits.now c.requires.task.1.0
    c.args.choices.now
    c.in-Ok.lits.items c.in-Ok.ensures)

pub forced_lits-requires-clause-atoms : goal.forced_lits-requires-clause-atoms
forced_lits-requires-clause-atoms g c =
    let p : ProblemState = (g.S.Solve.state c.args.task.now.solver).problem in
    unknown-lits c.requires.task.0 c.args.task.now.numbers p c.args.unknown.now.lits.now c.requires.task.1.0

pub forced_lits-requires-clause-seen : goal.forced_lits-requires-clause-seen
forced_lits-requires-clause-seen g c =
    let p : ProblemState = (g.S.Solve.state c.args.task.now.solver).problem in
    subst (λ (ls : List Lit). All (IsSeen p ls) c.args.unknown.now.seen.now) (sym c.as_slice.ensures.value)
    (c.requires.seen c.in-Ok.lits.items c.in-Ok.ensures)

pub forced_lits-requires-clause-known : goal.forced_lits-requires-clause-known
forced_lits-requires-clause-known g c =
    let p : ProblemState = (g.S.Solve.state c.args.task.now.solver).problem in
    subst (λ (ls : List Lit). All (λ (k : Kept). Forces p ls k.lit) c.args.supports.now) (sym c.as_slice.ensures.value)
    (all-force c.requires.task.0 c.args.task.now.numbers p c.args.unknown.now.lits.now c.requires.task.1.0
    c.args.choices.now
    c.in-Ok.lits.items c.in-Ok.ensures c.args.supports.now c.requires.task.1.1)

pub shown-requires : goal.shown-requires
shown-requires g c =
    let p : ProblemState = (g.S.Solve.state c.args.task.now.solver).problem in
    let t : SolveState = g.S.Solve.state c.forced_lits.new.s.solver in
    let found = subst (Finds p c.as_slice.result.now (both_signs c.args.unknown.now.lits.now) t.cores)
    c.in-Ok-Some.field-0-is c.in-Ok-Some.ensures.finds in
    found-slice c.requires.task.0 c.args.task.now.numbers p c.args.unknown.now.lits.now c.requires.task.1.0
    c.as_slice.result.now
    c.in-Ok-Some.kept found c.numbers.result.now c.as_slice-in-Ok-Some-2.result.now
    (c.numbers.ensures ∙ sym c.forced_lits.ensures.later.1) c.as_slice-in-Ok-Some-2.ensures

pub returns-in-Ok-shown-clause-answer : goal.returns-in-Ok-shown-clause-answer
returns-in-Ok-shown-clause-answer g c = λ base h.
    let p : ProblemState = (g.S.Solve.state c.args.task.now.solver).problem in
    let t : SolveState = g.S.Solve.state c.forced_lits.new.s.solver in
    let found = subst (Finds p c.as_slice.result.now (both_signs c.args.unknown.now.lits.now) t.cores)
    c.in-Ok-Some.field-0-is c.in-Ok-Some.ensures.finds in
    shown base c.args.task.now.numbers p c.args.unknown.now.lits.now h.0 c.args.choices.now c.in-Ok.lits.items
    c.in-Ok.ensures c.in-Ok-Some.kept
    (subst (λ (ls : List Lit). AreForcedOf p ls (both_signs c.args.unknown.now.lits.now) c.in-Ok-Some.kept)
    c.as_slice.ensures.value found) c.in-Ok-shown.list
    (picked-slices c.numbers.result.now c.args.task.now.numbers c.as_slice-in-Ok-Some.result.now c.in-Ok.lits.items
    c.as_slice-in-Ok-Some-2.result.now c.in-Ok-Some.kept c.in-Ok-shown.list
    (c.numbers.ensures ∙ sym c.forced_lits.ensures.later.1) c.as_slice-in-Ok-Some.ensures.value
    c.as_slice-in-Ok-Some-2.ensures c.in-Ok-shown.ensures)

pub returns-in-Ok-shown-clause-covers : goal.returns-in-Ok-shown-clause-covers
returns-in-Ok-shown-clause-covers g c = λ base h.
    let p : ProblemState = (g.S.Solve.state c.args.task.now.solver).problem in
    let t : SolveState = g.S.Solve.state c.forced_lits.new.s.solver in
    let found = subst (Finds p c.as_slice.result.now (both_signs c.args.unknown.now.lits.now) t.cores)
    c.in-Ok-Some.field-0-is c.in-Ok-Some.ensures.finds in
    let lists = subst (ListsKept c.forced_lits.new.supports c.args.unknown.now.lits.now) c.in-Ok-Some.field-0-is
    c.in-Ok-Some.ensures.lists in
    covered base c.args.task.now.numbers p c.args.unknown.now.lits.now h.0 c.args.choices.now c.in-Ok.lits.items
    c.in-Ok.ensures c.forced_lits.new.supports c.in-Ok-Some.kept lists
    (subst (λ (ls : List Lit). AreForcedOf p ls (both_signs c.args.unknown.now.lits.now) c.in-Ok-Some.kept)
    c.as_slice.ensures.value found)

pub returns-in-Ok-None-clause-answer : goal.returns-in-Ok-None-clause-answer
returns-in-Ok-None-clause-answer g c = λ base h.
    let p : ProblemState = (g.S.Solve.state c.args.task.now.solver).problem in
    let t : SolveState = g.S.Solve.state c.forced_lits.new.s.solver in
    let told = subst (Finds p c.as_slice.result.now (both_signs c.args.unknown.now.lits.now) t.cores)
    c.in-Ok-None.field-0-is c.in-Ok-None.ensures.finds in
    no-model base c.args.task.now.numbers p c.args.unknown.now.lits.now h.0 c.args.choices.now c.in-Ok.lits.items
    c.in-Ok.ensures (subst (RefutesAll p) c.as_slice.ensures.value told.0)

pub returns-in-Ok-None-clause-refuted : goal.returns-in-Ok-None-clause-refuted
returns-in-Ok-None-clause-refuted g c = λ lits each.
    let p : ProblemState = (g.S.Solve.state c.args.task.now.solver).problem in
    let t : SolveState = g.S.Solve.state c.forced_lits.new.s.solver in
    let told = subst (Finds p c.as_slice.result.now (both_signs c.args.unknown.now.lits.now) t.cores)
    c.in-Ok-None.field-0-is c.in-Ok-None.ensures.finds in
    shown-of c.requires.task.0 c.args.task.now.numbers p c.requires.task.1.0.task c.args.choices.now c.in-Ok.lits.items
    lits c.in-Ok.ensures each t.cores (subst (HasCoreWithin t.cores) c.as_slice.ensures.value told.1)

pub returns-in-Ok-shown-clause-supported : goal.returns-in-Ok-shown-clause-supported
returns-in-Ok-shown-clause-supported g c = λ base h.
    let p : ProblemState = (g.S.Solve.state c.args.task.now.solver).problem in
    let t : SolveState = g.S.Solve.state c.forced_lits.new.s.solver in
    let ask : List Lit = both_signs (undecided c.args.supports.now c.args.unknown.now.lits.now) in
    all-supported base c.args.task.now.numbers p c.args.unknown.now.lits.now h.0 c.args.choices.now c.in-Ok.lits.items
    c.in-Ok.ensures ask t.cores c.args.supports.now c.forced_lits.new.supports
    (signed-are (length p.atoms) (undecided c.args.supports.now c.args.unknown.now.lits.now)
    (undecided-are (length p.atoms) c.args.supports.now c.args.unknown.now.lits.now
    (unknown-lits base c.args.task.now.numbers p c.args.unknown.now.lits.now h.0)))
    (subst (λ (ls : List Lit). AddsForced p ls ask t.cores c.args.supports.now c.forced_lits.new.supports)
    c.as_slice.ensures.value c.forced_lits.ensures.adds) h.1

pub returns-in-Ok-Some-clause-supported : goal.returns-in-Ok-Some-clause-supported
returns-in-Ok-Some-clause-supported g c = λ base h.
    let p : ProblemState = (g.S.Solve.state c.args.task.now.solver).problem in
    let t : SolveState = g.S.Solve.state c.forced_lits.new.s.solver in
    let ask : List Lit = both_signs (undecided c.args.supports.now c.args.unknown.now.lits.now) in
    all-supported base c.args.task.now.numbers p c.args.unknown.now.lits.now h.0 c.args.choices.now c.in-Ok.lits.items
    c.in-Ok.ensures ask t.cores c.args.supports.now c.forced_lits.new.supports
    (signed-are (length p.atoms) (undecided c.args.supports.now c.args.unknown.now.lits.now)
    (undecided-are (length p.atoms) c.args.supports.now c.args.unknown.now.lits.now
    (unknown-lits base c.args.task.now.numbers p c.args.unknown.now.lits.now h.0)))
    (subst (λ (ls : List Lit). AddsForced p ls ask t.cores c.args.supports.now c.forced_lits.new.supports)
    c.as_slice.ensures.value c.forced_lits.ensures.adds) h.1

pub returns-in-Ok-None-clause-supported : goal.returns-in-Ok-None-clause-supported
returns-in-Ok-None-clause-supported g c = λ base h.
    let p : ProblemState = (g.S.Solve.state c.args.task.now.solver).problem in
    let t : SolveState = g.S.Solve.state c.forced_lits.new.s.solver in
    let ask : List Lit = both_signs (undecided c.args.supports.now c.args.unknown.now.lits.now) in
    all-supported base c.args.task.now.numbers p c.args.unknown.now.lits.now h.0 c.args.choices.now c.in-Ok.lits.items
    c.in-Ok.ensures ask t.cores c.args.supports.now c.forced_lits.new.supports
    (signed-are (length p.atoms) (undecided c.args.supports.now c.args.unknown.now.lits.now)
    (undecided-are (length p.atoms) c.args.supports.now c.args.unknown.now.lits.now
    (unknown-lits base c.args.task.now.numbers p c.args.unknown.now.lits.now h.0)))
    (subst (λ (ls : List Lit). AddsForced p ls ask t.cores c.args.supports.now c.forced_lits.new.supports)
    c.as_slice.ensures.value c.forced_lits.ensures.adds) h.1

pub returns-clause-supported : goal.returns-clause-supported
returns-clause-supported g c = λ base h.
    let p : ProblemState = (g.S.Solve.state c.args.task.now.solver).problem in
    let t : SolveState = g.S.Solve.state c.forced_lits.new.s.solver in
    let ask : List Lit = both_signs (undecided c.args.supports.now c.args.unknown.now.lits.now) in
    all-supported base c.args.task.now.numbers p c.args.unknown.now.lits.now h.0 c.args.choices.now c.in-Ok.lits.items
    c.in-Ok.ensures ask t.cores c.args.supports.now c.forced_lits.new.supports
    (signed-are (length p.atoms) (undecided c.args.supports.now c.args.unknown.now.lits.now)
    (undecided-are (length p.atoms) c.args.supports.now c.args.unknown.now.lits.now
    (unknown-lits base c.args.task.now.numbers p c.args.unknown.now.lits.now h.0)))
    (subst (λ (ls : List Lit). AddsForced p ls ask t.cores c.args.supports.now c.forced_lits.new.supports)
    c.as_slice.ensures.value c.forced_lits.ensures.adds) h.1

pub returns-in-Ok-shown-clause-kept : goal.returns-in-Ok-shown-clause-kept
returns-in-Ok-shown-clause-kept g c = (c.forced_lits.ensures.adds.more, c.forced_lits.ensures.adds.kept)

pub returns-in-Ok-Some-clause-kept : goal.returns-in-Ok-Some-clause-kept
returns-in-Ok-Some-clause-kept g c = (c.forced_lits.ensures.adds.more, c.forced_lits.ensures.adds.kept)

pub returns-in-Ok-None-clause-kept : goal.returns-in-Ok-None-clause-kept
returns-in-Ok-None-clause-kept g c = (c.forced_lits.ensures.adds.more, c.forced_lits.ensures.adds.kept)

pub returns-clause-kept : goal.returns-clause-kept
returns-clause-kept g c = (c.forced_lits.ensures.adds.more, c.forced_lits.ensures.adds.kept)
