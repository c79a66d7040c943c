use Rattle.std.proofs.Common.{◌∷◌, ◌++◌, [], true, refl, ap, ◌∙◌}
use Rattle.clause_learning.specs.declared.core_index.CoreIndex.{CoreIndex}
use Rattle.clause_learning.proofs.CoreIndexFacts.{same-index, indexed-empty}
use Rattle.clause_learning.proofs.core_index.CoreIndex.push_empty.Goals as goal

pub returns-in_err-reserve-clause-indexed : goal.returns-in_err-reserve-clause-indexed
returns-in_err-reserve-clause-indexed c =
    let k : CoreIndex = c.args.self.now in
    let m : CoreIndex = record {
      cores = c.reserve.new.self;
      positive = k.positive;
      negative = k.negative;
      older = k.older;
      numbers = k.numbers;
      refuted = k.refuted;
      refuted_number = k.refuted_number;
    } in
    same-index k m c.in_err-reserve.ensures.items refl (λ l. refl) refl c.requires.indexed

pub returns-in_err-reserve-2-clause-indexed : goal.returns-in_err-reserve-2-clause-indexed
returns-in_err-reserve-2-clause-indexed c =
    let k : CoreIndex = c.args.self.now in
    let m : CoreIndex = record {
      cores = c.reserve.new.self;
      positive = k.positive;
      negative = k.negative;
      older = c.reserve-2.new.self;
      numbers = k.numbers;
      refuted = k.refuted;
      refuted_number = k.refuted_number;
    } in
    same-index k m c.in_ok-reserve.ensures.items c.in_err-reserve-2.ensures.items (λ l. refl) refl c.requires.indexed

pub returns-in_err-reserve-3-clause-indexed : goal.returns-in_err-reserve-3-clause-indexed
returns-in_err-reserve-3-clause-indexed c =
    let k : CoreIndex = c.args.self.now in
    let m : CoreIndex = record {
      cores = c.reserve.new.self;
      positive = k.positive;
      negative = k.negative;
      older = c.reserve-2.new.self;
      numbers = c.reserve-3.new.self;
      refuted = k.refuted;
      refuted_number = k.refuted_number;
    } in
    same-index k m c.in_ok-reserve.ensures.items c.in_ok-reserve-2.ensures.items (λ l. refl) refl c.requires.indexed

pub returns-clause-indexed : goal.returns-clause-indexed
returns-clause-indexed c =
    let k : CoreIndex = c.args.self.now in
    let m : CoreIndex = record {
      cores = c.push_reserved-2.new.self;
      positive = k.positive;
      negative = k.negative;
      older = c.push_reserved.new.self;
      numbers = c.push_reserved-3.new.self;
      refuted = true;
      refuted_number = c.args.number;
    } in
    indexed-empty k m c.args.core 0 c.requires.indexed
    (c.push_reserved-2.ensures.items ∙ ap (λ cs. cs ++ c.args.core ∷ []) c.in_ok-reserve.ensures.items)
    (c.push_reserved.ensures.items ∙ ap (λ xs. xs ++ 0 ∷ []) c.in_ok-reserve-2.ensures.items)
    c.requires.empty (λ l. refl) refl
