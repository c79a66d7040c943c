use Rattle.std.proofs.Common.{◌≡◌, ℕ, ◌+◌, ◌∷◌, ◌++◌, [], length, refl, ap, ◌∙◌, arith}
use Rattle.clause_learning.specs.declared.core_index.CoreIndex.{CoreIndex}
use Rattle.clause_learning.proofs.CoreIndexFacts.{same-index, indexed-push}
use Rattle.clause_learning.proofs.core_index.CoreIndex.push.Goals as goal

pub returns-in_err-reserve-clause-indexed : goal.returns-in_err-reserve-clause-indexed
returns-in_err-reserve-clause-indexed c =
    let k : CoreIndex = c.args.self.now in
    let m : CoreIndex = record {
      cores = c.reserve.new.self;
      positive = k.positive;
      negative = k.negative;
      older = k.older;
      numbers = k.numbers;
      refuted = k.refuted;
      refuted_number = k.refuted_number;
    } in
    same-index k m c.in_err-reserve.ensures.items refl (λ l. refl) refl c.requires.indexed

pub returns-in_err-reserve-2-clause-indexed : goal.returns-in_err-reserve-2-clause-indexed
returns-in_err-reserve-2-clause-indexed c =
    let k : CoreIndex = c.args.self.now in
    let m : CoreIndex = record {
      cores = c.reserve.new.self;
      positive = k.positive;
      negative = k.negative;
      older = c.reserve-2.new.self;
      numbers = k.numbers;
      refuted = k.refuted;
      refuted_number = k.refuted_number;
    } in
    same-index k m c.in_ok-reserve.ensures.items c.in_err-reserve-2.ensures.items (λ l. refl) refl c.requires.indexed

pub returns-in_err-reserve-3-clause-indexed : goal.returns-in_err-reserve-3-clause-indexed
returns-in_err-reserve-3-clause-indexed c =
    let k : CoreIndex = c.args.self.now in
    let m : CoreIndex = record {
      cores = c.reserve.new.self;
      positive = k.positive;
      negative = k.negative;
      older = c.reserve-2.new.self;
      numbers = c.reserve-3.new.self;
      refuted = k.refuted;
      refuted_number = k.refuted_number;
    } in
    same-index k m c.in_ok-reserve.ensures.items c.in_ok-reserve-2.ensures.items (λ l. refl) refl c.requires.indexed

pub returns-in_err-was-clause-indexed : goal.returns-in_err-was-clause-indexed
returns-in_err-was-clause-indexed c =
    same-index c.args.self.now c.make_newest.new.self
    (ap (λ v. v.items) c.make_newest.ensures.cores ∙ c.in_ok-reserve.ensures.items)
    (ap (λ v. v.items) c.make_newest.ensures.older ∙ c.in_ok-reserve-2.ensures.items)
    c.in_err-was.ensures.err c.make_newest.ensures.refuted c.requires.indexed

pub returns-clause-indexed : goal.returns-clause-indexed
returns-clause-indexed c =
    let k : CoreIndex = c.args.self.now in
    let n : CoreIndex = c.make_newest.new.self in
    let m : CoreIndex = record {
      cores = c.push_reserved-2.new.self;
      positive = n.positive;
      negative = n.negative;
      older = c.push_reserved.new.self;
      numbers = c.push_reserved-3.new.self;
      refuted = n.refuted;
      refuted_number = n.refuted_number;
    } in
    let len : c.len-newest.result ≡ length k.cores.items = omega (
      arith,
      c.len-newest.ensures,
      ap length c.in_ok-reserve.ensures.items,
      c.reserve.new.self.ok.0,
    ) in
    indexed-push k m c.args.core c.in_ok-was.was' c.requires.indexed
    (c.push_reserved-2.ensures.items ∙ ap (λ cs. cs ++ c.args.core ∷ []) (ap (λ v. v.items) c.make_newest.ensures.cores
    ∙ c.in_ok-reserve.ensures.items))
    (c.push_reserved.ensures.items ∙ ap (λ xs. xs ++ c.in_ok-was.was' ∷ [])
    (ap (λ v. v.items) c.make_newest.ensures.older ∙ c.in_ok-reserve-2.ensures.items))
    c.args.lit c.requires.last c.in_ok-was.ensures.was (c.in_ok-was.ensures.here ∙ ap (λ (i : ℕ). i + 1) len)
    c.in_ok-was.ensures.others c.make_newest.ensures.refuted
