-- A solver that gives up nothing of what it stated.
use Rattle.std.specs.Prelude.{◌≡◌, List, [], ◌++◌}
use Rattle.std.proofs.Common.{sym, ap, ◌∙◌}
use Rattle.std.proofs.lemmas.List.{append-nil, append_assoc}
use Rattle.ground_core.specs.Solving.{SolveState, IsPrefix}

-- what was learnt, when, the kept cores and the additions are there still, and others may stand after them
pub record GoesOn (s t : SolveState) : Type 0 where
  pub learnt : IsPrefix s.learnt t.learnt
  pub moments : IsPrefix s.moments t.moments
  pub cores : IsPrefix s.cores t.cores
  pub additions : IsPrefix s.additions t.additions

pub prefix-itself : {A : Type 0} (xs : List A) → IsPrefix xs xs
prefix-itself xs = ([], sym (append-nil xs))

pub prefix-same : {A : Type 0} (xs ys : List A) → ys ≡ xs → IsPrefix xs ys
prefix-same xs ys e = ([], e ∙ sym (append-nil xs))

pub prefix-twice : {A : Type 0} (xs ys zs : List A) → IsPrefix xs ys → IsPrefix ys zs → IsPrefix xs zs
prefix-twice xs ys zs a b = (a.0 ++ b.0, b.1 ∙ ap (λ l. l ++ b.0) a.1 ∙ append_assoc xs a.0 b.0)

pub goes-itself : (s : SolveState) → GoesOn s s
goes-itself s = record {
  learnt = prefix-itself s.learnt;
  moments = prefix-itself s.moments;
  cores =
      prefix-itself s.cores;
  additions = prefix-itself s.additions;
}

pub goes-twice : (r s t : SolveState) → GoesOn r s → GoesOn s t → GoesOn r t
goes-twice r s t a b = record {
  learnt = prefix-twice r.learnt s.learnt t.learnt a.learnt b.learnt;
  moments = prefix-twice r.moments s.moments t.moments a.moments b.moments;
  cores = prefix-twice r.cores s.cores t.cores a.cores b.cores;
  additions = prefix-twice r.additions s.additions t.additions a.additions b.additions;
}
