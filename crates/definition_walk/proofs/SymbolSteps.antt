-- One symbol more.
use Rattle.std.proofs.Common.{◌≡◌, ◌<◌, ◌≤◌, ℕ, zero, suc, ◌+◌, ◌-◌, List, [], ◌∷◌, ◌++◌, take, drop, fold, length}
use Rattle.std.proofs.Common.{get_or, Bool, if◌then◌else◌, refl, sym, ap, ◌∙◌, arith}
use Rattle.std.specs.List.{sum_by}
use Rattle.std.proofs.lemmas.List.Sums.{sum_by-cons, fold-append}
use Rattle.std.proofs.Math.Seq.{take-length}
use Rattle.std.proofs.lemmas.Option.{slice_get-get_or}
use Rattle.kb_logic.specs.declared.vocabularies.Symbol.{Symbol}
use Rattle.kb_logic.specs.Trees.{DefinitionTree}
use Rattle.ground_core.specs.Problems.{ProblemState}
use Rattle.term_values.specs.GroundBases.{GroundBase, atoms_in, first_var}
use Rattle.term_values.proofs.Places.{atoms-count}
use Rattle.term_values.proofs.VariableLemmas.{symbol_vars}
use Rattle.def_ground.proofs.StartLaws.{atoms-length}
use Rattle.ground_walk.specs.Groundable.{KnowsAtoms}
use Rattle.def_ground.specs.Definitions.{is_defined}
use Rattle.definition_walk.specs.Lists.{numbers_from}
use Rattle.definition_walk.specs.WalkLaws.{ranges}

sum-next : (f : Symbol → ℕ) (xs : List Symbol) (k : ℕ) (x : Symbol) → k < length xs
    → sum_by f (take (k + 1) xs) ≡ sum_by f (take k xs) + f (get_or xs k x)
sum-next f [] k x h = absurd (omega (arith, h))
sum-next f (y ∷ xs) zero x h = let one = sum_by-cons f y [] in omega (arith, one)
sum-next f (y ∷ xs) (suc k) x h =
    let next : suc k + 1 ≡ suc (k + 1) = omega arith in
    let same = ap (λ m. sum_by f (take m (y ∷ xs))) next in
    let all = sum_by-cons f y (take (k + 1) xs) in
    let front = sum_by-cons f y (take k xs) in
    let rest = sum-next f xs k x (omega (arith, h)) in
    omega (arith, same, all, front, rest)

drop-next : (xs : List Symbol) (k : ℕ) (x : Symbol) → k < length xs → drop k xs ≡ get_or xs k x ∷ drop (k + 1) xs
drop-next [] k x h = absurd (omega (arith, h))
drop-next (y ∷ xs) zero x h = refl
drop-next (y ∷ xs) (suc k) x h =
    let next : suc (k + 1) ≡ suc k + 1 = omega arith in
    drop-next xs k x (omega (arith, h)) ∙ ap (λ m. get_or xs k x ∷ drop m (y ∷ xs)) next

module _ (b : GroundBase) where
  pub vars-next : (k : ℕ) (x : Symbol) → k < length b.vocabulary.symbols
      → first_var b (k + 1) ≡ first_var b k + atoms_in b.domains (get_or b.vocabulary.symbols k x)
  vars-next k x h = let s = sum-next (atoms_in b.domains) b.vocabulary.symbols k x h in omega (arith, s)

  pub known-sum : KnowsAtoms b → length b.known ≡ sum_by (atoms_in b.domains) b.vocabulary.symbols
  known-sum known = known ∙ atoms-length b.vocabulary.symbols b.domains ∙ atoms-count b

  pub last-var : KnowsAtoms b → (k : ℕ) → k + 1 ≡ length b.vocabulary.symbols
      → length b.known + 1 ≡ first_var b (k + 1)
  last-var known k e =
      let sum = known-sum known in
      let all = ap (λ xs. sum_by (atoms_in b.domains) xs)
      (ap (λ m. take m b.vocabulary.symbols) e ∙ take-length b.vocabulary.symbols) in
      omega (arith, sum, all)

  pub vars-within : KnowsAtoms b → (k : ℕ) (x : Symbol) → k < length b.vocabulary.symbols
      → first_var b (k + 1) ≤ length b.known + 1
  vars-within known k x h =
      let at = slice_get-get_or b.vocabulary.symbols k x h in
      let all = symbol_vars b (known-sum known) k (get_or b.vocabulary.symbols k x) at in
      let next = vars-next k x h in
      omega (arith, all, next)

  pub vars-rise : (k : ℕ) (x : Symbol) → k < length b.vocabulary.symbols → first_var b k ≤ first_var b (k + 1)
  vars-rise k x h = let next = vars-next k x h in omega (arith, next)

  pub ranges-next : (d : DefinitionTree) (k : ℕ) (x : Symbol) (t : Bool) → t ≡ is_defined d k
      → k < length b.vocabulary.symbols
      → ranges b d (first_var b k) k (drop k b.vocabulary.symbols)
      ≡ (if t then numbers_from (first_var b k) (first_var b (k + 1) - first_var b k) else [])
      ++ ranges b d (first_var b (k + 1)) (k + 1) (drop (k + 1) b.vocabulary.symbols)
  ranges-next d k x t e h =
      let s = get_or b.vocabulary.symbols k x in
      let next = vars-next k x h in
      let count : atoms_in b.domains s ≡ first_var b (k + 1) - first_var b k = omega (arith, next) in
      let rest = drop (k + 1) b.vocabulary.symbols in
      ap (ranges b d (first_var b k) k) (drop-next b.vocabulary.symbols k x h)
      ∙ ap (λ u. (if u then numbers_from (first_var b k) (atoms_in b.domains s) else [])
      ++ ranges b d (first_var b k + atoms_in b.domains s) (k + 1) rest) (sym e)
      ∙ ap (λ n. (if t then numbers_from (first_var b k) n else [])
      ++ ranges b d (first_var b k + atoms_in b.domains s) (k + 1) rest) count
      ∙ ap (λ n. (if t then numbers_from (first_var b k) (first_var b (k + 1) - first_var b k) else [])
      ++ ranges b d n (k + 1) rest) (sym next)

  -- the clauses of one symbol more
  pub symbol-done : (F : ProblemState → ℕ → ProblemState) (d : DefinitionTree) (k : ℕ) (x : Symbol) (t : Bool)
      (p q all : ProblemState) → t ≡ is_defined d k → k < length b.vocabulary.symbols
      → q ≡ fold F p (if t then numbers_from (first_var b k) (first_var b (k + 1) - first_var b k) else [])
      → fold F p (ranges b d (first_var b k) k (drop k b.vocabulary.symbols)) ≡ all
      → fold F q (ranges b d (first_var b (k + 1)) (k + 1) (drop (k + 1) b.vocabulary.symbols)) ≡ all
  symbol-done F d k x t p q all e h here before =
      let D = if t then numbers_from (first_var b k) (first_var b (k + 1) - first_var b k) else [] in
      let rest = ranges b d (first_var b (k + 1)) (k + 1) (drop (k + 1) b.vocabulary.symbols) in
      ap (λ r. fold F r rest) here ∙ sym (fold-append F p D rest)
      ∙ ap (fold F p) (sym (ranges-next d k x t e h)) ∙ before

pub item-at : (xs : List Symbol) (k : ℕ) → k < length xs → Symbol
item-at [] k h = absurd (omega (arith, h))
item-at (x ∷ xs) k h = x
