-- Formulas and terms with words for numbers, as they are written; what a tree of the grammar says; and the parts that
-- write it.
use Rattle.std.specs.Prelude.{◌<◌, ◌^◌, ℕ, List, [], ◌∷◌, Bool, true, false, if◌then◌else◌, codes}
use Rattle.std.specs.Fmt.{decimal}
use Rattle.kb_text.specs.declared.token.Kind.TheVariants.{Word, Int}
use Rattle.kb_text.specs.Tokens.{is_word_of, unsupported_chain_words, unsupported_call_words}
use Rattle.grammar.specs.declared.terminal.Comparison.{Comparison}
use Rattle.grammar.specs.declared.terminal.Comparison.TheVariants as cmp
use Rattle.grammar.specs.declared.terminal.Arrow.{Arrow}
use Rattle.grammar.specs.declared.terminal.Arrow.TheVariants as arrow
use Rattle.grammar.specs.declared.terminal.Aggregation.{Aggregation}
use Rattle.grammar.specs.declared.terminal.Aggregation.TheVariants as how
use Rattle.grammar.specs.Trees as raw
use Rattle.stage_definitions.specs.Numbering.{is_minus}
use Rattle.printed_texts.specs.Written.{Part, piece}
use Rattle.printed_texts.specs.Parts.{sign, space}
use Rattle.stage_definitions.specs.Names.{text_of}
use Rattle.printed_texts.specs.Texts.{truth_text}
use Rattle.printed_texts.specs.Names.{IsName}

-- a variable with its type
pub data Binder : Type 0 where
  binder : List ℕ → List ℕ → Binder

-- one or more
pub data Binders : Type 0 where
  one_binder : Binder → Binders
  more_binders : Binder → Binders → Binders

mutual
  pub data Fm : Type 0 where
    truth : Bool → Fm
    atom : List ℕ → Tms → Fm
    comparison : Comparison → Tm → Tm → Fm
    negation : Fm → Fm
    conjunction : Fm → Fms → Fm
    disjunction : Fm → Fms → Fm
    implication : Fm → Fm → Fm
    equivalence : Fm → Fm → Fm
    universal : Binders → Fm → Fm
    existential : Binders → Fm → Fm
    numbered : Comparison → ℕ → Binders → Fm → Fm

  -- one or more
  pub data Fms : Type 0 where
    one_fm : Fm → Fms
    more_fms : Fm → Fms → Fms

  pub data Tm : Type 0 where
    application : List ℕ → Tms → Tm
    integer : ℕ → Tm
    summation : Bool → Tm → Summands → Tm
    product : Tm → Factors → Tm
    count : Binders → Fm → Tm
    aggregate : Aggregation → Binders → Fm → Tm → Tm

  pub data Tms : Type 0 where
    no_tms : Tms
    some_tms : Tm → Others → Tms

  -- further arguments
  pub data Others : Type 0 where
    no_others : Others
    more_others : Tm → Others → Others

  -- further operands of a sum, each with whether it has a minus
  pub data Summands : Type 0 where
    no_summands : Summands
    more_summands : Bool → Tm → Summands → Summands

  pub data Factors : Type 0 where
    one_factor : Tm → Factors
    more_factors : Tm → Factors → Factors

-- ---- how it is written

abbrev pub cmp_text : Comparison → List ℕ
cmp_text cmp.Equal = codes "="
cmp_text cmp.NotEqual = codes "~="
cmp_text cmp.Less = codes "<"
cmp_text cmp.Greater = codes ">"
cmp_text cmp.AtMost = codes "=<"
cmp_text cmp.AtLeast = codes ">="

abbrev pub aggregate_word : Aggregation → List ℕ
aggregate_word how.Sum = codes "sum"
aggregate_word how.Min = codes "min"
aggregate_word how.Max = codes "max"

-- with a space on both sides
abbrev pub between : List ℕ → List Part → List Part
between text rest = space ∷ sign text ∷ space ∷ rest

-- an opening bracket after a word; after some there is a space before it
abbrev pub opened : List (List ℕ) → List ℕ → List ℕ → List Part → List Part
opened words text n rest = if is_word_of words n then space ∷ sign text ∷ rest else sign text ∷ rest

abbrev pub write_binder : Binder → List Part → List Part
write_binder (binder n ty) rest = piece Word n ∷ opened unsupported_chain_words (codes "[") n
    (piece Word ty ∷ sign (codes "]") ∷ rest)

abbrev pub write_binders : Binders → List Part → List Part
write_binders (one_binder x) rest = write_binder x rest
write_binders (more_binders x xs) rest = write_binder x (space ∷ write_binders xs rest)

abbrev pub write_minus : Bool → List Part → List Part
write_minus true rest = sign (codes "-") ∷ rest
write_minus false rest = rest

abbrev pub add_text : Bool → List ℕ
add_text true = codes "-"
add_text false = codes "+"

abbrev mutual
  pub write_fm : Fm → List Part → List Part
  write_fm (truth b) rest = piece Word (truth_text b) ∷ rest
  write_fm (atom n ts) rest = piece Word n ∷ write_tms n ts rest
  write_fm (comparison c x y) rest =
      sign (codes "(") ∷ write_tm x (between (cmp_text c) (write_tm y (sign (codes ")") ∷ rest)))
  write_fm (negation f) rest = sign (codes "(") ∷ sign (codes "~") ∷ write_fm f (sign (codes ")") ∷ rest)
  write_fm (conjunction f fs) rest =
      sign (codes "(") ∷ write_fm f (between (codes "&") (write_fms (codes "&") fs (sign (codes ")") ∷ rest)))
  write_fm (disjunction f fs) rest =
      sign (codes "(") ∷ write_fm f (between (codes "|") (write_fms (codes "|") fs (sign (codes ")") ∷ rest)))
  write_fm (implication f g) rest =
      sign (codes "(") ∷ write_fm f (between (codes "=>") (write_fm g (sign (codes ")") ∷ rest)))
  write_fm (equivalence f g) rest =
      sign (codes "(") ∷ write_fm f (between (codes "<=>") (write_fm g (sign (codes ")") ∷ rest)))
  write_fm (universal vs f) rest =
      sign (codes "(") ∷ sign (codes "!") ∷ write_binders vs
      (sign (codes ":") ∷ space ∷ write_fm f (sign (codes ")") ∷ rest))
  write_fm (existential vs f) rest =
      sign (codes "(") ∷ sign (codes "?") ∷ write_binders vs
      (sign (codes ":") ∷ space ∷ write_fm f (sign (codes ")") ∷ rest))
  write_fm (numbered c n vs f) rest = sign (codes "(") ∷ sign (codes "?") ∷ sign (cmp_text c) ∷ piece Int (decimal n)
      ∷ space ∷ write_binders vs (sign (codes ":") ∷ space ∷ write_fm f (sign (codes ")") ∷ rest))

  pub write_fms : List ℕ → Fms → List Part → List Part
  write_fms text (one_fm f) rest = write_fm f rest
  write_fms text (more_fms f fs) rest = write_fm f (between text (write_fms text fs rest))

  pub write_tm : Tm → List Part → List Part
  write_tm (application n ts) rest = piece Word n ∷ write_tms n ts rest
  write_tm (integer n) rest = piece Int (decimal n) ∷ rest
  write_tm (summation m x ss) rest =
      sign (codes "(") ∷ write_minus m (write_tm x (write_summands ss (sign (codes ")") ∷ rest)))
  write_tm (product x fs) rest =
      sign (codes "(") ∷ write_tm x (between (codes "*") (write_factors fs (sign (codes ")") ∷ rest)))
  write_tm (count vs f) rest =
      sign (codes "#") ∷ sign (codes "{") ∷ write_binders vs
      (sign (codes ":") ∷ space ∷ write_fm f (sign (codes "}") ∷ rest))
  write_tm (aggregate a vs f x) rest = piece Word (aggregate_word a) ∷ sign (codes "{") ∷ write_binders vs
      (sign (codes ":") ∷ space ∷ write_fm f (sign (codes ":") ∷ space ∷ write_tm x (sign (codes "}") ∷ rest)))

  pub write_tms : List ℕ → Tms → List Part → List Part
  write_tms n no_tms rest = rest
  write_tms n (some_tms x xs) rest =
      opened unsupported_call_words (codes "(") n (write_tm x (write_others xs (sign (codes ")") ∷ rest)))

  pub write_others : Others → List Part → List Part
  write_others no_others rest = rest
  write_others (more_others x xs) rest = sign (codes ",") ∷ write_tm x (write_others xs rest)

  pub write_summands : Summands → List Part → List Part
  write_summands no_summands rest = rest
  write_summands (more_summands m x ss) rest = between (add_text m) (write_tm x (write_summands ss rest))

  pub write_factors : Factors → List Part → List Part
  write_factors (one_factor x) rest = write_tm x rest
  write_factors (more_factors x xs) rest = write_tm x (between (codes "*") (write_factors xs rest))

-- ---- what a tree says

-- a form that is never written
abbrev pub unwritten : Fm
unwritten = truth false

abbrev pub unwritten_term : Tm
unwritten_term = integer 0

abbrev pub says_var : raw.Var → Binder
says_var (raw.untyped n) = binder (text_of n) []
says_var (raw.typed n p ty q) = binder (text_of n) (text_of ty)

abbrev pub says_vars : raw.Vars → Binders
says_vars (raw.var v) = one_binder (says_var v)
says_vars (raw.beside v vs) = more_binders (says_var v) (says_vars vs)
says_vars (raw.comma v p vs) = more_binders (says_var v) (says_vars vs)

abbrev pub says_number : raw.Number → Binders → Fm → Fm
says_number raw.any vs f = existential vs f
says_number (raw.exactly n p) vs f = numbered cmp.Equal n vs f
says_number (raw.compared c p n q) vs f = numbered c n vs f

abbrev pub says_link : Arrow → Fm → Fm → Fm
says_link arrow.Implies f g = implication f g
says_link arrow.ImpliedBy f g = implication g f
says_link arrow.Equivalent f g = equivalence f g

abbrev mutual
  pub says_formula : raw.Formula → Fm
  says_formula (raw.alone o) = says_or o
  says_formula (raw.linked a o p (raw.last o2)) = says_link a (says_or o) (says_or o2)
  says_formula (raw.linked a o p (raw.link o2 q os)) = unwritten

  pub says_or : raw.Or → Fm
  says_or (raw.one a) = says_and a
  says_or (raw.or a p o) = disjunction (says_and a) (says_ors o)

  pub says_ors : raw.Or → Fms
  says_ors (raw.one a) = one_fm (says_and a)
  says_ors (raw.or a p o) = more_fms (says_and a) (says_ors o)

  pub says_and : raw.And → Fm
  says_and (raw.single u) = says_unary u
  says_and (raw.and u p a) = conjunction (says_unary u) (says_ands a)

  pub says_ands : raw.And → Fms
  says_ands (raw.single u) = one_fm (says_unary u)
  says_ands (raw.and u p a) = more_fms (says_unary u) (says_ands a)

  pub says_unary : raw.Unary → Fm
  says_unary (raw.not p u) = negation (says_unary u)
  says_unary (raw.every p vs q f) = universal (says_vars vs) (says_formula f)
  says_unary (raw.some p n vs q f) = says_number n (says_vars vs) (says_formula f)
  says_unary (raw.prim x) = says_prim x

  pub says_prim : raw.Prim → Fm
  says_prim (raw.group p f q) = says_formula f
  says_prim (raw.truth b p) = truth b
  says_prim (raw.atom (raw.constant n)) = atom (text_of n) no_tms
  says_prim (raw.atom (raw.empty n p q)) = atom (text_of n) no_tms
  says_prim (raw.atom (raw.apply n p ts q)) = atom (text_of n) (says_terms ts)
  says_prim (raw.compare x c p y) = comparison c (says_term x) (says_term y)

  pub says_term : raw.Term → Tm
  says_term (raw.product x) = says_product x
  says_term (raw.sum x s p y) = summation false (says_product x) (says_summands (is_minus s) y)

  pub says_summands : Bool → raw.Term → Summands
  says_summands m (raw.product x) = more_summands m (says_product x) no_summands
  says_summands m (raw.sum x s p y) = more_summands m (says_product x) (says_summands (is_minus s) y)

  pub says_product : raw.Product → Tm
  says_product (raw.factor x) = says_factor x
  says_product (raw.times x p y) = product (says_factor x) (says_factors y)

  pub says_factors : raw.Product → Factors
  says_factors (raw.factor x) = one_factor (says_factor x)
  says_factors (raw.times x p y) = more_factors (says_factor x) (says_factors y)

  pub says_factor : raw.Factor → Tm
  says_factor (raw.integer n p) = integer n
  says_factor (raw.value (raw.constant n)) = application (text_of n) no_tms
  says_factor (raw.value (raw.empty n p q)) = application (text_of n) no_tms
  says_factor (raw.value (raw.apply n p ts q)) = application (text_of n) (says_terms ts)
  says_factor (raw.brackets p x q) = says_term x
  says_factor (raw.negative p x) = summation true (says_factor x) no_summands
  says_factor (raw.count p b vs c f e) = count (says_vars vs) (says_formula f)
  says_factor (raw.aggregate a p b vs c f d x e) = aggregate a (says_vars vs) (says_formula f) (says_term x)

  pub says_terms : raw.Terms → Tms
  says_terms (raw.final x) = some_tms (says_term x) no_others
  says_terms (raw.then x p xs) = some_tms (says_term x) (says_others xs)

  pub says_others : raw.Terms → Others
  says_others (raw.final x) = more_others (says_term x) no_others
  says_others (raw.then x p xs) = more_others (says_term x) (says_others xs)

-- ---- what can be written

abbrev pub IsBinder : Binder → Type 0
IsBinder (binder n ty) = IsName n × IsName ty

abbrev pub AreBinders : Binders → Type 0
AreBinders (one_binder x) = IsBinder x
AreBinders (more_binders x xs) = IsBinder x × AreBinders xs

-- all but ~=
abbrev pub CountsBy : Comparison → Type 0
CountsBy cmp.Equal = Unit {0}
CountsBy cmp.NotEqual = ⊥
CountsBy cmp.Less = Unit {0}
CountsBy cmp.Greater = Unit {0}
CountsBy cmp.AtMost = Unit {0}
CountsBy cmp.AtLeast = Unit {0}

-- a sum is of two or more, or of one with a minus
abbrev pub IsSum : Bool → Summands → Type 0
IsSum true no_summands = Unit {0}
IsSum true (more_summands m x ss) = ⊥
IsSum false no_summands = ⊥
IsSum false (more_summands m x ss) = Unit {0}

abbrev mutual
  pub IsFm : Fm → Type 0
  IsFm (truth b) = Unit {0}
  IsFm (atom n ts) = IsName n × AreTms ts
  IsFm (comparison c x y) = IsTm x × IsTm y
  IsFm (negation f) = IsFm f
  IsFm (conjunction f fs) = IsFm f × AreFms fs
  IsFm (disjunction f fs) = IsFm f × AreFms fs
  IsFm (implication f g) = IsFm f × IsFm g
  IsFm (equivalence f g) = IsFm f × IsFm g
  IsFm (universal vs f) = AreBinders vs × IsFm f
  IsFm (existential vs f) = AreBinders vs × IsFm f
  IsFm (numbered c n vs f) = CountsBy c × (n < 2 ^ 63) × AreBinders vs × IsFm f

  pub AreFms : Fms → Type 0
  AreFms (one_fm f) = IsFm f
  AreFms (more_fms f fs) = IsFm f × AreFms fs

  pub IsTm : Tm → Type 0
  IsTm (application n ts) = IsName n × AreTms ts
  IsTm (integer n) = n < 2 ^ 63
  IsTm (summation m x ss) = IsSum m ss × IsTm x × AreSummands ss
  IsTm (product x fs) = IsTm x × AreFactors fs
  IsTm (count vs f) = AreBinders vs × IsFm f
  IsTm (aggregate a vs f x) = AreBinders vs × IsFm f × IsTm x

  pub AreTms : Tms → Type 0
  AreTms no_tms = Unit {0}
  AreTms (some_tms x xs) = IsTm x × AreOthers xs

  pub AreOthers : Others → Type 0
  AreOthers no_others = Unit {0}
  AreOthers (more_others x xs) = IsTm x × AreOthers xs

  pub AreSummands : Summands → Type 0
  AreSummands no_summands = Unit {0}
  AreSummands (more_summands m x ss) = IsTm x × AreSummands ss

  pub AreFactors : Factors → Type 0
  AreFactors (one_factor x) = IsTm x
  AreFactors (more_factors x xs) = IsTm x × AreFactors xs
