-- Worked examples of where aggregates may stand.
use Rattle.std.specs.Prelude.{◌≡◌, ℕ, true, List, [], ◌∷◌, filter, map, None, codes}
use Rattle.grammar.specs.declared.terminal.Adding.TheVariants as adding
use Rattle.grammar.specs.declared.terminal.Aggregation.{Aggregation}
use Rattle.grammar.specs.declared.terminal.Aggregation.TheVariants as how
use Rattle.grammar.specs.declared.terminal.Comparison.TheVariants as sign
use Rattle.grammar.specs.BlockTrees.{atom_head, value_head}
use Rattle.grammar.specs.Trees as raw
use Rattle.grammar.specs.Trees.{Formula, Prim, Term, Factor, App}
use Rattle.stage_definitions.specs.declared.standings.Standing.TheVariants.{Side}
use Rattle.stage_definitions.specs.NamesStage.{is_unsupported}
use Rattle.stage_definitions.specs.Uses.{Use, place_of_use, in_scope, uses_in, uses_in_prim, uses_in_term, uses_under}
use Rattle.stage_definitions.specs.Examples.{word, word_term, some_names}

-- ---- trees of the grammar; the places that no example asks for are 0

abbrev pub lone : Factor → Term
lone f = raw.product (raw.factor f)

abbrev pub sum_of : Factor → Term → Term
sum_of f t = raw.sum (raw.factor f) adding.Plus 0 t

abbrev pub product_of : Factor → Factor → Term
product_of f g = raw.product (raw.times f 0 (raw.factor g))

abbrev pub in_brackets : Term → Factor
in_brackets t = raw.brackets 0 t 0

abbrev pub minus : Factor → Factor
minus f = raw.negative 0 f

abbrev pub one : Factor
one = raw.integer 1 0

-- `x`, which the aggregates bind
abbrev pub x : raw.Vars
x = raw.var (raw.untyped (word (codes "x")))

abbrev pub only : Prim → Formula
only p = raw.alone (raw.one (raw.single (raw.prim p)))

-- `#{x : f}` at this place
abbrev pub count_of : ℕ → Formula → Factor
count_of p f = raw.count p 0 x 0 f 0

-- `#{x : true}`
abbrev pub count : ℕ → Factor
count p = count_of p (only (raw.truth true 0))

-- `sum{x : true : t}`, and `min` and `max` so
abbrev pub weighed : Aggregation → ℕ → Term → Factor
weighed a p t = raw.aggregate a p 0 x 0 (only (raw.truth true 0)) 0 t 0

abbrev pub least : ℕ → Factor
least p = weighed how.Min p (lone one)

abbrev pub equal : Term → Term → Prim
equal s t = raw.compare s sign.Equal 0 t

-- `f(t)`
abbrev pub application : Term → App
application t = raw.apply (word (codes "f")) 0 (raw.final t) 0

-- ---- what is refused

-- the places of aggregates that are refused
abbrev pub refused : List Use → List ℕ
refused us = map place_of_use (filter (is_unsupported some_names) us)

-- in `s = 1`
abbrev pub beside_one : Term → List ℕ
beside_one s = refused (uses_in_prim (in_scope []) (equal s (lone one)))

-- in `s = t`
abbrev pub in_equation : Term → Term → List ℕ
in_equation s t = refused (uses_in_prim (in_scope []) (equal s t))

-- in the term of a term block
abbrev pub in_block : Term → List ℕ
in_block t = refused (uses_in_term Side (in_scope []) t)

pub record AggregatesAreWorkedOut : Type 0 where
  -- a side is an aggregate, or has it as an operand of its sum
  pub a_count : beside_one (lone (count 5)) ≡ []
  pub count_and_one : beside_one (sum_of (count 5) (lone one)) ≡ []
  pub one_and_count : beside_one (sum_of one (lone (count 5))) ≡ []
  pub two_counts : beside_one (sum_of (count 5) (sum_of one (lone (count 6)))) ≡ []
  -- brackets round a side are nothing, but a sum in brackets is no operand of another sum
  pub side_in_brackets : beside_one (lone (in_brackets (sum_of (count 5) (lone one)))) ≡ []
  pub sum_in_sum : beside_one (sum_of (in_brackets (sum_of (count 5) (lone one))) (lone one)) ≡ 5 ∷ []
  pub count_in_brackets : beside_one (sum_of (in_brackets (lone (count 5))) (lone one)) ≡ []
  -- with signs, and with integers as factors
  pub with_minus : beside_one (lone (minus (in_brackets (lone (count 5))))) ≡ []
  pub minus_sum : beside_one (lone (minus (in_brackets (sum_of (count 5) (lone one))))) ≡ 5 ∷ []
  pub times_count : beside_one (product_of one (count 5)) ≡ []
  pub count_times : beside_one (product_of (count 5) (minus (in_brackets (lone (minus one))))) ≡ []
  pub times_product : beside_one (product_of one (in_brackets (product_of one (count 5)))) ≡ []
  pub times_sum : beside_one (product_of one (in_brackets (sum_of (count 5) (lone one)))) ≡ 5 ∷ []
  pub times_times : beside_one (product_of (in_brackets (product_of one one)) (count 5)) ≡ 5 ∷ []
  pub count_times_count : beside_one (product_of (count 5) (count 6)) ≡ 5 ∷ 6 ∷ []
  pub value_times_count : beside_one (product_of (raw.value (application (lone one))) (count 5)) ≡ 5 ∷ []
  -- `min` and `max` are a whole side
  pub a_least : beside_one (lone (least 5)) ≡ []
  pub least_in_brackets : beside_one (lone (in_brackets (lone (least 5)))) ≡ []
  pub minus_least : beside_one (lone (minus (least 5))) ≡ 5 ∷ []
  pub times_least : beside_one (product_of one (least 5)) ≡ 5 ∷ []
  pub least_and_one : beside_one (sum_of (least 5) (lone one)) ≡ 5 ∷ []
  -- and the other side has no aggregate
  pub least_and_count : in_equation (lone (least 5)) (sum_of one (lone (count 6))) ≡ 6 ∷ []
  pub count_and_least : in_equation (lone (count 5)) (lone (in_brackets (lone (least 6)))) ≡ 5 ∷ []
  pub two_least : in_equation (lone (least 5)) (lone (least 6)) ≡ 5 ∷ 6 ∷ []
  pub least_and_value : in_equation (lone (raw.value (application (lone one)))) (lone (least 6)) ≡ []
  pub counts_on_both : in_equation (lone (count 5)) (lone (count 6)) ≡ []
  -- there is none in a weight, nor in an argument; in a condition there may be
  pub in_weight : beside_one (lone (weighed how.Sum 5 (lone (count 6)))) ≡ 6 ∷ []
  pub in_argument : beside_one (lone (raw.value (application (lone (count 5))))) ≡ 5 ∷ []
  pub in_condition : beside_one (lone (count_of 5 (only (equal (lone (least 6)) (lone one))))) ≡ []
  -- the term of a term block is as a side
  pub block_count : in_block (sum_of (count 5) (lone one)) ≡ []
  pub block_least : in_block (lone (least 5)) ≡ []
  pub block_minus_least : in_block (lone (minus (least 5))) ≡ 5 ∷ []
  -- and so is the value of a head; in a head's arguments there is none
  pub head_value : refused (uses_under some_names [] [] (value_head (application (lone one)) 0 (lone (least 5))) None)
      ≡ []
  pub head_argument : refused (uses_under some_names [] [] (atom_head (raw.apply (word (codes "P")) 0
      (raw.final (lone (count 5))) 0)) None) ≡ 5 ∷ []
  -- number quantifiers may stand everywhere
  pub two_of : refused (uses_in (in_scope []) (raw.alone (raw.one (raw.single
      (raw.some 5 (raw.exactly 2 0) x 0 (only (raw.atom (raw.apply (word (codes "P")) 0
      (raw.final (word_term (word (codes "x")))) 0)))))))) ≡ []
