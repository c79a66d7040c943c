-- The trees of formulas and terms: one type a nonterminal, with the place of every token.
use Rattle.std.specs.Prelude.{ℕ, List, Bool}
use Rattle.grammar.specs.declared.terminal.Comparison.{Comparison}
use Rattle.grammar.specs.declared.terminal.Arrow.{Arrow}
use Rattle.grammar.specs.declared.terminal.Aggregation.{Aggregation}
use Rattle.grammar.specs.declared.terminal.Adding.{Adding}

-- a word and its place
pub data Name : Type 0 where
  name : List ℕ → ℕ → Name

-- var = W [ "[" W "]" ]
pub data Var : Type 0 where
  untyped : Name → Var
  typed : Name → ℕ → Name → ℕ → Var

-- vars = var { [ "," ] var }
pub data Vars : Type 0 where
  var : Var → Vars
  beside : Var → Vars → Vars
  comma : Var → ℕ → Vars → Vars

-- number = I | ( "=" | "<" | "=<" | ">" | ">=" ) I
pub data Number : Type 0 where
  any : Number
  exactly : ℕ → ℕ → Number
  compared : Comparison → ℕ → ℕ → ℕ → Number

mutual
  -- formula = or { "=>" or } | or { "<=" or } | or { "<=>" or }
  pub data Formula : Type 0 where
    alone : Or → Formula
    linked : Arrow → Or → ℕ → Links → Formula

  -- the operands after an arrow
  pub data Links : Type 0 where
    last : Or → Links
    link : Or → ℕ → Links → Links

  -- or = and { "|" and }
  pub data Or : Type 0 where
    one : And → Or
    or : And → ℕ → Or → Or

  -- and = unary { "&" unary }
  pub data And : Type 0 where
    single : Unary → And
    and : Unary → ℕ → And → And

  -- unary = "~" unary | "!" vars ":" formula | "?" [ number ] vars ":" formula | prim
  pub data Unary : Type 0 where
    not : ℕ → Unary → Unary
    every : ℕ → Vars → ℕ → Formula → Unary
    some : ℕ → Number → Vars → ℕ → Formula → Unary
    prim : Prim → Unary

  -- prim = "(" formula ")" | "true" | "false" | app | term cmp term
  pub data Prim : Type 0 where
    group : ℕ → Formula → ℕ → Prim
    truth : Bool → ℕ → Prim
    atom : App → Prim
    compare : Term → Comparison → ℕ → Term → Prim

  -- term = product { ( "+" | "-" ) product }
  pub data Term : Type 0 where
    product : Product → Term
    sum : Product → Adding → ℕ → Term → Term

  -- product = factor { "*" factor }
  pub data Product : Type 0 where
    factor : Factor → Product
    times : Factor → ℕ → Product → Product

  -- factor = I | app | "(" term ")" | "-" factor | aggregate
  pub data Factor : Type 0 where
    integer : ℕ → ℕ → Factor
    value : App → Factor
    brackets : ℕ → Term → ℕ → Factor
    negative : ℕ → Factor → Factor
    count : ℕ → ℕ → Vars → ℕ → Formula → ℕ → Factor
    aggregate : Aggregation → ℕ → ℕ → Vars → ℕ → Formula → ℕ → Term → ℕ → Factor

  -- app = W [ "(" [ term { "," term } ] ")" ]
  pub data App : Type 0 where
    constant : Name → App
    empty : Name → ℕ → ℕ → App
    apply : Name → ℕ → Terms → ℕ → App

  -- term { "," term }
  pub data Terms : Type 0 where
    final : Term → Terms
    then : Term → ℕ → Terms → Terms
