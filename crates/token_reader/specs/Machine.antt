-- The texts of the grammar token by token: what has been read is kept on a stack.
use Rattle.std.specs.Prelude.{List, [], ◌∷◌, Option, Some, None}
use Rattle.grammar.specs.declared.terminal.Terminal.TheVariants as t
use Rattle.grammar.specs.declared.terminal.Outer.TheVariants as o
use Rattle.grammar.specs.declared.terminal.Arrow.{Arrow}
use Rattle.grammar.specs.declared.terminal.Arrow.TheVariants as arrow
use Rattle.grammar.specs.declared.terminal.Adding.TheVariants.{Minus}
use Rattle.grammar.specs.declared.terminal.Comparison.TheVariants.{NotEqual}
use Rattle.grammar.specs.Terminals.{Symbol, Tok, tok_at, mark, word}

-- the arrows so far; in brackets a term may stand as well, until a formula's operand or connective is read
pub data Chain : Type 0 where
  unsettled : Chain
  fresh : Chain
  chained : Arrow → Chain

-- where an operand stands: in a term, or in a formula, and there right of a comparison or not
pub data Mode : Type 0 where
  in_term : Mode
  in_formula : Chain → Mode
  compared : Chain → Mode

-- what was read
pub data Sort : Type 0 where
  formula : Sort
  term : Sort
  either : Sort

pub data Frame : Type 0 where
  -- an operand is needed: of a connective, or of an operator
  need : Chain → Frame
  want : Mode → Frame
  -- one was read; after its word arguments may come
  done : Mode → Sort → Frame
  named : Mode → Sort → Frame
  args_first : Mode → Sort → Frame
  -- what was open before
  args : Mode → Sort → Frame
  paren : Mode → Frame
  close_brace : Mode → Frame
  fold_colon : Mode → Frame
  brace : Frame
  colon : Frame
  -- variables, and the number before them
  vars_first : Frame
  vars_on : Frame
  vars_end : Frame
  type_name : Frame
  type_close : Frame
  number_first : Frame
  number_last : Frame
  -- a sentence's full stop, and whatever follows it or a term
  dot : Frame
  beyond : Frame

abbrev pub settled : Chain → Chain
settled unsettled = fresh
settled c = c

abbrev pub begin_aggregate : Symbol → Mode → List Frame → Option (List Frame)
begin_aggregate (mark t.Count) m σ = Some (brace ∷ vars_first ∷ colon ∷ need fresh ∷ close_brace m ∷ σ)
begin_aggregate (mark (t.Aggregate a)) m σ = Some (brace ∷ vars_first ∷ colon ∷ need fresh ∷ fold_colon m ∷ σ)
begin_aggregate s m σ = None

abbrev pub begin_factor : Symbol → Mode → List Frame → Option (List Frame)
begin_factor (word w) m σ = Some (named m term ∷ σ)
begin_factor (mark (t.Integer n)) m σ = Some (done m term ∷ σ)
begin_factor (mark t.Open) m σ = Some (want in_term ∷ paren m ∷ σ)
begin_factor (mark (t.Add Minus)) m σ = Some (want m ∷ σ)
begin_factor s m σ = begin_aggregate s m σ

abbrev pub begin_operand : Symbol → Chain → List Frame → Option (List Frame)
begin_operand (word w) c σ = Some (named (in_formula c) either ∷ σ)
begin_operand (mark (t.Truth b)) c σ = Some (done (in_formula c) formula ∷ σ)
begin_operand (mark t.Not) c σ = Some (need (settled c) ∷ σ)
begin_operand (mark t.Every) c σ = Some (vars_first ∷ colon ∷ need fresh ∷ σ)
begin_operand (mark t.Some) c σ = Some (number_first ∷ colon ∷ need fresh ∷ σ)
begin_operand (mark t.Open) c σ = Some (need unsettled ∷ paren (in_formula c) ∷ σ)
begin_operand s c σ = begin_factor s (in_formula c) σ

-- an operator, a comparison or a connective after an operand
abbrev pub operates : Mode → Sort → Option Frame
operates m formula = None
operates m k = Some (want m)

abbrev pub compares : Mode → Sort → Option Frame
compares (in_formula c) formula = None
compares (in_formula c) k = Some (want (compared c))
compares m k = None

abbrev pub connects : Mode → Sort → Option Frame
connects in_term k = None
connects (compared c) k = Some (need (settled c))
connects (in_formula c) term = None
connects (in_formula c) k = Some (need (settled c))

abbrev pub link_on : Chain → Arrow → Option Frame
link_on (chained arrow.Implies) arrow.Implies = Some (need (chained arrow.Implies))
link_on (chained arrow.ImpliedBy) arrow.ImpliedBy = Some (need (chained arrow.ImpliedBy))
link_on (chained arrow.Equivalent) arrow.Equivalent = Some (need (chained arrow.Equivalent))
link_on (chained b) a = None
link_on c a = Some (need (chained a))

abbrev pub links_on : Arrow → Mode → Sort → Option Frame
links_on a in_term k = None
links_on a (compared c) k = link_on c a
links_on a (in_formula c) term = None
links_on a (in_formula c) k = link_on c a

abbrev pub goes_on : Symbol → Mode → Sort → Option Frame
goes_on (mark t.Times) m k = operates m k
goes_on (mark (t.Add s)) m k = operates m k
goes_on (mark (t.Compare c)) m k = compares m k
goes_on (mark t.And) m k = connects m k
goes_on (mark t.Or) m k = connects m k
goes_on (mark (t.Arrow a)) m k = links_on a m k
goes_on s m k = None

-- what the tokens read since the last open bracket make, if they are enough
abbrev pub ended : Mode → Sort → Option Sort
ended in_term k = Some term
ended (compared c) k = Some formula
ended (in_formula unsettled) k = Some k
ended (in_formula c) term = None
ended (in_formula c) k = Some formula

abbrev pub full_stop : Symbol → List Frame → Option (List Frame)
full_stop (mark (t.Outer o.Dot)) σ = Some (beyond ∷ σ)
full_stop s σ = None

abbrev pub shuts : Symbol → List Frame → Sort → Option (List Frame)
shuts (mark t.Open) σ k = None
shuts (mark t.Close) (paren m ∷ σ) k = Some (done m k ∷ σ)
shuts (mark t.Close) (args m r ∷ σ) k = Some (done m r ∷ σ)
shuts (mark t.Comma) (args m r ∷ σ) k = Some (want in_term ∷ args m r ∷ σ)
shuts (mark t.CloseBrace) (close_brace m ∷ σ) k = Some (done m term ∷ σ)
shuts (mark t.Colon) (fold_colon m ∷ σ) k = Some (want in_term ∷ close_brace m ∷ σ)
shuts s (dot ∷ σ) k = full_stop s σ
shuts s (beyond ∷ σ) k = Some (beyond ∷ σ)
shuts s σ k = None

abbrev pub shut : Symbol → List Frame → Option Sort → Option (List Frame)
shut s σ None = None
shut s σ (Some k) = shuts s σ k

abbrev pub behind_operand : Option Frame → Option (List Frame) → List Frame → Option (List Frame)
behind_operand (Some f) r σ = Some (f ∷ σ)
behind_operand None r σ = r

abbrev pub after_done : Symbol → Mode → Sort → List Frame → Option (List Frame)
after_done s m k σ = behind_operand (goes_on s m k) (shut s σ (ended m k)) σ

abbrev pub after_name : Symbol → Mode → Sort → List Frame → Option (List Frame)
after_name (mark t.Open) m k σ = Some (args_first m k ∷ σ)
after_name s m k σ = after_done s m k σ

abbrev pub after_open : Symbol → Mode → Sort → List Frame → Option (List Frame)
after_open (mark t.Close) m k σ = Some (done m k ∷ σ)
after_open s m k σ = begin_factor s in_term (args m k ∷ σ)

abbrev pub after_vars : Symbol → List Frame → Option (List Frame)
after_vars (mark t.Comma) σ = Some (vars_first ∷ σ)
after_vars (word w) σ = Some (vars_on ∷ σ)
after_vars (mark t.Colon) (colon ∷ σ) = Some σ
after_vars s σ = None

abbrev pub after_var : Symbol → List Frame → Option (List Frame)
after_var (mark t.OpenSquare) σ = Some (type_name ∷ σ)
after_var s σ = after_vars s σ

abbrev pub begin_vars : Symbol → List Frame → Option (List Frame)
begin_vars (word w) σ = Some (vars_on ∷ σ)
begin_vars s σ = None

abbrev pub begin_number : Symbol → List Frame → Option (List Frame)
begin_number (mark (t.Integer n)) σ = Some (vars_first ∷ σ)
begin_number (mark (t.Compare NotEqual)) σ = None
begin_number (mark (t.Compare c)) σ = Some (number_last ∷ σ)
begin_number s σ = begin_vars s σ

abbrev pub expects : Frame → Symbol → List Frame → Option (List Frame)
expects type_name (word w) σ = Some (type_close ∷ σ)
expects type_close (mark t.CloseSquare) σ = Some (vars_end ∷ σ)
expects number_last (mark (t.Integer n)) σ = Some (vars_first ∷ σ)
expects brace (mark t.OpenBrace) σ = Some σ
expects f s σ = None

abbrev pub step : List Frame → Symbol → Option (List Frame)
step [] s = None
step (need c ∷ σ) s = begin_operand s c σ
step (want m ∷ σ) s = begin_factor s m σ
step (done m k ∷ σ) s = after_done s m k σ
step (named m k ∷ σ) s = after_name s m k σ
step (args_first m k ∷ σ) s = after_open s m k σ
step (vars_first ∷ σ) s = begin_vars s σ
step (vars_on ∷ σ) s = after_var s σ
step (vars_end ∷ σ) s = after_vars s σ
step (number_first ∷ σ) s = begin_number s σ
step (beyond ∷ σ) s = Some (beyond ∷ σ)
step (f ∷ σ) s = expects f s σ

-- on the way, or stuck before these tokens, or at the end of a text
pub data State : Type 0 where
  on : List Frame → State
  stuck : List Tok → State
  whole : State

abbrev pub ends_at : Option Sort → State
ends_at None = stuck []
ends_at (Some k) = whole

abbrev pub finish : List Frame → State
finish (done m k ∷ []) = ends_at (ended m k)
finish (named m k ∷ []) = ends_at (ended m k)
finish (beyond ∷ σ) = whole
finish σ = stuck []

abbrev pub advance : Option (List Frame) → List Tok → State
advance (Some σ) ts = on σ
advance None ts = stuck ts

abbrev pub run : State → List Tok → State
run (on σ) [] = finish σ
run (on σ) (tok_at s p ∷ ts) = run (advance (step σ s) (tok_at s p ∷ ts)) ts
run (stuck r) ts = stuck r
run whole ts = whole
