-- What a part of the reader returns.
use Rattle.std.specs.Prelude.{◌≡◌, ℕ, List, [], ◌∷◌, ◌++◌, None, Bool, false}
use Rattle.grammar.specs.declared.stops.ReadError.{ReadError}
use Rattle.grammar.specs.declared.stops.ReadError.TheVariants.{Memory, Stuck}
use Rattle.grammar.specs.declared.terminal.Terminal.TheVariants as t
use Rattle.grammar.specs.Terminals.{Tok, tok_at, mark, word, sign, place_of}
use Rattle.token_reader.specs.Machine.{Frame, need, want, vars_first, number_first, colon, Chain, unsettled, fresh}
use Rattle.token_reader.specs.Machine.{settled, Mode, in_formula, Sort, term, either, on, stuck, run, goes_on}

-- no arguments come
abbrev pub EndsFactor : List Tok → Type 0
EndsFactor [] = Unit {0}
EndsFactor (tok_at (mark t.Open) p ∷ ts) = ⊥
EndsFactor _ = Unit {0}

-- neither arguments nor an operator come
abbrev pub EndsTerm : List Tok → Type 0
EndsTerm [] = Unit {0}
EndsTerm (tok_at (mark t.Open) p ∷ ts) = ⊥
EndsTerm (tok_at (mark t.Times) p ∷ ts) = ⊥
EndsTerm (tok_at (mark (t.Add s)) p ∷ ts) = ⊥
EndsTerm _ = Unit {0}

-- and no comparison either
abbrev pub EndsPrim : List Tok → Type 0
EndsPrim [] = Unit {0}
EndsPrim (tok_at (mark t.Open) p ∷ ts) = ⊥
EndsPrim (tok_at (mark t.Times) p ∷ ts) = ⊥
EndsPrim (tok_at (mark (t.Add s)) p ∷ ts) = ⊥
EndsPrim (tok_at (mark (t.Compare c)) p ∷ ts) = ⊥
EndsPrim _ = Unit {0}

-- no arrow comes
abbrev pub NoArrows : List Tok → Type 0
NoArrows (tok_at (mark (t.Arrow a)) p ∷ ts) = ⊥
NoArrows _ = Unit {0}

-- neither + nor - comes
abbrev pub NoAdd : List Tok → Type 0
NoAdd (tok_at (mark (t.Add s)) p ∷ ts) = ⊥
NoAdd _ = Unit {0}

-- no comparison comes
abbrev pub NoCompare : List Tok → Type 0
NoCompare (tok_at (mark (t.Compare c)) p ∷ ts) = ⊥
NoCompare _ = Unit {0}

-- no integer comes
abbrev pub NoInteger : List Tok → Type 0
NoInteger (tok_at (mark (t.Integer n)) p ∷ ts) = ⊥
NoInteger _ = Unit {0}

-- an arrow, & or | comes
abbrev pub Connects : List Tok → Type 0
Connects (tok_at (mark t.And) p ∷ ts) = Unit {0}
Connects (tok_at (mark t.Or) p ∷ ts) = Unit {0}
Connects (tok_at (mark (t.Arrow a)) p ∷ ts) = Unit {0}
Connects _ = ⊥

-- neither an arrow nor & nor | comes
abbrev pub NoConnective : List Tok → Type 0
NoConnective (tok_at (mark t.And) p ∷ ts) = ⊥
NoConnective (tok_at (mark t.Or) p ∷ ts) = ⊥
NoConnective (tok_at (mark (t.Arrow a)) p ∷ ts) = ⊥
NoConnective _ = Unit {0}

-- nothing comes with which more than a term may begin
abbrev pub TermsOnly : List Tok → Type 0
TermsOnly (tok_at (word w) p ∷ ts) = ⊥
TermsOnly (tok_at (mark (t.Truth b)) p ∷ ts) = ⊥
TermsOnly (tok_at (mark t.Not) p ∷ ts) = ⊥
TermsOnly (tok_at (mark t.Every) p ∷ ts) = ⊥
TermsOnly (tok_at (mark t.Some) p ∷ ts) = ⊥
TermsOnly (tok_at (mark t.Open) p ∷ ts) = ⊥
TermsOnly _ = Unit {0}

-- the text does not go on after an operand
abbrev pub Halts : Mode → Sort → List Tok → Type 0
Halts m k [] = Unit {0}
Halts m k (tok_at s p ∷ ts) = goes_on s m k ≡ None

-- how far a chain was read
pub data Level : Type 0 where
  unaries : Level
  ands : Level
  ors : Level

-- it goes on with a connective of an outer chain at most
abbrev pub Tight : Level → Mode → Sort → List Tok → Type 0
Tight l m k [] = Unit {0}
Tight l m k (tok_at (mark (t.Arrow a)) p ∷ ts) = Unit {0}
Tight unaries m k (tok_at (mark t.Or) p ∷ ts) = Unit {0}
Tight ands m k (tok_at (mark t.Or) p ∷ ts) = Unit {0}
Tight unaries m k (tok_at (mark t.And) p ∷ ts) = Unit {0}
Tight l m k (tok_at s p ∷ ts) = goes_on s m k ≡ None

-- what follows a tree that ends in a quantified formula, or not
pub record Behind (l : Level) (closed : Bool) (mode : Chain → Mode) (k : Sort) (ts : List Tok) : Type 0 where
  pub no_args : EndsFactor ts
  pub tight : (c : Chain) → Tight l (mode c) k ts
  pub halts : closed ≡ false → (c : Chain) → Halts (mode c) k ts

-- where a formula stands: by itself, or in brackets in which a term may stand as well
pub data Entry : Type 0 where
  sentence : Entry
  bracket : Entry

abbrev pub entry : Entry → Chain
entry sentence = fresh
entry bracket = unsettled

-- where a factor stands: where a term has to, or where a formula may stand as well
pub data Position : Type 0 where
  wanted : Mode → Position
  needed : Chain → Position

abbrev pub at_position : Position → Frame
at_position (wanted m) = want m
at_position (needed c) = need c

abbrev pub mode_at : Position → Mode
mode_at (wanted m) = m
mode_at (needed c) = in_formula c

abbrev pub sort_at : Position → Sort
sort_at (wanted m) = term
sort_at (needed c) = either

-- the stacks on which a part begins
abbrev pub At : Type 0 → Type 0
At I = I → List Frame → List Frame

abbrev pub at_operand : At Chain
at_operand c σ = need c ∷ σ

abbrev pub at_unary : At Chain
at_unary c σ = need (settled c) ∷ σ

abbrev pub at_entry : At Entry
at_entry e σ = need (entry e) ∷ σ

abbrev pub at_sentence : At (Unit {0})
at_sentence u σ = need fresh ∷ σ

abbrev pub at_bracket : At (Unit {0})
at_bracket u σ = need unsettled ∷ σ

abbrev pub at_factor : At Mode
at_factor m σ = want m ∷ σ

abbrev pub at_either : At Position
at_either p σ = at_position p ∷ σ

abbrev pub at_vars : At (Unit {0})
at_vars u σ = vars_first ∷ colon ∷ σ

abbrev pub at_number : At (Unit {0})
at_number u σ = number_first ∷ colon ∷ σ

-- Wherever an A stands, its text is stuck at the first of rest; the tokens before it begin an A.
pub record Broken {I A : Type 0} (stack : I → List Frame → List Frame) (put : A → List Tok → List Tok) (Fine : A
    → Type 0) (ts rest : List Tok) : Type 0 where
  pub front : List Tok
  pub split : ts ≡ front ++ rest
  pub runs : (i : I) (σ : List Frame) → run (on (stack i σ)) ts ≡ stuck rest
  pub viable : (after : List Tok) → (a : A) × (more : List Tok) × Fine a × (front ++ more ≡ put a after)

abbrev pub Fails : {I A : Type 0} → (I → List Frame → List Frame) → (A → List Tok → List Tok) → (A → Type 0) → List Tok
    → ℕ → ReadError → Type 0
Fails stack put Fine ts len Memory = Unit {0}
Fails stack put Fine ts len (Stuck place) = (rest : List Tok) × Broken stack put Fine ts rest
    × (place ≡ place_of rest len)

-- an opening bracket comes where none may
abbrev pub Unsealed : List Tok → ReadError → Type 0
Unsealed ts Memory = ⊥
Unsealed ts (Stuck place) = (us : List Tok) × (ts ≡ sign t.Open place ∷ us)
