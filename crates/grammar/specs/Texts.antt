-- Texts of the grammar, and the first token with which no text goes on.
use Rattle.std.specs.Prelude.{◌≡◌, List, [], ◌∷◌, ◌++◌}
use Rattle.grammar.specs.Terminals.{Tok}

-- both end, or both go on with the same token
abbrev pub SameHead : List Tok → List Tok → Type 0
SameHead [] [] = Unit {0}
SameHead [] (v ∷ vs) = ⊥
SameHead (t ∷ ts) [] = ⊥
SameHead (t ∷ ts) (v ∷ vs) = t ≡ v

-- ts is this tree's text
abbrev pub ParsesTo : {A : Type 0} → (A → List Tok → List Tok) → (A → Type 0) → List Tok → A → Type 0
ParsesTo put Fine ts a = (ts ≡ put a []) × Fine a

-- The first of rest is the first token with which no text goes on: those before it begin one, and with it none does.
pub record FirstStuck {A : Type 0} (put : A → List Tok → List Tok) (Fine : A → Type 0)
    (ts rest : List Tok) : Type 0 where
  pub front : List Tok
  pub split : ts ≡ front ++ rest
  pub begun : (a : A) × (more : List Tok) × ParsesTo put Fine (front ++ more) a
  pub ended : (a : A) (more : List Tok) → SameHead rest more → ParsesTo put Fine (front ++ more) a → ⊥
