-- Chains of operands, and lists of arguments: what was read so far, and what the rest of one comes to.
use Rattle.std.specs.Prelude.{◌≡◌, ℕ, List, ◌∷◌, Bool, Result, Ok, Err}
use Rattle.std.specs.Borrow.{Bor}
use Rattle.grammar.specs.declared.stops.ReadError.{ReadError}
use Rattle.grammar.specs.declared.terminal.Item.{Item}
use Rattle.grammar.specs.declared.terminal.Adding.{Adding}
use Rattle.grammar.specs.declared.terminal.Arrow.{Arrow}
use Rattle.grammar.specs.declared.terminal.Terminal.TheVariants as t
use Rattle.grammar.specs.declared.raw.RawTerms.{RawTerms}
use Rattle.grammar.specs.Terminals.{Tok, sign, toks}
use Rattle.grammar.specs.Trees.{Name, Formula, alone, linked, Links, last, link, Or, And, Unary, Term, Product}
use Rattle.grammar.specs.Trees.{Factor}
use Rattle.grammar.specs.Spelling.{put_name, put_formula, put_or, put_and, put_term, put_product, put_app, put_terms}
use Rattle.grammar.specs.Fine.{closed_and, closed_or, FineFormula, FineOr, FineAnd, FineTerm, FineProduct, FineApp}
use Rattle.grammar.specs.Fine.{FineTerms}
use Rattle.grammar.specs.View.{terms_view, formula_of, or_of, and_of, term_of, product_of, terms_of}
use Rattle.token_reader.specs.Machine.{fresh, unsettled}
use Rattle.token_reader.specs.Modes.{mode_formula, mode_or, mode_and, sort_formula, sort_or, sort_and}
use Rattle.token_reader.specs.Parts.{unaries, ands, ors, Behind, Fails, at_entry, at_operand, at_either}
use Rattle.formula_reader.specs.Results.{AndIs, OrIs, FormulaIs, TermIs, ProductIs}

-- the operands so far, after which a sign and a further one may come
pub record AndsAre (ts : List Tok) (a : And) (closed : Bool) (rest : List Tok) : Type 0 where
  pub spelled : ts ≡ put_and a rest
  pub fine : FineAnd a
  pub ends : closed ≡ closed_and a
  pub behind : Behind unaries closed (λ c. mode_and c a) (sort_and a) rest

pub record OrsAre (ts : List Tok) (o : Or) (closed : Bool) (rest : List Tok) : Type 0 where
  pub spelled : ts ≡ put_or o rest
  pub fine : FineOr o
  pub ends : closed ≡ closed_or o
  pub behind : Behind ands closed (λ c. mode_or c o) (sort_or o) rest

-- no quantified formula stands at its end
abbrev pub closed_links : Links → Bool
closed_links (last o) = closed_or o
closed_links (link o p os) = closed_links os

abbrev pub closed_formula : Formula → Bool
closed_formula (alone o) = closed_or o
closed_formula (linked a o p os) = closed_links os

pub record LinksAre (ts : List Tok) (f : Formula) (closed : Bool) (rest : List Tok) : Type 0 where
  pub spelled : ts ≡ put_formula f rest
  pub fine : FineFormula f
  pub ends : closed ≡ closed_formula f
  pub behind : Behind ors closed (λ c. mode_formula c f) (sort_formula f) rest

-- the rest of a chain that begins with this operand, where its further ones came to these
abbrev pub MoreAnds : List Tok → Unary → List (ℕ × Unary) → ℕ → Result (Bool × Bor (List Item)) ReadError → Type 0
MoreAnds ts u xs len (Ok p) = AndIs ts (and_of u xs) p.0 (toks p.1.now)
MoreAnds ts u xs len (Err e) = Fails at_operand put_and FineAnd ts len e

abbrev pub MoreOrs : List Tok → And → List (ℕ × And) → ℕ → Result (Bool × Bor (List Item)) ReadError → Type 0
MoreOrs ts a xs len (Ok p) = OrIs ts (or_of a xs) p.0 (toks p.1.now)
MoreOrs ts a xs len (Err e) = Fails at_operand put_or FineOr ts len e

abbrev pub MoreLinks : List Tok → Arrow → Or → List (ℕ × Or) → ℕ → Result (Bor (List Item)) ReadError → Type 0
MoreLinks ts a o xs len (Ok r) =
    FormulaIs ts fresh (formula_of a o xs) (toks r.now) × FormulaIs ts unsettled (formula_of a o xs) (toks r.now)
MoreLinks ts a o xs len (Err e) = Fails at_entry put_formula FineFormula ts len e

abbrev pub MoreFactors : List Tok → Factor → List (ℕ × Factor) → ℕ → Result (Bor (List Item)) ReadError → Type 0
MoreFactors ts x xs len (Ok r) = ProductIs ts (product_of x xs) (toks r.now)
MoreFactors ts x xs len (Err e) = Fails at_either put_product FineProduct ts len e

abbrev pub MoreProducts : List Tok → Product → List (Adding × ℕ × Product) → ℕ
    → Result (Bor (List Item)) ReadError → Type 0
MoreProducts ts x xs len (Ok r) = TermIs ts (term_of x xs) (toks r.now)
MoreProducts ts x xs len (Err e) = Fails at_either put_term FineTerm ts len e

-- the rest of the arguments of this word, with the closing bracket
abbrev pub MoreTerms : Name → List Tok → ℕ → Term → List (ℕ × Term) → ℕ
    → Result (ℕ × Bor (List Item)) ReadError → Type 0
MoreTerms n ts start x xs len (Ok p) =
    (ts ≡ sign t.Open start ∷ put_terms (terms_of x xs) (sign t.Close p.0 ∷ toks p.1.now)) × FineTerms (terms_of x xs)
MoreTerms n ts start x xs len (Err e) = Fails at_either put_app FineApp (put_name n ts) len e

abbrev pub ListedRead : Name → List Tok → ℕ → ℕ → Result (RawTerms × ℕ × Bor (List Item)) ReadError → Type 0
ListedRead n ts start len (Ok p) =
    (ts ≡ sign t.Open start ∷ put_terms (terms_view p.0) (sign t.Close p.1 ∷ toks p.2.now)) × FineTerms (terms_view p.0)
ListedRead n ts start len (Err e) = Fails at_either put_app FineApp (put_name n ts) len e
