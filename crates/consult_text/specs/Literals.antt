-- Literals over a knowledge base: what a written one stands for, and why it is refused.
use Rattle.std.specs.Prelude.{◌≡◌, ◌≢◌, ◌<◌, ℕ, ℤ, pos, neg_ℤ, List, Bool, true, false, Some, None, map, slice_get}
use Rattle.std.specs.Prelude.{length}
use Rattle.kb_logic.specs.declared.elements.Elem.{Elem}
use Rattle.kb_logic.specs.declared.elements.Elem.TheVariants.{Named, Num}
use Rattle.kb_logic.specs.declared.vocabularies.Symbol.{Symbol}
use Rattle.kb_logic.specs.declared.structures.Literal.{Literal}
use Rattle.kb_logic.specs.Bases.{Base}
use Rattle.kb_logic.specs.Models.{HasValueIn}
use Rattle.kb_logic.specs.Structures.{IsRowOver}
use Rattle.kb_text.specs.Tokens.{decimal}
use Rattle.consult_text.specs.Written.{WrittenElem, named, integer, WrittenLiteral, atom, equation}

-- a ground literal of the vocabulary over the domains
pub record IsLiteralOver (kb : Base) (l : Literal) : Type 0 where
  pub symbol : Symbol
  pub declared : slice_get kb.vocabulary.symbols l.symbol ≡ Some symbol
  pub args : IsRowOver kb.known.domains symbol.args l.args
  pub value : HasValueIn kb.known.domains symbol.value l.value

-- the integer with these digits
abbrev pub integer_of : Bool → List ℕ → ℤ
integer_of false text = pos (decimal text)
integer_of true text = neg_ℤ (pos (decimal text))

abbrev pub elem_of : WrittenElem → Elem
elem_of (named text) = Named text
elem_of (integer negative text) = Num (integer_of negative text)

abbrev pub name_of : WrittenLiteral → List ℕ
name_of (atom positive name args) = name
name_of (equation positive name args value) = name

-- this is the first symbol of the name
pub record IsFirstNamed (symbols : List Symbol) (name : List ℕ) (number : ℕ) (s : Symbol) : Type 0 where
  pub at : slice_get symbols number ≡ Some s
  pub named : s.name ≡ name
  pub first : (n : ℕ) (t : Symbol) → n < number → slice_get symbols n ≡ Some t → t.name ≢ name

-- the literal that is written, of the symbol with this number
abbrev pub literal_of : ℕ → WrittenLiteral → Literal
literal_of number (atom positive name args) =
    record { positive = positive; symbol = number; args = map elem_of args; value = None }
literal_of number (equation positive name args value) =
    record { positive = positive; symbol = number; args = map elem_of args; value = Some (elem_of value) }

-- the symbol has that number of arguments; it is a predicate where an atom is written, and a function where an equation
-- is
abbrev pub HasFormOf : Symbol → WrittenLiteral → Type 0
HasFormOf s (atom positive name args) = (s.value ≡ None) × (length s.args ≡ length args)
HasFormOf s (equation positive name args value) = ((ty : ℕ) × (s.value ≡ Some ty)) × (length s.args ≡ length args)
