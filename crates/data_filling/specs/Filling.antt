-- What a partial structure knows while it is filled by what the rows of a structure say.
use Rattle.std.specs.Prelude.{◌≡◌, ℕ, Bool, true, false, not, ◌&&◌, ◌||◌, List, [], ◌++◌, map, filter}
use Rattle.std.specs.Prelude.{Option, None, Some, option_map, slice_get, Contains, ⊤}
use Rattle.std.specs.List.{filter_map, list_any}
use Rattle.kb_text.specs.declared.fault.KbFault.{KbFault}
use Rattle.kb_logic.specs.declared.elements.Elem.{Elem}
use Rattle.kb_logic.specs.declared.vocabularies.Symbol.{Symbol}
use Rattle.kb_logic.specs.declared.vocabularies.Vocabulary.{Vocabulary}
use Rattle.kb_logic.specs.KnownAtoms.{KnownAtoms, atoms_over}
use Rattle.kb_logic.specs.Models.{GroundAtom, HasValueIn}
use Rattle.kb_logic.specs.Structures.{domain_at, EachWith}
use Rattle.partial_structures.specs.KnownAtoms.{with_closed}
use Rattle.grammar.specs.BlockTrees as raw
use Rattle.stage_definitions.specs.Elements.{Cell, one, members}
use Rattle.stage_definitions.specs.DataEntries.{Subject, nothing_named, an_element, a_type, a_symbol, Said, WrittenRow}
use Rattle.stage_definitions.specs.DataEntries.{element_of, fits_in, said_in}
use Rattle.stage_definitions.specs.DataFacts.{Fact, fact_at, fact_of, says_true, says_false, is_whole}
use Rattle.stage_definitions.specs.DataStage.{EntriesRefuse}

-- these are the entries of a structure of which nothing is refused, wherever the types are declared
pub record AreAccepted (v : Vocabulary) (es : List Said) : Type 0 where
  pub structure : raw.Structure
  pub places : List ℕ
  pub said : es ≡ said_in v structure
  pub accepted : (q : KbFault) → EntriesRefuse v places structure q → ⊥

-- what these facts say of the atoms over the domains, where what these entries give whole is false unless it is true
abbrev pub known_from : List Symbol → List (List Elem) → List Fact → List Said → KnownAtoms
known_from symbols domains fs es = record {
  symbols = symbols;
  domains = domains;
  true_atoms = filter (λ a. list_any (says_true a) fs) (atoms_over symbols domains);
  false_atoms = filter (λ a. list_any (says_false a) fs || (is_whole es a.symbol && not (list_any (says_true a) fs)))
      (atoms_over symbols domains);
}

-- each element of the cell is one of the type
abbrev pub IsCellOver : List (List Elem) → ℕ → Cell → Type 0
IsCellOver domains t c = (x : Elem) → Contains (members c) x → Contains (domain_at domains t) x

-- the fact is of a symbol, with elements of its arguments' types, and a value of its type where it has one
pub record IsFactOver (symbols : List Symbol) (domains : List (List Elem)) (f : Fact) : Type 0 where
  pub declared : Symbol
  pub at : slice_get symbols f.symbol ≡ Some declared
  pub args : EachWith (IsCellOver domains) declared.args f.args
  pub value : HasValueIn domains declared.value f.value

-- an entry's symbol, where its word names one, is one of these
abbrev pub IsNumberOver : List Symbol → Subject → Type 0
IsNumberOver symbols nothing_named = ⊤
IsNumberOver symbols an_element = ⊤
IsNumberOver symbols (a_type t d) = ⊤
IsNumberOver symbols (a_symbol s d) = slice_get symbols s ≡ Some d

abbrev pub IsSubjectOver : List Symbol → Said → Type 0
IsSubjectOver symbols e = IsNumberOver symbols e.subject

-- these facts are known too, over the same atoms
pub record Adds (old new : KnownAtoms) (more : List Fact) : Type 0 where
  pub symbols : new.symbols ≡ old.symbols
  pub domains : new.domains ≡ old.domains
  pub known :
      (fs : List Fact) → old ≡ known_from old.symbols old.domains fs []
      → new ≡ known_from old.symbols old.domains (fs ++ more) []

-- no fact among these says the opposite of what is known, nor of another one: what is known is what some facts say, and
-- of these all together no atom is said to be true and false
pub record IsOpenTo (old : KnownAtoms) (more : List Fact) : Type 0 where
  pub facts : List Fact
  pub known : old ≡ known_from old.symbols old.domains facts []
  pub apart :
      (a : GroundAtom) → list_any (says_true a) (facts ++ more) ≡ true → list_any (says_false a) (facts ++ more) ≡ false

-- what these entries give whole is closed too
pub record Closes (old new : KnownAtoms) (more : List Said) : Type 0 where
  pub symbols : new.symbols ≡ old.symbols
  pub domains : new.domains ≡ old.domains
  pub known :
      (fs : List Fact) (es : List Said) → old ≡ known_from old.symbols old.domains fs es
      → new ≡ known_from old.symbols old.domains fs (es ++ more)

-- the symbol that a word names, where it names one, is closed too
abbrev pub ClosesSubject : KnownAtoms → KnownAtoms → Subject → Type 0
ClosesSubject old new nothing_named = new ≡ old
ClosesSubject old new an_element = new ≡ old
ClosesSubject old new (a_type t d) = new ≡ old
ClosesSubject old new (a_symbol s d) = new ≡ with_closed old s

-- what rows say of what a word names, each of them true or each of them false
abbrev pub row_facts : Bool → Subject → List WrittenRow → List Fact
row_facts holds x rs = filter_map (fact_of holds x) (filter (fits_in x) rs)

-- the number of the symbol that a word names
abbrev pub symbol_named : Subject → Option ℕ
symbol_named nothing_named = None
symbol_named an_element = None
symbol_named (a_type t d) = None
symbol_named (a_symbol s d) = Some s

-- the fact with one element in place of its arguments, and with these elements
abbrev pub fact_with : Fact → List Elem → Fact
fact_with f xs = record f { args = map (λ x. one x) xs }

-- the atom of the fact with these arguments
abbrev pub atom_with : Fact → List Elem → GroundAtom
atom_with f xs = record { symbol = f.symbol; args = xs; value = f.value }

-- what a row says of the symbol with this number, where these elements are its arguments
abbrev pub single_fact : Bool → ℕ → WrittenRow → List Elem → Fact
single_fact holds s r xs = fact_with (fact_at r.place s holds (option_map element_of r.value) []) xs
