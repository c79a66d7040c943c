-- The parts of vocabularies and structures as formats, and their laws.
use Rattle.std.proofs.Common.{◌≡◌, ℕ, List, [], ◌∷◌, ◌++◌, Option, Some, ◌⊎◌, inl, inr, refl, subst}
use Rattle.grammar.specs.declared.terminal.Terminal.{Terminal}
use Rattle.grammar.specs.declared.terminal.Terminal.TheVariants as t
use Rattle.grammar.specs.declared.terminal.Outer.TheVariants as o
use Rattle.grammar.specs.declared.raw_blocks.Separator.{Separator}
use Rattle.grammar.specs.declared.raw_blocks.Separator.TheVariants as sep
use Rattle.grammar.specs.Terminals.{Symbol, Tok, tok_at, word}
use Rattle.grammar.specs.Trees.{Name, name}
use Rattle.grammar.specs.BlockTrees.{Names, names, Positions, positions, Declaration, type_of, constructed, symbol}
use Rattle.grammar.specs.BlockTrees.{Vocabulary, vocabulary}
use Rattle.grammar.specs.BlockSpelling.{put_names, put_positions, from, put_separated, put_declaration}
use Rattle.grammar.specs.BlockSpelling.{put_vocabulary}
use Rattle.block_reader.specs.BlockParts.{Anything, EndsDeclaration, EndsArguments}
use Rattle.token_reader.specs.Signs.{next, No, Is, AWord}
use Rattle.block_reader.proofs.Formats.{Format, Into, Apart, sign_format, name_format}
use Rattle.block_reader.proofs.Plain.{Law, sign_law, name_law, then, then_law, option, Optional, option_law, each}
use Rattle.block_reader.proofs.Plain.{Several, each_law, either, Alternatives, either_law, Same, same_law, behind}
use Rattle.block_reader.proofs.Plain.{behind_law, optional_behind, several_behind}

pub word_no : (s : Option Symbol) → AWord s → (t : Terminal) → No t s
word_no s w t e = subst AWord e w

-- ---- vocabularies

abbrev pub name_tails : Format (List (ℕ × Name))
name_tails = each (behind t.Comma name_format) (No t.Comma)

pub name_tails_several : Several (behind t.Comma name_format) (No t.Comma)
name_tails_several = several_behind t.Comma name_law (λ s h. tt) (λ s h. h) tt

abbrev pub names_parts : Format (Name × List (ℕ × Name))
names_parts = then name_format name_tails

abbrev pub names_format : Format Names
names_format = record { put = put_names; Fine = λ x. Unit {0}; First = AWord; Next = No t.Comma }

abbrev names_to : Names → Name × List (ℕ × Name)
names_to (names n ns) = (n, ns)

names_there : (a : Names) → names (names_to a).0 (names_to a).1 ≡ a
names_there (names n ns) = refl

names_written : (a : Names) (ts : List Tok) → put_names a ts ≡ names_parts.put (names_to a) ts
names_written (names n ns) ts = refl

pub names_same : Same names_format names_parts
names_same = record {
  to = names_to;
  from = λ x. names x.0 x.1;
  there = names_there;
  written = names_written;
  back = λ b ts. refl;
  ends = λ s h. h;
  begins = λ s h. h;
}

pub names_parts_law : Law names_parts
names_parts_law = then_law name_law (each_law name_tails_several) (λ s h. tt)

pub names_law : Law names_format
names_law = same_law names_same names_parts_law

-- after the opening bracket
abbrev pub inner_positions : Format (Option Names × ℕ)
inner_positions = then (option names_format (Is t.Close)) (sign_format t.Close)

pub names_optional : Optional names_format (Is t.Close)
names_optional = record { law = names_law; ends = λ s e f. cc; apart = λ s e w. word_no s w t.Close e }

pub inner_positions_law : Law inner_positions
inner_positions_law = then_law (option_law names_optional) (sign_law t.Close) (λ s h. h)

abbrev pub positions_format : Format Positions
positions_format = record { put = put_positions; Fine = λ x. Unit {0}; First = Is t.Open; Next = Anything }

abbrev positions_to : Positions → ℕ × (Option Names × ℕ)
positions_to (positions p ns q) = (p, (ns, q))

positions_there : (a : Positions) → positions (positions_to a).0 (positions_to a).1.0 (positions_to a).1.1 ≡ a
positions_there (positions p ns q) = refl

positions_written : (a : Positions) (ts : List Tok) → put_positions a ts ≡ (behind t.Open inner_positions).put
    (positions_to a) ts
positions_written (positions p ns q) ts = refl

pub positions_same : Same positions_format (behind t.Open inner_positions)
positions_same = record {
  to = positions_to;
  from = λ x. positions x.0 x.1.0 x.1.1;
  there = positions_there;
  written = positions_written;
  back = λ b ts. refl;
  ends = λ s h. h;
  begins = λ s h. h;
}

pub positions_law : Law positions_format
positions_law = same_law positions_same (behind_law t.Open inner_positions_law)

abbrev pub result_format : Format (Option (ℕ × Name))
result_format = option (behind t.Colon name_format) EndsDeclaration

colon_apart : Into EndsDeclaration (No t.Colon)
colon_apart s (inl e) f = cc
colon_apart s (inr (inl e)) f = cc
colon_apart s (inr (inr w)) f = word_no s w t.Colon f

pub result_optional : Optional (behind t.Colon name_format) EndsDeclaration
result_optional = optional_behind t.Colon name_law (λ s h. tt) colon_apart

abbrev pub arguments_format : Format (Option Positions)
arguments_format = option positions_format EndsArguments

arguments_apart : Apart EndsArguments (Is t.Open)
arguments_apart s (inl e) f = cc
arguments_apart s (inr (inl e)) f = cc
arguments_apart s (inr (inr (inl e))) f = cc
arguments_apart s (inr (inr (inr w))) f = word_no s w t.Open f

pub arguments_optional : Optional positions_format EndsArguments
arguments_optional = record { law = positions_law; ends = λ s h. tt; apart = arguments_apart }

abbrev pub symbol_tail : Format (Option Positions × Option (ℕ × Name))
symbol_tail = then arguments_format result_format

pub symbol_tail_law : Law symbol_tail
symbol_tail_law = then_law (option_law arguments_optional) (option_law result_optional) (λ s h. h)

abbrev pub symbol_parts : Format (Name × (Option Positions × Option (ℕ × Name)))
symbol_parts = then name_format symbol_tail

pub symbol_parts_law : Law symbol_parts
symbol_parts_law = then_law name_law symbol_tail_law (λ s h. tt)

-- the word "from"
abbrev pub from_format : Format ℕ
from_format = record {
  put = λ p ts. tok_at (word from) p ∷ ts;
  Fine = λ p. Unit {0};
  First = λ s. s ≡ Some (word from);
  Next = Anything;
}

pub from_law : Law from_format
from_law = record {
  law = record {
    some = 0;
    some_fine = tt;
    appends = λ a x y. refl;
    first = λ a ts h n. refl;
    only = λ a b m n h k z w e. (cc, cc);
  };
  total = λ a. tt;
}

-- a further name of a constructed type
abbrev pub Separates : Option Symbol → Type 0
Separates s = Is t.Comma s ⊎ Is (t.Outer o.Semicolon) s

abbrev pub separated_format : Format (Separator × ℕ × Name)
separated_format = record { put = put_separated; Fine = λ x. Unit {0}; First = Separates; Next = Anything }

separated_appends : (a : Separator × ℕ × Name) (x y : List Tok) → put_separated a (x ++ y) ≡ put_separated a x ++ y
separated_appends (s, p, name w q) x y = refl

separated_first : (a : Separator × ℕ × Name) (ts : List Tok) → Separates (next (put_separated a ts))
separated_first (sep.Comma, p, n) ts = inl refl
separated_first (sep.Semicolon, p, n) ts = inr refl

separated_only : (a b : Separator × ℕ × Name) (m n : List Tok) → put_separated a m ≡ put_separated b n
    → (a ≡ b) × (m ≡ n)
separated_only (sep.Comma, p, name w q) (sep.Comma, i, name v j) m n e = (cc, cc)
separated_only (sep.Comma, p, name w q) (sep.Semicolon, i, name v j) m n e = absurd (cc)
separated_only (sep.Semicolon, p, name w q) (sep.Comma, i, name v j) m n e = absurd (cc)
separated_only (sep.Semicolon, p, name w q) (sep.Semicolon, i, name v j) m n e = (cc, cc)

pub separated_law : Law separated_format
separated_law = record {
  law = record {
    some = (sep.Comma, 0, name [] 0);
    some_fine = tt;
    appends = separated_appends;
    first = λ a ts h n. separated_first a ts;
    only = λ a b m n h k z w e. separated_only a b m n e;
  };
  total = λ a. tt;
}

separated_apart : Apart (Is t.CloseBrace) Separates
separated_apart s e (inl f) = cc
separated_apart s e (inr f) = cc

abbrev pub separated_tails : Format (List (Separator × ℕ × Name))
separated_tails = each separated_format (Is t.CloseBrace)

pub separated_several : Several separated_format (Is t.CloseBrace)
separated_several = record { law = separated_law; ends = λ s h. tt; apart = separated_apart; follows = λ s h. tt }

-- after "constructed"
abbrev pub more_names : Format (List (Separator × ℕ × Name) × ℕ)
more_names = then separated_tails (sign_format t.CloseBrace)

more_names_into : Into (Is t.CloseBrace) (Is t.CloseBrace)
more_names_into s h = h

pub more_names_law : Law more_names
more_names_law = then_law (each_law separated_several) (sign_law t.CloseBrace) more_names_into

abbrev pub constructed_names : Format (Name × (List (Separator × ℕ × Name) × ℕ))
constructed_names = then name_format more_names

pub constructed_names_law : Law constructed_names
constructed_names_law = then_law name_law more_names_law (λ s h. tt)

abbrev pub in_braces : Format (ℕ × (Name × (List (Separator × ℕ × Name) × ℕ)))
in_braces = behind t.OpenBrace constructed_names

pub in_braces_law : Law in_braces
in_braces_law = behind_law t.OpenBrace constructed_names_law

abbrev pub from_names : Format (ℕ × (ℕ × (Name × (List (Separator × ℕ × Name) × ℕ))))
from_names = then from_format in_braces

pub from_names_law : Law from_names
from_names_law = then_law from_law in_braces_law (λ s h. tt)

abbrev pub Construction : Type 0
Construction = ℕ × (ℕ × (ℕ × (Name × (List (Separator × ℕ × Name) × ℕ))))

abbrev pub construction : Format Construction
construction = behind (t.Outer o.Constructed) from_names

pub construction_law : Law construction
construction_law = behind_law (t.Outer o.Constructed) from_names_law

abbrev pub isa_format : Format (Option (ℕ × Name))
isa_format = option (behind (t.Outer o.Isa) name_format) EndsDeclaration

isa_apart : Into EndsDeclaration (No (t.Outer o.Isa))
isa_apart s (inl e) f = cc
isa_apart s (inr (inl e)) f = cc
isa_apart s (inr (inr w)) f = word_no s w (t.Outer o.Isa) f

pub isa_optional : Optional (behind (t.Outer o.Isa) name_format) EndsDeclaration
isa_optional = optional_behind (t.Outer o.Isa) name_law (λ s h. tt) isa_apart

abbrev pub type_tail : Format (Construction ⊎ Option (ℕ × Name))
type_tail = either construction isa_format EndsDeclaration

type_apart : Apart (Is (t.Outer o.Constructed)) (λ s. Is (t.Outer o.Isa) s ⊎ EndsDeclaration s)
type_apart s e (inl f) = cc
type_apart s e (inr (inl f)) = cc
type_apart s e (inr (inr (inl f))) = cc
type_apart s e (inr (inr (inr w))) = word_no s w (t.Outer o.Constructed) e

pub type_alternatives : Alternatives construction isa_format EndsDeclaration
type_alternatives = record {
  left = construction_law;
  right = option_law isa_optional;
  apart = type_apart;
  ends_left =
      λ s h. tt;
  ends_right = λ s h. h;
}

pub type_tail_law : Law type_tail
type_tail_law = either_law type_alternatives

abbrev pub named_type : Format (Name × (Construction ⊎ Option (ℕ × Name)))
named_type = then name_format type_tail

pub named_type_law : Law named_type
named_type_law = then_law name_law type_tail_law (λ s h. tt)

abbrev pub type_parts : Format (ℕ × (Name × (Construction ⊎ Option (ℕ × Name))))
type_parts = behind (t.Outer o.Type) named_type

pub type_parts_law : Law type_parts
type_parts_law = behind_law (t.Outer o.Type) named_type_law

abbrev pub SymbolParts : Type 0
SymbolParts = Name × (Option Positions × Option (ℕ × Name))

abbrev pub TypeParts : Type 0
TypeParts = ℕ × (Name × (Construction ⊎ Option (ℕ × Name)))

abbrev pub declaration_parts : Format (TypeParts ⊎ SymbolParts)
declaration_parts = either type_parts symbol_parts EndsDeclaration

pub declaration_alternatives : Alternatives type_parts symbol_parts EndsDeclaration
declaration_alternatives = record {
  left = type_parts_law;
  right = symbol_parts_law;
  apart =
      λ s e w. word_no s w (t.Outer o.Type) e;
  ends_left = λ s h. h;
  ends_right = λ s h. h;
}

abbrev pub BeginsDeclaration : Option Symbol → Type 0
BeginsDeclaration s = Is (t.Outer o.Type) s ⊎ AWord s

abbrev pub declaration_format : Format Declaration
declaration_format = record {
  put = put_declaration;
  Fine = λ x. Unit {0};
  First = BeginsDeclaration;
  Next =
      EndsDeclaration;
}

abbrev declaration_to : Declaration → TypeParts ⊎ SymbolParts
declaration_to (type_of p n i) = inl (p, (n, inr i))
declaration_to (constructed p n c f b m ms e) = inl (p, (n, inl (c, (f, (b, (m, (ms, e)))))))
declaration_to (symbol n ps r) = inr (n, (ps, r))

abbrev declaration_from : TypeParts ⊎ SymbolParts → Declaration
declaration_from (inl (p, (n, inr i))) = type_of p n i
declaration_from (inl (p, (n, inl (c, (f, (b, (m, (ms, e)))))))) = constructed p n c f b m ms e
declaration_from (inr (n, (ps, r))) = symbol n ps r

declaration_there : (a : Declaration) → declaration_from (declaration_to a) ≡ a
declaration_there (type_of p n i) = refl
declaration_there (constructed p n c f b m ms e) = refl
declaration_there (symbol n ps r) = refl

declaration_written : (a : Declaration) (ts : List Tok) → put_declaration a ts ≡ declaration_parts.put
    (declaration_to a) ts
declaration_written (type_of p n i) ts = refl
declaration_written (constructed p n c f b m ms e) ts = refl
declaration_written (symbol n ps r) ts = refl

declaration_back : (b : TypeParts ⊎ SymbolParts) (ts : List Tok) → put_declaration (declaration_from b) ts
    ≡ declaration_parts.put b ts
declaration_back (inl (p, (n, inr i))) ts = refl
declaration_back (inl (p, (n, inl (c, (f, (b, (m, (ms, e)))))))) ts = refl
declaration_back (inr (n, (ps, r))) ts = refl

pub declaration_same : Same declaration_format declaration_parts
declaration_same = record {
  to = declaration_to;
  from = declaration_from;
  there = declaration_there;
  written = declaration_written;
  back = declaration_back;
  ends = λ s h. h;
  begins = λ s h. h;
}

pub declaration_parts_law : Law declaration_parts
declaration_parts_law = either_law declaration_alternatives

pub declaration_law : Law declaration_format
declaration_law = same_law declaration_same declaration_parts_law

declaration_apart : Apart (Is t.CloseBrace) BeginsDeclaration
declaration_apart s e (inl f) = cc
declaration_apart s e (inr w) = word_no s w t.CloseBrace e

pub declarations_several : Several declaration_format (Is t.CloseBrace)
declarations_several = record {
  law = declaration_law;
  ends = λ s e. inl e;
  apart = declaration_apart;
  follows =
      λ s h. inr h;
}

abbrev pub declarations_format : Format (List Declaration)
declarations_format = each declaration_format (Is t.CloseBrace)

abbrev pub closed_declarations : Format (List Declaration × ℕ)
closed_declarations = then declarations_format (sign_format t.CloseBrace)

pub closed_declarations_law : Law closed_declarations
closed_declarations_law = then_law (each_law declarations_several) (sign_law t.CloseBrace) more_names_into

abbrev pub braced_declarations : Format (ℕ × (List Declaration × ℕ))
braced_declarations = behind t.OpenBrace closed_declarations

pub braced_declarations_law : Law braced_declarations
braced_declarations_law = behind_law t.OpenBrace closed_declarations_law

abbrev pub named_vocabulary : Format (Name × (ℕ × (List Declaration × ℕ)))
named_vocabulary = then name_format braced_declarations

pub named_vocabulary_law : Law named_vocabulary
named_vocabulary_law = then_law name_law braced_declarations_law (λ s h. tt)

abbrev pub vocabulary_parts : Format (ℕ × (Name × (ℕ × (List Declaration × ℕ))))
vocabulary_parts = behind (t.Outer o.Vocabulary) named_vocabulary

abbrev pub vocabulary_format : Format Vocabulary
vocabulary_format = record {
  put = put_vocabulary;
  Fine = λ x. Unit {0};
  First = Is (t.Outer o.Vocabulary);
  Next = Anything;
}

abbrev vocabulary_to : Vocabulary → ℕ × (Name × (ℕ × (List Declaration × ℕ)))
vocabulary_to (vocabulary p n b ds e) = (p, (n, (b, (ds, e))))

vocabulary_there : (a : Vocabulary) → vocabulary (vocabulary_to a).0 (vocabulary_to a).1.0 (vocabulary_to a).1.1.0
    (vocabulary_to a).1.1.1.0 (vocabulary_to a).1.1.1.1 ≡ a
vocabulary_there (vocabulary p n b ds e) = refl

vocabulary_written : (a : Vocabulary) (ts : List Tok) → put_vocabulary a ts ≡ vocabulary_parts.put (vocabulary_to a) ts
vocabulary_written (vocabulary p n b ds e) ts = refl

pub vocabulary_same : Same vocabulary_format vocabulary_parts
vocabulary_same = record {
  to = vocabulary_to;
  from = λ x. vocabulary x.0 x.1.0 x.1.1.0 x.1.1.1.0 x.1.1.1.1;
  there = vocabulary_there;
  written = vocabulary_written;
  back = λ b ts. refl;
  ends = λ s h. h;
  begins = λ s h. h;
}

pub vocabulary_law : Law vocabulary_format
vocabulary_law = same_law vocabulary_same (behind_law (t.Outer o.Vocabulary) named_vocabulary_law)
