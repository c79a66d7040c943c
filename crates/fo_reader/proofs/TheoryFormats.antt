-- The parts of theories and terms, and the file, as formats; and their laws.
use Rattle.std.proofs.Common.{◌≡◌, ℕ, List, Option, Some, None, ◌⊎◌, inl, inr, refl, sym, subst}
use Rattle.grammar.specs.declared.terminal.Terminal.TheVariants as t
use Rattle.grammar.specs.declared.terminal.Outer.TheVariants as o
use Rattle.grammar.specs.declared.terminal.Comparison.TheVariants as cmp
use Rattle.grammar.specs.Terminals.{Symbol, Tok}
use Rattle.grammar.specs.Trees.{Vars, Formula, Term, App}
use Rattle.grammar.specs.BlockTrees.{Vocabulary, Header, Binding, binding, Head, atom_head, value_head, Rule, rule}
use Rattle.grammar.specs.BlockTrees.{TheoryItem, sentence, definition, Theory, theory, TermBlock, term_block}
use Rattle.grammar.specs.BlockTrees.{Structure, Block, vocabulary_block, theory_block, structure_block, value_block}
use Rattle.grammar.specs.BlockTrees.{procedure}
use Rattle.grammar.specs.BlockSpelling.{put_binding, put_head, put_rule, put_theory_item, put_theory, put_term_block}
use Rattle.grammar.specs.BlockSpelling.{put_block}
use Rattle.grammar.specs.BlockFine.{FineHead, FineBody, FineRule, FineTheoryItem, FineTheory, FineTermBlock}
use Rattle.grammar.specs.BlockFine.{FineBlock}
use Rattle.block_reader.specs.BlockParts.{Anything}
use Rattle.token_reader.specs.Signs.{No, Is, AWord}
use Rattle.fo_reader.specs.TheoryReads.{EndsApp, EndsSum}
use Rattle.block_reader.specs.BlockParts.{EndsHead}
use Rattle.block_reader.proofs.Formats.{Format, Law, Into, Apart, sign_format, sign_law, then, then_law, option}
use Rattle.block_reader.proofs.Formats.{Optional, option_law, each, Several, each_law, either, Alternatives, either_law}
use Rattle.block_reader.proofs.Formats.{Same, same_law, behind, behind_law, optional_behind}
use Rattle.block_reader.proofs.Plain as plain
use Rattle.block_reader.proofs.BlockFormats.{word_no, vocabulary_format, vocabulary_law}
use Rattle.block_reader.proofs.StructureFormats.{header_format, header_law, structure_format, structure_law}
use Rattle.fo_reader.proofs.FormulaFormats.{vars_format, vars_law, app_format, app_law, term_format, term_law}
use Rattle.fo_reader.proofs.FormulaFormats.{BeginsFormula, formula_format, formula_law}

-- ---- rules

abbrev pub bound_vars : Format (Vars × ℕ)
bound_vars = then vars_format (sign_format t.Colon)

pub bound_vars_law : Law bound_vars
bound_vars_law = then_law vars_law (sign_law t.Colon) (λ s h. h)

abbrev pub binding_format : Format Binding
binding_format = record { put = put_binding; Fine = λ x. Unit {0}; First = Is t.Every; Next = Anything }

abbrev binding_to : Binding → ℕ × (Vars × ℕ)
binding_to (binding p vs q) = (p, (vs, q))

binding_there : (a : Binding) → binding (binding_to a).0 (binding_to a).1.0 (binding_to a).1.1 ≡ a
binding_there (binding p vs q) = refl

binding_written : (a : Binding) (ts : List Tok) → put_binding a ts ≡ (behind t.Every bound_vars).put (binding_to a) ts
binding_written (binding p vs q) ts = refl

pub binding_same : Same binding_format (behind t.Every bound_vars)
binding_same = record {
  to = binding_to;
  from = λ x. binding x.0 x.1.0 x.1.1;
  there = binding_there;
  written = binding_written;
  back = λ b ts. refl;
  fine = λ a h. (tt, (tt, tt));
  fine_back = λ b h. tt;
  ends = λ s h. h;
  begins = λ s h. h;
}

pub binding_law : Law binding_format
binding_law = same_law binding_same (behind_law t.Every bound_vars_law)

pub every_binding_law : plain.Law binding_format
every_binding_law = record { law = binding_law; total = λ a. tt }

pub bindings_several : plain.Several binding_format AWord
bindings_several = record {
  law = every_binding_law;
  ends = λ s h. tt;
  apart = λ s w e. word_no s w t.Every e;
  follows = λ s h. tt;
}

head_no_equal : Into EndsHead (No (t.Compare cmp.Equal))
head_no_equal s (inl e) f = cc
head_no_equal s (inr e) f = cc

head_ends_sum : Into EndsHead EndsSum
head_ends_sum s (inl e) = subst EndsSum (sym e) tt
head_ends_sum s (inr e) = subst EndsSum (sym e) tt

abbrev pub head_value : Format (Option (ℕ × Term))
head_value = option (behind (t.Compare cmp.Equal) term_format) EndsHead

pub head_value_optional : Optional (behind (t.Compare cmp.Equal) term_format) EndsHead
head_value_optional = record {
  law = then_law (sign_law (t.Compare cmp.Equal)) term_law (λ s h. tt);
  ends =
      head_ends_sum;
  apart = head_no_equal;
}

value_into : Into (λ s. Is (t.Compare cmp.Equal) s ⊎ EndsHead s) EndsApp
value_into s (inl e) = subst EndsApp (sym e) tt
value_into s (inr (inl e)) = subst EndsApp (sym e) tt
value_into s (inr (inr e)) = subst EndsApp (sym e) tt

abbrev pub head_parts : Format (App × Option (ℕ × Term))
head_parts = then app_format head_value

pub head_into : Into head_value.First EndsApp
head_into = value_into

abbrev pub head_format : Format Head
head_format = record { put = put_head; Fine = FineHead; First = AWord; Next = EndsHead }

abbrev head_to : Head → App × Option (ℕ × Term)
head_to (atom_head a) = (a, None)
head_to (value_head a p x) = (a, Some (p, x))

abbrev head_from : App × Option (ℕ × Term) → Head
head_from (a, None) = atom_head a
head_from (a, Some (p, x)) = value_head a p x

head_there : (a : Head) → head_from (head_to a) ≡ a
head_there (atom_head a) = refl
head_there (value_head a p x) = refl

head_written : (a : Head) (ts : List Tok) → put_head a ts ≡ head_parts.put (head_to a) ts
head_written (atom_head a) ts = refl
head_written (value_head a p x) ts = refl

head_back : (b : App × Option (ℕ × Term)) (ts : List Tok) → put_head (head_from b) ts ≡ head_parts.put b ts
head_back (a, None) ts = refl
head_back (a, Some (p, x)) ts = refl

head_fine : (a : Head) → FineHead a → head_parts.Fine (head_to a)
head_fine (atom_head a) h = (h, tt)
head_fine (value_head a p x) h = (h.0, (tt, h.1))

head_fine_back : (b : App × Option (ℕ × Term)) → head_parts.Fine b → FineHead (head_from b)
head_fine_back (a, None) h = h.0
head_fine_back (a, Some (p, x)) h = (h.0, h.1.1)

pub head_same : Same head_format head_parts
head_same = record {
  to = head_to;
  from = head_from;
  there = head_there;
  written = head_written;
  back = head_back;
  fine = head_fine;
  fine_back = head_fine_back;
  ends = λ s h. h;
  begins = λ s h. h;
}

pub head_law : Law head_format
head_law = same_law head_same (then_law app_law (option_law head_value_optional) value_into)

abbrev pub inner_body : Format (Option Formula)
inner_body = option formula_format (Is (t.Outer o.Dot))

dot_apart : Apart (Is (t.Outer o.Dot)) BeginsFormula
dot_apart s e h = subst BeginsFormula e h

pub inner_body_optional : Optional formula_format (Is (t.Outer o.Dot))
inner_body_optional = record { law = formula_law; ends = λ s h. h; apart = dot_apart }

abbrev pub body_parts : Format (Option (ℕ × Option Formula))
body_parts = option (behind (t.Outer o.If) inner_body) (Is (t.Outer o.Dot))

dot_no_if : Into (Is (t.Outer o.Dot)) (No (t.Outer o.If))
dot_no_if s e f = cc

pub body_optional : Optional (behind (t.Outer o.If) inner_body) (Is (t.Outer o.Dot))
body_optional = optional_behind (t.Outer o.If) (option_law inner_body_optional) (λ s h. h) dot_no_if

abbrev pub body_format : Format (Option (ℕ × Option Formula))
body_format = record body_parts { Fine = FineBody }

body_fine : (b : Option (ℕ × Option Formula)) → FineBody b → body_parts.Fine b
body_fine None h = tt
body_fine (Some (p, None)) h = (tt, tt)
body_fine (Some (p, Some f)) h = (tt, h)

body_fine_back : (b : Option (ℕ × Option Formula)) → body_parts.Fine b → FineBody b
body_fine_back None h = tt
body_fine_back (Some (p, None)) h = tt
body_fine_back (Some (p, Some f)) h = h.1

pub body_same : Same body_format body_parts
body_same = record {
  to = λ a. a;
  from = λ b. b;
  there = λ a. refl;
  written = λ a ts. refl;
  back = λ b ts. refl;
  fine = body_fine;
  fine_back = body_fine_back;
  ends = λ s h. h;
  begins = λ s h. h;
}

pub body_law : Law body_format
body_law = same_law body_same (option_law body_optional)

abbrev pub ended_body : Format (Option (ℕ × Option Formula) × ℕ)
ended_body = then body_format (sign_format (t.Outer o.Dot))

pub ended_body_law : Law ended_body
ended_body_law = then_law body_law (sign_law (t.Outer o.Dot)) (λ s h. h)

abbrev pub RuleParts : Type 0
RuleParts = List Binding × (Head × (Option (ℕ × Option Formula) × ℕ))

abbrev pub headed : Format (Head × (Option (ℕ × Option Formula) × ℕ))
headed = then head_format ended_body

pub headed_law : Law headed
headed_law = then_law head_law ended_body_law (λ s h. h)

abbrev pub bindings_format : Format (List Binding)
bindings_format = plain.each binding_format AWord

abbrev pub rule_parts : Format RuleParts
rule_parts = then bindings_format headed

pub rule_parts_law : Law rule_parts
rule_parts_law = then_law (plain.each_law bindings_several).law headed_law (λ s h. h)

abbrev pub BeginsRule : Option Symbol → Type 0
BeginsRule s = Is t.Every s ⊎ AWord s

abbrev pub rule_format : Format Rule
rule_format = record { put = put_rule; Fine = FineRule; First = BeginsRule; Next = Anything }

abbrev rule_to : Rule → RuleParts
rule_to (rule bs h b d) = (bs, (h, (b, d)))

rule_there : (a : Rule) → rule (rule_to a).0 (rule_to a).1.0 (rule_to a).1.1.0 (rule_to a).1.1.1 ≡ a
rule_there (rule bs h b d) = refl

rule_written : (a : Rule) (ts : List Tok) → put_rule a ts ≡ rule_parts.put (rule_to a) ts
rule_written (rule bs h b d) ts = refl

rule_fine : (a : Rule) → FineRule a → rule_parts.Fine (rule_to a)
rule_fine (rule bs h b d) k = (tt, (k.0, (k.1, tt)))

rule_fine_back : (b : RuleParts) → rule_parts.Fine b → FineRule (rule b.0 b.1.0 b.1.1.0 b.1.1.1)
rule_fine_back b h = (h.1.0, h.1.1.0)

pub rule_same : Same rule_format rule_parts
rule_same = record {
  to = rule_to;
  from = λ x. rule x.0 x.1.0 x.1.1.0 x.1.1.1;
  there = rule_there;
  written = rule_written;
  back = λ b ts. refl;
  fine = rule_fine;
  fine_back = rule_fine_back;
  ends = λ s h. h;
  begins = λ s h. h;
}

pub rule_law : Law rule_format
rule_law = same_law rule_same rule_parts_law

rule_apart : Apart (Is t.CloseBrace) BeginsRule
rule_apart s e (inl f) = cc
rule_apart s e (inr w) = word_no s w t.CloseBrace e

pub rules_several : Several rule_format (Is t.CloseBrace)
rules_several = record { law = rule_law; ends = λ s h. tt; apart = rule_apart; follows = λ s h. tt }

-- ---- theories

abbrev pub rules_format : Format (List Rule)
rules_format = each rule_format (Is t.CloseBrace)

abbrev pub closed_rules : Format (List Rule × ℕ)
closed_rules = then rules_format (sign_format t.CloseBrace)

pub closed_rules_law : Law closed_rules
closed_rules_law = then_law (each_law rules_several) (sign_law t.CloseBrace) (λ s h. h)

abbrev pub sentence_parts : Format (Formula × ℕ)
sentence_parts = then formula_format (sign_format (t.Outer o.Dot))

pub sentence_law : Law sentence_parts
sentence_law = then_law formula_law (sign_law (t.Outer o.Dot)) (λ s h. h)

abbrev pub definition_parts : Format (ℕ × (List Rule × ℕ))
definition_parts = behind t.OpenBrace closed_rules

abbrev pub ItemParts : Type 0
ItemParts = (Formula × ℕ) ⊎ (ℕ × (List Rule × ℕ))

abbrev pub theory_item_parts : Format ItemParts
theory_item_parts = either sentence_parts definition_parts Anything

pub theory_item_alternatives : Alternatives sentence_parts definition_parts Anything
theory_item_alternatives = record {
  left = sentence_law;
  right = behind_law t.OpenBrace closed_rules_law;
  apart =
      λ s h e. subst BeginsFormula e h;
  ends_left = λ s h. h;
  ends_right = λ s h. h;
}

abbrev pub BeginsItem : Option Symbol → Type 0
BeginsItem s = BeginsFormula s ⊎ Is t.OpenBrace s

abbrev pub theory_item_format : Format TheoryItem
theory_item_format = record { put = put_theory_item; Fine = FineTheoryItem; First = BeginsItem; Next = Anything }

abbrev theory_item_to : TheoryItem → ItemParts
theory_item_to (sentence f d) = inl (f, d)
theory_item_to (definition b rs e) = inr (b, (rs, e))

abbrev theory_item_from : ItemParts → TheoryItem
theory_item_from (inl (f, d)) = sentence f d
theory_item_from (inr (b, (rs, e))) = definition b rs e

theory_item_there : (a : TheoryItem) → theory_item_from (theory_item_to a) ≡ a
theory_item_there (sentence f d) = refl
theory_item_there (definition b rs e) = refl

theory_item_written : (a : TheoryItem) (ts : List Tok) → put_theory_item a ts ≡ theory_item_parts.put
    (theory_item_to a) ts
theory_item_written (sentence f d) ts = refl
theory_item_written (definition b rs e) ts = refl

theory_item_back : (b : ItemParts) (ts : List Tok) → put_theory_item (theory_item_from b) ts
    ≡ theory_item_parts.put b ts
theory_item_back (inl (f, d)) ts = refl
theory_item_back (inr (b, (rs, e))) ts = refl

theory_item_fine : (a : TheoryItem) → FineTheoryItem a → theory_item_parts.Fine (theory_item_to a)
theory_item_fine (sentence f d) h = (h, tt)
theory_item_fine (definition b rs e) h = (tt, (h, tt))

theory_item_fine_back : (b : ItemParts) → theory_item_parts.Fine b → FineTheoryItem (theory_item_from b)
theory_item_fine_back (inl (f, d)) h = h.0
theory_item_fine_back (inr (b, (rs, e))) h = h.1.0

pub theory_item_same : Same theory_item_format theory_item_parts
theory_item_same = record {
  to = theory_item_to;
  from = theory_item_from;
  there = theory_item_there;
  written = theory_item_written;
  back = theory_item_back;
  fine = theory_item_fine;
  fine_back = theory_item_fine_back;
  ends = λ s h. h;
  begins = λ s h. h;
}

pub theory_item_law : Law theory_item_format
theory_item_law = same_law theory_item_same (either_law theory_item_alternatives)

item_apart : Apart (Is t.CloseBrace) BeginsItem
item_apart s e (inl h) = subst BeginsFormula e h
item_apart s e (inr f) = cc

pub theory_items_several : Several theory_item_format (Is t.CloseBrace)
theory_items_several = record { law = theory_item_law; ends = λ s h. tt; apart = item_apart; follows = λ s h. tt }

abbrev pub theory_items_format : Format (List TheoryItem)
theory_items_format = each theory_item_format (Is t.CloseBrace)

abbrev pub closed_items : Format (List TheoryItem × ℕ)
closed_items = then theory_items_format (sign_format t.CloseBrace)

pub closed_items_law : Law closed_items
closed_items_law = then_law (each_law theory_items_several) (sign_law t.CloseBrace) (λ s h. h)

abbrev pub theory_parts : Format (Header × (List TheoryItem × ℕ))
theory_parts = then (header_format o.Theory) closed_items

abbrev pub theory_format : Format Theory
theory_format = record { put = put_theory; Fine = FineTheory; First = Is (t.Outer o.Theory); Next = Anything }

abbrev theory_to : Theory → Header × (List TheoryItem × ℕ)
theory_to (theory h is e) = (h, (is, e))

theory_there : (a : Theory) → theory (theory_to a).0 (theory_to a).1.0 (theory_to a).1.1 ≡ a
theory_there (theory h is e) = refl

theory_written : (a : Theory) (ts : List Tok) → put_theory a ts ≡ theory_parts.put (theory_to a) ts
theory_written (theory h is e) ts = refl

theory_fine : (a : Theory) → FineTheory a → theory_parts.Fine (theory_to a)
theory_fine (theory h is e) k = (tt, (k, tt))

pub theory_same : Same theory_format theory_parts
theory_same = record {
  to = theory_to;
  from = λ x. theory x.0 x.1.0 x.1.1;
  there = theory_there;
  written = theory_written;
  back = λ b ts. refl;
  fine = theory_fine;
  fine_back = λ b h. h.1.0;
  ends = λ s h. h;
  begins = λ s h. h;
}

pub theory_law : Law theory_format
theory_law = same_law theory_same (then_law (header_law o.Theory).law closed_items_law (λ s h. tt))

-- ---- terms

abbrev pub stop_format : Format (Option ℕ)
stop_format = plain.option (sign_format (t.Outer o.Dot)) (Is t.CloseBrace)

brace_no_dot : Into (Is t.CloseBrace) (No (t.Outer o.Dot))
brace_no_dot s e f = cc

pub stop_optional : plain.Optional (sign_format (t.Outer o.Dot)) (Is t.CloseBrace)
stop_optional = record { law = plain.sign_law (t.Outer o.Dot); ends = λ s h. tt; apart = brace_no_dot }

abbrev pub closed_stop : Format (Option ℕ × ℕ)
closed_stop = then stop_format (sign_format t.CloseBrace)

pub closed_stop_law : Law closed_stop
closed_stop_law = then_law (plain.option_law stop_optional).law (sign_law t.CloseBrace) (λ s h. h)

stop_ends_sum : Into (λ s. Is (t.Outer o.Dot) s ⊎ Is t.CloseBrace s) EndsSum
stop_ends_sum s (inl e) = subst EndsSum (sym e) tt
stop_ends_sum s (inr e) = subst EndsSum (sym e) tt

pub stop_into : Into closed_stop.First EndsSum
stop_into = stop_ends_sum

abbrev pub inner_term : Format (Term × (Option ℕ × ℕ))
inner_term = then term_format closed_stop

pub inner_term_law : Law inner_term
inner_term_law = then_law term_law closed_stop_law stop_ends_sum

abbrev pub term_block_parts : Format (Header × (Term × (Option ℕ × ℕ)))
term_block_parts = then (header_format o.Term) inner_term

abbrev pub term_block_format : Format TermBlock
term_block_format = record { put = put_term_block; Fine = FineTermBlock; First = Is (t.Outer o.Term); Next = Anything }

abbrev term_block_to : TermBlock → Header × (Term × (Option ℕ × ℕ))
term_block_to (term_block h x d e) = (h, (x, (d, e)))

term_block_there : (a : TermBlock) → term_block (term_block_to a).0 (term_block_to a).1.0 (term_block_to a).1.1.0
    (term_block_to a).1.1.1 ≡ a
term_block_there (term_block h x d e) = refl

term_block_written : (a : TermBlock) (ts : List Tok) → put_term_block a ts ≡ term_block_parts.put (term_block_to a) ts
term_block_written (term_block h x d e) ts = refl

term_block_fine : (a : TermBlock) → FineTermBlock a → term_block_parts.Fine (term_block_to a)
term_block_fine (term_block h x d e) k = (tt, (k, (tt, tt)))

pub term_block_same : Same term_block_format term_block_parts
term_block_same = record {
  to = term_block_to;
  from = λ x. term_block x.0 x.1.0 x.1.1.0 x.1.1.1;
  there = term_block_there;
  written = term_block_written;
  back = λ b ts. refl;
  fine = term_block_fine;
  fine_back = λ b h. h.1.0;
  ends = λ s h. h;
  begins = λ s h. h;
}

pub term_block_law : Law term_block_format
term_block_law = same_law term_block_same (then_law (header_law o.Term).law inner_term_law (λ s h. tt))

-- ---- the file

abbrev pub values_or_procedures : Format (TermBlock ⊎ ℕ)
values_or_procedures = either term_block_format (sign_format (t.Outer o.Procedure)) Anything

procedure_apart : Apart (Is (t.Outer o.Term)) (Is (t.Outer o.Procedure))
procedure_apart s e f = cc

pub value_alternatives : Alternatives term_block_format (sign_format (t.Outer o.Procedure)) Anything
value_alternatives = record {
  left = term_block_law;
  right = sign_law (t.Outer o.Procedure);
  apart = procedure_apart;
  ends_left = λ s h. h;
  ends_right = λ s h. h;
}

abbrev pub structures_or_others : Format (Structure ⊎ (TermBlock ⊎ ℕ))
structures_or_others = either structure_format values_or_procedures Anything

structure_apart : Apart (Is (t.Outer o.Structure)) (λ s. Is (t.Outer o.Term) s ⊎ Is (t.Outer o.Procedure) s)
structure_apart s e (inl f) = cc
structure_apart s e (inr f) = cc

pub structure_alternatives : Alternatives structure_format values_or_procedures Anything
structure_alternatives = record {
  left = structure_law.law;
  right = either_law value_alternatives;
  apart =
      structure_apart;
  ends_left = λ s h. h;
  ends_right = λ s h. h;
}

abbrev pub theories_or_others : Format (Theory ⊎ (Structure ⊎ (TermBlock ⊎ ℕ)))
theories_or_others = either theory_format structures_or_others Anything

theory_apart : Apart (Is (t.Outer o.Theory)) (λ s. Is (t.Outer o.Structure) s
    ⊎ (Is (t.Outer o.Term) s ⊎ Is (t.Outer o.Procedure) s))
theory_apart s e (inl f) = cc
theory_apart s e (inr (inl f)) = cc
theory_apart s e (inr (inr f)) = cc

pub theory_alternatives : Alternatives theory_format structures_or_others Anything
theory_alternatives = record {
  left = theory_law;
  right = either_law structure_alternatives;
  apart = theory_apart;
  ends_left = λ s h. h;
  ends_right = λ s h. h;
}

abbrev pub BlockParts : Type 0
BlockParts = Vocabulary ⊎ (Theory ⊎ (Structure ⊎ (TermBlock ⊎ ℕ)))

abbrev pub block_parts : Format BlockParts
block_parts = either vocabulary_format theories_or_others Anything

vocabulary_apart : Apart (Is (t.Outer o.Vocabulary)) (λ s. Is (t.Outer o.Theory) s
    ⊎ (Is (t.Outer o.Structure) s ⊎ (Is (t.Outer o.Term) s ⊎ Is (t.Outer o.Procedure) s)))
vocabulary_apart s e (inl f) = cc
vocabulary_apart s e (inr (inl f)) = cc
vocabulary_apart s e (inr (inr (inl f))) = cc
vocabulary_apart s e (inr (inr (inr f))) = cc

pub block_alternatives : Alternatives vocabulary_format theories_or_others Anything
block_alternatives = record {
  left = vocabulary_law.law;
  right = either_law theory_alternatives;
  apart =
      vocabulary_apart;
  ends_left = λ s h. h;
  ends_right = λ s h. h;
}

abbrev pub BeginsBlock : Option Symbol → Type 0
BeginsBlock s = Is (t.Outer o.Vocabulary) s ⊎ (Is (t.Outer o.Theory) s
    ⊎ (Is (t.Outer o.Structure) s ⊎ (Is (t.Outer o.Term) s ⊎ Is (t.Outer o.Procedure) s)))

abbrev pub block_format : Format Block
block_format = record { put = put_block; Fine = FineBlock; First = BeginsBlock; Next = Anything }

abbrev block_to : Block → BlockParts
block_to (vocabulary_block v) = inl v
block_to (theory_block x) = inr (inl x)
block_to (structure_block s) = inr (inr (inl s))
block_to (value_block x) = inr (inr (inr (inl x)))
block_to (procedure p) = inr (inr (inr (inr p)))

abbrev block_from : BlockParts → Block
block_from (inl v) = vocabulary_block v
block_from (inr (inl x)) = theory_block x
block_from (inr (inr (inl s))) = structure_block s
block_from (inr (inr (inr (inl x)))) = value_block x
block_from (inr (inr (inr (inr p)))) = procedure p

block_there : (a : Block) → block_from (block_to a) ≡ a
block_there (vocabulary_block v) = refl
block_there (theory_block x) = refl
block_there (structure_block s) = refl
block_there (value_block x) = refl
block_there (procedure p) = refl

block_written : (a : Block) (ts : List Tok) → put_block a ts ≡ block_parts.put (block_to a) ts
block_written (vocabulary_block v) ts = refl
block_written (theory_block x) ts = refl
block_written (structure_block s) ts = refl
block_written (value_block x) ts = refl
block_written (procedure p) ts = refl

block_back : (b : BlockParts) (ts : List Tok) → put_block (block_from b) ts ≡ block_parts.put b ts
block_back (inl v) ts = refl
block_back (inr (inl x)) ts = refl
block_back (inr (inr (inl s))) ts = refl
block_back (inr (inr (inr (inl x)))) ts = refl
block_back (inr (inr (inr (inr p)))) ts = refl

block_fine : (a : Block) → FineBlock a → block_parts.Fine (block_to a)
block_fine (vocabulary_block v) h = tt
block_fine (theory_block x) h = h
block_fine (structure_block s) h = tt
block_fine (value_block x) h = h
block_fine (procedure p) h = tt

block_fine_back : (b : BlockParts) → block_parts.Fine b → FineBlock (block_from b)
block_fine_back (inl v) h = tt
block_fine_back (inr (inl x)) h = h
block_fine_back (inr (inr (inl s))) h = tt
block_fine_back (inr (inr (inr (inl x)))) h = h
block_fine_back (inr (inr (inr (inr p)))) h = tt

pub block_same : Same block_format block_parts
block_same = record {
  to = block_to;
  from = block_from;
  there = block_there;
  written = block_written;
  back = block_back;
  fine = block_fine;
  fine_back = block_fine_back;
  ends = λ s h. h;
  begins = λ s h. h;
}

pub block_law : Law block_format
block_law = same_law block_same (either_law block_alternatives)

-- the text ends
abbrev pub Ended : Option Symbol → Type 0
Ended s = s ≡ None

block_not_end : Apart Ended BeginsBlock
block_not_end s e (inl f) = cc
block_not_end s e (inr (inl f)) = cc
block_not_end s e (inr (inr (inl f))) = cc
block_not_end s e (inr (inr (inr (inl f)))) = cc
block_not_end s e (inr (inr (inr (inr f)))) = cc

pub blocks_several : Several block_format Ended
blocks_several = record { law = block_law; ends = λ s h. tt; apart = block_not_end; follows = λ s h. tt }

abbrev pub file_format : Format (List Block)
file_format = each block_format Ended

pub file_law : Law file_format
file_law = each_law blocks_several
