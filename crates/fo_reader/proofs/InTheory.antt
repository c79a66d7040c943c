-- Where the parts of a theory and of a term are stuck.
use Rattle.std.proofs.Common.{◌≡◌, ℕ, List, ◌∷◌, Option, refl, ap, ◌∙◌}
use Rattle.grammar.specs.declared.stops.ReadError.{ReadError}
use Rattle.grammar.specs.declared.stops.ReadError.TheVariants.{Memory, Stuck}
use Rattle.grammar.specs.declared.terminal.Terminal.{Terminal}
use Rattle.grammar.specs.declared.terminal.Terminal.TheVariants as t
use Rattle.grammar.specs.declared.terminal.Outer.TheVariants as o
use Rattle.grammar.specs.declared.terminal.Comparison.TheVariants as cmp
use Rattle.grammar.specs.Terminals.{Symbol, Tok, sign}
use Rattle.grammar.specs.Trees.{Formula, Term, App}
use Rattle.token_reader.specs.Binders.{Whole, put_binder}
use Rattle.token_reader.specs.Machine.{fresh}
use Rattle.token_reader.specs.Parts.{Fails, at_vars}
use Rattle.formula_reader.specs.Results.{FormulaIs}
use Rattle.grammar.specs.Fine.{FineFormula, FineTerm, FineApp}
use Rattle.grammar.specs.Spelling.{put_formula, put_term, put_app}
use Rattle.grammar.specs.BlockTrees.{Header, Binding, Head, Rule, TheoryItem}
use Rattle.grammar.specs.BlockSpelling.{put_option, put_each, put_sign, put_header, put_binding, put_head, put_body}
use Rattle.grammar.specs.BlockSpelling.{put_rule, put_theory_item, put_theory, put_term_block}
use Rattle.grammar.specs.BlockFine.{FineEach, FineHead, FineBody, FineRule, FineTheoryItem, FineTheory, FineTermBlock}
use Rattle.block_reader.specs.BlockParts.{Anything, StuckAt}
use Rattle.token_reader.specs.Signs.{next, No, Is, AWord, Absent}
use Rattle.fo_reader.specs.TheoryReads.{EndsApp, EndsSum, put_ended, FineEnded, put_clause, FineClause}
use Rattle.block_reader.specs.BlockParts.{EndsHead}
use Rattle.block_reader.proofs.Formats.{Format, Law, Into, at_same, not_first, sign_law, then_first, then_second}
use Rattle.block_reader.proofs.Formats.{option_law, option_in, option_ends, each_law, each_in, either_left}
use Rattle.block_reader.proofs.Formats.{either_right, same_in, behind_in}
use Rattle.block_reader.proofs.Plain as plain
use Rattle.block_reader.proofs.BlockReadings.{absent_at, neither}
use Rattle.block_reader.proofs.BlockFormats.{word_no}
use Rattle.block_reader.proofs.StructureFormats.{header_format, header_law}
use Rattle.fo_reader.proofs.FormulaFormats.{app_format, app_law, term_format, term_law, formula_format, formula_law}
use Rattle.fo_reader.proofs.TheoryFormats.{bound_vars, bound_vars_law, binding_format, binding_same, every_binding_law}
use Rattle.fo_reader.proofs.TheoryFormats.{head_value_optional, head_into, head_format, head_same, head_law}
use Rattle.fo_reader.proofs.TheoryFormats.{inner_body_optional, body_format, body_optional, body_same, body_law}
use Rattle.fo_reader.proofs.TheoryFormats.{ended_body, ended_body_law, headed, headed_law, rule_format, rule_same}
use Rattle.fo_reader.proofs.TheoryFormats.{rules_format, rules_several, closed_rules_law, theory_item_format}
use Rattle.fo_reader.proofs.TheoryFormats.{theory_item_same, theory_item_alternatives, theory_items_format}
use Rattle.fo_reader.proofs.TheoryFormats.{theory_items_several, closed_items_law, theory_format, theory_same}
use Rattle.fo_reader.proofs.TheoryFormats.{stop_format, stop_optional, closed_stop_law, stop_into, inner_term_law}
use Rattle.fo_reader.proofs.TheoryFormats.{term_block_format, term_block_same}
use Rattle.fo_reader.proofs.Beyond.{binder_fails, no_dot}

-- what has to come does come
pub comes_there : {A : Type 0} (put : A → List Tok → List Tok) (Fine : A → Type 0) (Next : Option Symbol → Type 0)
    (s : Terminal) (ts us : List Tok) (len : ℕ) (e : ReadError) → Is s (next us) → Absent (Is s) us len e
    → StuckAt put Fine Next ts len e
comes_there put Fine Next s ts us len Memory comes h = tt
comes_there put Fine Next s ts us len (Stuck place) comes h = absurd (h.0 comes)

pub no_statement : (f : Formula) (ts us : List Tok) (len : ℕ) (e : ReadError) → FormulaIs ts fresh f us
    → Absent (Is (t.Outer o.Dot)) us len e → StuckAt put_formula FineFormula (Is (t.Outer o.Dot)) ts len e
no_statement f ts us len e found h = absent_at (Is (t.Outer o.Dot)) formula_format ts us len e
    (λ none. no_dot f ts us found none) h

pub no_application : (ts : List Tok) (len : ℕ) (e : ReadError) → Absent AWord ts len e
    → StuckAt put_app FineApp EndsApp ts len e
no_application ts len e h = absent_at AWord app_format ts ts len e (λ none. not_first app_law ts none) h

-- ---- the variables before a rule

-- all of them: whatever comes then, it is none
abbrev all_bindings : Format (List Binding)
all_bindings = plain.each binding_format (No t.Every)

all_several : plain.Several binding_format (No t.Every)
all_several = record { law = every_binding_law; ends = λ s h. tt; apart = λ s n e. n e; follows = λ s h. tt }

all_law : Law all_bindings
all_law = (plain.each_law all_several).law

all_into : Into headed.First (No t.Every)
all_into s w e = word_no s w t.Every e

pub in_bindings : (xs : List Binding) (p : ℕ) (ts us vs : List Tok) (len : ℕ) (e : ReadError)
    → ts ≡ put_each put_binding xs us → us ≡ sign t.Every p ∷ vs → Fails at_vars put_binder Whole vs len e
    → StuckAt (put_each put_binding) Whole (No t.Every) ts len e
in_bindings xs p ts us vs len e is comes h = at_same bound_vars all_bindings ts vs
    (λ rest s. plain.each_in all_several xs ts us rest is tt (λ n. n (ap next comes))
    (same_in binding_same us rest (behind_in t.Every bound_vars_law p us vs rest comes s))) len e
    (binder_fails vs len e h)

-- ---- heads

pub head_first : (ts : List Tok) (len : ℕ) (e : ReadError) → StuckAt put_app FineApp EndsApp ts len e
    → StuckAt put_head FineHead EndsHead ts len e
head_first ts len e h = at_same app_format head_format ts ts
    (λ rest s. same_in head_same ts rest (then_first app_law (option_law head_value_optional) head_into ts rest s)) len
    e h

pub head_alone : (a : App) (ts us : List Tok) (len : ℕ) (e : ReadError) → FineApp a → ts ≡ put_app a us
    → EndsApp (next us) → No (t.Compare cmp.Equal) (next us) → Absent EndsHead us len e
    → StuckAt put_head FineHead EndsHead ts len e
head_alone a ts us len e fine is may never h = absent_at EndsHead head_format ts us len e
    (λ none. same_in head_same ts us (then_second app_law (option_law head_value_optional) head_into a fine ts us us is
    may (not_first (option_law head_value_optional) us (neither never none)))) h

pub in_head_value : (a : App) (p : ℕ) (ts us vs : List Tok) (len : ℕ) (e : ReadError) → FineApp a → ts ≡ put_app a us
    → EndsApp (next us) → us ≡ sign (t.Compare cmp.Equal) p ∷ vs → StuckAt put_term FineTerm EndsSum vs len e
    → StuckAt put_head FineHead EndsHead ts len e
in_head_value a p ts us vs len e fine is may comes h =
    at_same term_format head_format ts vs (λ rest s. same_in head_same ts rest
    (then_second app_law (option_law head_value_optional) head_into a fine ts us rest is may
    (option_in head_value_optional us rest (λ n. head_value_optional.apart (next us) n (ap next comes))
    (behind_in (t.Compare cmp.Equal) term_law p us vs rest comes s)))) len e h

pub behind_head_value : (a : App) (p : ℕ) (x : Term) (ts us vs ws : List Tok) (len : ℕ) (e : ReadError) → FineApp a
    → ts ≡ put_app a us → EndsApp (next us) → us ≡ sign (t.Compare cmp.Equal) p ∷ vs → FineTerm x → vs ≡ put_term x ws
    → EndsSum (next ws) → Absent EndsHead ws len e → StuckAt put_head FineHead EndsHead ts len e
behind_head_value a p x ts us vs ws len e fine is may comes fine_x read ends h =
    absent_at EndsHead head_format ts ws len e (λ none. same_in head_same ts ws
    (then_second app_law (option_law head_value_optional) head_into a fine ts us ws is may
    (option_ends head_value_optional (p, x) (tt, fine_x) us ws
    (comes ∙ ap (λ (z : List Tok). sign (t.Compare cmp.Equal) p ∷ z) read) ends none
    (λ n. head_value_optional.apart (next us) n (ap next comes))))) h

-- ---- bodies

pub no_body : (ts : List Tok) (len : ℕ) (e : ReadError) → No (t.Outer o.If) (next ts)
    → Absent (Is (t.Outer o.Dot)) ts len e → StuckAt (put_option put_body) FineBody (Is (t.Outer o.Dot)) ts len e
no_body ts len e never h = absent_at (Is (t.Outer o.Dot)) body_format ts ts len e
    (λ none. not_first body_law ts (neither never none)) h

pub in_body : (p : ℕ) (ts us : List Tok) (len : ℕ) (e : ReadError) → ts ≡ sign (t.Outer o.If) p ∷ us
    → No (t.Outer o.Dot) (next us) → StuckAt put_formula FineFormula (Is (t.Outer o.Dot)) us len e
    → StuckAt (put_option put_body) FineBody (Is (t.Outer o.Dot)) ts len e
in_body p ts us len e is never h =
    at_same formula_format body_format ts us (λ rest s. same_in body_same ts rest
    (option_in body_optional ts rest (λ n. body_optional.apart (next ts) n (ap next is))
    (behind_in (t.Outer o.If) (option_law inner_body_optional) p ts us rest is
    (option_in inner_body_optional us rest never s)))) len e h

pub ended_first : (ts : List Tok) (len : ℕ) (e : ReadError) → StuckAt (put_option put_body) FineBody
    (Is (t.Outer o.Dot)) ts len e → StuckAt put_ended FineEnded Anything ts len e
ended_first ts len e h = at_same body_format ended_body ts ts (λ rest s. then_first body_law (sign_law (t.Outer o.Dot))
    (λ x k. k) ts rest s) len e h

-- ---- rules

pub clause_head : (ts : List Tok) (len : ℕ) (e : ReadError) → StuckAt put_head FineHead EndsHead ts len e
    → StuckAt put_clause FineClause Anything ts len e
clause_head ts len e h = at_same head_format headed ts ts (λ rest s. then_first head_law ended_body_law
    (λ x k. k) ts rest s) len e h

pub clause_end : (d : Head) (ts us : List Tok) (len : ℕ) (e : ReadError) → FineHead d → ts ≡ put_head d us
    → EndsHead (next us) → StuckAt put_ended FineEnded Anything us len e
    → StuckAt put_clause FineClause Anything ts len e
clause_end d ts us len e fine is ends h = at_same ended_body headed ts us (λ rest s. then_second head_law ended_body_law
    (λ x k. k) d fine ts us rest is ends s) len e h

pub rule_bindings : (ts : List Tok) (len : ℕ) (e : ReadError) → StuckAt (put_each put_binding) Whole (No t.Every) ts len
    e → StuckAt put_rule FineRule Anything ts len e
rule_bindings ts len e h = at_same all_bindings rule_format ts ts
    (λ rest s. same_in rule_same ts rest (then_first all_law headed_law all_into ts rest s)) len e h

pub rule_clause : (bs : List Binding) (ts us : List Tok) (len : ℕ) (e : ReadError) → ts ≡ put_each put_binding bs us
    → No t.Every (next us) → StuckAt put_clause FineClause Anything us len e
    → StuckAt put_rule FineRule Anything ts len e
rule_clause bs ts us len e is never h = at_same headed rule_format ts us
    (λ rest s. same_in rule_same ts rest (then_second all_law headed_law all_into bs tt ts us rest is never s)) len e h

pub in_rules : (xs : List Rule) (ts us : List Tok) (len : ℕ) (e : ReadError) → FineEach FineRule xs
    → ts ≡ put_each put_rule xs us → No t.CloseBrace (next us) → StuckAt put_rule FineRule Anything us len e
    → StuckAt (put_each put_rule) (FineEach FineRule) (Is t.CloseBrace) ts len e
in_rules xs ts us len e fine is never h = at_same rule_format rules_format ts us
    (λ rest s. each_in rules_several xs fine ts us rest is tt never s) len e h

-- ---- theories

pub in_definition : (begin : ℕ) (us : List Tok) (len : ℕ) (e : ReadError)
    → StuckAt (put_each put_rule) (FineEach FineRule) (Is t.CloseBrace) us len e
    → StuckAt put_theory_item FineTheoryItem Anything (sign t.OpenBrace begin ∷ us) len e
in_definition begin us len e h =
    let ts = sign t.OpenBrace begin ∷ us in
    at_same rules_format theory_item_format ts us (λ rest s. same_in theory_item_same ts rest
    (either_right theory_item_alternatives ts rest (λ w. w) (behind_in t.OpenBrace closed_rules_law begin ts us rest
    refl (then_first (each_law rules_several) (sign_law t.CloseBrace) (λ x k. k) us rest s)))) len e h

pub in_sentence : (ts : List Tok) (len : ℕ) (e : ReadError) → No t.OpenBrace (next ts) → StuckAt put_formula FineFormula
    (Is (t.Outer o.Dot)) ts len e → StuckAt put_theory_item FineTheoryItem Anything ts len e
in_sentence ts len e never h = at_same formula_format theory_item_format ts ts
    (λ rest s. same_in theory_item_same ts rest (either_left theory_item_alternatives ts rest never
    (then_first formula_law (sign_law (t.Outer o.Dot)) (λ x k. k) ts rest s))) len e h

pub in_theory_items : (xs : List TheoryItem) (ts us : List Tok) (len : ℕ) (e : ReadError) → FineEach FineTheoryItem xs
    → ts ≡ put_each put_theory_item xs us → No t.CloseBrace (next us) → StuckAt put_theory_item FineTheoryItem Anything
    us len e → StuckAt (put_each put_theory_item) (FineEach FineTheoryItem) (Is t.CloseBrace) ts len e
in_theory_items xs ts us len e fine is never h = at_same theory_item_format theory_items_format ts us
    (λ rest s. each_in theory_items_several xs fine ts us rest is tt never s) len e h

pub theory_header : (ts : List Tok) (len : ℕ) (e : ReadError) → StuckAt (put_header o.Theory) Whole Anything ts len e
    → StuckAt put_theory FineTheory Anything ts len e
theory_header ts len e h = at_same (header_format o.Theory) theory_format ts ts
    (λ rest s. same_in theory_same ts rest (then_first (header_law o.Theory).law closed_items_law
    (λ x k. tt) ts rest s)) len e h

pub theory_items : (d : Header) (ts us : List Tok) (len : ℕ) (e : ReadError) → ts ≡ put_header o.Theory d us
    → StuckAt (put_each put_theory_item) (FineEach FineTheoryItem) (Is t.CloseBrace) us len e
    → StuckAt put_theory FineTheory Anything ts len e
theory_items d ts us len e is h = at_same theory_items_format theory_format ts us
    (λ rest s. same_in theory_same ts rest (then_second (header_law o.Theory).law closed_items_law (λ x k. tt) d tt ts
    us rest is tt (then_first (each_law theory_items_several) (sign_law t.CloseBrace) (λ x k. k) us rest s))) len e h

-- ---- terms

pub no_stop : (ts : List Tok) (len : ℕ) (e : ReadError) → No (t.Outer o.Dot) (next ts)
    → Absent (Is t.CloseBrace) ts len e → StuckAt (put_option (put_sign (t.Outer o.Dot))) Whole
    (Is t.CloseBrace) ts len e
no_stop ts len e never h = absent_at (Is t.CloseBrace) stop_format ts ts len e
    (λ none. plain.not_first (plain.option_law stop_optional) ts (neither never none)) h

pub behind_stop : (p : ℕ) (ts us : List Tok) (len : ℕ) (e : ReadError) → ts ≡ sign (t.Outer o.Dot) p ∷ us
    → Absent (Is t.CloseBrace) us len e → StuckAt (put_option (put_sign (t.Outer o.Dot))) Whole
    (Is t.CloseBrace) ts len e
behind_stop p ts us len e is h = absent_at (Is t.CloseBrace) stop_format ts us len e
    (λ none. plain.option_ends stop_optional p ts us is tt none (λ n. stop_optional.apart (next ts) n (ap next is))) h

pub term_header : (ts : List Tok) (len : ℕ) (e : ReadError) → StuckAt (put_header o.Term) Whole Anything ts len e
    → StuckAt put_term_block FineTermBlock Anything ts len e
term_header ts len e h = at_same (header_format o.Term) term_block_format ts ts
    (λ rest s. same_in term_block_same ts rest (then_first (header_law o.Term).law inner_term_law
    (λ x k. tt) ts rest s)) len e h

pub term_value : (d : Header) (ts us : List Tok) (len : ℕ) (e : ReadError) → ts ≡ put_header o.Term d us
    → StuckAt put_term FineTerm EndsSum us len e → StuckAt put_term_block FineTermBlock Anything ts len e
term_value d ts us len e is h = at_same term_format term_block_format ts us (λ rest s. same_in term_block_same ts rest
    (then_second (header_law o.Term).law inner_term_law (λ x k. tt) d tt ts us rest is tt
    (then_first term_law closed_stop_law stop_into us rest s))) len e h

pub term_stop : (d : Header) (x : Term) (ts us vs : List Tok) (len : ℕ) (e : ReadError) → ts ≡ put_header o.Term d us
    → us ≡ put_term x vs → FineTerm x → EndsSum (next vs) → StuckAt (put_option (put_sign (t.Outer o.Dot))) Whole
    (Is t.CloseBrace) vs len e → StuckAt put_term_block FineTermBlock Anything ts len e
term_stop d x ts us vs len e is read fine ends h =
    at_same stop_format term_block_format ts vs (λ rest s. same_in term_block_same ts rest
    (then_second (header_law o.Term).law inner_term_law (λ x k. tt) d tt ts us rest is tt
    (then_second term_law closed_stop_law stop_into x fine us vs rest read ends
    (then_first (plain.option_law stop_optional).law (sign_law t.CloseBrace) (λ x k. k) vs rest s)))) len e h
