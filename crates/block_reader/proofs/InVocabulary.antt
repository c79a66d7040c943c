-- Where the parts of a vocabulary are stuck.
use Rattle.std.proofs.Common.{◌≡◌, ℕ, List, [], ◌∷◌, Option, Some, ◌⊎◌, inl, inr, refl, sym, ap, subst, ◌∙◌}
use Rattle.grammar.specs.declared.stops.ReadError.{ReadError}
use Rattle.grammar.specs.declared.stops.ReadError.TheVariants.{Memory, Stuck}
use Rattle.grammar.specs.declared.terminal.Terminal.{Terminal}
use Rattle.grammar.specs.declared.terminal.Terminal.TheVariants as t
use Rattle.grammar.specs.declared.terminal.Outer.TheVariants as o
use Rattle.grammar.specs.declared.raw_blocks.Separator.{Separator}
use Rattle.grammar.specs.declared.raw_blocks.Separator.TheVariants as sep
use Rattle.grammar.specs.Terminals.{Symbol, Tok, tok_at, mark, word, sign}
use Rattle.grammar.specs.Trees.{Name, name}
use Rattle.token_reader.specs.Binders.{Whole}
use Rattle.grammar.specs.Spelling.{put_name}
use Rattle.grammar.specs.BlockTrees.{names, Positions, Declaration}
use Rattle.grammar.specs.BlockSpelling.{put_option, put_each, put_behind, put_positions, from, separator}
use Rattle.grammar.specs.BlockSpelling.{put_separated, put_declaration, put_vocabulary}
use Rattle.block_reader.specs.BlockParts.{Anything, NoSeparator, EndsDeclaration, EndsArguments}
use Rattle.token_reader.specs.Signs.{next, No, Is, AWord, Absent}
use Rattle.block_reader.specs.BlockParts.{StuckAt}
use Rattle.block_reader.specs.BlockReads.{IsFrom}
use Rattle.block_reader.proofs.Formats.{Here, at_same, name_format, narrowed, same_next}
use Rattle.block_reader.proofs.Plain.{not_first, sign_law, name_law, then_first, then_second, option_law, option_in}
use Rattle.block_reader.proofs.Plain.{option_ends, Optional, optional_behind, each_law, each_in, each_here, each_ends}
use Rattle.block_reader.proofs.Plain.{Alternatives, either_left, either_right, same_in, narrowed_law, stuck_behind}
use Rattle.block_reader.proofs.Plain.{behind, behind_law, behind_in, option}
use Rattle.block_reader.proofs.BlockReadings.{absent_at, neither}
use Rattle.block_reader.proofs.BlockFormats.{name_tails, name_tails_several, names_format, names_same, names_parts_law}
use Rattle.block_reader.proofs.BlockFormats.{names_law, names_optional, inner_positions, inner_positions_law}
use Rattle.block_reader.proofs.BlockFormats.{positions_format, positions_same, arguments_format, arguments_optional}
use Rattle.block_reader.proofs.BlockFormats.{Separates, separated_format, separated_tails, separated_several}
use Rattle.block_reader.proofs.BlockFormats.{more_names, more_names_law, constructed_names, constructed_names_law}
use Rattle.block_reader.proofs.BlockFormats.{in_braces, in_braces_law, from_law, from_names, from_names_law}
use Rattle.block_reader.proofs.BlockFormats.{construction, construction_law, isa_format, isa_optional}
use Rattle.block_reader.proofs.BlockFormats.{type_alternatives, type_tail_law, named_type, named_type_law}
use Rattle.block_reader.proofs.BlockFormats.{result_format, result_optional, symbol_tail_law, symbol_parts}
use Rattle.block_reader.proofs.BlockFormats.{symbol_parts_law, declaration_format, declaration_alternatives}
use Rattle.block_reader.proofs.BlockFormats.{declaration_parts_law, declaration_same, declarations_format}
use Rattle.block_reader.proofs.BlockFormats.{declarations_several, closed_declarations_law, braced_declarations_law}
use Rattle.block_reader.proofs.BlockFormats.{named_vocabulary, named_vocabulary_law, vocabulary_format, vocabulary_same}

-- ---- names after commas

pub in_name_tails : (xs : List (ℕ × Name)) (p : ℕ) (ts us vs : List Tok) (len : ℕ) (e : ReadError)
    → ts ≡ put_each (put_behind t.Comma put_name) xs us → us ≡ sign t.Comma p ∷ vs → Absent AWord vs len e
    → StuckAt (put_each (put_behind t.Comma put_name)) Whole (No t.Comma) ts len e
in_name_tails xs p ts us vs len e is comma h =
    absent_at AWord name_tails ts vs len e (λ never. each_in name_tails_several xs ts us vs is tt
    (λ n. n (ap next comma)) (behind_in t.Comma name_law p us vs vs comma (not_first name_law vs never))) h

-- ---- positions

inner_in : (begin : ℕ) (us rest : List Tok) → Here inner_positions us rest
    → Here positions_format (sign t.Open begin ∷ us) rest
inner_in begin us rest h = same_in positions_same (behind_law t.Open inner_positions_law) (sign t.Open begin ∷ us) rest
    (behind_in t.Open inner_positions_law begin (sign t.Open begin ∷ us) us rest refl h)

names_in : (begin : ℕ) (us rest : List Tok) → No t.Close (next us) → Here names_format us rest
    → Here positions_format (sign t.Open begin ∷ us) rest
names_in begin us rest never h = inner_in begin us rest (then_first (option_law names_optional) (sign_law t.Close)
    (λ s k. k) us rest (option_in names_optional us rest never h))

pub positions_first : (begin : ℕ) (us : List Tok) (len : ℕ) (e : ReadError) → No t.Close (next us)
    → Absent AWord us len e → StuckAt put_positions Whole Anything (sign t.Open begin ∷ us) len e
positions_first begin us len e never h = absent_at AWord positions_format (sign t.Open begin ∷ us) us len e
    (λ none. names_in begin us us never (not_first names_law us none)) h

pub positions_more : (begin : ℕ) (n : Name) (us vs : List Tok) (len : ℕ) (e : ReadError) → No t.Close (next us)
    → us ≡ put_name n vs → StuckAt (put_each (put_behind t.Comma put_name)) Whole (No t.Comma) vs len e
    → StuckAt put_positions Whole Anything (sign t.Open begin ∷ us) len e
positions_more begin n us vs len e never is h =
    at_same name_tails positions_format (sign t.Open begin ∷ us) vs
    (λ rest s. names_in begin us rest never (same_in names_same names_parts_law us rest
    (then_second name_law (each_law name_tails_several) (λ x k. tt) n us vs rest is tt s))) len e h

pub positions_close : (begin : ℕ) (n : Name) (ns : List (ℕ × Name)) (us vs ws : List Tok) (len : ℕ) (e : ReadError)
    → No t.Close (next us) → us ≡ put_name n vs → vs ≡ put_each (put_behind t.Comma put_name) ns ws
    → No t.Comma (next ws) → Absent (Is t.Close) ws len e → StuckAt put_positions Whole Anything
    (sign t.Open begin ∷ us) len e
positions_close begin n ns us vs ws len e never is more ends h =
    absent_at (Is t.Close) positions_format (sign t.Open begin ∷ us) ws len e
    (λ none. inner_in begin us ws (then_first (option_law names_optional) (sign_law t.Close) (λ s k. k) us ws
    (option_ends names_optional (names n ns) us ws (is ∙ ap (λ (x : List Tok). put_name n x) more) ends none never))) h

-- ---- arguments

pub arguments_none : (ts : List Tok) (len : ℕ) (e : ReadError) → No t.Open (next ts) → Absent EndsArguments ts len e
    → StuckAt (put_option put_positions) Whole EndsArguments ts len e
arguments_none ts len e shut h = absent_at EndsArguments arguments_format ts ts len e
    (λ none. not_first (option_law arguments_optional) ts (neither shut none)) h

pub arguments_in : (begin : ℕ) (ts us : List Tok) (len : ℕ) (e : ReadError) → ts ≡ sign t.Open begin ∷ us
    → StuckAt put_positions Whole Anything (sign t.Open begin ∷ us) len e
    → StuckAt (put_option put_positions) Whole EndsArguments ts len e
arguments_in begin ts us len e is h =
    rw is (at_same positions_format arguments_format (sign t.Open begin ∷ us) (sign t.Open begin ∷ us)
    (λ rest s. option_in arguments_optional (sign t.Open begin ∷ us) rest
    (λ n. arguments_optional.apart (Some (mark t.Open)) n refl) s) len e h)

pub arguments_behind : (ps : Positions) (begin : ℕ) (ts us vs : List Tok) (len : ℕ) (e : ReadError)
    → ts ≡ sign t.Open begin ∷ us → sign t.Open begin ∷ us ≡ put_positions ps vs → Absent EndsArguments vs len e
    → StuckAt (put_option put_positions) Whole EndsArguments ts len e
arguments_behind ps begin ts us vs len e is read h = absent_at EndsArguments arguments_format ts vs len e
    (λ none. option_ends arguments_optional ps ts vs (is ∙ read) tt none (λ n. arguments_optional.apart (next ts) n
    (ap next is))) h

-- ---- a name after a sign, at the end of a declaration

named_optional : (w : Terminal) → (w ≡ t.CloseBrace → ⊥) → (w ≡ t.Outer o.Type → ⊥)
    → Optional (behind w name_format) EndsDeclaration
named_optional w brace another = optional_behind w name_law (λ s h. tt) apart
  where
    apart : (s : Option Symbol) → EndsDeclaration s → No w s
    apart s (inl e) f = brace (cc)
    apart s (inr (inl e)) f = another (cc)
    apart s (inr (inr a)) f = subst AWord f a

pub named_none : (w : Terminal) → (w ≡ t.CloseBrace → ⊥) → (w ≡ t.Outer o.Type → ⊥)
    → (ts : List Tok) (len : ℕ) (e : ReadError) → No w (next ts) → Absent EndsDeclaration ts len e
    → StuckAt (put_option (put_behind w put_name)) Whole EndsDeclaration ts len e
named_none w brace another ts len e never h = absent_at EndsDeclaration (option (behind w name_format) EndsDeclaration)
    ts ts len e (λ none. not_first (option_law (named_optional w brace another)) ts (neither never none)) h

pub named_in : (w : Terminal) → (w ≡ t.CloseBrace → ⊥) → (w ≡ t.Outer o.Type → ⊥) → (p : ℕ) (ts us : List Tok) (len : ℕ)
    (e : ReadError) → ts ≡ sign w p ∷ us → Absent AWord us len e → StuckAt (put_option (put_behind w put_name)) Whole
    EndsDeclaration ts len e
named_in w brace another p ts us len e is h =
    absent_at AWord (option (behind w name_format) EndsDeclaration) ts us len e
    (λ none. option_in (named_optional w brace another) ts us (λ n. (named_optional w brace another).apart
    (next ts) n (ap next is)) (behind_in w name_law p ts us us is (not_first name_law us none))) h

pub named_behind : (w : Terminal) → (w ≡ t.CloseBrace → ⊥) → (w ≡ t.Outer o.Type → ⊥)
    → (p : ℕ) (n : Name) (ts us vs : List Tok) (len : ℕ) (e : ReadError) → ts ≡ sign w p ∷ us → us ≡ put_name n vs
    → Absent EndsDeclaration vs len e → StuckAt (put_option (put_behind w put_name)) Whole EndsDeclaration ts len e
named_behind w brace another p n ts us vs len e is read h =
    absent_at EndsDeclaration (option (behind w name_format) EndsDeclaration) ts vs len e
    (λ none. option_ends (named_optional w brace another) (p, n) ts vs
    (is ∙ ap (λ (x : List Tok). sign w p ∷ x) read) tt none (λ k. (named_optional w brace another).apart (next ts) k
    (ap next is))) h

-- ---- constructed types

separates : (s : Separator) (p : ℕ) (us vs : List Tok) → us ≡ sign (separator s) p ∷ vs → Separates (next us)
separates sep.Comma p us vs e = inl (ap next e)
separates sep.Semicolon p us vs e = inr (ap next e)

tail_named : (a : Separator × ℕ × Name) (u : Tok) (more after : List Tok) → u ∷ more ≡ put_separated a after
    → AWord (next more)
tail_named (s, p, name w q) u more after e = let f : tok_at (word w) q ∷ after ≡ more = cc in subst AWord (ap next f) tt

separated_here : (s : Separator) (p : ℕ) (us vs : List Tok) → us ≡ sign (separator s) p ∷ vs → (AWord (next vs) → ⊥)
    → Here separated_format us vs
separated_here s p us vs e none = record {
  front = sign (separator s) p ∷ [];
  split = e;
  dead = λ a more after same fine n q. none (subst AWord (sym (same_next vs more same))
      (tail_named a (sign (separator s) p) more after q));
  viable = λ after. ((s, p, name [] 0), put_name (name [] 0) after, tt, refl);
}

pub separated_in : (xs : List (Separator × ℕ × Name)) (s : Separator) (p : ℕ) (ts us vs : List Tok) (len : ℕ)
    (e : ReadError) → ts ≡ put_each put_separated xs us → us ≡ sign (separator s) p ∷ vs → Absent AWord vs len e
    → StuckAt (put_each put_separated) Whole (Is t.CloseBrace) ts len e
separated_in xs s p ts us vs len e is comes h = absent_at AWord separated_tails ts vs len e
    (λ none. each_in separated_several xs ts us vs is tt (λ n. separated_several.apart (next us) n
    (separates s p us vs comes)) (separated_here s p us vs comes none)) h

pub separated_ends : (xs : List (Separator × ℕ × Name)) (ts us : List Tok) (len : ℕ) (e : ReadError)
    → ts ≡ put_each put_separated xs us → NoSeparator (next us) → Absent (Is t.CloseBrace) us len e
    → StuckAt (put_each put_separated) Whole (Is t.CloseBrace) ts len e
separated_ends xs ts us len e is never h = absent_at (Is t.CloseBrace) separated_tails ts us len e
    (λ none. each_ends separated_several xs ts us is tt none (neither never.0 never.1)) h

-- after "constructed"
constructed_in : (place : ℕ) (n : Name) (c : ℕ) (us rest : List Tok)
    → Here construction (sign (t.Outer o.Constructed) c ∷ us) rest
    → Here declaration_format (sign (t.Outer o.Type) place ∷ put_name n (sign (t.Outer o.Constructed) c ∷ us)) rest
constructed_in place n c us rest h =
    let cs = sign (t.Outer o.Constructed) c ∷ us in
    let ns = put_name n cs in
    same_in declaration_same declaration_parts_law (sign (t.Outer o.Type) place ∷ ns) rest
    (either_left declaration_alternatives (sign (t.Outer o.Type) place ∷ ns) rest (λ w. w)
    (behind_in (t.Outer o.Type) named_type_law place (sign (t.Outer o.Type) place ∷ ns) ns rest refl
    (then_second name_law type_tail_law (λ s k. tt) n ns cs rest refl tt
    (either_left type_alternatives cs rest (λ k. type_alternatives.apart (Some (mark (t.Outer o.Constructed)))
    refl k) h))))

from_in : (place : ℕ) (n : Name) (c : ℕ) (us rest : List Tok) → Here from_names us rest
    → Here declaration_format (sign (t.Outer o.Type) place ∷ put_name n (sign (t.Outer o.Constructed) c ∷ us)) rest
from_in place n c us rest h = constructed_in place n c us rest (behind_in (t.Outer o.Constructed) from_names_law c
    (sign (t.Outer o.Constructed) c ∷ us) us rest refl h)

pub no_from : (place : ℕ) (n : Name) (c : ℕ) (us : List Tok) (len : ℕ) (e : ReadError) → Absent IsFrom us len e
    → StuckAt put_declaration Whole EndsDeclaration (sign (t.Outer o.Type) place ∷ put_name n
    (sign (t.Outer o.Constructed) c ∷ us)) len e
no_from place n c us len e h = absent_at IsFrom declaration_format (sign (t.Outer o.Type) place ∷ put_name n
    (sign (t.Outer o.Constructed) c ∷ us)) us len e (λ none. from_in place n c us us (not_first from_names_law us none))
    h

brace_in : (place : ℕ) (n : Name) (c f : ℕ) (us vs rest : List Tok) → us ≡ tok_at (word from) f ∷ vs
    → Here in_braces vs rest → Here declaration_format (sign (t.Outer o.Type) place ∷ put_name n
    (sign (t.Outer o.Constructed) c ∷ us)) rest
brace_in place n c f us vs rest is h = from_in place n c us rest
    (then_second from_law in_braces_law (λ s k. tt) f us vs rest is tt h)

pub no_brace : (place : ℕ) (n : Name) (c f : ℕ) (us vs : List Tok) (len : ℕ) (e : ReadError)
    → us ≡ tok_at (word from) f ∷ vs → Absent (Is t.OpenBrace) vs len e → StuckAt put_declaration Whole EndsDeclaration
    (sign (t.Outer o.Type) place ∷ put_name n (sign (t.Outer o.Constructed) c ∷ us)) len e
no_brace place n c f us vs len e is h = absent_at (Is t.OpenBrace) declaration_format
    (sign (t.Outer o.Type) place ∷ put_name n (sign (t.Outer o.Constructed) c ∷ us)) vs len e
    (λ none. brace_in place n c f us vs vs is (not_first in_braces_law vs none)) h

first_in : (place : ℕ) (n : Name) (c f b : ℕ) (us vs ws rest : List Tok) → us ≡ tok_at (word from) f ∷ vs
    → vs ≡ sign t.OpenBrace b ∷ ws → Here constructed_names ws rest
    → Here declaration_format (sign (t.Outer o.Type) place ∷ put_name n (sign (t.Outer o.Constructed) c ∷ us)) rest
first_in place n c f b us vs ws rest is opens h = brace_in place n c f us vs rest is
    (behind_in t.OpenBrace constructed_names_law b vs ws rest opens h)

pub no_first_name : (place : ℕ) (n : Name) (c f b : ℕ) (us vs ws : List Tok) (len : ℕ) (e : ReadError)
    → us ≡ tok_at (word from) f ∷ vs → vs ≡ sign t.OpenBrace b ∷ ws → Absent AWord ws len e
    → StuckAt put_declaration Whole EndsDeclaration (sign (t.Outer o.Type) place ∷ put_name n
    (sign (t.Outer o.Constructed) c ∷ us)) len e
no_first_name place n c f b us vs ws len e is opens h = absent_at AWord declaration_format
    (sign (t.Outer o.Type) place ∷ put_name n (sign (t.Outer o.Constructed) c ∷ us)) ws len e
    (λ none. first_in place n c f b us vs ws ws is opens (not_first constructed_names_law ws none)) h

more_in : (place : ℕ) (n : Name) (c f b : ℕ) (m : Name) (us vs ws xs rest : List Tok) → us ≡ tok_at (word from) f ∷ vs
    → vs ≡ sign t.OpenBrace b ∷ ws → ws ≡ put_name m xs → Here more_names xs rest
    → Here declaration_format (sign (t.Outer o.Type) place ∷ put_name n (sign (t.Outer o.Constructed) c ∷ us)) rest
more_in place n c f b m us vs ws xs rest is opens read h = first_in place n c f b us vs ws rest is opens
    (then_second name_law more_names_law (λ s k. tt) m ws xs rest read tt h)

pub in_more_names : (place : ℕ) (n : Name) (c f b : ℕ) (m : Name) (us vs ws xs : List Tok) (len : ℕ) (e : ReadError)
    → us ≡ tok_at (word from) f ∷ vs → vs ≡ sign t.OpenBrace b ∷ ws → ws ≡ put_name m xs
    → StuckAt (put_each put_separated) Whole (Is t.CloseBrace) xs len e → StuckAt put_declaration Whole EndsDeclaration
    (sign (t.Outer o.Type) place ∷ put_name n (sign (t.Outer o.Constructed) c ∷ us)) len e
in_more_names place n c f b m us vs ws xs len e is opens read h =
    at_same separated_tails declaration_format (sign (t.Outer o.Type) place ∷ put_name n
    (sign (t.Outer o.Constructed) c ∷ us)) xs (λ rest s. more_in place n c f b m us vs ws xs rest is opens read
    (then_first (each_law separated_several) (sign_law t.CloseBrace) (λ s k. k) xs rest s)) len e h

pub no_close : (place : ℕ) (n : Name) (c f b : ℕ) (m : Name) (ms : List (Separator × ℕ × Name))
    (us vs ws xs ys : List Tok) (len : ℕ) (e : ReadError) → us ≡ tok_at (word from) f ∷ vs
    → vs ≡ sign t.OpenBrace b ∷ ws → ws ≡ put_name m xs → xs ≡ put_each put_separated ms ys → Is t.CloseBrace (next ys)
    → Absent (Is t.CloseBrace) ys len e → StuckAt put_declaration Whole EndsDeclaration
    (sign (t.Outer o.Type) place ∷ put_name n (sign (t.Outer o.Constructed) c ∷ us)) len e
no_close place n c f b m ms us vs ws xs ys len e is opens read more closes h =
    absent_at (Is t.CloseBrace) declaration_format (sign (t.Outer o.Type) place ∷ put_name n
    (sign (t.Outer o.Constructed) c ∷ us)) ys len e (λ none. absurd (none closes)) h

pub behind_construction : (place : ℕ) (n : Name) (c f b : ℕ) (m : Name) (ms : List (Separator × ℕ × Name)) (d : ℕ)
    (us vs ws xs ys zs : List Tok) (len : ℕ) (e : ReadError) → us ≡ tok_at (word from) f ∷ vs
    → vs ≡ sign t.OpenBrace b ∷ ws → ws ≡ put_name m xs → xs ≡ put_each put_separated ms ys
    → ys ≡ sign t.CloseBrace d ∷ zs → Absent EndsDeclaration zs len e → StuckAt put_declaration Whole EndsDeclaration
    (sign (t.Outer o.Type) place ∷ put_name n (sign (t.Outer o.Constructed) c ∷ us)) len e
behind_construction place n c f b m ms d us vs ws xs ys zs len e is opens read more closes h =
    let cs = sign (t.Outer o.Constructed) c ∷ us in
    let ns = put_name n cs in
    let whole : us ≡ from_names.put (f, (b, (m, (ms, d)))) zs = is ∙ ap (λ (x : List Tok). tok_at (word from) f ∷ x)
    (opens ∙ ap (λ (x : List Tok). sign t.OpenBrace b ∷ x) (read ∙ ap (λ (x : List Tok). put_name m x)
    (more ∙ ap (λ (x : List Tok). put_each put_separated ms x) closes))) in
    absent_at EndsDeclaration declaration_format (sign (t.Outer o.Type) place ∷ ns) zs len e
    (λ none. same_in declaration_same declaration_parts_law (sign (t.Outer o.Type) place ∷ ns) zs
    (either_left declaration_alternatives (sign (t.Outer o.Type) place ∷ ns) zs (λ w. w)
    (behind_in (t.Outer o.Type) named_type_law place (sign (t.Outer o.Type) place ∷ ns) ns zs refl
    (then_second name_law type_tail_law (λ s k. tt) n ns cs zs refl tt
    (either_left narrow_alternatives cs zs (λ k. type_alternatives.apart (Some (mark (t.Outer o.Constructed))) refl k)
    (stuck_behind {N = EndsDeclaration} construction_law (λ s k. tt) (c, (f, (b, (m, (ms, d))))) cs zs
    (ap (λ (x : List Tok). sign (t.Outer o.Constructed) c ∷ x) whole) tt none)))))) h
  where
    narrow_alternatives : Alternatives (narrowed construction EndsDeclaration) isa_format EndsDeclaration
    narrow_alternatives = record {
      left = narrowed_law construction_law (λ s k. tt);
      right = option_law isa_optional;
      apart = type_alternatives.apart;
      ends_left = λ s k. k;
      ends_right = λ s k. k;
    }

-- ---- declarations

type_in : (place : ℕ) (us rest : List Tok) → Here named_type us rest
    → Here declaration_format (sign (t.Outer o.Type) place ∷ us) rest
type_in place us rest h = same_in declaration_same declaration_parts_law (sign (t.Outer o.Type) place ∷ us) rest
    (either_left declaration_alternatives (sign (t.Outer o.Type) place ∷ us) rest (λ w. w)
    (behind_in (t.Outer o.Type) named_type_law place (sign (t.Outer o.Type) place ∷ us) us rest refl h))

pub no_type_name : (place : ℕ) (us : List Tok) (len : ℕ) (e : ReadError) → Absent AWord us len e
    → StuckAt put_declaration Whole EndsDeclaration (sign (t.Outer o.Type) place ∷ us) len e
no_type_name place us len e h = absent_at AWord declaration_format (sign (t.Outer o.Type) place ∷ us) us len e
    (λ none. type_in place us us (not_first named_type_law us none)) h

pub in_isa : (place : ℕ) (n : Name) (us vs : List Tok) (len : ℕ) (e : ReadError) → us ≡ put_name n vs
    → No (t.Outer o.Constructed) (next vs) → StuckAt (put_option (put_behind (t.Outer o.Isa) put_name)) Whole
    EndsDeclaration vs len e → StuckAt put_declaration Whole EndsDeclaration (sign (t.Outer o.Type) place ∷ us) len e
in_isa place n us vs len e is never h = at_same isa_format declaration_format (sign (t.Outer o.Type) place ∷ us) vs
    (λ rest s. type_in place us rest (then_second name_law type_tail_law (λ s k. tt) n us vs rest is tt
    (either_right type_alternatives vs rest never s))) len e h

symbol_in : (ts rest : List Tok) → No (t.Outer o.Type) (next ts) → Here symbol_parts ts rest
    → Here declaration_format ts rest
symbol_in ts rest never h = same_in declaration_same declaration_parts_law ts rest
    (either_right declaration_alternatives ts rest never h)

pub no_declaration : (ts : List Tok) (len : ℕ) (e : ReadError) → No (t.Outer o.Type) (next ts) → Absent AWord ts len e
    → StuckAt put_declaration Whole EndsDeclaration ts len e
no_declaration ts len e never h = absent_at AWord declaration_format ts ts len e
    (λ none. symbol_in ts ts never (not_first symbol_parts_law ts none)) h

pub in_arguments : (n : Name) (ts us : List Tok) (len : ℕ) (e : ReadError) → No (t.Outer o.Type) (next ts)
    → ts ≡ put_name n us → StuckAt (put_option put_positions) Whole EndsArguments us len e
    → StuckAt put_declaration Whole EndsDeclaration ts len e
in_arguments n ts us len e never is h =
    at_same arguments_format declaration_format ts us (λ rest s. symbol_in ts rest never
    (then_second name_law symbol_tail_law (λ s k. tt) n ts us rest is tt (then_first (option_law arguments_optional)
    (option_law result_optional) (λ s k. k) us rest s))) len e h

pub in_result : (n : Name) (ps : Option Positions) (ts us vs : List Tok) (len : ℕ) (e : ReadError)
    → No (t.Outer o.Type) (next ts) → ts ≡ put_name n us → us ≡ put_option put_positions ps vs → EndsArguments (next vs)
    → StuckAt (put_option (put_behind t.Colon put_name)) Whole EndsDeclaration vs len e
    → StuckAt put_declaration Whole EndsDeclaration ts len e
in_result n ps ts us vs len e never is read may h =
    at_same result_format declaration_format ts vs (λ rest s. symbol_in ts rest never
    (then_second name_law symbol_tail_law (λ s k. tt) n ts us rest is tt
    (then_second (option_law arguments_optional) (option_law result_optional) (λ s k. k) ps us vs rest read may s)))
    len e h

-- ---- the vocabulary

pub in_declarations : (xs : List Declaration) (ts us : List Tok) (len : ℕ) (e : ReadError)
    → ts ≡ put_each put_declaration xs us → (xs ≡ []) ⊎ EndsDeclaration (next us) → No t.CloseBrace (next us)
    → StuckAt put_declaration Whole EndsDeclaration us len e → StuckAt (put_each put_declaration) Whole
    (Is t.CloseBrace) ts len e
in_declarations [] ts us len e is may never h = rw is (at_same declaration_format declarations_format us us
    (λ rest s. each_here declarations_several us rest never s) len e h)
in_declarations (x ∷ xs) ts us len e is (inl empty) never h = absurd (cc)
in_declarations (x ∷ xs) ts us len e is (inr may) never h = at_same declaration_format declarations_format ts us
    (λ rest s. each_in declarations_several (x ∷ xs) ts us rest is may never s) len e h

vocabulary_in : (place : ℕ) (us rest : List Tok) → Here named_vocabulary us rest
    → Here vocabulary_format (sign (t.Outer o.Vocabulary) place ∷ us) rest
vocabulary_in place us rest h = same_in vocabulary_same (behind_law (t.Outer o.Vocabulary) named_vocabulary_law)
    (sign (t.Outer o.Vocabulary) place ∷ us) rest (behind_in (t.Outer o.Vocabulary) named_vocabulary_law place
    (sign (t.Outer o.Vocabulary) place ∷ us) us rest refl h)

pub no_vocabulary_name : (place : ℕ) (us : List Tok) (len : ℕ) (e : ReadError) → Absent AWord us len e
    → StuckAt put_vocabulary Whole Anything (sign (t.Outer o.Vocabulary) place ∷ us) len e
no_vocabulary_name place us len e h = absent_at AWord vocabulary_format (sign (t.Outer o.Vocabulary) place ∷ us) us len
    e (λ none. vocabulary_in place us us (not_first named_vocabulary_law us none)) h

pub no_vocabulary_brace : (place : ℕ) (n : Name) (us vs : List Tok) (len : ℕ) (e : ReadError) → us ≡ put_name n vs
    → Absent (Is t.OpenBrace) vs len e → StuckAt put_vocabulary Whole Anything
    (sign (t.Outer o.Vocabulary) place ∷ us) len e
no_vocabulary_brace place n us vs len e is h = absent_at (Is t.OpenBrace) vocabulary_format
    (sign (t.Outer o.Vocabulary) place ∷ us) vs len e (λ none. vocabulary_in place us vs
    (then_second name_law braced_declarations_law (λ s k. tt) n us vs vs is tt
    (not_first braced_declarations_law vs none))) h

pub in_vocabulary : (place : ℕ) (n : Name) (b : ℕ) (us vs ws : List Tok) (len : ℕ) (e : ReadError) → us ≡ put_name n vs
    → vs ≡ sign t.OpenBrace b ∷ ws → StuckAt (put_each put_declaration) Whole (Is t.CloseBrace) ws len e
    → StuckAt put_vocabulary Whole Anything (sign (t.Outer o.Vocabulary) place ∷ us) len e
in_vocabulary place n b us vs ws len e is opens h =
    at_same declarations_format vocabulary_format (sign (t.Outer o.Vocabulary) place ∷ us) ws
    (λ rest s. vocabulary_in place us rest (then_second name_law braced_declarations_law (λ s k. tt) n us vs rest is
    tt (behind_in t.OpenBrace closed_declarations_law b vs ws rest opens (then_first (each_law declarations_several)
    (sign_law t.CloseBrace) (λ s k. k) ws rest s)))) len e h

-- the closing brace was seen
pub closes_there : {A : Type 0} (put : A → List Tok → List Tok) (ts us : List Tok) (len : ℕ) (e : ReadError)
    → Is t.CloseBrace (next us) → Absent (Is t.CloseBrace) us len e → StuckAt put Whole Anything ts len e
closes_there put ts us len Memory closes h = tt
closes_there put ts us len (Stuck place) closes h = absurd (h.0 closes)
