-- A line means at most one thing.
use Rattle.std.proofs.Common.{◌≡◌, ◌≢◌, ℕ, ◌<◌, List, [], ◌∷◌, map, Bool, true, false, Ok, Err, Option, Some, None}
use Rattle.std.proofs.Common.{pos, refl, sym, ap, ◌∙◌, subst, codes, arith}
use Rattle.std.specs.Str.{bytes_eq}
use Rattle.std.specs.List.{Contains}
use Rattle.std.proofs.lemmas.List.Quantifiers.{position-Some}
use Rattle.std.proofs.lemmas.Option.{slice_get_within, get_or_from_slice_get}
use Rattle.std.proofs.lemmas.Slice.Eq.{bytes_eq-Decides}
use Rattle.kb_logic.specs.declared.vocabularies.Symbol.{Symbol}
use Rattle.kb_logic.specs.declared.structures.Literal.{Literal}
use Rattle.kb_logic.specs.Bases.{Base, NamedTerm}
use Rattle.kb_logic.specs.Trees.{integer}
use Rattle.consult_text.specs.declared.commands.Command.{Command}
use Rattle.consult_text.specs.declared.commands.Command.TheVariants as command
use Rattle.consult_text.specs.declared.refusals.F.{F}
use Rattle.consult_text.specs.declared.refusals.F.TheVariants as refusal
use Rattle.consult_text.specs.Written as written
use Rattle.consult_text.specs.Written.{Tok, word, digits, sign, WrittenElem, WrittenLiteral, atom, equation}
use Rattle.consult_text.specs.Written.{WrittenCommand, put_elem, put_args, put_literal, put_command, equals}
use Rattle.consult_text.specs.Written.{IsWellFormed}
use Rattle.consult_text.specs.Literals.{IsLiteralOver, IsFirstNamed, HasFormOf, name_of, literal_of}
use Rattle.consult_text.specs.Lines.{tok_of, IsWritten, IsBlank, IsNoCommand, StandsFor, IsRefusedFor, Asks, RefusesFor}
use Rattle.consult_text.specs.Lines.{HasCommand, HasRefusal, IsCommandOver}
use Rattle.consult_text.specs.Parse.{dot, IsClosed}
use Rattle.consult_text.specs.Laws.{HasOneMeaning, CommandsAreOverTheBase}
use Rattle.consult_text.proofs.Spelling.{elem_same, args_same, sign_above, dot_closed, equals_closed}
use Rattle.consult_text.proofs.Parses.{HasOneOutcome, same_lexemes}

behind_same : {x y : Tok} {a b : List Tok} → x ∷ a ≡ y ∷ b → a ≡ b
behind_same q = cc

words_apart : (x y : List ℕ) {a b : List Tok} → bytes_eq x y ≡ false → word x ∷ a ≡ word y ∷ b → ⊥
words_apart x y other q =
    let same : x ≡ y = cc in
    let equal = (bytes_eq-Decides x y).1 same in
    let f : true ≡ false = sym equal ∙ other in
    absurd (cc)

no_equals_dot : (p : Bool) {b : List Tok} → dot ≡ sign (equals p) ∷ b → ⊥
no_equals_dot true q = sign_above 61 46 (omega arith) (sym q)
no_equals_dot false q = sign_above 126 46 (omega arith) (sym q)

no_sign_word : {x y : List ℕ} {a b : List Tok} → sign x ∷ a ≡ word y ∷ b → ⊥
no_sign_word q = absurd (cc)

no_digits_word : {x y : List ℕ} {a b : List Tok} → digits x ∷ a ≡ word y ∷ b → ⊥
no_digits_word q = absurd (cc)

same_equals : (p p' : Bool) {a b : List Tok} → sign (equals p) ∷ a ≡ sign (equals p') ∷ b → p ≡ p'
same_equals true true q = refl
same_equals true false q = absurd (sign_above 126 61 (omega arith) (sym q))
same_equals false true q = absurd (sign_above 126 61 (omega arith) q)
same_equals false false q = refl

same_atoms : (name name' : List ℕ) (args args' : List WrittenElem) (r r' : List Tok) → IsClosed r → IsClosed r'
    → word name ∷ put_args args r ≡ word name' ∷ put_args args' r' → (name ≡ name') × (args ≡ args') × (r ≡ r')
same_atoms name name' args args' r r' closed closed' q =
    let tails : put_args args r ≡ put_args args' r' = cc in
    let same = args_same args args' r r' closed closed' tails in
    (cc, same.0, same.1)

literal_same : (l l' : WrittenLiteral) → put_literal l dot ≡ put_literal l' dot → l ≡ l'
literal_same (atom true name args) (atom true name' args') q =
    let same = same_atoms name name' args args' dot dot (dot_closed []) (dot_closed []) q in
    let e = same.0 in let f = same.1 in cc
literal_same (atom true name args) (atom false name' args') q = absurd (no_sign_word (sym q))
literal_same (atom true name args) (equation p' name' args' v') q =
    absurd (no_equals_dot p' (same_atoms name name' args args' dot (sign (equals p') ∷ put_elem v' dot) (dot_closed [])
    (equals_closed p' (put_elem v' dot)) q).2)
literal_same (atom false name args) (atom true name' args') q = absurd (no_sign_word q)
literal_same (atom false name args) (atom false name' args') q =
    let tails : word name ∷ put_args args dot ≡ word name' ∷ put_args args' dot = cc in
    let same = same_atoms name name' args args' dot dot (dot_closed []) (dot_closed []) tails in
    let e = same.0 in let f = same.1 in cc
literal_same (atom false name args) (equation p' name' args' v') q = absurd (no_sign_word q)
literal_same (equation p name args v) (atom true name' args') q =
    absurd (no_equals_dot p (same_atoms name' name args' args dot (sign (equals p) ∷ put_elem v dot) (dot_closed [])
    (equals_closed p (put_elem v dot)) (sym q)).2)
literal_same (equation p name args v) (atom false name' args') q = absurd (no_sign_word (sym q))
literal_same (equation p name args v) (equation p' name' args' v') q =
    let same = same_atoms name name' args args' (sign (equals p) ∷ put_elem v dot) (sign (equals p') ∷ put_elem v' dot)
    (equals_closed p (put_elem v dot)) (equals_closed p' (put_elem v' dot)) q in
    let e = same.0 in
    let f = same.1 in
    let g = same_equals p p' same.2 in
    let tails : put_elem v dot ≡ put_elem v' dot = behind_same same.2 in
    let h = (elem_same v v' dot dot tails).0 in
    cc

-- the first word of a command
abbrev word_of : WrittenCommand → List ℕ
word_of (written.assert l) = codes "assert"
word_of (written.retract l) = codes "retract"
word_of written.reset = codes "reset"
word_of written.choices = codes "choices"
word_of written.model = codes "model"
word_of (written.models t) = codes "models"
word_of written.propagate = codes "propagate"
word_of (written.minimize n) = codes "minimize"
word_of (written.explain l) = codes "explain"
word_of written.why = codes "why"
word_of (written.budget t) = codes "budget"
word_of written.unlimited = codes "budget"
word_of written.forget = codes "forget"

-- no tokens spell two commands; the last row stands for all pairs of different words
command_same : (w w' : WrittenCommand) → put_command w ≡ put_command w' → w ≡ w'
command_same (written.assert l) (written.assert l') q =
    ap (λ (x : WrittenLiteral). written.assert x) (literal_same l l' (behind_same q))
command_same (written.retract l) (written.retract l') q =
    ap (λ (x : WrittenLiteral). written.retract x) (literal_same l l' (behind_same q))
command_same written.reset written.reset q = refl
command_same written.choices written.choices q = refl
command_same written.model written.model q = refl
command_same (written.models t) (written.models t') q = cc
command_same written.propagate written.propagate q = refl
command_same (written.minimize n) (written.minimize n') q = cc
command_same (written.explain l) (written.explain l') q =
    ap (λ (x : WrittenLiteral). written.explain x) (literal_same l l' (behind_same q))
command_same written.why written.why q = refl
command_same (written.budget t) (written.budget t') q = cc
command_same (written.budget t) written.unlimited q = absurd (no_digits_word (behind_same q))
command_same written.unlimited (written.budget t') q = absurd (no_digits_word (sym (behind_same q)))
command_same written.unlimited written.unlimited q = refl
command_same written.forget written.forget q = refl
command_same w w' q = absurd (words_apart (word_of w) (word_of w') refl q)

-- a line has at most one written command
written_same : {line : List ℕ} (w w' : WrittenCommand) → HasOneOutcome line → IsWritten line w
    → IsWritten line w' → w ≡ w'
written_same w w' one h h' =
    command_same w w' (sym h.spelled ∙ (ap (map tok_of) (same_lexemes h.lexemes h'.lexemes one h.tokens h'.tokens)
    ∙ h'.spelled))

-- and none where it is blank
some_token : (w : WrittenCommand) → [] ≡ put_command w → ⊥
some_token (written.assert l) q = absurd (cc)
some_token w q = absurd (cc)

blank_written : {line : List ℕ} (w : WrittenCommand) → HasOneOutcome line → IsBlank line → IsWritten line w → ⊥
blank_written w one blank h = some_token w (ap (map tok_of) (same_lexemes [] h.lexemes one blank h.tokens) ∙ h.spelled)

-- a name has one first symbol
first_same : (xs : List Symbol) (name : List ℕ) (n m : ℕ) (s t : Symbol) → IsFirstNamed xs name n s
    → IsFirstNamed xs name m t → (n ≡ m) × (s ≡ t)
first_same xs name n m s t h h' =
    let same : n ≡ m = numbers in
    (same, let e = h.at in let e' = h'.at in cc)
  where
    not_below : n < m → ⊥
    not_below lt = h'.first n s lt h.at h.named

    not_above : m < n → ⊥
    not_above lt = h.first m t lt h'.at h'.named

    numbers : n ≡ m
    numbers = omega (arith, not_below, not_above)

literal_of_line : (kb : Base) (w : WrittenLiteral) (l l' : Literal) → StandsFor kb w l → StandsFor kb w l' → l ≡ l'
literal_of_line kb w l l' h h' =
    let same = (first_same kb.vocabulary.symbols (name_of w) h.0 h'.0 h.1 h'.1 h.2 h'.2).0 in
    h.4 ∙ (ap (λ (n : ℕ). literal_of n w) same ∙ sym h'.4)

-- the cause of a refusal
data Cause (kb : Base) (w : WrittenLiteral) : F → Type 0 where
  unknown : ((s : Symbol) → Contains kb.vocabulary.symbols s → s.name ≢ name_of w) → Cause kb w refusal.UnknownSymbol
  form : (n : ℕ) (s : Symbol) → IsFirstNamed kb.vocabulary.symbols (name_of w) n s → (HasFormOf s w → ⊥)
      → Cause kb w refusal.WrongArity
  element : (n : ℕ) (s : Symbol) → IsFirstNamed kb.vocabulary.symbols (name_of w) n s → HasFormOf s w
      → (IsLiteralOver kb (literal_of n w) → ⊥) → Cause kb w refusal.NotAnElement

cause_of : (kb : Base) (w : WrittenLiteral) (f : F) → IsRefusedFor kb w f → Cause kb w f
cause_of kb w refusal.UnknownSymbol h = unknown h
cause_of kb w refusal.WrongArity h = form h.0 h.1 h.2 h.3
cause_of kb w refusal.NotAnElement h = element h.0 h.1 h.2 h.3 h.4
cause_of kb w f h = absurd h

is_declared : (kb : Base) (name : List ℕ) (n : ℕ) (s : Symbol) → IsFirstNamed kb.vocabulary.symbols name n s
    → ((t : Symbol) → Contains kb.vocabulary.symbols t → t.name ≢ name) → ⊥
is_declared kb name n s h none =
    none s (
      n,
      slice_get_within kb.vocabulary.symbols n s h.at,
      get_or_from_slice_get kb.vocabulary.symbols n s s
          h.at,
    ) h.named

no_form : (kb : Base) (w : WrittenLiteral) (n m : ℕ) (s t : Symbol) → IsFirstNamed kb.vocabulary.symbols (name_of w) n s
    → IsFirstNamed kb.vocabulary.symbols (name_of w) m t → (HasFormOf s w → ⊥) → HasFormOf t w → ⊥
no_form kb w n m s t h h' other is =
    other (subst (λ (x : Symbol). HasFormOf x w) (sym (first_same kb.vocabulary.symbols (name_of w) n m s t h h').1) is)

cause_same : (kb : Base) (w : WrittenLiteral) (f g : F) → Cause kb w f → Cause kb w g → f ≡ g
cause_same kb w f g (unknown none) (unknown none') = refl
cause_same kb w f g (unknown none) (form n s h other) = absurd (is_declared kb (name_of w) n s h none)
cause_same kb w f g (unknown none) (element n s h is other) = absurd (is_declared kb (name_of w) n s h none)
cause_same kb w f g (form n s h other) (unknown none) = absurd (is_declared kb (name_of w) n s h none)
cause_same kb w f g (form n s h other) (form m t h' other') = refl
cause_same kb w f g (form n s h other) (element m t h' is other') = absurd (no_form kb w n m s t h h' other is)
cause_same kb w f g (element n s h is other) (unknown none) = absurd (is_declared kb (name_of w) n s h none)
cause_same kb w f g (element n s h is other) (form m t h' other') = absurd (no_form kb w m n t s h' h other' is)
cause_same kb w f g (element n s h is other) (element m t h' is' other') = refl

no_cause : (kb : Base) (w : WrittenLiteral) (l : Literal) (f : F) → StandsFor kb w l → Cause kb w f → ⊥
no_cause kb w l f h (unknown none) = is_declared kb (name_of w) h.0 h.1 h.2 none
no_cause kb w l f h (form n s h' other) = no_form kb w n h.0 s h.1 h' h.2 other h.3
no_cause kb w l f h (element n s h' is other) =
    let same = (first_same kb.vocabulary.symbols (name_of w) h.0 n h.1 s h.2 h').0 in
    other (subst (IsLiteralOver kb) (h.4 ∙ ap (λ (x : ℕ). literal_of x w) same) h.5)

asks_same : (kb : Base) (w : WrittenCommand) (c d : Command) → Asks kb w c → Asks kb w d → c ≡ d
asks_same kb (written.assert w) (command.Assert l) (command.Assert l') h h' =
    ap (λ (x : Literal). command.Assert x) (literal_of_line kb w l l' h h')
asks_same kb (written.retract w) (command.Retract l) (command.Retract l') h h' =
    ap (λ (x : Literal). command.Retract x) (literal_of_line kb w l l' h h')
asks_same kb written.reset command.Reset command.Reset h h' = refl
asks_same kb written.choices command.Choices command.Choices h h' = refl
asks_same kb written.model command.Model command.Model h h' = refl
asks_same kb (written.models t) (command.Models n) (command.Models n') h h' =
    ap (λ (x : ℕ). command.Models x) (h ∙ sym h')
asks_same kb written.propagate command.Propagate command.Propagate h h' = refl
asks_same kb (written.minimize n) (command.Minimize t) (command.Minimize t') h h' =
    let one : Some t ≡ Some t' = sym h ∙ h' in
    ap (λ (x : ℕ). command.Minimize x) (cc)
asks_same kb (written.explain w) (command.Explain l) (command.Explain l') h h' =
    ap (λ (x : Literal). command.Explain x) (literal_of_line kb w l l' h h')
asks_same kb written.why command.Why command.Why h h' = refl
asks_same kb (written.budget t) (command.Budget b) (command.Budget b') h h' =
    ap (λ (x : Option ℕ). command.Budget x) (h ∙ sym h')
asks_same kb written.unlimited (command.Budget b) (command.Budget b') h h' =
    ap (λ (x : Option ℕ). command.Budget x) (h ∙ sym h')
asks_same kb written.forget command.Forget command.Forget h h' = refl
asks_same kb (written.assert w) (command.Assert l) d h h' = absurd h'
asks_same kb (written.retract w) (command.Retract l) d h h' = absurd h'
asks_same kb written.reset command.Reset d h h' = absurd h'
asks_same kb written.choices command.Choices d h h' = absurd h'
asks_same kb written.model command.Model d h h' = absurd h'
asks_same kb (written.models t) (command.Models n) d h h' = absurd h'
asks_same kb written.propagate command.Propagate d h h' = absurd h'
asks_same kb (written.minimize n) (command.Minimize t) d h h' = absurd h'
asks_same kb (written.explain w) (command.Explain l) d h h' = absurd h'
asks_same kb written.why command.Why d h h' = absurd h'
asks_same kb (written.budget t) (command.Budget b) d h h' = absurd h'
asks_same kb written.unlimited (command.Budget b) d h h' = absurd h'
asks_same kb written.forget command.Forget d h h' = absurd h'
asks_same kb w c d h h' = absurd h

no_refusal : (kb : Base) (w : WrittenCommand) (c : Command) (f : F) → Asks kb w c → RefusesFor kb w f → ⊥
no_refusal kb (written.assert w) (command.Assert l) f h r = no_cause kb w l f h (cause_of kb w f r)
no_refusal kb (written.retract w) (command.Retract l) f h r = no_cause kb w l f h (cause_of kb w f r)
no_refusal kb (written.explain w) (command.Explain l) f h r = no_cause kb w l f h (cause_of kb w f r)
no_refusal kb (written.assert w) c f h r = h
no_refusal kb (written.retract w) c f h r = h
no_refusal kb (written.explain w) c f h r = h
no_refusal kb (written.minimize n) (command.Minimize t) refusal.UnknownTerm h r =
    let e : Some t ≡ None = sym h ∙ r in
    absurd (cc)
no_refusal kb (written.minimize n) (command.Minimize t) f h r = r
no_refusal kb (written.minimize n) c f h r = h
no_refusal kb w c f h r = r

refuses_same : (kb : Base) (w : WrittenCommand) (f g : F) → RefusesFor kb w f → RefusesFor kb w g → f ≡ g
refuses_same kb (written.assert w) f g h h' = cause_same kb w f g (cause_of kb w f h) (cause_of kb w g h')
refuses_same kb (written.retract w) f g h h' = cause_same kb w f g (cause_of kb w f h) (cause_of kb w g h')
refuses_same kb (written.explain w) f g h h' = cause_same kb w f g (cause_of kb w f h) (cause_of kb w g h')
refuses_same kb (written.minimize n) refusal.UnknownTerm refusal.UnknownTerm h h' = refl
refuses_same kb (written.minimize n) refusal.UnknownTerm g h h' = absurd h'
refuses_same kb w f g h h' = absurd h

-- a refused line is no command, or has one whose literal is refused
data Refusal (kb : Base) (line : List ℕ) : F → Type 0 where
  none : IsNoCommand line → Refusal kb line refusal.Syntax
  some : {f : F} (w : WrittenCommand) → IsWritten line w → RefusesFor kb w f → Refusal kb line f

refusal_of : (kb : Base) (line : List ℕ) (f : F) → HasRefusal kb line f → Refusal kb line f
refusal_of kb line refusal.Syntax h = none h
refusal_of kb line f h = some h.0 h.1 h.2

refusal_same : (kb : Base) (line : List ℕ) (f g : F) → HasOneOutcome line → Refusal kb line f
    → Refusal kb line g → f ≡ g
refusal_same kb line f g one (none h) (none h') = refl
refusal_same kb line f g one (none h) (some w is r) = absurd (h.1 w is)
refusal_same kb line f g one (some w is r) (none h) = absurd (h.1 w is)
refusal_same kb line f g one (some w is r) (some w' is' r') =
    refuses_same kb w f g r (subst (λ (x : WrittenCommand). RefusesFor kb x g) (written_same w' w one is' is) r')

not_refused : (kb : Base) (line : List ℕ) (c : Command) (f : F) → HasOneOutcome line → HasCommand kb line c
    → Refusal kb line f → ⊥
not_refused kb line c f one h (none no_command) = no_command.1 h.0 h.1
not_refused kb line c f one h (some w is r) =
    no_refusal kb h.0 c f h.2 (subst (λ (x : WrittenCommand). RefusesFor kb x f) (written_same w h.0 one is h.1) r)

not_blank : (kb : Base) (line : List ℕ) (f : F) → HasOneOutcome line → IsBlank line → Refusal kb line f → ⊥
not_blank kb line f one blank (none h) = h.0 blank
not_blank kb line f one blank (some w is r) = blank_written w one blank is

pub one_meaning : (kb : Base) (line : List ℕ) → HasOneOutcome line → HasOneMeaning kb line
one_meaning kb line one (Ok None) (Ok None) h h' = refl
one_meaning kb line one (Ok None) (Ok (Some d)) h h' = absurd (blank_written h'.0 one h h'.1)
one_meaning kb line one (Ok None) (Err g) h h' = absurd (not_blank kb line g one h (refusal_of kb line g h'))
one_meaning kb line one (Ok (Some c)) (Ok None) h h' = absurd (blank_written h.0 one h' h.1)
one_meaning kb line one (Ok (Some c)) (Ok (Some d)) h h' =
    ap (λ (x : Command). Ok (Some x))
    (asks_same kb h.0 c d h.2
    (subst (λ (x : WrittenCommand). Asks kb x d) (written_same h'.0 h.0 one h'.1 h.1) h'.2))
one_meaning kb line one (Ok (Some c)) (Err g) h h' = absurd (not_refused kb line c g one h (refusal_of kb line g h'))
one_meaning kb line one (Err f) (Ok None) h h' = absurd (not_blank kb line f one h' (refusal_of kb line f h))
one_meaning kb line one (Err f) (Ok (Some d)) h h' = absurd (not_refused kb line d f one h' (refusal_of kb line f h))
one_meaning kb line one (Err f) (Err g) h h' =
    ap (λ (x : F). Err x) (refusal_same kb line f g one (refusal_of kb line f h) (refusal_of kb line g h'))

-- what is read past the end of a list of term blocks
no_term : NamedTerm
no_term = record { name = []; term = integer (pos 0) }

over_by : (kb : Base) (w : WrittenCommand) (c : Command) → IsWellFormed w → Asks kb w c → IsCommandOver kb c
over_by kb (written.assert w) (command.Assert l) k h = h.5
over_by kb (written.retract w) (command.Retract l) k h = h.5
over_by kb (written.explain w) (command.Explain l) k h = h.5
over_by kb (written.minimize n) (command.Minimize t) k h =
    (position-Some (λ (b : NamedTerm). bytes_eq n b.name) kb.terms t no_term h).0
over_by kb (written.models t) (command.Models n) k h = (omega (arith, k.least, h), omega (arith, k.most, h))
over_by kb w command.Reset k h = tt
over_by kb w command.Choices k h = tt
over_by kb w command.Model k h = tt
over_by kb w command.Propagate k h = tt
over_by kb w command.Why k h = tt
over_by kb w (command.Budget b) k h = tt
over_by kb w command.Forget k h = tt
over_by kb w c k h = absurd h

pub commands_over : CommandsAreOverTheBase
commands_over kb line c h = over_by kb h.0 c h.1.formed h.2
