-- Written literals, by whether they have a value.
use Rattle.std.proofs.Common.{◌≡◌, ◌≢◌, ℕ, zero, suc, ◌<◌, List, [], ◌∷◌, length, get_or, Bool, true, false, Option}
use Rattle.std.proofs.Common.{Some, None, MatchBool, refl, sym, ap, ◌∙◌, subst, arith}
use Rattle.std.specs.Prelude.{is_some}
use Rattle.std.specs.List.{Contains, AllByRecursion}
use Rattle.std.proofs.lemmas.List.{length-map}
use Rattle.kb_logic.specs.declared.vocabularies.Symbol.{Symbol}
use Rattle.consult_text.specs.declared.written.ElemText.{ElemText}
use Rattle.consult_text.specs.declared.written.LiteralText.{LiteralText}
use Rattle.consult_text.specs.Literals.{IsFirstNamed, HasFormOf, name_of, literal_of}
use Rattle.consult_text.specs.Parse.{elem_view, elem_views, valued_view, literal_view}
use Rattle.consult_text.specs.Ranges.{IsInRange}

name_valued : (l : LiteralText) (v : Option ElemText) → name_of (valued_view l v) ≡ l.name.now
name_valued l None = refl
name_valued l (Some x) = refl

pub none_named : (slice symbols : List Symbol) (l : LiteralText) → slice ≡ symbols
    → ((s : Symbol) → Contains slice s → s.name ≢ l.name.now) → (s : Symbol) → Contains symbols s
    → s.name ≢ name_of (literal_view l)
none_named slice symbols l e h s at q = h s (subst (λ (xs : List Symbol). Contains xs s) (sym e) at) (q
    ∙ name_valued l l.value)

pub first_named : (slice symbols : List Symbol) (l : LiteralText) (n : ℕ) (s : Symbol) → slice ≡ symbols
    → IsFirstNamed slice l.name.now n s → IsFirstNamed symbols (name_of (literal_view l)) n s
first_named slice symbols l n s e h =
    subst (λ (name : List ℕ). IsFirstNamed symbols name n s) (sym (name_valued l l.value))
    (subst (λ (xs : List Symbol). IsFirstNamed xs l.name.now n s) e h)

same_length : (xs : List ℕ) (ys : List ElemText) → length xs ≡ length ys → length xs ≡ length (elem_views ys)
same_length xs ys e = e ∙ sym (length-map ys elem_view)

length_same : (xs : List ℕ) (ys : List ElemText) → length xs ≡ length (elem_views ys) → length xs ≡ length ys
length_same xs ys h = h ∙ length-map ys elem_view

lengths : (s : Symbol) (l : LiteralText) (v : Option ElemText) → HasFormOf s (valued_view l v)
    → length s.args ≡ length l.args.items
lengths s l None h = length_same s.args l.args.items h.1
lengths s l (Some x) h = length_same s.args l.args.items h.1

pub no_length : (s : Symbol) (l : LiteralText) → length s.args ≢ length l.args.items → HasFormOf s (literal_view l) → ⊥
no_length s l other h = other (lengths s l l.value h)

form_by : (s : Symbol) (l : LiteralText) (ty : Option ℕ) (v : Option ElemText) → s.value ≡ ty
    → length s.args ≡ length l.args.items → is_some ty ≡ is_some v → HasFormOf s (valued_view l v)
form_by s l None None is len e = (is, same_length s.args l.args.items len)
form_by s l None (Some x) is len e = absurd (cc)
form_by s l (Some ty) None is len e = absurd (cc)
form_by s l (Some ty) (Some x) is len e = ((ty, is), same_length s.args l.args.items len)

alike_by : (s : Symbol) (l : LiteralText) (v : Option ElemText) → HasFormOf s (valued_view l v)
    → is_some s.value ≡ is_some v
alike_by s l None h = ap is_some h.0
alike_by s l (Some x) h = ap is_some h.0.1

pub form_if : (s : Symbol) (l : LiteralText) (b : Bool) → length s.args ≡ length l.args.items
    → MatchBool b (is_some s.value ≡ is_some l.value) (is_some s.value ≢ is_some l.value)
    → MatchBool b (HasFormOf s (literal_view l)) (HasFormOf s (literal_view l) → ⊥)
form_if s l true len alike = form_by s l s.value l.value refl len alike
form_if s l false len other = λ h. other (alike_by s l l.value h)

made_length : (n : ℕ) (l : LiteralText) (v : Option ElemText)
    → length (literal_of n (valued_view l v)).args ≡ length l.args.items
made_length n l None = simp length-map
made_length n l (Some x) = simp length-map

pub args_length : (s : Symbol) (n : ℕ) (l : LiteralText) → HasFormOf s (literal_view l)
    → length s.args ≡ length (literal_of n (literal_view l)).args
args_length s n l h = lengths s l l.value h ∙ sym (made_length n l l.value)

pub range_at : (xs : List ElemText) (i : ℕ) (d : ElemText) → i < length xs → AllByRecursion IsInRange (elem_views xs)
    → IsInRange (elem_view (get_or xs i d))
range_at [] i d lt h = absurd (omega arith)
range_at (x ∷ xs) zero d lt h = h.0
range_at (x ∷ xs) (suc i) d lt h = range_at xs i d (omega arith) h.1
