-- What is well typed, worked out.
use Rattle.std.proofs.Common.{◌≡◌, ◌<◌, ℕ, ℤ, pos, [], ◌∷◌, length, false, Some, None, refl, sym, ap, ◌∙◌, subst, arith}
use Rattle.std.proofs.Common.{inl, inr, slice_get}
use Rattle.kb_logic.specs.declared.vocabularies.Parent.{Parent}
use Rattle.kb_logic.specs.declared.vocabularies.Parent.TheVariants.{Root, Nat, Of}
use Rattle.kb_logic.specs.declared.vocabularies.TypeDecl.{TypeDecl}
use Rattle.kb_logic.specs.declared.vocabularies.Symbol.{Symbol}
use Rattle.kb_logic.specs.Trees.{variable, application, summation, TermTrees, more_terms, more_summands, no_summands}
use Rattle.kb_logic.specs.Trees.{atom}
use Rattle.kb_logic.specs.Typing.{IsBelow, itself, under, IsNumberParent, IsNumberType, AreAkin, IsIntegerSuch}
use Rattle.kb_logic.specs.Typing.{TermIsTyped, ArgumentsAreTyped, PlacesAreTyped, FormulaIsTyped}
use Rattle.logic_laws.specs.TypingExamples.{words, TypingExamples, one_term, name, c_}
use Rattle.kb_logic.proofs.Atoms.{some_same}

abbrev small : TypeDecl
small = record { name = []; parent = Of 1; made = [] }

abbrev number : TypeDecl
number = record { name = []; parent = Nat; made = [] }

abbrev names : TypeDecl
names = record { name = []; parent = Root; made = (114 ∷ []) ∷ (103 ∷ []) ∷ [] }

below_number : IsBelow words 2 1
below_number = under 2 1 1 small refl refl (itself 1)

is_number : IsNumberType words 1
is_number = (1, itself 1, (number, refl, tt))

small_is_number : IsNumberType words 2
small_is_number = (1, below_number, (number, refl, tt))

same_type : (a b : TypeDecl) → Some a ≡ Some b → a ≡ b
same_type a b h = cc

no_parent : (p : ℕ) → Root ≡ Of p → ⊥
no_parent p h = absurd cc

-- a type without a parent is below itself alone
alone : (t u : ℕ) (d : TypeDecl) → slice_get words.types t ≡ Some d → ((p : ℕ) → d.parent ≡ Of p → ⊥)
    → IsBelow words t u → t ≡ u
alone t u d at root (itself w) = refl
alone t u d at root (under a p b e declared parent below) =
    let same : d ≡ e = same_type d e (sym at ∙ declared) in
    absurd (root p (ap (λ (x : TypeDecl). x.parent) same ∙ parent))

no_declared_parent : (p : ℕ) → Nat ≡ Of p → ⊥
no_declared_parent p h = absurd cc

number_parent : (a : Parent) → Root ≡ a → IsNumberParent a → ⊥
number_parent a e h = subst IsNumberParent (sym e) h

names_are_no_numbers : IsNumberType words 0 → ⊥
names_are_no_numbers h =
    let here : 0 ≡ h.0 = alone 0 h.0 names refl no_parent h.1 in
    let same : names ≡ h.2.0 = same_type names h.2.0 (ap (slice_get words.types) here ∙ h.2.1) in
    number_parent h.2.0.parent (ap (λ (x : TypeDecl). x.parent) same) h.2.2

names_are_not_below : IsBelow words 0 1 → ⊥
names_are_not_below h = let same : 0 ≡ 1 = alone 0 1 names refl no_parent h in absurd (omega (arith, same))

names_are_not_akin : AreAkin words 0 1 → ⊥
names_are_not_akin (inl both) = names_are_no_numbers both.0
names_are_not_akin (inr (top, from_name, from_number)) =
    let here : 0 ≡ top = alone 0 top names refl no_parent from_name in
    let there : 1 ≡ top = alone 1 top number refl no_declared_parent from_number in
    absurd (omega (arith, here, there))

abbrev Asked : ℕ → ℤ → Type 0
Asked ty z = IsNumberType words ty

abbrev p_symbol : Symbol
p_symbol = record { name = []; args = 1 ∷ []; value = None }

abbrev f_symbol : Symbol
f_symbol = record { name = []; args = 1 ∷ []; value = Some 0 }

abbrev c_symbol : Symbol
c_symbol = record { name = []; args = []; value = Some 2 }

c_typed : TermIsTyped words Asked c_ []
c_typed = (c_symbol, refl, refl, tt)

name_typed : TermIsTyped words Asked name []
name_typed = (names, refl, omega arith)

-- the arguments of an atom of P, and of f
places : (ts : TermTrees) → FormulaIsTyped words Asked (atom 0 ts) [] → PlacesAreTyped words Asked ts (1 ∷ []) []
places ts h = subst (λ (t : Symbol). PlacesAreTyped words Asked ts t.args []) (sym (some_same p_symbol h.0 h.1)) h.3

arguments : (ts : TermTrees) → TermIsTyped words Asked (application 1 ts) []
    → ArgumentsAreTyped words Asked ts (1 ∷ []) []
arguments ts h = subst (λ (t : Symbol). ArgumentsAreTyped words Asked ts t.args [])
    (sym (some_same f_symbol h.0 h.1)) h.3

name_no_literal : IsIntegerSuch (Asked 1) name → ⊥
name_no_literal (z, inl plain) = let e = plain.0 in absurd cc
name_no_literal (z, inr minus) = let e = minus.0 in absurd cc

sum_no_literal : IsIntegerSuch (Asked 1) (summation (more_summands false c_ (more_summands false c_ no_summands))) → ⊥
sum_no_literal (z, inl plain) = let e = plain.0 in absurd cc
sum_no_literal (z, inr minus) = let e = minus.0 in absurd cc

no_name : (d : TypeDecl) → names ≡ d → 2 < length d.made → ⊥
no_name d same h = let two : 2 < 2 = subst (λ (x : TypeDecl). 2 < length x.made) (sym same) h in
    absurd (omega (arith, two))

some_none : (n : ℕ) → Some n ≡ None → ⊥
some_none n h = absurd cc

function_value : (d : Symbol) → f_symbol ≡ d → d.value ≡ None → ⊥
function_value d same h = some_none 0 (ap (λ (t : Symbol). t.value) same ∙ h)

pub typing_examples : TypingExamples
typing_examples = record {
  subtype = ((f_symbol, refl, refl, (c_typed, inl below_number, tt)), name_typed, inr (0, itself 0, itself 0));
  literal = (
    (f_symbol, refl, refl, ((tt, tt, tt), inr (pos 3, inr (refl, is_number)), tt)),
    name_typed,
    inr (0, itself 0, itself 0),
  );
  akin = ((omega arith, tt), (p_symbol, refl, refl, ((2, refl), inl (small_is_number, is_number), tt)));
  ordered = (c_typed, tt, (small_is_number, tt));
  name_for_number = λ h. elim ((arguments (one_term name) h.0).1)
      [ inl below ↦ names_are_not_below below | inr literal ↦ name_no_literal literal ];
  sum_for_argument = λ h. elim ((arguments (one_term (summation
      (more_summands false c_ (more_summands false c_ no_summands)))) h.0).1)
      [ inl below ↦ below | inr literal ↦ sum_no_literal literal ];
  not_akin = λ h. names_are_not_akin ((places (one_term name) h).1);
  names_in_order = λ h. names_are_no_numbers h.2.0;
  no_such_name = λ h. no_name h.1.0 (same_type names h.1.0 h.1.1) h.1.2;
  out_of_scope = λ h. let none = (places (one_term (variable 0)) h).0.1 in absurd cc;
  too_many_arguments = λ h. (places (more_terms c_ (one_term c_)) h).2;
  function_as_atom = λ h. function_value h.0 (some_same f_symbol h.0 h.1) h.2;
}
