-- The texts of lists of literals.
use Rattle.std.proofs.Common.{◌≡◌, ◌≢◌, ℕ, zero, suc, ◌<◌, List, [], ◌∷◌, ◌++◌, map, flat_map, length, get_or, Bool}
use Rattle.std.proofs.Common.{true, false, Option, Some, None, refl, sym, ap, ◌∙◌, subst, codes, append_assoc, arith}
use Rattle.std.specs.List.{AllByRecursion, slice_get, Contains}
use Rattle.std.proofs.lemmas.List.{append_cancel_left}
use Rattle.kb_logic.specs.declared.elements.Elem.{Elem}
use Rattle.kb_logic.specs.declared.vocabularies.Symbol.{Symbol}
use Rattle.kb_logic.specs.declared.structures.Literal.{Literal}
use Rattle.kb_logic.specs.Bases.{Base}
use Rattle.kb_logic.specs.Models.{HasValueIn}
use Rattle.kb_logic.specs.Structures.{IsRowOver}
use Rattle.kb_logic.specs.Structures.{domain_at, IsDistinct}
use Rattle.kb_text.specs.declared.bytes.Class.TheVariants.{Mark}
use Rattle.kb_text.specs.Bytes.{class_of}
use Rattle.kb_text.specs.Pieces.{IsPiece, WordText}
use Rattle.consult_text.specs.Literals.{IsLiteralOver}
use Rattle.literal_printer.specs.Texts.{elem_text, row_text, args_text, negation_text, equality_text, valued_text}
use Rattle.consult_text.specs.Texts.{labelled_line, labelled_lines}
use Rattle.consult_text.specs.OneText.{CanBeWritten, HasWordNames}
use Rattle.consult_text.proofs.InnerBytes.{Stopped, word_inner, elem_inner, elem_text_same, split_same}
use Rattle.consult_text.proofs.RowTexts.{byte_above, byte_same, rest_same, stop_at, row_same}

all_at : {X : Type 0} (P : X → Type 0) (xs : List X) (n : ℕ) (x : X) → AllByRecursion P xs
    → slice_get xs n ≡ Some x → P x
all_at P [] n x all at = absurd (cc)
all_at P (y ∷ xs) zero x all at = let e : y ≡ x = cc in subst P e all.0
all_at P (y ∷ xs) (suc n) x all at = all_at P xs n x all.1 at

contained : {X : Type 0} (P : X → Type 0) (xs : List X) (k : ℕ) (x : X) → AllByRecursion P xs → k < length xs
    → get_or xs k x ≡ x → P x
contained P [] k x all lt at = absurd (omega arith)
contained P (y ∷ xs) zero x all lt at = subst P at all.0
contained P (y ∷ xs) (suc k) x all lt at = contained P xs k x all.1 (omega arith) at

pub domain_written : (domains : List (List Elem)) (ty : ℕ) → AllByRecursion (AllByRecursion CanBeWritten) domains
    → AllByRecursion CanBeWritten (domain_at domains ty)
domain_written [] ty all = tt
domain_written (d ∷ domains) zero all = all.0
domain_written (d ∷ domains) (suc ty) all = domain_written domains ty all.1

pub row_written : (domains : List (List Elem)) (types : List ℕ) (row : List Elem)
    → AllByRecursion (AllByRecursion CanBeWritten) domains → IsRowOver domains types row
    → AllByRecursion CanBeWritten row
row_written domains [] [] all h = tt
row_written domains [] (x ∷ row) all h = absurd h
row_written domains (ty ∷ types) [] all h = absurd h
row_written domains (ty ∷ types) (x ∷ row) all h = (
  contained CanBeWritten (domain_at domains ty) h.0.0 x (domain_written domains ty all) h.0.1 h.0.2,
  row_written domains types row all h.1,
)

named_later : (symbols : List Symbol) (m : ℕ) (t x : Symbol) → slice_get symbols m ≡ Some t → t.name ≡ x.name
    → Contains (map (λ (z : Symbol). z.name) symbols) x.name
named_later [] m t x at e = absurd (cc)
named_later (y ∷ symbols) zero t x at e = let f : y ≡ t = cc in (0, omega arith, ap (λ (z : Symbol). z.name) f ∙ e)
named_later (y ∷ symbols) (suc m) t x at e = let k = named_later symbols m t x at e in
    (suc k.0, omega (arith, k.1), k.2)

-- symbols of one name are one
same_number : (symbols : List Symbol) (n m : ℕ) (s t : Symbol) → IsDistinct (map (λ x. x.name) symbols)
    → slice_get symbols n ≡ Some s → slice_get symbols m ≡ Some t → s.name ≡ t.name → n ≡ m
same_number [] n m s t apart at at' e = absurd (cc)
same_number (x ∷ symbols) zero zero s t apart at at' e = refl
same_number (x ∷ symbols) zero (suc m) s t apart at at' e =
    absurd (apart.0 (named_later symbols m t x at' (let f : x ≡ s = cc in sym e ∙ ap (λ (z : Symbol). z.name) (sym f))))
same_number (x ∷ symbols) (suc n) zero s t apart at at' e =
    absurd (apart.0 (named_later symbols n s x at (let f : x ≡ t = cc in e ∙ ap (λ (z : Symbol). z.name) (sym f))))
same_number (x ∷ symbols) (suc n) (suc m) s t apart at at' e = ap suc (same_number symbols n m s t apart.1 at at' e)

-- a value that can be written, or none
abbrev IsWritten : Option Elem → Type 0
IsWritten None = Unit {0}
IsWritten (Some x) = CanBeWritten x

value_written : (domains : List (List Elem)) (ty : Option ℕ) (value : Option Elem)
    → AllByRecursion (AllByRecursion CanBeWritten) domains → HasValueIn domains ty value → IsWritten value
value_written domains None None all h = tt
value_written domains None (Some x) all h = absurd h
value_written domains (Some ty) None all h = absurd h
value_written domains (Some ty) (Some x) all h =
    contained CanBeWritten (domain_at domains ty) h.0 x (domain_written domains ty all) h.1 h.2

-- a predicate has no value, and a function has one
mixed : (domains : List (List Elem)) (ty : Option ℕ) (x : Elem) → HasValueIn domains ty None
    → HasValueIn domains ty (Some x) → ⊥
mixed domains None x h k = k
mixed domains (Some ty) x h k = h

-- a literal over the knowledge base, with its symbol
record Found (kb : Base) (l : Literal) : Type 0 where
  pub symbol : Symbol
  pub at : slice_get kb.vocabulary.symbols l.symbol ≡ Some symbol
  pub word : IsPiece WordText symbol.name
  pub args : AllByRecursion CanBeWritten l.args
  pub value : HasValueIn kb.known.domains symbol.value l.value
  pub written : IsWritten l.value

found_of : (kb : Base) (l : Literal) → HasWordNames kb → IsLiteralOver kb l → Found kb l
found_of kb l names h = record {
  symbol = h.symbol;
  at = h.declared;
  word = all_at (λ s. IsPiece WordText s.name) kb.vocabulary.symbols l.symbol h.symbol names.words h.declared;
  args = row_written kb.known.domains h.symbol.args l.args names.elements h.args;
  value = h.value;
  written = value_written kb.known.domains h.symbol.value l.value names.elements h.value;
}

abbrev pub line_end : List ℕ → List ℕ
line_end r = 10 ∷ r

pub line_stops : (r : List ℕ) → Stopped (line_end r)
line_stops r = stop_at 10 r (λ b i. i.line)

-- what may stand after the arguments of an atom: its first byte is in no name, and opens no bracket
abbrev Ends : List ℕ → Type 0
Ends r = Stopped r × ((t : List ℕ) → r ≢ 40 ∷ t)

ends_line : (r : List ℕ) → Ends (line_end r)
ends_line r = (line_stops r, λ t e. byte_above 40 10 (omega arith) (sym e))

ends_blank : (r : List ℕ) → Ends (32 ∷ r)
ends_blank r = (stop_at 32 r (λ b i. i.blank), λ t e. byte_above 40 32 (omega arith) (sym e))

args_stopped : (xs : List Elem) (r : List ℕ) → Ends r → Stopped (args_text xs ++ r)
args_stopped [] r end = end.0
args_stopped (x ∷ xs) r end = stop_at 40 ((row_text (x ∷ xs) ++ codes ")") ++ r) (λ b i. i.opening)

args_texts_same : (xs ys : List Elem) (r s : List ℕ) → AllByRecursion CanBeWritten xs → AllByRecursion CanBeWritten ys
    → Ends r → Ends s → args_text xs ++ r ≡ args_text ys ++ s → (xs ≡ ys) × (r ≡ s)
args_texts_same [] [] r s all all' end end' q = (refl, q)
args_texts_same [] (y ∷ ys) r s all all' end end' q = absurd (end.1 ((row_text (y ∷ ys) ++ codes ")") ++ s) q)
args_texts_same (x ∷ xs) [] r s all all' end end' q = absurd (end'.1 ((row_text (x ∷ xs) ++ codes ")") ++ r) (sym q))
args_texts_same (x ∷ xs) (y ∷ ys) r s all all' end end' q =
    let tails : row_text (x ∷ xs) ++ (41 ∷ r) ≡ row_text (y ∷ ys) ++ (41 ∷ s) =
    sym (append_assoc (row_text (x ∷ xs)) (codes ")") r)
    ∙ (rest_same q ∙ append_assoc (row_text (y ∷ ys)) (codes ")") s) in
    let cut = row_same x y xs ys (41 ∷ r) (41 ∷ s) all all' (stop_at 41 r (λ b i. i.closing))
    (stop_at 41 s (λ b i. i.closing)) (λ t e. byte_above 44 41 (omega arith) (sym e))
    (λ t e. byte_above 44 41 (omega arith) (sym e)) tails in
    (cut.0, rest_same cut.1)

-- an atom's text, and what stands after it
atom_same : (name other : List ℕ) (xs ys : List Elem) (r s : List ℕ) → IsPiece WordText name → IsPiece WordText other
    → AllByRecursion CanBeWritten xs → AllByRecursion CanBeWritten ys → Ends r → Ends s
    → (name ++ args_text xs) ++ r ≡ (other ++ args_text ys) ++ s → (name ≡ other) × (xs ≡ ys) × (r ≡ s)
atom_same name other xs ys r s word word' all all' end end' q =
    let tails : name ++ (args_text xs ++ r) ≡ other ++ (args_text ys ++ s) =
    sym (append_assoc name (args_text xs) r) ∙ (q ∙ append_assoc other (args_text ys) s) in
    let cut = split_same name other (args_text xs ++ r) (args_text ys ++ s) (word_inner name word)
    (word_inner other word') (args_stopped xs r end) (args_stopped ys s end') tails in
    let more = args_texts_same xs ys r s all all' end end' cut.1 in
    (cut.0, more.0, more.1)

class_tilde : class_of 126 ≡ Mark
unfolding class_of
class_tilde = refl

no_tilde : (name a b : List ℕ) → IsPiece WordText name → name ++ a ≡ 126 ∷ b → ⊥
no_tilde [] a b word q = word
no_tilde (x ∷ name) a b word q =
    let e : x ≡ 126 = cc in
    let f = word.0 in
    let g = ap class_of e in
    let h = class_tilde in
    absurd (cc)

tilde_then : (name a r : List ℕ) → IsPiece WordText name → (b : List ℕ) → (name ++ a) ++ r ≡ 126 ∷ b → ⊥
tilde_then name a r word b q = no_tilde name (a ++ r) b word (sym (append_assoc name a r) ∙ q)

-- with its sign
signed_same : (p p' : Bool) (name other : List ℕ) (xs ys : List Elem) (r s : List ℕ) → IsPiece WordText name
    → IsPiece WordText other → AllByRecursion CanBeWritten xs → AllByRecursion CanBeWritten ys
    → (negation_text p ++ (name ++ args_text xs)) ++ line_end r ≡ (negation_text p' ++ (other ++ args_text ys))
    ++ line_end s → (p ≡ p') × (name ≡ other) × (xs ≡ ys) × (r ≡ s)
signed_same true true name other xs ys r s word word' all all' q =
    let e = atom_same name other xs ys (line_end r) (line_end s) word word' all all' (ends_line r) (ends_line s) q in
    (refl, e.0, e.1, rest_same e.2)
signed_same true false name other xs ys r s word word' all all' q =
    absurd (tilde_then name (args_text xs) (line_end r) word ((other ++ args_text ys) ++ line_end s) q)
signed_same false true name other xs ys r s word word' all all' q =
    absurd (tilde_then other (args_text ys) (line_end s) word' ((name ++ args_text xs) ++ line_end r) (sym q))
signed_same false false name other xs ys r s word word' all all' q =
    let e = atom_same name other xs ys (line_end r) (line_end s) word word' all all' (ends_line r) (ends_line s)
    (rest_same q) in (refl, e.0, e.1, rest_same e.2)

-- a value after its sign, up to the end of the line
equation_same : (p p' : Bool) (x y : Elem) (r s : List ℕ) → CanBeWritten x → CanBeWritten y
    → (equality_text p ++ elem_text x) ++ line_end r ≡ (equality_text p' ++ elem_text y) ++ line_end s
    → (p ≡ p') × (x ≡ y) × (r ≡ s)
equation_same true true x y r s h k q =
    let e = split_same (elem_text x) (elem_text y) (line_end r) (line_end s) (elem_inner x h) (elem_inner y k)
    (line_stops r) (line_stops s)
    (append_cancel_left (codes " = ") (elem_text x ++ line_end r) (elem_text y ++ line_end s) q) in
    (refl, elem_text_same x y h k e.0, rest_same e.1)
equation_same true false x y r s h k q = absurd (byte_above 126 61 (omega arith) (sym (rest_same q)))
equation_same false true x y r s h k q = absurd (byte_above 126 61 (omega arith) (rest_same q))
equation_same false false x y r s h k q =
    let e = split_same (elem_text x) (elem_text y) (line_end r) (line_end s) (elem_inner x h) (elem_inner y k)
    (line_stops r) (line_stops s)
    (append_cancel_left (codes " ~= ") (elem_text x ++ line_end r) (elem_text y ++ line_end s) q) in
    (refl, elem_text_same x y h k e.0, rest_same e.1)

ends_equation : (p : Bool) (x : Elem) (r : List ℕ) → Ends ((equality_text p ++ elem_text x) ++ line_end r)
ends_equation true x r = ends_blank _
ends_equation false x r = ends_blank _

-- the literal's text after the label
abbrev shown : Literal → List ℕ → Option Elem → List ℕ
shown l name None = negation_text l.positive ++ (name ++ args_text l.args)
shown l name (Some x) = (name ++ args_text l.args) ++ (equality_text l.positive ++ elem_text x)

valued_is : (kb : Base) (l : Literal) (c : Found kb l) (o : Option Elem)
    → valued_text kb.vocabulary l o ≡ shown l c.symbol.name o
valued_is kb l c None = rw c.at refl
valued_is kb l c (Some x) = rw c.at refl

line_is : (label : List ℕ) (kb : Base) (l : Literal) (c : Found kb l)
    → labelled_line label kb.vocabulary l ≡ label ++ (shown l c.symbol.name l.value ++ codes "\n")
line_is label kb l c = ap (λ (t : List ℕ). label ++ (t ++ codes "\n")) (valued_is kb l c l.value)

module _ (kb : Base) (names : HasWordNames kb) (l k : Literal) (c : Found kb l) (d : Found kb k) where
  one_symbol : c.symbol.name ≡ d.symbol.name → l.symbol ≡ k.symbol
  one_symbol e = same_number kb.vocabulary.symbols l.symbol k.symbol c.symbol d.symbol names.apart c.at d.at e

  value_there : (o : Option Elem) → k.value ≡ o → c.symbol.name ≡ d.symbol.name
      → HasValueIn kb.known.domains c.symbol.value o
  value_there o f e =
      let both : Some d.symbol ≡ Some c.symbol = sym d.at
      ∙ ap (λ n. slice_get kb.vocabulary.symbols n) (sym (one_symbol e)) ∙ c.at in
      let same : d.symbol ≡ c.symbol = cc in
      subst (λ (u : Option Elem). HasValueIn kb.known.domains c.symbol.value u) f
      (subst (λ (t : Symbol). HasValueIn kb.known.domains t.value k.value) same d.value)

  value_here : (o : Option Elem) → l.value ≡ o → HasValueIn kb.known.domains c.symbol.value o
  value_here o f = subst (λ (u : Option Elem). HasValueIn kb.known.domains c.symbol.value u) f c.value

  kinds_same : (o u : Option Elem) → l.value ≡ o → k.value ≡ u → IsWritten o → IsWritten u → (r s : List ℕ)
      → shown l c.symbol.name o ++ line_end r ≡ shown k d.symbol.name u ++ line_end s → (l ≡ k) × (r ≡ s)
  kinds_same None None f g h j r s q =
      let cut = signed_same l.positive k.positive c.symbol.name d.symbol.name l.args k.args r s c.word d.word
      c.args d.args q in
      let value : l.value ≡ k.value = f ∙ sym g in
      let number = one_symbol cut.1 in
      (λ i. record { positive = cut.0 i; symbol = number i; args = cut.2 i; value = value i }, cut.3)
  kinds_same (Some x) (Some y) f g h j r s q =
      let left = (equality_text l.positive ++ elem_text x) ++ line_end r in
      let right = (equality_text k.positive ++ elem_text y) ++ line_end s in
      let tails : (c.symbol.name ++ args_text l.args) ++ left ≡ (d.symbol.name ++ args_text k.args) ++ right =
      sym (append_assoc (c.symbol.name ++ args_text l.args) (equality_text l.positive ++ elem_text x) (line_end r))
      ∙ (q ∙ append_assoc (d.symbol.name ++ args_text k.args) (equality_text k.positive ++ elem_text y)
      (line_end s)) in
      let cut = atom_same c.symbol.name d.symbol.name l.args k.args left right c.word d.word c.args d.args
      (ends_equation l.positive x r) (ends_equation k.positive y s) tails in
      let more = equation_same l.positive k.positive x y r s h j cut.2 in
      let value : l.value ≡ k.value = f ∙ ap (λ (z : Elem). Some z) more.1 ∙ sym g in
      let number = one_symbol cut.0 in
      (λ i. record { positive = more.0 i; symbol = number i; args = cut.1 i; value = value i }, more.2)
  kinds_same None (Some y) f g h j r s q = absurd (by l.positive q)
    where
      by : (p : Bool) → (negation_text p ++ (c.symbol.name ++ args_text l.args)) ++ line_end r
          ≡ ((d.symbol.name ++ args_text k.args) ++ (equality_text k.positive ++ elem_text y)) ++ line_end s → ⊥
      by true e =
          let cut = atom_same c.symbol.name d.symbol.name l.args k.args (line_end r)
          ((equality_text k.positive ++ elem_text y) ++ line_end s) c.word d.word c.args d.args (ends_line r)
          (ends_equation k.positive y s)
          (e ∙ append_assoc (d.symbol.name ++ args_text k.args) (equality_text k.positive ++ elem_text y)
          (line_end s)) in
          mixed kb.known.domains c.symbol.value y (value_here None f) (value_there (Some y) g cut.0)
      by false e = tilde_then d.symbol.name (args_text k.args) ((equality_text k.positive ++ elem_text y) ++ line_end s)
          d.word ((c.symbol.name ++ args_text l.args) ++ line_end r)
          (sym (append_assoc (d.symbol.name ++ args_text k.args) (equality_text k.positive ++ elem_text y) (line_end s))
          ∙ sym e)
  kinds_same (Some x) None f g h j r s q = absurd (by k.positive q)
    where
      by : (p : Bool) → ((c.symbol.name ++ args_text l.args) ++ (equality_text l.positive ++ elem_text x)) ++ line_end r
          ≡ (negation_text p ++ (d.symbol.name ++ args_text k.args)) ++ line_end s → ⊥
      by true e =
          let cut = atom_same c.symbol.name d.symbol.name l.args k.args
          ((equality_text l.positive ++ elem_text x) ++ line_end r) (line_end s) c.word d.word c.args d.args
          (ends_equation l.positive x r) (ends_line s)
          (sym (append_assoc (c.symbol.name ++ args_text l.args) (equality_text l.positive ++ elem_text x) (line_end r))
          ∙ e) in
          mixed kb.known.domains c.symbol.value x (value_there None g cut.0) (value_here (Some x) f)
      by false e = tilde_then c.symbol.name (args_text l.args) ((equality_text l.positive ++ elem_text x) ++ line_end r)
          c.word ((d.symbol.name ++ args_text k.args) ++ line_end s)
          (sym (append_assoc (c.symbol.name ++ args_text l.args) (equality_text l.positive ++ elem_text x) (line_end r))
          ∙ e)

literal_same : (label : List ℕ) (kb : Base) (l k : Literal) (r s : List ℕ) → HasWordNames kb → Found kb l
    → Found kb k → labelled_line label kb.vocabulary l ++ r ≡ labelled_line label kb.vocabulary k ++ s
    → (l ≡ k) × (r ≡ s)
literal_same label kb l k r s names c d q =
    let first = shown l c.symbol.name l.value in
    let second = shown k d.symbol.name k.value in
    let left : labelled_line label kb.vocabulary l ++ r ≡ label ++ (first ++ line_end r) =
    ap (λ (t : List ℕ). t ++ r) (line_is label kb l c)
    ∙ (append_assoc label (first ++ codes "\n") r
    ∙ ap (λ (t : List ℕ). label ++ t) (append_assoc first (codes "\n") r)) in
    let right : labelled_line label kb.vocabulary k ++ s ≡ label ++ (second ++ line_end s) =
    ap (λ (t : List ℕ). t ++ s) (line_is label kb k d)
    ∙ (append_assoc label (second ++ codes "\n") s
    ∙ ap (λ (t : List ℕ). label ++ t) (append_assoc second (codes "\n") s)) in
    let tails = append_cancel_left label (first ++ line_end r) (second ++ line_end s) (sym left ∙ (q ∙ right)) in
    kinds_same kb names l k c d l.value k.value refl refl c.written d.written r s tails

-- lines of one label, whose first byte is not that of `done`
module _ (byte : ℕ) (rest : List ℕ) (other : 100 ≢ byte) (kb : Base) (names : HasWordNames kb) where
  abbrev line : Literal → List ℕ
  line l = labelled_line (byte ∷ rest) kb.vocabulary l

  lines_same : (ls ks : List Literal) → AllByRecursion (IsLiteralOver kb) ls → AllByRecursion (IsLiteralOver kb) ks
      → (a b : List ℕ) → flat_map line ls ++ (codes "done\n" ++ a) ≡ flat_map line ks ++ (codes "done\n" ++ b)
      → (ls ≡ ks) × (a ≡ b)
  lines_same [] [] all all' a b q = (refl, append_cancel_left (codes "done\n") a b q)
  lines_same [] (k ∷ ks) all all' a b q = absurd (other (byte_same q))
  lines_same (l ∷ ls) [] all all' a b q = absurd (other (sym (byte_same q)))
  lines_same (l ∷ ls) (k ∷ ks) all all' a b q =
      let tails : line l ++ (flat_map line ls ++ (codes "done\n" ++ a)) ≡ line k
      ++ (flat_map line ks ++ (codes "done\n" ++ b)) =
      sym (append_assoc (line l) (flat_map line ls) (codes "done\n" ++ a))
      ∙ (q ∙ append_assoc (line k) (flat_map line ks) (codes "done\n" ++ b)) in
      let cut = literal_same (byte ∷ rest) kb l k (flat_map line ls ++ (codes "done\n" ++ a))
      (flat_map line ks ++ (codes "done\n" ++ b)) names (found_of kb l names all.0)
      (found_of kb k names all'.0) tails in
      let one = cut.0 in
      let more = lines_same ls ks all.1 all'.1 a b cut.1 in
      let others = more.0 in
      (cc, more.1)

  pub labelled_same : (ls ks : List Literal) (a b : List ℕ) → AllByRecursion (IsLiteralOver kb) ls
      → AllByRecursion (IsLiteralOver kb) ks
      → labelled_lines (byte ∷ rest) kb.vocabulary ls ++ a ≡ labelled_lines (byte ∷ rest) kb.vocabulary ks ++ b
      → (ls ≡ ks) × (a ≡ b)
  labelled_same ls ks a b all all' q =
      lines_same ls ks all all' a b
      (sym (append_assoc (flat_map line ls) (codes "done\n") a)
      ∙ (q ∙ append_assoc (flat_map line ks) (codes "done\n") b))
