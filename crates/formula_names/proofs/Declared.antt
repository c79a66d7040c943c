-- Declared names, one declaration after another.
use Rattle.std.proofs.Common.{◌≡◌, ◌<◌, ℕ, ◌+◌, List, [], ◌∷◌, ◌++◌, Option, length, get_or, drop, map, fold, refl, ap}
use Rattle.std.proofs.Common.{◌∙◌, sym, subst, add-zero, add-one, drop-cons, append-nil}
use Rattle.std.proofs.lemmas.Grind.{fold-append}
use Rattle.kb_text.specs.declared.fault.KbFault.{KbFault}
use Rattle.grammar.specs.declared.raw_blocks.RawElementTail.{RawElementTail}
use Rattle.grammar.specs.declared.raw_blocks.RawDeclaration.{RawDeclaration}
use Rattle.stage_definitions.specs.FileView.{declaration_in, element_name}
use Rattle.grammar.specs.Trees.{Name}
use Rattle.stage_definitions.specs.Files.{Declaration, type_under, constructed_type, symbol}
use Rattle.stage_definitions.specs.Names.{Names, Meaning, a_type, made, text_of, declared, declared_names, made_names}
use Rattle.stage_definitions.specs.Names.{with_names}
use Rattle.stage_definitions.specs.Uses.{Use, declares, declared_uses}
use Rattle.formula_names.specs.Tails.{type_count, symbol_count}

pub with_names-append : (ns : Names) (es fs : List (Name × Meaning)) → with_names ns (es ++ fs) ≡ with_names
    (with_names ns es) fs
with_names-append ns [] fs = refl
with_names-append ns (e ∷ es) fs = with_names-append (declared ns (text_of e.0) e.1) es fs

pub declared_uses-append : (ns : Names) (es fs : List (Name × Meaning)) → declared_uses ns (es ++ fs)
    ≡ declared_uses ns es ++ declared_uses (with_names ns es) fs
declared_uses-append ns [] fs = refl
declared_uses-append ns (e ∷ es) fs = ap (λ (us : List Use). declares ns e.0 ∷ us)
    (declared_uses-append (declared ns (text_of e.0) e.1) es fs)

-- the names of the first declaration, and then those of the others
pub declared_names-next : (t s : ℕ) (d : Declaration) (ds : List Declaration)
    → declared_names t s (d ∷ ds) ≡ declared_names t s (d ∷ []) ++ declared_names (t + type_count d)
    (s + symbol_count d) ds
declared_names-next t s (type_under n p) ds = rw (add-zero s) refl
declared_names-next t s (constructed_type n ns) ds =
    rw (add-zero s) (ap (λ (es : List (Name × Meaning)). (n, a_type t) ∷ (es ++ declared_names (t + 1) s ds))
    (sym (append-nil (made_names t 0 ns))))
declared_names-next t s (symbol n args to) ds = rw (add-zero t) refl

-- one name of an element more
pub front : {X : Type 0} (xs : List X) (i : ℕ) (x : X) → i < length xs → x ≡ get_or xs i x
    → drop i xs ≡ x ∷ drop (i + 1) xs
front xs i x lt is = rw (add-one i, drop-cons xs i x, ← is) refl

pub next_made : (ty i : ℕ) (ns after whole : Names) (more : List RawElementTail) (x : RawElementTail)
    → i < length more → x ≡ get_or more i x → after ≡ declared ns (text_of (element_name x)) (made ty (i + 1))
    → with_names ns (made_names ty (i + 1) (map element_name (drop i more))) ≡ whole
    → with_names after (made_names ty (i + 1 + 1) (map element_name (drop (i + 1) more))) ≡ whole
next_made ty i ns after whole more x lt is e h =
    let there : drop i more ≡ x ∷ drop (i + 1) more = front more i x lt is in
    rw e (rw there at h)

pub next_made_noted : (N : Option KbFault → Use → Option KbFault) (o next whole : Option KbFault) (ty i : ℕ)
    (ns after : Names) (more : List RawElementTail) (x : RawElementTail)
    → i < length more → x ≡ get_or more i x → after ≡ declared ns (text_of (element_name x)) (made ty (i + 1))
    → next ≡ N o (declares ns (element_name x))
    → fold N o (declared_uses ns (made_names ty (i + 1) (map element_name (drop i more)))) ≡ whole
    → fold N next (declared_uses after (made_names ty (i + 1 + 1) (map element_name (drop (i + 1) more)))) ≡ whole
next_made_noted N o next whole ty i ns after more x lt is e f h =
    let there : drop i more ≡ x ∷ drop (i + 1) more = front more i x lt is in
    rw (e, f) (rw there at h)

-- one declaration more
pub next_declared : (t s i : ℕ) (ns after whole : Names) (ds : List RawDeclaration) (x : RawDeclaration)
    → i < length ds → x ≡ get_or ds i x → after ≡ with_names ns (declared_names t s (declaration_in x ∷ []))
    → with_names ns (declared_names t s (map declaration_in (drop i ds))) ≡ whole
    → with_names after (declared_names (t + type_count (declaration_in x)) (s + symbol_count (declaration_in x))
    (map declaration_in (drop (i + 1) ds))) ≡ whole
next_declared t s i ns after whole ds x lt is e h =
    let there : drop i ds ≡ x ∷ drop (i + 1) ds = front ds i x lt is in
    let first : with_names ns (declared_names t s (declaration_in x ∷ map declaration_in (drop (i + 1) ds))) ≡ whole =
    rw there at h in
    let split : with_names ns (declared_names t s (declaration_in x ∷ []) ++ declared_names
    (t + type_count (declaration_in x)) (s + symbol_count (declaration_in x))
    (map declaration_in (drop (i + 1) ds))) ≡ whole =
    rw (declared_names-next t s (declaration_in x) (map declaration_in (drop (i + 1) ds))) at first in
    rw e (sym (with_names-append ns (declared_names t s (declaration_in x ∷ [])) _) ∙ split)

pub next_declared_noted : (N : Option KbFault → Use → Option KbFault) (o next whole : Option KbFault) (t s i : ℕ)
    (ns after : Names) (ds : List RawDeclaration) (x : RawDeclaration)
    → i < length ds → x ≡ get_or ds i x → after ≡ with_names ns (declared_names t s (declaration_in x ∷ []))
    → next ≡ fold N o (declared_uses ns (declared_names t s (declaration_in x ∷ [])))
    → fold N o (declared_uses ns (declared_names t s (map declaration_in (drop i ds)))) ≡ whole
    → fold N next (declared_uses after (declared_names (t + type_count (declaration_in x))
    (s + symbol_count (declaration_in x)) (map declaration_in (drop (i + 1) ds)))) ≡ whole
next_declared_noted N o next whole t s i ns after ds x lt is e f h =
    let there : drop i ds ≡ x ∷ drop (i + 1) ds = front ds i x lt is in
    let first : fold N o (declared_uses ns (declared_names t s
    (declaration_in x ∷ map declaration_in (drop (i + 1) ds)))) ≡ whole = rw there at h in
    let split : fold N o (declared_uses ns (declared_names t s (declaration_in x ∷ []) ++ declared_names
    (t + type_count (declaration_in x)) (s + symbol_count (declaration_in x))
    (map declaration_in (drop (i + 1) ds)))) ≡ whole =
    rw (declared_names-next t s (declaration_in x) (map declaration_in (drop (i + 1) ds))) at first in
    rw (e, f)
    (sym (ap (fold N o) (declared_uses-append ns (declared_names t s (declaration_in x ∷ [])) _)
    ∙ fold-append N o (declared_uses ns (declared_names t s (declaration_in x ∷ []))) _) ∙ split)

pub constructed_noted : (N : Option KbFault → Use → Option KbFault) (o a b after : Option KbFault) (t s : ℕ)
    (ns second third : Names) (n first : Name) (more : List Name)
    → a ≡ N o (declares ns n) → second ≡ declared ns (text_of n) (a_type t)
    → b ≡ N a (declares second first) → third ≡ declared second (text_of first) (made t 0)
    → after ≡ fold N b (declared_uses third (made_names t 1 more))
    → after ≡ fold N o (declared_uses ns (declared_names t s (constructed_type n (first ∷ more) ∷ [])))
constructed_noted N o a b after t s ns second third n first more e d f g h =
    let are : declared_names t s (constructed_type n (first ∷ more) ∷ []) ≡ (n, a_type t) ∷
    ((first, made t 0) ∷ made_names t 1 more) =
    ap (λ (es : List (Name × Meaning)). (n, a_type t) ∷ ((first, made t 0) ∷ es)) (append-nil (made_names t 1 more)) in
    subst (λ (es : List (Name × Meaning)). after ≡ fold N o (declared_uses ns es)) (sym are) (h ∙ rw (f, e, g, d) refl)
