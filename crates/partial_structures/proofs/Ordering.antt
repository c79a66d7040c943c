-- What the rows say of all atoms of a symbol, in their order, is what is known of them.
use Rattle.std.proofs.Common.{◌≡◌, ℕ, List, [], ◌∷◌, ◌++◌, map, reverse, Bool, Option, None, Some, refl, sym, ap, ◌∙◌}
use Rattle.std.proofs.Common.{slice_get, inl, inr, subst, arith}
use Rattle.std.specs.List.{enumerate_from, flat_map}
use Rattle.std.specs.Option.{option_map_or}
use Rattle.std.proofs.lemmas.List.{append-nil, append_assoc, map-append, reverse-append}
use Rattle.std.proofs.lemmas.List.Concat.{flat_map-append}
use Rattle.kb_logic.specs.declared.elements.Elem.{Elem}
use Rattle.kb_logic.specs.declared.vocabularies.Symbol.{Symbol}
use Rattle.kb_logic.specs.Models.{GroundAtom}
use Rattle.kb_logic.specs.Structures.{domain_at, tuples_of}
use Rattle.kb_logic.proofs.Has.{Has, has_enumerated, has_flat_map}
use Rattle.kb_logic.proofs.TupleLists.{map-map}
use Rattle.partial_structures.specs.KnownAtoms.{KnownAtoms, atoms_of, atoms_over, atoms_with, value_at}
use Rattle.partial_structures.specs.Flags.{is_closed}
use Rattle.partial_structures.specs.Ordered.{beyond, ending}
use Rattle.row_tries.specs.Rows.{child_by, label_of, node_of}
use Rattle.partial_structures.specs.AtomRows.{status_of}
use Rattle.partial_structures.specs.Known.{known_in, status_in}
use Rattle.row_tries.specs.Words.{words_in}
use Rattle.partial_structures.specs.declared.known.Known.{Known}
use Rattle.row_tries.specs.declared.rows.Edge.{Edge}
use Rattle.row_tries.specs.declared.rows.Mark.{Mark}
use Rattle.row_tries.specs.declared.truths.Truth.{Truth}
use Rattle.partial_structures.proofs.Listed.{value_is}

map-same : {X Y : Type 0} (f g : X → Y) (xs : List X) → ((x : X) → Has xs x → f x ≡ g x) → map f xs ≡ map g xs
map-same f g [] h = refl
map-same f g (x ∷ xs) h = ap (λ y. y ∷ map f xs) (h x (inl refl))
    ∙ ap (λ ys. g x ∷ ys) (map-same f g xs (λ y m. h y (inr m)))

atoms_append : (domains : List (List Elem)) (s : ℕ) (value : Option ℕ) (ts us : List (List Elem))
    → atoms_with domains s (ts ++ us) value ≡ atoms_with domains s ts value ++ atoms_with domains s us value
atoms_append domains s None ts us = map-append (λ t. record { symbol = s; args = t; value = None }) ts us
atoms_append domains s (Some ty) ts us =
    flat_map-append (λ t. map (λ x. record { symbol = s; args = t; value = Some x }) (domain_at domains ty)) ts us

no_atoms : (domains : List (List Elem)) (s : ℕ) (value : Option ℕ) → atoms_with domains s [] value ≡ []
no_atoms domains s None = refl
no_atoms domains s (Some ty) = refl

module _ (ws : List (List ℕ)) (es : List (Edge × Mark)) (closed : Bool) (domains : List (List Elem)) (s : ℕ) where
  abbrev said : GroundAtom → Truth
  said a = status_of ws es closed a.symbol a.args a.value

  -- what is known of the atoms of some tuples
  abbrev said_of : Option ℕ → List (List Elem) → List Truth
  said_of value ts = map said (atoms_with domains s ts value)

  said_append : (value : Option ℕ) (ts us : List (List Elem)) → said_of value (ts ++ us) ≡ said_of value ts
      ++ said_of value us
  said_append value ts us = ap (map said) (atoms_append domains s value ts us)
      ∙ map-append said (atoms_with domains s ts value) (atoms_with domains s us value)

  ends : (xs : List Elem) (value : Option ℕ) → ending ws es closed domains (node_of ws es s (reverse xs)) value
      ≡ said_of value (xs ∷ [])
  ends xs None = refl
  ends xs (Some ty) =
      let atom : Elem → GroundAtom = λ x. record { symbol = s; args = xs; value = Some x } in
      sym (map-map said atom (domain_at domains ty)) ∙ ap (map said)
      (sym (append-nil (map atom (domain_at domains ty))))

  -- the tuples after a prefix that is longer by one
  behind_one : (xs : List Elem) (x : Elem) (ts : List (List Elem)) → map (λ t. (xs ++ x ∷ []) ++ t) ts
      ≡ map (λ t. xs ++ t) (map (λ t. x ∷ t) ts)
  behind_one xs x ts =
      map-same (λ t. (xs ++ x ∷ []) ++ t) (λ t. xs ++ x ∷ t) ts (λ t m. append_assoc xs (x ∷ []) t)
      ∙ sym (map-map (λ t. xs ++ t) (λ t. x ∷ t) ts)

  -- over the elements of one type, where it is so after each of them
  each_goes_on : (xs : List Elem) (types : List ℕ) (value : Option ℕ)
      → ((x : Elem) → beyond ws es closed domains (node_of ws es s (reverse (xs ++ x ∷ []))) types value ≡ said_of value
      (map (λ t. (xs ++ x ∷ []) ++ t) (tuples_of domains types)))
      → (elements : List Elem)
      → flat_map (λ x. beyond ws es closed domains (child_by es (node_of ws es s (reverse xs)) (label_of ws x)) types
      value) elements
      ≡ said_of value (map (λ t. xs ++ t) (flat_map (λ x. map (λ t. x ∷ t) (tuples_of domains types)) elements))
  each_goes_on xs types value behind [] = ap (map said) (sym (no_atoms domains s value))
  each_goes_on xs types value behind (x ∷ elements) =
      let tuples = tuples_of domains types in
      let rest = flat_map (λ y. map (λ t. y ∷ t) tuples) elements in
      let here : beyond ws es closed domains (child_by es (node_of ws es s (reverse xs)) (label_of ws x)) types value
      ≡ said_of value (map (λ t. xs ++ t) (map (λ t. x ∷ t) tuples)) =
      ap (λ ys. beyond ws es closed domains (node_of ws es s ys) types value) (sym (reverse-append xs (x ∷ [])))
      ∙ behind x ∙ ap (said_of value) (behind_one xs x tuples) in
      ap (λ l. l ++ flat_map (λ y. beyond ws es closed domains (child_by es (node_of ws es s (reverse xs))
      (label_of ws y)) types value) elements) here
      ∙ ap (λ l. said_of value (map (λ t. xs ++ t) (map (λ t. x ∷ t) tuples)) ++ l)
      (each_goes_on xs types value behind elements)
      ∙ sym (ap (said_of value) (map-append (λ t. xs ++ t) (map (λ t. x ∷ t) tuples) rest)
      ∙ said_append value (map (λ t. xs ++ t) (map (λ t. x ∷ t) tuples)) (map (λ t. xs ++ t) rest))

  pub goes_on : (xs : List Elem) (types : List ℕ) (value : Option ℕ)
      → beyond ws es closed domains (node_of ws es s (reverse xs)) types value ≡ said_of value
      (map (λ t. xs ++ t) (tuples_of domains types))
  goes_on xs [] value = ends xs value ∙ ap (λ ys. said_of value (ys ∷ [])) (sym (append-nil xs))
  goes_on xs (ty ∷ types) value = each_goes_on xs types value (λ x. goes_on (xs ++ x ∷ []) types value)
      (domain_at domains ty)

map-itself : {X : Type 0} (xs : List X) → map (λ x. x) xs ≡ xs
map-itself [] = refl
map-itself (x ∷ xs) = ap (λ ys. x ∷ ys) (map-itself xs)

with_symbol : (domains : List (List Elem)) (s : ℕ) (ts : List (List Elem)) (value : Option ℕ) (f : Bool → GroundAtom
    → Truth) (closed : ℕ → Bool)
    → map (f (closed s)) (atoms_with domains s ts value) ≡ map (λ a. f (closed a.symbol) a)
    (atoms_with domains s ts value)
with_symbol domains s ts None f closed =
    map-map (f (closed s)) (λ t. record { symbol = s; args = t; value = None }) ts
    ∙ sym (map-map (λ a. f (closed a.symbol) a) (λ t. record { symbol = s; args = t; value = None }) ts)
with_symbol domains s [] (Some ty) f closed = refl
with_symbol domains s (t ∷ ts) (Some ty) f closed =
    let atom : Elem → GroundAtom = λ x. record { symbol = s; args = t; value = Some x } in
    let d = domain_at domains ty in
    let more = atoms_with domains s ts (Some ty) in
    map-append (f (closed s)) (map atom d) more
    ∙ ap (λ l. l ++ map (f (closed s)) more) (map-map (f (closed s)) atom d
    ∙ sym (map-map (λ a. f (closed a.symbol) a) atom d))
    ∙ ap (λ l. map (λ a. f (closed a.symbol) a) (map atom d) ++ l) (with_symbol domains s ts (Some ty) f closed)
    ∙ sym (map-append (λ a. f (closed a.symbol) a) (map atom d) more)

-- what is known of the atoms of a declared symbol
pub all_known : (s : Known) (k : KnownAtoms) (n : ℕ) (d : Symbol) → known_in s ≡ k → slice_get s.symbols.now n ≡ Some d
    → beyond (words_in s.rows.now.words) s.rows.now.nodes.entries (is_closed s.closed.now n) s.domains.now
    (node_of (words_in s.rows.now.words) s.rows.now.nodes.entries n []) d.args d.value
    ≡ map (value_at k) (atoms_of k n)
all_known s k n d view at =
    let ws = words_in s.rows.now.words in
    let es = s.rows.now.nodes.entries in
    let symbols = s.symbols.now in
    let domains = s.domains.now in
    let atoms = atoms_with domains n (tuples_of domains d.args) d.value in
    let among : (a : GroundAtom) → Has atoms a → Has (atoms_over symbols domains) a =
    λ a m. has_flat_map (λ (e : ℕ × Symbol). atoms_with domains e.0 (tuples_of domains e.1.args) e.1.value)
    (enumerate_from 0 symbols) (n, d) a
    (subst (λ i. Has (enumerate_from 0 symbols) (i, d)) (omega arith) (has_enumerated 0 n symbols d at)) m in
    goes_on ws es (is_closed s.closed.now n) domains n [] d.args d.value
    ∙ ap (λ ts. map (λ a. status_of ws es (is_closed s.closed.now n) a.symbol a.args a.value)
    (atoms_with domains n ts d.value)) (map-itself (tuples_of domains d.args))
    ∙ with_symbol domains n (tuples_of domains d.args) d.value (λ c a. status_of ws es c a.symbol a.args a.value)
    (is_closed s.closed.now)
    ∙ map-same (status_in s) (value_at (known_in s)) atoms (λ a m.
    sym (value_is symbols domains (status_in s) a (among a m)))
    ∙ ap (λ o. map (value_at (known_in s)) (option_map_or (λ (e : Symbol). atoms_with domains n
    (tuples_of domains e.args) e.value) o [])) (sym at)
    ∙ ap (λ j. map (value_at j) (atoms_of j n)) view

-- no symbol, no atoms
pub none_known : (s : Known) (k : KnownAtoms) (n : ℕ) → known_in s ≡ k → slice_get s.symbols.now n ≡ None
    → map (value_at k) (atoms_of k n) ≡ []
none_known s k n view at =
    ap (λ j. map (value_at j) (atoms_of j n)) (sym view)
    ∙ ap (λ o. map (value_at (known_in s)) (option_map_or (λ (e : Symbol). atoms_with s.domains.now n
    (tuples_of s.domains.now e.args) e.value) o [])) at
