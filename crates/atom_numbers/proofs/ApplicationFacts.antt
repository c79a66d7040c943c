-- Atoms by their variables, and the first atom of a function's application.
use Rattle.std.proofs.Common.{◌≡◌, ℕ, zero, suc, ◌+◌, ◌-◌, ◌*◌, ◌/◌, ◌%◌, ◌^◌, ◌<◌, ◌≤◌, Option, Some, None, List, []}
use Rattle.std.proofs.Common.{◌∷◌}
use Rattle.std.proofs.Common.{MatchOption, length, get_or, slice_get, refl, sym, ap, ◌∙◌, subst, arith, inl, inr, ◌⊎◌}
use Rattle.std.specs.List.{sum_by}
use Rattle.std.proofs.Math.Seq.{take-length}
use Rattle.std.proofs.lemmas.Nat.{div_below, mod_below, div-add-mod'}
use Rattle.std.proofs.lemmas.Option.{slice_get_cases, slice_get-get_or}
use Rattle.kb_logic.specs.declared.elements.Elem.{Elem}
use Rattle.kb_logic.specs.declared.vocabularies.Symbol.{Symbol}
use Rattle.kb_logic.specs.declared.structures.Literal.{Literal}
use Rattle.kb_logic.specs.Structures.{domain_at, tuples_of}
use Rattle.kb_logic.specs.Models.{GroundAtom, IsAtomOver, atom_of}
use Rattle.kb_logic.specs.KnownAtoms.{atoms_over}
use Rattle.kb_logic.specs.Weights.{value_count}
use Rattle.kb_logic.proofs.AllAtoms.{listed_over}
use Rattle.kb_logic.proofs.DistinctAtoms.{tuples_distinct}
use Rattle.kb_logic.proofs.Has.{has_get}
use Rattle.lit_core.specs.declared.literals.Lit.{Lit}
use Rattle.ground_core.specs.Problems.{IsLitOf}
use Rattle.term_values.specs.GroundBases.{GroundBase, atoms_in, first_var}
use Rattle.term_values.specs.KnownBases.{IsGroundBase}
use Rattle.term_values.proofs.Chosen.{index-of}
use Rattle.term_values.proofs.Offsets.{some-same}
use Rattle.term_values.proofs.Places.{PredicateVar, FunctionVar, predicate-variable, function-variable}
use Rattle.term_values.proofs.Places.{variable-of, atoms-count, valued-atom}
use Rattle.atom_numbers.specs.Numbers.{AreNumbered, HasNumber, IsApplication, IsPlaceIn, IsSymbolOf}
use Rattle.atom_numbers.specs.Numbers.{first_of}
use Rattle.atom_numbers.proofs.PlaceFacts.{firsts-more, numbered}

-- which symbol a variable belongs to
module _ (domains : List (List Elem)) (symbols : List Symbol) (vars : List ℕ) (h : AreNumbered domains symbols vars)
    (lit : Lit) (is : IsLitOf (length (atoms_over symbols domains)) lit) where
  abbrev base : GroundBase
  base = record { vocabulary = record { name = []; types = []; symbols = symbols }; domains = domains; known = [] }

  last-first : first_of domains symbols (length symbols) ≡ 1 + length (atoms_over symbols domains)
  last-first = ap (λ n. 1 + n) (ap (sum_by (atoms_in domains)) (take-length symbols) ∙ sym (atoms-count base))

  pub below-last : lit.var.0 < first_of domains symbols (length symbols)
  below-last = let e = last-first in omega (arith, e, is.1)

  pub symbols-there : 0 < length symbols
  symbols-there = at symbols refl
    where
      at : (ss : List Symbol) → symbols ≡ ss → 0 < length symbols
      at [] e =
          let none : length (atoms_over symbols domains) ≡ 0 = ap (λ (xs : List Symbol). length (atoms_over xs domains)) e
          in absurd (omega (arith, none, is.0, is.1))
      at (d ∷ ss) e = let n : length symbols ≡ suc (length ss) = ap length e in omega (arith, n)

  pub first-vars-there : 0 < length vars
  first-vars-there = let n = symbols-there in let e = h.each in omega (arith, n, e)

  -- the search begins at the last symbol
  pub search-begins : (number : ℕ) → number ≡ length vars - 1
      → (number < length symbols) × (lit.var.0 < first_of domains symbols (number + 1))
  search-begins number at =
      let n = symbols-there in
      let e = h.each in
      let next : length symbols ≡ number + 1 = omega (arith, at, n, e) in
      (omega (arith, next), subst (λ k. lit.var.0 < first_of domains symbols k) next below-last)

  module _ (number : ℕ) (within : number < length symbols) where
    first-is : get_or vars number 0 ≡ first_of domains symbols number
    first-is = h.firsts number 0 within

    -- the first symbol's first atom has the variable 1
    pub not-first : lit.var.0 < get_or vars number 0 → 0 < number
    not-first lt = at number refl
      where
        at : (n : ℕ) → number ≡ n → 0 < number
        at zero e =
            let none : get_or vars number 0 ≡ 1 = first-is ∙ ap (first_of domains symbols) e in
            absurd (omega (arith, none, lt, is.0))
        at (suc n) e = omega (arith, e)

    pub search-goes-on : lit.var.0 < get_or vars number 0 → (next : ℕ) → next ≡ number - 1
        → (next < length symbols) × (lit.var.0 < first_of domains symbols (next + 1))
    search-goes-on lt next at =
        let some = not-first lt in
        let same : number ≡ next + 1 = omega (arith, at, some) in
        (omega (arith, within, same), subst (λ k. lit.var.0 < k) (first-is ∙ ap (first_of domains symbols) same) lt)

    pub search-ends : get_or vars number 0 ≤ lit.var.0 → lit.var.0 < first_of domains symbols (number + 1)
        → IsSymbolOf domains symbols lit.var.0 number
    search-ends le lt = record {
      declared = within;
      from = subst (λ k. k ≤ lit.var.0) first-is le;
      below = lt;
    }

-- the place among its symbol's atoms
module _ (domains : List (List Elem)) (symbols : List Symbol) (vars : List ℕ) (h : AreNumbered domains symbols vars)
    (var number : ℕ) (of : IsSymbolOf domains symbols var number) where
  pub first-reached : get_or vars number 0 ≤ var
  first-reached = let e = h.firsts number 0 of.declared in let f = of.from in omega (arith, e, f)

  pub symbol-few : number < 2 ^ 32
  symbol-few = let f = h.symbols_few in let d = of.declared in omega (arith, f, d)

  module _ (d : Symbol) (is : d ≡ get_or symbols number d) (place : ℕ) (at : place ≡ var - get_or vars number 0) where
    pub place-within : place < atoms_in domains d
    place-within =
        let more = firsts-more domains symbols number d of.declared in
        let same : atoms_in domains d ≡ atoms_in domains (get_or symbols number d) = ap (atoms_in domains) is in
        let e = h.firsts number 0 of.declared in
        let f = of.from in
        let b = of.below in
        omega (arith, more, same, e, f, b, at)

    pub place-and-first : get_or vars number 0 + place ≡ var
    place-and-first = let le = first-reached in omega (arith, at, le)

    pub symbol-there : slice_get symbols number ≡ Some d
    symbol-there = slice_get-get_or symbols number d of.declared ∙ ap Some (sym is)

    -- the literal of the atom at the place
    pub has-number : (b : GroundBase) → b.vocabulary.symbols ≡ symbols → b.domains ≡ domains → (l : Literal) (lit : Lit)
        → lit.var.0 ≡ var → l.symbol ≡ number → l.positive ≡ lit.positive → IsPlaceIn domains d l place
        → HasNumber b l lit × IsAtomOver b.vocabulary.symbols b.domains (atom_of l)
    has-number b voc dom l lit var-is symbol sign here =
        let at-symbol : slice_get symbols l.symbol ≡ Some d = ap (slice_get symbols) symbol ∙ symbol-there in
        let item : d ≡ get_or symbols l.symbol d = is ∙ ap (λ n. get_or symbols n d) (sym symbol) in
        let n = numbered domains symbols vars h l d d at-symbol item place here in
        let first : get_or vars l.symbol 0 ≡ get_or vars number 0 = ap (λ k. get_or vars k 0) symbol in
        let whole = place-and-first in
        let number-is = n.2 in
        let atoms : atoms_over b.vocabulary.symbols b.domains ≡ atoms_over symbols domains =
        ap (λ (ss : List Symbol). atoms_over ss b.domains) voc ∙ ap (atoms_over symbols) dom in
        let found : slice_get (atoms_over b.vocabulary.symbols b.domains) n.0 ≡ Some (atom_of l) =
        ap (λ (gs : List GroundAtom). slice_get gs n.0) atoms ∙ n.1 in (
          record {
            place = n.0;
            atom = found;
            var = omega (arith, var-is, whole, first, number-is);
            sign = sym sign;
          },
          listed_over b.vocabulary.symbols b.domains (atom_of l)
              (has_get (atoms_over b.vocabulary.symbols b.domains) n.0 (atom_of l) found),
        )

-- the digits of a place among the atoms of a function
module _ (domains : List (List Elem)) (d : Symbol) (ty q : ℕ) (valued : d.value ≡ Some ty)
    (lt : q < atoms_in domains d) where
  abbrev values : ℕ
  values = length (domain_at domains ty)

  abbrev rows : List (List Elem)
  rows = tuples_of domains d.args

  within-all : q < length rows * values
  within-all = subst (λ (o : Option ℕ). q < length rows * value_count domains o) valued lt

  pub values-there : 0 < values
  values-there = pos-right (length rows) values q within-all
    where
      pos-right : (a c n : ℕ) → n < a * c → 0 < c
      pos-right a zero n less = absurd (let none : a * 0 ≡ 0 = omega arith in omega (arith, less, none))
      pos-right a (suc c) n less = omega arith

  row-within : q / values < length rows
  row-within = div_below q values (length rows) values-there within-all

  pub value-within : q % values < values
  value-within = mod_below q values values-there

  pub split : q / values * values + q % values ≡ q
  split = div-add-mod' q values

  pub row-there : slice_get rows (q / values) ≡ Some (get_or rows (q / values) [])
  row-there = slice_get-get_or rows (q / values) [] row-within

  -- the literal of the row and the value is that of the place
  pub literal-placed : (domain : List Elem) → domain ≡ domain_at domains ty → (x : Elem)
      → x ≡ get_or domain (q % length domain) x → (l : Literal) → l.args ≡ get_or rows (q / length domain) []
      → l.value ≡ Some x → IsPlaceIn domains d l q
  literal-placed domain same x is l args value = inr (record {
    ty = ty;
    i = q / values;
    j = q % values;
    x = x;
    valued = valued;
    some = value;
    tuple = row-there ∙ ap Some (sym (args ∙ ap (λ (xs : List Elem). get_or rows (q / length xs) []) same));
    value = slice_get-get_or (domain_at domains ty) (q % values) x value-within
        ∙ ap Some (sym (is ∙ ap (λ (xs : List Elem). get_or xs (q % length xs) x) same));
    number = sym split;
  })

-- the atom of a function at a place
module _ (b : GroundBase) (fine : IsGroundBase b) (s ty q : ℕ) (d : Symbol)
    (at : slice_get b.vocabulary.symbols s ≡ Some d) (valued : d.value ≡ Some ty) (lt : q < atoms_in b.domains d) where
  abbrev size : ℕ
  size = length (domain_at b.domains ty)

  abbrev tuples : List (List Elem)
  tuples = tuples_of b.domains d.args

  abbrev tuple : List Elem
  tuple = get_or tuples (q / size) []

  tuple-there : slice_get tuples (q / size) ≡ Some tuple
  tuple-there = row-there b.domains d ty q valued lt

  abbrev HasAtomAt : ℕ → Type 0
  HasAtomAt j = (x : Elem) × (n : ℕ) × (first_var b s + q / size * size + j ≡ suc n)
      × (slice_get (atoms_over b.vocabulary.symbols b.domains) n ≡ Some (valued-atom s tuple x))

  atom-at : (j : ℕ) → j < size → HasAtomAt j
  atom-at j less = by (slice_get_cases (domain_at b.domains ty) j).1
    where
      by : ((x : Elem) × (j < size) × (slice_get (domain_at b.domains ty) j ≡ Some x) × (get_or
          (domain_at b.domains ty) j x ≡ x)) ⊎ ((size ≤ j) × (slice_get (domain_at b.domains ty) j ≡ None))
          → HasAtomAt j
      by (inl c) =
          let r = function-variable b s (q / size) j ty d tuple c.0 at valued tuple-there c.2 in
          (c.0, r.0, r.1, r.2)
      by (inr c) = absurd (omega (arith, less, c.0))

  -- where an atom alike stands
  alike-from : (k : ℕ) (c : GroundAtom) → slice_get (atoms_over b.vocabulary.symbols b.domains) k ≡ Some c
      → c.symbol ≡ s → c.args ≡ tuple → first_var b s + q / size * size ≤ suc k
  alike-from k c found symbol args = elim (variable-of b k c found) [
    | inl p ↦ absurd (plain p)
    | inr p ↦ function p
  ]
    where
      plain : PredicateVar b (suc k) c → ⊥
      plain p =
          let same : p.s ≡ s = sym (ap (λ (a : GroundAtom). a.symbol) p.atom) ∙ symbol in
          let declared : d ≡ p.d = some-same d p.d (sym at ∙ sym (ap (slice_get b.vocabulary.symbols) same)
          ∙ p.declared) in
          let none : d.value ≡ None = ap (λ (x : Symbol). x.value) declared ∙ p.plain in cc

      function : FunctionVar b (suc k) c → first_var b s + q / size * size ≤ suc k
      function p =
          let same : p.s ≡ s = sym (ap (λ (a : GroundAtom). a.symbol) p.atom) ∙ symbol in
          let declared : d ≡ p.d = some-same d p.d (sym at ∙ sym (ap (slice_get b.vocabulary.symbols) same)
          ∙ p.declared) in
          let type : ty ≡ p.ty = some-same ty p.ty (sym valued ∙ ap (λ (x : Symbol). x.value) declared ∙ p.valued) in
          let row : p.t ≡ tuple = sym (ap (λ (a : GroundAtom). a.args) p.atom) ∙ args in
          let there : slice_get tuples p.i ≡ Some tuple =
          ap (λ (x : Symbol). slice_get (tuples_of b.domains x.args) p.i) declared ∙ p.tuple ∙ ap Some row in
          let index : p.i ≡ q / size = index-of tuples p.i (q / size) tuple
          (tuples_distinct b.domains d.args fine.distinct) there tuple-there in
          let number : suc k ≡ first_var b s + q / size * size + p.j = p.number
          ∙ ap (λ n. first_var b n + p.i * length (domain_at b.domains p.ty) + p.j) same
          ∙ ap (λ i. first_var b s + i * length (domain_at b.domains p.ty) + p.j) index
          ∙ ap (λ t. first_var b s + q / size * length (domain_at b.domains t) + p.j) (sym type) in
          omega (arith, number)

  pub is-application : (l : Literal) (lit : Lit) → HasNumber b l lit → first_var b s + q ≡ lit.var.0
      → IsApplication b l (lit.var.0 - q % size)
  is-application l lit n number =
      let a = atom-at (q % size) (value-within b.domains d ty q valued lt) in
      let f = atom-at 0 (values-there b.domains d ty q valued lt) in
      let whole = split b.domains d ty q valued lt in
      let a-is = a.2 in
      let f-is = f.2 in
      let at-is = n.var in
      let same : n.place ≡ a.1 = omega (arith, whole, a-is, at-is, number) in
      let atom : valued-atom s tuple a.0 ≡ atom_of l = some-same (valued-atom s tuple a.0) (atom_of l)
      (sym a.3 ∙ sym (ap (slice_get (atoms_over b.vocabulary.symbols b.domains)) same) ∙ n.atom) in
      let symbol : s ≡ l.symbol = ap (λ (x : GroundAtom). x.symbol) atom in
      let args : tuple ≡ l.args = ap (λ (x : GroundAtom). x.args) atom in
      record {
        value = a.0;
        valued = sym (ap (λ (x : GroundAtom). x.value) atom);
        place = f.1;
        number = omega (arith, whole, f-is, number);
        first = valued-atom s tuple f.0;
        atom = f.3;
        alike = (symbol, args);
        least = λ k c found alike.
            let le = alike-from k c found (alike.0 ∙ sym symbol) (alike.1 ∙ sym args) in omega (arith, le, f-is);
      }

-- an atom of a predicate has no value
pub is-plain : (b : GroundBase) (s q : ℕ) (d : Symbol) → slice_get b.vocabulary.symbols s ≡ Some d → d.value ≡ None
    → q < atoms_in b.domains d → (l : Literal) (lit : Lit) → HasNumber b l lit → first_var b s + q ≡ lit.var.0
    → l.value ≡ None
is-plain b s q d at plain lt l lit n number =
    let size : q < length (tuples_of b.domains d.args) * 1 =
    subst (λ (o : Option ℕ). q < length (tuples_of b.domains d.args) * value_count b.domains o) plain lt in
    let within : q < length (tuples_of b.domains d.args) = omega (arith, size) in
    let t : List Elem = get_or (tuples_of b.domains d.args) q [] in
    let r = predicate-variable b s q d t at plain (slice_get-get_or (tuples_of b.domains d.args) q [] within) in
    let r-is = r.1 in
    let at-is = n.var in
    let same : n.place ≡ r.0 = omega (arith, r-is, at-is, number) in
    sym (ap (λ (x : GroundAtom). x.value) (some-same (record { symbol = s; args = t; value = None }) (atom_of l)
    (sym r.2 ∙ sym (ap (slice_get (atoms_over b.vocabulary.symbols b.domains)) same) ∙ n.atom)))

-- what is numbered, as slices
pub numbered-slices : (domains ds : List (List Elem)) (symbols ss : List Symbol) (vars vs : List ℕ) → ds ≡ domains
    → ss ≡ symbols → vs ≡ vars → AreNumbered domains symbols vars → AreNumbered ds ss vs
numbered-slices domains ds symbols ss vars vs d s v h =
    subst (λ (x : List (List Elem)). AreNumbered x ss vs) (sym d)
    (subst (λ (x : List Symbol). AreNumbered domains x vs) (sym s)
    (subst (λ (x : List ℕ). AreNumbered domains symbols x) (sym v) h))

module _ (domains : List (List Elem)) (symbols : List Symbol) (vars : List ℕ) (h : AreNumbered domains symbols vars)
    (lit : Lit) (number : ℕ) (of : IsSymbolOf domains symbols lit.var.0 number) (d : Symbol)
    (is : d ≡ get_or symbols number d) where
  abbrev place : ℕ
  place = lit.var.0 - get_or vars number 0

  abbrev IsFirst : ℕ → Type 0
  IsFirst first = (ty : ℕ) × (d.value ≡ Some ty) × (first ≡ lit.var.0 - place % length (domain_at domains ty))

  -- the application that is told is the one of the atom
  pub application-told : (b : GroundBase) → IsGroundBase b → b.vocabulary.symbols ≡ symbols → b.domains ≡ domains
      → (o : Option ℕ) → MatchOption o (d.value ≡ None) IsFirst → (l : Literal) → HasNumber b l lit
      → MatchOption o (l.value ≡ None) (IsApplication b l)
  application-told b fine voc dom o told l n = by o told
    where
      at-symbol : slice_get b.vocabulary.symbols number ≡ Some d
      at-symbol = ap (λ (ss : List Symbol). slice_get ss number) voc
          ∙ symbol-there domains symbols vars h lit.var.0 number of d is place refl

      within : place < atoms_in b.domains d
      within = subst (λ (ds : List (List Elem)). place < atoms_in ds d) (sym dom)
          (place-within domains symbols vars h lit.var.0 number of d is place refl)

      var-is : first_var b number + place ≡ lit.var.0
      var-is =
          let same : first_var b number ≡ first_of domains symbols number =
          ap (λ (ds : List (List Elem)). first_of ds b.vocabulary.symbols number) dom
          ∙ ap (λ (ss : List Symbol). first_of domains ss number) voc in
          let first = h.firsts number 0 of.declared in
          let whole = place-and-first domains symbols vars h lit.var.0 number of d is place refl in
          omega (arith, same, first, whole)

      by : (q : Option ℕ) → MatchOption q (d.value ≡ None) IsFirst
          → MatchOption q (l.value ≡ None) (IsApplication b l)
      by None plain = is-plain b number place d at-symbol plain within l lit n var-is
      by (Some first) t =
          subst (IsApplication b l)
          (sym (t.2 ∙ ap (λ (ds : List (List Elem)). lit.var.0 - place % length (domain_at ds t.0)) (sym dom)))
          (is-application b fine number t.0 place d at-symbol t.1 within l lit n var-is)
