-- The entries of a partial structure can be written.
use Rattle.std.proofs.Common.{◌≡◌, ℕ, zero, suc, ◌<◌, ◌^◌, ℤ, pos, negsuc, ◌≤ℤ◌, true, false, List, [], ◌∷◌, map}
use Rattle.std.proofs.Common.{Option, None, Some, refl, sym, subst, ◌∙◌, arith, inl, inr}
use Rattle.std.specs.Prelude.{Contains, codes, nat_abs, neg_ℤ}
use Rattle.std.specs.List.{AllByRecursion, enumerate_from}
use Rattle.std.proofs.lemmas.Bool.{true≢false}
use Rattle.std.proofs.lemmas.Int.{ints}
use Rattle.kb_text.specs.Bytes.{class_of}
use Rattle.kb_logic.specs.declared.elements.Elem.{Elem}
use Rattle.kb_logic.specs.declared.elements.Elem.TheVariants.{Named, Num}
use Rattle.kb_logic.specs.declared.vocabularies.TypeDecl.{TypeDecl}
use Rattle.kb_logic.specs.declared.vocabularies.Symbol.{Symbol}
use Rattle.kb_logic.specs.declared.vocabularies.Vocabulary.{Vocabulary}
use Rattle.kb_logic.specs.Domains.{IsDomainOf, IsInRange}
use Rattle.kb_logic.specs.Models.{HasValueIn}
use Rattle.kb_logic.specs.Structures.{EachWith, domain_at}
use Rattle.kb_logic.specs.KnownAtoms.{KnownAtoms}
use Rattle.kb_logic.proofs.Has.{Has, has_map, has_left, has_right, has_from}
use Rattle.stage_definitions.specs.DataEntries.{Subject, a_type, a_symbol, argument_types, value_type}
use Rattle.printed_texts.specs.Entries.{PlainRow, PlainEntry, alone, true_rows, false_rows, alone_value, whole_value}
use Rattle.printed_texts.specs.Entries.{entries_of}
use Rattle.printed_texts.specs.Names.{IsName, IsElem, IsOption, HasItem, IsRow, IsValue, IsEntry}
use Rattle.printed_texts.specs.ReadBlocks.{IsWritable, IsNamedWell, declared_names}
use Rattle.printed_texts.proofs.Each.{all_has, has_all, each_back, numbered_item}
use Rattle.printed_texts.proofs.KnownRows.{true_row, false_row}
use Rattle.printed_texts.proofs.RightEntries.{EntryOf, listing, whole, certain, denied, entry_kind, RightRow, right_row}
use Rattle.printed_texts.proofs.RightEntries.{right_alone, open_true, open_false}

ct_name : IsName (codes "ct")
unfolding class_of
ct_name = record { word = refl; read = refl; free = refl }

cf_name : IsName (codes "cf")
unfolding class_of
cf_name = record { word = refl; read = refl; free = refl }

-- an element of a type is in one of the domains
domain_has : (domains : List (List Elem)) (ty : ℕ) (x : Elem) → Has (domain_at domains ty) x
    → (d : List Elem) × Has domains d × Has d x
domain_has [] ty x m = absurd m
domain_has (d ∷ ds) zero x m = (d, inl refl, m)
domain_has (d ∷ ds) (suc ty) x m = let r = domain_has ds ty x m in (r.0, inr r.1, r.2)

small : (z : ℤ) → neg_ℤ (pos 1000000) ≤ℤ z → z ≤ℤ pos 1000000 → nat_abs z < 2 ^ 63
small (pos n) h k = omega (arith, ints, h, k)
small (negsuc n) h k = omega (arith, ints, h, k)

is_element : (x : Elem) → IsNamedWell x → IsInRange x → IsElem x
is_element (Named n) h r = h
is_element (Num z) h r = small z r.0 r.1

module _ (v : Vocabulary) (title : List ℕ) (k : KnownAtoms) (w : IsWritable v title k) where
  element_written : (ty : ℕ) (x : Elem) → Contains (domain_at k.domains ty) x → IsElem x
  element_written ty x h =
      let r = domain_has k.domains ty x (has_from (domain_at k.domains ty) x h) in
      let t = each_back (IsDomainOf k.domains) v.types k.domains w.domains r.0 r.1 in
      is_element x (all_has IsNamedWell r.0 (all_has (AllByRecursion IsNamedWell) k.domains w.elements r.0 r.1) x r.2)
      (all_has IsInRange r.0 t.2.range x r.2)

  args_written : (types : List ℕ) (args : List Elem) → EachWith (λ ty y. Contains (domain_at k.domains ty) y) types args
      → AllByRecursion IsElem args
  args_written [] [] h = tt
  args_written [] (x ∷ xs) h = absurd h
  args_written (t ∷ ts) [] h = absurd h
  args_written (t ∷ ts) (x ∷ xs) h = (element_written t x h.0, args_written ts xs h.1)

  value_written : (ty : Option ℕ) (value : Option Elem) → HasValueIn k.domains ty value → IsOption IsElem value
  value_written None None h = tt
  value_written None (Some x) h = absurd h
  value_written (Some ty) None h = absurd h
  value_written (Some ty) (Some x) h = element_written ty x h

  filled : (types : List ℕ) (ty : Option ℕ) (args : List Elem) (value : Option Elem)
      → EachWith (λ t y. Contains (domain_at k.domains t) y) types args → HasValueIn k.domains ty value
      → (types ≡ [] → ty ≡ None → ⊥) → HasItem args value
  filled [] None [] value h j some = absurd (some refl refl)
  filled [] (Some ty) [] None h j some = absurd j
  filled [] (Some ty) [] (Some x) h j some = tt
  filled [] ty (x ∷ xs) value h j some = absurd h
  filled (t ∷ ts) ty [] value h j some = absurd h
  filled (t ∷ ts) ty (x ∷ xs) value h j some = tt

  row_written : (x : Subject) → (argument_types x ≡ [] → value_type x ≡ None → ⊥) → (r : PlainRow)
      → RightRow k.domains x r → IsRow r
  row_written x some r h = record {
    filled = filled (argument_types x) (value_type x) r.args r.value h.args h.value some;
    args = args_written (argument_types x) r.args h.args;
    value = value_written (value_type x) r.value h.value;
  }

  alone_written : (o : Option Elem) → IsOption IsElem o → IsValue (alone_value o)
  alone_written None h = tt
  alone_written (Some x) h = h

  whole_written : (x : Subject) (args : List ℕ) → argument_types x ≡ args → (rows : List PlainRow)
      → ((r : PlainRow) → Has rows r → RightRow k.domains x r) → IsValue (whole_value args rows)
  whole_written x (t ∷ ts) e rows right =
      has_all IsRow rows (λ r m. row_written x (λ f. absurd (let g = sym e ∙ f in cc)) r (right r m))
  whole_written x [] e [] right = tt
  whole_written x [] e (r ∷ rs) right =
      alone_written r.value (value_written (value_type x) r.value (right r (inl refl)).value)

  type_word : (t : ℕ × TypeDecl) → Has (enumerate_from 0 v.types) t → IsName t.1.name
  type_word t m =
      all_has IsName (declared_names v) w.words t.1.name
      (has_left (map (λ d. d.name) v.types) (map (λ s. s.name) v.symbols) t.1.name
      (has_map (λ d. d.name) v.types t.1 (numbered_item 0 v.types t m)))

  symbol_word : (s : ℕ × Symbol) → Has (enumerate_from 0 k.symbols) s → IsName s.1.name
  symbol_word s m =
      all_has IsName (declared_names v) w.words s.1.name
      (has_right (map (λ d. d.name) v.types) (map (λ s. s.name) v.symbols) s.1.name
      (has_map (λ d. d.name) v.symbols s.1
      (subst (λ (ss : List Symbol). Has ss s.1) w.symbols (numbered_item 0 k.symbols s m))))

  entry_written : (p : PlainEntry) → EntryOf v k p → IsEntry p
  entry_written p (listing t m made) = record {
    word = type_word t m;
    mark = tt;
    value = has_all IsRow (map alone (domain_at k.domains t.0))
        (λ r n. row_written (a_type t.0 t.1) (λ e f. absurd (cc)) r (right_alone k.domains t r n));
  }
  entry_written p (whole s m e) = record {
    word = symbol_word s m;
    mark = tt;
    value = whole_written (a_symbol s.0 s.1) s.1.args refl (true_rows k s)
        (λ r n. right_row k s true r (true_row k s r n));
  }
  entry_written p (certain s m e some) = record {
    word = symbol_word s m;
    mark = ct_name;
    value = has_all IsRow (true_rows k s)
        (λ r n. row_written (a_symbol s.0 s.1) (λ f g. true≢false (sym some ∙ open_true k s e f)) r
        (right_row k s true r (true_row k s r n)));
  }
  entry_written p (denied s m e some) = record {
    word = symbol_word s m;
    mark = cf_name;
    value = has_all IsRow (false_rows k s)
        (λ r n. row_written (a_symbol s.0 s.1) (λ f g. true≢false (sym some ∙ open_false k s e f g)) r
        (right_row k s false r (false_row k s r n)));
  }

  pub entries_written : AllByRecursion IsEntry (entries_of v k)
  entries_written = has_all IsEntry (entries_of v k) (λ p m. entry_written p (entry_kind v k p m))
