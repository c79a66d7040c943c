-- The tokens of what is written, from any place on, are the spelling of a tree that says it.
use Rattle.std.proofs.Common.{◌≡◌, ℕ, suc, ◌+◌, ◌<◌, ◌^◌, Bool, true, false, List, [], ◌∷◌, ◌++◌, length, map, Option}
use Rattle.std.proofs.Common.{Some, None, refl, ap, ◌∙◌, arith}
use Rattle.std.specs.Prelude.{pos, negsuc, option_map, codes, flat_map}
use Rattle.std.specs.List.{AllByRecursion}
use Rattle.std.specs.Fmt.{decimal}
use Rattle.kb_text.specs.Tokens.{decimal as value_of_digits}
use Rattle.kb_logic.specs.declared.elements.Elem.{Elem}
use Rattle.kb_logic.specs.declared.elements.Elem.TheVariants.{Named, Num}
use Rattle.kb_logic.specs.Structures.{EachWith}
use Rattle.grammar.specs.declared.terminal.Terminal.TheVariants as t
use Rattle.grammar.specs.declared.terminal.Outer.TheVariants as o
use Rattle.grammar.specs.Terminals.{Tok, sign as tok_sign}
use Rattle.grammar.specs.Items.{tok_of, single_terminal}
use Rattle.grammar.specs.Trees.{name}
use Rattle.grammar.specs.Spelling.{put_name}
use Rattle.grammar.specs.BlockTrees as raw
use Rattle.grammar.specs.BlockSpelling.{put_header, put_each, put_behind, put_option, put_element, put_item, put_to}
use Rattle.grammar.specs.BlockSpelling.{put_row, put_rows, put_value, put_equal, put_entry, put_structure}
use Rattle.printed_texts.specs.Written.{Part, gap, lexemes_at}
use Rattle.printed_texts.proofs.Numbers.{written}
use Rattle.stage_definitions.specs.Names.{text_of}
use Rattle.stage_definitions.specs.DataEntries.{element_of, mark_name, rows_between}
use Rattle.stage_definitions.specs.DataFacts.{single_element}
use Rattle.printed_texts.specs.Entries.{PlainRow, PlainValue, truth, element, table, PlainEntry}
use Rattle.printed_texts.specs.Parts.{sign, space, PlainBlock, write_each, write_elem, write_next, write_to, write_row}
use Rattle.printed_texts.specs.Parts.{write_next_row, write_rows, write_value, write_mark, write_entry, write_block}
use Rattle.printed_texts.specs.Names.{IsName, IsElem, IsOption, HasItem, IsRow, IsValue, IsEntry, IsBlock}
use Rattle.printed_texts.specs.Saying.{SaysRow, IsAlone, SaysValue, SaysEntry, SaysBlock}

abbrev pub toks_at : ℕ → List Part → List Tok
toks_at p xs = map tok_of (lexemes_at p xs)

-- written at this place, whatever comes after: a tree that says it, and where it ends
pub record Laid {X A : Type 0} (write : X → List Part → List Part) (put : A → List Tok → List Tok) (Says : X → A
    → Type 0) (x : X) (p : ℕ) : Type 0 where
  pub tree : A
  pub end : ℕ
  pub spelled : (rest : List Part) → toks_at p (write x rest) ≡ put tree (toks_at end rest)
  pub says : Says x tree

value_read : (n : ℕ) → n < 2 ^ 63 → value_of_digits (decimal n) ≡ n
value_read n lt = (written n (omega arith)).value

-- ---- elements

abbrev IsElement : Elem → raw.Element → Type 0
IsElement x e = element_of e ≡ x

abbrev IsItem : Elem → raw.RowItem → Type 0
IsItem x i = single_element i ≡ Some x

abbrev IsNext : Elem → ℕ × raw.RowItem → Type 0
IsNext x i = IsItem x i.1

abbrev IsTo : Option Elem → Option (ℕ × raw.Element) → Type 0
IsTo x to = option_map (λ y. element_of y.1) to ≡ x

lay_elem : (x : Elem) → IsElem x → (p : ℕ) → Laid write_elem put_element IsElement x p
unfolding single_terminal
lay_elem (Named n) h p = record {
  tree = raw.named (name n p);
  end = p + length n;
  spelled = λ rest. rw h.free refl;
  says = refl;
}
lay_elem (Num (pos n)) h p = record {
  tree = raw.number n p;
  end = p + length (decimal n);
  spelled =
      λ rest. rw (value_read n h) refl;
  says = refl;
}
lay_elem (Num (negsuc n)) h p = record {
  tree = raw.below_zero p (suc n) (p + 1);
  end =
      (p + 1) + length (decimal (suc n));
  spelled = λ rest. rw (value_read (suc n) h) refl;
  says = refl;
}

lay_item : (x : Elem) → IsElem x → (p : ℕ) → Laid write_elem put_item IsItem x p
lay_item x h p = let e = lay_elem x h p in record {
  tree = raw.item e.tree None;
  end = e.end;
  spelled = e.spelled;
  says = ap Some e.says;
}

-- many, one after the other
module _ {X A : Type 0} (write : X → List Part → List Part) (put : A → List Tok → List Tok) (Says : X → A → Type 0)
    (Is : X → Type 0) (lay : (x : X) → Is x → (p : ℕ) → Laid write put Says x p) where
  lay_each : (xs : List X) → AllByRecursion Is xs → (p : ℕ) → Laid (write_each write) (put_each put)
      (EachWith Says) xs p
  lay_each [] h p = record { tree = []; end = p; spelled = λ rest. refl; says = tt }
  lay_each (x ∷ xs) h p =
      let first = lay x h.0 p in
      let more = lay_each xs h.1 first.end in
      record {
        tree = first.tree ∷ more.tree;
        end = more.end;
        spelled = λ rest. first.spelled (write_each write xs rest) ∙ ap (put first.tree) (more.spelled rest);
        says = (first.says, more.says);
      }

lay_next : (x : Elem) → IsElem x → (p : ℕ) → Laid write_next (put_behind t.Comma put_item) IsNext x p
unfolding single_terminal
lay_next x h p =
    let e = lay_item x h (p + 1) in
    record {
      tree = (p, e.tree);
      end = e.end;
      spelled = λ rest. ap (λ (ts : List Tok). tok_sign t.Comma p ∷ ts)
          (e.spelled rest);
      says = e.says;
    }

lay_to : (o : Option Elem) → IsOption IsElem o → (p : ℕ) → Laid write_to (put_option put_to) IsTo o p
lay_to None h p = record { tree = None; end = p; spelled = λ rest. refl; says = refl }
lay_to (Some x) h p =
    let e = lay_elem x h (p + 2) in
    record {
      tree = Some (p, e.tree);
      end = e.end;
      spelled = λ rest.
          ap (λ (ts : List Tok). tok_sign (t.Outer o.To) p ∷ ts) (e.spelled rest);
      says = ap Some e.says;
    }

-- ---- rows

next_items : (xs : List Elem) (is : List (ℕ × raw.RowItem)) → EachWith IsNext xs is
    → map single_element (map (λ x. x.1) is) ≡ map Some xs
next_items [] [] h = refl
next_items [] (i ∷ is) h = absurd h
next_items (x ∷ xs) [] h = absurd h
next_items (x ∷ xs) (i ∷ is) h = rw (h.0, next_items xs is h.1) refl

abbrev IsReadRow : PlainRow → raw.Row → Type 0
IsReadRow r x = (by_commas : Bool) → IsAlone by_commas r → EachWith SaysRow (r ∷ []) (rows_between by_commas x)

value_said : (value : Option Elem) (to : Option (ℕ × raw.Element)) → IsTo value to
    → option_map element_of (option_map (λ x. x.1) to) ≡ value
value_said value None h = h
value_said value (Some y) h = h

-- a row with elements
items_row : (x : Elem) (xs : List Elem) (value : Option Elem) → AllByRecursion IsElem (x ∷ xs) → IsOption IsElem value
    → (p : ℕ) → Laid write_row put_row IsReadRow (record { args = x ∷ xs; value = value }) p
items_row x xs value h k p =
    let first = lay_item x h.0 p in
    let others = lay_each write_next (put_behind t.Comma put_item) IsNext IsElem lay_next xs h.1 first.end in
    let to = lay_to value k others.end in
    record {
      tree = raw.plain (raw.items first.tree others.tree) to.tree;
      end = to.end;
      spelled = λ rest.
          first.spelled (write_each write_next xs (write_to value rest))
          ∙ ap (put_item first.tree) (others.spelled (write_to value rest)
          ∙ ap (put_each (put_behind t.Comma put_item) others.tree) (to.spelled rest));
      says = λ by_commas alone. read by_commas first.tree others.tree to.tree first.says others.says to.says alone;
    }
  where
    read : (by_commas : Bool) (i : raw.RowItem) (is : List (ℕ × raw.RowItem)) (to : Option (ℕ × raw.Element))
        → IsItem x i → EachWith IsNext xs is → IsTo value to → IsAlone by_commas
        (record { args = x ∷ xs; value = value }) → EachWith SaysRow (record { args = x ∷ xs; value = value } ∷ [])
        (rows_between by_commas (raw.plain (raw.items i is) to))
    read false i is to e es v alone = (
      record {
        items = rw (e, next_items xs is es) refl;
        value =
            value_said value to v;
      },
      tt,
    )
    read true i is (Some y) e es v alone = (record { items = rw (e, next_items xs is es) refl; value = v }, tt)
    read true i is None e es v alone = one xs is es (alone refl)
      where
        one : (us : List Elem) (js : List (ℕ × raw.RowItem)) → EachWith IsNext us js → length (x ∷ us) ≡ 1
            → EachWith SaysRow (record { args = x ∷ us; value = value } ∷ [])
            (rows_between true (raw.plain (raw.items i js) None))
        one [] [] h n = (record { items = rw e refl; value = v }, tt)
        one [] (j ∷ js) h n = absurd h
        one (u ∷ us) js h n = absurd (omega (arith, n))

lay_filled : (args : List Elem) (value : Option Elem) → HasItem args value → AllByRecursion IsElem args
    → IsOption IsElem value → (p : ℕ) → Laid write_row put_row IsReadRow (record { args = args; value = value }) p
lay_filled [] None h k l p = absurd h
lay_filled [] (Some x) h k l p =
    let e = lay_elem x l (p + 2) in
    record {
      tree = raw.only (p, e.tree);
      end = e.end;
      spelled = λ rest. ap (λ (ts : List Tok). tok_sign (t.Outer o.To) p ∷ ts) (e.spelled rest);
      says = λ by_commas alone. (record { items = refl; value = ap Some e.says }, tt);
    }
lay_filled (x ∷ xs) value h k l p = items_row x xs value k l p

lay_row : (r : PlainRow) → IsRow r → (p : ℕ) → Laid write_row put_row IsReadRow r p
lay_row r h p = lay_filled r.args r.value h.filled h.args h.value p

abbrev IsReadNext : PlainRow → ℕ × raw.Row → Type 0
IsReadNext r x = IsReadRow r x.1

lay_next_row : (r : PlainRow) → IsRow r → (p : ℕ) → Laid write_next_row (put_behind (t.Outer o.Semicolon) put_row)
    IsReadNext r p
unfolding single_terminal
lay_next_row r h p =
    let e = lay_row r h ((p + 1) + 1) in
    record {
      tree = (p, e.tree);
      end = e.end;
      spelled = λ rest.
          ap (λ (ts : List Tok). tok_sign (t.Outer o.Semicolon) p ∷ ts) (e.spelled rest);
      says = e.says;
    }

-- ---- tables

each_joined : {X Y : Type 0} (R : X → Y → Type 0) (xs us : List X) (ys vs : List Y) → EachWith R xs ys
    → EachWith R us vs → EachWith R (xs ++ us) (ys ++ vs)
each_joined R [] us [] vs h k = k
each_joined R [] us (y ∷ ys) vs h k = absurd h
each_joined R (x ∷ xs) us [] vs h k = absurd h
each_joined R (x ∷ xs) us (y ∷ ys) vs h k = (h.0, each_joined R xs us ys vs h.1 k)

next_rows : (by_commas : Bool) (rs : List PlainRow) (xs : List (ℕ × raw.Row)) → EachWith IsReadNext rs xs
    → AllByRecursion (IsAlone by_commas) rs → EachWith SaysRow rs
    (flat_map (rows_between by_commas) (map (λ x. x.1) xs))
next_rows by_commas [] [] h k = tt
next_rows by_commas [] (x ∷ xs) h k = absurd h
next_rows by_commas (r ∷ rs) [] h k = absurd h
next_rows by_commas (r ∷ rs) (x ∷ xs) h k = each_joined SaysRow (r ∷ []) rs (rows_between by_commas x.1) _
    (h.0 by_commas k.0) (next_rows by_commas rs xs h.1 k.1)

abbrev IsReadRows : List PlainRow → Option raw.Rows → Type 0
IsReadRows rs x = (p q : ℕ) → SaysValue (table rs) (raw.table p x q)

lay_rows : (rs : List PlainRow) → AllByRecursion IsRow rs → (p : ℕ)
    → Laid write_rows (put_option put_rows) IsReadRows rs p
lay_rows [] h p = record {
  tree = None;
  end = p;
  spelled = λ rest. refl;
  says =
      λ a b. record { lone = refl; braces = refl; rows = λ by_commas alone. tt };
}
lay_rows (r ∷ rs) h p =
    let first = lay_row r h.0 p in
    let others = lay_each write_next_row (put_behind (t.Outer o.Semicolon) put_row) IsReadNext IsRow lay_next_row rs
    h.1 first.end in
    record {
      tree = Some (raw.rows first.tree others.tree None);
      end = others.end;
      spelled = λ rest. first.spelled (write_each write_next_row rs rest)
          ∙ ap (put_row first.tree) (others.spelled rest);
      says = λ a b. record {
        lone = refl;
        braces = refl;
        rows = λ by_commas alone. each_joined SaysRow (r ∷ []) rs (rows_between by_commas first.tree) _
            (first.says by_commas alone.0) (next_rows by_commas rs others.tree others.says alone.1);
      };
    }

lay_value : (v : PlainValue) → IsValue v → (p : ℕ) → Laid write_value put_value SaysValue v p
unfolding single_terminal
lay_value (truth true) h p = record {
  tree = raw.truth_value true p;
  end = p + 4;
  spelled = λ rest. refl;
  says =
      record { lone = refl; braces = refl; rows = λ by_commas alone. (record { items = refl; value = refl }, tt) };
}
lay_value (truth false) h p = record {
  tree = raw.truth_value false p;
  end = p + 5;
  spelled = λ rest. refl;
  says =
      record { lone = refl; braces = refl; rows = λ by_commas alone. tt };
}
lay_value (element x) h p =
    let e = lay_elem x h p in
    record {
      tree = raw.element_value e.tree;
      end = e.end;
      spelled = e.spelled;
      says = record {
        lone = refl;
        braces = refl;
        rows = λ by_commas alone.
            (record { items = refl; value = ap Some e.says }, tt);
      };
    }
lay_value (table rs) h p =
    let rows = lay_rows rs h (p + 1) in
    record {
      tree = raw.table p rows.tree rows.end;
      end = rows.end + 1;
      spelled = λ rest. ap (λ (ts : List Tok). tok_sign t.OpenBrace p ∷ ts) (rows.spelled (sign (codes "}") ∷ rest));
      says = rows.says p rows.end;
    }

-- ---- entries and the block

-- a mark, the = after it, and the spaces round this
record LaidMark (m : Option (List ℕ)) (p : ℕ) : Type 0 where
  tree : Option raw.Mark
  place : ℕ
  end : ℕ
  spelled : (rest : List Part) → toks_at p (write_mark m (space ∷ sign (codes "=") ∷ space ∷ rest))
      ≡ put_equal tree place (toks_at end rest)
  says : option_map text_of (option_map mark_name tree) ≡ m

lay_mark : (m : Option (List ℕ)) → IsOption IsName m → (p : ℕ) → LaidMark m p
unfolding single_terminal
lay_mark None h p = record { tree = None; place = p + 1; end = ((p + 1) + 1) + 1; spelled = λ rest. refl; says = refl }
lay_mark (Some m) h p =
    let q : ℕ = (p + 1) + length m in
    record {
      tree = Some (raw.closed_mark p (name m (p + 1)) q);
      place = (q + 1) + 1;
      end = (((q + 1) + 1) + 1) + 1;
      spelled = λ rest. rw h.free refl;
      says = refl;
    }

lay_entry : (e : PlainEntry) → IsEntry e → (p : ℕ) → Laid write_entry put_entry SaysEntry e p
unfolding single_terminal
lay_entry e h p =
    let start : ℕ = (p + 1) + 1 in
    let mark = lay_mark e.mark h.mark (start + length e.word) in
    let value = lay_value e.value h.value mark.end in
    record {
      tree = raw.entry (name e.word start) mark.tree mark.place value.tree;
      end = value.end + 1;
      spelled = λ rest.
          rw h.word.free (ap (put_name (name e.word start)) (mark.spelled (write_value e.value (gap 10 ∷ rest))
          ∙ ap (put_equal mark.tree mark.place) (value.spelled (gap 10 ∷ rest))));
      says = record { word = refl; mark = mark.says; value = value.says };
    }

pub lay_block : (b : PlainBlock) → IsBlock b → (p : ℕ) → Laid write_block put_structure SaysBlock b p
unfolding single_terminal
lay_block b h p =
    let first : ℕ = (p + 9) + 1 in
    let colon : ℕ = (first + length b.name) + 1 in
    let second : ℕ = (colon + 1) + 1 in
    let brace : ℕ = (second + length b.of) + 1 in
    let entries = lay_each write_entry put_entry SaysEntry IsEntry lay_entry b.entries h.entries ((brace + 1) + 1) in
    record {
      tree = raw.structure (raw.header p (name b.name first) colon (name b.of second) brace) entries.tree entries.end;
      end = (entries.end + 1) + 1;
      spelled = λ rest.
          rw (h.name.free, h.of.free) (ap (λ (ts : List Tok). put_header o.Structure
          (raw.header p (name b.name first) colon (name b.of second) brace) ts)
          (entries.spelled (sign (codes "}") ∷ gap 10 ∷ rest)));
      says = record { name = refl; of = refl; entries = entries.says };
    }
