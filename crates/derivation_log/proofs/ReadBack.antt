-- Bytes begin with the text of one entry at most.
use Rattle.std.proofs.Common.{◌≡◌, ℕ, zero, suc, ◌+◌, ◌≤◌, pos, negsuc, Bool, true, false, List, [], ◌∷◌, All, length}
use Rattle.std.proofs.Common.{if◌then◌else◌, refl, sym, ap, ◌∙◌, subst, arith, ltb, ◌<◌, ◌^◌}
use Rattle.std.specs.Prelude.{◌%◌}
use Rattle.std.proofs.Math.Nat.{mod-eq_of_lt}
use Rattle.std.proofs.lemmas.List.Elements.{All-head, All-tail}
use Rattle.kb_logic.specs.declared.elements.ExtInt.{ExtInt}
use Rattle.kb_logic.specs.declared.elements.ExtInt.TheVariants.{NegInf, Num, PosInf}
use Rattle.lit_core.specs.declared.literals.Lit.{Lit}
use Rattle.ground_core.specs.Problems.{ProblemState}
use Rattle.derivation_log.specs.declared.entries.Entry.{Entry}
use Rattle.derivation_log.specs.declared.entries.Entry.TheVariants as entry
use Rattle.derivation_log.specs.Texts.{put_line, put_entry, literal_field, bound_field, literals_then, numbers_then}
use Rattle.derivation_log.specs.Texts.{fields_of, IsNumber, IsHint, IsLiteral, IsBelow, IsWritten}
use Rattle.derivation_log.specs.declared.fields.Field.{Field}
use Rattle.derivation_log.specs.declared.fields.Field.TheVariants.{Letter, Plain, Minus}
use Rattle.derivation_log.specs.Scans.{literal_with, number_of, literal_of, bound_of, literals_of, behind, numbers_of}
use Rattle.derivation_log.specs.Scans.{entry_of}
use Rattle.derivation_log.specs.Steps.{CheckState, start, after, after_all, Accepts}
use Rattle.derivation_log.specs.Checks.{put_entries, NoStepHere}
use Rattle.derivation_log.specs.Laws.{OneReading, OneAnswer}
use Rattle.derivation_log.proofs.FieldTexts.{IsField, AreFields, lines}

lits-one : (b : Bool) (n : ℕ) (fs : List Field) → 1 ≤ n
    → literals_of ((if b then Plain n else Minus n) ∷ fs) ≡ literal_with b n ∷ literals_of fs
lits-one true zero fs le = absurd (omega arith)
lits-one true (suc n) fs le = refl
lits-one false n fs le = refl

behind-one : (b : Bool) (n : ℕ) (fs : List Field) → 1 ≤ n → behind ((if b then Plain n else Minus n) ∷ fs) ≡ behind fs
behind-one true zero fs le = absurd (omega arith)
behind-one true (suc n) fs le = refl
behind-one false n fs le = refl

one-one : (b : Bool) (n : ℕ) (fs : List Field) → literal_of ((if b then Plain n else Minus n) ∷ fs) ≡ literal_with b n
one-one true n fs = refl
one-one false n fs = refl

lits-back : (ls : List Lit) (fs : List Field) → All IsLiteral ls → literals_of (literals_then ls fs) ≡ ls
lits-back [] fs h = refl
lits-back (l ∷ ls) fs h = lits-one l.positive l.var.0 (literals_then ls fs) (All-head IsLiteral l ls h).0
    ∙ ap (λ x. l ∷ x) (lits-back ls fs (All-tail IsLiteral l ls h))

behind-back : (ls : List Lit) (fs : List Field) → All IsLiteral ls → behind (literals_then ls fs) ≡ fs
behind-back [] fs h = refl
behind-back (l ∷ ls) fs h = behind-one l.positive l.var.0 (literals_then ls fs) (All-head IsLiteral l ls h).0
    ∙ behind-back ls fs (All-tail IsLiteral l ls h)

nums-back : (ns : List ℕ) → All IsHint ns → numbers_of (numbers_then ns []) ≡ ns
nums-back [] h = refl
nums-back (zero ∷ ns) h = absurd (let x : 1 ≤ 0 = (All-head IsHint 0 ns h).0 in omega (arith, x))
nums-back (suc n ∷ ns) h = ap (λ x. suc n ∷ x) (nums-back ns (All-tail IsHint (suc n) ns h))

ext-back : (k : ExtInt) (fs : List Field) → IsBelow k → bound_of (bound_field k ∷ fs) ≡ k
ext-back NegInf fs h = absurd h
ext-back (Num (pos n)) fs h = let x : ltb n (2 ^ 63) ≡ true = grind (arith, h) in rw x refl
ext-back (Num (negsuc n)) fs h = let x : ltb n (2 ^ 63) ≡ true = grind (arith, h) in rw x refl
ext-back PosInf fs h = refl

term-back : (t : ℕ) → t < 2 ^ 32 → t % 2 ^ 32 ≡ t
term-back t h = mod-eq_of_lt h

pub entry-back : (e : Entry) → IsWritten e → entry_of (fields_of e) ≡ e
entry-back (entry.Mark n) h = refl
entry-back (entry.Learnt ls hs) h = let x = lits-back ls (numbers_then hs []) h.0 in let y =
    ap numbers_of (behind-back ls (numbers_then hs []) h.0) ∙ nums-back hs h.1 in cc
entry-back (entry.Sum n ls) h = ap (entry.Sum n) (lits-back ls [] h.1)
entry-back (entry.Bound s t k) h =
    ap (λ n. entry.Bound s n (bound_of (bound_field k ∷ []))) (term-back t h.1)
    ∙ ap (entry.Bound s t) (ext-back k [] h.2)
entry-back (entry.Exclude s ls) h = ap (entry.Exclude s) (lits-back ls [] h.1)
entry-back (entry.Inconsistent ls c) h = let x = lits-back ls (Plain c ∷ []) h.0 in let y =
    ap number_of (behind-back ls (Plain c ∷ []) h.0) in cc
entry-back (entry.Forced l ls c) h = let x = lits-back ls (Plain c ∷ []) h.1 in let y =
    ap number_of (behind-back ls (Plain c ∷ []) h.1) in
    let z : literal_of (literal_field l ∷ literals_then ls (Plain c ∷ [])) ≡ l =
    one-one l.positive l.var.0 (literals_then ls (Plain c ∷ [])) in cc
entry-back (entry.Least t k ls c) h = let w = term-back t h.0 in let x = lits-back ls (Plain c ∷ []) h.2 in let y =
    ap number_of (behind-back ls (Plain c ∷ []) h.2) in let z = ext-back k (literals_then ls (Plain c ∷ [])) h.1 in cc

field-lit : (b : Bool) (n : ℕ) → IsNumber n → IsField (if b then Plain n else Minus n)
field-lit true n h = h
field-lit false n h = h

fields-lits : (ls : List Lit) (fs : List Field) → All IsLiteral ls → AreFields fs → AreFields (literals_then ls fs)
fields-lits [] fs h k = (omega arith, k)
fields-lits (l ∷ ls) fs h k =
    (field-lit l.positive l.var.0 (All-head IsLiteral l ls h).1, fields-lits ls fs (All-tail IsLiteral l ls h) k)

fields-nums : (ns : List ℕ) → All IsHint ns → AreFields (numbers_then ns [])
fields-nums [] h = (omega arith, tt)
fields-nums (n ∷ ns) h = ((All-head IsHint n ns h).1, fields-nums ns (All-tail IsHint n ns h))

field-ext : (k : ExtInt) → IsBelow k → IsField (bound_field k)
field-ext NegInf h = absurd h
field-ext (Num (pos n)) h = omega (arith, h)
field-ext (Num (negsuc n)) h = omega (arith, h)
field-ext PosInf h = tt

-- the Letter of an entry and its other fields
pub record Parted (e : Entry) : Type 0 where
  pub tag : ℕ
  pub others : List Field
  pub is : fields_of e ≡ Letter tag ∷ others
  pub fields : AreFields (Letter tag ∷ others)

pub parted : (e : Entry) → IsWritten e → Parted e
parted (entry.Mark n) h = record { tag = 113; others = Plain n ∷ []; is = refl; fields = (omega arith, (h, tt)) }
parted (entry.Learnt ls hs) h = record {
  tag = 108;
  others = literals_then ls (numbers_then hs []);
  is = refl;
  fields = (omega arith, fields-lits ls (numbers_then hs []) h.0 (fields-nums hs h.1));
}
parted (entry.Sum n ls) h = record {
  tag = 99;
  others = Plain n ∷ literals_then ls [];
  is = refl;
  fields = (omega arith, (h.0, fields-lits ls [] h.1 tt));
}
parted (entry.Bound s t k) h = record {
  tag = 98;
  others = Plain s.0 ∷ Plain t ∷ bound_field k ∷ [];
  is = refl;
  fields = (omega arith, (h.0, (omega (arith, h.1), (field-ext k h.2, tt))));
}
parted (entry.Exclude s ls) h = record {
  tag = 110;
  others = Plain s.0 ∷ literals_then ls [];
  is = refl;
  fields = (omega arith, (h.0, fields-lits ls [] h.1 tt));
}
parted (entry.Inconsistent ls c) h = record {
  tag = 105;
  others = literals_then ls (Plain c ∷ []);
  is = refl;
  fields = (omega arith, fields-lits ls (Plain c ∷ []) h.0 (h.1, tt));
}
parted (entry.Forced l ls c) h = record {
  tag = 102;
  others = literal_field l ∷ literals_then ls (Plain c ∷ []);
  is = refl;
  fields = (omega arith, (field-lit l.positive l.var.0 h.0.1, fields-lits ls (Plain c ∷ []) h.1 (h.2, tt)));
}
parted (entry.Least t k ls c) h = record {
  tag = 109;
  others = Plain t ∷ bound_field k ∷ literals_then ls (Plain c ∷ []);
  is = refl;
  fields = (omega arith, (omega (arith, h.0), (field-ext k h.1, fields-lits ls (Plain c ∷ []) h.2 (h.3, tt))));
}

pub one-reading : OneReading
one-reading d e r s h k same =
    let x = parted d h in
    let y = parted e k in
    let z = lines (Letter x.tag) (Letter y.tag) x.others y.others r s x.fields y.fields
    (ap (λ fs. put_line fs r) (sym x.is) ∙ same ∙ ap (λ fs. put_line fs s) y.is) in
    (sym (entry-back d h) ∙ ap entry_of (x.is ∙ z.0 ∙ sym y.is) ∙ entry-back e k, z.1)

line-some : (c : ℕ) (fs : List Field) (r : List ℕ) → put_line (Letter c ∷ fs) r ≡ [] → ⊥
line-some c [] r e = cc
line-some c (f ∷ fs) r e = cc

entry-some : (e : Entry) (r : List ℕ) → IsWritten e → put_entry e r ≡ [] → ⊥
entry-some e r h is = let x = parted e h in line-some x.tag x.others r (ap (λ fs. put_line fs r) (sym x.is) ∙ is)

entries-twice : (ds es : List Entry) → All IsWritten ds → All IsWritten es → put_entries ds [] ≡ put_entries es []
    → ds ≡ es
entries-twice [] [] h k is = refl
entries-twice [] (e ∷ es) h k is = absurd (entry-some e (put_entries es []) (All-head IsWritten e es k) (sym is))
entries-twice (d ∷ ds) [] h k is = absurd (entry-some d (put_entries ds []) (All-head IsWritten d ds h) is)
entries-twice (d ∷ ds) (e ∷ es) h k is =
    let x = one-reading d e (put_entries ds []) (put_entries es []) (All-head IsWritten d ds h)
    (All-head IsWritten e es k) is in
    let front : d ≡ e = x.0 in
    let rest = entries-twice ds es (All-tail IsWritten d ds h) (All-tail IsWritten e es k) x.1 in
    cc

module _ (p : ProblemState) where
  bad-twice : (st : CheckState) (ds es : List Entry) (r s : List ℕ) → All IsWritten ds → All IsWritten es
      → put_entries ds r ≡ put_entries es s → Accepts p st ds → Accepts p st es → NoStepHere p (after_all st ds) r
      → NoStepHere p (after_all st es) s → length ds ≡ length es
  bad-twice st [] [] r s h k is a b m n = refl
  bad-twice st [] (e ∷ es) r s h k is a b m n = absurd (m.1 e (put_entries es s) (All-head IsWritten e es k) is b.0)
  bad-twice st (d ∷ ds) [] r s h k is a b m n = absurd
      (n.1 d (put_entries ds r) (All-head IsWritten d ds h) (sym is) a.0)
  bad-twice st (d ∷ ds) (e ∷ es) r s h k is a b m n =
      let x = one-reading d e (put_entries ds r) (put_entries es s) (All-head IsWritten d ds h)
      (All-head IsWritten e es k) is in
      let rest = bad-twice (after st d) ds es r s (All-tail IsWritten d ds h) (All-tail IsWritten e es k) x.1 a.1
      (subst (λ y. Accepts p (after st y) es) (sym x.0) b.1) m
      (subst (λ y. NoStepHere p (after_all (after st y) es) s) (sym x.0) n) in
      omega (arith, rest)

  never-both : (st : CheckState) (ds es : List Entry) (s : List ℕ) → All IsWritten ds → All IsWritten es
      → put_entries ds [] ≡ put_entries es s → Accepts p st ds → NoStepHere p (after_all st es) s → ⊥
  never-both st [] [] s h k is a n = n.0 (sym is)
  never-both st [] (e ∷ es) s h k is a n = entry-some e (put_entries es s) (All-head IsWritten e es k) (sym is)
  never-both st (d ∷ ds) [] s h k is a n = n.1 d (put_entries ds []) (All-head IsWritten d ds h) (sym is) a.0
  never-both st (d ∷ ds) (e ∷ es) s h k is a n =
      let x = one-reading d e (put_entries ds []) (put_entries es s) (All-head IsWritten d ds h)
      (All-head IsWritten e es k) is in
      never-both (after st d) ds es s (All-tail IsWritten d ds h) (All-tail IsWritten e es k) x.1 a.1
      (subst (λ y. NoStepHere p (after_all (after st y) es) s) (sym x.0) n)

pub one-answer : OneAnswer
one-answer p bytes = (
  λ xs ys a b. sym a.claims_are ∙ ap (λ es. (after_all (start p) es).claims)
      (entries-twice a.entries b.entries a.written b.written (sym a.text ∙ b.text)) ∙ b.claims_are,
  λ m n a b.
      let x = bad-twice p (start p) a.entries b.entries a.rest b.rest a.written b.written
      (sym a.text ∙ b.text) a.steps b.steps a.bad b.bad in
      a.number ∙ ap (λ i. i + 1) x ∙ sym b.number,
  λ xs n a b. never-both p (start p) a.entries b.entries b.rest a.written b.written (sym a.text ∙ b.text) a.steps b.bad,
)
