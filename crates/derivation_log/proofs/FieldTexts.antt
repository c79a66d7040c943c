-- A line has one list of fields.
use Rattle.std.proofs.Common.{◌≡◌, ℕ, ◌+◌, ◌-◌, ◌*◌, ◌<◌, ◌≤◌, ◌^◌, true, false, List, [], ◌∷◌, ◌++◌, fold}
use Rattle.std.proofs.Common.{if◌then◌else◌, refl, sym, ap, ◌∙◌, arith, eqb, leb}
use Rattle.std.specs.Prelude.{◌/◌, ◌%◌}
use Rattle.std.specs.Fmt.{decimal}
use Rattle.std.proofs.lemmas.Bool.{ne_eqb}
use Rattle.std.proofs.lemmas.List.Sums.{fold-append}
use Rattle.std.proofs.lemmas.Fmt.{decimal_by_steps}
use Rattle.std.proofs.Math.Nat.{div-add-mod}
use Rattle.derivation_log.specs.Texts.{field_text, put_line, IsNumber}
use Rattle.derivation_log.specs.declared.fields.Field.{Field}
use Rattle.derivation_log.specs.declared.fields.Field.TheVariants.{Letter, Plain, Minus, Infinite}

-- no byte is a space or a newline
abbrev pub Clean : List ℕ → Type 0
Clean [] = Unit {0}
Clean (b ∷ bs) = (33 ≤ b) × Clean bs

clean-more : (bs : List ℕ) (b : ℕ) → Clean bs → 33 ≤ b → Clean (bs ++ b ∷ [])
clean-more [] b h le = (le, tt)
clean-more (c ∷ bs) b h le = (h.0, clean-more bs b h.1 le)

-- what stands before the first space or newline
split : (xs ys : List ℕ) (a b : ℕ) (r s : List ℕ) → Clean xs → Clean ys → a < 33 → b < 33 → xs ++ a ∷ r ≡ ys ++ b ∷ s
    → (xs ≡ ys) × (a ≡ b) × (r ≡ s)
split [] [] a b r s h k la lb e = (refl, cc, cc)
split [] (y ∷ ys) a b r s h k la lb e = let same : a ≡ y = cc in absurd (omega (arith, same, k.0, la))
split (x ∷ xs) [] a b r s h k la lb e = let same : x ≡ b = cc in absurd (omega (arith, same, h.0, lb))
split (x ∷ xs) (y ∷ ys) a b r s h k la lb e =
    let same : x ≡ y = cc in
    let rest : xs ++ a ∷ r ≡ ys ++ b ∷ s = cc in
    let is = split xs ys a b r s h.1 k.1 la lb rest in
    let front : xs ≡ ys = is.0 in
    (cc, is.1, is.2)

abbrev pub value : List ℕ → ℕ
value bs = fold (λ n b. 10 * n + (b - 48)) 0 bs

pub record IsDigits (n : ℕ) (ds : List ℕ) : Type 0 where
  pub first : ℕ
  pub others : List ℕ
  pub is : ds ≡ first ∷ others
  pub low : 48 ≤ first
  pub high : first ≤ 57
  pub clean : Clean ds
  pub worth : value ds ≡ n

one_digit : (n : ℕ) → n < 10 → IsDigits n ((48 + n) ∷ [])
one_digit n lt = record {
  first = 48 + n;
  others = [];
  is = refl;
  low = omega arith;
  high = omega arith;
  clean = (omega arith, tt);
  worth = omega arith;
}

more_digits : (n : ℕ) (ds : List ℕ) → 10 ≤ n → IsDigits (n / 10) ds → IsDigits n (ds ++ (48 + n % 10) ∷ [])
more_digits n ds le w = record {
  first = w.first;
  others = w.others ++ (48 + n % 10) ∷ [];
  is = ap (λ xs. xs ++ (48 + n % 10) ∷ []) w.is;
  low = w.low;
  high = w.high;
  clean = clean-more ds (48 + n % 10) w.clean (omega arith);
  worth =
      let all : value (ds ++ (48 + n % 10) ∷ []) ≡ 10 * value ds + ((48 + n % 10) - 48) =
      fold-append (λ m b. 10 * m + (b - 48)) 0 ds ((48 + n % 10) ∷ []) in
      let front = w.worth in
      omega (arith, all, front, div-add-mod n 10);
}

pub digits : (n : ℕ) → n < 2 ^ 64 → IsDigits n (decimal n)
digits = decimal_by_steps IsDigits one_digit more_digits

abbrev pub IsField : Field → Type 0
IsField (Letter c) = 58 ≤ c
IsField (Plain n) = IsNumber n
IsField (Minus n) = IsNumber n
IsField Infinite = Unit {0}

abbrev pub AreFields : List Field → Type 0
AreFields [] = Unit {0}
AreFields (f ∷ fs) = IsField f × AreFields fs

-- the field with this text
abbrev pub field_of : List ℕ → Field
field_of [] = Infinite
field_of (b ∷ bs) = if eqb b 45 then Minus (value bs) else if eqb b 43 then Infinite else if leb b 57 then Plain
    (value (b ∷ bs)) else Letter b

pub record IsRead (f : Field) : Type 0 where
  pub clean : Clean (field_text f)
  pub back : field_of (field_text f) ≡ f

of_digit : (b : ℕ) (bs : List ℕ) → 48 ≤ b → b ≤ 57 → field_of (b ∷ bs) ≡ Plain (value (b ∷ bs))
of_digit b bs low high =
    let x : eqb b 45 ≡ false = ne_eqb b 45 (λ e. omega (arith, e, low)) in
    let y : eqb b 43 ≡ false = ne_eqb b 43 (λ e. omega (arith, e, low)) in
    let z : leb b 57 ≡ true = grind (arith, high) in
    rw (x, y, z) refl

of_letter : (c : ℕ) → 58 ≤ c → field_of (c ∷ []) ≡ Letter c
of_letter b low =
    let x : eqb b 45 ≡ false = ne_eqb b 45 (λ e. omega (arith, e, low)) in
    let y : eqb b 43 ≡ false = ne_eqb b 43 (λ e. omega (arith, e, low)) in
    let z : leb b 57 ≡ false = grind (arith, low) in
    rw (x, y, z) refl

pub read : (f : Field) → IsField f → IsRead f
read (Letter c) h = record { clean = (omega (arith, h), tt); back = of_letter c h }
read (Plain n) h =
    let d = digits n h in
    record {
      clean = d.clean;
      back = ap field_of d.is ∙ of_digit d.first d.others d.low d.high
          ∙ ap (λ xs. Plain (value xs)) (sym d.is) ∙ ap Plain d.worth;
    }
read (Minus n) h = let d = digits n h in record { clean = (omega arith, d.clean); back = ap Minus d.worth }
read Infinite h = record { clean = (omega arith, (omega arith, (omega arith, (omega arith, tt)))); back = refl }

same : (f g : Field) → IsField f → IsField g → field_text f ≡ field_text g → f ≡ g
same f g h k e = sym (read f h).back ∙ ap field_of e ∙ (read g k).back

pub lines : (f g : Field) (fs gs : List Field) (r s : List ℕ) → AreFields (f ∷ fs) → AreFields (g ∷ gs)
    → put_line (f ∷ fs) r ≡ put_line (g ∷ gs) s → (f ∷ fs ≡ g ∷ gs) × (r ≡ s)
lines f g [] [] r s h k e =
    let x = split (field_text f) (field_text g) 10 10 r s (read f h.0).clean (read g k.0).clean (omega arith)
    (omega arith) e in
    (ap (λ y. y ∷ []) (same f g h.0 k.0 x.0), x.2)
lines f g [] (b ∷ gs) r s h k e =
    let x = split (field_text f) (field_text g) 10 32 r (put_line (b ∷ gs) s) (read f h.0).clean (read g k.0).clean
    (omega arith) (omega arith) e in
    absurd (let y : 10 ≡ 32 = x.1 in omega (arith, y))
lines f g (a ∷ fs) [] r s h k e =
    let x = split (field_text f) (field_text g) 32 10 (put_line (a ∷ fs) r) s (read f h.0).clean (read g k.0).clean
    (omega arith) (omega arith) e in
    absurd (let y : 32 ≡ 10 = x.1 in omega (arith, y))
lines f g (a ∷ fs) (b ∷ gs) r s h k e =
    let x = split (field_text f) (field_text g) 32 32 (put_line (a ∷ fs) r) (put_line (b ∷ gs) s) (read f h.0).clean
    (read g k.0).clean (omega arith) (omega arith) e in
    let y = lines a b fs gs r s h.1 k.1 x.2 in
    let one : f ≡ g = same f g h.0 k.0 x.0 in
    let rest : a ∷ fs ≡ b ∷ gs = y.0 in
    (cc, y.1)
