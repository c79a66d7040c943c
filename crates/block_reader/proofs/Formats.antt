-- How parts are written, how they begin and what may follow them; and what follows for parts that are made of parts.
use Rattle.std.proofs.Common.{◌≡◌, ℕ, List, [], ◌∷◌, ◌++◌, append-nil, Option, Some, None, ◌⊎◌, inl, inr, refl, sym, ap}
use Rattle.std.proofs.Common.{ap₂, subst, ◌∙◌}
use Rattle.grammar.specs.declared.stops.ReadError.{ReadError}
use Rattle.grammar.specs.declared.stops.ReadError.TheVariants.{Memory, Stuck}
use Rattle.grammar.specs.declared.terminal.Terminal.{Terminal}
use Rattle.grammar.specs.Terminals.{Symbol, Tok, tok_at, mark}
use Rattle.grammar.specs.Trees.{Name, name}
use Rattle.grammar.specs.Spelling.{put_name}
use Rattle.grammar.specs.Texts.{SameHead}
use Rattle.grammar.specs.BlockSpelling.{put_option, put_each, put_sign}
use Rattle.grammar.specs.BlockFine.{FineEach}
use Rattle.block_reader.specs.BlockParts.{Anything, StuckIn, StuckAt}
use Rattle.token_reader.specs.Signs.{next, No, AWord}

pub record Format (A : Type 0) : Type 1 where
  pub put : A → List Tok → List Tok
  pub Fine : A → Type 0
  pub First : Option Symbol → Type 0
  pub Next : Option Symbol → Type 0

pub record Law {A : Type 0} (F : Format A) : Type 0 where
  pub some : A
  pub some_fine : F.Fine some
  pub appends : (a : A) (x y : List Tok) → F.put a (x ++ y) ≡ F.put a x ++ y
  pub first : (a : A) (ts : List Tok) → F.Fine a → F.Next (next ts) → F.First (next (F.put a ts))
  pub only : (a b : A) (m n : List Tok) → F.Fine a → F.Fine b → F.Next (next m) → F.Next (next n)
      → F.put a m ≡ F.put b n → (a ≡ b) × (m ≡ n)

-- stuck in the text of an F
abbrev pub Here : {A : Type 0} → Format A → List Tok → List Tok → Type 0
Here F ts rest = StuckIn F.put F.Fine F.Next ts rest

-- what begins the one may follow the other
abbrev pub Into : (Option Symbol → Type 0) → (Option Symbol → Type 0) → Type 0
Into P Q = (s : Option Symbol) → P s → Q s

abbrev pub Apart : (Option Symbol → Type 0) → (Option Symbol → Type 0) → Type 0
Apart P Q = (s : Option Symbol) → P s → Q s → ⊥

-- ---- the next token

pub same_next : (ts us : List Tok) → SameHead ts us → next ts ≡ next us
same_next [] [] h = refl
same_next [] (v ∷ vs) h = elim h [ ]
same_next (t ∷ ts) [] h = elim h [ ]
same_next (tok_at s p ∷ ts) (tok_at r q ∷ us) h = cc

pub front_next : (front rest more : List Tok) → next rest ≡ next more → next (front ++ rest) ≡ next (front ++ more)
front_next [] rest more h = h
front_next (tok_at s p ∷ front) rest more h = refl

-- what comes here also comes where the text goes on otherwise after it
pub comes_too : (ts front rest more : List Tok) → ts ≡ front ++ rest → SameHead rest more
    → next ts ≡ next (front ++ more)
comes_too ts front rest more e same = ap next e ∙ front_next front rest more (same_next rest more same)

pub not_first : {A : Type 0} {F : Format A} → Law F → (ts : List Tok) → (F.First (next ts) → ⊥) → Here F ts ts
not_first {A} {F} l ts h = record {
  front = [];
  split = refl;
  dead = λ a more after same fine n e. h (subst F.First (sym (same_next ts more same ∙ ap next e))
      (l.first a after fine n));
  viable = λ after. (l.some, F.put l.some after, l.some_fine, refl);
}

-- ---- a sign, and a name

abbrev pub sign_format : Terminal → Format ℕ
sign_format t = record { put = put_sign t; Fine = λ p. Unit {0}; First = λ s. s ≡ Some (mark t); Next = Anything }

pub sign_law : (t : Terminal) → Law (sign_format t)
sign_law t = record {
  some = 0;
  some_fine = tt;
  appends = λ a x y. refl;
  first = λ a ts h n. refl;
  only = λ a b m n h k z w e. (cc, cc);
}

abbrev pub name_format : Format Name
name_format = record { put = put_name; Fine = λ n. Unit {0}; First = AWord; Next = Anything }

name_appends : (a : Name) (x y : List Tok) → put_name a (x ++ y) ≡ put_name a x ++ y
name_appends (name w p) x y = refl

pub name_first : (a : Name) (ts : List Tok) → AWord (next (put_name a ts))
name_first (name w p) ts = tt

name_only : (a b : Name) (m n : List Tok) → put_name a m ≡ put_name b n → (a ≡ b) × (m ≡ n)
name_only (name w p) (name v q) m n e = (cc, cc)

pub name_law : Law name_format
name_law = record {
  some = name [] 0;
  some_fine = tt;
  appends = name_appends;
  first = λ a ts h n. name_first a ts;
  only = λ a b m n h k z w e. name_only a b m n e;
}

-- ---- one part, and then another

abbrev pub then : {A B : Type 0} → Format A → Format B → Format (A × B)
then F G = record {
  put = λ x ts. F.put x.0 (G.put x.1 ts);
  Fine = λ x. F.Fine x.0 × G.Fine x.1;
  First = F.First;
  Next = G.Next;
}

pub then_law : {A B : Type 0} {F : Format A} {G : Format B} → Law F → Law G → Into G.First F.Next → Law (then F G)
then_law {A} {B} {F} {G} lf lg into = record {
  some = (lf.some, lg.some);
  some_fine = (lf.some_fine, lg.some_fine);
  appends = λ a x y. ap (F.put a.0) (lg.appends a.1 x y) ∙ lf.appends a.0 (G.put a.1 x) y;
  first = λ a ts h n. lf.first a.0 (G.put a.1 ts) h.0 (into (next (G.put a.1 ts)) (lg.first a.1 ts h.1 n));
  only = λ a b m n h k z w e.
      let f = lf.only a.0 b.0 (G.put a.1 m) (G.put b.1 n) h.0 k.0 (into (next (G.put a.1 m)) (lg.first a.1 m h.1 z))
      (into (next (G.put b.1 n)) (lg.first b.1 n k.1 w)) e in
      let g = lg.only a.1 b.1 m n h.1 k.1 z w f.1 in
      (pair_is a b f.0 g.0, g.1);
}
  where
    pair_is : {X Y : Type 0} (a b : X × Y) → a.0 ≡ b.0 → a.1 ≡ b.1 → a ≡ b
    pair_is a b e f = ap₂ (λ x y. (x, y)) e f

-- stuck in the first
pub then_first : {A B : Type 0} {F : Format A} {G : Format B} → Law F → Law G → Into G.First F.Next
    → (ts rest : List Tok) → Here F ts rest → Here (then F G) ts rest
then_first {A} {B} {F} {G} lf lg into ts rest h = record {
  front = h.front;
  split = h.split;
  dead = λ x more after same fine n e. h.dead x.0 more (G.put x.1 after) same fine.0
      (into (next (G.put x.1 after)) (lg.first x.1 after fine.1 n)) e;
  viable = λ after. let v = h.viable (G.put lg.some after) in ((v.0, lg.some), v.1, (v.2, lg.some_fine), v.3);
}

-- stuck after it
pub then_second : {A B : Type 0} {F : Format A} {G : Format B} → Law F → Law G → Into G.First F.Next → (a : A)
    → F.Fine a → (ts us rest : List Tok) → ts ≡ F.put a us → F.Next (next us) → Here G us rest → Here (then F G) ts rest
then_second {A} {B} {F} {G} lf lg into a fine_a ts us rest is may h = record {
  front = F.put a h.front;
  split = is ∙ ap (F.put a) h.split ∙ lf.appends a h.front rest;
  dead = λ x more after same fine n e.
      let f = lf.only a x.0 (h.front ++ more) (G.put x.1 after) fine_a fine.0
      (subst F.Next (comes_too us h.front rest more h.split same) may)
      (into (next (G.put x.1 after)) (lg.first x.1 after fine.1 n)) (lf.appends a h.front more ∙ e) in
      h.dead x.1 more after same fine.1 n f.1;
  viable = λ after. let v = h.viable after in (
    (a, v.0),
    v.1,
    (fine_a, v.2),
    sym (lf.appends a h.front v.1)
        ∙ ap (F.put a) v.3,
  );
}

-- ---- a part that may be left out, where N says what comes then

abbrev pub FineOption : {A : Type 0} → (A → Type 0) → Option A → Type 0
FineOption Fine None = Unit {0}
FineOption Fine (Some a) = Fine a

abbrev pub option : {A : Type 0} → Format A → (Option Symbol → Type 0) → Format (Option A)
option F N = record { put = put_option F.put; Fine = FineOption F.Fine; First = λ s. F.First s ⊎ N s; Next = N }

-- an item or what follows the last one: N may follow an item, and begins none
pub record Optional {A : Type 0} (F : Format A) (N : Option Symbol → Type 0) : Type 0 where
  pub law : Law F
  pub ends : Into N F.Next
  pub apart : Apart N F.First

option_appends : {A : Type 0} {F : Format A} → Law F → (a : Option A) (x y : List Tok) → put_option F.put a (x ++ y)
    ≡ put_option F.put a x ++ y
option_appends l None x y = refl
option_appends l (Some a) x y = l.appends a x y

option_first : {A : Type 0} {F : Format A} {N : Option Symbol → Type 0} → Optional F N → (a : Option A) (ts : List Tok)
    → FineOption F.Fine a → N (next ts) → F.First (next (put_option F.put a ts)) ⊎ N (next (put_option F.put a ts))
option_first o None ts h n = inr n
option_first o (Some a) ts h n = inl (o.law.first a ts h (o.ends (next ts) n))

option_only : {A : Type 0} {F : Format A} {N : Option Symbol → Type 0} → Optional F N
    → (a b : Option A) (m n : List Tok) → FineOption F.Fine a → FineOption F.Fine b → N (next m) → N (next n)
    → put_option F.put a m ≡ put_option F.put b n → (a ≡ b) × (m ≡ n)
option_only o None None m n h k z w e = (refl, e)
option_only {A} {F} o None (Some b) m n h k z w e = absurd (o.apart (next m) z
    (subst F.First (sym (ap next e)) (o.law.first b n k (o.ends (next n) w))))
option_only {A} {F} o (Some a) None m n h k z w e = absurd (o.apart (next n) w
    (subst F.First (ap next e) (o.law.first a m h (o.ends (next m) z))))
option_only o (Some a) (Some b) m n h k z w e = let r = o.law.only a b m n h k (o.ends (next m) z) (o.ends (next n) w) e
    in (ap Some r.0, r.1)

pub option_law : {A : Type 0} {F : Format A} {N : Option Symbol → Type 0} → Optional F N → Law (option F N)
option_law o = record {
  some = None;
  some_fine = tt;
  appends = option_appends o.law;
  first = option_first o;
  only = option_only o;
}

option_dead : {A : Type 0} {F : Format A} {N : Option Symbol → Type 0} → Optional F N → (ts rest : List Tok)
    → (N (next ts) → ⊥) → (h : Here F ts rest)
    → (a : Option A) (more after : List Tok) → SameHead rest more → FineOption F.Fine a → N (next after)
    → h.front ++ more ≡ put_option F.put a after → ⊥
option_dead {A} {F} {N} o ts rest never h None more after same fine n e =
    never (subst N (sym (comes_too ts h.front rest more h.split same ∙ ap next e)) n)
option_dead o ts rest never h (Some a) more after same fine n e =
    h.dead a more after same fine (o.ends (next after) n) e

-- stuck in it, where it is not left out
pub option_in : {A : Type 0} {F : Format A} {N : Option Symbol → Type 0} → Optional F N → (ts rest : List Tok)
    → (N (next ts) → ⊥) → Here F ts rest → Here (option F N) ts rest
option_in o ts rest never h = record {
  front = h.front;
  split = h.split;
  dead = option_dead o ts rest never h;
  viable = λ after. let v = h.viable after in (Some v.0, v.1, v.2, v.3);
}

-- ---- any number of a part, where N says what follows the last

abbrev pub each : {A : Type 0} → Format A → (Option Symbol → Type 0) → Format (List A)
each F N = record { put = put_each F.put; Fine = FineEach F.Fine; First = λ s. F.First s ⊎ N s; Next = N }

pub record Several {A : Type 0} (F : Format A) (N : Option Symbol → Type 0) : Type 0 where
  pub law : Law F
  pub ends : Into N F.Next
  pub apart : Apart N F.First
  pub follows : Into F.First F.Next

each_appends : {A : Type 0} {F : Format A} → Law F → (xs : List A) (x y : List Tok) → put_each F.put xs (x ++ y)
    ≡ put_each F.put xs x ++ y
each_appends l [] x y = refl
each_appends {A} {F} l (a ∷ xs) x y = ap (F.put a) (each_appends l xs x y) ∙ l.appends a (put_each F.put xs x) y

pub each_next : {A : Type 0} {F : Format A} {N : Option Symbol → Type 0} → Several F N → (xs : List A) (ts : List Tok)
    → FineEach F.Fine xs → F.Next (next ts) → F.Next (next (put_each F.put xs ts))
each_next o [] ts h n = n
each_next {A} {F} o (a ∷ xs) ts h n = o.follows (next (put_each F.put (a ∷ xs) ts))
    (o.law.first a (put_each F.put xs ts) h.0 (each_next o xs ts h.1 n))

each_first : {A : Type 0} {F : Format A} {N : Option Symbol → Type 0} → Several F N → (xs : List A) (ts : List Tok)
    → FineEach F.Fine xs → N (next ts) → F.First (next (put_each F.put xs ts)) ⊎ N (next (put_each F.put xs ts))
each_first o [] ts h n = inr n
each_first {A} {F} o (a ∷ xs) ts h n = inl (o.law.first a (put_each F.put xs ts) h.0
    (each_next o xs ts h.1 (o.ends (next ts) n)))

-- of the same text, these are the first and what follows them is written by the others
pub each_cut : {A : Type 0} {F : Format A} {N : Option Symbol → Type 0} → Several F N
    → (xs ys : List A) (m n : List Tok) → FineEach F.Fine xs → FineEach F.Fine ys → F.Next (next m) → N (next n)
    → put_each F.put xs m ≡ put_each F.put ys n → (zs : List A) × (ys ≡ xs ++ zs) × FineEach F.Fine zs
    × (m ≡ put_each F.put zs n)
each_cut o [] ys m n h k z w e = (ys, refl, k, e)
each_cut {A} {F} o (a ∷ xs) [] m n h k z w e = absurd (o.apart (next n) w
    (subst F.First (ap next e) (o.law.first a (put_each F.put xs m) h.0 (each_next o xs m h.1 z))))
each_cut {A} {F} o (a ∷ xs) (b ∷ ys) m n h k z w e =
    let f = o.law.only a b (put_each F.put xs m) (put_each F.put ys n) h.0 k.0 (each_next o xs m h.1 z)
    (each_next o ys n k.1 (o.ends (next n) w)) e in
    let r = each_cut o xs ys m n h.1 k.1 z w f.1 in
    (r.0, ap₂ (λ (x : A) (zs : List A). x ∷ zs) (sym f.0) r.1, r.2, r.3)

all_cut : {A : Type 0} {F : Format A} {N : Option Symbol → Type 0} → Several F N → (xs ys zs : List A) (m n : List Tok)
    → ys ≡ xs ++ zs → FineEach F.Fine zs → N (next m) → N (next n) → m ≡ put_each F.put zs n → (xs ≡ ys) × (m ≡ n)
all_cut o xs ys [] m n e h z w is = (sym (e ∙ append-nil xs), is)
all_cut {A} {F} o xs ys (a ∷ zs) m n e h z w is = absurd (o.apart (next m) z
    (subst F.First (sym (ap next is)) (o.law.first a (put_each F.put zs n) h.0
    (each_next o zs n h.1 (o.ends (next n) w)))))

pub each_law : {A : Type 0} {F : Format A} {N : Option Symbol → Type 0} → Several F N → Law (each F N)
each_law o = record {
  some = [];
  some_fine = tt;
  appends = each_appends o.law;
  first = each_first o;
  only = λ a b m n h k z w e.
      let r = each_cut o a b m n h k (o.ends (next m) z) w e in
      all_cut o a b r.0 m n r.1 r.2 z w r.3;
}

each_dead : {A : Type 0} {F : Format A} {N : Option Symbol → Type 0} → Several F N → (us rest : List Tok)
    → (N (next us) → ⊥) → (h : Here F us rest)
    → (zs : List A) (more after : List Tok) → SameHead rest more → FineEach F.Fine zs → N (next after)
    → h.front ++ more ≡ put_each F.put zs after → ⊥
each_dead {A} {F} {N} o us rest never h [] more after same fine n e =
    never (subst N (sym (comes_too us h.front rest more h.split same ∙ ap next e)) n)
each_dead {A} {F} o us rest never h (a ∷ zs) more after same fine n e =
    h.dead a more (put_each F.put zs after) same fine.0 (each_next o zs after fine.1 (o.ends (next after) n)) e

pub push_fine : {A : Type 0} (F : Format A) → (xs : List A) (a : A) → FineEach F.Fine xs → F.Fine a
    → FineEach F.Fine (xs ++ a ∷ [])
push_fine F [] a h k = (k, tt)
push_fine F (x ∷ xs) a h k = (h.0, push_fine F xs a h.1 k)

pub push_put : {A : Type 0} (F : Format A) → (xs : List A) (a : A) (ts : List Tok) → put_each F.put (xs ++ a ∷ []) ts
    ≡ put_each F.put xs (F.put a ts)
push_put F [] a ts = refl
push_put F (x ∷ xs) a ts = ap (F.put x) (push_put F xs a ts)

-- stuck in an item after these
pub each_in : {A : Type 0} {F : Format A} {N : Option Symbol → Type 0} → Several F N → (xs : List A)
    → FineEach F.Fine xs → (ts us rest : List Tok) → ts ≡ put_each F.put xs us → F.Next (next us) → (N (next us) → ⊥)
    → Here F us rest → Here (each F N) ts rest
each_in {A} {F} {N} o xs fine_xs ts us rest is may never h = record {
  front = put_each F.put xs h.front;
  split = is ∙ ap (put_each F.put xs) h.split ∙ each_appends o.law xs h.front rest;
  dead = λ ys more after same fine n e.
      let r = each_cut o xs ys (h.front ++ more) after fine_xs fine
      (subst F.Next (comes_too us h.front rest more h.split same) may) n (each_appends o.law xs h.front more ∙ e) in
      each_dead o us rest never h r.0 more after same r.2 n r.3;
  viable = λ after.
      let v = h.viable after in (
        xs ++ v.0 ∷ [],
        v.1,
        push_fine F xs v.0 fine_xs v.2,
        sym (each_appends o.law xs h.front v.1)
            ∙ ap (put_each F.put xs) v.3 ∙ sym (push_put F xs v.0 after),
      );
}

-- stuck in the first item
pub each_here : {A : Type 0} {F : Format A} {N : Option Symbol → Type 0} → Several F N → (ts rest : List Tok)
    → (N (next ts) → ⊥) → Here F ts rest → Here (each F N) ts rest
each_here o ts rest never h = record {
  front = h.front;
  split = h.split;
  dead = each_dead o ts rest never h;
  viable = λ after. let v = h.viable after in (v.0 ∷ [], v.1, (v.2, tt), v.3);
}

-- one item more
pub each_step : {A : Type 0} (F : Format A) (xs : List A) (a : A) (ts us last : List Tok) → ts ≡ put_each F.put xs us
    → us ≡ F.put a last → ts ≡ put_each F.put (xs ++ a ∷ []) last
each_step F xs a ts us last is e = is ∙ ap (put_each F.put xs) e ∙ sym (push_put F xs a last)

-- ---- one part or another

abbrev pub put_either : {A B : Type 0} → (A → List Tok → List Tok) → (B → List Tok → List Tok) → A ⊎ B
    → List Tok → List Tok
put_either f g (inl a) ts = f a ts
put_either f g (inr b) ts = g b ts

abbrev pub FineEither : {A B : Type 0} → (A → Type 0) → (B → Type 0) → A ⊎ B → Type 0
FineEither P Q (inl a) = P a
FineEither P Q (inr b) = Q b

abbrev pub either : {A B : Type 0} → Format A → Format B → (Option Symbol → Type 0) → Format (A ⊎ B)
either F G N = record {
  put = put_either F.put G.put;
  Fine = FineEither F.Fine G.Fine;
  First =
      λ s. F.First s ⊎ G.First s;
  Next = N;
}

pub record Alternatives {A B : Type 0} (F : Format A) (G : Format B) (N : Option Symbol → Type 0) : Type 0 where
  pub left : Law F
  pub right : Law G
  pub apart : Apart F.First G.First
  pub ends_left : Into N F.Next
  pub ends_right : Into N G.Next

either_appends : {A B : Type 0} {F : Format A} {G : Format B} → Law F → Law G → (a : A ⊎ B) (x y : List Tok)
    → put_either F.put G.put a (x ++ y) ≡ put_either F.put G.put a x ++ y
either_appends l r (inl a) x y = l.appends a x y
either_appends l r (inr b) x y = r.appends b x y

either_first : {A B : Type 0} {F : Format A} {G : Format B} {N : Option Symbol → Type 0} → Alternatives F G N
    → (a : A ⊎ B) (ts : List Tok) → FineEither F.Fine G.Fine a → N (next ts)
    → F.First (next (put_either F.put G.put a ts)) ⊎ G.First (next (put_either F.put G.put a ts))
either_first o (inl a) ts h n = inl (o.left.first a ts h (o.ends_left (next ts) n))
either_first o (inr b) ts h n = inr (o.right.first b ts h (o.ends_right (next ts) n))

either_only : {A B : Type 0} {F : Format A} {G : Format B} {N : Option Symbol → Type 0} → Alternatives F G N
    → (a b : A ⊎ B) (m n : List Tok) → FineEither F.Fine G.Fine a → FineEither F.Fine G.Fine b → N (next m) → N (next n)
    → put_either F.put G.put a m ≡ put_either F.put G.put b n → (a ≡ b) × (m ≡ n)
either_only o (inl a) (inl b) m n h k z w e = let r = o.left.only a b m n h k (o.ends_left (next m) z)
    (o.ends_left (next n) w) e in (ap inl r.0, r.1)
either_only {A} {B} {F} {G} o (inl a) (inr b) m n h k z w e =
    absurd (o.apart (next (F.put a m)) (o.left.first a m h (o.ends_left (next m) z))
    (subst G.First (sym (ap next e)) (o.right.first b n k (o.ends_right (next n) w))))
either_only {A} {B} {F} {G} o (inr a) (inl b) m n h k z w e =
    absurd (o.apart (next (F.put b n)) (o.left.first b n k (o.ends_left (next n) w))
    (subst G.First (ap next e) (o.right.first a m h (o.ends_right (next m) z))))
either_only o (inr a) (inr b) m n h k z w e = let r = o.right.only a b m n h k (o.ends_right (next m) z)
    (o.ends_right (next n) w) e in (ap inr r.0, r.1)

pub either_law : {A B : Type 0} {F : Format A} {G : Format B} {N : Option Symbol → Type 0} → Alternatives F G N
    → Law (either F G N)
either_law o = record {
  some = inl o.left.some;
  some_fine = o.left.some_fine;
  appends = either_appends o.left o.right;
  first = either_first o;
  only = either_only o;
}

left_dead : {A B : Type 0} {F : Format A} {G : Format B} {N : Option Symbol → Type 0} → Alternatives F G N
    → (ts rest : List Tok) → (G.First (next ts) → ⊥) → (h : Here F ts rest)
    → (a : A ⊎ B) (more after : List Tok) → SameHead rest more → FineEither F.Fine G.Fine a → N (next after)
    → h.front ++ more ≡ put_either F.put G.put a after → ⊥
left_dead o ts rest never h (inl a) more after same fine n e =
    h.dead a more after same fine (o.ends_left (next after) n) e
left_dead {A} {B} {F} {G} o ts rest never h (inr b) more after same fine n e =
    never (subst G.First (sym (comes_too ts h.front rest more h.split same ∙ ap next e))
    (o.right.first b after fine (o.ends_right (next after) n)))

pub either_left : {A B : Type 0} {F : Format A} {G : Format B} {N : Option Symbol → Type 0} → Alternatives F G N
    → (ts rest : List Tok) → (G.First (next ts) → ⊥) → Here F ts rest → Here (either F G N) ts rest
either_left o ts rest never h = record {
  front = h.front;
  split = h.split;
  dead = left_dead o ts rest never h;
  viable = λ after. let v = h.viable after in (inl v.0, v.1, v.2, v.3);
}

right_dead : {A B : Type 0} {F : Format A} {G : Format B} {N : Option Symbol → Type 0} → Alternatives F G N
    → (ts rest : List Tok) → (F.First (next ts) → ⊥) → (h : Here G ts rest)
    → (a : A ⊎ B) (more after : List Tok) → SameHead rest more → FineEither F.Fine G.Fine a → N (next after)
    → h.front ++ more ≡ put_either F.put G.put a after → ⊥
right_dead {A} {B} {F} o ts rest never h (inl a) more after same fine n e =
    never (subst F.First (sym (comes_too ts h.front rest more h.split same ∙ ap next e))
    (o.left.first a after fine (o.ends_left (next after) n)))
right_dead o ts rest never h (inr b) more after same fine n e =
    h.dead b more after same fine (o.ends_right (next after) n) e

pub either_right : {A B : Type 0} {F : Format A} {G : Format B} {N : Option Symbol → Type 0} → Alternatives F G N
    → (ts rest : List Tok) → (F.First (next ts) → ⊥) → Here G ts rest → Here (either F G N) ts rest
either_right o ts rest never h = record {
  front = h.front;
  split = h.split;
  dead = right_dead o ts rest never h;
  viable = λ after. let v = h.viable after in (inr v.0, v.1, v.2, v.3);
}

-- ---- the same texts by other trees

pub record Same {A B : Type 0} (F : Format A) (G : Format B) : Type 0 where
  pub to : A → B
  pub from : B → A
  pub there : (a : A) → from (to a) ≡ a
  pub written : (a : A) (ts : List Tok) → F.put a ts ≡ G.put (to a) ts
  pub back : (b : B) (ts : List Tok) → F.put (from b) ts ≡ G.put b ts
  pub fine : (a : A) → F.Fine a → G.Fine (to a)
  pub fine_back : (b : B) → G.Fine b → F.Fine (from b)
  pub ends : Into F.Next G.Next
  pub begins : Into G.First F.First

pub same_law : {A B : Type 0} {F : Format A} {G : Format B} → Same F G → Law G → Law F
same_law {A} {B} {F} {G} s l = record {
  some = s.from l.some;
  some_fine = s.fine_back l.some l.some_fine;
  appends = λ a x y. s.written a (x ++ y) ∙ l.appends (s.to a) x y ∙ ap (λ (ts : List Tok). ts ++ y)
      (sym (s.written a x));
  first = λ a ts h n. s.begins (next (F.put a ts)) (subst G.First (sym (ap next (s.written a ts)))
      (l.first (s.to a) ts (s.fine a h) (s.ends (next ts) n)));
  only = λ a b m n h k z w e.
      let r = l.only (s.to a) (s.to b) m n (s.fine a h) (s.fine b k) (s.ends (next m) z) (s.ends (next n) w)
      (sym (s.written a m) ∙ e ∙ s.written b n) in
      (sym (s.there a) ∙ ap s.from r.0 ∙ s.there b, r.1);
}

pub same_in : {A B : Type 0} {F : Format A} {G : Format B} → Same F G → (ts rest : List Tok) → Here G ts rest
    → Here F ts rest
same_in s ts rest h = record {
  front = h.front;
  split = h.split;
  dead = λ a more after same fine n e. h.dead (s.to a) more after same (s.fine a fine) (s.ends (next after) n)
      (e ∙ s.written a after);
  viable = λ after. let v = h.viable after in (s.from v.0, v.1, s.fine_back v.0 v.2, v.3 ∙ sym (s.back v.0 after));
}

-- another way to say how it begins
abbrev pub sharpened : {A : Type 0} → Format A → (Option Symbol → Type 0) → Format A
sharpened F P = record F { First = P }

pub sharpened_law : {A : Type 0} {F : Format A} {P : Option Symbol → Type 0} → Law F
    → ((a : A) (ts : List Tok) → F.Fine a → F.Next (next ts) → P (next (F.put a ts))) → Law (sharpened F P)
sharpened_law l h = record {
  some = l.some;
  some_fine = l.some_fine;
  appends = l.appends;
  first = h;
  only = l.only;
}

-- less may follow it
abbrev pub narrowed : {A : Type 0} → Format A → (Option Symbol → Type 0) → Format A
narrowed F N = record F { Next = N }

pub narrowed_law : {A : Type 0} {F : Format A} {N : Option Symbol → Type 0} → Law F → Into N F.Next → Law (narrowed F N)
narrowed_law l ends = record {
  some = l.some;
  some_fine = l.some_fine;
  appends = l.appends;
  first = λ a ts h n. l.first a ts h (ends (next ts) n);
  only = λ a b m n h k z w e. l.only a b m n h k (ends (next m) z) (ends (next n) w) e;
}

pub narrowed_in : {A : Type 0} {F : Format A} {N : Option Symbol → Type 0} → Law F → Into N F.Next
    → (ts rest : List Tok) → Here F ts rest → Here (narrowed F N) ts rest
narrowed_in l ends ts rest h = record {
  front = h.front;
  split = h.split;
  dead = λ a more after same fine n e. h.dead a more after same fine (ends (next after) n) e;
  viable = h.viable;
}

-- read, and what comes may not follow it
pub stuck_behind : {A : Type 0} {F : Format A} {N : Option Symbol → Type 0} → Law F → Into N F.Next → (a : A) → F.Fine a
    → (ts us : List Tok) → ts ≡ F.put a us → F.Next (next us) → (N (next us) → ⊥) → Here (narrowed F N) ts us
stuck_behind {A} {F} {N} l ends a fine_a ts us is may never = record {
  front = F.put a [];
  split = is ∙ l.appends a [] us;
  dead = λ b more after same fine n e.
      let here = same_next us more same in
      let r = l.only a b more after fine_a fine (subst F.Next here may) (ends (next after) n)
      (l.appends a [] more ∙ e) in
      never (subst N (sym (here ∙ ap next r.1)) n);
  viable = λ after. (a, after, fine_a, sym (l.appends a [] after));
}

narrow_optional : {A : Type 0} {F : Format A} {N : Option Symbol → Type 0} → Optional F N → Optional (narrowed F N) N
narrow_optional o = record { law = narrowed_law o.law o.ends; ends = λ s h. h; apart = o.apart }

-- it was read where it may be left out, and what comes may not follow it
pub option_ends : {A : Type 0} {F : Format A} {N : Option Symbol → Type 0} → Optional F N → (a : A) → F.Fine a
    → (ts us : List Tok) → ts ≡ F.put a us → F.Next (next us) → (N (next us) → ⊥) → (N (next ts) → ⊥)
    → Here (option F N) ts us
option_ends o a fine_a ts us is may never first = option_in (narrow_optional o) ts us first
    (stuck_behind o.law o.ends a fine_a ts us is may never)

-- ---- parts of which all trees are right

pub whole_each : {A : Type 0} {Fine : A → Type 0} → ((a : A) → Fine a) → (xs : List A) → FineEach Fine xs
whole_each f [] = tt
whole_each f (x ∷ xs) = (f x, whole_each f xs)

pub whole_option : {A : Type 0} {Fine : A → Type 0} → ((a : A) → Fine a) → (x : Option A) → FineOption Fine x
whole_option f None = tt
whole_option f (Some x) = f x

pub whole_either : {A B : Type 0} {P : A → Type 0} {Q : B → Type 0} → ((a : A) → P a) → ((b : B) → Q b) → (x : A ⊎ B)
    → FineEither P Q x
whole_either f g (inl a) = f a
whole_either f g (inr b) = g b

-- ---- a sign and a part after it

abbrev pub behind : {A : Type 0} → Terminal → Format A → Format (ℕ × A)
behind t F = then (sign_format t) F

pub behind_law : {A : Type 0} {F : Format A} (t : Terminal) → Law F → Law (behind t F)
behind_law t l = then_law (sign_law t) l (λ s h. tt)

pub behind_in : {A : Type 0} {F : Format A} (t : Terminal) → Law F → (p : ℕ) (ts us rest : List Tok)
    → ts ≡ put_sign t p us → Here F us rest → Here (behind t F) ts rest
behind_in t l p ts us rest is h = then_second (sign_law t) l (λ s k. tt) p tt ts us rest is tt h

pub optional_behind : {A : Type 0} {F : Format A} {N : Option Symbol → Type 0} (t : Terminal) → Law F → Into N F.Next
    → Into N (No t) → Optional (behind t F) N
optional_behind t l ends apart = record { law = behind_law t l; ends = ends; apart = apart }

pub several_behind : {A : Type 0} {F : Format A} {N : Option Symbol → Type 0} (t : Terminal) → Law F → Into N F.Next
    → Into N (No t) → F.Next (Some (mark t)) → Several (behind t F) N
several_behind {A} {F} t l ends apart follows = record {
  law = behind_law t l;
  ends = ends;
  apart = apart;
  follows =
      λ s e. subst F.Next (sym e) follows;
}

-- ---- what a reader returns

pub at_same : {A B : Type 0} (F : Format A) (G : Format B) (ts us : List Tok)
    → ((rest : List Tok) → Here F us rest → Here G ts rest) → (len : ℕ) (e : ReadError)
    → StuckAt F.put F.Fine F.Next us len e → StuckAt G.put G.Fine G.Next ts len e
at_same F G ts us f len Memory h = tt
at_same F G ts us f len (Stuck place) h = (h.0, f h.0 h.1, h.2)
