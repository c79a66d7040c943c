-- Parts of which all trees are right, made of such parts.
use Rattle.std.proofs.Common.{◌≡◌, ℕ, List, Option, Some, None, ◌⊎◌, sym, subst}
use Rattle.grammar.specs.declared.terminal.Terminal.{Terminal}
use Rattle.grammar.specs.Terminals.{Symbol, Tok, mark}
use Rattle.grammar.specs.BlockSpelling.{put_each, put_sign}
use Rattle.token_reader.specs.Signs.{next, No}
use Rattle.block_reader.proofs.Formats as f
use Rattle.block_reader.proofs.Formats.{Format, Into, Apart, Here, sign_format, name_format}

abbrev pub plainly : {A : Type 0} → Format A → Format A
plainly F = record F { Fine = λ a. Unit {0} }

pub record Law {A : Type 0} (F : Format A) : Type 0 where
  pub law : f.Law F
  pub total : (a : A) → F.Fine a

pub plain_law : {A : Type 0} {F : Format A} → f.Law F → ((a : A) → F.Fine a) → Law (plainly F)
plain_law l h = record {
  law = record {
    some = l.some;
    some_fine = tt;
    appends = l.appends;
    first = λ a ts k n. l.first a ts (h a) n;
    only = λ a b m n i k z w e. l.only a b m n (h a) (h b) z w e;
  };
  total = λ a. tt;
}

pub plain_in : {A : Type 0} (F : Format A) → ((a : A) → F.Fine a) → (ts rest : List Tok) → Here F ts rest
    → Here (plainly F) ts rest
plain_in F h ts rest s = record {
  front = s.front;
  split = s.split;
  dead = λ a more after same fine n e. s.dead a more after same (h a) n e;
  viable = λ after. let v = s.viable after in (v.0, v.1, tt, v.3);
}

pub not_first : {A : Type 0} {F : Format A} → Law F → (ts : List Tok) → (F.First (next ts) → ⊥) → Here F ts ts
not_first l ts h = f.not_first l.law ts h

pub sign_law : (t : Terminal) → Law (sign_format t)
sign_law t = record { law = f.sign_law t; total = λ a. tt }

pub name_law : Law name_format
name_law = record { law = f.name_law; total = λ a. tt }

-- ---- one part, and then another

abbrev pub then : {A B : Type 0} → Format A → Format B → Format (A × B)
then F G = plainly (f.then F G)

pub then_law : {A B : Type 0} {F : Format A} {G : Format B} → Law F → Law G → Into G.First F.Next → Law (then F G)
then_law l m into = plain_law (f.then_law l.law m.law into) (λ x. (l.total x.0, m.total x.1))

pub then_first : {A B : Type 0} {F : Format A} {G : Format B} → Law F → Law G → Into G.First F.Next
    → (ts rest : List Tok) → Here F ts rest → Here (then F G) ts rest
then_first {A} {B} {F} {G} l m into ts rest h = plain_in (f.then F G) (λ x. (l.total x.0, m.total x.1)) ts rest
    (f.then_first l.law m.law into ts rest h)

pub then_second : {A B : Type 0} {F : Format A} {G : Format B} → Law F → Law G → Into G.First F.Next
    → (a : A) (ts us rest : List Tok) → ts ≡ F.put a us → F.Next (next us) → Here G us rest → Here (then F G) ts rest
then_second {A} {B} {F} {G} l m into a ts us rest is may h = plain_in (f.then F G) (λ x. (l.total x.0, m.total x.1)) ts
    rest (f.then_second l.law m.law into a (l.total a) ts us rest is may h)

-- ---- a part that may be left out

abbrev pub option : {A : Type 0} → Format A → (Option Symbol → Type 0) → Format (Option A)
option F N = plainly (f.option F N)

pub record Optional {A : Type 0} (F : Format A) (N : Option Symbol → Type 0) : Type 0 where
  pub law : Law F
  pub ends : Into N F.Next
  pub apart : Apart N F.First

whole_option : {A : Type 0} {F : Format A} → Law F → (x : Option A) → f.FineOption F.Fine x
whole_option l None = tt
whole_option l (Some a) = l.total a

pub fully_optional : {A : Type 0} {F : Format A} {N : Option Symbol → Type 0} → Optional F N → f.Optional F N
fully_optional o = record { law = o.law.law; ends = o.ends; apart = o.apart }

pub option_law : {A : Type 0} {F : Format A} {N : Option Symbol → Type 0} → Optional F N → Law (option F N)
option_law o = plain_law (f.option_law (fully_optional o)) (whole_option o.law)

pub option_in : {A : Type 0} {F : Format A} {N : Option Symbol → Type 0} → Optional F N → (ts rest : List Tok)
    → (N (next ts) → ⊥) → Here F ts rest → Here (option F N) ts rest
option_in {A} {F} {N} o ts rest never h = plain_in (f.option F N) (whole_option o.law) ts rest
    (f.option_in (fully_optional o) ts rest never h)

-- ---- any number of a part

abbrev pub each : {A : Type 0} → Format A → (Option Symbol → Type 0) → Format (List A)
each F N = plainly (f.each F N)

pub record Several {A : Type 0} (F : Format A) (N : Option Symbol → Type 0) : Type 0 where
  pub law : Law F
  pub ends : Into N F.Next
  pub apart : Apart N F.First
  pub follows : Into F.First F.Next

pub fully : {A : Type 0} {F : Format A} {N : Option Symbol → Type 0} → Several F N → f.Several F N
fully o = record { law = o.law.law; ends = o.ends; apart = o.apart; follows = o.follows }

pub each_law : {A : Type 0} {F : Format A} {N : Option Symbol → Type 0} → Several F N → Law (each F N)
each_law o = plain_law (f.each_law (fully o)) (f.whole_each o.law.total)

pub each_in : {A : Type 0} {F : Format A} {N : Option Symbol → Type 0} → Several F N
    → (xs : List A) (ts us rest : List Tok) → ts ≡ put_each F.put xs us → F.Next (next us) → (N (next us) → ⊥)
    → Here F us rest → Here (each F N) ts rest
each_in {A} {F} {N} o xs ts us rest is may never h = plain_in (f.each F N) (f.whole_each o.law.total) ts rest
    (f.each_in (fully o) xs (f.whole_each o.law.total xs) ts us rest is may never h)

pub each_here : {A : Type 0} {F : Format A} {N : Option Symbol → Type 0} → Several F N → (ts rest : List Tok)
    → (N (next ts) → ⊥) → Here F ts rest → Here (each F N) ts rest
each_here {A} {F} {N} o ts rest never h = plain_in (f.each F N) (f.whole_each o.law.total) ts rest
    (f.each_here (fully o) ts rest never h)

-- ---- one part or another

abbrev pub either : {A B : Type 0} → Format A → Format B → (Option Symbol → Type 0) → Format (A ⊎ B)
either F G N = plainly (f.either F G N)

pub record Alternatives {A B : Type 0} (F : Format A) (G : Format B) (N : Option Symbol → Type 0) : Type 0 where
  pub left : Law F
  pub right : Law G
  pub apart : Apart F.First G.First
  pub ends_left : Into N F.Next
  pub ends_right : Into N G.Next

fully_either : {A B : Type 0} {F : Format A} {G : Format B} {N : Option Symbol → Type 0} → Alternatives F G N
    → f.Alternatives F G N
fully_either o = record {
  left = o.left.law;
  right = o.right.law;
  apart = o.apart;
  ends_left = o.ends_left;
  ends_right =
      o.ends_right;
}

pub either_law : {A B : Type 0} {F : Format A} {G : Format B} {N : Option Symbol → Type 0} → Alternatives F G N
    → Law (either F G N)
either_law o = plain_law (f.either_law (fully_either o)) (f.whole_either o.left.total o.right.total)

pub either_left : {A B : Type 0} {F : Format A} {G : Format B} {N : Option Symbol → Type 0} → Alternatives F G N
    → (ts rest : List Tok) → (G.First (next ts) → ⊥) → Here F ts rest → Here (either F G N) ts rest
either_left {A} {B} {F} {G} {N} o ts rest never h = plain_in (f.either F G N)
    (f.whole_either o.left.total o.right.total) ts rest (f.either_left (fully_either o) ts rest never h)

pub either_right : {A B : Type 0} {F : Format A} {G : Format B} {N : Option Symbol → Type 0} → Alternatives F G N
    → (ts rest : List Tok) → (F.First (next ts) → ⊥) → Here G ts rest → Here (either F G N) ts rest
either_right {A} {B} {F} {G} {N} o ts rest never h = plain_in (f.either F G N)
    (f.whole_either o.left.total o.right.total) ts rest (f.either_right (fully_either o) ts rest never h)

-- ---- the same texts by other trees

pub record Same {A B : Type 0} (F : Format A) (G : Format B) : Type 0 where
  pub to : A → B
  pub from : B → A
  pub there : (a : A) → from (to a) ≡ a
  pub written : (a : A) (ts : List Tok) → F.put a ts ≡ G.put (to a) ts
  pub back : (b : B) (ts : List Tok) → F.put (from b) ts ≡ G.put b ts
  pub ends : Into F.Next G.Next
  pub begins : Into G.First F.First

same_fully : {A B : Type 0} {F : Format A} {G : Format B} → Same F G → Law G → f.Same (plainly F) G
same_fully s l = record {
  to = s.to;
  from = s.from;
  there = s.there;
  written = s.written;
  back = s.back;
  fine = λ a h. l.total (s.to a);
  fine_back = λ b h. tt;
  ends = s.ends;
  begins = s.begins;
}

pub same_law : {A B : Type 0} {F : Format A} {G : Format B} → Same F G → Law G → Law (plainly F)
same_law s l = record { law = f.same_law (same_fully s l) l.law; total = λ a. tt }

pub same_in : {A B : Type 0} {F : Format A} {G : Format B} → Same F G → Law G → (ts rest : List Tok) → Here G ts rest
    → Here (plainly F) ts rest
same_in s l ts rest h = f.same_in (same_fully s l) ts rest h

-- ---- less may follow it

pub narrowed_law : {A : Type 0} {F : Format A} {N : Option Symbol → Type 0} → Law F → Into N F.Next
    → Law (f.narrowed F N)
narrowed_law l ends = record { law = f.narrowed_law l.law ends; total = l.total }

pub narrowed_in : {A : Type 0} {F : Format A} {N : Option Symbol → Type 0} → Law F → Into N F.Next
    → (ts rest : List Tok) → Here F ts rest → Here (f.narrowed F N) ts rest
narrowed_in l ends ts rest h = f.narrowed_in l.law ends ts rest h

pub stuck_behind : {A : Type 0} {F : Format A} {N : Option Symbol → Type 0} → Law F → Into N F.Next
    → (a : A) (ts us : List Tok) → ts ≡ F.put a us → F.Next (next us) → (N (next us) → ⊥) → Here (f.narrowed F N) ts us
stuck_behind l ends a ts us is may never = f.stuck_behind l.law ends a (l.total a) ts us is may never

-- ---- a sign and a part after it

abbrev pub behind : {A : Type 0} → Terminal → Format A → Format (ℕ × A)
behind t F = then (sign_format t) F

pub behind_law : {A : Type 0} {F : Format A} (t : Terminal) → Law F → Law (behind t F)
behind_law t l = then_law (sign_law t) l (λ s h. tt)

pub behind_in : {A : Type 0} {F : Format A} (t : Terminal) → Law F → (p : ℕ) (ts us rest : List Tok)
    → ts ≡ put_sign t p us → Here F us rest → Here (behind t F) ts rest
behind_in t l p ts us rest is h = then_second (sign_law t) l (λ s k. tt) p ts us rest is tt h

pub optional_behind : {A : Type 0} {F : Format A} {N : Option Symbol → Type 0} (t : Terminal) → Law F → Into N F.Next
    → Into N (No t) → Optional (behind t F) N
optional_behind t l ends apart = record { law = behind_law t l; ends = ends; apart = apart }

pub several_behind : {A : Type 0} {F : Format A} {N : Option Symbol → Type 0} (t : Terminal) → Law F → Into N F.Next
    → Into N (No t) → F.Next (Some (mark t)) → Several (behind t F) N
several_behind {A} {F} t l ends apart follows = record {
  law = behind_law t l;
  ends = ends;
  apart = apart;
  follows =
      λ s e. subst F.Next (sym e) follows;
}

pub narrow_optional : {A : Type 0} {F : Format A} {N : Option Symbol → Type 0} → Optional F N
    → Optional (f.narrowed F N) N
narrow_optional o = record { law = narrowed_law o.law o.ends; ends = λ s h. h; apart = o.apart }

-- it was read, and what comes may not follow it
pub option_ends : {A : Type 0} {F : Format A} {N : Option Symbol → Type 0} → Optional F N → (a : A) (ts us : List Tok)
    → ts ≡ F.put a us → F.Next (next us) → (N (next us) → ⊥) → (N (next ts) → ⊥) → Here (option F N) ts us
option_ends o a ts us is may never first = option_in (narrow_optional o) ts us first
    (stuck_behind o.law o.ends a ts us is may never)

-- these were read, and neither another one comes nor what may follow all
pub each_ends : {A : Type 0} {F : Format A} {N : Option Symbol → Type 0} → Several F N
    → (xs : List A) (ts us : List Tok) → ts ≡ put_each F.put xs us → F.Next (next us) → (N (next us) → ⊥)
    → (F.First (next us) → ⊥) → Here (each F N) ts us
each_ends o xs ts us is may never first = each_in o xs ts us us is may never (not_first o.law us first)
