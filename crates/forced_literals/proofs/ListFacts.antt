-- Lists with some items left out, and lists whose items belong together.
use Rattle.std.proofs.Common.{◌≡◌, Bool, true, false, List, [], ◌∷◌, ◌++◌, cond}
use Rattle.std.proofs.Common.{filter, refl, sym, ◌∙◌, subst, inl, inr}
use Rattle.std.specs.List.{Any, AllByRecursion, flat_map}
use Rattle.kb_logic.specs.Lists.{IsSublist}
use Rattle.kb_logic.specs.Structures.{EachWith}
use Rattle.kb_logic.proofs.Has.{Has, has_from, contains_from}

pub sublist-trans : {A : Type 0} (xs ys zs : List A) → IsSublist xs ys → IsSublist ys zs → IsSublist xs zs
sublist-trans [] ys zs s t = tt
sublist-trans (x ∷ xs) [] zs s t = absurd s
sublist-trans (x ∷ xs) (y ∷ ys) [] s t = absurd t
sublist-trans (x ∷ xs) (y ∷ ys) (z ∷ zs) (inl a) (inl b) = inl (a.0 ∙ b.0, sublist-trans xs ys zs a.1 b.1)
sublist-trans (x ∷ xs) (y ∷ ys) (z ∷ zs) (inr a) (inl b) = inr (sublist-trans (x ∷ xs) ys zs a b.1)
sublist-trans (x ∷ xs) (y ∷ ys) (z ∷ zs) s (inr b) = inr (sublist-trans (x ∷ xs) (y ∷ ys) zs s b)

skip : {A : Type 0} (ws xs ys : List A) → IsSublist xs ys → IsSublist xs (ws ++ ys)
skip [] xs ys s = s
skip (w ∷ ws) [] ys s = tt
skip (w ∷ ws) (x ∷ xs) ys s = inr (skip ws (x ∷ xs) ys s)

keep : {A : Type 0} (ws xs ys : List A) → IsSublist xs ys → IsSublist (ws ++ xs) (ws ++ ys)
keep [] xs ys s = s
keep (w ∷ ws) xs ys s = inl (refl, keep ws xs ys s)

part-kept : {A B : Type 0} (f : A → List B) (b : Bool) (x : A) (xs ys : List A)
    → IsSublist (flat_map f xs) (flat_map f ys) → IsSublist (flat_map f (cond b (x ∷ xs) xs)) (flat_map f (x ∷ ys))
part-kept f true x xs ys s = keep (f x) (flat_map f xs) (flat_map f ys) s
part-kept f false x xs ys s = skip (f x) (flat_map f xs) (flat_map f ys) s

-- the parts of the items that pass a test are some of the parts of all
pub sublist-filtered : {A B : Type 0} (f : A → List B) (test : A → Bool) (xs : List A)
    → IsSublist (flat_map f (filter test xs)) (flat_map f xs)
sublist-filtered f test [] = tt
sublist-filtered f test (x ∷ xs) = part-kept f (test x) x (filter test xs) xs (sublist-filtered f test xs)

pub sublist-has : {A : Type 0} (xs ys : List A) (z : A) → IsSublist xs ys → Has xs z → Has ys z
sublist-has [] ys z s m = absurd m
sublist-has (x ∷ xs) [] z s m = absurd s
sublist-has (x ∷ xs) (y ∷ ys) z (inl a) (inl e) = inl (sym a.0 ∙ e)
sublist-has (x ∷ xs) (y ∷ ys) z (inl a) (inr m) = inr (sublist-has xs ys z a.1 m)
sublist-has (x ∷ xs) (y ∷ ys) z (inr a) m = inr (sublist-has (x ∷ xs) ys z a m)

pub sublist-more : {A : Type 0} (xs ys : List A) (z : A) → IsSublist xs ys → IsSublist xs (ys ++ z ∷ [])
sublist-more [] ys z s = tt
sublist-more (x ∷ xs) [] z s = absurd s
sublist-more (x ∷ xs) (y ∷ ys) z (inl a) = inl (a.0, sublist-more xs ys z a.1)
sublist-more (x ∷ xs) (y ∷ ys) z (inr a) = inr (sublist-more (x ∷ xs) ys z a)

pub sublist-push : {A : Type 0} (xs ys : List A) (z : A) → IsSublist xs ys → IsSublist (xs ++ z ∷ []) (ys ++ z ∷ [])
sublist-push [] [] z s = inl (refl, tt)
sublist-push [] (y ∷ ys) z s = inr (sublist-push [] ys z tt)
sublist-push (x ∷ xs) [] z s = absurd s
sublist-push (x ∷ xs) (y ∷ ys) z (inl a) = inl (a.0, sublist-push xs ys z a.1)
sublist-push (x ∷ xs) (y ∷ ys) z (inr a) = inr (sublist-push (x ∷ xs) ys z a)

-- where each item has one partner, the partners of some items are some of the partners of all
pub numbered-sublist : {A B : Type 0} (R : A → B → Type 0) → ((a c : A) (b : B) → R a b → R c b → a ≡ c)
    → (all : List A) (ks : List B) (list : List A) (some : List B) → EachWith R all ks → IsSublist some ks
    → EachWith R list some → IsSublist list all
numbered-sublist R one all ks [] some h s g = tt
numbered-sublist R one all ks (l ∷ list) [] h s g = absurd g
numbered-sublist R one all [] (l ∷ list) (x ∷ some) h s g = absurd s
numbered-sublist R one [] (k ∷ ks) (l ∷ list) (x ∷ some) h s g = absurd h
numbered-sublist R one (a ∷ all) (k ∷ ks) (l ∷ list) (x ∷ some) h (inl t) g =
    inl (one l a k (subst (R l) t.0 g.0) h.0, numbered-sublist R one all ks list some h.1 t.1 g.1)
numbered-sublist R one (a ∷ all) (k ∷ ks) (l ∷ list) (x ∷ some) h (inr t) g =
    inr (numbered-sublist R one all ks (l ∷ list) (x ∷ some) h.1 t g)

pub each-all : {A B : Type 0} (R : A → B → Type 0) (P : A → Type 0) (xs : List A) (ys : List B) → EachWith R xs ys
    → ((x : A) (y : B) → Has ys y → R x y → P x) → AllByRecursion P xs
each-all R P [] ys h f = tt
each-all R P (x ∷ xs) [] h f = absurd h
each-all R P (x ∷ xs) (y ∷ ys) h f = (f x y (inl refl) h.0, each-all R P xs ys h.1 (λ w z m r. f w z (inr m) r))

pub any-has : {A : Type 0} (P : A → Type 0) (xs : List A) → Any P xs → (x : A) × Has xs x × P x
any-has P xs h = (h.1, has_from xs h.1 (h.0, h.2, h.3), h.4)

pub has-any : {A : Type 0} (P : A → Type 0) (xs : List A) (x : A) → Has xs x → P x → Any P xs
has-any P xs x m p = let c = contains_from xs x m in (c.0, x, c.1, c.2, p)
