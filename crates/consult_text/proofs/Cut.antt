-- The elements that are cut so far.
use Rattle.std.proofs.Common.{◌≡◌, ◌≢◌, ℕ, List, [], ◌∷◌, ◌++◌, refl, sym, ap, ◌∙◌, codes, Bool, append_assoc, subst}
use Rattle.std.proofs.Common.{Option, None, Some}
use Rattle.std.specs.List.{AllByRecursion}
use Rattle.consult_text.specs.declared.written.ElemText.{ElemText}
use Rattle.std.specs.Borrow.{Bor}
use Rattle.kb_text.specs.declared.token.Token.{Token}
use Rattle.consult_text.specs.Written.{Tok, sign, WrittenElem, put_elem, put_further, put_args, equals, HasName}
use Rattle.consult_text.specs.Parse.{close, dot, toks, ParsesFurther, ParsesArgs, ParsesHead, ParsesPositive}
use Rattle.consult_text.specs.Parse.{elem_views, elem_view}
use Rattle.consult_text.proofs.Spelling.{further_front, comma_close, some_same, dot_closed, equals_closed, elem_same}

-- some elements stand before the rest, and were added
pub record HasCut (before now : List ElemText) (ts rest : List Tok) : Type 0 where
  pub es : List WrittenElem
  pub views : elem_views now ≡ elem_views before ++ es
  pub spelled : ts ≡ put_further es rest
  pub named : AllByRecursion HasName es

append_nothing : (xs : List WrittenElem) → xs ≡ xs ++ []
append_nothing [] = refl
append_nothing (x ∷ xs) = ap (λ (l : List WrittenElem). x ∷ l) (append_nothing xs)

pub cut_nothing : (before : List ElemText) (ts : List Tok) → HasCut before before ts ts
cut_nothing before ts = record { es = []; views = append_nothing _; spelled = refl; named = tt }

views_push : (xs : List ElemText) (x : ElemText) → elem_views (xs ++ x ∷ []) ≡ elem_views xs ++ elem_view x ∷ []
views_push [] x = refl
views_push (y ∷ xs) x = ap (λ (l : List WrittenElem). elem_view y ∷ l) (views_push xs x)

further_push : (es : List WrittenElem) (e : WrittenElem) (ts : List Tok)
    → put_further (es ++ e ∷ []) ts ≡ put_further es (sign (codes ",") ∷ put_elem e ts)
further_push [] e ts = refl
further_push (x ∷ es) e ts = ap (λ (l : List Tok). sign (codes ",") ∷ put_elem x l) (further_push es e ts)

named_push : (es : List WrittenElem) (e : WrittenElem) → AllByRecursion HasName es → HasName e
    → AllByRecursion HasName (es ++ e ∷ [])
named_push [] e all h = (h, tt)
named_push (x ∷ es) e all h = (all.0, named_push es e all.1 h)

pub cut_more : {before now : List ElemText} {ts cur : List Tok} (x : ElemText)
    (after : List ElemText) (behind rest : List Tok) → HasCut before now ts cur → cur ≡ sign (codes ",") ∷ behind
    → behind ≡ put_elem (elem_view x) rest → HasName (elem_view x) → after ≡ now ++ x ∷ [] → HasCut before after ts rest
cut_more {before} {now} {ts} {cur} x after behind rest cut comma e h push = record {
  es = cut.es ++ elem_view x ∷ [];
  views = ap elem_views push
      ∙ (views_push now x ∙ (ap (λ (l : List WrittenElem). l ++ elem_view x ∷ []) cut.views
      ∙ append_assoc (elem_views before) cut.es (elem_view x ∷ [])));
  spelled = cut.spelled ∙ (ap (put_further cut.es) (comma ∙ ap (λ (l : List Tok). sign (codes ",") ∷ l) e)
      ∙ sym (further_push cut.es (elem_view x) rest));
  named = named_push cut.es (elem_view x) cut.named h;
}

pub none_behind : {before now : List ElemText} {ts cur : List Tok} → HasCut before now ts cur
    → ((rest : List Tok) → cur ≢ close rest) → ((rest : List Tok) → cur ≢ sign (codes ",") ∷ rest)
    → ParsesFurther before now ts None
none_behind {before} {now} {ts} {cur} cut no_close no_comma es rest well q =
    let more = further_front cut.es es cur rest well (sym cut.spelled ∙ q) in
    first more.0 more.2
  where
    first : (more : List WrittenElem) → cur ≡ put_further more (close rest) → ⊥
    first [] e = no_close _ e
    first (x ∷ more) e = no_comma _ e

pub none_elem : {before now : List ElemText} {ts cur : List Tok} (behind : List Tok) → HasCut before now ts cur
    → cur ≡ sign (codes ",") ∷ behind → ((e : WrittenElem) (rest : List Tok) → HasName e → behind ≢ put_elem e rest)
    → ParsesFurther before now ts None
none_elem {before} {now} {ts} {cur} behind cut comma no_elem es rest well q =
    let more = further_front cut.es es cur rest well (sym cut.spelled ∙ q) in
    first more.0 more.1 (sym comma ∙ more.2)
  where
    first : (more : List WrittenElem) → AllByRecursion HasName more
        → sign (codes ",") ∷ behind ≡ put_further more (close rest) → ⊥
    first [] all e = absurd (comma_close e)
    first (x ∷ more) all e = no_elem x (put_further more (close rest)) all.0 (cc)

pub args_cut : (ts : List Tok) (none before now : List ElemText) (x : ElemText) (behind behind' : List Tok)
    (found : Option (Bor (List Token))) (rest : Bor (List Token)) → ts ≡ sign (codes "(") ∷ behind
    → behind ≡ put_elem (elem_view x) behind' → HasName (elem_view x) → none ≡ [] → before ≡ none ++ x ∷ []
    → ParsesFurther before now behind' found → found ≡ Some rest → ParsesArgs ts (elem_views now) (toks rest.now)
args_cut ts none before now x behind behind' found rest opens e h empty push further is =
    let one : before ≡ x ∷ [] = push ∙ ap (λ (l : List ElemText). l ++ x ∷ []) empty in
    let f = subst (ParsesFurther before now behind') is further in
    let views : elem_views now ≡ elem_view x ∷ f.0 = f.1 ∙ ap (λ (l : List ElemText). elem_views l ++ f.0) one in
    let spelled : ts ≡ put_args (elem_view x ∷ f.0) (toks rest.now) =
    opens ∙ ap (λ (l : List Tok). sign (codes "(") ∷ l) (e ∙ ap (put_elem (elem_view x)) f.2) in
    rw views (
      spelled,
      (h, f.3),
      λ es' rest' closed q.
          sym (some_same (elem_view x) f.0 es' (toks rest.now) rest' closed (sym spelled ∙ q)).1,
    )

pub no_positive : (ts : List Tok) (name : List ℕ) (es : List WrittenElem) (rest behind rest' : List Tok) (p : Bool)
    (v : WrittenElem) → ParsesHead ts name es rest → (rest ≢ dot) → rest ≡ sign (equals p) ∷ behind
    → behind ≡ put_elem v rest' → (rest' ≢ dot) → ParsesPositive ts None
no_positive ts name es rest behind rest' p v head no_dot sign_is elem_is no_end = (
  λ name' es' is all q. no_dot (sym (head.3 name' es' dot (dot_closed []) q)),
  λ p' name' es' e is all h q.
      ends p' e (head.3 name' es' (sign (equals p') ∷ put_elem e dot) (equals_closed p' (put_elem e dot)) q),
)
  where
    ends : (p' : Bool) (e : WrittenElem) → sign (equals p') ∷ put_elem e dot ≡ rest → ⊥
    ends p' e q =
        let both : sign (equals p') ∷ put_elem e dot ≡ sign (equals p) ∷ behind = q ∙ sign_is in
        let same : put_elem e dot ≡ put_elem v rest' = cc in
        no_end (sym (elem_same e v dot rest' same).1)
