-- Where a part is stuck, what it is a part of is stuck at the same token.
use Rattle.std.proofs.Common.{◌≡◌, ℕ, List, [], ◌∷◌, ◌++◌, Err, sym, ap, ◌∙◌}
use Rattle.grammar.specs.declared.stops.ReadError.{ReadError}
use Rattle.grammar.specs.declared.stops.ReadError.TheVariants.{Memory, Stuck}
use Rattle.grammar.specs.declared.terminal.Terminal.{Terminal}
use Rattle.grammar.specs.Terminals.{Tok, tok_at, mark, place_of}
use Rattle.token_reader.specs.Machine.{Frame, on, stuck, run}
use Rattle.token_reader.specs.Signs.{next, Is, AWord, Absent, WordRead}
use Rattle.token_reader.specs.Parts.{Broken, Fails, NoInteger}
use Rattle.token_reader.proofs.Signs.{other_sign}
use Rattle.token_reader.specs.Binders.{IntegerRead}

-- how an A stands in a B: the tokens before it, the way there, and what makes a B of each A
pub record Context {I J A B : Type 0} (stack : I → List Frame → List Frame) (put : A → List Tok → List Tok)
    (Fine : A → Type 0)
    (outer : J → List Frame → List Frame) (whole : B → List Tok → List Tok) (FineWhole : B → Type 0)
    (ts us : List Tok) : Type 0 where
  pub before : List Tok → List Tok
  pub appends : (x y : List Tok) → before (x ++ y) ≡ before x ++ y
  pub split : ts ≡ before us
  pub enters : (j : J) (σ : List Frame) → (i : I) × (τ : List Frame)
      × (run (on (outer j σ)) ts ≡ run (on (stack i τ)) us)
  pub wraps : (after : List Tok) → (behind : List Tok) × ((a : A) → Fine a → (b : B) × FineWhole b
      × (before (put a behind) ≡ whole b after))

pub broken_in : {I J A B : Type 0} {stack : I → List Frame → List Frame} {put : A → List Tok → List Tok}
    {Fine : A → Type 0}
    {outer : J → List Frame → List Frame} {whole : B → List Tok → List Tok} {FineWhole : B → Type 0} {ts us : List Tok}
    (rest : List Tok)
    → Context stack put Fine outer whole FineWhole ts us → Broken stack put Fine us rest
    → Broken outer whole FineWhole ts rest
broken_in rest c s = record {
  front = c.before s.front;
  split = c.split ∙ ap c.before s.split ∙ c.appends s.front rest;
  runs = λ j σ. let e = c.enters j σ in e.2 ∙ s.runs e.0 e.1;
  viable = λ after.
      let w = c.wraps after in
      let v = s.viable w.0 in
      let b = w.1 v.0 v.2 in
      (b.0, v.1, b.1, sym (c.appends s.front v.1) ∙ ap c.before v.3 ∙ b.2);
}

pub fails_in : {I J A B : Type 0} {stack : I → List Frame → List Frame} {put : A → List Tok → List Tok}
    {Fine : A → Type 0}
    {outer : J → List Frame → List Frame} {whole : B → List Tok → List Tok} {FineWhole : B → Type 0} {ts us : List Tok}
    (len : ℕ) (e : ReadError)
    → Context stack put Fine outer whole FineWhole ts us → Fails stack put Fine us len e
    → Fails outer whole FineWhole ts len e
fails_in len Memory c h = tt
fails_in len (Stuck place) c h = (h.0, broken_in h.0 c h.1, h.2)

-- stuck at rest, where the tokens before it make each text that is meant
pub fails_at : {J B : Type 0} (outer : J → List Frame → List Frame) (whole : B → List Tok → List Tok) (FineWhole : B
    → Type 0) (ts rest : List Tok) (len place : ℕ)
    (before : List Tok → List Tok) → ((x y : List Tok) → before (x ++ y) ≡ before x ++ y) → ts ≡ before rest
    → ((j : J) (σ : List Frame) → run (on (outer j σ)) ts ≡ stuck rest)
    → ((after : List Tok) → (b : B) × (more : List Tok) × FineWhole b × (before more ≡ whole b after))
    → place ≡ place_of rest len → Fails outer whole FineWhole ts len (Stuck place)
fails_at outer whole FineWhole ts rest len place before appends split runs viable is = (
  rest,
  record {
    front = before [];
    split = split ∙ appends [] rest;
    runs = runs;
    viable = λ after. let v = viable after in (v.0, v.1, v.2, sym (appends [] v.1) ∙ v.3);
  },
  is,
)

-- the same for what a reader of one token returns
pub lacks_fails : {J B : Type 0} (outer : J → List Frame → List Frame) (whole : B → List Tok → List Tok) (FineWhole : B
    → Type 0) (s : Terminal) (ts us : List Tok) (len : ℕ) (e : ReadError)
    (before : List Tok → List Tok) → ((x y : List Tok) → before (x ++ y) ≡ before x ++ y) → ts ≡ before us
    → (((p : ℕ) (vs : List Tok) → us ≡ tok_at (mark s) p ∷ vs → ⊥) → (j : J) (σ : List Frame)
    → run (on (outer j σ)) ts ≡ stuck us)
    → ((after : List Tok) → (b : B) × (more : List Tok) × FineWhole b × (before more ≡ whole b after))
    → Absent (Is s) us len e → Fails outer whole FineWhole ts len e
lacks_fails outer whole FineWhole s ts us len Memory before appends split runs viable h = tt
lacks_fails outer whole FineWhole s ts us len (Stuck place) before appends split runs viable h =
    fails_at outer whole FineWhole ts us len place before appends split (runs (other_sign s us h.0)) viable h.1

pub word_fails : {J B : Type 0} (outer : J → List Frame → List Frame) (whole : B → List Tok → List Tok) (FineWhole : B
    → Type 0) (ts us : List Tok) (len : ℕ) (e : ReadError)
    (before : List Tok → List Tok) → ((x y : List Tok) → before (x ++ y) ≡ before x ++ y) → ts ≡ before us
    → ((AWord (next us) → ⊥) → (j : J) (σ : List Frame) → run (on (outer j σ)) ts ≡ stuck us)
    → ((after : List Tok) → (b : B) × (more : List Tok) × FineWhole b × (before more ≡ whole b after))
    → WordRead us len (Err e) → Fails outer whole FineWhole ts len e
word_fails outer whole FineWhole ts us len Memory before appends split runs viable h = tt
word_fails outer whole FineWhole ts us len (Stuck place) before appends split runs viable h =
    fails_at outer whole FineWhole ts us len place before appends split (runs h.0) viable h.1

pub integer_fails : {J B : Type 0} (outer : J → List Frame → List Frame) (whole : B → List Tok → List Tok)
    (FineWhole : B → Type 0) (ts us : List Tok) (len : ℕ) (e : ReadError)
    (before : List Tok → List Tok) → ((x y : List Tok) → before (x ++ y) ≡ before x ++ y) → ts ≡ before us
    → (NoInteger us → (j : J) (σ : List Frame) → run (on (outer j σ)) ts ≡ stuck us)
    → ((after : List Tok) → (b : B) × (more : List Tok) × FineWhole b × (before more ≡ whole b after))
    → IntegerRead us len (Err e) → Fails outer whole FineWhole ts len e
integer_fails outer whole FineWhole ts us len Memory before appends split runs viable h = elim h [ ]
integer_fails outer whole FineWhole ts us len (Stuck place) before appends split runs viable h =
    fails_at outer whole FineWhole ts us len place before appends split (runs h.0) viable h.1
