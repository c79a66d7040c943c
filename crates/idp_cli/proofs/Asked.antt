-- The words ask one job at most.
use Rattle.std.proofs.Common.{◌≡◌, ◌≤◌, ℕ, arith, List, true, false, refl, sym, ap, ◌∙◌, subst, codes}
use Rattle.std.proofs.Common.{Option, Some, None}
use Rattle.std.specs.List.{list_all}
use Rattle.std.specs.Str.{bytes_eq}
use Rattle.std.proofs.lemmas.Bool.{false≢true}
use Rattle.std.proofs.lemmas.Slice.Eq.{bytes_eq-Decides}
use Rattle.kb_text.specs.Bytes.{between}
use Rattle.command_words.specs.CommandLine.{Said, said_by}
use Rattle.command_words.specs.CommandLine as words
use Rattle.consult_text.specs.Budgets.{IsBudget, most_budget}
use Rattle.generated_files.specs.Texts.{kind_name, most}
use Rattle.generated_files.specs.declared.kinds.Kind.{Kind}
use Rattle.generated_files.specs.declared.kinds.Kind.TheVariants.{Timetable, Roster}
use Rattle.idp_cli.specs.Jobs.{Job, consult, check, verify, make, summarise, AreOfFile, IsBudgetText, IsFirstBudget}
use Rattle.idp_cli.specs.Jobs.{IsNumberText, AsksBy, Asks}

-- two words are not one text
pub apart : {A : Type 0} (w x y : List ℕ) → bytes_eq x y ≡ false → w ≡ x → w ≡ y → A
apart w x y other is is' = absurd (false≢true (sym other ∙ (bytes_eq-Decides x y).1 (sym is ∙ is')))

no_digits : list_all (between 48 57) (codes "unlimited") ≡ true → ⊥
no_digits e = false≢true e

pub one_budget : (text : List ℕ) (b d : Option ℕ) → IsBudgetText text b → IsBudgetText text d → b ≡ d
one_budget text None None h k = refl
one_budget text None (Some n) h k = absurd (no_digits (subst (λ (t : List ℕ). list_all (between 48 57) t ≡ true) h k.0))
one_budget text (Some n) None h k = absurd (no_digits (subst (λ (t : List ℕ). list_all (between 48 57) t ≡ true) k h.0))
one_budget text (Some n) (Some m) h k = ap (λ (x : ℕ). Some x) (h.2 ∙ sym k.2)

pub one_first : (given : Option (List ℕ)) (b d : Option ℕ) → IsFirstBudget given b → IsFirstBudget given d → b ≡ d
one_first None b d h k = h ∙ sym k
one_first (Some text) b d h k = one_budget text b d h k

-- where the words say something, they say one thing
pub one_said : (words : List (List ℕ)) (a b : Said) → said_by words ≡ Some a → said_by words ≡ Some b → a ≡ b
one_said words a b h k = some_inj a b (sym h ∙ k)
  where
    some_inj : (a b : Said) → Some a ≡ Some b → a ≡ b
    some_inj a b e = cc

-- a kind has one name
one_kind : (name : List ℕ) (k j : Kind) → name ≡ kind_name k → name ≡ kind_name j → k ≡ j
one_kind name Timetable Timetable h i = refl
one_kind name Timetable Roster h i = apart name (codes "timetable") (codes "roster") refl h i
one_kind name Roster Timetable h i = apart name (codes "timetable") (codes "roster") refl i h
one_kind name Roster Roster h i = refl

-- and texts are a kind and a number in one way
pub one_file : (kind number : List ℕ) (k j : Kind) (n m : ℕ) → AreOfFile kind number k n → AreOfFile kind number j m
    → (k ≡ j) × (n ≡ m)
one_file kind number k j n m h i = (one_kind kind k j h.0 i.0, h.1.value ∙ sym i.1.value)

-- and by it they ask one job
one_asked : (said : Said) (a b : Job) → AsksBy said a → AsksBy said b → a ≡ b
one_asked (words.consult f text path) (consult file c budget logs) (consult file' c' budget' logs') h k =
    let same_file : file ≡ file' = h.0 ∙ sym k.0 in
    let choice : c ≡ c' = h.1 ∙ sym k.1 in
    let first : budget ≡ budget' = one_first text budget budget' h.2 k.2 in
    let kept : logs ≡ logs' = h.3 ∙ sym k.3 in
    λ i. consult (same_file i) (choice i) (first i) (kept i)
one_asked (words.check f) (check file c) (check file' c') h k =
    let same_file : file ≡ file' = h.0 ∙ sym k.0 in
    let choice : c ≡ c' = h.1 ∙ sym k.1 in
    λ i. check (same_file i) (choice i)
one_asked (words.verify f path) (verify file c log) (verify file' c' log') h k =
    let same_file : file ≡ file' = h.0 ∙ sym k.0 in
    let choice : c ≡ c' = h.1 ∙ sym k.1 in
    let same_log : log ≡ log' = h.2 ∙ sym k.2 in
    λ i. verify (same_file i) (choice i) (same_log i)
one_asked (words.generate kind number true) (make k n) (make j m) h i =
    let same = one_file kind number k j n m h i in
    λ t. make (same.0 t) (same.1 t)
one_asked (words.generate kind number false) (summarise k n) (summarise j m) h i =
    let same = one_file kind number k j n m h i in
    λ t. summarise (same.0 t) (same.1 t)
one_asked (words.consult f text path) (check file c) b h k = absurd h
one_asked (words.consult f text path) (verify file c log) b h k = absurd h
one_asked (words.consult f text path) (make q n) b h k = absurd h
one_asked (words.consult f text path) (summarise q n) b h k = absurd h
one_asked (words.consult f text path) (consult file c budget logs) (check file' c') h k = absurd k
one_asked (words.consult f text path) (consult file c budget logs) (verify file' c' log') h k = absurd k
one_asked (words.consult f text path) (consult file c budget logs) (make j m) h k = absurd k
one_asked (words.consult f text path) (consult file c budget logs) (summarise j m) h k = absurd k
one_asked (words.check f) (consult file c budget logs) b h k = absurd h
one_asked (words.check f) (verify file c log) b h k = absurd h
one_asked (words.check f) (make q n) b h k = absurd h
one_asked (words.check f) (summarise q n) b h k = absurd h
one_asked (words.check f) (check file c) (consult file' c' budget' logs') h k = absurd k
one_asked (words.check f) (check file c) (verify file' c' log') h k = absurd k
one_asked (words.check f) (check file c) (make j m) h k = absurd k
one_asked (words.check f) (check file c) (summarise j m) h k = absurd k
one_asked (words.verify f path) (consult file c budget logs) b h k = absurd h
one_asked (words.verify f path) (check file c) b h k = absurd h
one_asked (words.verify f path) (make q n) b h k = absurd h
one_asked (words.verify f path) (summarise q n) b h k = absurd h
one_asked (words.verify f path) (verify file c log) (consult file' c' budget' logs') h k = absurd k
one_asked (words.verify f path) (verify file c log) (check file' c') h k = absurd k
one_asked (words.verify f path) (verify file c log) (make j m) h k = absurd k
one_asked (words.verify f path) (verify file c log) (summarise j m) h k = absurd k
one_asked (words.generate kind number true) (consult file c budget logs) b h k = absurd h
one_asked (words.generate kind number true) (check file c) b h k = absurd h
one_asked (words.generate kind number true) (verify file c log) b h k = absurd h
one_asked (words.generate kind number true) (summarise q n) b h k = absurd h
one_asked (words.generate kind number true) (make q n) (consult file' c' budget' logs') h k = absurd k
one_asked (words.generate kind number true) (make q n) (check file' c') h k = absurd k
one_asked (words.generate kind number true) (make q n) (verify file' c' log') h k = absurd k
one_asked (words.generate kind number true) (make q n) (summarise j m) h k = absurd k
one_asked (words.generate kind number false) (consult file c budget logs) b h k = absurd h
one_asked (words.generate kind number false) (check file c) b h k = absurd h
one_asked (words.generate kind number false) (verify file c log) b h k = absurd h
one_asked (words.generate kind number false) (make q n) b h k = absurd h
one_asked (words.generate kind number false) (summarise q n) (consult file' c' budget' logs') h k = absurd k
one_asked (words.generate kind number false) (summarise q n) (check file' c') h k = absurd k
one_asked (words.generate kind number false) (summarise q n) (verify file' c' log') h k = absurd k
one_asked (words.generate kind number false) (summarise q n) (make j m) h k = absurd k

-- where the kind is known and the number is none of it, they are no kind and number
pub no_file : (name number : List ℕ) (k : Kind) → name ≡ kind_name k → ((n : ℕ) → IsNumberText k number n → ⊥)
    → (j : Kind) (n : ℕ) → AreOfFile name number j n → ⊥
no_file name number k named none j n is =
    none n (subst (λ (q : Kind). IsNumberText q number n) (one_kind name j k is.0 named) is.1)

-- a number of a kind is within what budgets may be
within_budgets : (k : Kind) → most k ≤ most_budget
within_budgets Timetable = omega arith
within_budgets Roster = omega arith

pub number_is_budget : (k : Kind) (text : List ℕ) (n : ℕ) → IsNumberText k text n → IsBudget text
number_is_budget k text n is =
    let value = is.value in
    let most = is.within.most in
    let least = is.within.least in
    record { least = omega (arith, value, least); most = omega (arith, value, most, within_budgets k) }

pub one_job : (words : List (List ℕ)) (a b : Job) → Asks words a → Asks words b → a ≡ b
one_job words a b h k =
    one_asked k.0 a b (subst (λ (s : Said). AsksBy s a) (one_said words h.0 k.0 h.1 k.1) h.2) k.2
