-- Worked examples of sets of elements that are said by ranges.
use Rattle.std.specs.Prelude.{◌≡◌, ℕ, pos, negsuc, true, false, List, [], ◌∷◌, length, codes}
use Rattle.kb_logic.specs.declared.elements.Elem.TheVariants.{Named, Num}
use Rattle.stage_definitions.specs.Elements.{Cell, one, span, is_among, is_covered, do_share, count_of, listed}

abbrev number : ℕ → Cell
number n = one (Num (pos n))

abbrev word : List ℕ → Cell
word text = one (Named text)

-- from m to n
abbrev range : ℕ → ℕ → Cell
range m n = span (pos m) (pos n)

-- 1..3, 5, a, 2..4, b, a, 9..7
abbrev mixed : List Cell
mixed = range 1 3 ∷ number 5 ∷ word (codes "a") ∷ range 2 4 ∷ word (codes "b") ∷ word (codes "a") ∷ range 9 7 ∷ []

-- 5..6, 1..2, 9..9, 2..5: the last joins the first two
abbrev joining : List Cell
joining = range 5 6 ∷ range 1 2 ∷ range 9 9 ∷ range 2 5 ∷ []

pub record CellsAreWorkedOut : Type 0 where
  pub counted : count_of mixed ≡ 7
  pub listed_once : listed mixed ≡ Num (pos 1) ∷ Num (pos 2) ∷ Num (pos 3) ∷ Num (pos 5) ∷ Named (codes "a")
      ∷ Num (pos 4) ∷ Named (codes "b") ∷ []
  pub joined_count : count_of joining ≡ 7
  pub joined_list : length (listed joining) ≡ 7
  pub inside : count_of (range 1 9 ∷ range 3 4 ∷ range 2 8 ∷ []) ≡ 9
  -- -2..1 and -5..-4
  pub below_zero : count_of (span (negsuc 1) (pos 1) ∷ span (negsuc 4) (negsuc 3) ∷ []) ≡ 6
  pub nothing : count_of (range 2 1 ∷ range 9 3 ∷ []) ≡ 0
  pub large : count_of (range 1 1000000000000 ∷ []) ≡ 1000000000000
  pub in_between : is_among mixed (Num (pos 4)) ≡ true
  pub not_in_between : is_among mixed (Num (pos 8)) ≡ false
  pub no_word : is_among mixed (Named (codes "c")) ≡ false
  -- 2..5 in 1..3 and 4..6, but not in 1..3 and 5..6
  pub covered_by_two : is_covered (range 1 3 ∷ range 4 6 ∷ []) (range 2 5) ≡ true
  pub with_a_gap : is_covered (range 1 3 ∷ range 5 6 ∷ []) (range 2 5) ≡ false
  pub covered_twice : is_covered (range 1 3 ∷ range 2 4 ∷ range 3 5 ∷ []) (range 1 5) ≡ true
  pub nothing_covered : is_covered [] (range 2 1) ≡ true
  pub by_single_ones : is_covered (number 2 ∷ number 1 ∷ []) (range 1 2) ≡ true
  -- ranges share where one integer is in both
  pub share_one : do_share (range 1 3) (range 3 5) ≡ true
  pub share_none : do_share (range 1 3) (range 4 5) ≡ false
  pub share_nothing : do_share (range 3 1) (range 1 5) ≡ false
  pub share_element : do_share (number 2) (range 1 3) ≡ true
