-- Laws of names and numbers, on lists alone.
use Prim.Native.Nat.{ℕ, zero, suc, ◌+◌, ◌-◌, ◌*◌, ◌<◌, ◌≤◌}
use native.Mathlib.Numerals.{add-one}
use native.Mathlib.Omega.{arith}
use mathlib.Core.Path.{◌≡◌, refl, sym, ap, ◌∙◌}
use mathlib.Core.List.{List, [], ◌∷◌}
use mathlib.Core.Option.{Option, none, some}
use mathlib.Core.Bool.{Bool, true, false, cond, ◌&&◌, and-false, and-true, or-true}
use lib.ListN.{length, get_or, take, drop}
use lib.Seq.{drop-cons, take_all}
use lib.Dec.{leb}
use borrow.Author.Tests.{eq-eqb, ne_eqb, le-leb, lt-leb, leb-true}
use Rattle.std.specs.List.{list_all}
use Rattle.std.proofs.lemmas.List.{nil_from_length, drop_all}
use Rattle.std.proofs.lemmas.Bool.Decides.{nat_tests}
use Rattle.std.proofs.lemmas.List.Recursion.{same_from_clauses}
use Rattle.algebra.proofs.Bool.{and_left, and_right}
use Rattle.grammar.specs.Name.{is_letter_lem, is_name_byte_lem, are_name_bytes_lem, is_name_lem, no_letter_lem, letter_byte_lem, letter_word}
use Rattle.reader.specs.Text.{is_digit, digits, is_number, spells}
use Rattle.reader.specs.Line.{letter_of}

-- ---- the bytes of a name

pub all_name_bytes : (w : List ℕ) → are_name_bytes_lem w ≡ list_all is_name_byte_lem w
unfolding are_name_bytes_lem
all_name_bytes w = same_from_clauses are_name_bytes_lem (list_all is_name_byte_lem) (λ b r. is_name_byte_lem b && r) refl (λ _ _. refl) (λ _ _. refl) w

-- ---- names

three_tests : (a b c : Bool) → (a && b && true && c) ≡ (a && (c && b))
three_tests false b c = refl
three_tests true false c = sym (and-false c)
three_tests true true c = sym (and-true c)

-- a word of one letter is that letter; another has none
pub lone_letter : (w : List ℕ) → no_letter_lem (letter_word w) ≡ no_letter_lem (letter_byte_lem (letter_of w))
unfolding letter_word letter_byte_lem letter_of
lone_letter [] = refl
lone_letter (b ∷ []) = refl
lone_letter (b ∷ c ∷ r) = refl

pub empty_no_name : is_name_lem [] ≡ false
unfolding is_name_lem is_letter_lem
empty_no_name = refl

module _ (w : List ℕ) where
  pub name_empty : length w ≡ 0 → is_name_lem w ≡ false
  unfolding is_name_lem is_letter_lem
  name_empty h = rw (nil_from_length w h)

  pub name_long : 24 < length w → is_name_lem w ≡ false
  unfolding is_name_lem
  name_long h = rw (lt-leb (length w) 24 h, and-false (is_letter_lem (get_or w 0 0) && are_name_bytes_lem w))

  -- the tests of a short text, in the order of the code
  pub name_tests : length w ≤ 24
      → is_name_lem w ≡ (is_letter_lem (get_or w 0 0) && (no_letter_lem (letter_byte_lem (letter_of w)) && are_name_bytes_lem w))
  unfolding is_name_lem
  name_tests h =
      rw (le-leb (length w) 24 h, lone_letter w)
      (three_tests (is_letter_lem (get_or w 0 0)) (are_name_bytes_lem w) (no_letter_lem (letter_byte_lem (letter_of w))))

  pub name_short : is_name_lem w ≡ true → length w ≤ 24
  unfolding is_name_lem
  name_short e = leb-true (length w) 24 (and_right (is_letter_lem (get_or w 0 0) && are_name_bytes_lem w) (leb (length w) 24)
      (and_left (is_letter_lem (get_or w 0 0) && are_name_bytes_lem w && leb (length w) 24) (no_letter_lem (letter_word w)) e))

-- ---- the bytes of a name, up to a place

pub bytes_none : are_name_bytes_lem [] ≡ true
unfolding are_name_bytes_lem
bytes_none = refl

pub bytes_all : (l : List ℕ) (i : ℕ) → i ≡ length l → are_name_bytes_lem (take i l) ≡ true → are_name_bytes_lem l ≡ true
bytes_all l i e h = sym (ap are_name_bytes_lem (take_all i l (omega arith))) ∙ h

bytes_next : (l : List ℕ) (i : ℕ) → i < length l → are_name_bytes_lem (take i l) ≡ true → is_name_byte_lem (get_or l i 0) ≡ true
    → are_name_bytes_lem (take (suc i) l) ≡ true
unfolding are_name_bytes_lem
bytes_next [] i h e b = absurd (omega arith)
bytes_next (x ∷ xs) zero h e b = rw b
bytes_next (x ∷ xs) (suc i) h e b =
    rw (and_left (is_name_byte_lem x) (are_name_bytes_lem (take i xs)) e)
    (bytes_next xs i (omega arith) (and_right (is_name_byte_lem x) (are_name_bytes_lem (take i xs)) e) b)

pub bytes_more : (l : List ℕ) (i : ℕ) → i < length l → are_name_bytes_lem (take i l) ≡ true → is_name_byte_lem (get_or l i 0) ≡ true
    → are_name_bytes_lem (take (i + 1) l) ≡ true
bytes_more l i h e b = rw add-one (bytes_next l i h e b)

bytes_stop : (l : List ℕ) (i : ℕ) → i < length l → is_name_byte_lem (get_or l i 0) ≡ false → are_name_bytes_lem l ≡ false
unfolding are_name_bytes_lem
bytes_stop [] i h b = absurd (omega arith)
bytes_stop (x ∷ xs) zero h b = rw b
bytes_stop (x ∷ xs) (suc i) h b = rw (bytes_stop xs i (omega arith) b) (and-false (is_name_byte_lem x))

pub name_stops : (l : List ℕ) (i : ℕ) → i < length l → is_name_byte_lem (get_or l i 0) ≡ false → is_name_lem l ≡ false
unfolding is_name_lem
name_stops l i h b = rw (bytes_stop l i h b, and-false (is_letter_lem (get_or l 0 0)))

pub name_begins : (w : List ℕ) → are_name_bytes_lem w ≡ true → length w ≤ 24
    → is_name_lem w ≡ (is_letter_lem (get_or w 0 0) && no_letter_lem (letter_byte_lem (letter_of w)))
name_begins w e h = name_tests w h ∙ rw (e, and-true (no_letter_lem (letter_byte_lem (letter_of w))))

-- ---- numbers

-- the number that digits spell after those that spell n, where they are digits
unfoldable pub valued : ℕ → List ℕ → Option ℕ
valued n t = cond (digits t) (some (spells n t)) none

-- the number that a text spells, where it is one
unfoldable pub numeral : List ℕ → Option ℕ
numeral t = cond (is_number t) (some (spells 0 t)) none

module _ (t : List ℕ) where
  pub number_empty : length t < 1 → numeral t ≡ none
  unfolding numeral is_number
  number_empty h = rw (lt-leb 1 (length t) h, and-false (digits t))

  pub number_long : 4 < length t → numeral t ≡ none
  unfolding numeral is_number
  number_long h = rw (lt-leb (length t) 4 h, and-false (leb 1 (length t)), and-false (digits t))

  pub number_zero : (length t ≡ 1 → ⊥) → get_or t 0 0 ≡ 48 → numeral t ≡ none
  unfolding numeral is_number
  number_zero h e = rw (ne_eqb (length t) 1 h, eq-eqb (get_or t 0 0) 48 e, and-false (leb (length t) 4), and-false (leb 1 (length t)), and-false (digits t))

  pub number_on : 1 ≤ length t → length t ≤ 4 → (get_or t 0 0 ≡ 48 → ⊥) → numeral t ≡ valued 0 t
  unfolding numeral is_number valued
  number_on h k e = simp (le-leb 1 (length t) h, le-leb (length t) 4 k, ne_eqb (get_or t 0 0) 48 e, or-true, and-true)

pub number_nought : (t : List ℕ) → length t ≡ 1 → get_or t 0 0 ≡ 48 → numeral t ≡ some 0
unfolding numeral is_number digits is_digit spells
number_nought [] h e = absurd (omega arith)
number_nought (b ∷ []) h e = rw e
number_nought (b ∷ c ∷ r) h e = absurd (omega arith)

pub digit_high : (b : ℕ) → is_digit b ≡ true → b ≤ 57
unfolding is_digit
digit_high b e = leb-true b 57 (and_right (leb 48 b) (leb b 57) e)

module _ (l : List ℕ) (i n : ℕ) (h : i < length l) where
  pub digit_run : is_digit (get_or l i 0) ≡ true → valued n (drop i l) ≡ valued (n * 10 + (get_or l i 0 - 48)) (drop (i + 1) l)
  unfolding valued digits spells
  digit_run e = rw (add-one, drop-cons l i 0 h, e)

  pub digit_stop : is_digit (get_or l i 0) ≡ false → valued n (drop i l) ≡ none
  unfolding valued digits
  digit_stop e = rw (drop-cons l i 0 h, e)

pub digit_end : (l : List ℕ) (i n : ℕ) → length l ≤ i → valued n (drop i l) ≡ some n
unfolding valued digits spells
digit_end l i n h = rw (drop_all i l h)

-- where the bytes of a name end, and whether a text is one
pub ruleset name_ends = (bytes_none, bytes_more)

pub ruleset names = (nat_tests, bytes_all, name_stops, name_begins, name_empty, name_long)
