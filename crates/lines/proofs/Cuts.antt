-- Where the first piece of a text ends, and what the pieces of the text are by it.
use Prim.Native.Nat.{ℕ, zero, suc, ◌+◌, ◌-◌, ◌<◌, ◌≤◌}
use native.Mathlib.Numerals.{add-one}
use native.Mathlib.Omega.{arith}
use mathlib.Core.Path.{◌≡◌, refl, ap}
use mathlib.Core.List.{List, [], ◌∷◌}
use mathlib.Core.Option.{Option, none, some, map}
use mathlib.Core.Bool.{Bool, true, false, cond}
use lib.ListN.{length, get_or, take, drop}
use lib.Seq.{drop-cons, take_all}
use lib.Dec.{eqb}
use borrow.Author.Tests.{eq-eqb, ne_eqb}
use Rattle.std.proofs.lemmas.List.{drop_all, length-drop}
use Rattle.reader.specs.Text.{before, pieces, on_first, fields, before_comma, after_comma}
use Rattle.lines.specs.Fields.{first_field}

module _ (s : ℕ) where
  -- ---- the search for a separator, from place i on

  module _ (l : List ℕ) (i : ℕ) where
    pub end_hit : i < length l → get_or l i 0 ≡ s → before s (drop i l) ≡ []
    unfolding before
    end_hit h e = rw (drop-cons l i 0 h, eq-eqb (get_or l i 0) s e)

    pub end_miss : i < length l → (get_or l i 0 ≡ s → ⊥) → length (before s (drop i l)) ≡ 1 + length (before s (drop (i + 1) l))
    unfolding before
    end_miss h e = rw (drop-cons l i 0 h, ne_eqb (get_or l i 0) s e, add-one) (omega arith)

    pub end_none : length l ≤ i → before s (drop i l) ≡ []
    unfolding before
    end_none h = rw (drop_all i l h)

  -- ---- what stands before the first separator

  within_case : (t : Bool) (b : ℕ) (bs r : List ℕ) → length r ≤ length bs → length (cond t [] (b ∷ r)) ≤ suc (length bs)
  within_case true b bs r h = omega arith
  within_case false b bs r h = omega arith

  pub before_within : (l : List ℕ) → length (before s l) ≤ length l
  unfolding before
  before_within [] = omega arith
  before_within (b ∷ bs) = within_case (eqb b s) b bs (before s bs) (before_within bs)

  takes_case : (t : Bool) (b : ℕ) (bs r : List ℕ) → take (length r) bs ≡ r → take (length (cond t [] (b ∷ r))) (b ∷ bs) ≡ cond t [] (b ∷ r)
  takes_case true b bs r ih = refl
  takes_case false b bs r ih = ap (λ (t : List ℕ). b ∷ t) ih

  pub before_takes : (l : List ℕ) → take (length (before s l)) l ≡ before s l
  unfolding before
  before_takes [] = refl
  before_takes (b ∷ bs) = takes_case (eqb b s) b bs (before s bs) (before_takes bs)

  -- it stops at the first place that holds a separator, or before
  stops_case : (t : Bool) (b k : ℕ) (r : List ℕ) → length r ≤ k → length (cond t [] (b ∷ r)) ≤ suc k
  stops_case true b k r h = omega arith
  stops_case false b k r h = omega arith

  pub before_stops : (l : List ℕ) (k : ℕ) → k < length l → get_or l k 0 ≡ s → length (before s l) ≤ k
  unfolding before
  before_stops [] k h e = absurd (omega arith)
  before_stops (b ∷ bs) zero h e = rw (eq-eqb b s e) (omega arith)
  before_stops (b ∷ bs) (suc k) h e = stops_case (eqb b s) b k (before s bs) (before_stops bs k (omega arith) e)

  -- where there is a separator, the first piece is what stands before it, and the others are those of what follows it
  module _ (last : List (List ℕ)) where
    more_case : (t : Bool) (b : ℕ) (bs r : List ℕ)
        → (length r < length bs → pieces last s bs ≡ r ∷ pieces last s (drop (suc (length r)) bs))
        → length (cond t [] (b ∷ r)) < suc (length bs)
        → cond t ([] ∷ pieces last s bs) (on_first b (pieces last s bs)) ≡ cond t [] (b ∷ r) ∷ pieces last s (drop (length (cond t [] (b ∷ r))) bs)
    unfolding on_first
    more_case true b bs r ih h = refl
    more_case false b bs r ih h = rw (ih (omega arith))

    pieces_more : (l : List ℕ) → length (before s l) < length l → pieces last s l ≡ before s l ∷ pieces last s (drop (suc (length (before s l))) l)
    unfolding before pieces
    pieces_more [] h = absurd (omega arith)
    pieces_more (b ∷ bs) h = more_case (eqb b s) b bs (before s bs) (pieces_more bs) h

    pub piece_more : (l : List ℕ) (r : ℕ) → r ≡ length (before s l) → r < length l → pieces last s l ≡ take r l ∷ pieces last s (drop (r + 1) l)
    piece_more l r e h = rw (e, before_takes l, add-one) (pieces_more l (omega arith))

-- ---- before and after the first comma

after_case : (t : Bool) (b : ℕ) (bs r : List ℕ)
    → (length r < length bs → after_comma bs ≡ some (drop (suc (length r)) bs))
    → length (cond t [] (b ∷ r)) < suc (length bs)
    → cond t (some bs) (after_comma bs) ≡ some (drop (length (cond t [] (b ∷ r))) bs)
after_case true b bs r ih h = refl
after_case false b bs r ih h = ih (omega arith)

after_more : (l : List ℕ) → length (before 44 l) < length l → after_comma l ≡ some (drop (suc (length (before 44 l))) l)
unfolding before after_comma
after_more [] h = absurd (omega arith)
after_more (b ∷ bs) h = after_case (eqb b 44) b bs (before 44 bs) (after_more bs) h

none_case : (t : Bool) (b : ℕ) (bs r : List ℕ) → (length r ≡ length bs → after_comma bs ≡ none) → length (cond t [] (b ∷ r)) ≡ suc (length bs)
    → cond t (some bs) (after_comma bs) ≡ none
none_case true b bs r ih h = absurd (omega arith)
none_case false b bs r ih h = ih (omega arith)

after_all : (l : List ℕ) → length (before 44 l) ≡ length l → after_comma l ≡ none
unfolding before after_comma
after_all [] h = refl
after_all (b ∷ bs) h = none_case (eqb b 44) b bs (before 44 bs) (after_all bs) h

-- the first field, by where it ends
pub first_none : (l : List ℕ) (end : ℕ) → end ≡ length (before 44 l) → end ≡ length l → first_field l ≡ none
unfolding first_field
first_none l end e h = rw (after_all l (omega arith))

pub first_some : (l : List ℕ) (end : ℕ) → end ≡ length (before 44 l) → (end ≡ length l → ⊥)
    → first_field l ≡ some (take end l, take (length l - (end + 1)) (drop (end + 1) l))
unfolding first_field before_comma
first_some l end e h =
    let rest = take_all (length l - (end + 1)) (drop (end + 1) l) (omega (arith, length-drop (end + 1) l)) in
    let less : length (before 44 l) < length l = omega (arith, before_within 44 l) in
    rw (rest, add-one, e, after_more l less, before_takes 44 l)

-- ---- the fields of a text, by its first field

abbrev pub fields_by : List ℕ → Option (List ℕ × List ℕ) → List (List ℕ)
fields_by t none = t ∷ []
fields_by t (some p) = p.0 ∷ fields p.1

field_case : (b : ℕ) (bs r : List ℕ) (a : Option (List ℕ)) (t : Bool) (fs : List (List ℕ)) → fs ≡ fields_by bs (map (λ (x : List ℕ). (r, x)) a)
    → cond t ([] ∷ fields bs) (on_first b fs) ≡ fields_by (b ∷ bs) (map (λ (x : List ℕ). (cond t [] (b ∷ r), x)) (cond t (some bs) a))
unfolding on_first
field_case b bs r a true fs e = refl
field_case b bs r none false fs e = rw e
field_case b bs r (some x) false fs e = rw e

pub fields_first : (l : List ℕ) → fields l ≡ fields_by l (first_field l)
unfolding fields pieces before_comma before after_comma first_field
fields_first [] = refl
fields_first (b ∷ bs) = field_case b bs (before 44 bs) (after_comma bs) (eqb b 44) (fields bs) (fields_first bs)

-- where the search for a separator is, and what it has found
pub ruleset ends = (end_hit, end_miss, end_none, before_within)

-- the first field by the place where it ends
pub ruleset firsts = (first_none, first_some)
