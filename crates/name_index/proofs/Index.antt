-- The index that is made by putting names in, in file order, is one; what a lookup in it finds. Assumes nothing.
use mathlib.Core.Path.{◌≡◌, refl, sym, ap, ◌∙◌}
use mathlib.Core.Bool.{Bool, true, false}
use mathlib.Core.List.{List, [], ◌∷◌, ◌++◌, append_assoc, append-nil}
use mathlib.Core.Option.{none}
use Prim.Native.Nat.{ℕ, zero, suc, ◌+◌, ◌≤◌, ◌<◌}
use native.Mathlib.Decide.{dec_lt, ℕ_discrete}
use native.Mathlib.Omega.{arith}
use lib.ListN.{length, get_or, set, replicate, length-append, length-set, get_or-append, get_or-eq_default, get_or-replicate}
use lib.Seq.{get_or-set_same, get_or-set_other, get_or-append_seam}
use Rattle.algebra.specs.Bytes.{tally}
use Rattle.grammar.specs.Lookup.{same, position}
use Rattle.grammar.proofs.Lookup.{same_refl, position_fails}
use Rattle.name_index.specs.Hash.{slot_of}
use Rattle.name_index.specs.Index.{after, free_from, free_slot, put, index_from, index, look_up, Distinct}
use Rattle.algebra.proofs.Bytes.{tally_set}
use Rattle.name_index.proofs.Runs.{Taken, Reached, Indexes, more_taken, run_short}
use Rattle.name_index.proofs.Hash.{slot_lt}
use Rattle.name_index.proofs.Search.{search_finds, search_reads}

-- ---- the first free slot
module _ (slots : List ℕ) (i : ℕ) where
  pub free_here : (k d : ℕ) → get_or slots (after i k) 0 ≡ 0 → free_from slots i k (suc d) ≡ k
  unfolding free_from
  free_here k d e = rw (e, free_from)

  pub free_further : (k d : ℕ) → 0 < get_or slots (after i k) 0 → free_from slots i k (suc d) ≡ free_from slots i (suc k) d
  unfolding free_from
  free_further k d h = go (get_or slots (after i k) 0) refl
    where
      go : (s : ℕ) → get_or slots (after i k) 0 ≡ s → free_from slots i k (suc d) ≡ free_from slots i (suc k) d
      go zero e = absurd (omega arith)
      go (suc m) e = rw (e, free_from)

  pub record First (k : ℕ) : Type 0 where
    pub run : Taken slots i k
    pub low : k < 256
    pub free : get_or slots (after i k) 0 ≡ 0

  module _ (size : length slots ≡ 256) (low : i < 256) (some-free : 0 < tally 0 slots) where
    first : (d k : ℕ) → k + d ≡ 256 → Taken slots i k → First (free_from slots i k d)
    first zero k e t = absurd (omega (arith, run_short slots size i low k (omega arith) t))
    first (suc d) k e t = go (get_or slots (after i k) 0) refl (λ h. first d (suc k) (omega arith) (more_taken slots i k t h))
      where
        go : (s : ℕ) → get_or slots (after i k) 0 ≡ s → (0 < get_or slots (after i k) 0 → First (free_from slots i (suc k) d))
            → First (free_from slots i k (suc d))
        go zero q r = rw (free_here k d q) (record { run = t; low = omega arith; free = q })
        go (suc m) q r = let h : 0 < get_or slots (after i k) 0 = omega arith in rw (free_further k d h) (r h)

    pub first_free : First (free_from slots i 0 256)
    first_free = first 256 0 (omega arith) (λ j g. absurd (omega arith))

-- ---- one name more
module _ (slots : List ℕ) (p v : ℕ) (z : get_or slots p 0 ≡ 0) where
  kept : (j : ℕ) → 0 < get_or slots j 0 → get_or (set slots p v) j 0 ≡ get_or slots j 0
  kept j h = get_or-set_other slots p j v 0 (λ e. let q : get_or slots j 0 ≡ 0 = rw e z in omega arith)

  kept_run : (i k : ℕ) → Taken slots i k → Taken (set slots p v) i k
  kept_run i k t j g = rw (kept (after i j) (t j g)) (t j g)

  kept_reached : (i m : ℕ) → Reached slots i m → Reached (set slots p v) i m
  kept_reached i m r = record { far = r.far; run = kept_run i r.far r.run; here = kept (after i r.far) (omega (arith, r.here)) ∙ r.here }

module _ (names : List (List ℕ)) (n : List ℕ) where
  pub last_length : length (names ++ (n ∷ [])) ≡ suc (length names)
  last_length = simp length-append (omega arith)

  at_old : (m : ℕ) → m < length names → get_or (names ++ (n ∷ [])) m [] ≡ get_or names m []
  at_old m h = get_or-append names (n ∷ []) [] m h

  at_last : get_or (names ++ (n ∷ [])) (length names) [] ≡ n
  at_last = get_or-append_seam names n [] []

  -- the name is not there yet
  abbrev pub Fresh : Type 0
  Fresh = (m : ℕ) → m < length names → get_or names m [] ≡ n → ⊥

  pub is_fresh : position (same n) names ≡ none → Fresh
  is_fresh e m h q =
      let x : ◌≡◌ {A = Bool} true false = sym (same_refl n) ∙ ap (same n) (sym q) ∙ position_fails (same n) names [] m e h in
      let y : ◌≡◌ {A = ℕ} 0 1 = cc in
      omega arith

  pub more_distinct : Distinct names → Fresh → Distinct (names ++ (n ∷ []))
  more_distinct D f i j h g e = go (dec_lt i (length names)) (dec_lt j (length names))
    where
      go : Dec (i < length names) → Dec (j < length names) → i ≡ j
      go (yes a) (yes b) = D i j a b (sym (at_old i a) ∙ e ∙ at_old j b)
      go (yes a) (no b) = let q : j ≡ length names = omega (arith, last_length) in absurd (f i a (sym (at_old i a) ∙ e ∙ rw q at_last))
      go (no a) (yes b) = let q : i ≡ length names = omega (arith, last_length) in absurd (f j b (sym (at_old j b) ∙ sym e ∙ rw q at_last))
      go (no a) (no b) = omega (arith, last_length)

  module _ (slots : List ℕ) (I : Indexes slots names) (f : Fresh) (room : length names < 255) where
    module _ (k : ℕ) (F : First slots (slot_of n) k) where
      slots' : List ℕ
      slots' = set slots (after (slot_of n) k) (suc (length names))

      low : after (slot_of n) k < length slots
      low = omega (arith, I.size)

      at_new : get_or slots' (after (slot_of n) k) 0 ≡ suc (length names)
      unfolding slots'
      at_new = get_or-set_same slots (after (slot_of n) k) (suc (length names)) 0 low

      known : (i : ℕ) → get_or slots' i 0 ≤ suc (length names)
      unfolding slots'
      known i =
          elim (ℕ_discrete i (after (slot_of n) k)) [
            | yes e ↦ rw e (omega (arith, at_new))
            | no e ↦ omega (arith, get_or-set_other slots (after (slot_of n) k) i (suc (length names)) 0 e, I.known i)
          ]

      reached : (m : ℕ) → m < suc (length names) → Reached slots' (slot_of (get_or (names ++ (n ∷ [])) m [])) m
      unfolding slots'
      reached m h = go (dec_lt m (length names))
        where
          go : Dec (m < length names) → Reached slots' (slot_of (get_or (names ++ (n ∷ [])) m [])) m
          go (yes g) = rw (at_old m g) (kept_reached slots _ _ F.free _ m (I.reached m g))
          go (no g) =
              let e : m ≡ length names = omega arith in
              rw (e, at_last) (record { far = k; run = kept_run slots _ _ F.free _ k F.run; here = at_new })

      set_indexes : Indexes slots' (names ++ (n ∷ []))
      unfolding slots'
      set_indexes =
          record {
            size = length-set slots _ _ ∙ I.size;
            few = omega (arith, last_length);
            distinct = more_distinct I.distinct f;
            known = λ i. omega (arith, last_length, known i);
            free = omega (arith, last_length, I.free, tally_set slots _ (suc (length names)) low F.free (λ e. omega arith));
            reached = λ m h. reached m (omega (arith, last_length));
          }

    -- the index with a name that was not there
    pub put_indexes : Indexes (put slots n (length names)) (names ++ (n ∷ []))
    unfolding put free_slot slots'
    put_indexes = set_indexes _ (first_free slots (slot_of n) I.size (slot_lt n) (omega (arith, I.free)))

-- ---- all names

pub empty_indexes : Indexes (replicate 256 0) []
unfolding tally
empty_indexes =
    record {
      size = refl;
      few = omega arith;
      distinct = λ i j h g e. absurd (omega arith);
      known = λ i. all_free (dec_lt i 256);
      free = refl;
      reached = λ m h. absurd (omega arith);
    }
  where
    all_free : {i : ℕ} → Dec (i < 256) → get_or (replicate 256 0) i 0 ≤ 0
    all_free {i} (yes h) = omega (arith, get_or-replicate {A = ℕ} 256 i 0 0 h)
    all_free {i} (no h) = omega (arith, get_or-eq_default {A = ℕ} (replicate 256 0) 0 {n = i} (omega arith))

from_append : (slots : List ℕ) (m : ℕ) (ns : List (List ℕ)) (n : List ℕ) → index_from slots m (ns ++ (n ∷ [])) ≡ put (index_from slots m ns) n (m + length ns)
unfolding index_from
from_append slots m [] n = ap (put slots n) (omega arith)
from_append slots m (x ∷ xs) n = from_append (put slots x m) (suc m) xs n ∙ ap (put (index_from (put slots x m) (suc m) xs) n) (omega arith)

-- the index with one name more
pub index_more : (names : List (List ℕ)) (n : List ℕ) → index (names ++ (n ∷ [])) ≡ put (index names) n (length names)
unfolding index
index_more names n = from_append (replicate 256 0) 0 names n ∙ ap (put (index_from (replicate 256 0) 0 names) n) (omega arith)

-- the names before one of distinct names are not that one
fresh : (names : List (List ℕ)) (n : List ℕ) (ns : List (List ℕ)) → Distinct (names ++ n ∷ ns) → Fresh names n
fresh names n ns D m h e =
    let q = D m (length names) (simp length-append (omega arith)) (simp length-append (omega arith))
    (get_or-append names (n ∷ ns) [] m h ∙ e ∙ sym (get_or-append_seam names n ns [])) in
    omega arith

from_indexes : (slots : List ℕ) (names ns : List (List ℕ)) → Indexes slots names → Distinct (names ++ ns) → length names + length ns ≤ 255
    → Indexes (index_from slots (length names) ns) (names ++ ns)
unfolding index_from
from_indexes slots names [] I D h = rw append-nil I
from_indexes slots names (n ∷ ns) I D h =
    let e : (names ++ (n ∷ [])) ++ ns ≡ names ++ n ∷ ns = append_assoc names (n ∷ []) ns in
    let r = from_indexes (put slots n (length names)) (names ++ (n ∷ [])) ns (put_indexes names n slots I (fresh names n ns D) (omega arith)) (rw e D)
    (omega (arith, last_length names n)) in
    rw (last_length names n, e) at r

pub indexes : (names : List (List ℕ)) → Distinct names → length names ≤ 255 → Indexes (index names) names
unfolding index
indexes names D h = from_indexes (replicate 256 0) [] names empty_indexes D (omega arith)

-- ---- a lookup among distinct names, at most 255
module _ (names : List (List ℕ)) (D : Distinct names) (few : length names ≤ 255) (n : List ℕ) where
  -- it finds the member that a walk along the names finds
  pub lookup_finds : (look_up names n).member ≡ position (same n) names
  unfolding look_up
  lookup_finds = search_finds (index names) names (indexes names D few) n

  -- and reads no more slots than there are names, plus one
  pub lookup_reads : (look_up names n).read ≤ suc (length names)
  unfolding look_up
  lookup_reads = search_reads (index names) names (indexes names D few) n
