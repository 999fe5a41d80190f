-- A fresh name is none of those given, and is a name. Assumes nothing.
use mathlib.Core.Path.{◌≡◌, refl, sym, ap, ◌∙◌}
use mathlib.Core.Bool.{Bool, true, false, not, true≢false}
use mathlib.Core.List.Memᴰ
use mathlib.Core.List.{List, [], ◌∷◌, ◌++◌, Memᴰ}
use Prim.Native.Nat.{ℕ, zero, suc, ◌+◌, ◌*◌, ◌/◌, ◌%◌, ◌≤◌, ◌<◌}
use native.Mathlib.Nat.{div-add-mod', div-lt_iff_lt-mul, mod-lt}
use native.Mathlib.Omega.{arith}
use lib.ListN.{length}
use borrow.Author.Tests.{le-leb, not-true}
use Rattle.algebra.specs.Lists.{only}
use Rattle.algebra.proofs.Lists.{any_intro, any_elim, mem_gather, of_gather, mem_only, of_only}
use Rattle.algebra.proofs.Bool.{and_both}
use Rattle.grammar.specs.Name.{is_letter_lem, is_name_byte_lem, are_name_bytes_lem, letter_word, is_name_lem}
use Rattle.grammar.specs.Lookup.{same}
use Rattle.grammar.specs.Fresh.{letters, candidate, is_among, without, fresh_from, fresh}
use Rattle.grammar.proofs.Name.{is_name}
use Rattle.grammar.proofs.Lookup.{same_refl, same_eq, differ}

-- ---- lists of names
pub not_among : (n : List ℕ) (ns : List (List ℕ)) → is_among n ns ≡ false → Memᴰ n ns → ⊥
unfolding is_among
not_among n ns e m = true≢false (sym (any_intro (same n) m (same_refl n)) ∙ e)

pub among : (n : List ℕ) (ns : List (List ℕ)) → is_among n ns ≡ true → Memᴰ n ns
unfolding is_among
among n ns e = let r = any_elim (same n) ns e in rw (same_eq n r.0 r.2) r.1

pub in_without : (x : List ℕ) {n : List ℕ} {ns : List (List ℕ)} → same n x ≡ false → Memᴰ n ns → Memᴰ n (without x ns)
unfolding without
in_without x {n} e m = mem_gather _ m (mem_only (not (same n x)) (ap not e) (Memᴰ.head refl))

pub of_without : (x : List ℕ) {n : List ℕ} (ns : List (List ℕ)) → Memᴰ n (without x ns) → (same n x ≡ false) × Memᴰ n ns
unfolding without
of_without x {n} ns m =
    let r = of_gather _ ns m in
    let o = of_only (not (same r.0 x)) r.2 in
    let e : n ≡ r.0 = Memᴰ.eq_of_singleton o.1 in
    rw e (not-true (same r.0 x) o.0, r.1)

pub no_longer : (x : List ℕ) (ns : List (List ℕ)) → length (without x ns) ≤ length ns
unfolding without
no_longer x [] = omega arith
no_longer x (n ∷ ns) = go (not (same n x)) (no_longer x ns)
  where
    go : (t : Bool) → length (without x ns) ≤ length ns → length (only t (n ∷ []) ++ without x ns) ≤ suc (length ns)
    go true h = omega arith
    go false h = omega arith

-- one that is there is taken away
shorter : (x : List ℕ) {ns : List (List ℕ)} → Memᴰ x ns → length (without x ns) < length ns
unfolding without
shorter x (Memᴰ.head {x = n} {xs = ns} e) =
    let s : not (same n x) ≡ false = ap (λ m. not (same m x)) (sym e) ∙ ap not (same_refl x) in
    let h = no_longer x ns in
    rw s (omega arith)
shorter x (Memᴰ.tail {x = n} {xs = ns} m) = go (not (same n x)) (shorter x m)
  where
    go : (t : Bool) → length (without x ns) < length ns → length (only t (n ∷ []) ++ without x ns) < suc (length ns)
    go true h = omega arith
    go false h = omega arith

-- ---- the candidates differ
letters_differ : (w j k : ℕ) → letters w j ≡ letters w k → j ≡ k
unfolding letters
letters_differ zero zero zero e = refl
letters_differ zero zero (suc k) e = absurd (let z = ap length e in omega arith)
letters_differ zero (suc j) zero e = absurd (let z = ap length e in omega arith)
letters_differ zero (suc j) (suc k) e = let z : letters zero j ≡ letters zero k = cc in ap suc (letters_differ zero j k z)
letters_differ (suc w) j k e =
    let p : 97 + j % 26 ≡ 97 + k % 26 = cc in
    let q : letters w (j / 26) ≡ letters w (k / 26) = cc in
    let r = letters_differ w (j / 26) (k / 26) q in
    omega (arith, div-add-mod' j 26, div-add-mod' k 26)

-- ---- the first candidate that is not among them; its number is at most how many names they are, by any list ms that has them all
abbrev pub Within : List (List ℕ) → List (List ℕ) → Type 0
Within ns ms = (n : List ℕ) → Memᴰ n ns → Memᴰ n ms

record Fresh (m k : ℕ) (ns : List (List ℕ)) : Type 0 where
  number : ℕ
  from : k ≤ number
  few : (ms : List (List ℕ)) → Within ns ms → number ≤ k + length ms
  is : fresh_from m k ns ≡ candidate number
  new : Memᴰ (candidate number) ns → ⊥

fresh_from_lem : (m k : ℕ) (ns : List (List ℕ)) → length ns ≤ m → Fresh m k ns
unfolding fresh_from
fresh_from_lem zero k [] h = record { number = k; from = omega arith; few = λ ms i. omega arith; is = refl; new = Memᴰ.not-nil }
fresh_from_lem zero k (n ∷ ns) h = absurd (omega arith)
fresh_from_lem (suc m) k ns h = go (is_among (candidate k) ns) refl (fresh_from_lem m (suc k) (without (candidate k) ns))
  where
    go : (t : Bool) → is_among (candidate k) ns ≡ t → (length (without (candidate k) ns) ≤ m → Fresh m (suc k) (without (candidate k) ns)) → Fresh (suc m) k ns
    go true e rest =
        let s = shorter (candidate k) (among (candidate k) ns e) in
        let r = rest (omega arith) in
        let a = r.from in
        record {
          number = r.number;
          from = omega arith;
          few = λ ms i.
              let l = shorter (candidate k) (i (candidate k) (among (candidate k) ns e)) in
              let b = r.few (without (candidate k) ms) (λ n j. let o = of_without (candidate k) ns j in in_without (candidate k) o.0 (i n o.1)) in
              omega arith;
          is = rw (fresh_from, e) r.is;
          new = λ i. r.new (in_without (candidate k) (differ _ _ (λ q. let z = letters_differ 4 r.number k q in omega arith)) i);
        }
    go false e rest = record { number = k; from = omega arith; few = λ ms i. omega arith; is = rw (fresh_from, e); new = not_among (candidate k) ns e }

pub fresh_new : (ns : List (List ℕ)) → Memᴰ (fresh ns) ns → ⊥
unfolding fresh
fresh_new ns m = let r = fresh_from_lem (length ns) 0 ns (omega arith) in r.new (rw r.is at m)

-- ---- it is a name, of four letters or a few more
small_letter : (k : ℕ) → is_letter_lem (97 + k % 26) ≡ true
unfolding is_letter_lem
small_letter k = let h = mod-lt k {m = 26} (omega arith) in and_both (le-leb 97 (97 + k % 26) (omega arith)) (le-leb (97 + k % 26) 122 (omega arith))

an_a : is_letter_lem 97 ≡ true
unfolding is_letter_lem
an_a = refl

letters_bytes : (w k : ℕ) → are_name_bytes_lem (letters w k) ≡ true
unfolding letters are_name_bytes_lem is_name_byte_lem
letters_bytes zero zero = refl
letters_bytes zero (suc k) = rw an_a (letters_bytes zero k)
letters_bytes (suc w) k = rw (small_letter k) (letters_bytes w (k / 26))

letters_left : (k : ℕ) → length (letters 0 k) ≡ k
unfolding letters
letters_left zero = refl
letters_left (suc k) = ap suc (letters_left k)

fewer : (k b : ℕ) → k < b * 26 → k / 26 < b
fewer k b h = (div-lt_iff_lt-mul {k = 26} (omega arith)).1 h

candidate_name : (k : ℕ) → k < 9596496 → is_name_lem (candidate k) ≡ true
unfolding letters letter_word
candidate_name k h =
    let a = fewer k 369096 (omega arith) in
    let b = fewer (k / 26) 14196 (omega arith) in
    let c = fewer (k / 26 / 26) 546 (omega arith) in
    let d = fewer (k / 26 / 26 / 26) 21 (omega arith) in
    let l = letters_left (k / 26 / 26 / 26 / 26) in
    is_name (candidate k) (record { first = small_letter k; bytes = letters_bytes 4 k; short = omega arith }) refl

-- where those given are among fewer than 9,596,496
pub fresh_name : (ns ms : List (List ℕ)) → Within ns ms → length ms < 9596496 → is_name_lem (fresh ns) ≡ true
unfolding fresh
fresh_name ns ms i h =
    let r = fresh_from_lem (length ns) 0 ns (omega arith) in
    let u = r.few ms i in
    rw r.is (candidate_name r.number (omega arith))
