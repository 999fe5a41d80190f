-- Compose, from what the reading tells and the run leaves.
use mathlib.Core.Path.{◌≡◌, sym, ap, subst, ◌∙◌}
use mathlib.Core.Bool.{Bool, true, false, ◌&&◌, and-false}
use mathlib.Core.List.{List}
use Prim.Native.Nat.{ℕ, ◌≤◌, ◌<◌}
use native.Mathlib.Omega.{arith}
use lib.ListN.{length, take}
use lib.Dec.{leb}
use borrow.Author.Tests.{le-leb, lt-leb}
use Rattle.names.specs.Looks.{counts_of}
use Rattle.algebra.specs.Bytes.{cleared, written, tally}
use Rattle.algebra.specs.Policy.{accesses}
use Rattle.algebra.specs.StoredFrame.{total}
use Rattle.composer.specs.Compose as Compose
use Rattle.reader.specs.File.{refused, read_file}
use Rattle.reading.specs.Reading.{ReadGood}
use Rattle.reading.specs.declared.Reading.{Reading}
use Rattle.running.specs.Runs.{grants_part}
use Rattle.engine.specs.Calls as Calls
use Rattle.engine.specs.Calls.{compose, composed, composition, unchanged}
use Rattle.std.specs.Prelude.{Ok}
use Rattle.composing.specs.Composition.{composed_of}
use Rattle.running.proofs.AcceptedFile.{policy, total_low, total_is, answers}

-- ---- row 1, and a file that is not accepted

module _ (f r m : List ℕ) where
  abbrev choice : Bool → Calls.Composed
  choice b = elim b [ true ↦ composed (read_file f) r m | false ↦ unchanged 1 0 0 r m ]

  short : (leb 4096 (length r) && leb 65536 (length m)) ≡ false → unchanged 1 0 0 r m ≡ compose f r m
  unfolding compose
  short h = sym (ap choice h)

  pub short_result : length r < 4096 → unchanged 1 0 0 r m ≡ compose f r m
  short_result h = short (ap (λ (b : Bool). b && leb 65536 (length m)) (lt-leb 4096 (length r) h))

  pub short_memory : length m < 65536 → unchanged 1 0 0 r m ≡ compose f r m
  short_memory h = short (ap (λ (b : Bool). leb 4096 (length r) && b) (lt-leb 65536 (length m) h) ∙ and-false (leb 4096 (length r)))

  module _ (room : 4096 ≤ length r) (fits : 65536 ≤ length m) where
    both : (leb 4096 (length r) && leb 65536 (length m)) ≡ true
    both = rw (le-leb 4096 (length r) room, le-leb 65536 (length m) fits)

    reads : compose f r m ≡ composed (read_file f) r m
    unfolding compose
    reads = ap choice both

    pub not_read : (k i p : ℕ) → read_file f ≡ refused k i p → unchanged k i p r (cleared m) ≡ compose f r m
    unfolding composed
    not_read k i p h = sym (reads ∙ ap (λ o. composed o r m) h)

    -- ---- an accepted file, whose grants the reading left in w

    module _ (w : List ℕ) (long : length w ≡ length m) (q : Reading) (G : ReadGood f (grants_part w) q)
        (n : ℕ) (is-count : n ≡ total (counts_of q.state.names)) where
      few : n ≤ 4096
      few = subst (λ (k : ℕ). k ≤ 4096) (sym is-count) (total_low f w q G)

      pub in_result : n ≤ length r
      in_result = let h = few in omega arith

      pub in_memory : (w' : List ℕ) → length w' ≡ length w → n ≤ length w'
      in_memory w' e = let h = few in omega arith

      pub read_all : (rounds : ℕ) (w' : List ℕ) → Compose.Composed (policy f w q G) w rounds w' → (permits undecided : ℕ) (r' : List ℕ)
          → r' ≡ written (take n w') r → permits ≡ tally 2 (take n w') → undecided ≡ tally 1 (take n w')
          → composed_of (Ok (record { accesses = n; permits = permits; undecided = undecided; rounds = rounds })) r' (cleared m)
          ≡ compose f r m
      unfolding composed composition
      read_all rounds w' C permits undecided r' er ep eu =
          rw (er, ep, eu, answers f w q G rounds w' C n all, all, C.all)
          (sym (reads ∙ ap (λ o. composed o r m) G.outcome))
        where
          all : n ≡ accesses (policy f w q G).frame
          all = is-count ∙ total_is f w q G
