-- The ways through the code that searches an index and puts a name in. Assumes nothing.
use mathlib.Core.Path.{◌≡◌, refl, sym, ap, ◌∙◌}
use mathlib.Core.Bool.{Bool, true, false}
use mathlib.Core.List.{List, [], ◌∷◌, ◌++◌, map-append}
use mathlib.Core.Option.{none, some}
use Prim.Native.Nat.{ℕ, suc, ◌+◌, ◌-◌, ◌%◌, ◌≤◌, ◌<◌}
use native.Mathlib.Omega.{arith}
use native.Mathlib.Numerals.{add-one}
use Rattle.std.specs.Prelude as rust
use Rattle.std.proofs.Common.{nat_eq}
use Rattle.std.specs.Cmp.Lexicographic.{pointwise}
use Rattle.std.proofs.lemmas.List.{get_or-map}
use lib.ListN.{length, get_or, replicate, length-map}
use Rattle.grammar.specs.Lookup.{same, position}
use Rattle.name_index.specs.Hash.{slot_of}
use Rattle.name_index.specs.Index.{after, Searched, search_from, search, free_from, free_slot, put, index_from, index, look_up, Indexed}
use Rattle.name_index.specs.Entries.{names_of, Slots, looked_of, LooksUp}
use Rattle.name_index.specs.declared.Entry.{Entry}
use Rattle.name_index.specs.declared.Lookup.{Lookup}
use Rattle.name_index.specs.declared.Members.{Members}
use Rattle.name_index.proofs.Hash.{slot_lt}
use Rattle.name_index.proofs.Same.{same_is}
use Rattle.name_index.proofs.Runs.{Indexes}
use Rattle.name_index.proofs.Search.{search_free, search_hit, search_other}
use Rattle.name_index.proofs.Index.{free_here, free_further, is_fresh, more_distinct, index_more, indexes, lookup_finds, lookup_reads}

-- the slot that comes k slots after the name's own
pub record Stands (n : List ℕ) (i k : ℕ) : Type 0 where
  pub within : k ≤ 256
  pub here : i ≡ after (slot_of n) k

stands_first : (n : List ℕ) {i : ℕ} → i ≡ slot_of n → Stands n i 0
stands_first n e = record { within = omega arith; here = omega (arith, slot_lt n) }

stands_next : (n : List ℕ) {i k : ℕ} → Stands n i k → k < 256 → Stands n ((i + 1) % 256) (k + 1)
stands_next n x h = record { within = omega arith; here = omega (arith, x.here) }

-- what it holds, and that slots are left after it
stands_slot : (slots n : List ℕ) {i k : ℕ} → Stands n i k → get_or slots (after (slot_of n) k) 0 ≡ get_or slots i 0
stands_slot slots n x = rw (← x.here)

slots_left : (k : ℕ) → k < 256 → 256 - k ≡ suc (256 - suc k)
slots_left k h = omega arith

-- ---- the loop that looks for a free slot
module _ (slots : List ℕ) (n : List ℕ) where
  pub record Freeing (i k : ℕ) : Type 0 where
    pub at_slot : Stands n i k
    pub left : free_from slots (slot_of n) 0 256 ≡ free_from slots (slot_of n) k (256 - k)

  pub freeing_first : {i : ℕ} → i ≡ slot_of n → Freeing i 0
  freeing_first e = record { at_slot = stands_first n e; left = refl }

  module _ {i k : ℕ} (x : Freeing i k) where
    pub freeing_found : k < 256 → get_or slots i 0 ≡ 0 → i ≡ free_slot slots n
    unfolding free_slot
    freeing_found h e =
        let q : free_from slots (slot_of n) 0 256 ≡ k = x.left
        ∙ rw (slots_left k h) (free_here slots (slot_of n) k (256 - suc k) (stands_slot slots n x.at_slot ∙ e)) in
        rw q x.at_slot.here

    pub freeing_next : k < 256 → (get_or slots i 0 ≡ 0 → ⊥) → Freeing ((i + 1) % 256) (k + 1)
    freeing_next h e =
        let g : 0 < get_or slots (after (slot_of n) k) 0 = rw (stands_slot slots n x.at_slot) (omega arith) in
        record {
          at_slot =
              stands_next n x.at_slot h;
          left = x.left ∙ rw (slots_left k h, add-one) (free_further slots (slot_of n) k (256 - suc k) g);
        }

    pub freeing_end : 256 ≤ k → i ≡ free_slot slots n
    unfolding free_slot free_from
    freeing_end h =
        let z : k ≡ 256 = omega (arith, x.at_slot.within) in
        let q : free_from slots (slot_of n) 0 256 ≡ k = x.left ∙ rw z in
        rw q x.at_slot.here

-- ---- the loop that looks for a name
module _ (slots : List ℕ) (names : List (List ℕ)) (n : List ℕ) where
  pub record Searching (i k : ℕ) : Type 0 where
    pub at_slot : Stands n i k
    pub left : search slots names n ≡ search_from slots names n (slot_of n) k (256 - k)

  pub searching_first : {i : ℕ} → i ≡ slot_of n → Searching i 0
  unfolding search
  searching_first e = record { at_slot = stands_first n e; left = refl }

  module _ {i k : ℕ} (x : Searching i k) where
    pub searching_free : k < 256 → get_or slots i 0 ≡ 0 → {r : ℕ} → r ≡ suc k → ◌≡◌ {A = Searched} record { member = none; read = r } (search slots names n)
    searching_free h e q = rw q (sym (x.left ∙ rw (slots_left k h) (search_free slots names n (slot_of n) k (256 - suc k) (stands_slot slots n x.at_slot ∙ e))))

    module _ (h : k < 256) {m : ℕ} (e : get_or slots i 0 ≡ suc m) where
      searching_hit : same n (get_or names m []) ≡ true
          → {r : ℕ} → r ≡ suc k → ◌≡◌ {A = Searched} record { member = some m; read = r } (search slots names n)
      searching_hit q z =
          rw z (sym (x.left ∙ rw (slots_left k h)
          (search_hit slots names n (slot_of n) k (256 - suc k) m (stands_slot slots n x.at_slot ∙ e) q)))

      pub searching_next : same n (get_or names m []) ≡ false → {r : ℕ} → r ≡ suc k → Searching ((i + 1) % 256) r
      searching_next q z =
          record {
            at_slot = let s = stands_next n x.at_slot h in record { within = omega (arith, s.within); here = rw (z, s.here, add-one) };
            left =
                x.left ∙ rw (z, slots_left k h)
                (search_other slots names n (slot_of n) k (256 - suc k) m (stands_slot slots n x.at_slot ∙ e) q);
          }

    pub searching_end : 256 ≤ k → ◌≡◌ {A = Searched} record { member = none; read = 256 } (search slots names n)
    unfolding search_from
    searching_end h = let z : k ≡ 256 = omega (arith, x.at_slot.within) in sym (x.left ∙ rw z)

-- what a slot that is taken tells, by slots of which none has a number beyond the entries
module _ {T : Type 0} (slots : List ℕ) (es : List (Entry T)) (n : List ℕ) (few : Slots slots (length es)) where
  module _ {i k : ℕ} (x : Searching slots (names_of es) n i k) (h : k < 256) (taken : get_or slots i 0 ≡ 0 → ⊥) {j : ℕ} (u : j ≡ get_or slots i 0 - 1) where
    slot_is : get_or slots i 0 ≡ suc j
    slot_is = omega (arith, taken)

    pub in_entries : j < length es
    in_entries = omega (arith, slot_is, x.at_slot.here, few.known i (omega (arith, x.at_slot.here)))

    module _ (d : Entry T) {b : Bool} (s : b ≡ pointwise nat_eq n (get_or es j d).name.now) {r : ℕ} (z : r ≡ suc k) where
      is_same : b ≡ same n (get_or (names_of es) j [])
      is_same = same_is n (get_or es j d).name.now s ∙ ap (same n) (sym (get_or-map (λ (e : Entry T). e.name.now) es j d [] in_entries))

      pub found_hit : b ≡ true → looked_of (record { found = rust.Some (get_or slots i 0 - 1); read = r }) ≡ search slots (names_of es) n
      found_hit e = rw (← u) (searching_hit slots (names_of es) n x h slot_is (sym is_same ∙ e) z)

      pub found_other : b ≡ false → Searching slots (names_of es) n ((i + 1) % 256) r
      found_other e = searching_next slots (names_of es) n x h slot_is (sym is_same ∙ e) z

-- ---- slots that are the index of some names

-- free slots are the index of no names
pub none_indexed : Indexed (replicate 256 0) []
unfolding index index_from
none_indexed = record { made = refl; distinct = λ i j a b e. absurd (omega arith) }

module _ (slots : List ℕ) (names : List (List ℕ)) (I : Indexed slots names) (few : length names ≤ 255) where
  pub indexed : Indexes slots names
  indexed = rw I.made (indexes names I.distinct few)

  -- what a search of these slots tells
  module _ (n : List ℕ) (r : Lookup) (e : looked_of r ≡ search slots names n) where
    as_defined : looked_of r ≡ look_up names n
    unfolding look_up
    as_defined = e ∙ ap (λ (s : List ℕ). search s names n) I.made

    pub looked_up : LooksUp names n r
    looked_up =
        record {
          searched = as_defined;
          walked = ap (λ (s : Searched). s.member) as_defined ∙ lookup_finds names I.distinct few n;
          few_read =
              let q : r.read ≡ (look_up names n).read = ap (λ (s : Searched). s.read) as_defined in omega
              (arith, lookup_reads names I.distinct few n);
        }

  -- one name more
  pub indexed_more : (n : List ℕ) → position (same n) names ≡ none → Indexed (put slots n (length names)) (names ++ (n ∷ []))
  indexed_more n e =
      record {
        made = rw I.made (sym (index_more names n));
        distinct = more_distinct names n I.distinct (is_fresh names n e);
      }

-- ---- the members
module _ {N : ℕ} (self : Members N) where
  abbrev names : List (List ℕ)
  names = names_of self.entries.items

  many : length names ≡ length self.entries.items
  many = length-map self.entries.items (λ (e : Entry (rust.Option ℕ)). e.name.now)

  few : length names ≤ 255
  few = omega (arith, many, self.fits, self.few)

  -- a member more
  pub entry_more : (e : Entry (rust.Option ℕ)) {m : ℕ} → m ≡ length self.entries.items → {slots : List ℕ} → slots ≡ put self.slots e.name.now m
      → position (same e.name.now) names ≡ none → {after : List (Entry (rust.Option ℕ))} → after ≡ self.entries.items ++ (e ∷ [])
      → Indexed slots (names_of after)
  entry_more e z f q g = rw (f, z, g, map-append, ← many) (indexed_more self.slots names self.indexed few e.name.now q)

  pub members_known : Slots self.slots (length self.entries.items)
  members_known = record { known = λ i h. omega (arith, many, (indexed self.slots names self.indexed few).known i) }

  -- what a search of the members' slots tells
  pub members_told : (n : List ℕ) (r : Lookup) → looked_of r ≡ search self.slots names n → LooksUp names n r
  members_told n r e = looked_up self.slots names self.indexed few n r e
