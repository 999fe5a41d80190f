-- What a reader's methods say, one after another. Assumes nothing.
use Rattle.std.proofs.Common.{◌≡◌, refl, ap, ◌∙◌, List, [], ◌∷◌, ◌++◌, Result, Ok, Err, ℕ, ◌-◌, ◌≤◌, arith}
use Rattle.std.proofs.Common.{length, map, take, length-append, slice_range}
use Rattle.std.specs.Borrow.{Bor}
use Rattle.std.proofs.Math.Seq.{slice, take-append_seam}
use Rattle.std.proofs.lemmas.List.{reverse-append}
use Rattle.name_index.proofs.Same.{part_is}
use Rattle.std.proofs.Math.Option.{Option}
use Rattle.grammar.specs.Names.{Kind}
use Rattle.names.specs.Looks.{lookup_of}
use Rattle.words.specs.Contract.{innermost_first, Past}
use Rattle.words.specs.declared.Nodes.{Nodes}
use Rattle.expressions.specs.Reads.{Stays, Reads}
use Rattle.expressions.specs.declared.text_reader.Reader.{Reader}

pub stays_same : {A K : ℕ} {r : Reader A K} → Stays r r
stays_same = record { text = refl; names = refl; bound = refl; allow = refl }

pub stays_then : {A K : ℕ} {r₀ r r' : Reader A K} → Stays r₀ r → Stays r r' → Stays r₀ r'
stays_then x y = record { text = y.text ∙ x.text; names = y.names ∙ x.names; bound = y.bound ∙ x.bound; allow = y.allow ∙ x.allow }

-- what is said from a reader's place on to that of another, as far as it has come
pub record Goes {A K : ℕ} (At : (Kind → List ℕ → Option ℕ) → List (List ℕ) → List ℕ → ℕ → ℕ → ℕ → Nodes → Nodes → Type 0) (r r' : Reader A K) : Type 0 where
  pub so_far : At (lookup_of r.names.now) (innermost_first r.bound.items) r.text.now r.at r.allow r'.at r.nodes r'.nodes
  pub stays : Stays r r'

-- what is in force where one name more is bound, and what is left when it is bound no more
module _ (xs : List (Bor (List ℕ))) (x : Bor (List ℕ)) where
  pub bound_more : (t : List ℕ) (at to : ℕ) {ys : List (Bor (List ℕ))} → ys ≡ xs ++ x ∷ [] → x.now ≡ slice_range t at to → at ≤ to
      → innermost_first ys ≡ slice at to t ∷ innermost_first xs
  bound_more t at to e n l =
      ap innermost_first e ∙ ap (map (λ b. b.now)) (reverse-append xs (x ∷ []))
      ∙ ap (λ (m : List ℕ). m ∷ innermost_first xs) (n ∙ part_is at to t l)

  pub bound_left : {ys zs ws : List (Bor (List ℕ))} → ys ≡ xs ++ x ∷ [] → zs ≡ ys → ws ≡ take (length zs - 1) zs → ws ≡ xs
  bound_left e f g = g ∙ ap (λ bs. take (length bs - 1) bs) (f ∙ e) ∙ ap (λ n. take n (xs ++ x ∷ [])) (omega (arith, length-append xs (x ∷ [])))
      ∙ take-append_seam xs (x ∷ [])

-- a byte that has to stand at a place
module _ {A K : ℕ} {r₀ r : Reader A K} (s : Stays r₀ r) (at b n : ℕ) where
  pub past_ok : Past r.text.now at b (Ok n) → Past r₀.text.now at b (Ok n)
  past_ok h = rw s.text at h

  pub past_err : Past r.text.now at b (Err n) → Past r₀.text.now at b (Err n)
  past_err h = rw s.text at h

module _ (At : (Kind → List ℕ → Option ℕ) → List (List ℕ) → List ℕ → ℕ → ℕ → Nodes → Nodes → Result ℕ ℕ → Type 0) where
  -- what is said of a reader, by what it read from at first
  pub at_first : {A K : ℕ} {r₀ r : Reader A K} → Stays r₀ r → {p' : Nodes} {x : Result ℕ ℕ}
      → At (lookup_of r.names.now) (innermost_first r.bound.items) r.text.now r.at r.allow r.nodes p' x
      → At (lookup_of r₀.names.now) (innermost_first r₀.bound.items) r₀.text.now r.at r₀.allow r.nodes p' x
  at_first s h = rw (s.names, s.bound, s.text, s.allow) at h

  pub ok_at : {A K : ℕ} {r r' : Reader A K} {u : Unit {0}} → Reads At r r' (Ok u) → (r₀ : Reader A K) → Stays r₀ r
      → At (lookup_of r₀.names.now) (innermost_first r₀.bound.items) r₀.text.now r.at r₀.allow r.nodes r'.nodes (Ok r'.at)
  ok_at h r₀ s = at_first s h.part

  pub err_at : {A K : ℕ} {r r' : Reader A K} {p : ℕ} → Reads At r r' (Err p) → (r₀ : Reader A K) → Stays r₀ r
      → At (lookup_of r₀.names.now) (innermost_first r₀.bound.items) r₀.text.now r.at r₀.allow r.nodes r'.nodes (Err p)
  err_at h r₀ s = at_first s h.part

  -- what the last call says
  pub last_call : {A K : ℕ} {After : (Kind → List ℕ → Option ℕ) → List (List ℕ) → List ℕ → ℕ → ℕ → Nodes → Nodes → Result ℕ ℕ → Type 0} {r₀ r r' : Reader A K}
      → Stays r₀ r → (u : Result (Unit {0}) ℕ) → Reads After r r' u
      → ((x : Result ℕ ℕ) → After (lookup_of r₀.names.now) (innermost_first r₀.bound.items) r₀.text.now r.at r₀.allow r.nodes r'.nodes x
      → At (lookup_of r₀.names.now) (innermost_first r₀.bound.items) r₀.text.now r₀.at r₀.allow r₀.nodes r'.nodes x)
      → Reads At r₀ r' u
  last_call s (Ok u) h f = record { part = f _ (rw (s.names, s.bound, s.text, s.allow) at h.part); stays = stays_then s h.stays }
  last_call s (Err p) h f = record { part = f _ (rw (s.names, s.bound, s.text, s.allow) at h.part); stays = tt }
