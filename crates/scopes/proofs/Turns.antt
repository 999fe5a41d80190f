-- What the turns of a loop make of a state, and of loops within loops.
use mathlib.Core.Path.{◌≡◌, sym, ap, ◌∙◌}
use Prim.Native.Nat.{ℕ, zero, suc, ◌+◌, ◌*◌, ◌≤◌}
use native.Mathlib.Nat.{le_antisymm, zero-mul, add-zero, add-suc, suc-mul}

-- what n turns make of s, turn k being the function f k
abbrev pub turns : {S : Type 0} → ℕ → (ℕ → S → S) → S → S
turns zero f s = s
turns (suc n) f s = f n (turns n f s)

module _ {S : Type 0} where
  -- the last turn
  pub turns_done : {k n : ℕ} (f : ℕ → S → S) (s : S) {w : S} → k ≤ n → n ≤ k → w ≡ turns k f s → w ≡ turns n f s
  turns_done f s h h' e = e ∙ ap (λ m. turns m f s) (le_antisymm h h')

  turns_add : (m n : ℕ) (f : ℕ → S → S) (s : S) → turns n (λ j. f (m + j)) (turns m f s) ≡ turns (m + n) f s
  turns_add m zero f s = ap (λ k. turns k f s) (sym (add-zero m))
  turns_add m (suc n) f s = ap (f (m + n)) (turns_add m n f s) ∙ ap (λ k. turns k f s) (sym (add-suc m n))

  -- a loop of n turns in each of m turns
  pub turns_turns : (m n : ℕ) (f : ℕ → S → S) (s : S) → turns m (λ i. turns n (λ j. f (i * n + j))) s ≡ turns (m * n) f s
  turns_turns zero n f s = ap (λ k. turns k f s) (sym (zero-mul n))
  turns_turns (suc m) n f s = ap (turns n (λ j. f (m * n + j))) (turns_turns m n f s) ∙ turns_add (m * n) n f s ∙ ap (λ k. turns k f s) (sym (suc-mul m n))

  -- a loop of p turns in each of n turns in each of m turns
  pub turns_three : (m n p : ℕ) (f : ℕ → S → S) (s : S) → turns m (λ i. turns n (λ j. turns p (λ k. f ((i * n + j) * p + k)))) s ≡ turns (m * n * p) f s
  turns_three m n p f s = turns_turns m n (λ i. turns p (λ k. f (i * p + k))) s ∙ turns_turns (m * n) p f s
