-- What the places of a list hold once items are copied into the first of them.
use Rattle.std.proofs.Common.{◌≡◌, ap, ◌∙◌, ◌-◌, ◌++◌, List, ℕ, length, take, drop, replicate, arith}
use Rattle.std.proofs.Math.Seq.{take-append_seam}
use Rattle.std.proofs.lemmas.List.{drop-replicate}
use Rattle.std.proofs.lemmas.Slice.{drop-append-drop}
use Rattle.short_list.specs.ShortList.{ShortList, with_items}

module _ {T : Type 0} (n : ℕ) (x : T) where
  pub copied_in : (items : List T) {copied : List T} → copied ≡ items
      → (let places = copied ++ drop (length items) (replicate n x) in
      ◌≡◌ {A = ShortList T} (record { items = take (length items) places; behind = drop (length items) places }) (with_items n x items))
  copied_in items {copied} e =
      let k = length items in
      let places = copied ++ drop k (replicate n x) in
      let front : take k places ≡ items = ap (λ xs. take k (xs ++ drop k (replicate n x))) e ∙ take-append_seam items (drop k (replicate n x)) in
      let rest : drop k places ≡ replicate (n - k) x =
      drop-append-drop k (replicate n x) copied k (omega arith) (ap length e) ∙ drop-replicate k n x in
      λ i. record { items = front i; behind = rest i }
