-- An answer written into a part that is lent is written into the whole book.
use Rattle.std.proofs.Common.{◌≡◌, ℕ, ◌+◌, ◌-◌, ◌<◌, ◌≤◌, List, ◌++◌, length, take, drop, set, sym, ap, ◌∙◌, arith}
use borrow.Rule.Slice.PartMut.{put_mid, post_of}
use Rattle.std.proofs.lemmas.List.{set-append_right, set-append_left, length-take-le}
use Rattle.std.proofs.lemmas.Grind.{common_steps}
use Rattle.book.specs.Format.{answered}

module _ (a k : ℕ) (xs : List ℕ) (inside : a + k ≤ length xs) where
  put_set : (ys : List ℕ) (i v : ℕ) → i < length ys → put_mid a k xs (set ys i v) ≡ set (put_mid a k xs ys) (a + i) v
  put_set ys i v lt =
      let less : a + i - a ≡ i = omega arith in
      sym
      (set-append_right (take a xs) (ys ++ post_of a k xs) a (a + i) v (length-take-le a xs (omega arith)) (omega arith)
      ∙ ap (λ j. take a xs ++ set (ys ++ post_of a k xs) j v) less
      ∙ ap (λ l. take a xs ++ l) (set-append_left ys (post_of a k xs) i v lt))

  put_same : put_mid a k xs (take k (drop a xs)) ≡ xs
  put_same = grind (arith, common_steps)

  pub answered_part : (v : ℕ) → 6 ≤ k → put_mid a k xs (answered (take k (drop a xs)) 0 v) ≡ answered xs a v
  answered_part v six = grind (arith, common_steps, put_same, put_set)
