-- An answer changes its own entry's answer and nothing else.
use Rattle.std.proofs.Common.{◌≡◌, ℕ, ◌+◌, ◌/◌, ◌%◌, List, ◌∷◌, ◌++◌, length, drop, set, ap, ◌∙◌, arith, length-set}
use Rattle.std.proofs.lemmas.List.{drop-drop, set-append_right}
use Rattle.std.proofs.lemmas.Grind.{common_steps}
use Rattle.book.specs.Format.{answered}
use Rattle.book.specs.Reading.{reading}
use Rattle.book.specs.Tiling.{Entry, entry_bytes, book_bytes, Tiles, AnswersAlone}
use Rattle.book.proofs.Words.{word_drop}
use Rattle.book.proofs.Tiling.{book_bytes_append}

-- what stands at a place depends only on the book's length and on the bytes from there on
pub reading_from : (bs cs : List ℕ) (at : ℕ) → length cs ≡ length bs → drop at cs ≡ drop at bs → reading cs at ≡ reading bs at
reading_from bs cs at long same = grind (arith, common_steps, word_drop at bs, word_drop at cs, word_drop (at + 2) bs, word_drop (at + 2) cs, drop-drop 2 at bs, drop-drop 2 at cs, drop-drop 6 at bs, drop-drop 6 at cs)

-- a word written into the answer field of the first entry behind these bytes
answered_behind : (xs ys : List ℕ) (e : Entry) (at a : ℕ) → length xs ≡ at → answered (xs ++ (entry_bytes e ++ ys)) at a ≡ xs ++ (entry_bytes (record { command = e.command; answer = a }) ++ ys)
answered_behind xs ys e at a long =
    let put : (zs : List ℕ) (i v : ℕ) → set (xs ++ zs) (at + i) v ≡ xs ++ set zs i v =
    λ zs i v. set-append_right xs zs at (at + i) v long (omega arith) ∙ ap (λ j. xs ++ set zs j v) (omega arith)
    in
    ap (λ l. set l (at + 5) (a / 256)) (put (entry_bytes e ++ ys) 4 (a % 256))
    ∙ put (set (entry_bytes e ++ ys) 4 (a % 256)) 5 (a / 256)

module _ (bs : List ℕ) (at a : ℕ) where
  length_answered : length (answered bs at a) ≡ length bs
  length_answered = simp length-set

  module _ (before after : List Entry) (e : Entry) (to : ℕ) (t : Tiles bs 0 (before ++ e ∷ after) to) (here : length (book_bytes before) ≡ at) where
    new : Entry
    new = record { command = e.command; answer = a }

    -- the book with any answer of the entry e
    book_with : Entry → List ℕ
    book_with f = book_bytes before ++ (entry_bytes f ++ (book_bytes after ++ drop to bs))

    split : (f : Entry) → book_bytes (before ++ f ∷ after) ++ drop to bs ≡ book_with f
    unfolding book_with
    split f = grind (arith, common_steps, book_bytes_append before (f ∷ after))

    answered_is : answered bs at a ≡ book_bytes (before ++ new ∷ after) ++ drop to bs
    unfolding book_with new
    answered_is = grind (arith, common_steps, t.bytes, split e, split new, answered_behind (book_bytes before) (book_bytes after ++ drop to bs) e at a here)

    long_new : length (book_bytes (before ++ new ∷ after)) ≡ to
    unfolding new
    long_new = grind (arith, common_steps, book_bytes_append before (new ∷ after), book_bytes_append before (e ∷ after), t.long)

    rest_same : drop to (answered bs at a) ≡ drop to bs
    rest_same = grind (arith, common_steps, answered_is, long_new)

    tiles_new : Tiles (answered bs at a) 0 (before ++ new ∷ after) to
    tiles_new = grind (arith, common_steps, answered_is, rest_same, long_new)

  pub answers_alone : AnswersAlone bs (answered bs at a) at a
  unfolding new
  answers_alone =
      record {
        tiles = tiles_new;
        stops = λ before after e to t here. reading_from bs (answered bs at a) to length_answered (rest_same before after e to t here);
      }
