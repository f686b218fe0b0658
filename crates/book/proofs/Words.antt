-- Words as bytes, and back.
use Rattle.std.proofs.Common.{◌≡◌, ℕ, zero, suc, ◌+◌, ◌*◌, ◌/◌, ◌%◌, ◌<◌, ◌≤◌, List, [], ◌∷◌, length, map, get_or, take, drop, sym, refl, ap, ◌∙◌, arith}
use native.Mathlib.Nat.{mod-add-div}
use Rattle.std.proofs.lemmas.List.{drop-drop}
use Rattle.std.proofs.lemmas.List.FromFn.{fill_by_all, take-map-range_with_len}
use Rattle.std.specs.List.{range_with_len}
use Rattle.std.proofs.lemmas.Grind.{common_steps}
use Rattle.book.specs.Format.{word, word_bytes}

-- every entry is a byte
abbrev pub Bytes : List ℕ → Type 0
Bytes bs = (i : ℕ) → get_or bs i 0 < 256

-- the first n words
abbrev pub words_of : ℕ → List ℕ → List ℕ
words_of zero bs = []
words_of (suc n) bs = word bs 0 ∷ words_of n (drop 2 bs)

pub length_word_bytes : (ws : List ℕ) → length (word_bytes ws) ≡ 2 * length ws
length_word_bytes [] = refl
length_word_bytes (w ∷ ws) = omega (arith, length_word_bytes ws)

pub length_words_of : (n : ℕ) (bs : List ℕ) → length (words_of n bs) ≡ n
length_words_of zero bs = refl
length_words_of (suc n) bs = ap suc (length_words_of n (drop 2 bs))

pub word_back : (w : ℕ) → w % 256 + 256 * (w / 256) ≡ w
word_back w = mod-add-div w 256

-- bytes that make up n words are the bytes of these words
pub bytes_of_words : (n : ℕ) (bs : List ℕ) → length bs ≡ 2 * n → Bytes bs → word_bytes (words_of n bs) ≡ bs
bytes_of_words zero [] long small = refl
bytes_of_words zero (a ∷ bs) long small = absurd (omega arith)
bytes_of_words (suc n) [] long small = absurd (omega arith)
bytes_of_words (suc n) (a ∷ []) long small = absurd (omega arith)
bytes_of_words (suc n) (a ∷ b ∷ bs) long small =
    let low : (a + 256 * b) % 256 ≡ a = omega (arith, small 0) in
    let high : (a + 256 * b) / 256 ≡ b = omega (arith, small 0) in
    let rest : word_bytes (words_of n bs) ≡ bs = bytes_of_words n bs (omega arith) (λ i. small (suc (suc i))) in
    λ i. low i ∷ high i ∷ rest i

pub bytes_drop : (n : ℕ) (bs : List ℕ) → Bytes bs → Bytes (drop n bs)
bytes_drop n bs small i = grind (arith, common_steps, small)

pub bytes_take : (n : ℕ) (bs : List ℕ) → Bytes bs → Bytes (take n bs)
bytes_take n bs small i = grind (arith, common_steps, small)

pub word_drop : (n : ℕ) (bs : List ℕ) → word (drop n bs) 0 ≡ word bs n
word_drop n bs = grind (arith, common_steps)

-- the words from the word a on
words_from : (n a : ℕ) (bs : List ℕ) → words_of n (drop (2 * a) bs) ≡ map (λ i. word bs (2 * i)) (range_with_len a n)
words_from zero a bs = refl
words_from (suc n) a bs =
    let next : drop 2 (drop (2 * a) bs) ≡ drop (2 * (a + 1)) bs = drop-drop 2 (2 * a) bs ∙ ap (λ m. drop m bs) (omega arith) in
    λ i. word_drop (2 * a) bs i ∷ (ap (words_of n) next ∙ words_from n (a + 1) bs) i

-- words read one by one are the first ones
pub first_words : (n : ℕ) (bs ws : List ℕ) → n ≤ 4 → length ws ≡ 4 → ((i : ℕ) → i < 4 → get_or ws i 0 ≡ word bs (2 * i)) → take n ws ≡ words_of n bs
first_words n bs ws few long each =
    let at : ℕ → ℕ = λ i. word bs (2 * i) in
    ap (take n) (fill_by_all at ws 4 0 long each) ∙ take-map-range_with_len at 0 4 n few ∙ sym (words_from n 0 bs)
