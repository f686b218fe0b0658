-- A reader finds exactly the records that stand in the book.
use Rattle.std.proofs.Common.{◌≡◌, ℕ, suc, ◌+◌, ◌*◌, ◌<◌, ◌≤◌, List, ◌∷◌, length, get_or, take, drop, sym, refl, ap, ◌∙◌, arith}
use Rattle.std.proofs.lemmas.List.{get_or-take, get_or-drop, drop-take, drop-drop}
use Rattle.std.proofs.lemmas.Grind.{common_steps}
use Rattle.calls.specs.Layout.{known, field_count}
use Rattle.book.specs.Format.{word, word_bytes, record_bytes}
use Rattle.book.specs.Reading.{Found, found, fields_at, reading}
use Rattle.book.specs.Framing.{Stands, Framed}
use Rattle.book.proofs.Questions.{Passes, Finds, passes_found, found_passes}
use Rattle.book.proofs.Words.{Bytes, bytes_take, bytes_drop, words_of, length_word_bytes, length_words_of, word_back, bytes_of_words}

-- the field bytes of a record of n fields
fields_part : (bs : List ℕ) (at n : ℕ) → word bs at ≡ 6 + 2 * n → fields_at bs at ≡ drop 6 (take (6 + 2 * n) (drop at bs))
fields_part bs at n sized =
    ap (λ m. take m (drop (at + 6) bs)) (omega (arith, sized))
    ∙ ap (take (2 * n)) (sym (drop-drop 6 at bs))
    ∙ sym (drop-take 6 (2 * n) (drop at bs))

module _ {bs : List ℕ} {at kind answer : ℕ} {fields : List ℕ} (s : Stands bs at kind answer fields) where
  byte : (j i : ℕ) → j ≡ at + i → i < 6 → get_or bs j 0 ≡ get_or (record_bytes kind answer fields) i 0
  byte j i e h =
      let lt : i < 6 + 2 * length fields = omega arith in
      ap (λ n. get_or bs n 0) e
      ∙ sym (get_or-drop at bs i 0)
      ∙ sym (get_or-take (6 + 2 * length fields) (drop at bs) i 0 lt)
      ∙ ap (λ l. get_or l i 0) s.bytes

  sized : word bs at ≡ 6 + 2 * length fields
  sized = (λ i. byte at 0 (omega arith) (omega arith) i + 256 * byte (at + 1) 1 refl (omega arith) i) ∙ word_back (6 + 2 * length fields)

  is_kind : word bs (at + 2) ≡ kind
  is_kind = (λ i. byte (at + 2) 2 refl (omega arith) i + 256 * byte (at + 2 + 1) 3 (omega arith) (omega arith) i) ∙ word_back kind

  fits : at + (6 + 2 * length fields) ≤ length bs
  fits = grind (arith, common_steps, s.bytes, length_word_bytes fields)

  is_fields : fields_at bs at ≡ word_bytes fields
  is_fields = fields_part bs at (length fields) sized ∙ ap (drop 6) s.bytes

  pub stands_found : length bs ≤ 65536 → reading bs at ≡ found kind (word_bytes fields)
  stands_found small =
      let passes : Passes bs at = grind (arith, fits, sized, is_kind, s.kind_known, s.counted) in
      passes_found passes ∙ (λ i. found (is_kind i) (is_fields i))

-- a record that a reading found stands there, with the words that its bytes make
module _ {bs : List ℕ} {at kind : ℕ} {bytes : List ℕ} (small : Bytes bs) (f : Finds bs at kind bytes) where
  part : List ℕ
  part = take (6 + 2 * field_count kind) (drop at bs)

  counted : word bs at ≡ 6 + 2 * field_count kind
  counted = f.passes.counted ∙ ap (λ k. 6 + 2 * field_count k) f.kind

  part_long : length part ≡ 6 + 2 * field_count kind
  unfolding part
  part_long = grind (arith, common_steps, counted, f.passes.fits)

  part_at : (i : ℕ) → i < 6 → get_or part i 0 ≡ get_or bs (at + i) 0
  unfolding part
  part_at i h = grind (arith, common_steps)

  part_bytes : Bytes part
  unfolding part
  part_bytes = bytes_take _ (drop at bs) (bytes_drop at bs small)

  -- the first two words of the part
  first : word part 0 ≡ 6 + 2 * field_count kind
  first = grind (arith, common_steps, part_at 0, part_at 1, counted)

  second : word (drop 2 part) 0 ≡ kind
  second = grind (arith, common_steps, part_at 2, part_at 3, f.kind)

  pub found_stands : (answer : ℕ) × (fields : List ℕ) × Stands bs at kind answer fields × (bytes ≡ word_bytes fields)
  unfolding part
  found_stands =
      let rest = drop 2 (drop 2 (drop 2 part)) in
      let answer = word (drop 2 (drop 2 part)) 0 in
      let fields = words_of (field_count kind) rest in
      let all : length fields ≡ field_count kind = length_words_of (field_count kind) rest in
      let whole = bytes_of_words (suc (suc (suc (field_count kind)))) part (omega (arith, part_long)) part_bytes in
      let header : word part 0 ≡ 6 + 2 * length fields = first ∙ ap (λ m. 6 + 2 * m) (sym all) in
      let is-part : part ≡ record_bytes kind answer fields = sym whole ∙ (λ i. word_bytes (header i ∷ second i ∷ answer ∷ fields)) in (
        answer,
        fields,
        record {
          kind_known = ap known (sym f.kind) ∙ f.passes.kind_known;
          counted = all;
          bytes = ap (λ m. take (6 + 2 * m) (drop at bs)) all ∙ is-part;
        },
        sym f.fields ∙ fields_part bs at (field_count kind) counted ∙ ap (drop 6) is-part,
      )

pub framed : {bs : List ℕ} {at : ℕ} {r : Found} → Bytes bs → r ≡ reading bs at → Framed bs at r
framed {bs} {at} small e =
    record {
      stands = λ kind bytes is. found_stands small (found_passes bs at (sym e ∙ is));
      finds = λ kind answer fields large s. e ∙ stands_found s large;
    }
