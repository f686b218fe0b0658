-- Entries that tile a book: one more at the end, the first one taken off, and that there is one way only.
use Rattle.std.proofs.Common.{◌≡◌, ℕ, ◌+◌, ◌*◌, ◌≤◌, true, false, List, [], ◌∷◌, ◌++◌, length, take, drop, sym, refl, ap, ◌∙◌, subst, ⊎_elim, append_assoc, append-nil, arith, length-append, take-append-drop}
use Rattle.std.proofs.lemmas.List.{drop-drop}
use Rattle.std.proofs.lemmas.Bool.{both_ways, cases_lt}
use Rattle.std.proofs.lemmas.Grind.{common_steps}
use Rattle.calls.specs.Layout.{layout, family_of}
use Rattle.calls.proofs.Told.{layout_counts, same_command}
use Rattle.book.specs.Format.{word, word_bytes}
use Rattle.book.specs.Reading.{found, reading, is_record}
use Rattle.book.specs.Framing.{Stands}
use Rattle.book.specs.Tiling.{Entry, entry_bytes, book_bytes, Tiles, Stops, counted, tallied}
use Rattle.book.specs.declared.types.Tally.{Tally}
use Rattle.book.proofs.Words.{length_word_bytes, word_back}
use Rattle.book.proofs.Commanded.{same_words}
use Rattle.book.proofs.Framing.{stands_found}

-- how many bytes an entry takes
abbrev pub size_of : Entry → ℕ
size_of e = 6 + 2 * length (layout e.command).fields

pub length_entry_bytes : (e : Entry) → length (entry_bytes e) ≡ size_of e
length_entry_bytes e = omega (arith, length_word_bytes (layout e.command).fields)

pub book_bytes_append : (es fs : List Entry) → book_bytes (es ++ fs) ≡ book_bytes es ++ book_bytes fs
book_bytes_append [] fs = refl
book_bytes_append (e ∷ es) fs = ap (λ l. entry_bytes e ++ l) (book_bytes_append es fs) ∙ sym (append_assoc (entry_bytes e) (book_bytes es) (book_bytes fs))

-- the bytes of the entry e stand at the byte at
abbrev pub Entered : List ℕ → ℕ → Entry → Type 0
Entered bs at e = take (size_of e) (drop at bs) ≡ entry_bytes e

entered_stands : (bs : List ℕ) (at : ℕ) (e : Entry) → Entered bs at e → Stands bs at (layout e.command).kind e.answer (layout e.command).fields
entered_stands bs at e is = grind (arith, common_steps, layout_counts e.command, is)

module _ (bs : List ℕ) where
  -- one entry more at the end
  pub tiles_more : (es : List Entry) (at : ℕ) (e : Entry) → Tiles bs 0 es at → Entered bs at e → Tiles bs 0 (es ++ e ∷ []) (at + size_of e)
  tiles_more es at e t is =
      let all : book_bytes (es ++ e ∷ []) ≡ book_bytes es ++ entry_bytes e = book_bytes_append es (e ∷ []) ∙ ap (λ l. book_bytes es ++ l) (append-nil (entry_bytes e)) in
      let rest : drop at bs ≡ entry_bytes e ++ drop (at + size_of e) bs =
      sym (take-append-drop (size_of e) (drop at bs)) ∙ (λ i. is i ++ drop-drop (size_of e) at bs i)
      in
      record {
        bytes =
            t.bytes
            ∙ ap (λ l. book_bytes es ++ l) rest
            ∙ sym (append_assoc (book_bytes es) (entry_bytes e) (drop (at + size_of e) bs))
            ∙ ap (λ l. l ++ drop (at + size_of e) bs) (sym all);
        long = omega (arith, ap length all, length-append (book_bytes es) (entry_bytes e), t.long, length_entry_bytes e);
      }

  -- the first entry stands where the entries begin, and the others tile the rest
  module _ {from to : ℕ} {e : Entry} {es : List Entry} (t : Tiles bs from (e ∷ es) to) where
    rest_is : drop from bs ≡ entry_bytes e ++ (book_bytes es ++ drop to bs)
    rest_is = t.bytes ∙ append_assoc (entry_bytes e) (book_bytes es) (drop to bs)

    pub first_entered : Entered bs from e
    first_entered = grind (arith, common_steps, rest_is, length_entry_bytes e)

    pub others_tile : Tiles bs (from + size_of e) es to
    others_tile = grind (arith, common_steps, rest_is, t.long, length_entry_bytes e, drop-drop (size_of e) from bs)

  -- two entries that stand at one place are the same
  same_entry : (at : ℕ) (e f : Entry) → length bs ≤ 65536 → Entered bs at e → Entered bs at f → e ≡ f
  same_entry at e f small is-e is_f =
      let k = layout e.command in
      let l = layout f.command in
      let both : found k.kind (word_bytes k.fields) ≡ found l.kind (word_bytes l.fields) =
      sym (stands_found (entered_stands bs at e is-e) small) ∙ stands_found (entered_stands bs at f is_f) small
      in
      let words : k.fields ≡ l.fields = same_words k.fields l.fields cc in
      let commands : e.command ≡ f.command = same_command e.command f.command (grind (arith, both, words)) in
      let all : entry_bytes e ≡ entry_bytes f = grind (arith, words, is-e, is_f) in
      let answers : e.answer ≡ f.answer = grind (arith, ap (λ b. word b 4) all, word_back e.answer, word_back f.answer) in
      λ i. record { command = commands i; answer = answers i }

  -- where entries begin a record stands
  entered_record : (at : ℕ) (e : Entry) → length bs ≤ 65536 → Entered bs at e → is_record (reading bs at) ≡ true
  entered_record at e small is = grind (arith, stands_found (entered_stands bs at e is) small)

  -- two lists of entries that tile the book up to places where no record stands are the same
  pub tiles_only : (at : ℕ) (es fs : List Entry) (to end : ℕ) → length bs ≤ 65536 → Tiles bs at es to → is_record (reading bs to) ≡ false → Tiles bs at fs end → is_record (reading bs end) ≡ false → (es ≡ fs) × (to ≡ end)
  tiles_only at [] [] to end small t stop u halt = (refl, omega (arith, t.long, u.long))
  tiles_only at [] (f ∷ fs) to end small t stop u halt =
      let here : to ≡ at = omega (arith, t.long) in
      absurd (both_ways (is_record (reading bs at)) (ap (λ n. is_record (reading bs n)) (sym here) ∙ stop) (entered_record at f small (first_entered u)))
  tiles_only at (e ∷ es) [] to end small t stop u halt =
      let here : end ≡ at = omega (arith, u.long) in
      absurd (both_ways (is_record (reading bs at)) (ap (λ n. is_record (reading bs n)) (sym here) ∙ halt) (entered_record at e small (first_entered t)))
  tiles_only at (e ∷ es) (f ∷ fs) to end small t stop u halt =
      let same : e ≡ f = same_entry at e f small (first_entered t) (first_entered u) in
      let next : Tiles bs (at + size_of e) fs end = subst (λ g. Tiles bs (at + size_of g) fs end) (sym same) (others_tile u) in
      let rest = tiles_only (at + size_of e) es fs to end small (others_tile t) stop next halt in
      ((λ i. same i ∷ rest.0 i), rest.1)

-- entries that take no bytes are none
no_bytes : (es : List Entry) → length (book_bytes es) ≡ 0 → es ≡ []
no_bytes [] e = refl
no_bytes (e ∷ es) none = grind (arith, common_steps, length_entry_bytes e)

-- the entries up to where a book's reading stops, and that place, are told by the book
pub stops_only : (bs : List ℕ) (es fs : List Entry) (to end : ℕ) → Tiles bs 0 es to → Stops bs to → Tiles bs 0 fs end → Stops bs end → (es ≡ fs) × (to ≡ end)
stops_only bs es fs to end t stop u halt =
    ⊎_elim
    (λ large. grind (arith, common_steps, stop.large large, halt.large large, t.long, u.long, no_bytes es, no_bytes fs))
    (λ small. tiles_only bs 0 es fs to end small t stop.no_record u halt.no_record)
    (cases_lt 65536 (length bs))

-- one entry more is one more of its family
pub tallied_more : (t : Tally) (es : List Entry) (e : Entry) → tallied t (es ++ e ∷ []) ≡ counted (family_of e.command) (tallied t es)
tallied_more t [] e = refl
tallied_more t (f ∷ es) e = tallied_more (counted (family_of f.command) t) es e
