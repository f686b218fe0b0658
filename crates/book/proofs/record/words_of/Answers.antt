use Rattle.std.proofs.Common.{◌≡◌, ℕ, ◌*◌, ◌<◌, get_or, ap, ◌∙◌, arith, rules}
use Rattle.book.specs.Format.{word, word_bytes}
use Rattle.book.proofs.Words.{first_words, bytes_of_words}
use Rattle.book.proofs.record.words_of.Goals as goal

pub returns : goal.returns
returns c =
    let bs = c.args.bytes.now in
    let each : (i : ℕ) → i < 4 → get_or c.from_fn.result i 0 ≡ word bs (2 * i) = search rules in
    λ n few long. ap word_bytes (first_words n bs c.from_fn.result few c.from_fn.ensures.items.long each) ∙ bytes_of_words n bs long (λ i. omega (arith, c.type_inv.bytes i))
