-- From the words of a record to the command that it asks for.
use Rattle.std.proofs.Common.{◌≡◌, ℕ, List, [], ◌∷◌, Some, Option, sym, refl, ◌∙◌, arith}
use Rattle.calls.specs.Layout.{layout, laid}
use Rattle.calls.specs.declared.command.Command.{Command}
use Rattle.book.specs.Format.{word_bytes}
use Rattle.book.specs.Handed.{kind_of, bytes_of}
use Rattle.book.specs.Commanded.{Asks}
use Rattle.book.specs.declared.types.Record.{Record}
use Rattle.book.proofs.Words.{word_back}

-- words that have the same bytes are the same
pub same_words : (vs ws : List ℕ) → word_bytes vs ≡ word_bytes ws → vs ≡ ws
same_words [] [] e = refl
same_words [] (w ∷ ws) e = cc
same_words (v ∷ vs) [] e = cc
same_words (v ∷ vs) (w ∷ ws) e = grind (arith, word_back v, word_back w, same_words vs ws)

-- the command of these words is the only one that the record asks for
pub only_asked : (x : Record) (k : ℕ) (ws : List ℕ) → k ≡ kind_of x → word_bytes ws ≡ bytes_of x → {o : Option Command} → ((c : Command) → layout c ≡ laid k ws → o ≡ Some c) → (c : Command) → Asks x c → o ≡ Some c
only_asked x k ws kind fields only c a = only c (λ i. laid ((a.kind ∙ sym kind) i) (same_words (layout c).fields ws (a.fields ∙ sym fields) i))
