use Rattle.std.proofs.Common.{◌≡◌, ◌+◌, ◌<◌, [], ◌∷◌, length, get_or, set, Some, sym, ap, ◌∙◌, rules}
use Rattle.std.proofs.lemmas.Result.{IfOk-weaker}
use Rattle.ledger.specs.Answers.{serial_answer}
use Rattle.ledger.specs.Places.{usage_in}
use Rattle.ledger.specs.States.{LedgerState, drawn, draw_questions}
use Rattle.ledger.specs.Table.{table_of}
use Rattle.ledger.proofs.Tables.{table_at, table_new, table_answer, table_left}
use Rattle.ledger.proofs.ledgers.Ledgers.draw_serial.Goals as goal

pub returns : goal.returns
returns c =
    let ls = c.args.self.now.all in
    let o = c.args.owner in
    let u = c.args.usage in
    let was = c.index-self-owner.result in
    let in_all : o < length ls = search rules in
    let lt = c.if-owner-ge128.false in
    record {
      answer = table_answer ls o was in_all lt draw_questions (serial_answer c.draw.result) (λ s. (s.issued + 1) ∷ []) [] c.draw.ensures.answer;
      left = table_left ls o was in_all lt draw_questions c.draw.new.self (drawn u) c.draw.ensures.left;
      opened =
          IfOk-weaker c.draw.result (λ n. usage_in c.draw.new.self.places n ≡ Some u) (λ n. usage_in (table_of (set ls o c.draw.new.self) o).places n ≡ Some u)
          (λ n e. ap (λ (s : LedgerState). usage_in s.places n) (table_new ls o was in_all c.draw.new.self) ∙ e)
          c.draw.ensures.opened;
      serial =
          IfOk-weaker c.draw.result (λ n. (n ≡ (get_or ls o was).issued + 1) × (n ≡ c.draw.new.self.issued)) (λ n. (n ≡ (table_of ls o).issued + 1) × (n ≡ (table_of (set ls o c.draw.new.self) o).issued))
          (λ n e. (e.0 ∙ ap (λ (s : LedgerState). s.issued + 1) (table_at ls o was in_all), e.1 ∙ ap (λ (s : LedgerState). s.issued) (sym (table_new ls o was in_all c.draw.new.self))))
          c.draw.ensures.serial;
    }
