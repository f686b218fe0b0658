use Rattle.std.proofs.Common.{◌≡◌, length, ap, ◌∙◌, rules}
use Rattle.records.specs.Sets.{records, room}
use Rattle.register.specs.ListMeaning.{entries_of, share, list_meaning}
use Rattle.account.specs.Steps.{answered, numbers, nothing}
use Rattle.account.proofs.makes.run_list.Goals as goal

pub returns : goal.returns
unfolding entries_of
returns c =
    let made = c.in_ok-list.ensures in
    let s = c.in_ok-list.list in
    let empty : list_meaning (room s.set) (records s.set) ≡ nothing (share (length c.args.places.now)) = λ i. list_meaning (made.2 i) (made.1 i) in
    record {
      answers = (made.0, c.run.ensures.answers ∙ ap (λ m. answered m c.args.entries.now) empty);
      numbers = c.run.ensures.numbers ∙ ap (λ m. numbers m c.args.entries.now) empty;
      refused = search rules;
    }
