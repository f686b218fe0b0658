use Rattle.std.proofs.Common.{◌+◌, ◌-◌, ◌≤◌, length, sym, ap, ◌∙◌, subst, arith}
use borrow.Rule.Slice.PartMut.{put_mid}
use Rattle.std.proofs.lemmas.Bool.{cond-true}
use Rattle.book.specs.Format.{answered}
use Rattle.book.specs.Reading.{is_record}
use Rattle.book.specs.Numbers.{answer_word}
use Rattle.book.specs.Tiling.{AnswersAlone}
use Rattle.book.proofs.Alone.{answers_alone}
use Rattle.book.proofs.Lent.{answered_part}
use Rattle.book.proofs.answer.answer_at.Goals as goal

pub returns : goal.returns
returns c =
    let bs = c.args.book.now in
    let at = c.args.at in
    let size = at + c.size-size.result - at in
    let filed = rw c.in-Ok-Some.field-0-is at c.in-Ok-Some.ensures.filed in
    let is = ap is_record (rw c.in-Ok-Some.field-0-is at c.in-Ok-Some.ensures.reads) in
    let inside : at + size ≤ length bs = omega (arith, c.size-size.ensures, filed.inside) in
    let after =
    ap (put_mid at size bs) c.put_answer.ensures
    ∙ answered_part at size bs inside c.word.result (omega (arith, c.size-size.ensures))
    ∙ ap (answered bs at) c.word.ensures
    in
    record {
      value = is;
      after = after ∙ sym (cond-true _ _ _ (sym is));
      alone = λ _. subst (λ cs. AnswersAlone bs cs at (answer_word c.args.outcome)) (sym after) (answers_alone bs at _);
    }
