use Rattle.std.proofs.Common.{◌≡◌, sym, ap, ◌∙◌}
use Rattle.register.specs.Answers.{give_answer, after_withdraw, withdraw_answer}
use Rattle.register_laws.proofs.TakenBack.{withdrawn, taken_back}
use Rattle.register_laws.proofs.undone.give_then_withdraw.Goals as goal

pub returns : goal.returns
returns g c =
    let m = g.R.ConsentRegister.meaning c.args.register.now in
    let o = c.args.consent.owner in
    let q = c.args.consent.purpose in
    let t = c.args.consent.data_type in
    let w = c.withdraw.ensures in
    let left = c.give.ensures.left in
    let given : give_answer m o q t ≡ 0 = sym c.in_ok-give.ensures.answer in
    record {
      answer = w.answer ∙ ap (λ n. withdraw_answer n o q t) left ∙ withdrawn m o q t given ∙ sym given;
      left = w.left ∙ ap (λ n. after_withdraw n o q t) left ∙ taken_back m o q t given;
    }
