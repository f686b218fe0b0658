use Rattle.std.proofs.Common.{◌≡◌, ℕ, Bool, true, ltb, sym, ap, ◌∙◌, arith}
use Rattle.std.proofs.lemmas.Bool.{lt-ltb, cond-true}
use Rattle.bits.specs.Tables.{put}
use Rattle.vocabulary.specs.Tables.{so_far}
use Rattle.vocabulary.proofs.Marks.{marks_yes, marks_no}
use Rattle.bits.specs.Sets.{members}
use Rattle.directory.specs.Sessions.{is_meant, sessions_that}
use Rattle.directory.specs.View.{state_of}
use Rattle.directory.proofs.directory.Directory.sessions_that.Goals as goal
use Rattle.directory.proofs.directory.Directory.sessions_that.Goals.{then-is_meant, else-is_meant}

pub loop-number-preserved : goal.loop-number-preserved
loop-number-preserved c =
    let d = state_of c.args.self.now in
    let meant : ℕ → Bool = λ s. is_meant d c.args.which (d.session s) in
    let i = c.loop-number.number in
    let told : c.is_meant.result ≡ meant i = c.is_meant.ensures in
    let inside : ltb i 64 ≡ true = lt-ltb i 64 (omega arith) in
    elim c.if-is_meant.branch [
      | then-is_meant w ↦
          ap members w.found-is
          ∙ w.with-found.ensures.members
          ∙ cond-true (ltb i 64) _ _ inside
          ∙ ap (put i true) c.loop-number.invariant
          ∙ marks_yes meant i (sym told ∙ w.if-is_meant.true)
      | else-is_meant w ↦ ap members w.found-is ∙ c.loop-number.invariant ∙ marks_no meant i (sym told ∙ w.if-is_meant.false)
    ]

pub returns : goal.returns
unfolding sessions_that
returns c =
    let d = state_of c.args.self.now in
    let end : c.loop-number.number ≡ 64 = omega arith in
    c.loop-number.invariant ∙ ap (so_far (λ s. is_meant d c.args.which (d.session s))) end
