use Rattle.std.proofs.Common.{◌≡◌, false, ap, ◌∙◌, rules}
use Rattle.directory.specs.State.{DirectoryState}
use Rattle.directory.specs.Sessions.{sessions_that, reviewed}
use Rattle.directory.specs.Answers.{deassign_answer}
use Rattle.directory.specs.Effects.{put_assigned}
use Rattle.directory.specs.View.{state_of}
use Rattle.directory.specs.declared.session.Which.TheVariants.{Stale}
use Rattle.directory.proofs.directory.Directory.deassign.Goals as goal
use Rattle.directory.proofs.directory.Directory.deassign.Goals.{After-review}

-- what holds of the directory that is left holds of it by its name in the rules
of_what_is_left : {X : Type 0} {d e : DirectoryState} (f : DirectoryState → X) (x : X) → e ≡ d → x ≡ f e → x ≡ f d
of_what_is_left f x gone is = is ∙ ap f gone

pub returns-clause-ended : goal.returns-clause-ended
returns-clause-ended c =
    let d = state_of c.args.self.now in
    let accepted : deassign_answer d c.args.user c.args.role ≡ 0 = search rules in
    let gone : state_of c.put_user.new.self ≡ put_assigned c.args.user c.args.role false d = search rules in
    rw accepted (of_what_is_left (λ e. sessions_that e Stale) _ gone (search rules))

pub returns-clause-left : goal.returns-clause-left
returns-clause-left c =
    let d = state_of c.args.self.now in
    let accepted : deassign_answer d c.args.user c.args.role ≡ 0 = search rules in
    let gone : state_of c.put_user.new.self ≡ put_assigned c.args.user c.args.role false d = search rules in
    rw accepted (of_what_is_left reviewed _ gone (search rules))
