use Rattle.std.proofs.Common.{◌≡◌, false, sym, ap, ◌∙◌, rules}
use Rattle.bits.specs.Tables.{put}
use Rattle.hierarchy.specs.Edits.{without_role}
use Rattle.directory.specs.State.{with_roles, with_assigned, with_inherits}
use Rattle.directory.specs.Sessions.{sessions_that, reviewed}
use Rattle.directory.specs.Answers.{delete_role_answer}
use Rattle.directory.specs.View.{state_of}
use Rattle.directory.specs.declared.session.Which.TheVariants.{Stale}
use Rattle.directory.proofs.directory.Directory.delete_role.Goals as goal

pub returns : goal.returns
returns c =
    let d = state_of c.args.self.now in
    let r = c.args.role in
    let unassigned = state_of c.unassign_all.new.self in
    let gone =
    ap (λ p. with_inherits p unassigned) c.without_role-self.ensures.left
    ∙ ap (λ e. with_inherits (without_role r e.inherits) e)
    (c.unassign_all.ensures ∙ ap (λ f. with_assigned (λ u. put r false (d.assigned u)) (with_roles f d)) c.without-self.ensures.members)
    in
    let accepted : delete_role_answer d r ≡ 0 = search rules in
    record {
      answer = sym accepted;
      ended = rw accepted (c.review.ensures.ended ∙ ap (λ e. sessions_that e Stale) gone);
      left = rw accepted (c.review.ensures.left ∙ ap reviewed gone);
    }
