use Rattle.std.proofs.Common.{◌≡◌, ◌+◌, None, sym, ap, ◌∙◌, subst, get_or, length, arith, length-set, rules}
use Rattle.vocabulary.proofs.Sweeps.{swept, swept_set, swept_all}
use Rattle.bits.specs.Sets.{members}
use Rattle.directory.specs.State.{with_sessions}
use Rattle.directory.specs.Sessions.{ended}
use Rattle.directory.specs.View.{session_state, sessions_in, state_of}
use Rattle.directory.proofs.Endings.{closed_if, closed_if_meant, closed_if_not_meant, closed_past}
use Rattle.directory.proofs.directory.Directory.end_sessions.Goals as goal
use Rattle.directory.proofs.directory.Directory.end_sessions.Goals.{then-contains, else-contains}

pub loop-number-preserved : goal.loop-number-preserved
loop-number-preserved c =
    let which = members c.args.which in
    let old = sessions_in c.args.self.now.sessions in
    let now = c.loop-number.session-items in
    let i = c.loop-number.number in
    let inv = c.loop-number.invariant in
    elim c.if-contains.branch [
      | then-contains w ↦ subst (λ xs. (length xs ≡ 64) × (sessions_in xs ≡ swept (closed_if which) old (i + 1))) (sym w.session-items-is) (
        length-set now i None ∙ inv.0,
        swept_set (closed_if which) old session_state now None None i (omega arith) inv.1 (closed_if_meant which i _ (sym c.contains.ensures ∙ w.if-contains.true)),
      )
      | else-contains w ↦ subst (λ xs. (length xs ≡ 64) × (sessions_in xs ≡ swept (closed_if which) old (i + 1))) (sym w.session-items-is) (
        length-set now i (get_or now i None) ∙ inv.0,
        swept_set (closed_if which) old session_state now (get_or now i None) None i (omega arith) inv.1 (sym (closed_if_not_meant which i _ (sym c.contains.ensures ∙ w.if-contains.false))),
      )
    ]

pub returns : goal.returns
unfolding ended
returns c =
    let which = members c.args.which in
    let old = sessions_in c.args.self.now.sessions in
    let end : c.loop-number.number ≡ 64 = omega arith in
    ap (λ f. with_sessions f (state_of c.args.self.now))
    (c.loop-number.invariant.1 ∙ ap (swept (closed_if which) old) end ∙ swept_all (closed_if which) old 64 (λ k past. closed_past which c.args.self.now.sessions k (search rules)))
