-- The role is out of every row, and its own row is empty.
use Rattle.std.proofs.Common.{◌≡◌, false, set, ap, ◌∙◌, arith, length-set}
use Rattle.bits.specs.Sets.{members, none}
use Rattle.bits.specs.Tables.{put}
use Rattle.vocabulary.proofs.Sweeps.{swept, swept_all, swept_set}
use Rattle.hierarchy.specs.Inheritance.{pairs_in, no_roles}
use Rattle.hierarchy.specs.Edits.{without_role}
use Rattle.hierarchy.proofs.Rows.{row_written}
use Rattle.hierarchy.proofs.Cutting.{cut_acyclic, cut_bounded, cut_above, role_is_gone}
use Rattle.hierarchy.proofs.Sweeping.{rows_past, out_of_all, without_absent}
use Rattle.hierarchy.proofs.hierarchy.Hierarchy.without_role.Goals as goal
use Rattle.hierarchy.proofs.hierarchy.Hierarchy.without_role.Goals.{After-empty}

left : (c : After-empty) → pairs_in (set c.loop-row.row-items c.args.role c.empty.result) ≡ without_role c.args.role (pairs_in c.args.self.juniors)
left c =
    let old = pairs_in c.args.self.juniors in
    let role = c.args.role in
    let end : c.loop-row.row-index ≡ 64 = omega arith in
    row_written c.loop-row.row-items role c.empty.result none (omega arith) c.empty.ensures.members
    ∙ ap (put role none) (c.loop-row.invariant.1 ∙ ap (swept (λ _. put role false) old) end ∙ swept_all (λ _. put role false) old 64 (rows_past role old c.args.self.inside))
    ∙ out_of_all role old

pub invariant_of-result : goal.invariant_of-result
invariant_of-result c =
    let h = c.args.self in
    let gone = role_is_gone (pairs_in h.juniors) c.args.role _ (left c) in
    record { acyclic = cut_acyclic (pairs_in h.juniors) _ _ gone h.acyclic; inside = cut_bounded (pairs_in h.juniors) _ _ gone h.inside }

pub loop-row-preserved : goal.loop-row-preserved
loop-row-preserved c =
    let rows = c.loop-row.row-items in
    let n = c.loop-row.row-index in (
      length-set rows n c.without.result ∙ c.loop-row.invariant.0,
      swept_set (λ _. put c.args.role false) (pairs_in c.args.self.juniors) members rows c.without.result no_roles n (omega arith) c.loop-row.invariant.1 c.without.ensures.members,
    )

pub returns-then-role-ge64 : goal.returns-then-role-ge64
returns-then-role-ge64 c =
    let pairs = pairs_in c.args.self.juniors in
    let same = without_absent c.args.role pairs c.args.self.inside c.if-role-ge64.true in
    record { left = same; above = cut_above pairs _ _ (role_is_gone pairs c.args.role pairs same) }

pub returns : goal.returns
returns c =
    let before = (goal.at.returns c).After-empty in
    let pairs = pairs_in c.args.self.juniors in
    record { left = left before; above = cut_above pairs _ _ (role_is_gone pairs c.args.role _ (left before)) }
