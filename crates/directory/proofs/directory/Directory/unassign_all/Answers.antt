use Rattle.std.proofs.Common.{◌≡◌, ℕ, ◌+◌, Bool, false, is_some, Some, None, get_or, set, refl, ap, ◌∙◌, arith, rules}
use Rattle.vocabulary.proofs.Lists.{put_set}
use Rattle.vocabulary.proofs.Puts.{put_same}
use Rattle.vocabulary.proofs.Sweeps.{swept, swept_set, swept_all}
use Rattle.bits.specs.Tables.{put}
use Rattle.directory.specs.State.{with_users, with_assigned}
use Rattle.directory.specs.View.{roles_in, exist_in, assigned_in, state_of}
use Rattle.directory.proofs.Unassigned.{nobody_past}
use Rattle.directory.proofs.directory.Directory.unassign_all.Goals as goal
use Rattle.directory.proofs.directory.Directory.unassign_all.Goals.{in-Some, in_default}

pub loop-roles-preserved : goal.loop-roles-preserved
loop-roles-preserved c =
    let now = c.loop-roles.roles-items in
    let i = c.loop-roles.roles-index in
    let inv = c.loop-roles.invariant in
    -- a user at i who is as v then is without the role, and there is one if there was
    let without : (v : _) → roles_in v ≡ put c.args.role false (assigned_in now i) → assigned_in (set now i v) ≡ swept (λ _. put c.args.role false) (assigned_in c.args.self.now.users) (i + 1) =
    λ v written. swept_set (λ _. put c.args.role false) (assigned_in c.args.self.now.users) roles_in now v None i (omega arith) inv.1 written
    in
    let there : (v : _) → is_some v ≡ exist_in now i → exist_in (set now i v) ≡ exist_in c.args.self.now.users =
    λ v is. put_set is_some now i v None (omega arith) ∙ ap (λ x. put i x (exist_in now)) is ∙ put_same i (exist_in now) ∙ inv.2
    in
    elim c.match-roles.branch [
      | in-Some w ↦ (search rules, rw w.roles-items-is (without (Some w.without.result) (search rules)), rw w.roles-items-is (there (Some w.without.result) (search rules)))
      | in_default w ↦ (search rules, rw w.roles-items-is (without (get_or now i None) (search rules)), rw w.roles-items-is (there (get_or now i None) refl))
    ]

pub returns : goal.returns
returns c =
    let users = c.args.self.now.users in
    let d = state_of c.args.self.now in
    let without : ℕ → (ℕ → Bool) → ℕ → Bool = λ _. put c.args.role false in
    let end : c.loop-roles.roles-index ≡ 256 = omega arith in
    let inv = c.loop-roles.invariant in
    let assigned = inv.1 ∙ ap (swept without (assigned_in users)) end ∙ swept_all without (assigned_in users) 256 (λ u past. nobody_past c.args.role users u (search rules)) in
    ap (λ f. with_users f (with_assigned (assigned_in c.loop-roles.roles-items) d)) inv.2 ∙ ap (λ f. with_assigned f d) assigned
